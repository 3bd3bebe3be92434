use Rattle.std.proofs.Common.{◌∙◌}
use Rattle.account.proofs.Ends.{day_ends}
use Rattle.account.proofs.worked.Account.of.Goals as goal

pub returns : goal.returns
returns g c =
    day_ends (g.B.Book.meaning c.fill.new.book) (g.B.Book.meaning c.write_headroom.new.self.book)
    (g.B.Book.meaning c.write_orders.new.self.book) (g.B.Book.meaning c.write_slots.new.self.book)
    (g.B.Book.meaning c.write_intervals-2.new.self.book) c.in_ok-fill.ensures
    (c.in_ok-write_headroom.ensures ∙ c.in_ok-write_intervals.ensures)
    c.in_ok-write_orders.ensures c.in_ok-write_slots.ensures
    c.in_ok-write_intervals-2.ensures
