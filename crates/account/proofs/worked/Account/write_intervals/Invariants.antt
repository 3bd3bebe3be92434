use Rattle.std.proofs.Common.{◌≡◌}
use Rattle.account.proofs.worked.Account.write_intervals.Given as goal

abbrev pub invariant-loop-interval : goal.invariant-loop-interval
invariant-loop-interval g l = g.B.Book.meaning l.self.book ≡ g.B.Book.meaning l.initial.self.book
