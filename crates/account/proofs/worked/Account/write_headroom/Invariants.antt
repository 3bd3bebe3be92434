use Rattle.std.proofs.Common.{◌≡◌}
use Rattle.account.proofs.worked.Account.write_headroom.Given as goal

abbrev pub invariant-loop-slot : goal.invariant-loop-slot
invariant-loop-slot g l = g.B.Book.meaning l.self.book ≡ g.B.Book.meaning l.initial.self.book
