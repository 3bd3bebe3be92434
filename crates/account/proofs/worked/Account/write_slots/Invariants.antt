use Rattle.std.proofs.Common.{◌≡◌, drop}
use Rattle.capacity.specs.Filled.{ran}
use Rattle.account.proofs.worked.Account.write_slots.Given as goal

-- the owners that are left lead to the same book
abbrev pub invariant-loop-owner : goal.invariant-loop-owner
invariant-loop-owner g l =
    ran (g.B.Book.meaning l.self.book) (drop l.owner-index l.owners) ≡ ran (g.B.Book.meaning l.initial.self.book) l.owners
