use Rattle.std.proofs.Common.{◌≡◌, drop}
use Rattle.capacity.specs.Calls.{cleared}
use Rattle.capacity.specs.Filled.{filled}
use Rattle.account.proofs.worked.fill.Given as goal

-- what is left to enter leads to the filled book
abbrev pub invariant-loop-end : goal.invariant-loop-end
invariant-loop-end g l =
    filled (g.B.Book.meaning l.book) (drop l.end-index l.demands) ≡ filled (cleared l.horizon) l.demands
