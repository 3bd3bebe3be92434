use Rattle.std.proofs.Common.{suc}
use Rattle.slot_book.proofs.Walking.{Walking}
use Rattle.slot_book.proofs.walk.carry.Given as goal

abbrev pub invariant-loop-place : goal.invariant-loop-place
invariant-loop-place l = Walking l.initial.spans l.spans l.from (suc l.place) l.initial.change l.change
