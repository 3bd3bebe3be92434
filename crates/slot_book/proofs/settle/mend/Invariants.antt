use Rattle.slot_book.proofs.Mending.{Mending}
use Rattle.slot_book.proofs.settle.mend.Given as goal

abbrev pub invariant-loop-place : goal.invariant-loop-place
invariant-loop-place l =
    Mending l.from l.to l.initial.spans l.spans l.served l.place l.before l.after
