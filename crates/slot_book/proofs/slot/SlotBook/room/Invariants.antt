use Rattle.slot_book.proofs.Rooms.{Summed}
use Rattle.slot_book.proofs.slot.SlotBook.room.Given as goal

abbrev pub invariant-loop-span : goal.invariant-loop-span
invariant-loop-span l = Summed l.self l.deadline l.span-index l.start l.room
