-- What is known of every slot-by-slot book.
use Rattle.std.proofs.Common.{◌≤◌, length}
use Rattle.capacity.specs.Slack.{Ordered}
use Rattle.slot_book.specs.declared.slot.SlotBook.{SlotBook}
use Rattle.slot_book.specs.Slot.{slot_meaning}
use Rattle.slot_book.proofs.Books.{slot_few}
use Rattle.terms.specs.Limits.{longest_horizon, most_boundaries}

pub book_ordered : (s : SlotBook) → Ordered (slot_meaning s)
book_ordered s = s.ordered

pub book_ranged : (s : SlotBook) → (slot_meaning s).horizon ≤ longest_horizon
book_ranged s = s.time.ranged

pub book_few : (s : SlotBook) → length (slot_meaning s).boundaries ≤ most_boundaries
book_few s = slot_few s
