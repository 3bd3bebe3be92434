-- Settling keeps the meaning, and noting a slot gives it to its owner.
use Rattle.std.proofs.Common.{◌≡◌, ℕ, ◌+◌, Option, ◌∙◌, arith}
use Rattle.capacity.specs.Meaning.{Meaning}
use Rattle.capacity.specs.Noted.{caught_up}
use Rattle.slot_book.specs.declared.slot.SlotBook.{SlotBook}
use Rattle.slot_book.specs.Slot.{slot_meaning}
use Rattle.terms.specs.Limits.{most_boundaries}
use Rattle.deferred_book.specs.declared.notes.Notes.{Notes}
use Rattle.deferred_book.specs.Noting.{noting, Unnoted}
use Rattle.deferred_book.specs.Deferred.{served_by, after_notes}
use Rattle.deferred_book.proofs.Catching.{caught_up_none}
use Rattle.deferred_book.proofs.Facts.{book_ordered}
use Rattle.deferred_book.proofs.Served.{served_none, served_more, one_more}

-- where no slot is noted, a book means what it meant when it was settled
pub unnoted_meaning :
    (settled : SlotBook) (notes : Notes) → Unnoted notes → after_notes (slot_meaning settled) notes ≡ slot_meaning settled
unnoted_meaning settled notes none =
    let m = slot_meaning settled in
    let nobody = served_none most_boundaries in
    let same = caught_up_none m most_boundaries (book_ordered settled) in
    grind arith

-- Settling keeps the meaning: a book that has caught up with its notes, and has none any more, means what it meant with them.
pub settling_keeps_the_meaning :
    (before settled : SlotBook) (notes none : Notes) → slot_meaning settled ≡ after_notes (slot_meaning before) notes →
    Unnoted none →
    after_notes (slot_meaning settled) none ≡ after_notes (slot_meaning before) notes
settling_keeps_the_meaning before settled notes none caught empty = unnoted_meaning settled none empty ∙ caught

-- with one slot more noted, its owner has got one more
pub noted_meaning :
    (m : Meaning) (before notes : Notes) (owner : Option ℕ) → notes.slots ≡ before.slots + 1 →
    notes.noted ≡ noting before.noted owner →
    after_notes m notes ≡ caught_up m (before.slots + 1) (one_more (served_by before) owner)
noted_meaning m before notes owner slots noted =
    let more = served_more before.slots before.noted owner (before.counted 0) in
    grind arith
