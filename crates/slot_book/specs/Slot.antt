-- What a slot-by-slot book means.
use Rattle.std.specs.Prelude.{List, vec_items}
use Rattle.capacity.specs.declared.boundary.Boundary.{Boundary}
use Rattle.capacity.specs.Meaning.{Meaning}
use Rattle.slot_book.specs.declared.slot.SlotBook.{SlotBook}
use Rattle.slot_book.specs.Spans.{dues_of}

-- The demands that its spares tell.
abbrev pub slot_boundaries : SlotBook → List Boundary
slot_boundaries b = dues_of b.time.clock (vec_items b.spans)

abbrev pub slot_meaning : SlotBook → Meaning
slot_meaning b = record { clock = b.time.clock; horizon = b.time.horizon; boundaries = slot_boundaries b }
