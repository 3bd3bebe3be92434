-- What a deferred book means.
use Rattle.std.specs.Prelude.{List, ℕ}
use Rattle.capacity.specs.Meaning.{Meaning}
use Rattle.capacity.specs.Noted.{caught_up}
use Rattle.slot_book.specs.Slot.{slot_meaning}
use Rattle.deferred_book.specs.declared.deferred.DeferredBook.{DeferredBook}
use Rattle.deferred_book.specs.declared.notes.Notes.{Notes}
use Rattle.deferred_book.specs.Noting.{served_of}

-- What each boundary got by the notes.
abbrev pub served_by : Notes → List ℕ
served_by notes = served_of notes.slots notes.noted

-- What a book that means m would mean once the noted slots have passed.
abbrev pub after_notes : Meaning → Notes → Meaning
after_notes m notes = caught_up m notes.slots (served_by notes)

-- What the settled book would mean once the noted slots have passed.
abbrev pub deferred_meaning : DeferredBook → Meaning
deferred_meaning b = after_notes (slot_meaning b.settled) b.notes
