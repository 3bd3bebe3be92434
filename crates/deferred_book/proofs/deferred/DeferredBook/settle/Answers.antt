use Rattle.slot_book.specs.Slot.{slot_meaning}
use Rattle.deferred_book.proofs.Catching.{catches_up}
use Rattle.deferred_book.proofs.Facts.{book_ordered}
use Rattle.deferred_book.proofs.deferred.DeferredBook.settle.Goals as goal

pub unwrap-requires : goal.unwrap-requires
unwrap-requires c =
    let book = c.args.self.now in
    catches_up (slot_meaning book.settled) book.notes.slots c.catch_up.result (book_ordered book.settled) book.within
    c.catch_up.ensures.answer
