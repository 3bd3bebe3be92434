use Rattle.std.proofs.Common.{of_calls}
use Rattle.slot_book.proofs.Books.{lacking_told}
use Rattle.slot_book.proofs.slot.SlotBook.lacking.Goals as goal

pub returns : goal.returns
returns c =
    lacking_told c.args.self.now _ _ _ _ _ c.deref.ensures.value c.get.ensures.lookup.3 c.map_or.ensures
    (λ x called. search of_calls)
