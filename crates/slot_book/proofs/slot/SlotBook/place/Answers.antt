use Rattle.std.proofs.Common.{pos, vec_items, sym, rules}
use Rattle.std.proofs.lemmas.List.Sorted.{answers_always}
use Rattle.capacity.proofs.Searching.{found}
use Rattle.slot_book.specs.Slot.{slot_boundaries}
use Rattle.slot_book.proofs.Books.{length_dues, end_told}
use Rattle.slot_book.proofs.slot.SlotBook.place.Goals as goal

-- the closure gives a record's end, and the slice is the book's records
pub returns : goal.returns
returns c =
    let b = c.args.self.now in
    let xs = vec_items b.spans in
    let lent = c.deref.ensures.value in
    let facts = c.binary_search_by_key.ensures in
    let by_end = facts.position (λ x. x.end) (search (rules, answers_always)) in
    found (λ x. x.end) (record { end = 0; spare = pos 0 }) xs b.time.clock (slot_boundaries b) b.time.horizon c.args.deadline
    b.ordered (sym (length_dues b.time.clock xs)) (λ k lt. sym (end_told b.time.clock xs k)) c.binary_search_by_key.result (rw lent at facts.bound)
    (rw lent at by_end)
