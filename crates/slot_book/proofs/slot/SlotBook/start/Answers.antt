use Rattle.std.proofs.Common.{◌≤◌, length, vec_items, sym, ap, ◌∙◌, rules}
use Rattle.slot_book.specs.Mend.{start_of}
use Rattle.slot_book.proofs.Books.{start_told}
use Rattle.slot_book.proofs.slot.SlotBook.start.Goals as goal

pub returns : goal.returns
returns c =
    let book = c.args.self.now in
    let within : c.args.place ≤ length (vec_items book.spans) = search rules in
    c.start_of.ensures ∙ ap (λ xs. start_of book.time.clock xs c.args.place) c.deref.ensures.value
    ∙ sym (start_told book.time.clock book.time.clock (vec_items book.spans) c.args.place within)
