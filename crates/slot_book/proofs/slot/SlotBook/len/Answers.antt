use Rattle.std.proofs.Common.{vec_items, arith}
use Rattle.slot_book.proofs.Books.{length_dues}
use Rattle.slot_book.proofs.slot.SlotBook.len.Goals as goal

pub returns : goal.returns
returns c =
    let all = length_dues c.args.self.now.time.clock (vec_items c.args.self.now.spans) in
    record { told = omega (arith, all); kept = c.len.ensures }
