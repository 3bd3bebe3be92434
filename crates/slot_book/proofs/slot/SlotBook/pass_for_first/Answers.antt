use Rattle.std.proofs.Common.{rules}
use Rattle.slot_book.proofs.Writes.{first_later, passes_first}
use Rattle.slot_book.proofs.slot.SlotBook.pass_for_first.Goals as goal

pub invariant_of-self : goal.invariant_of-self
invariant_of-self c = record { ordered = first_later c.args.self.now c.requires; ranged = c.args.self.now.time.ranged }

pub invariant_of-self-2 : goal.invariant_of-self-2
invariant_of-self-2 c =
    let k = (passes_first c.args.self.now _ c.requires c.drop_ended.ensures.items).keeps in
    record { fair = k.fair; ordered = k.ordered; bounded = k.bounded; few = search rules; room = search rules }

pub returns : goal.returns
returns c = (passes_first c.args.self.now _ c.requires c.drop_ended.ensures.items).means
