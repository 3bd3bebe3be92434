use Rattle.std.proofs.Common.{vec_items, arith, rules}
use Rattle.capacity.specs.Places.{Stands}
use Rattle.plain_book.proofs.Writes.{rises-set, short-set_within, due_le}
use Rattle.plain_book.proofs.Headroom.{headroom_le}
use Rattle.plain_book.proofs.lines.PlainBookBook.owe.Goals as goal

pub overflow_add-index_mut : goal.overflow_add-index_mut
overflow_add-index_mut c =
    let book = c.args.self.now in
    let at : Stands (vec_items book.boundaries) c.args.deadline c.in_ok-place.place = search rules in
    let due = due_le _ _ _ _ _ book.ordered book.bounded at.within c.index_mut.ensures.value in
    grind (arith, due, headroom_le)

pub invariant_of-self-clause-ordered : goal.invariant_of-self-clause-ordered
invariant_of-self-clause-ordered c = grind (arith, rises-set)

pub invariant_of-self-clause-bounded : goal.invariant_of-self-clause-bounded
invariant_of-self-clause-bounded c =
    let book = c.args.self.now in
    short-set_within _ _ _ c.args.deadline _ _ _ book.ordered book.bounded (search rules) c.index_mut.ensures.value (omega arith)
