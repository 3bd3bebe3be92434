use Rattle.std.proofs.Common.{arith}
use Rattle.plain_book.proofs.Writes.{rises-set, short-set_less}
use Rattle.plain_book.proofs.lines.PlainBookBook.forgive.Goals as goal

pub invariant_of-self-clause-ordered : goal.invariant_of-self-clause-ordered
invariant_of-self-clause-ordered c = grind (arith, rises-set)

pub invariant_of-self-clause-bounded : goal.invariant_of-self-clause-bounded
invariant_of-self-clause-bounded c = short-set_less _ _ _ _ _ _ c.index_mut.ensures.value (omega arith) c.args.self.now.bounded
