use Rattle.std.proofs.Common.{arith}
use Rattle.std.proofs.lemmas.Bool.Decides.{nat_tests}
use Rattle.capacity.proofs.Keeps.{rises_with_boundary, short_with_boundary}
use Rattle.plain_book.proofs.lines.PlainBookBook.cut.Goals as goal

pub invariant_of-self-clause-ordered : goal.invariant_of-self-clause-ordered
invariant_of-self-clause-ordered c = grind (arith, nat_tests, rises_with_boundary)

pub invariant_of-self-clause-bounded : goal.invariant_of-self-clause-bounded
invariant_of-self-clause-bounded c = grind (arith, nat_tests, short_with_boundary)
