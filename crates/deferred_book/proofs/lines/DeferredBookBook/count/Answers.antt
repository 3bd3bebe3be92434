use Rattle.std.proofs.Common.{arith}
use Rattle.deferred_book.proofs.Held.{count_is}
use Rattle.deferred_book.proofs.lines.DeferredBookBook.count.Goals as goal

pub returns : goal.returns
returns c = grind (arith, count_is)
