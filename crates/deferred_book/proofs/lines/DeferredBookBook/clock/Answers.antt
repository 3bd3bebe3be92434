use Rattle.std.proofs.Common.{arith}
use Rattle.deferred_book.proofs.Held.{clock_within}
use Rattle.deferred_book.proofs.lines.DeferredBookBook.clock.Goals as goal

pub overflow_add-result : goal.overflow_add-result
overflow_add-result c = omega (arith, clock_within c.args.self.now)
