use Rattle.std.proofs.Common.{arith}
use Rattle.deferred_book.proofs.Held.{due_is}
use Rattle.deferred_book.proofs.deferred.DeferredBook.due.Goals as goal

pub returns : goal.returns
returns c = grind (arith, due_is)
