use Rattle.std.proofs.Common.{rules, tests}
use Rattle.deferred_book.proofs.Held.{owing_kept}
use Rattle.deferred_book.proofs.deferred.DeferredBook.owner.Goals as goal

pub returns : goal.returns
returns c =
    rw c.ok_or.ensures.value
    (owing_kept c.args.self.now c.args.deadline c.place.result c.filter.result _ c.place.ensures
    (λ k t q. search (rules, tests)) (rw c.ok.ensures.value at c.filter.ensures))
