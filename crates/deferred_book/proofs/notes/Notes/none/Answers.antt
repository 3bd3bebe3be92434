use Rattle.terms.specs.Limits.{most_boundaries}
use Rattle.deferred_book.proofs.Served.{none_counted}
use Rattle.deferred_book.proofs.notes.Notes.none.Goals as goal

pub invariant_of-result-clause-counted : goal.invariant_of-result-clause-counted
invariant_of-result-clause-counted c = none_counted most_boundaries
