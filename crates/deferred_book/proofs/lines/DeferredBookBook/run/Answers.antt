use Rattle.std.proofs.Common.{arith, rules}
use Rattle.deferred_book.specs.Deferred.{deferred_meaning}
use Rattle.deferred_book.proofs.Held.{clock_within, few_noted, owner_found, owner_below, noted_run}
use Rattle.deferred_book.proofs.lines.DeferredBookBook.run.Goals as goal

pub overflow_add-clock : goal.overflow_add-clock
overflow_add-clock c = omega (arith, clock_within c.args.self.now)

pub note-requires-clause-few : goal.note-requires-clause-few
note-requires-clause-few c = few_noted c.args.self.now (omega (arith, c.first_end.ensures))

pub note-requires-clause-place : goal.note-requires-clause-place
note-requires-clause-place c =
    owner_below c.args.self.now c.args.owner c.in_ok-place.place
    (owner_found (deferred_meaning c.args.self.now) c.args.owner c.map.result c.in_ok-place.place _ (λ d r q. search rules)
    c.map.ensures.cases (search rules))

pub returns : goal.returns
returns c =
    let owned =
    owner_found (deferred_meaning c.args.self.now) c.args.owner c.map.result c.in_ok-place.place _ (λ d r q. search rules)
    c.map.ensures.cases (search rules)
    in
    let done =
    noted_run c.args.self.now c.note.new.self c.args.owner c.in_ok-place.place (omega (arith, c.first_end.ensures)) owned
    c.note.ensures.slots c.note.ensures.noted
    in
    record { answer = done.0; book = done.1 }
