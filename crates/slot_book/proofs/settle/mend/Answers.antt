use Rattle.std.proofs.Common.{◌-◌, refl, ap, ◌∙◌, arith}
use Rattle.std.proofs.lemmas.Int.{ints}
use Rattle.capacity.specs.Intervals.{boundary_at}
use Rattle.slot_book.specs.Spans.{dues_of}
use Rattle.slot_book.proofs.Mending.{Turn, mending_begins, turn_before, left_is, mends_before, mending_ends}
use Rattle.slot_book.proofs.settle.mend.Goals.{After-index-spans-place}
use Rattle.slot_book.proofs.settle.mend.Goals as goal

at :
    (c : After-index-spans-place) →
    Turn c.args.from c.args.to c.loop-place.spans (c.loop-place.place - 1) c.loop-place.before
    (boundary_at (dues_of c.args.from c.args.spans.now) (c.loop-place.place - 1)).due c.index-spans-place.result
at c =
    turn_before _ _ _ _ _ _ _ _ _ c.loop-place.invariant c.loop-place-test.true c.index-spans-place.is c.requires.records
    c.requires.order.1

pub loop-place-init : goal.loop-place-init
loop-place-init c = mending_begins c.args.from c.args.to c.args.spans.now c.args.served.now _ refl

pub used-requires : goal.used-requires
used-requires c =
    let x = at (goal.at.used-requires c).After-index-spans-place in
    record { wide = omega (arith, x.wide, c.start_of.ensures); some = omega (arith, ints, x.law, c.start_of.ensures) }

pub overflow_sub-due : goal.overflow_sub-due
overflow_sub-due c =
    let x = at (goal.at.overflow_sub-due c).After-index-spans-place in
    omega (arith, ints, x.law, c.start_of.ensures, c.used.ensures)

pub using-mended-requires : goal.using-mended-requires
using-mended-requires c =
    let x = at (goal.at.using-mended-requires c).After-index-spans-place in
    let left =
    left_is _ _ _ _ _ _ _ _ _ _ _ _ x c.start_of.ensures c.used.ensures c.saturating_sub-left.ensures
    (c.loop-place.invariant.less c.loop-place-test.true)
    in
    record { wide = omega (arith, x.wide_now, c.start_of-in-loop-place.ensures); fits = left.fits }

pub loop-place-preserved : goal.loop-place-preserved
loop-place-preserved c =
    let x = at (goal.at.loop-place-preserved c).After-index-spans-place in
    let left =
    left_is _ _ _ _ _ _ _ _ _ _ _ _ x c.start_of.ensures c.used.ensures c.saturating_sub-left.ensures
    (c.loop-place.invariant.less c.loop-place-test.true)
    in
    let due = (boundary_at (dues_of c.args.from c.args.spans.now) (c.loop-place.place - 1)).due in
    mends_before _ _ _ _ _ _ _ _ _ _ c.using-mended.result _ _ c.loop-place.invariant c.loop-place-test.true
    c.index-spans-place.is x (left.less ∙ ap (λ n. due - n) c.given.ensures) c.using-mended.ensures.end
    (rw c.start_of-in-loop-place.ensures at c.using-mended.ensures.spare) c.lacking-before.ensures
    c.lacking-after.ensures

pub returns : goal.returns
returns c = mending_ends _ _ _ _ _ _ _ _ c.loop-place.invariant (omega arith)
