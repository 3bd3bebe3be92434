use Rattle.std.proofs.Common.{◌≡◌, suc, ◌-◌, ◌∙◌, arith, w32, SFits, rules}
use Rattle.std.proofs.lemmas.Int.{ints, to_z-of_z}
use Rattle.slot_book.proofs.Walking.{standing_small, turn_goes_on, turn_stops}
use Rattle.slot_book.proofs.walk.carry.Goals as goal

pub change-change-requires : goal.change-change-requires
change-change-requires c =
    standing_small _ _ _ _ _ _ _ c.loop-place.invariant (rw (to_z-of_z w32 c.args.change c.ranges.change) c.requires.spares)

pub loop-place-preserved : goal.loop-place-preserved
loop-place-preserved c =
    let fits : SFits w32 c.change-change.result = search rules in
    let here : suc (c.loop-place.place - 1) ≡ c.loop-place.place = omega arith in
    rw
    (here, to_z-of_z w32 c.change-change.result fits)
    (turn_goes_on _ _ _ _ _ _ _ _ _ c.loop-place.invariant c.change-change.ensures.changed c.change-change.ensures.handed (λ none. omega (arith, ints, none)))

pub returns-then-change-eq0 : goal.returns-then-change-eq0
returns-then-change-eq0 c =
    let whole = to_z-of_z w32 c.args.change c.ranges.change in
    let end =
    turn_stops _ _ _ _ _ _ _ _ _ c.loop-place.invariant c.change-change.ensures.changed c.change-change.ensures.handed
    (omega (arith, ints))
    in
    record { after = rw whole at end.0; rose = λ one. end.1 (whole ∙ one) }
