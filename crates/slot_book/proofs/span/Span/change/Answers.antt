use Rattle.std.proofs.Common.{refl, ◌+ℤ◌, w32, SFits, rules, ap, arith}
use Rattle.std.proofs.lemmas.Int.{ints, clamps, to_z-of_z}
use Rattle.slot_book.proofs.span.Span.change.Goals as goal

pub overflow_sub-result : goal.overflow_sub-result
overflow_sub-result c = omega (arith, ints, clamps, ap (λ x. x.spare) c.self.view_is)

pub invariant_of-self : goal.invariant_of-self
invariant_of-self c =
    let same = ap (λ x. x.spare) c.self.view_is in
    record { early = c.self.invariant.early; small = (omega (arith, ints), omega (arith, ints)) }

pub returns-clause-handed : goal.returns-clause-handed
returns-clause-handed c =
    let same = ap (λ x. x.spare) c.self.view_is in
    omega (arith, ints, clamps)

pub returns-clause-changed : goal.returns-clause-changed
returns-clause-changed c =
    let spare : SFits w32 c.self.inside.spare = search rules in
    let by = c.ranges.by in
    let sum : SFits w32 (c.self.inside.spare +ℤ c.args.by) = search rules in
    simp to_z-of_z (rw (← c.self.view_is) refl)
