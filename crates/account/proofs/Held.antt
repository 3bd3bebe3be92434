-- The demand that a line of the account works out is what the book holds.
use Rattle.std.proofs.Common.{◌≡◌, ℕ, suc, ◌+◌, ◌-◌, ◌≤◌, length, pos, arith}
use Rattle.std.proofs.lemmas.Int.{ints, clamps}
use Rattle.capacity.specs.Intervals.{start_at, boundary_at}
use Rattle.capacity.specs.Meaning.{Meaning}
use Rattle.capacity.specs.Spare.{spare}
use Rattle.capacity.proofs.Intervals.{spare_from_next}
use Rattle.account.specs.Rows.{due_from}

-- a demand from neighbouring spares
pub due_from_spares :
    (m : Meaning) (i : ℕ) → 1 ≤ i → i ≤ length m.boundaries →
    start_at m.clock m.boundaries (i - 1) ≤ (boundary_at m.boundaries (i - 1)).end →
    due_from ((boundary_at m.boundaries (i - 1)).end - start_at m.clock m.boundaries (i - 1)) (spare m i) (spare m (i + 1))
    ≡ pos (boundary_at m.boundaries (i - 1)).due
due_from_spares m i first last le =
    let at : suc (i - 1) ≡ i + 1 - 1 = omega arith in
    let law = rw at at (spare_from_next m.clock m.boundaries (i - 1) (omega arith)) in
    omega (arith, ints, clamps)
