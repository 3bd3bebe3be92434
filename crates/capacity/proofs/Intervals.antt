-- Spare capacity at a place, from the next one: so a demand is known from neighbouring spares.
use Rattle.std.proofs.Common.{◌≡◌, ℕ, zero, suc, ◌-◌, ◌<◌, ◌≤◌, List, [], ◌∷◌, length, get_or, ℤ, pos, ◌+ℤ◌, ◌-ℤ◌, refl, ap, arith}
use Rattle.std.specs.Int.{int_min}
use Rattle.std.proofs.lemmas.List.{get_or_past}
use Rattle.std.proofs.lemmas.Bool.{le-leb}
use Rattle.terms.specs.Answers.{value}
use Rattle.capacity.specs.declared.boundary.Boundary.{Boundary}
use Rattle.capacity.specs.Calls.{spare_says}
use Rattle.capacity.specs.Intervals.{start_at, boundary_at}
use Rattle.capacity.specs.Meaning.{Meaning}
use Rattle.capacity.specs.Spare.{spares, spare}

pub spare_from_next :
    (s : ℕ) (bs : List Boundary) (k : ℕ) → k < length bs →
    get_or (spares s bs) k (pos 0)
    ≡ ((pos (boundary_at bs k).end -ℤ pos (start_at s bs k)) -ℤ pos (boundary_at bs k).due)
    +ℤ int_min (pos 0) (get_or (spares s bs) (suc k) (pos 0))
spare_from_next s [] k lt = absurd (omega arith)
spare_from_next s (b ∷ []) zero lt = refl
spare_from_next s (b ∷ (b' ∷ bs)) zero lt = refl
spare_from_next s (b ∷ bs) (suc k) lt = spare_from_next b.end bs k (omega arith)

-- behind the last interval there is nought to spare
pub length_spares : (s : ℕ) (bs : List Boundary) → length (spares s bs) ≡ length bs
length_spares s [] = refl
length_spares s (b ∷ bs) = ap suc (length_spares b.end bs)

pub spare_past : (m : Meaning) (i : ℕ) → length m.boundaries < i → spare m i ≡ pos 0
spare_past m i past =
    get_or_past (spares m.clock m.boundaries) (i - 1) (pos 0)
    (omega (arith, length_spares m.clock m.boundaries))

-- a number of an interval is not refused
pub spare_answered :
    (m : Meaning) (i : ℕ) (z : ℤ) → 1 ≤ i → i ≤ length m.boundaries → z ≡ spare m i → value z ≡ spare_says m i
spare_answered m i z first last is = rw (le-leb 1 i first, le-leb i (length m.boundaries) last) (ap value is)
