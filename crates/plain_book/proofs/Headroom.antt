-- Headroom in natural numbers, at any deadline.
use Rattle.std.proofs.Common.{◌≡◌, ℕ, ◌<◌, ◌≤◌, true, List, [], ◌∷◌, ℤ, pos, negsuc, ◌-ℤ◌, ◌≤ℤ◌, refl, sym, ◌∙◌, ⊎_elim, arith}
use Rattle.std.specs.Int.{int_min}
use Rattle.std.proofs.lemmas.Bool.{cases_lt, le-leb}
use Rattle.std.proofs.lemmas.Int.{ints, clamps}
use Rattle.capacity.specs.declared.boundary.Boundary.{Boundary}
use Rattle.capacity.specs.Slack.{rises}
use Rattle.capacity.specs.Spare.{first_spare, positive_part, headroom_from}
use Rattle.capacity.proofs.Naturals.{room, room_none, rises_first, headroom_is_room}
use Rattle.capacity.proofs.Suffixes.{room_from_le}

positive_part_none : (z : ℤ) → z ≤ℤ pos 0 → positive_part z ≡ 0
positive_part_none (pos n) le = omega (arith, ints)
positive_part_none (negsuc n) le = refl

-- up to the start there is none
headroom_none : (s : ℕ) (bs : List Boundary) (h d : ℕ) → rises s bs h ≡ true → d ≤ s → headroom_from s bs d ≡ 0
headroom_none s [] h d r le = refl
headroom_none s (b ∷ bs) h d r le =
    let first = rises_first s b bs h r in
    rw (le-leb d b.end (omega arith)) (positive_part_none (int_min (pos d -ℤ pos s) (first_spare s (b ∷ bs))) (omega (arith, ints, clamps)))

pub headroom_is : (s : ℕ) (bs : List Boundary) (h d : ℕ) → rises s bs h ≡ true → headroom_from s bs d ≡ room s bs d
headroom_is s bs h d r =
    ⊎_elim
    (λ (lt : d < s). headroom_none s bs h d r (omega arith) ∙ sym (room_none s bs h d r (omega arith)))
    (headroom_is_room s bs h d r)
    (cases_lt d s)

pub headroom_le : (s : ℕ) (bs : List Boundary) (h d : ℕ) → rises s bs h ≡ true → headroom_from s bs d ≤ h
headroom_le s bs h d r = omega (arith, headroom_is s bs h d r, room_from_le s bs h 0 d r (omega arith))
