-- Spare capacity and headroom in natural numbers: what an interval lacks and what it has free, of which one is always 0.
use Rattle.std.proofs.Common.{◌≡◌, ℕ, ◌+◌, ◌-◌, ◌<◌, ◌≤◌, min, true, ltb, List, [], ◌∷◌, ℤ, pos, negsuc, ◌+ℤ◌, ◌-ℤ◌, refl, arith}
use Rattle.std.specs.Int.{int_min}
use Rattle.std.proofs.lemmas.Int.{ints, clamps}
use Rattle.std.proofs.lemmas.Bool.{and_parts, ltb-true}
use Rattle.std.proofs.lemmas.Bool.Decides.{nat_tests}
use Rattle.capacity.specs.declared.boundary.Boundary.{Boundary}
use Rattle.capacity.specs.Spare.{first_spare, positive_part, headroom_from}
use Rattle.capacity.specs.Shortage.{short}
use Rattle.capacity.specs.Slack.{rises}

-- what the first interval has free
abbrev pub free : ℕ → Boundary → List Boundary → ℕ
free s b bs = b.end - (s + b.due + short b.end bs)

pub min_is_short : (s : ℕ) (bs : List Boundary) → int_min (pos 0) (first_spare s bs) +ℤ pos (short s bs) ≡ pos 0
min_is_short s [] = refl
min_is_short s (b ∷ bs) = let h = min_is_short b.end bs in omega (arith, ints, clamps)

-- the spare capacity of the first interval, with sums on both sides
pub spare_is :
    (s : ℕ) (b : Boundary) (bs : List Boundary) →
    first_spare s (b ∷ bs) +ℤ pos (s + b.due + short b.end bs) ≡ pos b.end
spare_is s b bs = let h = min_is_short b.end bs in omega (arith, ints, clamps)

pub positive_part_is : (z : ℤ) (x y : ℕ) → z +ℤ pos y ≡ pos x → positive_part z ≡ x - y
positive_part_is (pos n) x y h = omega (arith, ints)
positive_part_is (negsuc n) x y h = omega (arith, ints)

pub positive_min_is :
    (z : ℤ) (x y d s : ℕ) → s ≤ d → z +ℤ pos y ≡ pos x →
    positive_part (int_min (pos d -ℤ pos s) z) ≡ min (d - s) (x - y)
positive_min_is z x y d s le h =
    let own = positive_part_is z x y h in
    let width = positive_part_is (pos d -ℤ pos s) d s in
    grind (arith, ints, clamps)

-- headroom, uniformly: of each interval what it has free, and no more than lies before d
abbrev pub room : ℕ → List Boundary → ℕ → ℕ
room s [] d = 0
room s (b ∷ bs) d = min (d - s) (free s b bs) + room b.end bs d

-- the two facts in a list that rises
pub rises_first : (s : ℕ) (b : Boundary) (bs : List Boundary) (h : ℕ) → rises s (b ∷ bs) h ≡ true → s < b.end
rises_first s b bs h r = ltb-true s b.end (and_parts (ltb s b.end) (rises b.end bs h) r).0

pub rises_rest :
    (s : ℕ) (b : Boundary) (bs : List Boundary) (h : ℕ) → rises s (b ∷ bs) h ≡ true → rises b.end bs h ≡ true
rises_rest s b bs h r = (and_parts (ltb s b.end) (rises b.end bs h) r).1

pub room_none : (s : ℕ) (bs : List Boundary) (h d : ℕ) → rises s bs h ≡ true → d ≤ s → room s bs d ≡ 0
room_none s [] h d r le = refl
room_none s (b ∷ bs) h d r le =
    let first = rises_first s b bs h r in
    let rest = room_none b.end bs h d (rises_rest s b bs h r) (omega arith) in
    omega arith

pub headroom_is_room :
    (s : ℕ) (bs : List Boundary) (h d : ℕ) → rises s bs h ≡ true → s ≤ d → headroom_from s bs d ≡ room s bs d
headroom_is_room s [] h d r le = refl
headroom_is_room s (b ∷ bs) h d r le =
    let first = rises_first s b bs h r in
    let rest = rises_rest s b bs h r in
    let is = spare_is s b bs in
    let own = positive_min_is (first_spare s (b ∷ bs)) b.end (s + b.due + short b.end bs) d s le is in
    let all = positive_part_is (first_spare s (b ∷ bs)) b.end (s + b.due + short b.end bs) is in
    let more = headroom_is_room b.end bs h d rest in
    let none = room_none b.end bs h d rest in
    grind (arith, nat_tests)
