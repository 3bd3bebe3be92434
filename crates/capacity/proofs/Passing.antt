-- A slot that passes: whether the first boundary goes, and where the first interval ends.
use Rattle.std.proofs.Common.{◌≡◌, ℕ, ◌+◌, ◌<◌, ◌≤◌, true, List, [], ◌∷◌, length, get_or, refl, ap, arith}
use Rattle.std.specs.List.{remove}
use Rattle.std.proofs.lemmas.Bool.{eqb-true, lt-ltb, le-ltb}
use Rattle.std.proofs.lemmas.Bool.Decides.{nat_tests}
use Rattle.capacity.specs.declared.boundary.Boundary.{Boundary}
use Rattle.capacity.specs.Calls.{later_than}
use Rattle.capacity.specs.Noted.{first_end}
use Rattle.capacity.specs.Slack.{rises}
use Rattle.capacity.proofs.Least.{rises_le}
use Rattle.capacity.proofs.Naturals.{rises_first, rises_rest}

-- before the horizon some boundary is left
pub some_left : (s : ℕ) (bs : List Boundary) (h : ℕ) → rises s bs h ≡ true → (s ≡ h → ⊥) → 0 < length bs
some_left s [] h r before = absurd (before (eqb-true s h r))
some_left s (b ∷ bs) h r before = omega arith

pub later_stays :
    (s : ℕ) (bs : List Boundary) (h : ℕ) (b : Boundary) → rises s bs h ≡ true → b ≡ get_or bs 0 b →
    (b.end ≡ s + 1 → ⊥) →
    later_than (s + 1) bs ≡ bs
later_stays s [] h b r read past = refl
later_stays s (x ∷ bs) h b r read past =
    let first = rises_first s x bs h r in
    let is = ap (λ y. y.end) read in
    let lt : s + 1 < x.end = omega (arith, past) in
    rw (lt-ltb (s + 1) x.end lt) refl

pub later_goes :
    (s : ℕ) (bs : List Boundary) (h : ℕ) (b : Boundary) → rises s bs h ≡ true → b ≡ get_or bs 0 b →
    b.end ≡ s + 1 →
    0 < length bs →
    later_than (s + 1) bs ≡ remove bs 0
later_goes s [] h b r read here some = absurd (omega arith)
later_goes s (x ∷ bs) h b r read here some =
    let is = ap (λ y. y.end) read in
    let le : x.end ≤ s + 1 = omega arith in
    rw (le-ltb (s + 1) x.end le) refl

-- while an interval is left, the start matters not to where it ends
pub first_end_of : (s t : ℕ) (bs : List Boundary) → 0 < length bs → first_end s bs ≡ first_end t bs
first_end_of s t [] some = absurd (omega arith)
first_end_of s t (b ∷ bs) some = refl

pub within_first : (s t : ℕ) (bs : List Boundary) → t ≤ first_end s bs → t ≤ first_end t bs
within_first s t [] le = omega arith
within_first s t (b ∷ bs) le = le

-- the first interval ends between its start and the horizon
pub first_end_later : (s : ℕ) (bs : List Boundary) (h : ℕ) → rises s bs h ≡ true → (s ≤ first_end s bs) × (first_end s bs ≤ h)
first_end_later s [] h r = grind (arith, nat_tests)
first_end_later s (b ∷ bs) h r =
    let first = rises_first s b bs h r in
    (omega arith, rises_le b.end bs h (rises_rest s b bs h r))
