-- Places among boundaries that rise.
use Rattle.std.proofs.Common.{◌≡◌, ℕ, zero, suc, ◌<◌, ◌≤◌, true, false, eqb, List, [], ◌∷◌, length, refl, ap, ⊎_elim, arith}
use Rattle.std.proofs.lemmas.Bool.{cases_Bool, eqb-true, eq-eqb, ne_eqb, lt-ltb, le-ltb, or_from}
use Rattle.capacity.specs.declared.boundary.Boundary.{Boundary}
use Rattle.capacity.specs.Calls.{is_boundary}
use Rattle.capacity.specs.Slack.{rises}
use Rattle.capacity.proofs.Keeps.{boundary_later}
use Rattle.capacity.proofs.Naturals.{rises_first, rises_rest}
use Rattle.capacity.specs.Intervals.{boundary_at, start_at}
use Rattle.capacity.specs.Places.{Stands, Lacks}

-- every boundary at a place before i ends before d
abbrev pub Before : List Boundary → ℕ → ℕ → Type 0
Before bs d i = (k : ℕ) → k < i → (boundary_at bs k).end < d

before_rest : (b : Boundary) (bs : List Boundary) (d i : ℕ) → Before (b ∷ bs) d (suc i) → Before bs d i
before_rest b bs d i before k lt = before (suc k) (omega arith)

pub stands :
    (bs : List Boundary) (d i : ℕ) → Before bs d i → i < length bs → (boundary_at bs i).end ≡ d → Stands bs d i
stands [] d i before lt e = absurd (omega arith)
stands (b ∷ bs) d zero before lt e =
    let same = eq-eqb b.end d e in
    record { within = lt; held = rw same refl; ends = e; owes = rw same refl; sets = λ c. rw same refl }
stands (b ∷ bs) d (suc i) before lt e =
    let first = before 0 (omega arith) in
    let other = ne_eqb b.end d (omega arith) in
    let more = stands bs d i (before_rest b bs d i before) (omega arith) e in
    record {
      within = lt;
      held = rw other more.held;
      ends = e;
      owes = rw other more.owes;
      sets = λ c. rw other (ap (λ xs. b ∷ xs) (more.sets c));
    }

-- nothing from s on is a boundary up to s
none_early : (s : ℕ) (bs : List Boundary) (h d : ℕ) → rises s bs h ≡ true → d ≤ s → is_boundary bs d ≡ false
none_early s bs h d r le =
    ⊎_elim
    (λ (yes' : is_boundary bs d ≡ true). let late = boundary_later s bs h d r yes' in absurd (omega arith))
    (λ (no' : is_boundary bs d ≡ false). no')
    (cases_Bool (is_boundary bs d))

pub lacks :
    (s : ℕ) (bs : List Boundary) (h d i : ℕ) → rises s bs h ≡ true → Before bs d i → i ≤ length bs →
    (i < length bs → d < (boundary_at bs i).end) →
    Lacks bs d i
lacks s [] h d zero r before le next = record { within = le; before = before; behind = next; new = refl; puts = refl }
lacks s [] h d (suc i) r before le next = absurd (omega arith)
lacks s (b ∷ bs) h d zero r before le next =
    let lt = next (omega arith) in
    let earlier = lt-ltb d b.end lt in
    record {
      within = le;
      before = before;
      behind = next;
      new =
          or_from (eqb b.end d) (is_boundary bs d) (ne_eqb b.end d (omega arith))
          (none_early b.end bs h d (rises_rest s b bs h r) (omega arith));
      puts = rw earlier refl;
    }
lacks s (b ∷ bs) h d (suc i) r before le next =
    let first = before 0 (omega arith) in
    let later = le-ltb d b.end (omega arith) in
    let more =
    lacks b.end bs h d i (rises_rest s b bs h r) (before_rest b bs d i before) (omega arith)
    (λ lt. next (omega arith))
    in
    record {
      within = le;
      before = before;
      behind = next;
      new = or_from (eqb b.end d) (is_boundary bs d) (ne_eqb b.end d (omega arith)) more.new;
      puts = rw later (ap (λ xs. b ∷ xs) more.puts);
    }

-- boundaries lie behind the start, and rise by their places
pub end_later :
    (s : ℕ) (bs : List Boundary) (h k : ℕ) → rises s bs h ≡ true → k < length bs → s < (boundary_at bs k).end
end_later s [] h k r lt = absurd (omega arith)
end_later s (b ∷ bs) h zero r lt = rises_first s b bs h r
end_later s (b ∷ bs) h (suc k) r lt =
    let first = rises_first s b bs h r in
    let more = end_later b.end bs h k (rises_rest s b bs h r) (omega arith) in
    omega arith

pub ends_rise :
    (s : ℕ) (bs : List Boundary) (h j k : ℕ) → rises s bs h ≡ true → j < k → k < length bs →
    (boundary_at bs j).end < (boundary_at bs k).end
ends_rise s [] h j k r jk lt = absurd (omega arith)
ends_rise s (b ∷ bs) h j zero r jk lt = absurd (omega arith)
ends_rise s (b ∷ bs) h zero (suc k) r jk lt = end_later b.end bs h k (rises_rest s b bs h r) (omega arith)
ends_rise s (b ∷ bs) h (suc j) (suc k) r jk lt = ends_rise b.end bs h j k (rises_rest s b bs h r) (omega arith) (omega arith)

-- a slot up to the last boundary has its place before some boundary, behind the start of that interval
pub place_inside :
    (s : ℕ) (bs : List Boundary) (h d i : ℕ) → rises s bs h ≡ true → s < d → d ≤ h → Before bs d i → i ≤ length bs →
    i < length bs
place_inside s [] h d i r sd dh before le = let e = eqb-true s h r in absurd (omega arith)
place_inside s (b ∷ bs) h d zero r sd dh before le = omega arith
place_inside s (b ∷ bs) h d (suc i) r sd dh before le =
    let first = before 0 (omega arith) in
    let more = place_inside b.end bs h d i (rises_rest s b bs h r) first dh (before_rest b bs d i before) (omega arith) in
    omega arith

pub start_before :
    (s : ℕ) (bs : List Boundary) (d i : ℕ) → s < d → Before bs d i → i ≤ length bs → start_at s bs i < d
start_before s bs d zero sd before le = sd
start_before s [] d (suc i) sd before le = sd
start_before s (b ∷ bs) d (suc i) sd before le =
    start_before b.end bs d i (before 0 (omega arith)) (before_rest b bs d i before) (omega arith)
