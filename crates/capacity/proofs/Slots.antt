-- A slot for a deadline is one slot forgiven there, and then a slot for nobody.
use Rattle.std.proofs.Common.{◌≡◌, ℕ, ◌-◌, ◌≤◌, true, false, eqb, List, [], ◌∷◌, Some, None, refl, arith}
use Rattle.std.proofs.lemmas.Bool.Decides.{nat_tests}
use Rattle.terms.specs.Answers.{value}
use Rattle.capacity.specs.declared.boundary.Boundary.{Boundary}
use Rattle.capacity.specs.Calls.{is_boundary, due_at, is_due, with_due, with_boundaries, forgive_says, forgive_leaves, run_says, run_leaves, passed}
use Rattle.capacity.specs.Meaning.{Meaning}
use Rattle.capacity.specs.Slack.{rises, Ordered}
use Rattle.capacity.proofs.Naturals.{rises_rest}
use Rattle.capacity.proofs.Least.{rises_le}
use Rattle.capacity.proofs.Keeps.{boundary_later}

-- no boundary lies behind the horizon
pub boundary_within : (s : ℕ) (bs : List Boundary) (h d : ℕ) → rises s bs h ≡ true → is_boundary bs d ≡ true → d ≤ h
boundary_within s [] h d r is = cc
boundary_within s (b ∷ bs) h d r is =
    let rest = rises_rest s b bs h r in
    let last = rises_le b.end bs h rest in
    let more = boundary_within b.end bs h d rest in
    grind (arith, nat_tests)

-- where something is due, a slot is left
slot_before : (m : Meaning) (d : ℕ) → Ordered m → is_due m d 1 ≡ true → eqb m.clock m.horizon ≡ false
slot_before m d ordered due =
    let after = boundary_later m.clock m.boundaries m.horizon d ordered in
    let within = boundary_within m.clock m.boundaries m.horizon d ordered in
    grind (arith, nat_tests)

pub forgive_taken :
    (m : Meaning) (d c : ℕ) → is_due m d c ≡ true →
    forgive_leaves m d c ≡ with_boundaries m (with_due m.boundaries d (due_at m.boundaries d - c))
forgive_taken m d c due = rw due refl

pub run_taken :
    (m : Meaning) (d : ℕ) → Ordered m → is_due m d 1 ≡ true →
    (run_says m (Some d) ≡ value tt) × (run_leaves m (Some d) ≡ passed m (Some d))
run_taken m d ordered due = let before = slot_before m d ordered due in (rw (due, before) refl, rw (due, before) refl)

pub run_is_forgive_and_pass :
    (m : Meaning) (d : ℕ) → Ordered m → is_due m d 1 ≡ true →
    (run_says m (Some d) ≡ run_says (forgive_leaves m d 1) None)
    × (run_leaves m (Some d) ≡ run_leaves (forgive_leaves m d 1) None)
run_is_forgive_and_pass m d ordered due =
    let before = slot_before m d ordered due in (rw (due, before) refl, rw (due, before) refl)

-- what was forgiven was due
pub forgiven : (m : Meaning) (d c : ℕ) (x : Unit {0}) → value x ≡ forgive_says m d c → is_due m d c ≡ true
forgiven m d c x says = grind (arith, nat_tests)
