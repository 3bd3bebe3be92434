-- From `clear` on the boundaries rise from the clock to the horizon, whatever is called.
use Rattle.std.proofs.Common.{◌≡◌, ℕ, ◌+◌, ◌-◌, true, List, [], Some, None, Option, refl, arith}
use Rattle.std.proofs.lemmas.Bool.{eq-eqb}
use Rattle.std.proofs.lemmas.Bool.Decides.{nat_tests}
use Rattle.capacity.specs.declared.boundary.Boundary.{Boundary}
use Rattle.capacity.specs.Calls.{due_at, served, cut_leaves, owe_leaves, forgive_leaves, run_leaves}
use Rattle.capacity.specs.Meaning.{Meaning}
use Rattle.capacity.specs.Reached.{Reached, by_clear, by_cut, by_owe, by_forgive, by_run}
use Rattle.capacity.specs.Slack.{rises, Ordered}
use Rattle.capacity.proofs.Keeps.{rises_cons, rises_with_due, rises_with_boundary, rises_later}
use Rattle.capacity.proofs.Least.{rises_le}

-- each call keeps that, refused or not
cut_ordered : (m : Meaning) (d : ℕ) → Ordered m → Ordered (cut_leaves m d)
cut_ordered m d ordered =
    let more = rises_with_boundary m.clock m.boundaries m.horizon d ordered in
    grind (arith, nat_tests)

owe_ordered : (m : Meaning) (d c : ℕ) → Ordered m → Ordered (owe_leaves m d c)
owe_ordered m d c ordered =
    let more = rises_with_due m.clock m.boundaries m.horizon d (due_at m.boundaries d + c) ordered in
    grind (arith, nat_tests)

forgive_ordered : (m : Meaning) (d c : ℕ) → Ordered m → Ordered (forgive_leaves m d c)
forgive_ordered m d c ordered =
    let more = rises_with_due m.clock m.boundaries m.horizon d (due_at m.boundaries d - c) ordered in
    grind (arith, nat_tests)

-- a slot's owner changes no end
served_rises :
    (s : ℕ) (bs : List Boundary) (h : ℕ) (owner : Option ℕ) → rises s bs h ≡ true → rises s (served bs owner) h ≡ true
served_rises s bs h None r = r
served_rises s bs h (Some d) r = rises_with_due s bs h d (due_at bs d - 1) r

run_ordered : (m : Meaning) (owner : Option ℕ) → Ordered m → Ordered (run_leaves m owner)
run_ordered m owner ordered =
    let le = rises_le m.clock m.boundaries m.horizon ordered in
    let kept = served_rises m.clock m.boundaries m.horizon owner ordered in
    let more = rises_later m.clock (served m.boundaries owner) m.horizon kept in
    grind (arith, nat_tests)

pub reached_ordered : {m : Meaning} → Reached m → Ordered m
reached_ordered (by_clear h le) = rises_cons 0 (record { end = h; due = 0 }) [] h le (eq-eqb h h refl)
reached_ordered (by_cut {m} r d) = cut_ordered m d (reached_ordered r)
reached_ordered (by_owe {m} r d c) = owe_ordered m d c (reached_ordered r)
reached_ordered (by_forgive {m} r d c) = forgive_ordered m d c (reached_ordered r)
reached_ordered (by_run {m} r owner) = run_ordered m owner (reached_ordered r)
