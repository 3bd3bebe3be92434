-- A slot has one owner: so where a schedule keeps the guarantees, what must lie in a window is no more than its slots.
use Rattle.std.proofs.Common.{◌≡◌, ℕ, zero, suc, ◌+◌, ◌-◌, ◌<◌, ◌≤◌, max, true, false, cond, ◌&&◌, eqb, leb, List, [], ◌∷◌, ◌++◌, sum_by, Option, sym, refl, ap, ⊎_elim, arith}
use Rattle.std.specs.List.{IsDistinct, AllByRecursion}
use Rattle.std.proofs.ByRecursion.{All-weaker}
use Rattle.std.proofs.lemmas.List.Sums.{sum_by-cons}
use Rattle.std.proofs.lemmas.Map.Keys.{IsDistinct-head, IsDistinct-tail}
use Rattle.std.proofs.lemmas.Bool.{cases_lt, le-leb, lt-leb, ne_eqb, eqb-false}
use Rattle.std.proofs.lemmas.Bool.Decides.{nat_tests}
use Rattle.schedule.specs.declared.job.Job.{Job}
use Rattle.schedule.specs.Schedules.{Commitments, WellFormed, Schedule, Keeps, GetsItsDemand, went_to, went_to_any, one_if, slots, given, job_numbers, order_numbers}
use Rattle.schedule.specs.Slot.{due_by, SoftWithinSlack}
use Rattle.schedule.specs.Windows.{need, demand, NoWindowOverfull}
use Rattle.schedule.proofs.Slots.{owner_is, slots_grow, slots_inside}
use Rattle.schedule.proofs.Totals.{sums_le, sums_add, sums_map, sums_none, all_of, all_left, all_right}

-- a slot that went to n went to no other number
pub not_other : (n m : ℕ) (owner : Option ℕ) → went_to n owner ≡ true → eqb n m ≡ false → went_to m owner ≡ false
not_other n m owner to differs =
    rw (owner_is n owner to) (ne_eqb m n (λ same. eqb-false n m differs (sym same)))

none_of :
    (n : ℕ) (ms : List ℕ) (owner : Option ℕ) → went_to n owner ≡ true → AllByRecursion (λ m. eqb n m ≡ false) ms →
    went_to_any ms owner ≡ false
none_of n [] owner to differ = refl
none_of n (m ∷ ms) owner to differ = rw (not_other n m owner to differ.0) (none_of n ms owner to differ.1)

-- of distinct numbers a slot went to one at most
one_owner :
    (ns ms : List ℕ) (owner : Option ℕ) → IsDistinct eqb (ns ++ ms) →
    sum_by (λ n. one_if (went_to n owner)) ns + one_if (went_to_any ms owner) ≤ 1
one_owner [] ms owner distinct = grind (arith, nat_tests)
one_owner (n ∷ ns) ms owner distinct =
    let differ = IsDistinct-head eqb n (ns ++ ms) distinct in
    let rest = one_owner ns ms owner (IsDistinct-tail eqb n (ns ++ ms) distinct) in
    let sum = sum_by-cons (λ m. one_if (went_to m owner)) n ns in
    let others : went_to n owner ≡ true → sum_by (λ m. one_if (went_to m owner)) ns ≡ 0 =
    λ to.
    sums_none (λ m. one_if (went_to m owner)) ns
    (All-weaker (λ m. eqb n m ≡ false) (λ m. one_if (went_to m owner) ≡ 0) (λ m differs. ap one_if (not_other n m owner to differs)) ns
    (all_left (λ m. eqb n m ≡ false) ns ms differ))
    in
    let soft : went_to n owner ≡ true → went_to_any ms owner ≡ false =
    λ to. none_of n ms owner to (all_right (λ m. eqb n m ≡ false) ns ms differ)
    in
    grind (arith, nat_tests)

-- so distinct numbers share the slots of a stretch
pub slots_shared :
    (s : Schedule) (ns ms : List ℕ) (a b : ℕ) → IsDistinct eqb (ns ++ ms) →
    sum_by (λ n. given s n a b) ns + slots (λ u. went_to_any ms (s u)) a b ≤ b - a
slots_shared s ns ms a zero distinct =
    let none = sums_none (λ n. given s n a 0) ns (all_of (λ n. given s n a 0 ≡ 0) (λ _. refl) ns) in
    omega arith
slots_shared s ns ms a (suc b) distinct =
    let rest = slots_shared s ns ms a b distinct in
    let split = sums_add (λ n. given s n a b) (λ n. one_if (leb a b && went_to n (s b))) ns in
    let none = sums_none (λ n. one_if false) ns (all_of (λ n. one_if false ≡ 0) (λ _. refl) ns) in
    let one = one_owner ns ms (s b) distinct in
    ⊎_elim
    (λ (lt : b < a). let now = rw (lt-leb a b lt) at split in rw (lt-leb a b lt) (omega arith))
    (λ (ge : a ≤ b). let now = rw (le-leb a b ge) at split in rw (le-leb a b ge) (omega arith))
    (cases_lt b a)

-- a job that must lie in a window, and gets its demand, gets it there
need_met :
    (s : Schedule) (t h a b : ℕ) (j : Job) → t ≤ a → (1 ≤ j.left → GetsItsDemand s t h j) →
    need t a b j ≤ given s j.number a b
need_met s t h a b j ta gets =
    let inside =
    λ (some : 1 ≤ j.left) (from : a ≤ max j.release t) (upto : j.deadline ≤ b).
    slots_inside (λ u. went_to j.number (s u)) t h a b ta
    (λ u tu uh to.
    let w = (gets some).1 u tu uh (owner_is j.number (s u) to) in
    (omega (arith, w.0), omega (arith, w.1)))
    in
    let met = λ (some : 1 ≤ j.left). (gets some).0 in
    grind (arith, nat_tests)

-- what must lie in a window, and the slots there that go to waiting orders, are no more than its slots
pub window_shared :
    (s : Schedule) (c : Commitments) (a b : ℕ) → WellFormed c → Keeps s c → c.clock ≤ a →
    demand c.clock c.jobs a b + slots (λ u. went_to_any (order_numbers c.waiting) (s u)) a b ≤ b - a
window_shared s c a b formed keeps ta =
    let t = c.clock in
    let met =
    sums_le (need t a b) (λ j. given s j.number a b) c.jobs
    (All-weaker (λ j. 1 ≤ j.left → GetsItsDemand s t c.horizon j) (λ j. need t a b j ≤ given s j.number a b)
    (λ j gets. need_met s t c.horizon a b j ta gets) c.jobs keeps.0)
    in
    let numbers = sums_map (λ n. given s n a b) (λ (j : Job). j.number) c.jobs in
    let shared = slots_shared s (job_numbers c.jobs) (order_numbers c.waiting) a b formed.0 in
    omega arith

pub kept_means_none_overfull :
    (s : Schedule) (c : Commitments) → WellFormed c → Keeps s c → NoWindowOverfull c.clock c.jobs
kept_means_none_overfull s c formed keeps a b ta ab = omega (arith, window_shared s c a b formed keeps ta)

-- from the clock on every job lies in a window that it is due in
pub due_by_is : (t : ℕ) (js : List Job) (b : ℕ) → due_by js b ≡ demand t js t b
due_by_is t [] b = refl
due_by_is t (j ∷ js) b =
    let rest = due_by_is t js b in
    grind (arith, nat_tests, sum_by-cons (need t t b) j js, sum_by-cons (λ (k : Job). cond (leb k.deadline b) k.left 0) j js)

pub soft_within_slack : (c : Commitments) → SoftWithinSlack c
soft_within_slack c formed s keeps u b ub tb =
    let shared = window_shared s c c.clock b formed keeps (omega arith) in
    let grows = slots_grow (λ v. went_to_any (order_numbers c.waiting) (s v)) c.clock u b ub in
    let due = due_by_is c.clock c.jobs b in
    omega arith
