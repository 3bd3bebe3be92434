-- Earliest deadline first keeps the guarantees unless a window is overfull: by one slot after another, up to the horizon.
use Rattle.std.proofs.Common.{◌≡◌, ℕ, zero, suc, ◌+◌, ◌-◌, ◌<◌, ◌≤◌, max, true, false, eqb, List, [], ◌∷◌, ◌++◌, Some, None, Option, sym, refl, ap, ◌∙◌, subst, ⊎_elim, arith}
use Rattle.std.specs.List.{IsDistinct, ContainsAt as Has, AllByRecursion}
use Rattle.std.proofs.ByRecursion.{All-weaker, All-map, all-has, all_has_itself}
use Rattle.std.proofs.lemmas.List.Sums.{get_or-le-sum_by}
use Rattle.std.proofs.lemmas.Map.Keys.{IsDistinct-head, IsDistinct-tail}
use Rattle.std.proofs.lemmas.Bool.{cases_lt, eqb-true, eqb-false, ne_eqb}
use Rattle.std.proofs.lemmas.Bool.Decides.{nat_tests}
use Rattle.schedule.specs.declared.job.Job.{Job}
use Rattle.schedule.specs.declared.soft.SoftOrder.{SoftOrder}
use Rattle.schedule.specs.Earliest.{EarliestOwner, jobs_at, EarliestFirstKeeps}
use Rattle.schedule.specs.Schedules.{Commitments, Schedule, GetsItsDemand, one_if, went_to, given, job_numbers, order_numbers}
use Rattle.schedule.specs.Slot.{with_left, job_after, jobs_after, FitsAfter, Ready}
use Rattle.schedule.specs.Windows.{need, demand, NoWindowOverfull}
use Rattle.schedule.proofs.Slot.{slot_for_due_first, slot_while_none_ready}
use Rattle.schedule.proofs.Slots.{went, slots_first, slots_none}
use Rattle.schedule.proofs.Totals.{has_cases, all_of, all_both, all_mapped, all_left, all_right}

-- what a job has left fits between its first slot and its deadline
pub left_fits :
    (t : ℕ) (js : List Job) (j : Job) → Has js j → NoWindowOverfull t js → 1 ≤ j.left →
    max j.release t + j.left ≤ j.deadline
left_fits t js j has fits some =
    let inside : (a b : ℕ) → a ≤ max j.release t → j.deadline ≤ b → j.left ≤ demand t js a b =
    λ a b from upto. let term = rw (has.2 j) at (get_or-le-sum_by (need t a b) js has.0 j has.1) in grind (arith, nat_tests)
    in
    let start = max j.release t in
    let end = max j.deadline t in
    let short = inside end end in
    let long = inside start j.deadline in
    let fits_short = fits end end in
    let fits_long = fits start j.deadline in
    grind (arith, nat_tests)

-- no later job has the number of an earlier one
apart :
    (i : Job) (js : List Job) (ms : List ℕ) → IsDistinct eqb (job_numbers (i ∷ js) ++ ms) →
    AllByRecursion (λ k. eqb i.number k.number ≡ false) js
apart i js ms distinct =
    all_mapped (λ m. eqb i.number m ≡ false) (λ k. k.number) js
    (all_left (λ m. eqb i.number m ≡ false) (job_numbers js) ms
    (IsDistinct-head eqb i.number (job_numbers js ++ ms) distinct))

-- only one job has the number of a job
only_one :
    (P : Job → Type 0) (js : List Job) (ms : List ℕ) (j : Job) → IsDistinct eqb (job_numbers js ++ ms) → Has js j → P j →
    AllByRecursion (λ k. went_to k.number (Some j.number) ≡ true → P k) js
only_one P [] ms j distinct has p = tt
only_one P (i ∷ js) ms j distinct has p =
    let differ = apart i js ms distinct in
    ⊎_elim
    (λ (same : i ≡ j). (
      λ _. subst P (sym same) p,
      All-weaker (λ k. eqb i.number k.number ≡ false) (λ k. went_to k.number (Some j.number) ≡ true → P k)
          (λ k not is.
          absurd
          (eqb-false i.number k.number not (ap (λ (x : Job). x.number) same ∙ sym (eqb-true k.number j.number is))))
          js differ,
    ))
    (λ (later : Has js j). (
      λ is.
          absurd
          (eqb-false i.number j.number (all-has (λ k. eqb i.number k.number ≡ false) js j differ later)
          (eqb-true i.number j.number is)),
      only_one P js ms j (IsDistinct-tail eqb i.number (job_numbers js ++ ms) distinct) later p,
    ))
    (has_cases i js j has)

-- and no other number is that of a job
no_other :
    (js : List Job) (ms : List ℕ) (j : Job) → IsDistinct eqb (job_numbers js ++ ms) → Has js j →
    AllByRecursion (λ m. went_to m (Some j.number) ≡ false) ms
no_other [] ms j distinct has = absurd (omega (arith, has.1))
no_other (i ∷ js) ms j distinct has =
    ⊎_elim
    (λ (same : i ≡ j).
    All-weaker (λ m. eqb i.number m ≡ false) (λ m. went_to m (Some j.number) ≡ false)
    (λ m not.
    ne_eqb m j.number (λ is. eqb-false i.number m not (ap (λ (x : Job). x.number) same ∙ sym is)))
    ms
    (all_right (λ m. eqb i.number m ≡ false) (job_numbers js) ms
    (IsDistinct-head eqb i.number (job_numbers js ++ ms) distinct)))
    (λ (later : Has js j). no_other js ms j (IsDistinct-tail eqb i.number (job_numbers js ++ ms) distinct) later)
    (has_cases i js j has)

-- who can get a slot at t by this rule
abbrev Rightful : ℕ → List Job → List ℕ → Option ℕ → Type 0
Rightful t js ms owner =
    AllByRecursion (λ k. went_to k.number owner ≡ true → Ready t k × (t < k.deadline)) js
    × AllByRecursion (λ m. went_to m owner ≡ false) ms

earliest_is_rightful :
    (t : ℕ) (js : List Job) (ms : List ℕ) (owner : Option ℕ) → IsDistinct eqb (job_numbers js ++ ms) →
    NoWindowOverfull t js → EarliestOwner t js owner →
    Rightful t js ms owner
earliest_is_rightful t js ms None distinct fits earliest = (all_of _ (λ k is. cc) js, all_of _ (λ m. refl) ms)
earliest_is_rightful t js ms (Some n) distinct fits (j, first, is) =
    let in-time = left_fits t js j first.0 fits first.1.1 in
    subst (λ x. Rightful t js ms (Some x)) is (
      only_one (λ k. Ready t k × (t < k.deadline)) js ms j distinct first.0 (first.1, omega arith),
      no_other js ms j distinct first.0,
    )

earliest_keeps_fitting :
    (t : ℕ) (js : List Job) (owner : Option ℕ) → EarliestOwner t js owner → NoWindowOverfull t js →
    FitsAfter t js owner
earliest_keeps_fitting t js None none fits = slot_while_none_ready t js none fits
earliest_keeps_fitting t js (Some n) (j, first, is) fits =
    subst (λ x. FitsAfter t js (Some x)) is (slot_for_due_first t js j first fits)

-- the jobs as they stand at the clock are the jobs
jobs_at_clock : (s : Schedule) (t : ℕ) (js : List Job) → jobs_at s t t js ≡ js
jobs_at_clock s t [] = refl
jobs_at_clock s t (j ∷ js) =
    let none = slots_none (λ u. went_to j.number (s u)) t t (omega arith) in
    let same : j.left - given s j.number t t ≡ j.left = omega arith in
    rw (same, jobs_at_clock s t js) refl

-- and later they are what the first slot and then the others left
jobs_at_later :
    (s : Schedule) (t u : ℕ) (js : List Job) → t < u → jobs_at s (t + 1) u (jobs_after (s t) js) ≡ jobs_at s t u js
jobs_at_later s t u [] lt = refl
jobs_at_later s t u (j ∷ js) lt =
    let split = slots_first (λ v. went_to j.number (s v)) t u lt in
    let same :
    j.left - one_if (went_to j.number (s t)) - given s j.number (t + 1) u ≡ j.left - given s j.number t u =
    omega arith
    in
    rw (ap (with_left j) same, jobs_at_later s t u js lt) refl

numbers_stay : (owner : Option ℕ) (js : List Job) → job_numbers (jobs_after owner js) ≡ job_numbers js
numbers_stay owner [] = refl
numbers_stay owner (j ∷ js) = ap (λ ns. j.number ∷ ns) (numbers_stay owner js)

-- each job gets its demand, and no other number gets a slot
abbrev Served : Schedule → ℕ → ℕ → List Job → List ℕ → Type 0
Served s t h js ms = AllByRecursion (GetsItsDemand s t h) js × AllByRecursion (λ m. given s m t h ≡ 0) ms

-- nothing is left to serve at the horizon
served_at_end :
    (s : Schedule) (t h : ℕ) (js : List Job) (ms : List ℕ) → h ≤ t → AllByRecursion (λ j. j.deadline ≤ h) js →
    NoWindowOverfull t js →
    Served s t h js ms
served_at_end s t h js ms end due fits = (
  all_both (λ j. j.deadline ≤ h) (Has js) (GetsItsDemand s t h)
      (λ j by has.
      let none = slots_none (λ u. went_to j.number (s u)) t h end in
      let some = left_fits t js j has fits in
      (grind (arith, nat_tests), λ u tu uh _. absurd (omega arith)))
      js due (all_has_itself js),
  all_of _ (λ m. slots_none (λ u. went_to m (s u)) t h end) ms,
)

-- a slot that goes to one who can get it, and what is served from then on, serve all
served_from :
    (s : Schedule) (t h : ℕ) (js : List Job) (ms : List ℕ) → t < h → Rightful t js ms (s t) →
    Served s (t + 1) h (jobs_after (s t) js) ms →
    Served s t h js ms
served_from s t h js ms lt rightful served = (
  all_both (λ k. went_to k.number (s t) ≡ true → Ready t k × (t < k.deadline))
      (λ k. GetsItsDemand s (t + 1) h (job_after (s t) k)) (GetsItsDemand s t h) gets js rightful.0
      (all_mapped (GetsItsDemand s (t + 1) h) (job_after (s t)) js served.0),
  all_both (λ m. went_to m (s t) ≡ false) (λ m. given s m (t + 1) h ≡ 0) (λ m. given s m t h ≡ 0)
      (λ m not none.
      let first = slots_first (λ u. went_to m (s u)) t h lt in
      let here : one_if (went_to m (s t)) ≡ 0 = ap one_if not in
      omega arith)
      ms rightful.1 served.1,
)
  where
    gets :
        (k : Job) → (went_to k.number (s t) ≡ true → Ready t k × (t < k.deadline)) →
        GetsItsDemand s (t + 1) h (job_after (s t) k) →
        GetsItsDemand s t h k
    gets k can later =
        let first = slots_first (λ u. went_to k.number (s u)) t h lt in
        let some = λ (to : went_to k.number (s t) ≡ true). (can to).0.1 in (
          grind (arith, nat_tests, later.0),
          λ u tu uh is.
              ⊎_elim
              (λ (after : t < u). later.1 u (omega arith) uh is)
              (λ (now : u ≤ t).
              let same : u ≡ t = omega arith in
              let ready = can (went k.number (s t) (rw same at is)) in
              (omega (arith, ready.0.0), omega (arith, ready.1)))
              (cases_lt t u),
        )

-- so earliest deadline first serves all, by recursion on the slots to come
earliest_serves :
    (slots-to-come : ℕ) (s : Schedule) (t h : ℕ) (js : List Job) (ms : List ℕ) → h ≤ t + slots-to-come →
    IsDistinct eqb (job_numbers js ++ ms) → AllByRecursion (λ j. j.deadline ≤ h) js → NoWindowOverfull t js →
    ((u : ℕ) → t ≤ u → u < h → EarliestOwner u (jobs_at s t u js) (s u)) →
    Served s t h js ms
earliest_serves zero s t h js ms end distinct due fits earliest = served_at_end s t h js ms (omega arith) due fits
earliest_serves (suc k) s t h js ms end distinct due fits earliest =
    ⊎_elim
    (λ (lt : t < h).
    let owner = subst (λ xs. EarliestOwner t xs (s t)) (jobs_at_clock s t js) (earliest t (omega arith) lt) in
    served_from s t h js ms lt (earliest_is_rightful t js ms (s t) distinct fits owner)
    (earliest_serves k s (t + 1) h (jobs_after (s t) js) ms (omega arith)
    (rw (numbers_stay (s t) js) distinct)
    (All-map (λ j. j.deadline ≤ h) (job_after (s t)) js due)
    (earliest_keeps_fitting t js (s t) owner fits)
    (λ u tu uh.
    subst (λ xs. EarliestOwner u xs (s u)) (sym (jobs_at_later s t u js (omega arith))) (earliest u (omega arith) uh))))
    (λ (ge : h ≤ t). served_at_end s t h js ms ge due fits)
    (cases_lt t h)

pub earliest_first_keeps : (c : Commitments) → EarliestFirstKeeps c
earliest_first_keeps c formed fits s earliest =
    let served =
    earliest_serves c.horizon s c.clock c.horizon c.jobs (order_numbers c.waiting) (omega arith)
    formed.0 formed.1 fits earliest
    in (
      All-weaker (λ j. GetsItsDemand s c.clock c.horizon j) (λ j. 1 ≤ j.left → GetsItsDemand s c.clock c.horizon j)
          (λ j gets _. gets) c.jobs served.0,
      All-weaker (λ (o : SoftOrder). given s o.number c.clock c.horizon ≡ 0)
          (λ (o : SoftOrder). given s o.number c.clock c.horizon ≤ o.left)
          (λ o none. omega (arith, none)) c.waiting
          (all_mapped (λ n. given s n c.clock c.horizon ≡ 0) (λ (o : SoftOrder). o.number) c.waiting served.1),
    )
