-- One slot: to whom it can go so that no window is overfull afterwards.
use Rattle.std.proofs.Common.{◌≡◌, ℕ, ◌+◌, ◌<◌, ◌≤◌, cond, leb, ◌⊎◌, List, [], ◌∷◌, Some, None, Option, ap, inl, inr, ⊎_elim, arith}
use Rattle.std.specs.List.{ContainsAt as Has, AllByRecursion}
use Rattle.std.proofs.ByRecursion.{All-weaker}
use Rattle.std.proofs.lemmas.Bool.{cases_lt}
use Rattle.std.proofs.lemmas.Bool.Decides.{nat_tests}
use Rattle.schedule.specs.declared.job.Job.{Job}
use Rattle.schedule.specs.Schedules.{Commitments}
use Rattle.schedule.specs.Slot.{job_after, jobs_after, FitsAfter, Ready, due_by, SlotForDueFirst, SlotWhileSlack, SlotWhileNoneReady, TightMeansReady}
use Rattle.schedule.specs.Windows.{need, demand, NoWindowOverfull}
use Rattle.schedule.proofs.Counting.{due_by_is}
use Rattle.schedule.proofs.Totals.{sums_le, sums_less, sums_map, all_of, has_first, has_later}

-- a job is ready, or it is not
pub ready_or_not : (t : ℕ) (j : Job) → Ready t j ⊎ (Ready t j → ⊥)
ready_or_not t j =
    ⊎_elim
    (λ (after : t < j.release). inr (λ ready. absurd (omega (arith, ready.0))))
    (λ (released : j.release ≤ t).
    ⊎_elim
    (λ (some : 0 < j.left). inl (released, some))
    (λ (done : j.left ≤ 0). inr (λ ready. absurd (omega (arith, ready.1))))
    (cases_lt 0 j.left))
    (cases_lt t j.release)

-- what is left of a job that is due by b
abbrev due_job : ℕ → Job → ℕ
due_job b j = cond (leb j.deadline b) j.left 0

-- a slot that passes leaves no more due
due_by_falls : (js : List Job) (owner : Option ℕ) (b : ℕ) → due_by (jobs_after owner js) b ≤ due_by js b
due_by_falls js owner b =
    let mapped = sums_map (due_job b) (job_after owner) js in
    let le = sums_le (λ j. due_job b (job_after owner j)) (due_job b) js (all_of _ (λ j. grind (arith, nat_tests)) js) in
    omega arith

-- one less where it went to a job that is due by then
due_by_served :
    (js : List Job) (j : Job) (b : ℕ) → Has js j → 1 ≤ j.left → j.deadline ≤ b →
    due_by (jobs_after (Some j.number) js) b + 1 ≤ due_by js b
due_by_served js j b has left due =
    let owner = Some j.number in
    let mapped = sums_map (due_job b) (job_after owner) js in
    let own : due_job b (job_after owner j) + 1 ≤ due_job b j = grind (arith, nat_tests) in
    let less =
    sums_less (λ k. due_job b (job_after owner k)) (due_job b) js j has own (all_of _ (λ k. grind (arith, nat_tests)) js)
    in
    omega arith

-- where no ready job is due by b, all that is due by then is released later
none_ready_by :
    (t : ℕ) (js : List Job) (b : ℕ) → AllByRecursion (λ j. Ready t j → b < j.deadline) js → due_by js b ≤ demand t js (t + 1) b
none_ready_by t js b none =
    sums_le (due_job b) (need t (t + 1) b) js
    (All-weaker (λ j. Ready t j → b < j.deadline) (λ j. due_job b j ≤ need t (t + 1) b j) released_later js none)
  where
    released_later : (j : Job) → (Ready t j → b < j.deadline) → due_job b j ≤ need t (t + 1) b j
    released_later j late =
        let ready = λ (released : j.release ≤ t) (some : 1 ≤ j.left). late (released, some) in
        grind (arith, nat_tests)

-- no window is overfull at the next clock if what is due by then fits
fits_after :
    (t : ℕ) (js : List Job) (owner : Option ℕ) → NoWindowOverfull t js →
    ((b : ℕ) → t + 1 ≤ b → due_by (jobs_after owner js) b + (t + 1) ≤ b) →
    FitsAfter t js owner
fits_after t js owner fits due a b ta ab =
    let mapped = sums_map (need (t + 1) a b) (job_after owner) js in
    let le =
    λ (later : t + 1 < a).
    sums_le (λ j. need (t + 1) a b (job_after owner j)) (need t a b) js
    (all_of _ (λ j. grind (arith, nat_tests)) js)
    in
    let before = fits a b in
    let now = due b in
    let is = due_by_is (t + 1) (jobs_after owner js) b in
    let same : a ≡ t + 1 → demand (t + 1) (jobs_after owner js) a b ≡ demand (t + 1) (jobs_after owner js) (t + 1) b =
    ap (λ x. demand (t + 1) (jobs_after owner js) x b)
    in
    grind (arith, nat_tests)

pub slot_for_due_first : (t : ℕ) (js : List Job) → SlotForDueFirst t js
slot_for_due_first t js j first fits =
    fits_after t js (Some j.number) fits
    (λ b tb.
    let falls = due_by_falls js (Some j.number) b in
    let late =
    λ (before : b < j.deadline).
    none_ready_by t js b
    (All-weaker (λ k. Ready t k → j.deadline ≤ k.deadline) (λ k. Ready t k → b < k.deadline)
    (λ k due ready. omega (arith, due ready)) js first.2)
    in
    let served = due_by_served js j b first.0 first.1.1 in
    let is = due_by_is t js b in
    let now = fits t b in
    let later = fits (t + 1) b in
    grind (arith, nat_tests))

pub slot_while_none_ready : (t : ℕ) (js : List Job) → SlotWhileNoneReady t js
slot_while_none_ready t js none fits =
    fits_after t js None fits
    (λ b tb.
    let late =
    none_ready_by t js b
    (All-weaker (λ k. Ready t k → ⊥) (λ k. Ready t k → b < k.deadline) (λ k not ready. absurd (not ready)) js none)
    in
    omega (arith, due_by_falls js None b, fits (t + 1) b (omega arith) tb))

pub slot_while_slack : (c : Commitments) → SlotWhileSlack c
slot_while_slack c formed before slack fits owner =
    fits_after c.clock c.jobs owner fits
    (λ b tb.
    let falls = due_by_falls c.jobs owner b in
    let all_due =
    λ (behind : c.horizon < b).
    sums_le (due_job b) (due_job c.horizon) c.jobs
    (All-weaker (λ j. j.deadline ≤ c.horizon) (λ j. due_job b j ≤ due_job c.horizon j) (λ j due. grind (arith, nat_tests))
    c.jobs formed.1)
    in
    let here = slack b in
    let end = slack c.horizon in
    grind (arith, nat_tests))

-- a ready job due by e, or none is
ready_by :
    (t : ℕ) (js : List Job) (e : ℕ) →
    ((j : Job) × Has js j × Ready t j × (j.deadline ≤ e)) ⊎ AllByRecursion (λ j. Ready t j → e < j.deadline) js
ready_by t [] e = inr tt
ready_by t (j ∷ js) e =
    ⊎_elim
    (λ found. inl (found.0, has_later j js found.0 found.1, found.2, found.3))
    (λ none.
    ⊎_elim
    (λ (late : e < j.deadline). inr ((λ _. late), none))
    (λ (due : j.deadline ≤ e).
    ⊎_elim
    (λ (ready : Ready t j). inl (j, has_first j js, ready, due))
    (λ (not : Ready t j → ⊥). inr ((λ ready. absurd (not ready)), none))
    (ready_or_not t j))
    (cases_lt e j.deadline))
    (ready_by t js e)

pub tight_means_ready : (t : ℕ) (js : List Job) → TightMeansReady t js
tight_means_ready t js e te tight fits =
    ⊎_elim
    (λ found. found)
    (λ none.
    let late = none_ready_by t js e none in
    absurd (omega (arith, fits (t + 1) e (omega arith) (omega arith))))
    (ready_by t js e)
