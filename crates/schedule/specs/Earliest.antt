-- Earliest deadline first: the rule by which the guarantees are kept whenever any schedule can keep them.
use Rattle.std.specs.Prelude.{◌≡◌, ℕ, ◌-◌, ◌<◌, ◌≤◌, List, map, Some, None, Option}
use Rattle.std.specs.List.{AllByRecursion}
use Rattle.schedule.specs.declared.job.Job.{Job}
use Rattle.schedule.specs.Schedules.{Commitments, WellFormed, Schedule, Keeps, given}
use Rattle.schedule.specs.Slot.{Ready, DueFirst, with_left}
use Rattle.schedule.specs.Windows.{NoWindowOverfull}

-- By this rule the slot goes to a ready job that is due first, and to nobody only if no job is ready.
abbrev pub EarliestOwner : ℕ → List Job → Option ℕ → Type 0
EarliestOwner clock js None = AllByRecursion (λ j. Ready clock j → ⊥) js
EarliestOwner clock js (Some n) = (j : Job) × DueFirst clock js j × (j.number ≡ n)

-- The jobs as they stand at slot u, once the slots from the clock up to u have gone as a schedule says.
abbrev pub jobs_at : Schedule → ℕ → ℕ → List Job → List Job
jobs_at s clock u js = map (λ j. with_left j (j.left - given s j.number clock u)) js

-- A schedule goes by earliest deadline first.
abbrev pub EarliestFirst : Schedule → Commitments → Type 0
EarliestFirst s c =
    (u : ℕ) → c.clock ≤ u → u < c.horizon → EarliestOwner u (jobs_at s c.clock u c.jobs) (s u)

-- There is such a schedule; each of them keeps the guarantees, unless a window is overfull.
abbrev pub EarliestFirstExists : Commitments → Type 0
EarliestFirstExists c = (s : Schedule) × EarliestFirst s c

abbrev pub EarliestFirstKeeps : Commitments → Type 0
EarliestFirstKeeps c =
    WellFormed c → NoWindowOverfull c.clock c.jobs → (s : Schedule) → EarliestFirst s c → Keeps s c
