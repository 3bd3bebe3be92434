-- One slot: to whom the slot at the clock can go so that no window is overfull afterwards.
use Rattle.std.specs.Prelude.{◌≡◌, ℕ, ◌+◌, ◌-◌, ◌<◌, ◌≤◌, if◌then◌else◌, List, map, Some, None, sum_by, Option, nat_le}
use Rattle.std.specs.List.{ContainsAt as Has, AllByRecursion}
use Rattle.schedule.specs.declared.job.Job.{Job}
use Rattle.schedule.specs.Schedules.{Commitments, WellFormed, Schedule, one_if, went_to, Keeps, soft_slots}
use Rattle.schedule.specs.Windows.{NoWindowOverfull}

-- The same job with so much left of it.
abbrev pub with_left : Job → ℕ → Job
with_left j left = record { number = j.number; release = j.release; deadline = j.deadline; left = left }

-- A job after a slot: one less is left of it if the slot went to it.
abbrev pub job_after : Option ℕ → Job → Job
job_after owner j = with_left j (j.left - one_if (went_to j.number owner))

abbrev pub jobs_after : Option ℕ → List Job → List Job
jobs_after owner js = map (job_after owner) js

-- No window is overfull once the slot at the clock has gone to an owner.
abbrev pub FitsAfter : ℕ → List Job → Option ℕ → Type 0
FitsAfter clock js owner = NoWindowOverfull (clock + 1) (jobs_after owner js)

-- A job is ready: it is released, and not done.
abbrev pub Ready : ℕ → Job → Type 0
Ready clock j = (j.release ≤ clock) × (1 ≤ j.left)

-- A ready job than which no ready job is due earlier.
abbrev pub DueFirst : ℕ → List Job → Job → Type 0
DueFirst clock js j = Has js j × Ready clock j × AllByRecursion (λ k. Ready clock k → j.deadline ≤ k.deadline) js

-- The left demand of all jobs due by b.
abbrev pub due_by : List Job → ℕ → ℕ
due_by js b = sum_by (λ j. if nat_le j.deadline b then j.left else 0) js

-- The slack at b is at least c: what is due by b, and c slots more, fit between the clock and b.
abbrev pub Slack : ℕ → List Job → ℕ → ℕ → Type 0
Slack clock js b c = due_by js b + c + clock ≤ b

-- The slot can go to a ready job that is due first.
abbrev pub SlotForDueFirst : ℕ → List Job → Type 0
SlotForDueFirst clock js =
    (j : Job) → DueFirst clock js j → NoWindowOverfull clock js → FitsAfter clock js (Some j.number)

-- It can go to anyone, soft work or nobody too, while every slack up to the horizon is at least 1.
abbrev pub SlotWhileSlack : Commitments → Type 0
SlotWhileSlack c =
    WellFormed c → c.clock < c.horizon →
    ((b : ℕ) → c.clock < b → b ≤ c.horizon → Slack c.clock c.jobs b 1) →
    NoWindowOverfull c.clock c.jobs →
    (owner : Option ℕ) → FitsAfter c.clock c.jobs owner

-- It can go to nobody while no job is ready.
abbrev pub SlotWhileNoneReady : ℕ → List Job → Type 0
SlotWhileNoneReady clock js =
    AllByRecursion (λ j. Ready clock j → ⊥) js → NoWindowOverfull clock js → FitsAfter clock js None

-- Where there is no slack at e, a ready job is due by then.
abbrev pub TightMeansReady : ℕ → List Job → Type 0
TightMeansReady clock js =
    (e : ℕ) → clock < e → due_by js e + clock ≡ e → NoWindowOverfull clock js →
    (j : Job) × Has js j × Ready clock j × (j.deadline ≤ e)

-- Before u no schedule that keeps the guarantees gives the waiting orders more slots than there is slack at any b from u on.
abbrev pub SoftWithinSlack : Commitments → Type 0
SoftWithinSlack c =
    WellFormed c → (s : Schedule) → Keeps s c →
    (u b : ℕ) → u ≤ b → c.clock ≤ b → Slack c.clock c.jobs b (soft_slots s c u)
