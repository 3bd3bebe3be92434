-- Windows, and how much must be done in each: no window is overfull exactly when some schedule keeps the guarantees.
use Rattle.std.specs.Prelude.{ℕ, ◌+◌, ◌≤◌, max, Bool, if◌then◌else◌, ◌&&◌, ◌↔◌, List, ◌∷◌, IsTrue, sum_by, nat_le}
use Rattle.schedule.specs.declared.job.Job.{Job}
use Rattle.schedule.specs.Schedules.{Commitments, WellFormed, CanBeKept, CanBeServed}

-- The first slot that a job can still have.
abbrev pub start : ℕ → Job → ℕ
start clock j = max j.release clock

-- A job must lie in the window from a up to b: it can have no slot before a, and none from b on.
abbrev pub lies_in : ℕ → ℕ → ℕ → Job → Bool
lies_in clock a b j = nat_le a (start clock j) && nat_le j.deadline b

-- What a job needs of that window.
abbrev pub need : ℕ → ℕ → ℕ → Job → ℕ
need clock a b j = if lies_in clock a b j then j.left else 0

-- The left demand of all jobs that must lie in that window.
abbrev pub demand : ℕ → List Job → ℕ → ℕ → ℕ
demand clock js a b = sum_by (need clock a b) js

-- No window is overfull: the jobs that must lie in one have no more left than it has slots.
abbrev pub NoWindowOverfull : ℕ → List Job → Type 0
NoWindowOverfull clock js = (a b : ℕ) → clock ≤ a → a ≤ b → demand clock js a b + a ≤ b

-- The guarantees can be kept exactly when no window is overfull.
abbrev pub KeptIfNoWindowOverfull : Commitments → Type 0
KeptIfNoWindowOverfull c = WellFormed c → (CanBeKept c ↔ NoWindowOverfull c.clock c.jobs)

-- The same commitments and one more job.
abbrev pub with_job : Commitments → Job → Commitments
with_job c j = record { clock = c.clock; horizon = c.horizon; jobs = j ∷ c.jobs; waiting = c.waiting }

-- The answer to an order is exact: where the guarantees can be kept it is yes exactly when the order can be served as well.
abbrev pub VerdictExact : Commitments → Job → Bool → Type 0
VerdictExact c order answer = WellFormed (with_job c order) → CanBeKept c → IsTrue answer ↔ CanBeServed c order
