-- Schedules: who gets which slot, and when a schedule keeps the guarantees or serves an order.
use Rattle.std.specs.Prelude.{◌≡◌, ℕ, zero, suc, ◌+◌, ◌<◌, ◌≤◌, Bool, false, if◌then◌else◌, ◌&&◌, ◌||◌, List, [], ◌∷◌, ◌++◌, map, Some, None, Option, ◌==◌, nat_eq, nat_le}
use Rattle.std.specs.List.{IsDistinct, AllByRecursion}
use Rattle.schedule.specs.declared.job.Job.{Job}
use Rattle.schedule.specs.declared.soft.SoftOrder.{SoftOrder}

-- What the cart is committed to at a moment: its clock, its horizon, the guaranteed jobs, and the soft orders that wait.
pub record Commitments : Type 0 where
  pub clock : ℕ
  pub horizon : ℕ
  pub jobs : List Job
  pub waiting : List SoftOrder

-- The numbers of the jobs, of the waiting orders, and of both.
abbrev pub job_numbers : List Job → List ℕ
job_numbers js = map (λ j. j.number) js

abbrev pub order_numbers : List SoftOrder → List ℕ
order_numbers os = map (λ o. o.number) os

-- No number stands for two jobs or orders, and no deadline lies behind the horizon.
abbrev pub WellFormed : Commitments → Type 0
WellFormed c =
    IsDistinct nat_eq (job_numbers c.jobs ++ order_numbers c.waiting) × AllByRecursion (λ j. j.deadline ≤ c.horizon) c.jobs

-- A schedule gives each slot to a number, or to nobody. Its slots are those from the clock up to the horizon.
abbrev pub Schedule : Type 0
Schedule = ℕ → Option ℕ

-- A slot that went to an owner went to the number n.
abbrev pub went_to : ℕ → Option ℕ → Bool
went_to n None = false
went_to n (Some m) = n == m

-- It went to one of these numbers.
abbrev pub went_to_any : List ℕ → Option ℕ → Bool
went_to_any [] owner = false
went_to_any (n ∷ ns) owner = went_to n owner || went_to_any ns owner

-- 1 if so, and otherwise 0.
abbrev pub one_if : Bool → ℕ
one_if b = if b then 1 else 0

-- How many of the slots from a on and before b are such that p.
abbrev pub slots : (ℕ → Bool) → ℕ → ℕ → ℕ
slots p a zero = 0
slots p a (suc b) = slots p a b + one_if (nat_le a b && p b)

-- How many of these slots a schedule gives the number n.
abbrev pub given : Schedule → ℕ → ℕ → ℕ → ℕ
given s n a b = slots (λ u. went_to n (s u)) a b

-- From the clock to the horizon a job gets exactly what is left of its demand, and no slot outside its window.
abbrev pub GetsItsDemand : Schedule → ℕ → ℕ → Job → Type 0
GetsItsDemand s clock horizon j =
    (given s j.number clock horizon ≡ j.left)
    × ((u : ℕ) → clock ≤ u → u < horizon → s u ≡ Some j.number → (j.release ≤ u) × (u < j.deadline))

-- A schedule keeps the guarantees if each job that is not done gets its demand, and each waiting order at most what is left of it.
abbrev pub Keeps : Schedule → Commitments → Type 0
Keeps s c =
    AllByRecursion (λ j. 1 ≤ j.left → GetsItsDemand s c.clock c.horizon j) c.jobs
    × AllByRecursion (λ o. given s o.number c.clock c.horizon ≤ o.left) c.waiting

-- It serves an order if it also gives that its demand.
abbrev pub Serves : Schedule → Commitments → Job → Type 0
Serves s c order = Keeps s c × GetsItsDemand s c.clock c.horizon order

-- Some schedule keeps the guarantees; some schedule also serves an order.
abbrev pub CanBeKept : Commitments → Type 0
CanBeKept c = (s : Schedule) × Keeps s c

abbrev pub CanBeServed : Commitments → Job → Type 0
CanBeServed c order = (s : Schedule) × Serves s c order

-- How many slots before u a schedule gives the orders that wait.
abbrev pub soft_slots : Schedule → Commitments → ℕ → ℕ
soft_slots s c u = slots (λ v. went_to_any (order_numbers c.waiting) (s v)) c.clock u
