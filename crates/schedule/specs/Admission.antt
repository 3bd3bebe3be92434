-- The windows that one more job must lie in, and what the jobs there leave for it.
use Rattle.std.specs.Prelude.{ℕ, ◌+◌, ◌-◌, ◌≤◌, List}
use Rattle.schedule.specs.declared.job.Job.{Job}
use Rattle.schedule.specs.Windows.{start, demand}

-- The jobs that must lie in the window from a up to b leave room there for one more job.
abbrev pub RoomFor : ℕ → List Job → Job → ℕ → ℕ → Type 0
RoomFor clock js new a b = demand clock js a b + new.left ≤ b - a

-- They do so in every window from a on in which the new job must lie.
abbrev pub RoomFrom : ℕ → List Job → Job → ℕ → Type 0
RoomFrom clock js new a = (b : ℕ) → new.deadline ≤ b → RoomFor clock js new a b

-- They do so in every window in which the new job must lie.
abbrev pub RoomWhereverItLies : ℕ → List Job → Job → Type 0
RoomWhereverItLies clock js new = (a : ℕ) → clock ≤ a → a ≤ start clock new → RoomFrom clock js new a
