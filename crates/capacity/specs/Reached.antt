-- The meanings that a book can come to have: it is cleared, and then called in any way, refused or not.
use Rattle.std.specs.Prelude.{ℕ, ◌≤◌, Option}
use Rattle.capacity.specs.Calls.{cleared, cut_leaves, owe_leaves, forgive_leaves, run_leaves}
use Rattle.capacity.specs.Meaning.{Meaning}

pub data Reached : Meaning → Type 0 where
  by_clear : (h : ℕ) → 1 ≤ h → Reached (cleared h)
  by_cut : {m : Meaning} → Reached m → (d : ℕ) → Reached (cut_leaves m d)
  by_owe : {m : Meaning} → Reached m → (d c : ℕ) → Reached (owe_leaves m d c)
  by_forgive : {m : Meaning} → Reached m → (d c : ℕ) → Reached (forgive_leaves m d c)
  by_run : {m : Meaning} → Reached m → (owner : Option ℕ) → Reached (run_leaves m owner)
