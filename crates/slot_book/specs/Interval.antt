-- An interval of a slot-by-slot book: the slot where it ends, and its spare capacity.
use Rattle.std.specs.Prelude.{ℕ, ◌≤◌, ℤ}
use Rattle.terms.specs.Limits.{longest_horizon}
use Rattle.slot_book.specs.Small.{Small}

pub record Interval : Type 0 where
  pub end : ℕ
  pub spare : ℤ

-- The interval ends no later than the longest horizon, and its spare is small.
pub record IsWithinHorizon (end : ℕ) (spare : ℤ) : Type 0 where
  pub early : end ≤ longest_horizon
  pub small : Small spare
