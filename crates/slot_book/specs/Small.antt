-- Numbers of at most a longest horizon, above and below nought. Every spare is such a number, so that the difference of two
-- fits an i32.
use Rattle.std.specs.Prelude.{ℤ, pos, ◌+ℤ◌, ◌≤ℤ◌}
use Rattle.terms.specs.Limits.{longest_horizon}

abbrev pub Small : ℤ → Type 0
Small z = (pos 0 ≤ℤ (z +ℤ pos longest_horizon)) × (z ≤ℤ pos longest_horizon)
