-- The limits of the cart, as the clauses name them.
use Rattle.std.specs.Prelude.{ℕ}

-- The longest horizon, in slots.
abbrev pub longest_horizon : ℕ
longest_horizon = 1000000

-- How many boundaries a book holds at most.
abbrev pub most_boundaries : ℕ
most_boundaries = 128
