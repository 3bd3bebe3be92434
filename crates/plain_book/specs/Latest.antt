-- The latest start of the work: the slot by which it must start, so that each boundary's demand is done by that boundary.
use Rattle.std.specs.Prelude.{ℕ, ◌-◌, min, List, [], ◌∷◌}
use Rattle.capacity.specs.declared.boundary.Boundary.{Boundary}

-- Of the work due at b and later, where the work due later must start at `behind`.
abbrev pub latest_start : ℕ → Boundary → ℕ
latest_start behind b = min b.end behind - b.due

-- Of all work; where no boundary is left it is the horizon h.
abbrev pub latest : ℕ → List Boundary → ℕ
latest h [] = h
latest h (b ∷ bs) = latest_start (latest h bs) b
