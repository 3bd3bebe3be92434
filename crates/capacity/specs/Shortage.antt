-- What intervals lack. A book on its own may owe more than fits, so this is not always nothing; a bound on it bounds every
-- number in a book.
use Rattle.std.specs.Prelude.{ℕ, ◌+◌, ◌-◌, List, [], ◌∷◌}
use Rattle.capacity.specs.declared.boundary.Boundary.{Boundary}

-- How many slots before s the intervals from s on take: what the spare capacity of the first lacks to nought.
abbrev pub short : ℕ → List Boundary → ℕ
short s [] = 0
short s (b ∷ bs) = s + b.due + short b.end bs - b.end
