-- What a book means, whatever it keeps: its clock, its horizon, and its boundaries with the demand due at each.
use Rattle.std.specs.Prelude.{ℕ, List}
use Rattle.capacity.specs.declared.boundary.Boundary.{Boundary}

pub record Meaning : Type 0 where
  pub clock : ℕ
  pub horizon : ℕ
  pub boundaries : List Boundary
