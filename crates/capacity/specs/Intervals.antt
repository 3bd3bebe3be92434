-- The intervals of a book, by their places from 0 on: interval i stands at place i - 1.
use Rattle.std.specs.Prelude.{ℕ, zero, suc, List, [], ◌∷◌, slice_index_or}
use Rattle.capacity.specs.declared.boundary.Boundary.{Boundary}

-- Where the interval at place k begins: at s, or where the one before it ends.
abbrev pub start_at : ℕ → List Boundary → ℕ → ℕ
start_at s bs zero = s
start_at s [] (suc k) = s
start_at s (b ∷ bs) (suc k) = start_at b.end bs k

-- The boundary at place k, where the interval ends.
abbrev pub boundary_at : List Boundary → ℕ → Boundary
boundary_at bs k = slice_index_or bs k (record { end = 0; due = 0 })
