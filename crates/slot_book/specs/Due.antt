-- Demands at boundaries that are known by their places.
use Rattle.std.specs.Prelude.{ℕ, List, slice_set}
use Rattle.capacity.specs.declared.boundary.Boundary.{Boundary}
use Rattle.capacity.specs.Calls.{with_boundaries}
use Rattle.capacity.specs.Intervals.{boundary_at}
use Rattle.capacity.specs.Meaning.{Meaning}

-- c is due at the boundary at place k from now on; the other boundaries stay as they are.
abbrev pub with_due_at : List Boundary → ℕ → ℕ → List Boundary
with_due_at bs k c = slice_set bs k (record { end = (boundary_at bs k).end; due = c })

-- What is due at the boundary at place k; nothing where there is none.
abbrev pub due_there : Meaning → ℕ → ℕ
due_there m k = (boundary_at m.boundaries k).due

-- The same book with c due at the boundary at place k.
abbrev pub owing_there : Meaning → ℕ → ℕ → Meaning
owing_there m k c = with_boundaries m (with_due_at m.boundaries k c)
