-- Several calls in a row: a book that is filled from demands with their deadlines, and slots that pass one after another.
use Rattle.std.specs.Prelude.{ℕ, List, [], ◌∷◌, Option}
use Rattle.capacity.specs.declared.boundary.Boundary.{Boundary}
use Rattle.capacity.specs.Meaning.{Meaning}
use Rattle.capacity.specs.Calls.{cut_leaves, owe_leaves, run_leaves}

-- Each deadline is cut, and its demand owed there.
abbrev pub filled : Meaning → List Boundary → Meaning
filled m [] = m
filled m (b ∷ bs) = filled (owe_leaves (cut_leaves m b.end) b.end b.due) bs

-- A slot passes for each owner in turn.
abbrev pub ran : Meaning → List (Option ℕ) → Meaning
ran m [] = m
ran m (o ∷ os) = ran (run_leaves m o) os
