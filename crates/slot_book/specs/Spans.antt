-- Spares and demands determine each other. Intervals lie one behind the other: the first begins at s, each other one where
-- the interval before it ends.
use Rattle.std.specs.Prelude.{ℕ, if◌then◌else◌, List, [], ◌∷◌, ℤ, pos, ◌+ℤ◌, ◌-ℤ◌, ◌==◌}
use Rattle.std.specs.Int.{int_min}
use Rattle.capacity.specs.declared.boundary.Boundary.{Boundary}
use Rattle.capacity.specs.Spare.{first_spare, positive_part}
use Rattle.slot_book.specs.declared.span.Span.{Span}

-- The records of a book with these demands: each interval with its spare capacity.
abbrev pub spans_of : ℕ → List Boundary → List Span
spans_of s [] = []
spans_of s (b ∷ bs) = record { end = b.end; spare = first_spare s (b ∷ bs) } ∷ spans_of b.end bs

-- The spare capacity of the next interval; nought behind the last.
abbrev pub next_spare : List Span → ℤ
next_spare [] = pos 0
next_spare (x ∷ xs) = x.spare

-- What is due at the end of an interval: its width less its spare capacity, less what the next one takes of it.
abbrev pub due_of : ℕ → Span → List Span → ℕ
due_of s x xs = positive_part (((pos x.end -ℤ pos s) -ℤ x.spare) +ℤ int_min (pos 0) (next_spare xs))

-- The demands that these records tell.
abbrev pub dues_of : ℕ → List Span → List Boundary
dues_of s [] = []
dues_of s (x ∷ xs) = record { end = x.end; due = due_of s x xs } ∷ dues_of x.end xs

-- The intervals without the first, if that ends at t.
abbrev pub later_spans : ℕ → List Span → List Span
later_spans t [] = []
later_spans t (x ∷ xs) = if x.end == t then xs else x ∷ xs
