-- An interval that begins at s is split at d.
use Rattle.std.specs.Prelude.{ℕ, pos, ◌-ℤ◌}
use Rattle.std.specs.Int.{int_min}
use Rattle.slot_book.specs.declared.span.Span.{Span}

-- The part before d can spare what the interval could, and no more than its width.
abbrev pub left_of : Span → ℕ → ℕ → Span
left_of x s d = record { end = d; spare = int_min (pos d -ℤ pos s) x.spare }

-- The part behind d has to do without that width.
abbrev pub right_of : Span → ℕ → ℕ → Span
right_of x s d = record { end = x.end; spare = x.spare -ℤ (pos d -ℤ pos s) }
