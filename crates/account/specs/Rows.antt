-- A line of the account, from what a book says of an interval.
use Rattle.std.specs.Prelude.{◌≡◌, ℕ, ◌+◌, ◌-◌, ◌≤◌, ℤ, pos, ◌+ℤ◌, ◌-ℤ◌, IfOk, Result}
use Rattle.std.specs.Int.{int_min}
use Rattle.terms.specs.Answers.{Said, mapped}
use Rattle.terms.specs.declared.refusal.Refusal.{Refusal}
use Rattle.capacity.specs.Calls.{spare_says}
use Rattle.capacity.specs.Intervals.{start_at, boundary_at}
use Rattle.capacity.specs.Meaning.{Meaning}
use Rattle.capacity.specs.Spare.{spare}
use Rattle.account.specs.declared.rows.Row.{Row}

-- What is due at an interval's end, from its width, its spare capacity and that of the next interval.
abbrev pub due_from : ℕ → ℤ → ℤ → ℤ
due_from w spare next = (pos w -ℤ spare) +ℤ int_min (pos 0) next

-- Interval i of a book, said to run from s to e.
abbrev pub row_says : Meaning → ℕ → ℕ → ℕ → Said Row
row_says m i s e =
    mapped
    (λ z. record { interval = i; from = s; to = e; width = e - s; due = due_from (e - s) z (spare m (i + 1)); spare = z })
    (spare_says m i)

-- If it does run from s to e, what is worked out to be due at its end is what the book holds there.
abbrev pub DueAsHeld : Meaning → ℕ → ℕ → ℕ → Result Row Refusal → Type 0
DueAsHeld m i s e r =
    s ≡ start_at m.clock m.boundaries (i - 1) →
    e ≡ (boundary_at m.boundaries (i - 1)).end →
    s ≤ e →
    IfOk r (λ x. x.due ≡ pos (boundary_at m.boundaries (i - 1)).due)
