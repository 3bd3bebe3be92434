-- The place of a slot among boundaries that rise.
use Rattle.std.specs.Prelude.{◌≡◌, ℕ, ◌<◌, ◌≤◌, true, false, List, length, Ok, Err, Result, slice_set}
use Rattle.std.specs.List.{insert}
use Rattle.terms.specs.Answers.{number_of}
use Rattle.terms.specs.declared.refusal.Refusal.{Refusal}
use Rattle.capacity.specs.declared.boundary.Boundary.{Boundary}
use Rattle.capacity.specs.Calls.{is_boundary, due_at, is_due, with_due, with_boundary}
use Rattle.capacity.specs.Intervals.{boundary_at}
use Rattle.capacity.specs.Meaning.{Meaning}

-- d is the boundary at place i.
pub record Stands (bs : List Boundary) (d i : ℕ) : Type 0 where
  pub within : i < length bs
  pub held : is_boundary bs d ≡ true
  pub ends : (boundary_at bs i).end ≡ d
  pub owes : (boundary_at bs i).due ≡ due_at bs d
  pub sets : (c : ℕ) → with_due bs d c ≡ slice_set bs i (record { end = d; due = c })

-- d is no boundary, and would be the one at place i.
pub record Lacks (bs : List Boundary) (d i : ℕ) : Type 0 where
  pub within : i ≤ length bs
  pub before : (k : ℕ) → k < i → (boundary_at bs k).end < d
  pub behind : i < length bs → d < (boundary_at bs i).end
  pub new : is_boundary bs d ≡ false
  pub puts : with_boundary bs d ≡ insert bs i (record { end = d; due = 0 })

-- What a search for d answers.
abbrev pub Found : List Boundary → ℕ → Result ℕ ℕ → Type 0
Found bs d (Ok i) = Stands bs d i
Found bs d (Err i) = Lacks bs d i

-- What a search for a boundary with at least c due at d answers: its place, or refusal 6.
abbrev pub Owing : Meaning → ℕ → ℕ → Result ℕ Refusal → Type 0
Owing m d c (Ok i) = Stands m.boundaries d i × (is_due m d c ≡ true)
Owing m d c (Err e) = (number_of e ≡ 6) × (is_due m d c ≡ false)
