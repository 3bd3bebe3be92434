-- What a changed spare does to the intervals before it: an interval takes from the one before it as much as it is below nought,
-- and hands the change of that on.
use Rattle.std.specs.Prelude.{◌≡◌, ℕ, zero, suc, ◌<◌, ◌≤◌, List, [], ◌∷◌, length, ℤ, pos, ◌+ℤ◌, ◌-ℤ◌, ◌≤ℤ◌, ◌<ℤ◌, slice_index_or}
use Rattle.std.specs.Int.{int_min}
use Rattle.slot_book.specs.Small.{Small}
use Rattle.slot_book.specs.declared.span.Span.{Span}

-- The same interval with z more to spare.
abbrev pub with_more : Span → ℤ → Span
with_more x z = record { end = x.end; spare = x.spare +ℤ z }

-- What the interval before gains when this one has z more to spare.
abbrev pub handed_on : ℤ → ℤ → ℤ
handed_on spare z = int_min (pos 0) (spare +ℤ z) -ℤ int_min (pos 0) spare

-- What the first interval gains when the one at place k has z more to spare.
abbrev pub gain : List Span → ℕ → ℤ → ℤ
gain [] k z = pos 0
gain (x ∷ xs) zero z = z
gain (x ∷ []) (suc k) z = pos 0
gain (x ∷ (y ∷ xs)) (suc k) z = handed_on y.spare (gain (y ∷ xs) k z)

-- The interval at place k has z more to spare, and each before it gains what the next one hands on.
abbrev pub carried : List Span → ℕ → ℤ → List Span
carried [] k z = []
carried (x ∷ xs) zero z = with_more x z ∷ xs
carried (x ∷ xs) (suc k) z = with_more x (gain (x ∷ xs) (suc k) z) ∷ carried xs k z

-- The record at a place.
abbrev pub span_at : List Span → ℕ → Span
span_at xs k = slice_index_or xs k (record { end = 0; spare = pos 0 })

-- Which spares rise by a raise of one: those from `from` back to `to`, and no others. All behind `to` were negative, and `to` was
-- not, unless it is the first.
pub record Rose (old new : List Span) (from to : ℕ) : Type 0 where
  pub back : to ≤ from
  pub rose : (k : ℕ) → to ≤ k → k ≤ from → span_at new k ≡ with_more (span_at old k) (pos 1)
  pub stayed : (k : ℕ) → k < to → span_at new k ≡ span_at old k
  pub stayed_behind : (k : ℕ) → from < k → span_at new k ≡ span_at old k
  pub negative : (k : ℕ) → to < k → k ≤ from → (span_at old k).spare <ℤ pos 0
  pub ended : 0 < to → pos 0 ≤ℤ (span_at old to).spare

-- Every spare is small.
abbrev pub AllSmall : List Span → Type 0
AllSmall xs = (k : ℕ) → k < length xs → Small (span_at xs k).spare
