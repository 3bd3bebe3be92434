-- Carrying a change back, interval by interval, gives the spares of the changed demands.
use Rattle.std.proofs.Common.{◌≡◌, ℕ, zero, suc, ◌<◌, List, [], ◌∷◌, length, set, ℤ, pos, ◌+ℤ◌, refl, ap, arith}
use Rattle.std.proofs.lemmas.Int.{ints, clamps}
use Rattle.capacity.specs.declared.boundary.Boundary.{Boundary}
use Rattle.capacity.specs.Intervals.{boundary_at}
use Rattle.capacity.specs.Spare.{first_spare}
use Rattle.slot_book.specs.Carry.{with_more, handed_on, gain, carried, span_at}
use Rattle.slot_book.specs.Spans.{spans_of}
use Rattle.slot_book.specs.declared.span.Span.{Span}

more_none : (x : Span) → with_more x (pos 0) ≡ x
more_none x = let e : x.spare +ℤ pos 0 ≡ x.spare = omega (arith, ints) in rw e refl

-- one step of the walk: the change is made at place k + 1, and what it hands on is left to carry from place k
step_gain :
    (x : Span) (xs : List Span) (k : ℕ) (z : ℤ) → suc k < length (x ∷ xs) →
    gain (x ∷ xs) (suc k) z
    ≡ gain (set (x ∷ xs) (suc k) (with_more (span_at (x ∷ xs) (suc k)) z)) k (handed_on (span_at (x ∷ xs) (suc k)).spare z)
step_gain x [] k z lt = absurd (omega arith)
step_gain x (y ∷ xs) zero z lt = refl
step_gain x (y ∷ []) (suc k) z lt = absurd (omega arith)
step_gain x (y ∷ (w ∷ xs)) (suc k) z lt = ap (handed_on y.spare) (step_gain y (w ∷ xs) k z (omega arith))

step :
    (xs : List Span) (k : ℕ) (z : ℤ) → suc k < length xs →
    carried xs (suc k) z
    ≡ carried (set xs (suc k) (with_more (span_at xs (suc k)) z)) k (handed_on (span_at xs (suc k)).spare z)
step [] k z lt = absurd (omega arith)
step (x ∷ []) k z lt = absurd (omega arith)
step (x ∷ (y ∷ xs)) zero z lt = refl
step (x ∷ (y ∷ xs)) (suc k) z lt =
    let g = step_gain x (y ∷ xs) (suc k) z lt in
    let rest = step (y ∷ xs) k z (omega arith) in
    rw (g, rest) refl

-- the walk ends where nothing is handed on
stop_gain :
    (x : Span) (xs : List Span) (k : ℕ) (z : ℤ) → suc k < length (x ∷ xs) →
    handed_on (span_at (x ∷ xs) (suc k)).spare z ≡ pos 0 →
    gain (x ∷ xs) (suc k) z ≡ pos 0
stop_gain x [] k z lt none = absurd (omega arith)
stop_gain x (y ∷ xs) zero z lt none = none
stop_gain x (y ∷ []) (suc k) z lt none = absurd (omega arith)
stop_gain x (y ∷ (w ∷ xs)) (suc k) z lt none =
    let g = stop_gain y (w ∷ xs) k z (omega arith) none in
    rw g (omega (arith, ints, clamps))

pub stop :
    (xs : List Span) (k : ℕ) (z : ℤ) → k < length xs → handed_on (span_at xs k).spare z ≡ pos 0 →
    carried xs k z ≡ set xs k (with_more (span_at xs k) z)
stop [] k z lt none = absurd (omega arith)
stop (x ∷ xs) zero z lt none = refl
stop (x ∷ xs) (suc k) z lt none =
    let g = stop_gain x xs k z lt none in
    let rest = stop xs k z (omega arith) none in
    rw (g, rest) (ap (λ y. y ∷ set xs k (with_more (span_at xs k) z)) (more_none x))

-- the change itself is made at place k, and no interval is lost
pub carried_here :
    (xs : List Span) (k : ℕ) (z : ℤ) → k < length xs → span_at (carried xs k z) k ≡ with_more (span_at xs k) z
carried_here [] k z lt = absurd (omega arith)
carried_here (x ∷ xs) zero z lt = refl
carried_here (x ∷ xs) (suc k) z lt = carried_here xs k z (omega arith)

pub length_carried : (xs : List Span) (k : ℕ) (z : ℤ) → length (carried xs k z) ≡ length xs
length_carried [] k z = refl
length_carried (x ∷ xs) zero z = refl
length_carried (x ∷ xs) (suc k) z = ap suc (length_carried xs k z)

-- what is still to carry over the first n intervals
abbrev pub carried_left : List Span → ℕ → ℤ → List Span
carried_left xs zero z = xs
carried_left xs (suc k) z = carried xs k z

pub carried_on :
    (xs : List Span) (k : ℕ) (z : ℤ) → k < length xs →
    carried xs k z ≡ carried_left (set xs k (with_more (span_at xs k) z)) k (handed_on (span_at xs k).spare z)
carried_on [] k z lt = absurd (omega arith)
carried_on (x ∷ xs) zero z lt = refl
carried_on (x ∷ xs) (suc k) z lt = step (x ∷ xs) k z lt

-- another demand at place k: the spares change as if the difference were carried back from there
first_changed :
    (s : ℕ) (b : Boundary) (bs : List Boundary) (k c : ℕ) (z : ℤ) → k < length (b ∷ bs) →
    z +ℤ pos c ≡ pos (boundary_at (b ∷ bs) k).due →
    first_spare s (set (b ∷ bs) k (record { end = (boundary_at (b ∷ bs) k).end; due = c }))
    ≡ first_spare s (b ∷ bs) +ℤ gain (spans_of s (b ∷ bs)) k z
first_changed s b bs zero c z lt is = omega (arith, ints)
first_changed s b [] (suc k) c z lt is = absurd (omega arith)
first_changed s b (d ∷ bs) (suc k) c z lt is =
    let rest = first_changed b.end d bs k c z (omega arith) is in
    rw rest (omega (arith, ints))

pub spans_changed :
    (s : ℕ) (bs : List Boundary) (k c : ℕ) (z : ℤ) → k < length bs → z +ℤ pos c ≡ pos (boundary_at bs k).due →
    spans_of s (set bs k (record { end = (boundary_at bs k).end; due = c })) ≡ carried (spans_of s bs) k z
spans_changed s [] k c z lt is = absurd (omega arith)
spans_changed s (b ∷ bs) zero c z lt is =
    let first = first_changed s b bs zero c z lt is in
    rw first refl
spans_changed s (b ∷ bs) (suc k) c z lt is =
    let first = first_changed s b bs (suc k) c z lt is in
    let rest = spans_changed b.end bs k c z (omega arith) is in
    rw (first, rest) refl
