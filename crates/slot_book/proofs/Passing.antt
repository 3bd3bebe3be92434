-- A slot that passes: the first interval is narrower by it, and goes when it ends.
use Rattle.std.proofs.Common.{◌≡◌, ℕ, ◌+◌, ◌-◌, ◌<◌, ◌≤◌, List, [], ◌∷◌, length, set, negsuc, ◌+ℤ◌, sym, refl, ap, ⊎_elim, arith}
use Rattle.std.proofs.lemmas.Int.{ints}
use Rattle.std.proofs.lemmas.Bool.{cases_lt, lt-ltb, le-ltb, eq-eqb, ne_eqb}
use Rattle.capacity.specs.declared.boundary.Boundary.{Boundary}
use Rattle.capacity.specs.Calls.{later_than}
use Rattle.capacity.specs.Intervals.{boundary_at}
use Rattle.capacity.specs.Noted.{first_end}
use Rattle.capacity.specs.Spare.{first_spare}
use Rattle.slot_book.specs.Carry.{span_at, with_more}
use Rattle.slot_book.specs.Spans.{spans_of, later_spans}

-- a slot for nobody costs the first interval one spare slot
pub spans_narrower :
    (s : ℕ) (bs : List Boundary) → 0 < length bs →
    spans_of (s + 1) bs ≡ set (spans_of s bs) 0 (with_more (span_at (spans_of s bs) 0) (negsuc 0))
spans_narrower s [] some = absurd (omega arith)
spans_narrower s (b ∷ bs) some =
    let first : first_spare (s + 1) (b ∷ bs) ≡ first_spare s (b ∷ bs) +ℤ negsuc 0 = omega (arith, ints) in
    rw first refl

-- a slot for the first boundary costs nothing
pub spans_served :
    (s : ℕ) (bs : List Boundary) → 0 < length bs → 1 ≤ (boundary_at bs 0).due →
    spans_of (s + 1) (set bs 0 (record { end = (boundary_at bs 0).end; due = (boundary_at bs 0).due - 1 })) ≡ spans_of s bs
spans_served s [] some due = absurd (omega arith)
spans_served s (b ∷ bs) some due =
    let first : first_spare (s + 1) (record { end = b.end; due = b.due - 1 } ∷ bs) ≡ first_spare s (b ∷ bs) =
    omega (arith, ints)
    in
    rw first refl

-- the record of an interval that has ended goes with its boundary
pub spans_later :
    (t : ℕ) (bs : List Boundary) → t ≤ first_end t bs → spans_of t (later_than t bs) ≡ later_spans t (spans_of t bs)
spans_later t [] le = refl
spans_later t (b ∷ bs) le =
    ⊎_elim
    (λ (lt : t < b.end).
    rw (lt-ltb t b.end lt, ne_eqb b.end t (omega arith)) refl)
    (λ (ge : b.end ≤ t).
    let e : b.end ≡ t = omega arith in
    rw (le-ltb t b.end ge, eq-eqb b.end t e) (ap (λ u. spans_of u bs) (sym e)))
    (cases_lt t b.end)
