-- A new boundary splits an interval: what it had to spare is shared out, and nothing before it changes.
use Rattle.std.proofs.Common.{◌≡◌, ℕ, zero, suc, ◌<◌, ◌≤◌, List, [], ◌∷◌, length, set, pos, ◌-ℤ◌, refl, arith}
use Rattle.std.specs.List.{insert}
use Rattle.std.specs.Int.{int_min}
use Rattle.std.proofs.lemmas.Int.{ints, clamps}
use Rattle.capacity.specs.declared.boundary.Boundary.{Boundary}
use Rattle.capacity.specs.Intervals.{start_at}
use Rattle.capacity.specs.Spare.{first_spare}
use Rattle.slot_book.specs.Carry.{span_at}
use Rattle.slot_book.specs.Spans.{spans_of}
use Rattle.slot_book.specs.Split.{left_of, right_of}

-- the two parts of the first interval
first_part :
    (s d : ℕ) (b : Boundary) (bs : List Boundary) →
    first_spare s (record { end = d; due = 0 } ∷ (b ∷ bs)) ≡ int_min (pos d -ℤ pos s) (first_spare s (b ∷ bs))
first_part s d b bs = omega (arith, ints, clamps)

second_part :
    (s d : ℕ) (b : Boundary) (bs : List Boundary) →
    first_spare d (b ∷ bs) ≡ first_spare s (b ∷ bs) -ℤ (pos d -ℤ pos s)
second_part s d b bs = omega (arith, ints)

-- what the intervals take from before them stays
takes_same :
    (s : ℕ) (bs : List Boundary) (i d : ℕ) → i < length bs → start_at s bs i ≤ d →
    int_min (pos 0) (first_spare s (insert bs i (record { end = d; due = 0 }))) ≡ int_min (pos 0) (first_spare s bs)
takes_same s [] i d lt le = absurd (omega arith)
takes_same s (b ∷ bs) zero d lt le = let e = first_part s d b bs in rw e (omega (arith, ints, clamps))
takes_same s (b ∷ bs) (suc i) d lt le = let more = takes_same b.end bs i d (omega arith) le in rw more refl

pub spans_split :
    (s : ℕ) (bs : List Boundary) (i d : ℕ) → i < length bs → start_at s bs i ≤ d →
    spans_of s (insert bs i (record { end = d; due = 0 }))
    ≡ insert (set (spans_of s bs) i (right_of (span_at (spans_of s bs) i) (start_at s bs i) d)) i
    (left_of (span_at (spans_of s bs) i) (start_at s bs i) d)
spans_split s [] i d lt le = absurd (omega arith)
spans_split s (b ∷ bs) zero d lt le =
    let first = first_part s d b bs in
    let second = second_part s d b bs in
    rw (first, second) refl
spans_split s (b ∷ bs) (suc i) d lt le =
    let same = takes_same b.end bs i d (omega arith) le in
    let rest = spans_split b.end bs i d (omega arith) le in
    rw (same, rest) refl
