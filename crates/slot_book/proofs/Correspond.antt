-- Spares and demands determine each other.
use Rattle.std.proofs.Common.{◌≡◌, ℕ, ◌≤◌, true, List, [], ◌∷◌, ℤ, pos, ◌+ℤ◌, ◌-ℤ◌, sym, refl, ap, ◌∙◌, arith}
use Rattle.std.specs.Int.{int_min}
use Rattle.std.proofs.lemmas.Int.{ints}
use Rattle.capacity.specs.declared.boundary.Boundary.{Boundary}
use Rattle.capacity.specs.Shortage.{short}
use Rattle.capacity.specs.Slack.{rises}
use Rattle.capacity.specs.Spare.{first_spare, positive_part}
use Rattle.capacity.proofs.Naturals.{positive_part_is}
use Rattle.slot_book.specs.declared.span.Span.{Span}
use Rattle.slot_book.specs.Spans.{spans_of, next_spare, due_of, dues_of}

pub next_spare_is : (s : ℕ) (bs : List Boundary) → next_spare (spans_of s bs) ≡ first_spare s bs
next_spare_is s [] = refl
next_spare_is s (b ∷ bs) = refl

worked_out :
    (s e c : ℕ) (z next m : ℤ) → z ≡ ((pos e -ℤ pos s) -ℤ pos c) +ℤ m → m ≡ int_min (pos 0) next →
    positive_part (((pos e -ℤ pos s) -ℤ z) +ℤ int_min (pos 0) next) ≡ c
worked_out s e c z next m law is =
    positive_part_is (((pos e -ℤ pos s) -ℤ z) +ℤ int_min (pos 0) next) c 0 (omega (arith, ints)) ∙ omega arith

-- the demands that the spares of demands tell are these demands
pub dues_spans : (s : ℕ) (bs : List Boundary) → dues_of s (spans_of s bs) ≡ bs
dues_spans s [] = refl
dues_spans s (b ∷ bs) =
    let rest = dues_spans b.end bs in
    let next = next_spare_is b.end bs in
    let due : due_of s (record { end = b.end; spare = first_spare s (b ∷ bs) }) (spans_of b.end bs) ≡ b.due =
    worked_out s b.end b.due (first_spare s (b ∷ bs)) (next_spare (spans_of b.end bs))
    (int_min (pos 0) (first_spare b.end bs)) refl (ap (int_min (pos 0)) (sym next))
    in
    rw (due, rest) refl

-- what the ghost fields of a book ask of its records
pub record Sound (s h : ℕ) (xs : List Span) : Type 0 where
  pub fair : spans_of s (dues_of s xs) ≡ xs
  pub ordered : rises s (dues_of s xs) h ≡ true
  pub bounded : short s (dues_of s xs) ≤ s

pub told : (s : ℕ) (bs : List Boundary) (xs : List Span) → xs ≡ spans_of s bs → dues_of s xs ≡ bs
told s bs xs is = ap (dues_of s) is ∙ dues_spans s bs

-- the records are sound once they are the spares of sound demands
pub sound :
    (s h : ℕ) (bs : List Boundary) (xs : List Span) → xs ≡ spans_of s bs → rises s bs h ≡ true → short s bs ≤ s →
    Sound s h xs
sound s h bs xs is ordered bounded =
    let same = told s bs xs is in
    record {
      fair = ap (spans_of s) same ∙ sym is;
      ordered = rw same ordered;
      bounded = rw same bounded;
    }
