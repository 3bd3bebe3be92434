-- What is known of the records of a book, by their places.
use Rattle.std.proofs.Common.{◌≡◌, ℕ, zero, suc, ◌+◌, ◌-◌, ◌<◌, ◌≤◌, List, [], ◌∷◌, length, get_or, pos, ◌+ℤ◌, vec_items, sym, refl, ap, ◌∙◌, subst, add-one, arith, rules, Option, Some, None, Bor, ◌<◌}
use Rattle.std.proofs.lemmas.List.{get_or_read}
use Rattle.std.specs.Int.{int_min}
use Rattle.std.specs.Option.{MatchOption}
use Rattle.std.specs.List.{HoldsAt}
use Rattle.std.proofs.lemmas.Int.{ints, clamps}
use Rattle.capacity.specs.declared.boundary.Boundary.{Boundary}
use Rattle.capacity.specs.Intervals.{boundary_at, start_at}
use Rattle.capacity.specs.Spare.{spares}
use Rattle.capacity.proofs.Suffixes.{placed_at, short_from, short_past}
use Rattle.terms.specs.Limits.{most_boundaries}
use Rattle.slot_book.specs.Carry.{span_at, AllSmall}
use Rattle.slot_book.specs.Mend.{start_of}
use Rattle.slot_book.specs.Slot.{slot_boundaries}
use Rattle.slot_book.specs.Spans.{spans_of, dues_of}
use Rattle.slot_book.specs.declared.slot.SlotBook.{SlotBook}
use Rattle.slot_book.specs.declared.span.Span.{Span}
use Rattle.slot_book.proofs.Correspond.{Sound}

pub length_dues : (s : ℕ) (xs : List Span) → length (dues_of s xs) ≡ length xs
length_dues s [] = refl
length_dues s (x ∷ xs) = ap suc (length_dues x.end xs)

pub length_spans : (s : ℕ) (bs : List Boundary) → length (spans_of s bs) ≡ length bs
length_spans s [] = refl
length_spans s (b ∷ bs) = ap suc (length_spans b.end bs)

-- the ends are the boundaries
pub end_told : (s : ℕ) (xs : List Span) (k : ℕ) → (boundary_at (dues_of s xs) k).end ≡ (span_at xs k).end
end_told s [] k = refl
end_told s (x ∷ xs) zero = refl
end_told s (x ∷ xs) (suc k) = end_told x.end xs k

pub start_told : (s t : ℕ) (xs : List Span) (k : ℕ) → k ≤ length xs → start_at t (dues_of s xs) k ≡ start_of t xs k
start_told s t xs zero le = refl
start_told s t [] (suc k) le = absurd (omega arith)
start_told s t (x ∷ xs) (suc zero) le = refl
start_told s t (x ∷ xs) (suc (suc k)) le = start_told x.end x.end xs (suc k) (omega arith)

pub spare_of : (s : ℕ) (bs : List Boundary) (k : ℕ) → (span_at (spans_of s bs) k).spare ≡ get_or (spares s bs) k (pos 0)
spare_of s [] k = refl
spare_of s (b ∷ bs) zero = refl
spare_of s (b ∷ bs) (suc k) = spare_of b.end bs k

-- the spares are those of the demands that they tell
pub spare_told :
    (s : ℕ) (xs : List Span) (k : ℕ) → spans_of s (dues_of s xs) ≡ xs →
    (span_at xs k).spare ≡ get_or (spares s (dues_of s xs)) k (pos 0)
spare_told s xs k fair = ap (λ ys. (span_at ys k).spare) (sym fair) ∙ spare_of s (dues_of s xs) k

pub all_small :
    (s : ℕ) (xs : List Span) (h : ℕ) → Sound s h xs → h ≤ 1000000 → AllSmall xs
all_small s xs h sound ranged k lt =
    let at = placed_at s (dues_of s xs) h k sound.ordered sound.bounded (omega (arith, length_dues s xs)) in
    let is = spare_told s xs k sound.fair in
    (omega (arith, ints, at.wide, at.early, at.fits, at.spare), omega (arith, ints, at.wide, at.early, at.fits, at.spare))

-- what is known of the record at a place of a book, as it was read there: in natural numbers but for the spare
pub record Read (b : SlotBook) (x : Span) (k : ℕ) : Type 0 where
  pub ends : x.end ≡ (boundary_at (slot_boundaries b) k).end
  pub wide : start_at b.time.clock (slot_boundaries b) k < x.end
  pub early : x.end ≤ b.time.horizon
  pub fits : (boundary_at (slot_boundaries b) k).due + short_from b.time.clock (slot_boundaries b) (k + 1) ≤ x.end
  pub lacks :
      short_from b.time.clock (slot_boundaries b) k
      ≡ start_at b.time.clock (slot_boundaries b) k + (boundary_at (slot_boundaries b) k).due
      + short_from b.time.clock (slot_boundaries b) (k + 1)
      - x.end
  pub spare :
      x.spare
      +ℤ pos
      (start_at b.time.clock (slot_boundaries b) k + (boundary_at (slot_boundaries b) k).due
      + short_from b.time.clock (slot_boundaries b) (k + 1))
      ≡ pos x.end

pub read_at : (b : SlotBook) (k : ℕ) → k < length (vec_items b.spans) → Read b (span_at (vec_items b.spans) k) k
read_at b k lt =
    let xs = vec_items b.spans in
    let bs = slot_boundaries b in
    let at = placed_at b.time.clock bs b.time.horizon k b.ordered b.bounded (omega (arith, length_dues b.time.clock xs)) in
    let ends = end_told b.time.clock xs k in
    let next : short_from b.time.clock bs (k + 1) ≡ short_from b.time.clock bs (suc k) = ap (short_from b.time.clock bs) (add-one k) in
    let used = start_at b.time.clock bs k + (boundary_at bs k).due + short_from b.time.clock bs (suc k) in
    record {
      ends = sym ends;
      wide = rw ends at at.wide;
      early = rw ends at at.early;
      fits = rw next (rw ends at at.fits);
      lacks = rw next (at.lacks ∙ omega arith);
      spare = rw next (ap (λ z. z +ℤ pos used) (spare_told b.time.clock xs k b.fair) ∙ at.spare ∙ ap pos ends);
    }

pub read_in :
    (b : SlotBook) (x : Span) (k : ℕ) → k < length (vec_items b.spans) → x ≡ get_or (vec_items b.spans) k x → Read b x k
read_in b x k lt read =
    let P : Span → Type 0 = λ y. Read b y k in
    subst P (sym (get_or_read (vec_items b.spans) k x lt read _)) (read_at b k lt)

-- there are no more boundaries than a book may hold
pub slot_few : (b : SlotBook) → length (slot_boundaries b) ≤ most_boundaries
slot_few b =
    let same = length_dues b.time.clock (vec_items b.spans) in
    let few : length (vec_items b.spans) ≤ most_boundaries = search rules in
    omega arith

-- what the intervals from a place on lack, from the record there if there is one
pub lacking_told :
    (b : SlotBook) (k n : ℕ) (xs : List Span) (o : Option (Bor Span)) (P : Bor Span → Type 0) → xs ≡ vec_items b.spans →
    MatchOption o (length xs ≤ k) (λ x. (k < length xs) × HoldsAt (λ y. x.now ≡ y) xs k) →
    MatchOption o (n ≡ 0) P →
    ((x : Bor Span) → P x → pos n +ℤ int_min (pos 0) x.now.spare ≡ pos 0) →
    n ≡ short_from b.time.clock (slot_boundaries b) k
lacking_told b k n xs None P same past none says =
    let past' : length (vec_items b.spans) ≤ k = rw same at past in
    none ∙ sym (short_past b.time.clock (slot_boundaries b) k (omega (arith, length_dues b.time.clock (vec_items b.spans))))
lacking_told b k n xs (Some x) P same held gave says =
    let at = read_in b x.now k (rw same at held.0) (rw same at (held.1 x.now)) in
    omega (arith, ints, clamps, at.lacks, at.spare, says x gave)
