-- One pass from the last interval to the first mends the spares for several slots.
use Rattle.std.proofs.Common.{◌≡◌, ℕ, zero, suc, ◌+◌, ◌-◌, ◌<◌, ◌≤◌, List, [], ◌∷◌, length, get_or, set, ℤ, pos, ◌+ℤ◌, sym, refl, ap, ◌∙◌, subst, ⊎_elim, arith, length-set}
use Rattle.std.specs.Int.{int_min}
use Rattle.std.proofs.lemmas.List.{ext_get_or, get_or_read}
use Rattle.std.proofs.lemmas.Int.{ints, clamps}
use Rattle.std.proofs.lemmas.Bool.{cases_lt}
use Rattle.capacity.specs.declared.boundary.Boundary.{Boundary}
use Rattle.capacity.specs.Intervals.{boundary_at, start_at}
use Rattle.capacity.specs.Noted.{unserved, first_end}
use Rattle.capacity.proofs.Noted.{length_unserved, end_unserved, due_unserved, start_unserved}
use Rattle.capacity.proofs.Suffixes.{short_from, short_at, short_past, spare_at, fits_at}
use Rattle.slot_book.specs.Carry.{span_at}
use Rattle.slot_book.specs.Mend.{start_of, Mendable}
use Rattle.slot_book.specs.Spans.{spans_of, dues_of}
use Rattle.slot_book.specs.declared.span.Span.{Span}
use Rattle.slot_book.proofs.Walking.{set_here, set_there}
use Rattle.slot_book.proofs.Books.{length_dues, length_spans, end_told, start_told, spare_of, spare_told}

-- the demands that are left, and their records
abbrev pub left_of_dues : ℕ → List Span → List ℕ → List Boundary
left_of_dues s xs ns = unserved (dues_of s xs) ns

-- the records from place p on are mended, and those before it are as they were
pub record Mending (s t : ℕ) (xs ys : List Span) (ns : List ℕ) (p before after : ℕ) : Type 0 where
  pub within : p ≤ length xs
  pub lengths : length ys ≡ length xs
  pub untouched : (k : ℕ) → k < p → span_at ys k ≡ span_at xs k
  pub done : (k : ℕ) → p ≤ k → k < length xs → span_at ys k ≡ span_at (spans_of t (left_of_dues s xs ns)) k
  pub was : before ≡ short_from s (dues_of s xs) p
  pub is : after ≡ short_from t (left_of_dues s xs ns) p
  pub less : 0 < p → after ≤ before

pub mending_begins :
    (s t : ℕ) (xs : List Span) (ns : List ℕ) (n : ℕ) → n ≡ length xs → Mending s t xs xs ns n 0 0
mending_begins s t xs ns n all =
    let bs = dues_of s xs in
    let old : n ≡ length bs = omega (arith, length_dues s xs) in
    let new : n ≡ length (unserved bs ns) = omega (arith, length_dues s xs, length_unserved bs ns) in
    record {
      within = omega arith;
      lengths = refl;
      untouched = λ k lt. refl;
      done = λ k ge lt. absurd (omega arith);
      was = sym (short_past s bs n (omega (arith, old)));
      is = sym (short_past t (unserved bs ns) n (omega (arith, new)));
      less = λ lt. omega arith;
    }

-- what is known of the record x whose turn it is, before it is mended
pub record Turn (s t : ℕ) (ys : List Span) (q before due : ℕ) (x : Span) : Type 0 where
  pub wide : start_of s ys q ≤ x.end
  pub wide_now : start_of t ys q ≤ x.end
  pub fits : due + before ≤ x.end
  pub law : x.spare +ℤ pos (start_of s ys q + due + before) ≡ pos x.end

-- starts are those of the records before
starts_same :
    (u : ℕ) (xs ys : List Span) (q : ℕ) → ((k : ℕ) → k < q → span_at ys k ≡ span_at xs k) →
    start_of u ys q ≡ start_of u xs q
starts_same u xs ys zero same = refl
starts_same u xs ys (suc q) same = ap (λ x. x.end) (same q (omega arith))

-- later intervals begin where they began
starts_agree : (s t : ℕ) (ys : List Span) (q : ℕ) → 0 < q → start_of s ys q ≡ start_of t ys q
starts_agree s t ys zero lt = absurd (omega arith)
starts_agree s t ys (suc q) lt = refl

now_wide :
    (s t : ℕ) (xs : List Span) (q : ℕ) → Mendable s xs → t ≤ first_end s (dues_of s xs) → q < length xs →
    start_of t xs q ≤ (span_at xs q).end
now_wide s t [] q m le lt = absurd (omega arith)
now_wide s t (x ∷ xs) zero m le lt = le
now_wide s t (x ∷ xs) (suc q) m le lt = m.wide (suc q) lt

turn_at :
    (s t : ℕ) (xs : List Span) (q : ℕ) → Mendable s xs → t ≤ first_end s (dues_of s xs) → q < length xs →
    Turn s t xs q (short_from s (dues_of s xs) (suc q)) (boundary_at (dues_of s xs) q).due (span_at xs q)
turn_at s t xs q m le lt =
    let bs = dues_of s xs in
    let within : q < length bs = omega (arith, length_dues s xs) in
    let ends = end_told s xs q in
    let start = start_told s s xs q (omega arith) in
    let spare = spare_told s xs q m.fair in
    let worth = spare_at s bs q within in
    let fits : (boundary_at bs q).due + short_from s bs (suc q) ≤ (span_at xs q).end = omega (arith, fits_at s bs q m.bounded within) in
    let law : (span_at xs q).spare +ℤ pos (start_of s xs q + (boundary_at bs q).due + short_from s bs (suc q)) ≡ pos (span_at xs q).end =
    omega (arith, ints)
    in
    let wide = m.wide q lt in
    record {
      wide = wide;
      wide_now = now_wide s t xs q m le lt;
      fits = fits;
      law = law;
    }

-- what an interval lacks, from its spare
lacks_is : (z : ℤ) (n e u : ℕ) → pos n +ℤ int_min (pos 0) z ≡ pos 0 → z +ℤ pos u ≡ pos e → n ≡ u - e
lacks_is z n e u none law = omega (arith, ints, clamps)

-- two records with one end and one use
same_span : (x y : Span) (u : ℕ) → x.end ≡ y.end → x.spare +ℤ pos u ≡ pos x.end → y.spare +ℤ pos u ≡ pos y.end → x ≡ y
same_span x y u ends mine its =
    let spares : x.spare ≡ y.spare = omega (arith, ints) in
    rw (← ends, ← spares) refl

-- the ends of the records to come
ends_of : (t : ℕ) (bs : List Boundary) (k : ℕ) → (span_at (spans_of t bs) k).end ≡ (boundary_at bs k).end
ends_of t [] k = refl
ends_of t (b ∷ bs) zero = refl
ends_of t (b ∷ bs) (suc k) = ends_of b.end bs k

-- the turn of the interval at place q
module _ (s t : ℕ) (xs ys : List Span) (ns : List ℕ) (q before after : ℕ) (g : Mending s t xs ys ns (suc q) before after) where
  as_was : span_at ys q ≡ span_at xs q
  as_was = g.untouched q (omega arith)

  begins : (u : ℕ) → start_of u ys q ≡ start_of u xs q
  begins u = starts_same u xs ys q (λ k lt. g.untouched k (omega arith))

  turn :
      Mendable s xs → t ≤ first_end s (dues_of s xs) →
      Turn s t ys q before (boundary_at (dues_of s xs) q).due (span_at ys q)
  turn m le =
      let at = turn_at s t xs q m le (omega (arith, g.within)) in
      record {
        wide = rw (as_was, begins s) at.wide;
        wide_now = rw (as_was, begins t) at.wide_now;
        fits = rw (as_was, g.was) at.fits;
        law = rw (as_was, begins s, g.was) at.law;
      }

  old_end : (boundary_at (dues_of s xs) q).end ≡ (span_at ys q).end
  old_end = end_told s xs q ∙ ap (λ x. x.end) (sym as_was)

  new_end : (boundary_at (left_of_dues s xs ns) q).end ≡ (span_at ys q).end
  new_end = end_unserved (dues_of s xs) ns q ∙ old_end

  old_start : start_at s (dues_of s xs) q ≡ start_of s ys q
  old_start = start_told s s xs q (omega (arith, g.within)) ∙ sym (begins s)

  new_start : start_at t (left_of_dues s xs ns) q ≡ start_of t ys q
  new_start = start_unserved t (dues_of s xs) ns q ∙ start_told s t xs q (omega (arith, g.within)) ∙ sym (begins t)

  length_left : length (left_of_dues s xs ns) ≡ length xs
  length_left = length_unserved (dues_of s xs) ns ∙ length_dues s xs

  -- the record that is mended is the one of the demands that are left
  mended_is :
      (r : Span) → r.end ≡ (span_at ys q).end →
      r.spare +ℤ pos (start_of t ys q + (((boundary_at (dues_of s xs) q).due - get_or ns q 0) + after)) ≡ pos (span_at ys q).end →
      r ≡ span_at (spans_of t (left_of_dues s xs ns)) q
  mended_is r ends spare =
      let bs' = left_of_dues s xs ns in
      let worth = spare_at t bs' q (omega (arith, g.within, length_left)) in
      let takes = start_of t ys q + (((boundary_at (dues_of s xs) q).due - get_or ns q 0) + after) in
      let all : start_at t bs' q + (boundary_at bs' q).due + short_from t bs' (suc q) ≡ takes =
      omega (arith, g.is, new_start, due_unserved (dues_of s xs) ns q)
      in
      same_span r (span_at (spans_of t bs') q) takes (ends ∙ sym (ends_of t bs' q ∙ new_end)) (rw ends spare)
      (rw (spare_of t bs' q) (rw (all, sym (ends_of t bs' q)) at worth))

  mends :
      (r : Span) (before' after' : ℕ) → Turn s t ys q before (boundary_at (dues_of s xs) q).due (span_at ys q) →
      r.end ≡ (span_at ys q).end →
      r.spare +ℤ pos (start_of t ys q + (((boundary_at (dues_of s xs) q).due - get_or ns q 0) + after)) ≡ pos (span_at ys q).end →
      pos before' +ℤ int_min (pos 0) (span_at ys q).spare ≡ pos 0 →
      pos after' +ℤ int_min (pos 0) r.spare ≡ pos 0 →
      Mending s t xs (set ys q r) ns q before' after'
  mends r before' after' at ends spare was is =
      let bs = dues_of s xs in
      let bs' = left_of_dues s xs ns in
      let inside : q < length ys = omega (arith, g.within, g.lengths) in
      let old = lacks_is (span_at ys q).spare before' _ _ was at.law in
      let new = lacks_is r.spare after' _ _ is spare in
      let short-old = short_at s bs q (omega (arith, g.within, length_dues s xs)) in
      let short-new = short_at t bs' q (omega (arith, g.within, length_left)) in
      let due-new = due_unserved bs ns q in
      record {
        within = omega (arith, g.within);
        lengths = simp length-set g.lengths;
        untouched = λ k lt. set_there ys q k r (omega arith) ∙ g.untouched k (omega arith);
        done =
            λ k ge lt.
            ⊎_elim
            (λ (later : q < k). set_there ys q k r (omega arith) ∙ g.done k (omega arith) lt)
            (λ (le : k ≤ q). let here : k ≡ q = omega arith in rw here (set_here ys q r inside ∙ mended_is r ends spare))
            (cases_lt q k);
        was = omega (arith, g.was, old_start, old_end);
        is = omega (arith, g.is, new_start, new_end);
        less = λ lt. omega (arith, starts_agree s t ys q lt, g.less (omega arith), old_start, new_start, old_end, new_end);
      }

pub mending_ends :
    (s t : ℕ) (xs ys : List Span) (ns : List ℕ) (p before after : ℕ) → Mending s t xs ys ns p before after → p ≡ 0 →
    ys ≡ spans_of t (left_of_dues s xs ns)
mending_ends s t xs ys ns p before after g all =
    let bs' = left_of_dues s xs ns in
    let lengths : length ys ≡ length (spans_of t bs') =
    omega (arith, g.lengths, length_spans t bs', length_unserved (dues_of s xs) ns, length_dues s xs)
    in
    ext_get_or (record { end = 0; spare = pos 0 }) ys (spans_of t bs') lengths
    (λ k lt. g.done k (omega arith) (omega (arith, g.lengths)))

-- the same of the interval before a place, of which x is the record as it was read
pub turn_before :
    (s t : ℕ) (xs ys : List Span) (ns : List ℕ) (p before after : ℕ) (x : Span) → Mending s t xs ys ns p before after →
    0 < p →
    x ≡ get_or ys (p - 1) x →
    Mendable s xs →
    t ≤ first_end s (dues_of s xs) →
    Turn s t ys (p - 1) before (boundary_at (dues_of s xs) (p - 1)).due x
turn_before s t xs ys ns zero before after x g lt read m le = absurd (omega arith)
turn_before s t xs ys ns (suc q) before after x g lt read m le =
    let e : suc q - 1 ≡ q = omega arith in
    let held : x ≡ span_at ys q = get_or_read ys q x (omega (arith, g.within, g.lengths)) (rw e at read) _ in
    let P : Span → Type 0 = λ y. Turn s t ys q before (boundary_at (dues_of s xs) q).due y in
    rw e (subst P (sym held) (turn s t xs ys ns q before after g m le))

pub mends_before :
    (s t : ℕ) (xs ys : List Span) (ns : List ℕ) (p before after left : ℕ) (x r : Span) (before' after' : ℕ) →
    Mending s t xs ys ns p before after →
    0 < p →
    x ≡ get_or ys (p - 1) x →
    Turn s t ys (p - 1) before (boundary_at (dues_of s xs) (p - 1)).due x →
    left ≡ (boundary_at (dues_of s xs) (p - 1)).due - get_or ns (p - 1) 0 →
    r.end ≡ x.end →
    r.spare +ℤ pos (start_of t ys (p - 1) + (left + after)) ≡ pos x.end →
    pos before' +ℤ int_min (pos 0) x.spare ≡ pos 0 →
    pos after' +ℤ int_min (pos 0) r.spare ≡ pos 0 →
    Mending s t xs (set ys (p - 1) r) ns (p - 1) before' after'
mends_before s t xs ys ns zero before after left x r before' after' g lt read at due ends spare was is = absurd (omega arith)
mends_before s t xs ys ns (suc q) before after left x r before' after' g lt read at due ends spare was is =
    let e : suc q - 1 ≡ q = omega arith in
    let held : x ≡ span_at ys q = get_or_read ys q x (omega (arith, g.within, g.lengths)) (rw e at read) _ in
    rw e
    (mends s t xs ys ns q before after g r before' after' (rw (e, held) at at) (rw held at ends) (rw (e, held) at (rw due at spare))
    (rw held at was) is)

-- what is left of a demand, worked out from the spare, and what is then used of the interval
pub record Left (x : Span) (before due used left n after : ℕ) : Type 0 where
  pub taken : before ≤ used
  pub less : left ≡ due - n
  pub fits : left + after ≤ x.end

pub left_is :
    (s t : ℕ) (ys : List Span) (q before due : ℕ) (x : Span) (start used left n after : ℕ) → Turn s t ys q before due x →
    start ≡ start_of s ys q →
    x.spare +ℤ pos (start + used) ≡ pos x.end →
    left ≡ used - before - n →
    after ≤ before →
    Left x before due used left n after
left_is s t ys q before due x start used left n after at starts uses lefts less =
    let whole : used ≡ due + before = omega (arith, ints, at.law) in
    record { taken = omega arith; less = omega arith; fits = omega (arith, at.fits) }
