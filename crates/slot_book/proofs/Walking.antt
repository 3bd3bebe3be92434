-- The walk back, as it stands before each step.
use Rattle.std.proofs.Common.{◌≡◌, ℕ, suc, ◌+◌, ◌<◌, ◌≤◌, ◌≢◌, List, length, get_or, set, ℤ, pos, ◌+ℤ◌, ◌≤ℤ◌, ◌<ℤ◌, sym, ap, ◌∙◌, ⊎_elim, arith, length-set, get_or-set_other, get_or-set_same}
use Rattle.std.proofs.lemmas.Int.{ints, clamps, by_lt_z}
use Rattle.std.proofs.lemmas.Bool.{cases_lt}
use Rattle.std.proofs.lemmas.List.{get_or_default}
use Rattle.slot_book.specs.Carry.{with_more, handed_on, carried, span_at, Rose, AllSmall}
use Rattle.slot_book.specs.Small.{Small}
use Rattle.slot_book.specs.declared.span.Span.{Span}
use Rattle.slot_book.proofs.Carrying.{stop, carried_here, length_carried, carried_left, carried_on}

-- what is left to carry over the first `left` intervals leads to the whole change; these are as they were, and so are those
-- behind `from`
pub record Walking (old now : List Span) (from left : ℕ) (whole change : ℤ) : Type 0 where
  pub back : left ≤ from + 1
  pub inside : from < length now
  pub leads : carried_left now left change ≡ carried old from whole
  pub ahead : (k : ℕ) → k < left → span_at now k ≡ span_at old k
  pub behind : (k : ℕ) → from < k → span_at now k ≡ span_at old k
  pub one : whole ≡ pos 1 → change ≡ pos 1
  pub rose : whole ≡ pos 1 → (k : ℕ) → left ≤ k → k ≤ from → span_at now k ≡ with_more (span_at old k) (pos 1)
  pub negative : whole ≡ pos 1 → (k : ℕ) → left ≤ k → k ≤ from → (span_at old k).spare <ℤ pos 0

-- where the walk stands, the spare will be one of those that it leads to
pub standing_small :
    (old now : List Span) (from p : ℕ) (whole change : ℤ) (d : Span) → Walking old now from (suc p) whole change →
    AllSmall (carried old from whole) →
    Small ((get_or now p d).spare +ℤ change)
standing_small old now from p whole change d w small =
    let inside : p < length now = omega (arith, w.back, w.inside) in
    let here = ap (λ xs. (span_at xs p).spare) (sym w.leads) ∙ ap (λ x. x.spare) (carried_here now p change inside) in
    let long : length (carried old from whole) ≡ length now = ap length (sym w.leads) ∙ length_carried now p change in
    rw (get_or_default now p d (record { end = 0; spare = pos 0 }) inside) (rw here at (small p (omega arith)))

-- one slot is handed on by a spare below nought, and by no other
handed_one : (a : ℤ) → (handed_on a (pos 1) ≡ pos 0 → ⊥) → (handed_on a (pos 1) ≡ pos 1) × (a <ℤ pos 0)
handed_one a some =
    by_lt_z a (pos 0) (λ low. (omega (arith, ints, clamps), low))
    (λ high. let none : handed_on a (pos 1) ≡ pos 0 = omega (arith, ints, clamps) in absurd (some none))

handed_none : (a : ℤ) → handed_on a (pos 1) ≡ pos 0 → pos 0 ≤ℤ a
handed_none a none = omega (arith, ints, clamps)

pub set_here : (xs : List Span) (k : ℕ) (r : Span) → k < length xs → span_at (set xs k r) k ≡ r
set_here xs k r lt = rw get_or-set_same

pub set_there : (xs : List Span) (k j : ℕ) (r : Span) → j ≢ k → span_at (set xs k r) j ≡ span_at xs j
set_there xs k j r ne = rw get_or-set_other

-- the change is made where the walk stands: it raises by one where the walk began so
raised :
    (old now : List Span) (from p : ℕ) (whole change : ℤ) → Walking old now from (suc p) whole change → whole ≡ pos 1 →
    (k : ℕ) → p ≤ k → k ≤ from →
    span_at (set now p (with_more (span_at now p) change)) k ≡ with_more (span_at old k) (pos 1)
raised old now from p whole change w e k ge le =
    ⊎_elim
    (λ (lt : p < k). set_there now p k _ (omega arith) ∙ w.rose e k lt le)
    (λ (le' : k ≤ p).
    let here : k ≡ p = omega arith in
    rw here
    (set_here now p _ (omega (arith, w.back, w.inside)) ∙ ap (with_more (span_at now p)) (w.one e)
    ∙ ap (λ y. with_more y (pos 1)) (w.ahead p (omega arith))))
    (cases_lt p k)

-- something is handed on, and the walk goes on
goes_on :
    (old now : List Span) (from p : ℕ) (whole change : ℤ) → Walking old now from (suc p) whole change →
    (handed_on (span_at now p).spare change ≡ pos 0 → ⊥) →
    Walking old (set now p (with_more (span_at now p) change)) from p whole (handed_on (span_at now p).spare change)
goes_on old now from p whole change w some =
    let inside : p < length now = omega (arith, w.back, w.inside) in
    let one = λ (e : whole ≡ pos 1). handed_one (span_at now p).spare (λ none. some (rw (w.one e) none)) in
    record {
      back = omega (arith, w.back);
      inside = simp length-set w.inside;
      leads = sym (carried_on now p change inside) ∙ w.leads;
      ahead = λ k lt. set_there now p k _ (omega arith) ∙ w.ahead k (omega arith);
      behind = λ k gt. set_there now p k _ (omega (arith, w.back)) ∙ w.behind k gt;
      one = λ e. rw (w.one e) (one e).0;
      rose = raised old now from p whole change w;
      negative =
          λ e k ge le.
          ⊎_elim
          (λ (lt : p < k). w.negative e k lt le)
          (λ (le' : k ≤ p). let here : k ≡ p = omega arith in rw here (rw (w.ahead p (omega arith)) at (one e).1))
          (cases_lt p k);
    }

-- nothing is handed on, and the walk is over
stops :
    (old now : List Span) (from p : ℕ) (whole change : ℤ) → Walking old now from (suc p) whole change →
    handed_on (span_at now p).spare change ≡ pos 0 →
    whole ≡ pos 1 →
    Rose old (set now p (with_more (span_at now p) change)) from p
stops old now from p whole change w none e =
    record {
      back = omega (arith, w.back);
      rose = raised old now from p whole change w e;
      stayed = λ k lt. set_there now p k _ (omega arith) ∙ w.ahead k (omega arith);
      stayed_behind = λ k gt. set_there now p k _ (omega (arith, w.back)) ∙ w.behind k gt;
      negative = w.negative e;
      ended = λ later. rw (w.ahead p (omega arith)) at (handed_none (span_at now p).spare (rw (w.one e) at none));
    }

-- a turn of the walk, with the record as it was read, r as it is written, and what is handed on
module _ (old now : List Span) (from p : ℕ) (whole change : ℤ) (d r : Span) (next : ℤ) (w : Walking old now from (suc p) whole change) (changed : r ≡ with_more (get_or now p d) change) (handed : next ≡ handed_on (get_or now p d).spare change) where
  read : get_or now p d ≡ span_at now p
  read = get_or_default now p d _ (omega (arith, w.back, w.inside))

  pub turn_goes_on : (next ≡ pos 0 → ⊥) → Walking old (set now p r) from p whole next
  turn_goes_on some =
      rw
      (changed, handed, read)
      (goes_on old now from p whole change w (λ none. some (handed ∙ ap (λ x. handed_on x.spare change) read ∙ none)))

  pub turn_stops :
      next ≡ pos 0 → (set now p r ≡ carried old from whole) × (whole ≡ pos 1 → Rose old (set now p r) from p)
  turn_stops none =
      let last = ap (λ x. handed_on x.spare change) (sym read) ∙ sym handed ∙ none in
      let inside : p < length now = omega (arith, w.back, w.inside) in (
        rw (changed, read) (sym (stop now p change inside last) ∙ w.leads),
        λ e. rw (changed, read) (stops old now from p whole change w last e),
      )
