-- What the changes of a slot-by-slot book keep.
use Rattle.std.proofs.Common.{◌≡◌, ℕ, None, Bool, false, eqb, ◌+◌, ◌-◌, ◌<◌, ◌≤◌, true, [], ◌∷◌, ltb, leb, List, length, get_or, set, ℤ, pos, negsuc, ◌+ℤ◌, ◌-ℤ◌, vec_items, vec_len, Vec, sym, refl, ap, ◌∙◌, arith, length-set}
use Rattle.std.specs.Vec.{with_items}
use Rattle.std.specs.List.{insert}
use Rattle.std.specs.declared.alloc.Global.{Global}
use Rattle.std.proofs.lemmas.List.{with_items_is, get_or_read}
use Rattle.std.proofs.lemmas.Int.{ints}
use Rattle.std.proofs.lemmas.Bool.{eqb-false, and_parts, ltb-true, leb-true}
use Rattle.terms.specs.Answers.{value, refuse}
use Rattle.capacity.specs.declared.boundary.Boundary.{Boundary}
use Rattle.capacity.specs.Calls.{due_at, with_due, with_boundary, to_come, later_than, with_boundaries, passed}
use Rattle.capacity.specs.Meaning.{Meaning}
use Rattle.capacity.specs.Intervals.{boundary_at, start_at}
use Rattle.capacity.specs.Noted.{unserved, first_end, caught_up}
use Rattle.capacity.specs.Places.{Stands, Lacks}
use Rattle.capacity.specs.Shortage.{short}
use Rattle.capacity.specs.Slack.{rises}
use Rattle.capacity.specs.Spare.{headroom}
use Rattle.capacity.proofs.Keeps.{boundary_later, rises_with_due, rises_with_boundary, short_with_less, short_with_more, short_with_boundary, slot_left, rises_after, short_after, rises_later, short_later}
use Rattle.capacity.proofs.Least.{rises_le}
use Rattle.capacity.proofs.Naturals.{headroom_is_room}
use Rattle.capacity.proofs.Noted.{first_end_unserved, rises_unserved, short_unserved}
use Rattle.capacity.proofs.Passing.{some_left, first_end_of, first_end_later, within_first}
use Rattle.capacity.proofs.Places.{stands, ends_rise, place_inside, start_before}
use Rattle.capacity.proofs.Slots.{boundary_within}
use Rattle.capacity.proofs.Suffixes.{placed_at}
use Rattle.slot_book.specs.Carry.{AllSmall, carried, span_at, with_more}
use Rattle.slot_book.specs.Due.{with_due_at, due_there, owing_there}
use Rattle.slot_book.specs.Mend.{Mendable}
use Rattle.slot_book.specs.Slot.{slot_meaning, slot_boundaries}
use Rattle.slot_book.specs.Spans.{spans_of, dues_of, later_spans}
use Rattle.slot_book.specs.Small.{Small}
use Rattle.slot_book.specs.Split.{left_of, right_of}
use Rattle.slot_book.specs.declared.slot.SlotBook.{SlotBook}
use Rattle.slot_book.specs.declared.span.Span.{Span}
use Rattle.slot_book.proofs.Books.{length_dues, start_told, read_at, read_in, all_small}
use Rattle.slot_book.proofs.Carrying.{spans_changed}
use Rattle.slot_book.proofs.Correspond.{Sound, sound, told}
use Rattle.slot_book.proofs.Passing.{spans_narrower, spans_served, spans_later}
use Rattle.slot_book.proofs.Rooms.{headroom_small}
use Rattle.slot_book.proofs.Splitting.{spans_split}

-- new records of a book that means m with them
pub record Tells (s h : ℕ) (ys : List Span) (m : Meaning) : Type 0 where
  pub keeps : Sound s h ys
  pub means : record { clock = s; horizon = h; boundaries = dues_of s ys } ≡ m

tell :
    (s h : ℕ) (ys : List Span) (bs : List Boundary) → ys ≡ spans_of s bs → rises s bs h ≡ true → short s bs ≤ s →
    Tells s h ys (record { clock = s; horizon = h; boundaries = bs })
tell s h ys bs is ordered bounded =
    record {
      keeps = sound s h bs ys is ordered bounded;
      means = ap (λ xs. record { clock = s; horizon = h; boundaries = xs }) (told s bs ys is);
    }

pub tells_small : (b : SlotBook) (ys : List Span) (m : Meaning) → Tells b.time.clock b.time.horizon ys m → AllSmall ys
tells_small b ys m t = all_small b.time.clock ys b.time.horizon t.keeps b.time.ranged

-- the boundary at a place, as it is known by its end
pub stands_at :
    (b : SlotBook) (k : ℕ) → k < length (slot_boundaries b) →
    Stands (slot_boundaries b) (boundary_at (slot_boundaries b) k).end k
stands_at b k within =
    stands (slot_boundaries b) _ k
    (λ j lt. ends_rise b.time.clock (slot_boundaries b) b.time.horizon j k b.ordered lt within) within refl

-- where d stands, the demand at its place is the demand at d
pub due_by_place : {bs : List Boundary} {d k : ℕ} → Stands bs d k → (c : ℕ) → with_due_at bs k c ≡ with_due bs d c
due_by_place at c = rw at.ends (sym (at.sets c))

pub less_due :
    {bs : List Boundary} {d k : ℕ} → Stands bs d k → (c : ℕ) →
    with_due_at bs k ((boundary_at bs k).due - c) ≡ with_due bs d (due_at bs d - c)
less_due {bs} {d} {k} at c = due_by_place at _ ∙ ap (λ n. with_due bs d (n - c)) at.owes

-- the records after a walk over all of them
pub carried_items :
    (v : Vec Span Global) (ws lent : List Span) (k : ℕ) (z change : ℤ) → length ws ≡ v.len → ws ≡ carried lent k z →
    z ≡ change →
    lent ≡ vec_items v →
    (with_items v ws).items ≡ carried (vec_items v) k change
carried_items v ws lent k z change whole after amount was =
    with_items_is v ws whole ∙ after ∙ ap (carried lent k) amount ∙ ap (λ xs. carried xs k change) was

-- another demand at a place
due_changed :
    (b : SlotBook) (k c : ℕ) (z : ℤ) (ys : List Span) → k < length (slot_boundaries b) →
    z +ℤ pos c ≡ pos (boundary_at (slot_boundaries b) k).due →
    short b.time.clock (with_due_at (slot_boundaries b) k c) ≤ b.time.clock →
    ys ≡ carried (vec_items b.spans) k z →
    Tells b.time.clock b.time.horizon ys (owing_there (slot_meaning b) k c)
due_changed b k c z ys within law bounded is =
    let bs = slot_boundaries b in
    let at = stands_at b k within in
    let new : ys ≡ spans_of b.time.clock (with_due_at bs k c) =
    is ∙ ap (λ xs. carried xs k z) (sym b.fair) ∙ sym (spans_changed b.time.clock bs k c z within law)
    in
    tell b.time.clock b.time.horizon ys (with_due_at bs k c) new
    (rw (sym (due_by_place at c)) at (rises_with_due b.time.clock bs b.time.horizon (boundary_at bs k).end c b.ordered)) bounded

pub forgiven :
    (b : SlotBook) (k c : ℕ) (ys : List Span) → k < length (slot_boundaries b) →
    c ≤ (boundary_at (slot_boundaries b) k).due →
    ys ≡ carried (vec_items b.spans) k (pos c) →
    Tells b.time.clock b.time.horizon ys (owing_there (slot_meaning b) k (due_there (slot_meaning b) k - c))
forgiven b k c ys within le is =
    let bs = slot_boundaries b in
    let at = stands_at b k within in
    let left = (boundary_at bs k).due - c in
    let less = short_with_less b.time.clock bs (boundary_at bs k).end left (omega (arith, at.owes)) in
    due_changed b k left (pos c) ys within (ap pos (omega arith))
    (rw (due_by_place at left) (omega (arith, less, b.bounded))) is

pub owed :
    (b : SlotBook) (k c : ℕ) (ys : List Span) → k < length (slot_boundaries b) →
    c ≤ headroom (slot_meaning b) (boundary_at (slot_boundaries b) k).end →
    ys ≡ carried (vec_items b.spans) k (pos 0 -ℤ pos c) →
    Tells b.time.clock b.time.horizon ys (owing_there (slot_meaning b) k (due_there (slot_meaning b) k + c))
owed b k c ys within fits is =
    let bs = slot_boundaries b in
    let d = (boundary_at bs k).end in
    let at = stands_at b k within in
    let more = (boundary_at bs k).due + c in
    let after = boundary_later b.time.clock bs b.time.horizon d b.ordered at.held in
    let room = headroom_is_room b.time.clock bs b.time.horizon d b.ordered (omega arith) in
    let takes = rw (sym at.owes) at (short_with_more b.time.clock bs b.time.horizon d c b.ordered at.held) in
    due_changed b k more (pos 0 -ℤ pos c) ys within (omega (arith, ints))
    (rw (due_by_place at more) (omega (arith, takes, b.bounded))) is

-- what is due at a boundary, and the headroom, are small
pub due_small :
    (b : SlotBook) (k c : ℕ) → k < length (slot_boundaries b) → c ≤ (boundary_at (slot_boundaries b) k).due → c ≤ 1000000
due_small b k c within le =
    let placed = placed_at b.time.clock (slot_boundaries b) b.time.horizon k b.ordered b.bounded within in
    omega (arith, placed.fits, placed.early, b.time.ranged)

pub room_small :
    (b : SlotBook) (k c : ℕ) → k < length (slot_boundaries b) →
    c ≤ headroom (slot_meaning b) (boundary_at (slot_boundaries b) k).end →
    c ≤ 1000000
room_small b k c within le =
    let after = boundary_later b.time.clock (slot_boundaries b) b.time.horizon _ b.ordered (stands_at b k within).held in
    omega (arith, headroom_small b (boundary_at (slot_boundaries b) k).end (omega arith))

-- where a new boundary lies: in an interval of the book, behind its start
pub record Inside (b : SlotBook) (d i : ℕ) : Type 0 where
  pub after : b.time.clock < d
  pub within : d ≤ b.time.horizon
  pub place : i < vec_len b.spans
  pub start : start_at b.time.clock (slot_boundaries b) i ≤ d
  pub early : d ≤ (boundary_at (slot_boundaries b) i).end

pub inside :
    (b : SlotBook) (d i : ℕ) → Lacks (slot_boundaries b) d i → to_come (slot_meaning b) d ≡ true → Inside b d i
inside b d i at coming =
    let bs = slot_boundaries b in
    let parts = and_parts (ltb b.time.clock d) (leb d b.time.horizon) coming in
    let after = ltb-true b.time.clock d parts.0 in
    let within = leb-true d b.time.horizon parts.1 in
    let place = place_inside b.time.clock bs b.time.horizon d i b.ordered after within at.before at.within in
    let start = start_before b.time.clock bs d i after at.before at.within in
    record {
      after = after;
      within = within;
      place = omega (arith, length_dues b.time.clock (vec_items b.spans), b.spans.ok.0);
      start = omega arith;
      early = omega (arith, at.behind place);
    }

-- what is left behind it can be spared
pub split_small :
    (b : SlotBook) (d i s : ℕ) (x : Span) → Inside b d i → s ≡ start_at b.time.clock (slot_boundaries b) i →
    x ≡ get_or (vec_items b.spans) i x →
    ((s ≤ d) × (d ≤ x.end)) × Small (x.spare -ℤ (pos d -ℤ pos s))
split_small b d i s x in-it starts read =
    let at = read_in b x i (omega (arith, in-it.place, b.spans.ok.0)) read in (
      (omega (arith, in-it.start), omega (arith, in-it.early, at.ends)),
      (
        omega (arith, ints, at.spare, at.fits, at.early, at.ends, in-it.start, in-it.early, b.time.ranged),
        omega (arith, ints, at.spare, at.fits, at.early, at.ends, in-it.start, in-it.early, b.time.ranged),
      ),
    )

pub split_at :
    (b : SlotBook) (d i s : ℕ) (x left right : Span) (ys : List Span) → Lacks (slot_boundaries b) d i →
    to_come (slot_meaning b) d ≡ true →
    s ≡ start_at b.time.clock (slot_boundaries b) i →
    x ≡ get_or (vec_items b.spans) i x →
    left ≡ left_of x s d →
    right ≡ right_of x s d →
    ys ≡ insert (set (vec_items b.spans) i right) i left →
    Tells b.time.clock b.time.horizon ys (with_boundaries (slot_meaning b) (with_boundary (slot_boundaries b) d))
split_at b d i s x left right ys at coming starts read lefts rights is =
    let bs = slot_boundaries b in
    let xs = vec_items b.spans in
    let in-it = inside b d i at coming in
    let place : i < length xs = omega (arith, in-it.place, b.spans.ok.0) in
    let held : x ≡ span_at xs i = get_or_read xs i x place read _ in
    let all =
    rw (sym starts) at (spans_split b.time.clock bs i d (omega (arith, length_dues b.time.clock xs)) in-it.start)
    in
    let new : ys ≡ spans_of b.time.clock (with_boundary bs d) =
    is
    ∙ ap (λ z. insert (set xs i z) i left) (rights ∙ ap (λ y. right_of y s d) held)
    ∙ ap (λ z. insert (set xs i (right_of (span_at xs i) s d)) i z) (lefts ∙ ap (λ y. left_of y s d) held)
    ∙ ap (λ zs. insert (set zs i (right_of (span_at zs i) s d)) i (left_of (span_at zs i) s d)) (sym b.fair)
    ∙ sym all
    ∙ ap (spans_of b.time.clock) (sym at.puts)
    in
    tell b.time.clock b.time.horizon ys (with_boundary bs d) new
    (rises_with_boundary b.time.clock bs b.time.horizon d b.ordered at.new in-it.after in-it.within)
    (omega (arith, in-it.after, short_with_boundary b.time.clock bs d (omega (arith, in-it.after)), b.bounded))

taken : (late : Bool) {x : Unit {0}} → value x ≡ refuse 7 late (value tt) → late ≡ false
taken true says = cc
taken false says = refl

-- before the horizon a slot can pass
pub slot_to_come : (b : SlotBook) → (b.time.clock ≡ b.time.horizon → ⊥) → b.time.clock < b.time.horizon
slot_to_come b before = omega (arith, rises_le b.time.clock (slot_boundaries b) b.time.horizon b.ordered, before)

pub some_span : (b : SlotBook) → (b.time.clock ≡ b.time.horizon → ⊥) → 0 < length (vec_items b.spans)
some_span b before =
    omega (
      arith,
      some_left b.time.clock (slot_boundaries b) b.time.horizon b.ordered before,
      length_dues b.time.clock (vec_items b.spans),
    )

-- a slot passes, of which the demands bs are left: the records are those of the narrower first interval, without it if it ends
passes :
    (b : SlotBook) (bs : List Boundary) (ys zs : List Span) → b.time.clock < b.time.horizon → 0 < length bs →
    rises b.time.clock bs b.time.horizon ≡ true →
    short b.time.clock bs ≤ b.time.clock →
    zs ≡ spans_of (b.time.clock + 1) bs →
    ys ≡ later_spans (b.time.clock + 1) zs →
    Tells (b.time.clock + 1) b.time.horizon ys
    (record { clock = b.time.clock + 1; horizon = b.time.horizon; boundaries = later_than (b.time.clock + 1) bs })
passes b bs ys zs before some ordered bounded narrow is =
    let t = b.time.clock + 1 in
    let left = slot_left b.time.clock bs b.time.horizon ordered before in
    let all = spans_later t bs (rw (first_end_of b.time.clock t bs some) at left) in
    tell t b.time.horizon ys (later_than t bs) (is ∙ ap (later_spans t) narrow ∙ sym all)
    (rises_later b.time.clock bs b.time.horizon ordered before) (short_later b.time.clock bs b.time.horizon ordered before bounded)

-- a slot that was not refused lies before the horizon
pub not_refused :
    (b : SlotBook) {x : Unit {0}} →
    value x ≡ refuse 7 (eqb b.time.clock b.time.horizon) (value tt) →
    eqb b.time.clock b.time.horizon ≡ false
not_refused b says = taken (eqb b.time.clock b.time.horizon) says

pub passing_small :
    (b : SlotBook) (x : Span) → eqb b.time.clock b.time.horizon ≡ false → x ≡ get_or (vec_items b.spans) 0 x →
    Small (x.spare +ℤ negsuc 0)
passing_small b x before read =
    let apart = eqb-false b.time.clock b.time.horizon before in
    let left = slot_to_come b apart in
    let at = read_in b x 0 (some_span b apart) read in (
      omega (arith, ints, at.spare, at.fits, at.early, b.time.ranged),
      omega (arith, ints, at.spare, at.early, b.time.ranged),
    )

pub passes_none :
    (b : SlotBook) (x r : Span) (ys : List Span) (s h : ℕ) → eqb b.time.clock b.time.horizon ≡ false → x ≡ get_or (vec_items b.spans) 0 x →
    r ≡ with_more x (negsuc 0) →
    ys ≡ later_spans s (set (vec_items b.spans) 0 r) →
    s ≡ b.time.clock + 1 →
    h ≡ b.time.horizon →
    Tells s h ys (passed (slot_meaning b) None)
passes_none b x r ys s h before read less is starts ends =
    let bs = slot_boundaries b in
    let xs = vec_items b.spans in
    let apart = eqb-false b.time.clock b.time.horizon before in
    let some = some_span b apart in
    let some-bs : 0 < length bs = omega (arith, length_dues b.time.clock xs) in
    let held : x ≡ span_at xs 0 = get_or_read xs 0 x some read _ in
    let narrow : set xs 0 r ≡ spans_of (b.time.clock + 1) bs =
    ap (set xs 0) (less ∙ ap (λ y. with_more y (negsuc 0)) held)
    ∙ ap (λ zs. set zs 0 (with_more (span_at zs 0) (negsuc 0))) (sym b.fair)
    ∙ sym (spans_narrower b.time.clock bs some-bs)
    in
    rw
    (starts, ends)
    (passes b bs ys (set xs 0 r) (slot_to_come b apart) some-bs b.ordered b.bounded narrow (rw starts at is))

-- something is due at the first boundary only if there is one
owes_some : (bs : List Boundary) → 1 ≤ (boundary_at bs 0).due → 0 < length bs
owes_some [] due = absurd (omega arith)
owes_some (b ∷ bs) due = omega arith

pub first_owes :
    (b : SlotBook) → 1 ≤ (boundary_at (slot_boundaries b) 0).due →
    Stands (slot_boundaries b) (boundary_at (slot_boundaries b) 0).end 0
first_owes b due = stands_at b 0 (owes_some (slot_boundaries b) due)

-- and then a slot is left
pub first_later : (b : SlotBook) → 1 ≤ (boundary_at (slot_boundaries b) 0).due → b.time.clock + 1 ≤ b.time.horizon
first_later b due =
    let held = (first_owes b due).held in
    let after = boundary_later b.time.clock (slot_boundaries b) b.time.horizon _ b.ordered held in
    let within = boundary_within b.time.clock (slot_boundaries b) b.time.horizon _ b.ordered held in
    omega arith

pub passes_first :
    (b : SlotBook) (ys : List Span) → 1 ≤ (boundary_at (slot_boundaries b) 0).due →
    ys ≡ later_spans (b.time.clock + 1) (vec_items b.spans) →
    Tells (b.time.clock + 1) b.time.horizon ys
    (passed (owing_there (slot_meaning b) 0 (due_there (slot_meaning b) 0 - 1)) None)
passes_first b ys due is =
    let bs = slot_boundaries b in
    let xs = vec_items b.spans in
    let d = (boundary_at bs 0).end in
    let c = (boundary_at bs 0).due - 1 in
    let at = first_owes b due in
    let same = due_by_place at c in
    let some : 0 < length (with_due_at bs 0 c) = simp length-set at.within in
    let narrow : xs ≡ spans_of (b.time.clock + 1) (with_due_at bs 0 c) = sym b.fair ∙ sym (spans_served b.time.clock bs at.within due) in
    let less = short_with_less b.time.clock bs d c (omega (arith, at.owes)) in
    passes b (with_due_at bs 0 c) ys xs (omega (arith, first_later b due)) some
    (rw same (rises_with_due b.time.clock bs b.time.horizon d c b.ordered))
    (rw same (omega (arith, less, b.bounded))) narrow is

-- slots that do not pass the end of the first interval
pub record Ahead (b : SlotBook) (slots : ℕ) : Type 0 where
  pub within : b.time.clock + slots ≤ first_end b.time.clock (slot_boundaries b)
  pub early : b.time.clock + slots ≤ b.time.horizon

pub ahead :
    (b : SlotBook) (slots end : ℕ) → end ≡ first_end b.time.clock (slot_boundaries b) → slots ≤ end - b.time.clock →
    Ahead b slots
ahead b slots end is le =
    let ends = first_end_later b.time.clock (slot_boundaries b) b.time.horizon b.ordered in
    record { within = omega (arith, ends.0); early = omega (arith, ends.0, ends.1) }

-- several slots of the first interval pass at once
pub catches_up :
    (b : SlotBook) (slots : ℕ) (ns : List ℕ) (ys zs : List Span) →
    b.time.clock + slots ≤ first_end b.time.clock (slot_boundaries b) →
    zs ≡ spans_of (b.time.clock + slots) (unserved (slot_boundaries b) ns) →
    ys ≡ later_spans (b.time.clock + slots) zs →
    Tells (b.time.clock + slots) b.time.horizon ys (caught_up (slot_meaning b) slots ns)
catches_up b slots ns ys zs le mended is =
    let bs = slot_boundaries b in
    let t = b.time.clock + slots in
    let end = first_end_unserved b.time.clock bs ns in
    let le' : t ≤ first_end b.time.clock (unserved bs ns) = omega arith in
    let all = spans_later t (unserved bs ns) (within_first b.time.clock t (unserved bs ns) le') in
    tell t b.time.horizon ys (later_than t (unserved bs ns)) (is ∙ ap (later_spans t) mended ∙ sym all)
    (rises_after b.time.clock t (unserved bs ns) b.time.horizon (rises_unserved b.time.clock bs b.time.horizon ns b.ordered) (omega arith) le')
    (short_after b.time.clock t (unserved bs ns) (omega (arith, short_unserved b.time.clock bs ns, b.bounded)) (omega arith) le')

-- the records of a book can be mended
pub mendable : (b : SlotBook) → Mendable b.time.clock (vec_items b.spans)
mendable b =
    let xs = vec_items b.spans in
    record {
      fair = b.fair;
      bounded = b.bounded;
      wide = λ k lt. omega (arith, (read_at b k lt).wide, start_told b.time.clock b.time.clock xs k (omega arith));
    }

-- the records after mending all of them
pub mended_items :
    (b : SlotBook) (slots : ℕ) (ns : List ℕ) (ws lent : List Span) → length ws ≡ b.spans.len →
    ws ≡ spans_of (b.time.clock + slots) (unserved (dues_of b.time.clock lent) ns) →
    lent ≡ vec_items b.spans →
    (with_items b.spans ws).items ≡ spans_of (b.time.clock + slots) (unserved (slot_boundaries b) ns)
mended_items b slots ns ws lent whole after was =
    with_items_is b.spans ws whole ∙ after ∙ ap (λ xs. spans_of (b.time.clock + slots) (unserved (dues_of b.time.clock xs) ns)) was
