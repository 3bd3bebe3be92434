-- The sum of what intervals have free, one interval after the other.
use Rattle.std.proofs.Common.{◌≡◌, ℕ, zero, suc, ◌+◌, ◌<◌, ◌≤◌, cond, leb, List, [], ◌∷◌, length, get_or, drop, pos, ◌-ℤ◌, vec_items, sym, refl, ap, ◌∙◌, add-one, arith}
use Rattle.std.specs.Int.{int_min}
use Rattle.std.proofs.lemmas.List.{get_or_read}
use Rattle.std.proofs.lemmas.Bool.{le-leb, lt-leb}
use Rattle.capacity.specs.declared.boundary.Boundary.{Boundary}
use Rattle.capacity.specs.Intervals.{boundary_at, start_at}
use Rattle.capacity.specs.Spare.{spares, positive_part, headroom, headroom_from}
use Rattle.capacity.proofs.Naturals.{headroom_is_room}
use Rattle.capacity.proofs.Suffixes.{room_from_le, start_next}
use Rattle.slot_book.specs.Carry.{span_at}
use Rattle.slot_book.specs.Slot.{slot_meaning, slot_boundaries}
use Rattle.slot_book.specs.declared.slot.SlotBook.{SlotBook}
use Rattle.slot_book.specs.declared.span.Span.{Span}
use Rattle.slot_book.proofs.Books.{length_dues, end_told, spare_told}

-- the headroom at d from the interval at place k on
abbrev pub headroom_at : ℕ → List Boundary → ℕ → ℕ → ℕ
headroom_at s bs k d = headroom_from (start_at s bs k) (drop k bs) d

headroom_turn :
    (s : ℕ) (bs : List Boundary) (k d : ℕ) → k < length bs →
    headroom_at s bs k d
    ≡ cond (leb d (boundary_at bs k).end)
    (positive_part (int_min (pos d -ℤ pos (start_at s bs k)) (get_or (spares s bs) k (pos 0))))
    (positive_part (get_or (spares s bs) k (pos 0)) + headroom_at s bs (suc k) d)
headroom_turn s [] k d lt = absurd (omega arith)
headroom_turn s (b ∷ bs) zero d lt = refl
headroom_turn s (b ∷ bs) (suc k) d lt = headroom_turn b.end bs k d (omega arith)

headroom_done : (s : ℕ) (bs : List Boundary) (k d : ℕ) → length bs ≤ k → headroom_at s bs k d ≡ 0
headroom_done s [] zero d le = refl
headroom_done s [] (suc k) d le = refl
headroom_done s (b ∷ bs) zero d le = absurd (omega arith)
headroom_done s (b ∷ bs) (suc k) d le = headroom_done b.end bs k d (omega arith)

-- the sum so far, where the next interval begins before d
pub record Summed (b : SlotBook) (d k start room : ℕ) : Type 0 where
  pub starts : start ≡ start_at b.time.clock (slot_boundaries b) k
  pub before : start < d
  pub sum : room + headroom_at b.time.clock (slot_boundaries b) k d ≡ headroom (slot_meaning b) d

-- an interval's end and spare, in the records and by the demands that they tell
own_end : (b : SlotBook) (k : ℕ) → (boundary_at (slot_boundaries b) k).end ≡ (span_at (vec_items b.spans) k).end
own_end b k = end_told b.time.clock (vec_items b.spans) k

own_spare :
    (b : SlotBook) (k : ℕ) →
    (span_at (vec_items b.spans) k).spare ≡ get_or (spares b.time.clock (slot_boundaries b)) k (pos 0)
own_spare b k = spare_told b.time.clock (vec_items b.spans) k b.fair

within : (b : SlotBook) (k : ℕ) → k < length (vec_items b.spans) → k < length (slot_boundaries b)
within b k lt = omega (arith, length_dues b.time.clock (vec_items b.spans))

-- a turn: y is the record at place k, as it was read, and x the same
module _ (b : SlotBook) (d k start room : ℕ) (x y : Span) (lent : List Span) (so : Summed b d k start room) (lt : k < length lent) (same : lent ≡ vec_items b.spans) (view : x ≡ y) (read : y ≡ get_or lent k y) where
  inside : k < length (vec_items b.spans)
  inside = rw same at lt

  held : x ≡ span_at (vec_items b.spans) k
  held = view ∙ get_or_read (vec_items b.spans) k y inside (rw same at read) _

  ends : (boundary_at (slot_boundaries b) k).end ≡ x.end
  ends = own_end b k ∙ ap (λ z. z.end) (sym held)

  -- d lies in this interval: only what lies before it counts
  pub sum_ends : d ≤ x.end → room + positive_part (int_min (pos d -ℤ pos start) x.spare) ≡ headroom (slot_meaning b) d
  sum_ends le =
      let bs = slot_boundaries b in
      let turn = headroom_turn b.time.clock bs k d (within b k inside) in
      let before = le-leb d (boundary_at bs k).end (omega (arith, ends)) in
      let here : headroom_at b.time.clock bs k d ≡ positive_part (int_min (pos d -ℤ pos start) x.spare) =
      rw (so.starts, held, own_spare b k) (turn ∙ rw before refl)
      in
      omega (arith, so.sum)

  -- d lies behind it: all that it has free counts
  pub sum_more : x.end < d → Summed b d (k + 1) x.end (room + positive_part x.spare)
  sum_more past =
      let bs = slot_boundaries b in
      let turn = headroom_turn b.time.clock bs k d (within b k inside) in
      let outside = lt-leb d (boundary_at bs k).end (omega (arith, ends)) in
      let here : headroom_at b.time.clock bs k d ≡ positive_part x.spare + headroom_at b.time.clock bs (suc k) d =
      rw (held, own_spare b k) (turn ∙ rw outside refl)
      in
      let next : k + 1 ≡ suc k = add-one k in
      record {
        starts = rw next (sym ends ∙ sym (start_next b.time.clock bs k (within b k inside)));
        before = past;
        sum = rw next (omega (arith, so.sum));
      }

pub sum_all :
    (b : SlotBook) (d k start room : ℕ) (lent : List Span) → Summed b d k start room → length lent ≤ k →
    lent ≡ vec_items b.spans →
    room ≡ headroom (slot_meaning b) d
sum_all b d k start room lent so past same =
    let past' : length (vec_items b.spans) ≤ k = rw same at past in
    omega (
      arith,
      so.sum,
      headroom_done b.time.clock (slot_boundaries b) k d (omega (arith, length_dues b.time.clock (vec_items b.spans))),
    )

pub headroom_small : (b : SlotBook) (d : ℕ) → b.time.clock ≤ d → headroom (slot_meaning b) d ≤ 1000000
headroom_small b d le =
    let bs = slot_boundaries b in
    omega (
      arith,
      headroom_is_room b.time.clock bs b.time.horizon d b.ordered le,
      room_from_le b.time.clock bs b.time.horizon 0 d b.ordered (omega arith),
      b.time.ranged,
    )
