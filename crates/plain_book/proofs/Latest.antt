-- The latest start against what intervals lack, spare and have room for.
use Rattle.std.proofs.Common.{◌≡◌, ℕ, zero, suc, ◌+◌, ◌-◌, ◌<◌, ◌≤◌, min, true, List, [], ◌∷◌, length, get_or, drop, reverse, fold, pos, ◌-ℤ◌, vec_items, refl, arith}
use Rattle.std.proofs.lemmas.Bool.{eqb-true}
use Rattle.std.proofs.lemmas.Grind.{common_steps}
use Rattle.std.proofs.lemmas.Int.{ints}
use Rattle.capacity.specs.declared.boundary.Boundary.{Boundary}
use Rattle.capacity.specs.Intervals.{start_at}
use Rattle.capacity.specs.Shortage.{short}
use Rattle.capacity.specs.Slack.{rises}
use Rattle.capacity.specs.Spare.{spares}
use Rattle.capacity.proofs.Least.{rises_le}
use Rattle.capacity.proofs.Naturals.{rises_first, rises_rest, spare_is}
use Rattle.capacity.proofs.Suffixes.{room_from}
use Rattle.plain_book.specs.declared.plain.PlainBook.{PlainBook}
use Rattle.plain_book.specs.Latest.{latest_start, latest}

module _ (h : ℕ) where
  pub latest_le : (bs : List Boundary) → latest h bs ≤ h
  latest_le [] = omega arith
  latest_le (b ∷ bs) = omega (arith, latest_le bs)

  -- the last boundary first, as the code goes
  pub latest_of_reverse : (bs : List Boundary) → latest h bs ≡ fold latest_start h (reverse bs)
  latest_of_reverse [] = refl
  latest_of_reverse (b ∷ bs) = grind (arith, common_steps, latest_of_reverse bs)

  pub start_le : (s : ℕ) (bs : List Boundary) (k : ℕ) → rises s bs h ≡ true → start_at s bs k ≤ h
  start_le s bs zero r = rises_le s bs h r
  start_le s [] (suc k) r = rises_le s [] h r
  start_le s (b ∷ bs) (suc k) r = start_le b.end bs k (rises_rest s b bs h r)

  -- the intervals from s on take from before s what the latest start lies before it
  short_is : (s : ℕ) (bs : List Boundary) → rises s bs h ≡ true → short s bs ≤ s → short s bs ≡ s - latest h bs
  short_is s [] r le = let e = eqb-true s h r in omega arith
  short_is s (b ∷ bs) r le =
      let first = rises_first s b bs h r in
      let rest = short_is b.end bs (rises_rest s b bs h r) (omega arith) in
      omega arith

  pub spare_at :
      (s : ℕ) (bs : List Boundary) (k : ℕ) → rises s bs h ≡ true → short s bs ≤ s → k < length bs →
      get_or (spares s bs) k (pos 0) ≡ pos (latest h (drop k bs)) -ℤ pos (start_at s bs k)
  spare_at s [] k r le lt = absurd (omega arith)
  spare_at s (b ∷ bs) zero r le lt =
      let first = rises_first s b bs h r in
      let rest = short_is b.end bs (rises_rest s b bs h r) (omega arith) in
      omega (arith, ints, spare_is s b bs)
  spare_at s (b ∷ bs) (suc k) r le lt = spare_at b.end bs k (rises_rest s b bs h r) (omega arith) (omega arith)

  latest_at :
      (bs : List Boundary) (k : ℕ) (b : Boundary) → k < length bs → b ≡ get_or bs k b →
      latest h (drop k bs) ≡ latest_start (latest h (drop (suc k) bs)) b
  latest_at [] k b lt read = absurd (omega arith)
  latest_at (x ∷ bs) zero b lt read = rw read refl
  latest_at (x ∷ bs) (suc k) b lt read = latest_at bs k b (omega arith) read

  room_at :
      (s : ℕ) (bs : List Boundary) (k d : ℕ) → rises s bs h ≡ true → short s bs ≤ s → k < length bs →
      room_from s bs k d ≡ room_from s bs (suc k) d + (min (latest h (drop k bs)) d - start_at s bs k)
  room_at s [] k d r le lt = absurd (omega arith)
  room_at s (b ∷ bs) zero d r le lt =
      let first = rises_first s b bs h r in
      let rest = short_is b.end bs (rises_rest s b bs h r) (omega arith) in
      omega arith
  room_at s (b ∷ bs) (suc k) d r le lt = room_at b.end bs k d (rises_rest s b bs h r) (omega arith) (omega arith)

-- one turn of a sum over the intervals of a book, from the last to the first: b stands before place k
pub turn :
    (book : PlainBook) (b : Boundary) (k d : ℕ) → 0 < k → k ≤ length (vec_items book.boundaries) →
    b ≡ get_or (vec_items book.boundaries) (k - 1) b →
    let bs = vec_items book.boundaries in
    let s = book.time.clock in
    let h = book.time.horizon in
    (room_from s bs (k - 1) d ≡ room_from s bs k d + (min (latest h (drop (k - 1) bs)) d - start_at s bs (k - 1)))
    × (latest h (drop (k - 1) bs) ≡ latest_start (latest h (drop k bs)) b)
turn book b zero d some within read = absurd (omega arith)
turn book b (suc k) d some within read =
    let bs = vec_items book.boundaries in
    let same : suc k - 1 ≡ k = omega arith in
    rw same (room_at book.time.horizon book.time.clock bs k d book.ordered book.bounded (omega arith), latest_at book.time.horizon bs k b (omega arith) (rw same at read))
