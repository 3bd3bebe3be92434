-- What is known of the interval at a place, and of the intervals from that place on.
use Rattle.std.proofs.Common.{◌≡◌, ℕ, zero, suc, ◌+◌, ◌-◌, ◌<◌, ◌≤◌, min, true, List, [], ◌∷◌, length, get_or, drop, pos, ◌+ℤ◌, refl, arith}
use Rattle.capacity.specs.declared.boundary.Boundary.{Boundary}
use Rattle.capacity.specs.Shortage.{short}
use Rattle.capacity.specs.Slack.{rises}
use Rattle.capacity.specs.Spare.{spares}
use Rattle.capacity.proofs.Least.{rises_le}
use Rattle.capacity.proofs.Naturals.{room, rises_first, rises_rest, spare_is}
use Rattle.capacity.specs.Intervals.{boundary_at, start_at}

-- what the intervals from place k on lack, and what they can spare before d
abbrev pub short_from : ℕ → List Boundary → ℕ → ℕ
short_from s bs k = short (start_at s bs k) (drop k bs)

abbrev pub room_from : ℕ → List Boundary → ℕ → ℕ → ℕ
room_from s bs k d = room (start_at s bs k) (drop k bs) d

-- the interval at place k, with its numbers as the book has them, and those that begin at the next place behind it
pub record Placed (s : ℕ) (bs : List Boundary) (h k next : ℕ) (start end due behind : ℕ) : Type 0 where
  pub wide : start < end
  pub early : end ≤ h
  pub fits : due + behind ≤ end
  pub lacks : short_from s bs k ≡ start + due + behind - end
  pub spare : get_or (spares s bs) k (pos 0) +ℤ pos (start + due + behind) ≡ pos end
  pub room_before : (d : ℕ) → room_from s bs k d ≡ min (d - start) (end - (start + due + behind)) + room_from s bs next d

-- the parts of this that ask nothing of the order
pub short_at :
    (s : ℕ) (bs : List Boundary) (k : ℕ) → k < length bs →
    short_from s bs k ≡ start_at s bs k + (boundary_at bs k).due + short_from s bs (suc k) - (boundary_at bs k).end
short_at s [] k lt = absurd (omega arith)
short_at s (b ∷ bs) zero lt = refl
short_at s (b ∷ bs) (suc k) lt = short_at b.end bs k (omega arith)

pub spare_at :
    (s : ℕ) (bs : List Boundary) (k : ℕ) → k < length bs →
    get_or (spares s bs) k (pos 0) +ℤ pos (start_at s bs k + (boundary_at bs k).due + short_from s bs (suc k))
    ≡ pos (boundary_at bs k).end
spare_at s [] k lt = absurd (omega arith)
spare_at s (b ∷ bs) zero lt = spare_is s b bs
spare_at s (b ∷ bs) (suc k) lt = spare_at b.end bs k (omega arith)

pub fits_at :
    (s : ℕ) (bs : List Boundary) (k : ℕ) → short s bs ≤ s → k < length bs →
    (boundary_at bs k).due + short_from s bs (suc k) ≤ (boundary_at bs k).end
fits_at s [] k le lt = absurd (omega arith)
fits_at s (b ∷ bs) zero le lt = omega arith
fits_at s (b ∷ bs) (suc k) le lt = fits_at b.end bs k (omega arith) (omega arith)

wide_at :
    (s : ℕ) (bs : List Boundary) (h k : ℕ) → rises s bs h ≡ true → k < length bs →
    (start_at s bs k < (boundary_at bs k).end) × ((boundary_at bs k).end ≤ h)
wide_at s [] h k r lt = absurd (omega arith)
wide_at s (b ∷ bs) h zero r lt = (rises_first s b bs h r, rises_le b.end bs h (rises_rest s b bs h r))
wide_at s (b ∷ bs) h (suc k) r lt = wide_at b.end bs h k (rises_rest s b bs h r) (omega arith)

room_at :
    (s : ℕ) (bs : List Boundary) (k d : ℕ) → k < length bs →
    room_from s bs k d
    ≡ min (d - start_at s bs k)
    ((boundary_at bs k).end - (start_at s bs k + (boundary_at bs k).due + short_from s bs (suc k)))
    + room_from s bs (suc k) d
room_at s [] k d lt = absurd (omega arith)
room_at s (b ∷ bs) zero d lt = refl
room_at s (b ∷ bs) (suc k) d lt = room_at b.end bs k d (omega arith)

pub placed_at :
    (s : ℕ) (bs : List Boundary) (h k : ℕ) → rises s bs h ≡ true → short s bs ≤ s → k < length bs →
    Placed s bs h k (suc k) (start_at s bs k) (boundary_at bs k).end (boundary_at bs k).due (short_from s bs (suc k))
placed_at s bs h k r le lt =
    record {
      wide = (wide_at s bs h k r lt).0;
      early = (wide_at s bs h k r lt).1;
      fits = fits_at s bs k le lt;
      lacks = short_at s bs k lt;
      spare = spare_at s bs k lt;
      room_before = λ d. room_at s bs k d lt;
    }

-- the same of the interval before a place, for numbers that are known to be its own
pub placed :
    (s : ℕ) (bs : List Boundary) (h k : ℕ) → rises s bs h ≡ true → short s bs ≤ s → 0 < k → k ≤ length bs →
    (start end due behind : ℕ) →
    start ≡ start_at s bs (k - 1) →
    end ≡ (boundary_at bs (k - 1)).end →
    due ≡ (boundary_at bs (k - 1)).due →
    behind ≡ short_from s bs k →
    Placed s bs h (k - 1) k start end due behind
placed s bs h zero r le lt within start end due behind e₁ e₂ e₃ e₄ = absurd (omega arith)
placed s bs h (suc k) r le lt within start end due behind e₁ e₂ e₃ e₄ =
    let same : suc k - 1 ≡ k = omega arith in
    rw (e₁, e₂, e₃, e₄) (rw same (placed_at s bs h k r le (omega arith)))

-- behind the last interval nothing is taken
pub short_past : (s : ℕ) (bs : List Boundary) (k : ℕ) → length bs ≤ k → short_from s bs k ≡ 0
short_past s [] zero le = refl
short_past s [] (suc k) le = refl
short_past s (b ∷ bs) zero le = absurd (omega arith)
short_past s (b ∷ bs) (suc k) le = short_past b.end bs k (omega arith)

-- room never passes the slots to come
room_le : (s : ℕ) (bs : List Boundary) (h d : ℕ) → rises s bs h ≡ true → room s bs d + s ≤ h
room_le s [] h d r = let le = rises_le s [] h r in omega arith
room_le s (b ∷ bs) h d r =
    let first = rises_first s b bs h r in
    let more = room_le b.end bs h d (rises_rest s b bs h r) in
    omega arith

pub room_from_le :
    (s : ℕ) (bs : List Boundary) (h k d : ℕ) → rises s bs h ≡ true → k ≤ length bs → room_from s bs k d ≤ h
room_from_le s bs h zero d r le = let all = room_le s bs h d r in omega arith
room_from_le s [] h (suc k) d r le = absurd (omega arith)
room_from_le s (b ∷ bs) h (suc k) d r le = room_from_le b.end bs h k d (rises_rest s b bs h r) (omega arith)

pub start_next : (s : ℕ) (bs : List Boundary) (k : ℕ) → k < length bs → start_at s bs (suc k) ≡ (boundary_at bs k).end
start_next s [] k lt = absurd (omega arith)
start_next s (b ∷ bs) zero lt = refl
start_next s (b ∷ bs) (suc k) lt = start_next b.end bs k (omega arith)

pub start_is : (s : ℕ) (bs : List Boundary) (k : ℕ) → 0 < k → k ≤ length bs → start_at s bs k ≡ (boundary_at bs (k - 1)).end
start_is s bs zero lt le = absurd (omega arith)
start_is s bs (suc k) lt le = let e : suc k - 1 ≡ k = omega arith in rw e (start_next s bs k (omega arith))
