-- What every line of a book keeps: the boundaries rise to the horizon, and the intervals take no more from before the clock than
-- the slots that have passed.
use Rattle.std.proofs.Common.{◌≡◌, ℕ, ◌+◌, ◌-◌, ◌<◌, ◌≤◌, true, false, ltb, List, [], ◌∷◌, arith}
use Rattle.std.proofs.lemmas.Bool.{and_from, lt-ltb}
use Rattle.std.proofs.lemmas.Bool.Decides.{nat_tests}
use Rattle.capacity.specs.declared.boundary.Boundary.{Boundary}
use Rattle.capacity.specs.Calls.{is_boundary, due_at, with_due, with_boundary, later_than}
use Rattle.capacity.specs.Noted.{first_end}
use Rattle.capacity.specs.Shortage.{short}
use Rattle.capacity.specs.Slack.{rises}
use Rattle.capacity.proofs.Naturals.{room, rises_first, rises_rest, room_none}

pub rises_cons :
    (s : ℕ) (b : Boundary) (bs : List Boundary) (h : ℕ) → s < b.end → rises b.end bs h ≡ true → rises s (b ∷ bs) h ≡ true
rises_cons s b bs h lt r = and_from (ltb s b.end) (rises b.end bs h) (lt-ltb s b.end lt) r

-- every boundary lies behind the start
pub boundary_later : (s : ℕ) (bs : List Boundary) (h d : ℕ) → rises s bs h ≡ true → is_boundary bs d ≡ true → s < d
boundary_later s [] h d r is = cc
boundary_later s (b ∷ bs) h d r is =
    let first = rises_first s b bs h r in
    let more = boundary_later b.end bs h d (rises_rest s b bs h r) in
    grind (arith, nat_tests)

-- with_due: the ends stay
pub rises_with_due :
    (s : ℕ) (bs : List Boundary) (h d c : ℕ) → rises s bs h ≡ true → rises s (with_due bs d c) h ≡ true
rises_with_due s [] h d c r = r
rises_with_due s (b ∷ bs) h d c r =
    let first = rises_first s b bs h r in
    let rest = rises_with_due b.end bs h d c (rises_rest s b bs h r) in
    grind (arith, nat_tests)

-- less due takes no more
pub short_with_less :
    (s : ℕ) (bs : List Boundary) (d c : ℕ) → c ≤ due_at bs d → short s (with_due bs d c) ≤ short s bs
short_with_less s [] d c le = omega arith
short_with_less s (b ∷ bs) d c le =
    let more = short_with_less b.end bs d c in
    grind (arith, nat_tests)

-- c more due takes from before the start only what the room at d cannot take
pub short_with_more :
    (s : ℕ) (bs : List Boundary) (h d c : ℕ) → rises s bs h ≡ true → is_boundary bs d ≡ true →
    short s (with_due bs d (due_at bs d + c)) ≤ short s bs + (c - room s bs d)
short_with_more s [] h d c r is = cc
short_with_more s (b ∷ bs) h d c r is =
    let first = rises_first s b bs h r in
    let rest = rises_rest s b bs h r in
    let none = room_none b.end bs h b.end rest (omega arith) in
    let past = boundary_later b.end bs h d rest in
    let more = short_with_more b.end bs h d c rest in
    grind (arith, nat_tests)

-- with_boundary: a new boundary with nothing due
pub rises_with_boundary :
    (s : ℕ) (bs : List Boundary) (h d : ℕ) → rises s bs h ≡ true → is_boundary bs d ≡ false → s < d → d ≤ h →
    rises s (with_boundary bs d) h ≡ true
rises_with_boundary s [] h d r new sd dh = grind (arith, nat_tests)
rises_with_boundary s (b ∷ bs) h d r new sd dh =
    let first = rises_first s b bs h r in
    let rest = rises_rest s b bs h r in
    let more = rises_with_boundary b.end bs h d rest in
    grind (arith, nat_tests)

pub short_with_boundary :
    (s : ℕ) (bs : List Boundary) (d : ℕ) → s ≤ d → short s (with_boundary bs d) ≡ short s bs
short_with_boundary s [] d le = omega arith
short_with_boundary s (b ∷ bs) d le =
    let more = short_with_boundary b.end bs d in
    grind (arith, nat_tests)

-- slots of the first interval pass, and the boundary that the clock reaches goes
pub rises_after :
    (s t : ℕ) (bs : List Boundary) (h : ℕ) → rises s bs h ≡ true → s ≤ t → t ≤ first_end s bs →
    rises t (later_than t bs) h ≡ true
rises_after s t [] h r st te = let e : t ≡ s = omega arith in rw e r
rises_after s t (b ∷ bs) h r st te =
    let rest = rises_rest s b bs h r in
    grind (arith, nat_tests)

pub short_after :
    (s t : ℕ) (bs : List Boundary) → short s bs ≤ s → s ≤ t → t ≤ first_end s bs → short t (later_than t bs) ≤ t
short_after s t [] le st te = omega arith
short_after s t (b ∷ bs) le st te =
    grind (arith, nat_tests)

-- before the horizon the first interval has a slot
pub slot_left : (s : ℕ) (bs : List Boundary) (h : ℕ) → rises s bs h ≡ true → s < h → s + 1 ≤ first_end s bs
slot_left s [] h r sh = grind (arith, nat_tests)
slot_left s (b ∷ bs) h r sh = grind (arith, nat_tests)

-- a slot passes
pub rises_later :
    (s : ℕ) (bs : List Boundary) (h : ℕ) → rises s bs h ≡ true → s < h → rises (s + 1) (later_than (s + 1) bs) h ≡ true
rises_later s bs h r sh = rises_after s (s + 1) bs h r (omega arith) (slot_left s bs h r sh)

pub short_later :
    (s : ℕ) (bs : List Boundary) (h : ℕ) → rises s bs h ≡ true → s < h → short s bs ≤ s →
    short (s + 1) (later_than (s + 1) bs) ≤ s + 1
short_later s bs h r sh le = short_after s (s + 1) bs le (omega arith) (slot_left s bs h r sh)
