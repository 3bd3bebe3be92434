-- What the writes of a plain book keep: its boundaries rise, and take no more from before the clock than has passed.
use Rattle.std.proofs.Common.{◌≡◌, ℕ, zero, suc, ◌+◌, ◌-◌, ◌<◌, ◌≤◌, true, ltb, ◌&&◌, List, [], ◌∷◌, length, get_or, set, refl, ap, ◌∙◌, arith}
use Rattle.std.proofs.lemmas.List.{get_or_read}
use Rattle.capacity.specs.declared.boundary.Boundary.{Boundary}
use Rattle.capacity.specs.Places.{Stands}
use Rattle.capacity.specs.Shortage.{short}
use Rattle.capacity.specs.Slack.{rises}
use Rattle.capacity.specs.Spare.{headroom_from}
use Rattle.capacity.proofs.Least.{rises_le}
use Rattle.capacity.proofs.Naturals.{room, room_none, rises_first, rises_rest}
use Rattle.plain_book.proofs.Headroom.{headroom_is}

-- b, read at place i, has another demand due from now on
pub rises-set :
    (s : ℕ) (bs : List Boundary) (h i : ℕ) (b : Boundary) (c : ℕ) → b ≡ get_or bs i b →
    rises s (set bs i (record { end = b.end; due = c })) h ≡ rises s bs h
rises-set s [] h i b c read = refl
rises-set s (x ∷ bs) h zero b c read = rw read refl
rises-set s (x ∷ bs) h (suc i) b c read = ap (λ r. ltb s x.end && r) (rises-set x.end bs h i b c read)

-- less takes no more
pub short-set_less :
    (s : ℕ) (bs : List Boundary) (i : ℕ) (b : Boundary) (c t : ℕ) → b ≡ get_or bs i b → c ≤ b.due → short s bs ≤ t →
    short s (set bs i (record { end = b.end; due = c })) ≤ t
short-set_less s [] i b c t read less le = omega arith
short-set_less s (x ∷ bs) zero b c t read less le = let less' = rw read at less in rw read (omega arith)
short-set_less s (x ∷ bs) (suc i) b c t read less le =
    omega (arith, short-set_less x.end bs i b c (short x.end bs) read less (omega arith))

-- c more takes from before s only what the room at b cannot take
short-set_more :
    (s : ℕ) (bs : List Boundary) (h i : ℕ) (b : Boundary) (c : ℕ) → rises s bs h ≡ true → i < length bs → b ≡ get_or bs i b →
    (s < b.end) × (short s (set bs i (record { end = b.end; due = b.due + c })) ≤ short s bs + (c - room s bs b.end))
short-set_more s [] h i b c r lt read = absurd (omega arith)
short-set_more s (x ∷ bs) h zero b c r lt read =
    let first = rises_first s x bs h r in
    let none = room_none x.end bs h x.end (rises_rest s x bs h r) (omega arith) in
    rw read (first, omega arith)
short-set_more s (x ∷ bs) h (suc i) b c r lt read =
    let first = rises_first s x bs h r in
    let more = short-set_more x.end bs h i b c (rises_rest s x bs h r) (omega arith) read in
    (omega arith, omega arith)

pub short-set_within :
    (s : ℕ) (bs : List Boundary) (h d i : ℕ) (b : Boundary) (c : ℕ) → rises s bs h ≡ true → short s bs ≤ s → Stands bs d i →
    b ≡ get_or bs i b →
    c ≤ headroom_from s bs d →
    short s (set bs i (record { end = b.end; due = b.due + c })) ≤ s
short-set_within s bs h d i b c r le at read fits =
    let is : b.end ≡ d = ap (λ x. x.end) (get_or_read bs i b at.within read _) ∙ at.ends in
    let room = headroom_is s bs h d r in
    let more = rw is at (short-set_more s bs h i b c r at.within read) in
    rw is (omega arith)

-- what is due is within the horizon
pub due_le :
    (s : ℕ) (bs : List Boundary) (h i : ℕ) (b : Boundary) → rises s bs h ≡ true → short s bs ≤ s → i < length bs →
    b ≡ get_or bs i b →
    b.due ≤ h
due_le s [] h i b r le lt read = absurd (omega arith)
due_le s (x ∷ bs) h zero b r le lt read = let end = rises_le x.end bs h (rises_rest s x bs h r) in rw read (omega arith)
due_le s (x ∷ bs) h (suc i) b r le lt read = due_le x.end bs h i b (rises_rest s x bs h r) (omega arith) (omega arith) read
