-- The lines of a book: for each call what it says, and what the book means afterwards. After a refusal that is what it
-- meant before.
use Rattle.std.specs.Prelude.{ℕ, ◌+◌, ◌-◌, Bool, false, if◌then◌else◌, not, ◌&&◌, ◌||◌, List, [], ◌∷◌, length, ℤ, pos, Some, None, Option, ◌==◌, int_le, nat_le, nat_lt}
use Rattle.terms.specs.Answers.{Said, value, refuse, after, mapped}
use Rattle.terms.specs.Limits.{longest_horizon, most_boundaries}
use Rattle.capacity.specs.declared.boundary.Boundary.{Boundary}
use Rattle.capacity.specs.Meaning.{Meaning}
use Rattle.capacity.specs.Spare.{spare, headroom}

-- d is a boundary.
abbrev pub is_boundary : List Boundary → ℕ → Bool
is_boundary [] d = false
is_boundary (b ∷ bs) d = b.end == d || is_boundary bs d

-- What is due at d; nothing where d is no boundary.
abbrev pub due_at : List Boundary → ℕ → ℕ
due_at [] d = 0
due_at (b ∷ bs) d = if b.end == d then b.due else due_at bs d

-- c is due at d from now on; the other boundaries stay as they are.
abbrev pub with_due : List Boundary → ℕ → ℕ → List Boundary
with_due [] d c = []
with_due (b ∷ bs) d c = if b.end == d then record { end = d; due = c } ∷ bs else b ∷ with_due bs d c

-- d stands in its place among the boundaries, with nothing due.
abbrev pub with_boundary : List Boundary → ℕ → List Boundary
with_boundary [] d = record { end = d; due = 0 } ∷ []
with_boundary (b ∷ bs) d = if nat_lt d b.end then record { end = d; due = 0 } ∷ (b ∷ bs) else b ∷ with_boundary bs d

-- The boundaries later than t, where only the first can be t.
abbrev pub later_than : ℕ → List Boundary → List Boundary
later_than t [] = []
later_than t (b ∷ bs) = if nat_lt t b.end then b ∷ bs else bs

-- A slot or deadline that is still to come: after the clock and not after the horizon.
abbrev pub lies_ahead : ℕ → ℕ → ℕ → Bool
lies_ahead clock horizon d = nat_lt clock d && nat_le d horizon

abbrev pub to_come : Meaning → ℕ → Bool
to_come m d = lies_ahead m.clock m.horizon d

-- The same book with other boundaries.
abbrev pub with_boundaries : Meaning → List Boundary → Meaning
with_boundaries m bs = record { clock = m.clock; horizon = m.horizon; boundaries = bs }

-- clear(h): clock 0, one boundary h, nothing due. Refused 3 unless h is in range.
abbrev pub cleared : ℕ → Meaning
cleared h = record { clock = 0; horizon = h; boundaries = record { end = h; due = 0 } ∷ [] }

abbrev pub clear_says : ℕ → Said (Unit {0})
clear_says h = refuse 3 (not (nat_le 1 h && nat_le h longest_horizon)) (value tt)

abbrev pub clear_leaves : Meaning → ℕ → Meaning
clear_leaves m h = after (clear_says h) (cleared h) m

-- cut(d): d is a boundary. Refused 4 unless d is to come, 9 if d is new and the book is full.
abbrev pub cut_says : Meaning → ℕ → Said (Unit {0})
cut_says m d =
    refuse 4 (not (to_come m d))
    (refuse 9 (not (is_boundary m.boundaries d) && nat_le most_boundaries (length m.boundaries)) (value tt))

abbrev pub cut_leaves : Meaning → ℕ → Meaning
cut_leaves m d =
    after (cut_says m d)
    (if is_boundary m.boundaries d then m else with_boundaries m (with_boundary m.boundaries d))
    m

-- owe(d, c): c more is due at d. Refused 4 unless d is a boundary and c at least 1, 11 if c is more than headroom(d).
abbrev pub owe_says : Meaning → ℕ → ℕ → Said (Unit {0})
owe_says m d c =
    refuse 4 (not (is_boundary m.boundaries d && nat_le 1 c)) (refuse 11 (nat_lt (headroom m d) c) (value tt))

abbrev pub owe_leaves : Meaning → ℕ → ℕ → Meaning
owe_leaves m d c =
    after (owe_says m d c) (with_boundaries m (with_due m.boundaries d (due_at m.boundaries d + c))) m

-- d is a boundary with at least c due.
abbrev pub is_due : Meaning → ℕ → ℕ → Bool
is_due m d c = is_boundary m.boundaries d && nat_le c (due_at m.boundaries d)

-- forgive(d, c): c less is due at d. Refused 6 unless d is a boundary with at least c due.
abbrev pub forgive_says : Meaning → ℕ → ℕ → Said (Unit {0})
forgive_says m d c = refuse 6 (not (is_due m d c)) (value tt)

abbrev pub forgive_leaves : Meaning → ℕ → ℕ → Meaning
forgive_leaves m d c =
    after (forgive_says m d c) (with_boundaries m (with_due m.boundaries d (due_at m.boundaries d - c))) m

-- run(owner): a slot passes, for a deadline or for nobody. The clock rises by one, one slot less is due at the owner's
-- deadline, and a boundary that the clock reaches goes. Refused 6 for a deadline at which nothing is due, 7 at the horizon.
abbrev pub served : List Boundary → Option ℕ → List Boundary
served bs None = bs
served bs (Some d) = with_due bs d (due_at bs d - 1)

abbrev pub unowned : Meaning → Option ℕ → Bool
unowned m None = false
unowned m (Some d) = not (is_due m d 1)

abbrev pub pass_says : ℕ → ℕ → Said (Unit {0})
pass_says clock horizon = refuse 7 (clock == horizon) (value tt)

abbrev pub run_says : Meaning → Option ℕ → Said (Unit {0})
run_says m owner = refuse 6 (unowned m owner) (pass_says m.clock m.horizon)

abbrev pub passed : Meaning → Option ℕ → Meaning
passed m owner =
    record {
      clock = m.clock + 1;
      horizon = m.horizon;
      boundaries = later_than (m.clock + 1) (served m.boundaries owner);
    }

abbrev pub run_leaves : Meaning → Option ℕ → Meaning
run_leaves m owner = after (run_says m owner) (passed m owner) m

-- spare(i): refused 4 unless i is a number of an interval.
abbrev pub spare_says : Meaning → ℕ → Said ℤ
spare_says m i = refuse 4 (not (nat_le 1 i && nat_le i (length m.boundaries))) (value (spare m i))

-- headroom(d): refused 4 unless d is to come.
abbrev pub headroom_says : Meaning → ℕ → Said ℕ
headroom_says m d = refuse 4 (not (to_come m d)) (value (headroom m d))

-- Whether c more can be due at d: the headroom takes it.
abbrev pub fits_says : Meaning → ℕ → ℕ → Said Bool
fits_says m d c = mapped (nat_le c) (headroom_says m d)

-- Whether the slot at the clock can be spared: the first interval has one.
abbrev pub spares_slot_says : Meaning → Said Bool
spares_slot_says m = mapped (int_le (pos 1)) (spare_says m 1)
