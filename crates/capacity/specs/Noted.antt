-- Slots of the first interval that have passed and are entered in a book later, several at once.
use Rattle.std.specs.Prelude.{ℕ, ◌+◌, ◌-◌, not, List, [], ◌∷◌, nat_le}
use Rattle.terms.specs.Answers.{Said, value, refuse, after}
use Rattle.capacity.specs.declared.boundary.Boundary.{Boundary}
use Rattle.capacity.specs.Calls.{later_than}
use Rattle.capacity.specs.Meaning.{Meaning}

-- Each boundary, in order, has been given so many slots: so much less is due there.
abbrev pub unserved : List Boundary → List ℕ → List Boundary
unserved [] served = []
unserved (b ∷ bs) [] = b ∷ bs
unserved (b ∷ bs) (n ∷ served) = record { end = b.end; due = b.due - n } ∷ unserved bs served

-- So many slots have passed, of which each boundary got its number; a boundary that the clock reaches goes.
abbrev pub caught_up : Meaning → ℕ → List ℕ → Meaning
caught_up m slots served =
    record {
      clock = m.clock + slots;
      horizon = m.horizon;
      boundaries = later_than (m.clock + slots) (unserved m.boundaries served);
    }

-- Where the first interval ends; at s if none is left.
abbrev pub first_end : ℕ → List Boundary → ℕ
first_end s [] = s
first_end s (b ∷ bs) = b.end

-- Slots are caught up with in the first interval only: refused 4 if they pass its end.
abbrev pub catch_up_says : Meaning → ℕ → Said (Unit {0})
catch_up_says m slots = refuse 4 (not (nat_le (m.clock + slots) (first_end m.clock m.boundaries))) (value tt)

abbrev pub catch_up_leaves : Meaning → ℕ → List ℕ → Meaning
catch_up_leaves m slots served = after (catch_up_says m slots) (caught_up m slots served) m
