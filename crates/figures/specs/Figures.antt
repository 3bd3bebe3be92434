-- The worked figures, in one list. Each is a fact about the definitions that the contracts of the code cite.
use Rattle.std.specs.Prelude.{◌≡◌, List, [], ◌∷◌, ℤ, pos, negsuc, Some, None}
use Rattle.terms.specs.Answers.{value, refused}
use Rattle.capacity.specs.Calls.{cleared, owe_says}
use Rattle.capacity.specs.Filled.{filled, ran}
use Rattle.capacity.specs.Meaning.{Meaning}
use Rattle.capacity.specs.Spare.{spares, headroom}

-- All statements of a list hold.
abbrev pub AllHold : List (Type 0) → Type 0
AllHold [] = Unit {0}
AllHold (P ∷ Ps) = P × AllHold Ps

-- The spare capacity of every interval of a book.
abbrev pub spares_of : Meaning → List ℤ
spares_of m = spares m.clock m.boundaries

-- The worked example: horizon 12, with 2, 1, 1 and 5 slots due at 6, 8, 10 and 12.
abbrev pub worked : Meaning
worked =
    filled (cleared 12)
    (record { end = 6; due = 2 } ∷ record { end = 8; due = 1 } ∷ record { end = 10; due = 1 } ∷ record { end = 12; due = 5 } ∷ [])

-- The same after three slots for 12 and one for nobody.
abbrev pub worked_later : Meaning
worked_later = ran worked (Some 12 ∷ Some 12 ∷ Some 12 ∷ None ∷ [])

abbrev pub figures : List (Type 0)
figures =
    (spares_of worked ≡ pos 3 ∷ negsuc 0 ∷ negsuc 1 ∷ negsuc 2 ∷ [])
    ∷ (headroom worked 2 ≡ 2)
    ∷ (headroom worked 6 ≡ 3)
    ∷ (headroom worked 12 ≡ 3)
    ∷ (owe_says worked 12 3 ≡ value tt)
    ∷ (owe_says worked 12 4 ≡ refused 11)
    ∷ (spares_of worked_later ≡ pos 0 ∷ pos 1 ∷ pos 1 ∷ pos 0 ∷ [])
    ∷ []
