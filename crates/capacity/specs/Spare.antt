-- Spare capacity and headroom, by their formulas. Intervals lie one behind the other: the first begins at s, each other
-- one where the interval before it ends.
use Rattle.std.specs.Prelude.{ℕ, ◌+◌, ◌-◌, if◌then◌else◌, List, [], ◌∷◌, ℤ, pos, negsuc, ◌+ℤ◌, ◌-ℤ◌, nat_le, slice_index_or}
use Rattle.std.specs.Int.{int_min}
use Rattle.capacity.specs.declared.boundary.Boundary.{Boundary}
use Rattle.capacity.specs.Meaning.{Meaning}

-- The first interval's width less what is due at its end, less what the intervals behind it lack.
abbrev pub first_spare : ℕ → List Boundary → ℤ
first_spare s [] = pos 0
first_spare s (b ∷ bs) = ((pos b.end -ℤ pos s) -ℤ pos b.due) +ℤ int_min (pos 0) (first_spare b.end bs)

-- The spare capacity of every interval, in order.
abbrev pub spares : ℕ → List Boundary → List ℤ
spares s [] = []
spares s (b ∷ bs) = first_spare s (b ∷ bs) ∷ spares b.end bs

-- spare(i): intervals are counted from 1.
abbrev pub spare : Meaning → ℕ → ℤ
spare m i = slice_index_or (spares m.clock m.boundaries) (i - 1) (pos 0)

-- max(0, z), as a natural number.
abbrev pub positive_part : ℤ → ℕ
positive_part (pos n) = n
positive_part (negsuc n) = 0

-- What the intervals before d's can spare, and of d's own interval no more than lies before d.
abbrev pub headroom_from : ℕ → List Boundary → ℕ → ℕ
headroom_from s [] d = 0
headroom_from s (b ∷ bs) d =
    if nat_le d b.end
    then positive_part (int_min (pos d -ℤ pos s) (first_spare s (b ∷ bs)))
    else positive_part (first_spare s (b ∷ bs)) + headroom_from b.end bs d

-- headroom(d).
abbrev pub headroom : Meaning → ℕ → ℕ
headroom m d = headroom_from m.clock m.boundaries d
