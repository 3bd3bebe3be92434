-- Slots given to boundaries in order, one more or none.
use Rattle.std.proofs.Common.{◌≡◌, ℕ, zero, suc, ◌-◌, ◌<◌, ◌||◌, eqb, List, [], ◌∷◌, length, set, replicate, refl, ap, arith}
use Rattle.capacity.specs.declared.boundary.Boundary.{Boundary}
use Rattle.capacity.specs.Calls.{is_boundary}
use Rattle.capacity.specs.Intervals.{boundary_at}
use Rattle.capacity.specs.Noted.{unserved}
use Rattle.deferred_book.specs.Noting.{raised}

pub unserved_boundary : (bs : List Boundary) (ns : List ℕ) (d : ℕ) → is_boundary (unserved bs ns) d ≡ is_boundary bs d
unserved_boundary [] ns d = refl
unserved_boundary (b ∷ bs) [] d = refl
unserved_boundary (b ∷ bs) (n ∷ ns) d = ap (λ r. eqb b.end d || r) (unserved_boundary bs ns d)

-- nothing given leaves what is due
pub unserved_none : (bs : List Boundary) (n : ℕ) → unserved bs (replicate n 0) ≡ bs
unserved_none [] n = refl
unserved_none (b ∷ bs) zero = refl
unserved_none (b ∷ bs) (suc n) = let rest = unserved_none bs n in grind arith

-- the boundary at a place with one slot less due
abbrev pub one_less : List Boundary → ℕ → List Boundary
one_less bs k = set bs k (record { end = (boundary_at bs k).end; due = (boundary_at bs k).due - 1 })

-- one slot more given at a place is one less due there
pub unserved_raised :
    (bs : List Boundary) (ns : List ℕ) (k : ℕ) → k < length ns → unserved bs (raised ns k) ≡ one_less (unserved bs ns) k
unserved_raised [] ns k lt = refl
unserved_raised (b ∷ bs) [] k lt = absurd (omega arith)
unserved_raised (b ∷ bs) (n ∷ ns) zero lt = grind arith
unserved_raised (b ∷ bs) (n ∷ ns) (suc k) lt = let rest = unserved_raised bs ns k in grind arith
