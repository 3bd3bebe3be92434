-- Boundaries that have been given slots: the ends stay, and less is due.
use Rattle.std.proofs.Common.{◌≡◌, ℕ, zero, suc, ◌-◌, ◌≤◌, true, List, [], ◌∷◌, length, get_or, refl, ap, arith}
use Rattle.capacity.specs.declared.boundary.Boundary.{Boundary}
use Rattle.capacity.specs.Intervals.{boundary_at, start_at}
use Rattle.capacity.specs.Noted.{unserved, first_end}
use Rattle.capacity.specs.Shortage.{short}
use Rattle.capacity.specs.Slack.{rises}
use Rattle.capacity.proofs.Keeps.{rises_cons}
use Rattle.capacity.proofs.Naturals.{rises_first, rises_rest}

pub length_unserved : (bs : List Boundary) (ns : List ℕ) → length (unserved bs ns) ≡ length bs
length_unserved [] ns = refl
length_unserved (b ∷ bs) [] = refl
length_unserved (b ∷ bs) (n ∷ ns) = ap suc (length_unserved bs ns)

pub end_unserved :
    (bs : List Boundary) (ns : List ℕ) (k : ℕ) → (boundary_at (unserved bs ns) k).end ≡ (boundary_at bs k).end
end_unserved [] ns k = refl
end_unserved (b ∷ bs) [] k = refl
end_unserved (b ∷ bs) (n ∷ ns) zero = refl
end_unserved (b ∷ bs) (n ∷ ns) (suc k) = end_unserved bs ns k

pub due_unserved :
    (bs : List Boundary) (ns : List ℕ) (k : ℕ) →
    (boundary_at (unserved bs ns) k).due ≡ (boundary_at bs k).due - get_or ns k 0
due_unserved [] ns k = omega arith
due_unserved (b ∷ bs) [] k = omega arith
due_unserved (b ∷ bs) (n ∷ ns) zero = refl
due_unserved (b ∷ bs) (n ∷ ns) (suc k) = due_unserved bs ns k

pub start_unserved :
    (s : ℕ) (bs : List Boundary) (ns : List ℕ) (k : ℕ) → start_at s (unserved bs ns) k ≡ start_at s bs k
start_unserved s bs ns zero = refl
start_unserved s [] ns (suc k) = refl
start_unserved s (b ∷ bs) [] (suc k) = refl
start_unserved s (b ∷ bs) (n ∷ ns) (suc k) = start_unserved b.end bs ns k

pub first_end_unserved : (s : ℕ) (bs : List Boundary) (ns : List ℕ) → first_end s (unserved bs ns) ≡ first_end s bs
first_end_unserved s [] ns = refl
first_end_unserved s (b ∷ bs) [] = refl
first_end_unserved s (b ∷ bs) (n ∷ ns) = refl

pub rises_unserved :
    (s : ℕ) (bs : List Boundary) (h : ℕ) (ns : List ℕ) → rises s bs h ≡ true → rises s (unserved bs ns) h ≡ true
rises_unserved s [] h ns r = r
rises_unserved s (b ∷ bs) h [] r = r
rises_unserved s (b ∷ bs) h (n ∷ ns) r =
    rises_cons s (record { end = b.end; due = b.due - n }) (unserved bs ns) h (rises_first s b bs h r)
    (rises_unserved b.end bs h ns (rises_rest s b bs h r))

pub short_unserved : (s : ℕ) (bs : List Boundary) (ns : List ℕ) → short s (unserved bs ns) ≤ short s bs
short_unserved s [] ns = omega arith
short_unserved s (b ∷ bs) [] = omega arith
short_unserved s (b ∷ bs) (n ∷ ns) = let more = short_unserved b.end bs ns in omega arith
