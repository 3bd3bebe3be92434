-- Catching up with noted slots.
use Rattle.std.proofs.Common.{◌≡◌, ℕ, ◌+◌, ◌-◌, ◌<◌, ◌≤◌, true, List, [], ◌∷◌, length, replicate, Some, None, Ok, Err, Result, sym, refl, arith}
use Rattle.std.proofs.lemmas.Bool.Decides.{nat_tests}
use Rattle.std.specs.Result.{IsOk}
use Rattle.capacity.specs.declared.boundary.Boundary.{Boundary}
use Rattle.capacity.specs.Calls.{later_than, passed, with_due, due_at}
use Rattle.capacity.specs.Meaning.{Meaning}
use Rattle.capacity.specs.Noted.{unserved, caught_up, first_end, catch_up_says}
use Rattle.capacity.specs.Places.{Stands}
use Rattle.capacity.specs.Slack.{rises, Ordered}
use Rattle.capacity.proofs.Noted.{rises_unserved}
use Rattle.terms.specs.Answers.{said}
use Rattle.terms.specs.declared.refusal.Refusal.{Refusal}
use Rattle.deferred_book.specs.Noting.{raised}
use Rattle.deferred_book.proofs.Unserved.{unserved_none, unserved_raised, one_less}

-- no boundary goes before the first interval ends
pub later_all : (t : ℕ) (bs : List Boundary) (h : ℕ) → rises t bs h ≡ true → later_than t bs ≡ bs
later_all t [] h r = refl
later_all t (b ∷ bs) h r = grind (arith, nat_tests)

-- slots that end before the first interval does drop no boundary
pub caught_up_boundaries :
    (m : Meaning) (slots : ℕ) (ns : List ℕ) → rises (m.clock + slots) m.boundaries m.horizon ≡ true →
    (caught_up m slots ns).boundaries ≡ unserved m.boundaries ns
caught_up_boundaries m slots ns r =
    later_all (m.clock + slots) (unserved m.boundaries ns) m.horizon
    (rises_unserved (m.clock + slots) m.boundaries m.horizon ns r)

-- with no slot to catch up with, a book means what it meant
pub caught_up_none : (m : Meaning) (n : ℕ) → Ordered m → caught_up m 0 (replicate n 0) ≡ m
caught_up_none m n ordered =
    let none = unserved_none m.boundaries n in
    let all = later_all m.clock m.boundaries m.horizon ordered in
    grind arith

-- one slot less due at d, at the place where it stands
served_at :
    (bs : List Boundary) (d k : ℕ) → Stands bs d k → one_less bs k ≡ with_due bs d (due_at bs d - 1)
served_at bs d k at = rw (at.ends, at.owes) (sym (at.sets (due_at bs d - 1)))

-- A slot for the boundary at a place, noted, is that slot passed.
pub noted_for :
    (m : Meaning) (slots : ℕ) (ns : List ℕ) (d k : ℕ) → rises (m.clock + slots) m.boundaries m.horizon ≡ true →
    Stands (unserved m.boundaries ns) d k →
    k < length ns →
    caught_up m (slots + 1) (raised ns k) ≡ passed (caught_up m slots ns) (Some d)
noted_for m slots ns d k r at lt =
    let bs = caught_up_boundaries m slots ns r in
    let less = unserved_raised m.boundaries ns k lt in
    let there = served_at (unserved m.boundaries ns) d k at in
    grind arith

-- The same of a slot for nobody.
pub noted_for_nobody :
    (m : Meaning) (slots : ℕ) (ns : List ℕ) → rises (m.clock + slots) m.boundaries m.horizon ≡ true →
    caught_up m (slots + 1) ns ≡ passed (caught_up m slots ns) None
noted_for_nobody m slots ns r = let bs = caught_up_boundaries m slots ns r in grind arith

-- slots that end before the first interval does are caught up with
within_first_end :
    (s t : ℕ) (bs : List Boundary) (h : ℕ) → rises s bs h ≡ true → rises t bs h ≡ true → t ≤ first_end s bs
within_first_end s t [] h ordered r = grind (arith, nat_tests)
within_first_end s t (b ∷ bs) h ordered r = grind (arith, nat_tests)

pub catches_up :
    (m : Meaning) (slots : ℕ) (r : Result (Unit {0}) Refusal) → Ordered m →
    rises (m.clock + slots) m.boundaries m.horizon ≡ true →
    said r ≡ catch_up_says m slots →
    IsOk r
catches_up m slots (Ok x) ordered r says = refl
catches_up m slots (Err e) ordered r says =
    let within = within_first_end m.clock (m.clock + slots) m.boundaries m.horizon ordered r in
    grind (arith, nat_tests)
