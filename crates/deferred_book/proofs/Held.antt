-- What is known of every deferred book.
use Rattle.std.proofs.Common.{◌≡◌, ℕ, ◌+◌, ◌-◌, ◌<◌, ◌≤◌, Bool, true, false, leb, length, get_or, Some, None, Option, Ok, Err, Result, refl, arith}
use Rattle.std.proofs.lemmas.Bool.Decides.{nat_tests}
use Rattle.std.specs.Bool.{then_some}
use Rattle.std.specs.Option.{MatchOption, ForSome, IsSomeAnd, ok_or, option_transpose}
use Rattle.std.specs.Result.{result_ok}
use Rattle.capacity.specs.Calls.{is_boundary, is_due, run_says, run_leaves}
use Rattle.capacity.specs.Intervals.{boundary_at}
use Rattle.capacity.specs.Meaning.{Meaning}
use Rattle.capacity.specs.Noted.{unserved, first_end}
use Rattle.capacity.specs.Places.{Stands, Found, Owing}
use Rattle.capacity.specs.Slack.{Ordered}
use Rattle.capacity.proofs.Least.{rises_le}
use Rattle.capacity.proofs.Noted.{length_unserved, end_unserved, due_unserved, rises_unserved}
use Rattle.capacity.proofs.Passing.{first_end_later}
use Rattle.capacity.proofs.Places.{stands, ends_rise}
use Rattle.slot_book.specs.Slot.{slot_meaning}
use Rattle.terms.specs.Answers.{value}
use Rattle.terms.specs.Limits.{longest_horizon, most_boundaries}
use Rattle.terms.specs.declared.refusal.Refusal.{Refusal}
use Rattle.terms.specs.declared.refusal.Refusal.TheVariants.{NotHeld}
use Rattle.deferred_book.specs.declared.deferred.DeferredBook.{DeferredBook}
use Rattle.deferred_book.specs.Deferred.{served_by, after_notes, deferred_meaning}
use Rattle.deferred_book.specs.declared.notes.Notes.{Notes}
use Rattle.deferred_book.specs.Noting.{noting}
use Rattle.deferred_book.proofs.Keeping.{noted_meaning}
use Rattle.deferred_book.proofs.Catching.{caught_up_boundaries, noted_for, noted_for_nobody}
use Rattle.deferred_book.proofs.Facts.{book_ordered, book_ranged, book_few}
use Rattle.deferred_book.proofs.Served.{served_length}
use Rattle.deferred_book.proofs.Unserved.{unserved_boundary}

-- its clock is in range
pub clock_within : (b : DeferredBook) → (deferred_meaning b).clock ≤ longest_horizon
clock_within b =
    let m = slot_meaning b.settled in
    omega (arith, rises_le (m.clock + b.notes.slots) m.boundaries m.horizon b.within, book_ranged b.settled)

-- its boundaries are those of the settled book, with less due
pub boundaries_are :
    (b : DeferredBook) → (deferred_meaning b).boundaries ≡ unserved (slot_meaning b.settled).boundaries (served_by b.notes)
boundaries_are b = caught_up_boundaries (slot_meaning b.settled) b.notes.slots (served_by b.notes) b.within

pub count_is :
    (b : DeferredBook) → length (deferred_meaning b).boundaries ≡ length (slot_meaning b.settled).boundaries
count_is b =
    let same = boundaries_are b in
    let kept = length_unserved (slot_meaning b.settled).boundaries (served_by b.notes) in
    grind arith

pub deferred_ordered : (b : DeferredBook) → Ordered (deferred_meaning b)
deferred_ordered b =
    let m = slot_meaning b.settled in
    let same = boundaries_are b in
    let rise = rises_unserved (m.clock + b.notes.slots) m.boundaries m.horizon (served_by b.notes) b.within in
    grind arith

-- what is due at a place
pub due_is :
    (b : DeferredBook) (k : ℕ) →
    (boundary_at (deferred_meaning b).boundaries k).due
    ≡ (boundary_at (slot_meaning b.settled).boundaries k).due - get_or (served_by b.notes) k 0
due_is b k =
    let same = boundaries_are b in
    let less = due_unserved (slot_meaning b.settled).boundaries (served_by b.notes) k in
    grind arith

-- a deadline stands where it stood
pub stands_still :
    (b : DeferredBook) (d k : ℕ) → Stands (slot_meaning b.settled).boundaries d k →
    Stands (deferred_meaning b).boundaries d k
stands_still b d k at =
    let D = deferred_meaning b in
    let same = boundaries_are b in
    let within : k < length D.boundaries = omega (arith, at.within, count_is b) in
    let ends = end_unserved (slot_meaning b.settled).boundaries (served_by b.notes) k in
    stands D.boundaries d k
    (λ j jk. let rise = ends_rise D.clock D.boundaries D.horizon j k (deferred_ordered b) jk within in grind arith)
    within (grind arith)

-- a deadline that is no boundary of the settled book has nothing due
pub lacks_still :
    (b : DeferredBook) (d : ℕ) → is_boundary (slot_meaning b.settled).boundaries d ≡ false →
    is_due (deferred_meaning b) d 1 ≡ false
lacks_still b d new =
    let same = boundaries_are b in
    let still = unserved_boundary (slot_meaning b.settled).boundaries (served_by b.notes) d in
    grind (arith, nat_tests)

-- a search that keeps the place where something is due finds the place of an owner
pub owing_kept :
    (b : DeferredBook) (d : ℕ) (placed : Result ℕ ℕ) (kept : Option ℕ) (Keeps : ℕ → Bool → Type 0) →
    Found (slot_meaning b.settled).boundaries d placed →
    ((k : ℕ) (t : Bool) → Keeps k t → t ≡ leb 1 (boundary_at (deferred_meaning b).boundaries k).due) →
    MatchOption (result_ok placed) (kept ≡ None) (λ k. (t : Bool) × Keeps k t × (kept ≡ then_some t k)) →
    Owing (deferred_meaning b) d 1 (ok_or kept NotHeld)
owing_kept b d (Err k) kept Keeps new tells none = rw none (refl, lacks_still b d new.new)
owing_kept b d (Ok k) kept Keeps found tells (true, keeps, is) =
    let at = stands_still b d k found in
    let due = tells k true keeps in
    rw is (at, grind (arith, nat_tests))
owing_kept b d (Ok k) kept Keeps found tells (false, keeps, is) =
    let at = stands_still b d k found in
    let none = tells k false keeps in
    rw is (refl, grind (arith, nat_tests))

-- where the slot at the clock does not end the first interval, it lies before the horizon, and can be noted
pub before_horizon :
    (b : DeferredBook) →
    (deferred_meaning b).clock + 1 < first_end (slot_meaning b.settled).clock (slot_meaning b.settled).boundaries →
    (deferred_meaning b).clock < (deferred_meaning b).horizon
before_horizon b before =
    let m = slot_meaning b.settled in
    omega (arith, (first_end_later m.clock m.boundaries m.horizon (book_ordered b.settled)).1)

pub few_noted :
    (b : DeferredBook) →
    (deferred_meaning b).clock + 1 < first_end (slot_meaning b.settled).clock (slot_meaning b.settled).boundaries →
    b.notes.slots < longest_horizon
few_noted b before = omega (arith, before_horizon b before, book_ranged b.settled)

pub place_below :
    (b : DeferredBook) (d k : ℕ) → Stands (deferred_meaning b).boundaries d k → k < most_boundaries
place_below b d k at = omega (arith, at.within, count_is b, book_few b.settled)

-- whom a slot is for, by deadline and by place: for nobody, or for a boundary with something due
abbrev pub OwnedBy : Meaning → Option ℕ → Option ℕ → Type 0
OwnedBy m owner place = MatchOption owner (place ≡ None) (λ d. IsSomeAnd place (λ k. Owing m d 1 (Ok k)))

pub owner_found :
    (m : Meaning) (owner : Option ℕ) (found : Option (Result ℕ Refusal)) (place : Option ℕ)
    (Finds : ℕ → Result ℕ Refusal → Type 0) → ((d : ℕ) (r : Result ℕ Refusal) → Finds d r → Owing m d 1 r) →
    MatchOption owner (found ≡ None) (λ d. IsSomeAnd found (Finds d)) →
    option_transpose found ≡ Ok place →
    OwnedBy m owner place
owner_found m None found place Finds tells none is = let same = rw none at is in cc
owner_found m (Some d) None place Finds tells some is = absurd some
owner_found m (Some d) (Some (Err e)) place Finds tells some is = cc
owner_found m (Some d) (Some (Ok k)) place Finds tells some is =
    let same : Some k ≡ place = cc in rw (← same) (tells d (Ok k) some)

-- the place of an owner is the place of a boundary
pub owner_below :
    (b : DeferredBook) (owner place : Option ℕ) → OwnedBy (deferred_meaning b) owner place →
    ForSome place (λ k. k < most_boundaries)
owner_below b None place owned = λ k is. cc
owner_below b (Some d) None owned = absurd owned
owner_below b (Some d) (Some j) owned =
    λ k is. let same : j ≡ k = cc in rw (← same) (place_below b d j owned.0)

-- a slot noted for its owner is that slot passed
pub noted_run :
    (b : DeferredBook) (notes : Notes) (owner place : Option ℕ) →
    (deferred_meaning b).clock + 1 < first_end (slot_meaning b.settled).clock (slot_meaning b.settled).boundaries →
    OwnedBy (deferred_meaning b) owner place →
    notes.slots ≡ b.notes.slots + 1 →
    notes.noted ≡ noting b.notes.noted place →
    (value tt ≡ run_says (deferred_meaning b) owner)
    × (after_notes (slot_meaning b.settled) notes ≡ run_leaves (deferred_meaning b) owner)
noted_run b notes None place before owned slots noted =
    let m = slot_meaning b.settled in
    let ahead = before_horizon b before in
    let left = noted_meaning m b.notes notes place slots noted in
    let same = noted_for_nobody m b.notes.slots (served_by b.notes) b.within in
    (grind (arith, nat_tests), grind (arith, nat_tests))
noted_run b notes (Some d) None before owned slots noted = absurd owned
noted_run b notes (Some d) (Some k) before owned slots noted =
    let m = slot_meaning b.settled in
    let ns = served_by b.notes in
    let ahead = before_horizon b before in
    let left = noted_meaning m b.notes notes (Some k) slots noted in
    let here : k < length ns =
    omega (arith, place_below b d k owned.0, served_length b.notes.slots b.notes.noted, b.notes.each)
    in
    let same = noted_for m b.notes.slots ns d k b.within (rw (boundaries_are b) at owned.0) here in
    (grind (arith, nat_tests), grind (arith, nat_tests))
