-- Counting slots.
use Rattle.std.proofs.Common.{◌≡◌, ℕ, zero, suc, ◌+◌, ◌<◌, ◌≤◌, Bool, true, Some, None, Option, sym, refl, ap, arith}
use Rattle.std.proofs.lemmas.Bool.{eqb-true, eq-eqb}
use Rattle.std.proofs.lemmas.Bool.Decides.{nat_tests}
use Rattle.schedule.specs.Schedules.{went_to, one_if, slots}

-- the owner that a slot went to
pub owner_is : (n : ℕ) (owner : Option ℕ) → went_to n owner ≡ true → owner ≡ Some n
owner_is n None went = cc
owner_is n (Some m) went = ap Some (sym (eqb-true n m went))

pub went : (n : ℕ) (owner : Option ℕ) → owner ≡ Some n → went_to n owner ≡ true
went n owner is = rw is (eq-eqb n n refl)

-- no slot lies from a on and before b where b is not behind a
pub slots_none : (p : ℕ → Bool) (a b : ℕ) → b ≤ a → slots p a b ≡ 0
slots_none p a zero le = refl
slots_none p a (suc b) le = let rest = slots_none p a b in grind (arith, nat_tests)

-- a longer stretch has no fewer
pub slots_grow : (p : ℕ → Bool) (a b h : ℕ) → b ≤ h → slots p a b ≤ slots p a h
slots_grow p a b zero le = let none : b ≡ 0 = omega arith in rw none (omega arith)
slots_grow p a b (suc h) le =
    let rest = slots_grow p a b h in
    let last : b ≡ suc h → slots p a b ≡ slots p a (suc h) = ap (slots p a) in
    grind (arith, nat_tests)

-- a later first slot loses none if all that count lie behind it
pub slots_from :
    (p : ℕ → Bool) (t a h : ℕ) → ((u : ℕ) → t ≤ u → u < h → p u ≡ true → a ≤ u) → slots p t h ≤ slots p a h
slots_from p t a zero inside = omega arith
slots_from p t a (suc h) inside =
    let rest = slots_from p t a h (λ u tu uh counts. inside u tu (omega arith) counts) in
    let here = inside h in
    grind (arith, nat_tests)

-- an earlier end loses none if all that count lie before it
pub slots_upto :
    (p : ℕ → Bool) (a b h : ℕ) → ((u : ℕ) → a ≤ u → u < h → p u ≡ true → u < b) → slots p a h ≤ slots p a b
slots_upto p a b zero inside = omega arith
slots_upto p a b (suc h) inside =
    let rest = slots_upto p a b h (λ u au uh counts. inside u au (omega arith) counts) in
    let grow = slots_grow p a (suc h) b in
    let here = inside h in
    grind (arith, nat_tests)

-- all the slots that count in a stretch lie in another
pub slots_inside :
    (p : ℕ → Bool) (t h a b : ℕ) → t ≤ a → ((u : ℕ) → t ≤ u → u < h → p u ≡ true → (a ≤ u) × (u < b)) →
    slots p t h ≤ slots p a b
slots_inside p t h a b ta inside =
    let from = slots_from p t a h (λ u tu uh counts. (inside u tu uh counts).0) in
    let upto = slots_upto p a b h (λ u au uh counts. (inside u (omega arith) uh counts).1) in
    omega arith

-- the first slot, and the others
pub slots_first : (p : ℕ → Bool) (t h : ℕ) → t < h → slots p t h ≡ one_if (p t) + slots p (t + 1) h
slots_first p t zero lt = absurd (omega arith)
slots_first p t (suc h) lt =
    let rest = slots_first p t h in
    let none = slots_none p t h in
    let none_later = slots_none p (t + 1) h in
    grind (arith, nat_tests)
