-- What the notes say that each boundary got.
use Rattle.std.proofs.Common.{◌≡◌, ℕ, zero, suc, ◌+◌, ◌≤◌, List, [], ◌∷◌, length, get_or, replicate, Some, None, Option, refl, arith}
use Rattle.deferred_book.specs.Noting.{served_of, raised, noting}

pub served_length : (slots : ℕ) (ns : List ℕ) → length (served_of slots ns) ≡ length ns
served_length slots [] = refl
served_length slots (n ∷ ns) = refl

-- where nothing is noted nobody got a slot
pub served_none : (n : ℕ) → served_of 0 (replicate n 0) ≡ replicate n 0
served_none zero = refl
served_none (suc n) = refl

-- what each boundary got, with one slot more: its owner got one more, if it had an owner
abbrev pub one_more : List ℕ → Option ℕ → List ℕ
one_more served None = served
one_more served (Some k) = raised served k

-- one slot noted is one slot more for its owner, and for nobody else
pub served_more :
    (slots : ℕ) (ns : List ℕ) (owner : Option ℕ) → get_or ns 0 0 ≤ slots →
    served_of (slots + 1) (noting ns owner) ≡ one_more (served_of slots ns) owner
served_more slots [] None le = refl
served_more slots [] (Some zero) le = refl
served_more slots [] (Some (suc k)) le = refl
served_more slots (n ∷ ns) None le = grind arith
served_more slots (n ∷ ns) (Some zero) le = grind arith
served_more slots (n ∷ ns) (Some (suc k)) le = grind arith

-- a note of nothing counts no slot
pub none_counted : (n k : ℕ) → get_or (replicate n 0) k 0 ≤ 0
none_counted zero k = omega arith
none_counted (suc n) zero = omega arith
none_counted (suc n) (suc k) = none_counted n k
