-- Sums over a list, compared term by term.
use Rattle.std.proofs.Common.{◌≡◌, ℕ, zero, suc, ◌+◌, ◌≤◌, ◌⊎◌, List, [], ◌∷◌, ◌++◌, map, sum_by, refl, inl, inr, ⊎_elim, arith}
use Rattle.std.specs.List.{ContainsAt as Has, AllByRecursion}
use Rattle.std.proofs.lemmas.List.Sums.{sum_by-cons}

-- what a list with a first element has: that, or one of the rest
pub has_cases : {X : Type 0} (y : X) (ys : List X) (x : X) → Has (y ∷ ys) x → (y ≡ x) ⊎ Has ys x
has_cases y ys x (zero, within, at) = inl (at x)
has_cases y ys x (suc k, within, at) = inr (k, omega arith, λ d. at d)

-- what a list has once it has a first element more
pub has_first : {X : Type 0} (y : X) (ys : List X) → Has (y ∷ ys) y
has_first y ys = (0, omega arith, λ d. refl)

pub has_later : {X : Type 0} (y : X) (ys : List X) (x : X) → Has ys x → Has (y ∷ ys) x
has_later y ys x h = (suc h.0, omega (arith, h.1), λ d. h.2 d)

pub sums_le : {X : Type 0} (f g : X → ℕ) (xs : List X) → AllByRecursion (λ x. f x ≤ g x) xs → sum_by f xs ≤ sum_by g xs
sums_le f g [] le = omega arith
sums_le f g (x ∷ xs) le =
    let rest = sums_le f g xs le.1 in
    omega (arith, sum_by-cons f x xs, sum_by-cons g x xs, le.0)

-- the same, and one term is less
pub sums_less :
    {X : Type 0} (f g : X → ℕ) (xs : List X) (x : X) → Has xs x → f x + 1 ≤ g x → AllByRecursion (λ y. f y ≤ g y) xs →
    sum_by f xs + 1 ≤ sum_by g xs
sums_less f g [] x has less le = absurd (omega (arith, has.1))
sums_less f g (y ∷ ys) x has less le =
    ⊎_elim
    (λ (same : y ≡ x).
    let here : f y + 1 ≤ g y = rw same less in
    let rest = sums_le f g ys le.1 in
    omega (arith, sum_by-cons f y ys, sum_by-cons g y ys))
    (λ (later : Has ys x).
    let rest = sums_less f g ys x later less le.1 in
    omega (arith, sum_by-cons f y ys, sum_by-cons g y ys, le.0))
    (has_cases y ys x has)

pub sums_add :
    {X : Type 0} (f g : X → ℕ) (xs : List X) → sum_by (λ x. f x + g x) xs ≡ sum_by f xs + sum_by g xs
sums_add f g [] = omega arith
sums_add f g (x ∷ xs) =
    let rest = sums_add f g xs in
    omega (arith, sum_by-cons (λ y. f y + g y) x xs, sum_by-cons f x xs, sum_by-cons g x xs)

pub sums_map : {X Y : Type 0} (f : Y → ℕ) (h : X → Y) (xs : List X) → sum_by f (map h xs) ≡ sum_by (λ x. f (h x)) xs
sums_map f h [] = refl
sums_map f h (x ∷ xs) =
    let rest = sums_map f h xs in
    omega (arith, sum_by-cons f (h x) (map h xs), sum_by-cons (λ y. f (h y)) x xs)

pub sums_none : {X : Type 0} (f : X → ℕ) (xs : List X) → AllByRecursion (λ x. f x ≡ 0) xs → sum_by f xs ≡ 0
sums_none f [] none = refl
sums_none f (x ∷ xs) none =
    let rest = sums_none f xs none.1 in
    omega (arith, sum_by-cons f x xs, none.0)

-- what holds of all of a mapped list
pub all_mapped : {X Y : Type 0} (P : Y → Type 0) (h : X → Y) (xs : List X) → AllByRecursion P (map h xs) → AllByRecursion (λ x. P (h x)) xs
all_mapped P h [] all = tt
all_mapped P h (x ∷ xs) all = (all.0, all_mapped P h xs all.1)

-- what holds of everything holds of all of a list
pub all_of : {X : Type 0} (P : X → Type 0) → ((x : X) → P x) → (xs : List X) → AllByRecursion P xs
all_of P holds [] = tt
all_of P holds (x ∷ xs) = (holds x, all_of P holds xs)

-- two facts of all of a list give a third
pub all_both :
    {X : Type 0} (P Q R : X → Type 0) → ((x : X) → P x → Q x → R x) → (xs : List X) → AllByRecursion P xs → AllByRecursion Q xs → AllByRecursion R xs
all_both P Q R gives [] ps qs = tt
all_both P Q R gives (x ∷ xs) ps qs = (gives x ps.0 qs.0, all_both P Q R gives xs ps.1 qs.1)

-- what holds of all of a joined list holds of each part
pub all_left : {X : Type 0} (P : X → Type 0) (xs ys : List X) → AllByRecursion P (xs ++ ys) → AllByRecursion P xs
all_left P [] ys all = tt
all_left P (x ∷ xs) ys all = (all.0, all_left P xs ys all.1)

pub all_right : {X : Type 0} (P : X → Type 0) (xs ys : List X) → AllByRecursion P (xs ++ ys) → AllByRecursion P ys
all_right P [] ys all = all
all_right P (x ∷ xs) ys all = all_right P xs ys all.1
