-- What an answer says: a value, nothing, or the number of a refusal. Contracts speak of this, and not of variants.
use Rattle.std.specs.Prelude.{ℕ, Bool, if◌then◌else◌, Some, None, Ok, Err, Option, Result}
use Rattle.terms.specs.declared.refusal.Refusal.{Refusal}
use Rattle.terms.specs.declared.refusal.Refusal.TheVariants.{Truncated, Overlong, OutOfRange, Unfit, Surplus, NotHeld, AtHorizon, Full, TooManyBoundaries, NumbersSpent, NoCapacity, BadLine}

-- The number of each refusal.
abbrev pub number_of : Refusal → ℕ
number_of Truncated = 1
number_of Overlong = 2
number_of OutOfRange = 3
number_of Unfit = 4
number_of Surplus = 5
number_of NotHeld = 6
number_of AtHorizon = 7
number_of Full = 8
number_of TooManyBoundaries = 9
number_of NumbersSpent = 10
number_of NoCapacity = 11
number_of BadLine = 12

-- What can be said to a call whose good answer is an X.
pub data Said (X : Type 0) : Type 0 where
  value : X → Said X
  nothing : Said X
  refused : ℕ → Said X

-- A `Result` says its value, or the number of its refusal.
abbrev pub said : {X : Type 0} → Result X Refusal → Said X
said (Ok x) = value x
said (Err e) = refused (number_of e)

-- An `Option` says its value, or nothing.
abbrev pub offered : {X : Type 0} → Option X → Said X
offered (Some x) = value x
offered None = nothing

-- The call is refused with the number n if b, and otherwise goes on. Rules are written in rising order of their numbers.
abbrev pub refuse : {X : Type 0} → ℕ → Bool → Said X → Said X
refuse n b rest = if b then refused n else rest

-- What holds after a call: the new state if it was taken, and the old one after a refusal.
abbrev pub after : {X S : Type 0} → Said X → S → S → S
after (value x) new old = new
after nothing new old = old
after (refused n) new old = old

-- The same answer with its value turned into another; a refusal stays.
abbrev pub mapped : {X Y : Type 0} → (X → Y) → Said X → Said Y
mapped f (value x) = value (f x)
mapped f nothing = nothing
mapped f (refused n) = refused n
