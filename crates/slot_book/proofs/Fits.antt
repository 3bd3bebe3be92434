-- A demand as a change of a spare, up or down.
use Rattle.std.proofs.Common.{◌≡◌, ◌≤◌, ◌-ℤ◌, to_z, of_z, ℕ, pos, arith, w32}
use Rattle.std.proofs.lemmas.Int.{ints}

pub gain_is : (c : ℕ) → c ≤ 1000000 → to_z w32 c ≡ pos c
gain_is c few = omega (arith, ints)

pub loss_is : (c : ℕ) → c ≤ 1000000 → to_z w32 (of_z w32 (pos 0 -ℤ to_z w32 c)) ≡ pos 0 -ℤ pos c
loss_is c few = omega (arith, ints)
