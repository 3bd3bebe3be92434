-- Slack, and what spare capacity and headroom say about it: the two facts that make slot shifting right.
use Rattle.std.specs.Prelude.{◌≡◌, ℕ, ◌+◌, ◌<◌, ◌≤◌, Bool, true, if◌then◌else◌, ◌&&◌, List, [], ◌∷◌, pos, ◌≤ℤ◌, ◌↔◌, ◌==◌, nat_le, nat_lt}
use Rattle.capacity.specs.declared.boundary.Boundary.{Boundary}
use Rattle.capacity.specs.Meaning.{Meaning}
use Rattle.capacity.specs.Spare.{spare, headroom}

-- The demand due by u.
abbrev pub due_by : List Boundary → ℕ → ℕ
due_by [] u = 0
due_by (b ∷ bs) u = (if nat_le b.end u then b.due else 0) + due_by bs u

-- The slack at b is at least c: what is due by b, and c slots more, fit between the clock and b.
abbrev pub Slack : Meaning → ℕ → ℕ → Type 0
Slack m b c = due_by m.boundaries b + c + m.clock ≤ b

-- The slack is at least c everywhere from d to the horizon.
abbrev pub SlackFrom : Meaning → ℕ → ℕ → Type 0
SlackFrom m d c = (b : ℕ) → d ≤ b → b ≤ m.horizon → Slack m b c

-- Boundaries rise from s to h, which is the last of them.
abbrev pub rises : ℕ → List Boundary → ℕ → Bool
rises s [] h = s == h
rises s (b ∷ bs) h = nat_lt s b.end && rises b.end bs h

-- The boundaries rise from the clock to the horizon.
abbrev pub Ordered : Meaning → Type 0
Ordered m = rises m.clock m.boundaries m.horizon ≡ true

-- No slack is negative.
abbrev pub NoNegativeSlack : Meaning → Type 0
NoNegativeSlack m = SlackFrom m (m.clock + 1) 0

-- The headroom at d is the least slack from d on.
abbrev pub HeadroomIsLeastSlack : Meaning → ℕ → ℕ → Type 0
HeadroomIsLeastSlack m d c =
    Ordered m → NoNegativeSlack m → m.clock < d → d ≤ m.horizon → (c ≤ headroom m d) ↔ SlackFrom m d c

-- The first interval has a slot to spare exactly when every slack is at least 1.
abbrev pub SpareMeansSlack : Meaning → Type 0
SpareMeansSlack m =
    Ordered m → NoNegativeSlack m → m.clock < m.horizon → (pos 1 ≤ℤ spare m 1) ↔ SlackFrom m (m.clock + 1) 1
