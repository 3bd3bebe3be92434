-- Headroom is the least slack. All of it is by recursion over the boundaries, for any start s and any slack a gathered before s.
use Rattle.std.proofs.Common.{◌≡◌, ℕ, ◌+◌, ◌-◌, ◌<◌, ◌≤◌, true, List, [], ◌∷◌, refl, arith}
use Rattle.std.proofs.lemmas.Bool.Decides.{nat_tests}
use Rattle.std.proofs.lemmas.Int.{ints}
use Rattle.capacity.specs.declared.boundary.Boundary.{Boundary}
use Rattle.capacity.specs.Meaning.{Meaning}
use Rattle.capacity.specs.Slack.{rises, due_by, HeadroomIsLeastSlack, SpareMeansSlack}
use Rattle.capacity.specs.Shortage.{short}
use Rattle.capacity.proofs.Naturals.{room, room_none, rises_first, rises_rest, headroom_is_room, spare_is}

pub rises_le : (s : ℕ) (bs : List Boundary) (h : ℕ) → rises s bs h ≡ true → s ≤ h
rises_le s [] h r = grind (arith, nat_tests)
rises_le s (b ∷ bs) h r =
    let first = rises_first s b bs h r in
    let rest = rises_le b.end bs h (rises_rest s b bs h r) in
    omega arith

-- nothing is due by the start
pub due_by_none : (s : ℕ) (bs : List Boundary) (h u : ℕ) → rises s bs h ≡ true → u ≤ s → due_by bs u ≡ 0
due_by_none s [] h u r le = refl
due_by_none s (b ∷ bs) h u r le =
    let first = rises_first s b bs h r in
    let rest = due_by_none b.end bs h u (rises_rest s b bs h r) in
    grind (arith, nat_tests)

-- room for c more slots at d leaves enough slack from d on
pub room_suffices :
    (s : ℕ) (bs : List Boundary) (h d c a : ℕ) → rises s bs h ≡ true → s ≤ d →
    c + short s bs ≤ a + room s bs d →
    short s bs ≤ a →
    (u : ℕ) → d ≤ u → u ≤ h →
    due_by bs u + c + s ≤ u + a
room_suffices s [] h d c a r sd fits le u du uh = omega arith
room_suffices s (b ∷ bs) h d c a r sd fits le u du uh =
    let first = rises_first s b bs h r in
    let rest = rises_rest s b bs h r in
    let none = due_by_none b.end bs h u rest in
    let no_room = room_none b.end bs h d rest in
    let no_room_here = room_none b.end bs h b.end rest (omega arith) in
    let past = room_suffices b.end bs h d c (a + b.end - (s + b.due)) rest in
    let within = room_suffices b.end bs h b.end c (a + b.end - (s + b.due)) rest (omega arith) in
    grind (arith, nat_tests)

-- where no slack falls below a, the intervals take no more than a from before s
pub short_within :
    (s : ℕ) (bs : List Boundary) (h a : ℕ) → rises s bs h ≡ true →
    ((u : ℕ) → s < u → u ≤ h → due_by bs u + s ≤ u + a) →
    short s bs ≤ a
short_within s [] h a r slack = omega arith
short_within s (b ∷ bs) h a r slack =
    let first = rises_first s b bs h r in
    let rest = rises_rest s b bs h r in
    let last = rises_le b.end bs h rest in
    let here = slack b.end in
    let more = short_within b.end bs h (a + b.end - (s + b.due)) rest in
    grind (arith, nat_tests)

-- slack enough from d on leaves room for c more slots at d
pub room_needed :
    (s : ℕ) (bs : List Boundary) (h d c a : ℕ) → rises s bs h ≡ true → s < d → d ≤ h →
    short s bs ≤ a →
    ((u : ℕ) → d ≤ u → u ≤ h → due_by bs u + c + s ≤ u + a) →
    c + short s bs ≤ a + room s bs d
room_needed s [] h d c a r sd dh le slack = grind (arith, nat_tests)
room_needed s (b ∷ bs) h d c a r sd dh le slack =
    let rest = rises_rest s b bs h r in
    let last = rises_le b.end bs h rest in
    let none = room_none b.end bs h d rest in
    let there = slack d in
    let here = slack b.end in
    let past = room_needed b.end bs h d c (a + b.end - (s + b.due)) rest in
    let within = short_within b.end bs h (a + b.end - (s + b.due + c)) rest in
    grind (arith, nat_tests)

pub headroom_is_least_slack : (m : Meaning) (d c : ℕ) → HeadroomIsLeastSlack m d c
headroom_is_least_slack m d c ordered met after within =
    let t = m.clock in
    let bs = m.boundaries in
    let h = m.horizon in
    let whole = headroom_is_room t bs h d ordered in
    let none = short_within t bs h 0 ordered in
    let enough = room_suffices t bs h d c 0 ordered in
    let needed = room_needed t bs h d c 0 ordered after within in
    (λ fits u du uh. grind (arith, nat_tests), λ slack. grind (arith, nat_tests))

-- the slot at the clock can be spared exactly when the first interval has one
spare_means_slack_from :
    (t : ℕ) (bs : List Boundary) (h : ℕ) →
    SpareMeansSlack (record { clock = t; horizon = h; boundaries = bs })
spare_means_slack_from t [] h ordered met before = absurd (grind (arith, nat_tests))
spare_means_slack_from t (b ∷ bs) h ordered met before =
    let first = rises_first t b bs h ordered in
    let is = spare_is t b bs in
    let none = short_within t (b ∷ bs) h 0 ordered in
    let no_more = room_none b.end bs h (t + 1) (rises_rest t b bs h ordered) in
    let enough = room_suffices t (b ∷ bs) h (t + 1) 1 0 ordered in
    let needed = room_needed t (b ∷ bs) h (t + 1) 1 0 ordered in
    (λ spare u du uh. grind (arith, nat_tests, ints), λ slack. grind (arith, nat_tests, ints))

pub spare_means_slack : (m : Meaning) → SpareMeansSlack m
spare_means_slack m = spare_means_slack_from m.clock m.boundaries m.horizon
