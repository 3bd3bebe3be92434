-- Whether the accounts of the three books are the same, and the line that says so.
use Rattle.std.specs.Prelude.{◌≡◌, ℕ, List, codes, string_bytes}
use Rattle.account.specs.declared.agreement.Accounts.{Accounts}

-- Three texts have the same bytes.
abbrev pub SameThree : List ℕ → List ℕ → List ℕ → Type 0
SameThree a b c = (a ≡ b) × (b ≡ c)

-- The three accounts have the same bytes.
abbrev pub Agree : Accounts → Type 0
Agree a = SameThree (string_bytes a.plain) (string_bytes a.slot) (string_bytes a.deferred)

-- A line that says whether P holds of the three books.
abbrev pub ClosedBy : Type 0 → List ℕ → Type 0
ClosedBy P line =
    (P → line ≡ codes "The three books agree.") × (¬ P → line ≡ codes "The three books do not agree.")
