-- The notes of the slots since a book was settled, and what they say that each boundary got.
use Rattle.std.specs.Prelude.{◌≡◌, ℕ, zero, suc, ◌+◌, ◌-◌, List, [], ◌∷◌, replicate, Some, None, Option, slice_index, slice_set}
use Rattle.terms.specs.Limits.{most_boundaries}
use Rattle.deferred_book.specs.declared.notes.Notes.{Notes}

-- What each boundary got: the first got the slots that its interval did not lose, the others what is noted.
abbrev pub served_of : ℕ → List ℕ → List ℕ
served_of slots [] = []
served_of slots (fallen ∷ ns) = (slots - fallen) ∷ ns

-- One more at a place.
abbrev pub raised : List ℕ → ℕ → List ℕ
raised ns k = slice_set ns k (slice_index ns k + 1)

-- The notes after one slot more. A slot for the first boundary touches none; any other lowers the first interval's spare, and one for a
-- later boundary is noted there.
abbrev pub noting : List ℕ → Option ℕ → List ℕ
noting ns None = raised ns 0
noting ns (Some zero) = ns
noting ns (Some (suc k)) = raised (raised ns 0) (suc k)

-- No slot is noted.
pub record Unnoted (notes : Notes) : Type 0 where
  pub slots : notes.slots ≡ 0
  pub noted : notes.noted ≡ replicate most_boundaries 0
