-- What mending several slots at once asks of the records, and the starts of their intervals.
use Rattle.std.specs.Prelude.{◌≡◌, ℕ, zero, suc, ◌<◌, ◌≤◌, List, length}
use Rattle.capacity.specs.Shortage.{short}
use Rattle.slot_book.specs.Carry.{span_at}
use Rattle.slot_book.specs.Spans.{spans_of, dues_of}
use Rattle.slot_book.specs.declared.span.Span.{Span}

-- Where the interval at a place begins: at s, or where the one before it ends.
abbrev pub start_of : ℕ → List Span → ℕ → ℕ
start_of s xs zero = s
start_of s xs (suc k) = (span_at xs k).end

-- The spares are those of the demands that they tell, which take no more from before s than s, and the intervals lie in order.
pub record Mendable (s : ℕ) (xs : List Span) : Type 0 where
  pub fair : spans_of s (dues_of s xs) ≡ xs
  pub bounded : short s (dues_of s xs) ≤ s
  pub wide : (k : ℕ) → k < length xs → start_of s xs k ≤ (span_at xs k).end
