-- What std's binary search by the ends of records finds among boundaries that rise.
use Rattle.std.proofs.Common.{◌≡◌, ℕ, ◌<◌, ◌≤◌, true, List, length, get_or, Result, Ok, Err, sym, ◌∙◌, arith}
use Rattle.std.specs.List.Sorted.{IsSearchInRange, IsBinarySearchResult, IsNonDecreasingBy}
use Rattle.std.specs.Ordering.{nat_cmp, ordering_index}
use Rattle.std.proofs.lemmas.Bool.Decides.{nat_tests}
use Rattle.std.proofs.lemmas.Cmp.{ranked}
use Rattle.std.proofs.lemmas.List.Sorted.{IsNonDecreasingBy-from_default}
use Rattle.capacity.specs.declared.boundary.Boundary.{Boundary}
use Rattle.capacity.specs.Intervals.{boundary_at}
use Rattle.capacity.specs.Places.{Found}
use Rattle.capacity.specs.Slack.{rises}
use Rattle.capacity.proofs.Places.{stands, lacks, ends_rise}

-- records xs with the ends of boundaries that rise, and a deadline d
module _ {X : Type 0} (end_of : X → ℕ) (other : X) (xs : List X) (s : ℕ) (bs : List Boundary) (h d : ℕ) (ordered : rises s bs h ≡ true) (same : length xs ≡ length bs) (ends : (k : ℕ) → k < length xs → end_of (get_or xs k other) ≡ (boundary_at bs k).end) where
  -- the comparisons with d rise along the records, as a binary search asks
  comparisons_rise : IsNonDecreasingBy (λ x. ordering_index (nat_cmp (end_of x) d)) xs
  comparisons_rise = IsNonDecreasingBy-from_default (λ x. ordering_index (nat_cmp (end_of x) d)) xs other (λ i j le lt.
      let rise : end_of (get_or xs i other) ≤ end_of (get_or xs j other) = (
      let at_i = ends i (omega arith) in
      let at_j = ends j lt in
      grind (arith, at_i, at_j, ends_rise s bs h i j ordered, λ (e : i ≡ j). at_j)
      )
      in
      grind (arith, nat_tests))

  pub found : (r : Result ℕ ℕ) → IsSearchInRange r (length xs) → IsBinarySearchResult (λ x. nat_cmp (end_of x) d) xs r → Found bs d r
  found (Ok i) within equal =
      let here : (boundary_at bs i).end ≡ d = sym (ends i within) ∙ ranked _ d _ (sym (equal other)) in
      let inside : i < length bs = omega arith in
      stands bs d i (λ k lt. omega (arith, ends_rise s bs h k i ordered lt inside)) inside here
  found (Err i) within parted =
      lacks s bs h d i ordered
      (λ k lt. omega (arith, ends k (omega arith), ranked _ d _ (sym ((parted comparisons_rise).0 k other (omega arith) lt))))
      (omega arith)
      (λ lt. omega (arith, ends i (omega arith), ranked _ d _ (sym ((parted comparisons_rise).1 i other (omega arith) (omega arith)))))
