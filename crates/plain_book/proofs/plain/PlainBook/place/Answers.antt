use Rattle.std.proofs.Common.{length, ap, rules}
use Rattle.std.proofs.lemmas.List.Sorted.{answers_always}
use Rattle.capacity.specs.Intervals.{boundary_at}
use Rattle.capacity.proofs.Searching.{found}
use Rattle.plain_book.proofs.plain.PlainBook.place.Goals as goal

-- the closure gives a boundary's end, and the slice is the book's boundaries
pub returns : goal.returns
returns c =
    let facts = c.binary_search_by_key.ensures in
    let same = c.deref.ensures.value in
    found (λ b. b.end) _ _ _ _ _ _ c.args.self.now.ordered (ap length same)
    (λ k _. ap (λ bs. (boundary_at bs k).end) same) _ facts.bound
    (facts.position (λ b. b.end) (search (rules, answers_always)))
