use Rattle.std.proofs.Common.{◌≤◌, length, vec_items, arith, rules}
use Rattle.std.proofs.lemmas.Int.{ints}
use Rattle.capacity.proofs.Intervals.{spare_answered}
use Rattle.plain_book.proofs.Latest.{latest_le, start_le, spare_at}
use Rattle.plain_book.specs.Plain.{plain_meaning}
use Rattle.plain_book.proofs.lines.PlainBookBook.spare.Goals as goal

pub overflow_cast-result : goal.overflow_cast-result
overflow_cast-result c = grind (arith, ints, latest_le)

pub overflow_cast-result-2 : goal.overflow_cast-result-2
overflow_cast-result-2 c = grind (arith, ints, start_le)

pub overflow_sub-result : goal.overflow_sub-result
overflow_sub-result c = grind (arith, ints, latest_le, start_le)

pub returns-clause-answer : goal.returns-clause-answer
returns-clause-answer c =
    let first : 1 ≤ c.args.interval = search rules in
    let last : c.args.interval ≤ length (vec_items c.args.self.now.boundaries) = search rules in
    spare_answered (plain_meaning c.args.self.now) _ _ first last (grind (arith, ints, latest_le, start_le, spare_at))
