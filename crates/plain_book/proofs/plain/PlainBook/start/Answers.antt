use Rattle.std.proofs.Common.{arith}
use Rattle.std.proofs.lemmas.Grind.{common_steps}
use Rattle.capacity.proofs.Suffixes.{start_is}
use Rattle.plain_book.proofs.plain.PlainBook.start.Goals as goal

pub returns : goal.returns
returns c = grind (arith, common_steps, start_is)
