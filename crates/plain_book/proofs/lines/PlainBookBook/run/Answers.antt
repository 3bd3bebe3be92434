use Rattle.std.proofs.Common.{arith}
use Rattle.capacity.proofs.Slots.{run_is_forgive_and_pass}
use Rattle.plain_book.proofs.lines.PlainBookBook.run.Goals as goal

pub returns-clause-book : goal.returns-clause-book
returns-clause-book c = grind (arith, run_is_forgive_and_pass)
