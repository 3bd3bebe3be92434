use Rattle.std.proofs.Common.{arith}
use Rattle.std.proofs.lemmas.Bool.Decides.{nat_tests}
use Rattle.std.proofs.lemmas.Int.{to_z-of_z}
use Rattle.account.proofs.Held.{due_from_spares}
use Rattle.account.proofs.rows.Row.of.Goals as goal

pub returns-clause-due : goal.returns-clause-due
returns-clause-due g c = λ start end le. grind (arith, nat_tests, to_z-of_z, due_from_spares)
