use Rattle.capacity.proofs.Least.{spare_means_slack}
use Rattle.capacity.proofs.verdict.spares_slot.Goals as goal

pub returns-clause-exact : goal.returns-clause-exact
returns-clause-exact g c = spare_means_slack _
