use Rattle.capacity.proofs.Least.{headroom_is_least_slack}
use Rattle.capacity.proofs.Order.{reached_ordered}
use Rattle.capacity.proofs.verdict.fits.Goals as goal

pub returns-in_err-headroom-clause-ordered : goal.returns-in_err-headroom-clause-ordered
returns-in_err-headroom-clause-ordered g c = reached_ordered

pub returns-clause-exact : goal.returns-clause-exact
returns-clause-exact g c = headroom_is_least_slack _ _ _

pub returns-clause-ordered : goal.returns-clause-ordered
returns-clause-ordered g c = reached_ordered
