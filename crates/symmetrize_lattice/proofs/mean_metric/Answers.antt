-- One division of the sum.
use Rattle.symmetrize_lattice.proofs.mean_metric.Goals as goal

pub returns : goal.returns
returns c = simp (c.divide.ensures, c.total_metric.ensures, c.metric.ensures)
