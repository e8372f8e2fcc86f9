-- Each lent value is zero.
use mathlib.Core.Path.{refl, ap}
use Rattle.definitions.specs.Lent.{position_from}
use Rattle.job.proofs.JobLists.clear.Goals as goal

pub returns-clause-zero : goal.returns-clause-zero
returns-clause-zero c =
    record {
      lattice = c.ZERO-self.ensures;
      t = c.ZERO-self-2.ensures;
      shift = ap position_from c.ZERO-self-3.ensures;
      c = c.ZERO-self-4.ensures;
      elements = c.clear.ensures;
      positions = c.clear-2.ensures;
      rotations = c.clear-3.ensures;
      translations = c.clear-4.ensures;
      images = c.clear-5.ensures;
      rotations_of_targets = c.clear-6.ensures;
      translations_of_targets = c.clear-7.ensures;
      conventional = c.clear-8.ensures;
      multiplicities = c.clear-9.ensures;
      letters = c.clear-10.ensures;
      texts = c.clear-11.ensures;
      symprec = refl;
    }
