-- What is computed of each figure, and so promised.
use Rattle.std.specs.Prelude.{◌≡◌, refl, List, [], ◌∷◌, map, get_or, drop}
use Rattle.std.proofs.Common.{ap}
use Rattle.std.proofs.Math.Option.{none, some}
use Rattle.definitions.specs.Lists.{Each}
use Rattle.definitions.specs.Snf.{begun}
use Rattle.math_snf_laws.specs.Evaluate.{run}
use Rattle.designs.specs.Computed.{computed}
use Rattle.designs.specs.Passes.{said_right, Figure, Promised, said, figures}

computed-figures : map said figures ≡ map (λ f. some f.passes) figures
unfolding figures computed begun
computed-figures = refl

-- from what is computed of each to what is promised of each
each_promised : (fs : List Figure) → map said fs ≡ map (λ f. some f.passes) fs → Each Promised fs
unfolding Each
each_promised [] e = tt
each_promised (f ∷ fs) e = (
  said_right f.passes (run 12 f.matrix) (ap (λ l. get_or l 0 none) e),
  each_promised fs (ap (drop 1) e),
)

pub figures_right : Each Promised figures
figures_right = each_promised figures computed-figures
