-- That the points of each centring are just the centring vectors of the table.
use Rattle.std.specs.Prelude.{T}
use Rattle.std.proofs.Common.{subst}
use Rattle.std.proofs.Math.Option.{Option, none, some}
use Rattle.definitions.specs.declared.Centering.{Centering}
use Rattle.definitions.specs.declared.Centering.TheVariants.{P, A, B, C, I, R, F}
use Rattle.definitions.specs.Lists.{all, count, each, up_from}
use Rattle.definitions.specs.Snf.{Run, places, lesser, least, moved, signed, clear_row, clear_column, cleared, box, points}
use Rattle.definitions.specs.Centering.{linear}
use Rattle.math_snf_laws.specs.Unique.{run_unique}
use Rattle.math_snf_laws.specs.Evaluate.{run, stage}
use Rattle.data_centering.specs.CenteringVectors.{vectors, just_the_vectors, Found}

-- one computation for each of the seven
found : (s : Centering) → Found s (run 9 (linear s))
unfolding Found run stage linear places lesser least moved signed clear_row clear_column cleared box points vectors just_the_vectors all count each up_from
found P = tt
found A = tt
found B = tt
found C = tt
found I = tt
found R = tt
found F = tt

of_any : (s : Centering) (o : Option (Run (linear s))) → Found s o → (r : Run (linear s)) → T (just_the_vectors s r.third)
unfolding Found
of_any s none f r = absurd f
of_any s (some q) f r = subst (λ t. T (just_the_vectors s t)) (run_unique q r) f

-- of every run of the seven matrices
pub centring-vectors : (s : Centering) (r : Run (linear s)) → T (just_the_vectors s r.third)
centring-vectors s r = of_any s (run 9 (linear s)) (found s) r
