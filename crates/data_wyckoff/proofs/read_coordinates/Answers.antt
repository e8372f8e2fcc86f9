-- By what was read.
use Prim.Native.Nat.{ℕ}
use mathlib.Core.Path.{refl, sym, subst}
use mathlib.Core.List.{List}
use lib.Ieee.{Float}
use Rattle.std.specs.Prelude.{Option, None, Some, Err}
use Rattle.std.specs.Option.{ok_or}
use Rattle.definitions.specs.declared.Refusal.TheVariants.{Coordinates}
use Rattle.definitions.specs.Matrix.{Matrix}
use Rattle.definitions.specs.SiteCalls.{text_conditions, CoordinatesPromise}
use Rattle.laws.specs.Verdicts.{verdict_of, found_at_lem, found_none, Passed, HoldsAt, accept, refuse}
use Rattle.laws.specs.Verdicts.{accepted_with, refused_with_lem}
use Rattle.data_wyckoff.specs.Terms.{ReadAs}
use Rattle.data_wyckoff.proofs.read_coordinates.Goals as goal

told :
    (text : List ℕ) (o : Option (Matrix × List Float)) → ReadAs text o →
    CoordinatesPromise text (ok_or o Coordinates)
unfolding verdict_of found_at_lem found_none Passed HoldsAt
told text None h =
    refused_with_lem (text_conditions text) _ Coordinates (refuse (text_conditions text) 0 tt h (Err Coordinates) refl)
told text (Some a) h =
    accepted_with (text_conditions text) _ a (accept (text_conditions text) (λ f. f (h.0, h.1, h.2), tt) refl)
    (h.0, h.1, h.3, h.4)

pub returns : goal.returns
returns c =
    subst (CoordinatesPromise c.args.text.now) (sym c.ok_or.ensures.value)
    (told c.args.text.now c.read_terms.result c.read_terms.ensures)
