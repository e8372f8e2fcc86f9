use Prim.Native.Nat.{◌*◌, ◌<◌}
use mathlib.Core.Path.{◌≡◌}
use lib.ListN.{length, drop}
use Rattle.data_wyckoff.specs.declared.Last.TheVariants.{Nothing}
use Rattle.data_wyckoff.specs.Scan.{empty_at, term_from, term_at, Small}
use Rattle.data_wyckoff.proofs.read_term.Given as goal

-- Past the end of the text nothing is read, and its length is as good an end as the place.
abbrev pub invariant-loop-i : goal.invariant-loop-i
invariant-loop-i l =
    Small (9 * l.i) l.t
    × (length l.text < l.i → l.t ≡ empty_at Nothing)
    × (term_from l.i l.t (drop l.i l.text) ≡ term_at l.text l.from)
