-- So many commands take up the bytes, or one of the limits says that they don't.
use Prim.Native.Nat.{◌+◌, ◌≤◌}
use mathlib.Core.Path.{sym, ap, ◌∙◌}
use native.Mathlib.Omega.{arith}
use lib.Dec.{eqb}
use Rattle.definitions.specs.Limits.{most_bytes}
use Rattle.job.specs.Counted.{Within, within_of}
use Rattle.job.specs.Given.{most_each}
use Rattle.job.proofs.Rooms.{too_many-bytes, too_many_commands, takes_up_so, place_fits}
use Rattle.job.proofs.layout.takes_up.Goals as goal
use Rattle.job.proofs.layout.takes_up.Goals.{Else-more_than}

pub returns-then-bytes-gt-MOST_BYTES : goal.returns-then-bytes-gt-MOST_BYTES
returns-then-bytes-gt-MOST_BYTES c = too_many-bytes _ _ c.if-bytes-gt-MOST_BYTES.true

pub returns-then-more_than : goal.returns-then-more_than
returns-then-more_than c =
    let few : c.args.bytes ≤ most_bytes = omega (arith, c.if-bytes-gt-MOST_BYTES.false) in
    too_many_commands c.args.k c.args.bytes few (sym c.more_than.ensures ∙ c.if-more_than.true)

within : (c : Else-more_than) → Within most_each c.args.k
within c = within_of most_each c.args.k (sym c.more_than.ensures ∙ c.if-more_than.false)

pub symprec_from-requires : goal.symprec_from-requires
symprec_from-requires c = omega (arith, place_fits c.args.k (within c))

pub overflow_add-result : goal.overflow_add-result
overflow_add-result c =
    record { fits = omega (arith, c.symprec_from.ensures, place_fits c.args.k (within (goal.at.overflow_add-result c).Else-more_than)) }

pub returns : goal.returns
returns c =
    let few : c.args.bytes ≤ most_bytes = omega (arith, c.if-bytes-gt-MOST_BYTES.false) in
    takes_up_so c.args.k c.args.bytes few _
    (ap (λ p. eqb (p + 10) c.args.bytes) c.symprec_from.ensures)
