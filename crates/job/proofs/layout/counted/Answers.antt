-- The bytes are a job where L, T, C, the six runs, N and Z stand, and nowhere else.
use Prim.Native.Nat.{◌≤◌}
use mathlib.Core.Path.{refl, sym, subst}
use native.Mathlib.Omega.{arith}
use lib.ListN.{length}
use Rattle.definitions.specs.Limits.{most_bytes}
use Rattle.job_laws.specs.Reader.{bytes_known}
use Rattle.job.specs.Places.{Closes}
use Rattle.job.proofs.Jobs.{too_long, opens_not, closes_not, a_job}
use Rattle.job.proofs.layout.counted.Goals as goal

pub returns-then-bytes-gt-MOST_BYTES : goal.returns-then-bytes-gt-MOST_BYTES
returns-then-bytes-gt-MOST_BYTES c = (refl, too_long c.args.bytes.now (omega (arith, c.if-bytes-gt-MOST_BYTES.true)))

pub returns-then-not-opens : goal.returns-then-not-opens
returns-then-not-opens c = (refl, opens_not c.args.bytes.now (c.opens.ensures.no (c.if-not-opens.true)))

pub layout-k-requires : goal.layout-k-requires
layout-k-requires c = (c.opens.ensures.yes (c.if-not-opens.false)).room

pub returns-then-not-closes : goal.returns-then-not-closes
returns-then-not-closes c =
    let bs = c.args.bytes.now in
    let k = c.layout-k in
    let end = c.symprec_from-end.ensures in
    (refl, closes_not bs k.result k.ensures (λ z. c.closes.ensures.no (c.if-not-closes.true) (subst (Closes bs) (sym end) z)))

pub returns : goal.returns
returns c =
    let bs = c.args.bytes.now in
    let k = c.layout-k in
    let end = c.symprec_from-end.ensures in
    let closed = c.closes.ensures.yes (c.if-not-closes.false) in
    let few : length bs ≤ most_bytes = omega (arith, c.if-bytes-gt-MOST_BYTES.false) in
    let small = bytes_known bs (λ i l. omega (arith, c.type_inv.bytes i)) in
    a_job bs k.result k.ensures few small (c.opens.ensures.yes (c.if-not-opens.false)) (subst (Closes bs) end closed)
