-- The points are the front of the list that is held.
use Rattle.std.proofs.Common.{List, ℤ, sym, ◌∙◌, subst}
use Rattle.definitions.specs.SiteCalls.{CopiesListed}
use Rattle.definitions.specs.Snf.{points}
use Rattle.math_snf.specs.Step.{state_of}
use Rattle.base_transformation.specs.Runs.{held}
use Rattle.base_transformation.proofs.Listing.{front_is}
use Rattle.base_transformation.proofs.cell.list_all.Goals as goal

pub returns-clause-listed : goal.returns-clause-listed
returns-clause-listed c =
    let a = c.args in
    subst
    (λ (fs : List (List ℤ)). CopiesListed a.c fs a.sites.now.elements.now a.sites.now.positions.now (held a.listing.now) (held c.list_copies.new.listing))
    (front_is (points (state_of a.form)) c.list_points.new.out 64 c.copies-m.result c.list_points.ensures (c.requires.1 ∙ sym c.copies-m.ensures))
    c.list_copies.ensures.listed
