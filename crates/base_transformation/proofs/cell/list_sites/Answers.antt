-- The lists are listed or cleared, as `diagonalise_for_sites` says.
use Rattle.std.proofs.Common.{ℕ, List, subst, w8}
use Rattle.definitions.specs.Calls.{IsSnf}
use Rattle.definitions.specs.Refusal.{Outcome, Returns, accepted, refused, number}
use Rattle.definitions.specs.Snf.{State}
use Rattle.definitions.specs.SiteCalls.{ListingCells, list_conditions, listing_rooms}
use Rattle.math_matrix.proofs.Shape.{good_three}
use Rattle.math_snf.specs.Step.{state_of}
use Rattle.base_transformation.specs.Runs.{held}
use Rattle.base_transformation.proofs.Listing.{listed_ready, keep-accepted, keep_refused}
use Rattle.base_transformation.proofs.cell.list_sites.Goals as goal
use Rattle.base_transformation.proofs.cell.list_sites.Goals.{Start, In-Ok}

abbrev lent : Start → ListingCells
lent s = held s.args.listing.now

-- what `diagonalise_for_sites` returns, by the rooms of the lent lists
module _ (s : Start) where
  abbrev EndedAt : List ℕ → Outcome State → Type 0
  EndedAt rooms =
      let a = s.args in
      Returns (list_conditions a.c a.sites.now.elements.now a.sites.now.positions.now rooms) (IsSnf a.c)

  abbrev EndedIn : Outcome State → Type 0
  EndedIn = EndedAt (listing_rooms (lent s))

ended : (c : In-Ok) → EndedIn (goal.at.In-Ok c).Start (accepted (state_of c.in-Ok.form))
ended c =
    let s = (goal.at.In-Ok c).Start in
    subst (λ (rooms : List ℕ). EndedAt s rooms (accepted (state_of c.in-Ok.form))) c.rooms.ensures c.in-Ok.ensures

pub list_all-requires : goal.list_all-requires
list_all-requires c =
    let a = c.args in
    let at = goal.at.list_all-requires c in
    listed_ready a.c a.sites.now.elements.now a.sites.now.positions.now (lent at.Start) (good_three w8 a.c c.well_formed.0)
    (state_of c.in-Ok.form) (ended at.In-Ok)

pub returns-in-Ok-clause-listed : goal.returns-in-Ok-clause-listed
returns-in-Ok-clause-listed c =
    let a = c.args in
    let at = goal.at.returns-in-Ok-clause-listed c in
    keep-accepted a.c a.sites.now.elements.now a.sites.now.positions.now (lent at.Start) (good_three w8 a.c c.well_formed.0)
    (state_of c.in-Ok.form) (ended at.In-Ok) _ c.list_all.ensures.listed

pub returns-in-Err-clause-listed : goal.returns-in-Err-clause-listed
returns-in-Err-clause-listed c =
    let a = c.args in
    let s = (goal.at.returns-in-Err-clause-listed c).Start in
    let r = c.in-Err.refusal in
    let e = subst (λ (rooms : List ℕ). EndedAt s rooms (refused (number r))) c.rooms.ensures c.in-Err.ensures in
    keep_refused a.c a.sites.now.elements.now a.sites.now.positions.now (lent s) r _ e c.clear.ensures.cleared
