-- The four lists are laid where there is room for all, and cleared where there is not.
use Rattle.std.proofs.Common.{◌≡◌, ℕ, ◌*◌, ◌≤◌, true, length, sym, ap, ◌∙◌, subst}
use Rattle.definitions.specs.SiteCalls.{ListingCells, listing_rooms, listable}
use Rattle.base_transformation.specs.Runs.{lists, held}
use Rattle.base_transformation.proofs.Listable.{Roomy, roomy}
use Rattle.base_transformation.proofs.Listing.{copies-listed}
use Rattle.base_transformation.proofs.cell.list_copies.Goals as goal
use Rattle.base_transformation.proofs.cell.list_copies.Goals.{Start, Then-can_list}

abbrev lent : Start → ListingCells
lent s = held s.args.listing.now

module _ (c : Then-can_list) where
  abbrev start : Start
  start = (goal.at.Then-can_list c).Start

  -- what the test says of the lists
  can : let a = start.args in listable (length a.sites.now.positions.now) (length a.sites.now.elements.now) (length a.points.now) (listing_rooms (lent start)) ≡ true
  can =
      let a = start.args in
      sym (c.can_list.ensures ∙ ap (listable (length a.sites.now.positions.now) (length a.sites.now.elements.now) (length a.points.now)) c.rooms.ensures) ∙ c.if-can_list.true

  room : let a = start.args in Roomy (length a.sites.now.positions.now) (length a.sites.now.elements.now) (length a.points.now) (lent start)
  room = let a = start.args in roomy (length a.sites.now.positions.now) (length a.sites.now.elements.now) (length a.points.now) (lent start) can

pub list_positions-requires : goal.list_positions-requires
list_positions-requires c = (room (goal.at.list_positions-requires c).Then-can_list).positions

pub list_run_points-requires : goal.list_run_points-requires
list_run_points-requires c = (room (goal.at.list_run_points-requires c).Then-can_list).points

pub list_mapping-requires : goal.list_mapping-requires
list_mapping-requires c = let r = room (goal.at.list_mapping-requires c).Then-can_list in (r.sites, r.mapping)

pub list_elements-requires : goal.list_elements-requires
list_elements-requires c =
    let r = room (goal.at.list_elements-requires c).Then-can_list in
    subst (λ (k : ℕ). k * length c.args.points.now ≤ length c.args.listing.now.elements.now) (sym r.alike) r.elements

pub returns-then-can_list-clause-listed : goal.returns-then-can_list-clause-listed
returns-then-can_list-clause-listed c =
    let a = c.args in
    let t = (goal.at.returns-then-can_list-clause-listed c).Then-can_list in
    copies-listed a.c a.points.now a.sites.now.elements.now a.sites.now.positions.now (lent (start t))
    (lists c.list_positions.new.out c.list_run_points.new.out c.list_mapping.new.mapping c.list_elements.new.out)
    c.inverse_of_c.result (can t) c.inverse_of_c.ensures
    c.list_positions.ensures c.list_run_points.ensures c.list_mapping.ensures c.list_elements.ensures
