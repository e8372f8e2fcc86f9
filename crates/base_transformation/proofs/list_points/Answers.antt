-- What `put_points` wrote stays in front of what `clear` clears.
use Rattle.std.proofs.Common.{◌≡◌, ℕ, List, get_or, nat_abs, sym, rules, length-take-le}
use Rattle.std.proofs.lemmas.Grind.{common_steps}
use Rattle.definitions.specs.Matrix.{Matrix, at}
use Rattle.math_snf.specs.Step.{state_of}
use Rattle.base_transformation.proofs.Points.{listed, listed_facts}
use Rattle.base_transformation.proofs.list_points.Goals as goal

-- the sizes of D's diagonal numbers
abbrev Sizes : Matrix → List ℕ → Type 0
Sizes d ns =
    (get_or ns 0 0 ≡ nat_abs (at d 0 0)) × (get_or ns 1 0 ≡ nat_abs (at d 1 1)) × (get_or ns 2 0 ≡ nat_abs (at d 2 2))

pub slice_bounds-put_points-end-2 : goal.slice_bounds-put_points-end-2
slice_bounds-put_points-end-2 c =
    let out = c.args.out.now in
    let s : Sizes c.args.form.d c.map.result = search (rules, common_steps) in
    sym (length-take-le _ out (listed_facts (state_of c.args.form) _ _ _ s.0 s.1 s.2 out c.requires).1)

pub put_points-requires : goal.put_points-requires
put_points-requires c =
    let out = c.args.out.now in
    let s : Sizes c.args.form.d c.map.result = search (rules, common_steps) in
    let f = listed_facts (state_of c.args.form) _ _ _ s.0 s.1 s.2 out c.requires in
    (length-take-le _ out f.1, f.0)

pub returns : goal.returns
returns c =
    let a = c.args in
    let s : Sizes a.form.d c.map.result = search (rules, common_steps) in
    listed (state_of a.form) _ _ _ s.0 s.1 s.2 a.out.now c.requires
    c.inverse.result _ c.clear.new.out c.inverse.ensures (rw c.put_points.ensures) c.clear.ensures
