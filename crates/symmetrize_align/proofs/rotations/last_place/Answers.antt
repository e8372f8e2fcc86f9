-- `last_place`: the library's search goes from the end.
use mathlib.Core.Path.{subst, ◌∙◌}
use borrow.Author.Rules.{rules}
use Rattle.std.specs.Iterator.Runs.{ItemsMapToReversed}
use Rattle.std.specs.Slice.Iter.{iter_rest}
use Rattle.math_matrix.specs.Entries.{same_entries}
use Rattle.symmetrize_align.specs.Aligning.{last_of, found}
use Rattle.symmetrize_align.proofs.Search.{last_by_run}
use Rattle.symmetrize_align.proofs.rotations.last_place.Goals as goal

pub returns : goal.returns
returns c =
    let wanted = c.wider-wanted in
    let same = same_entries c.args.target wanted.result wanted.ensures in
    let (p, from, by) = c.rposition.ensures.runs in
    let reversed =
    subst (λ s. ItemsMapToReversed p (λ x. x.now) (iter_rest s)) from (c.iter.ensures.runs_back p p.seen) in
    last_by_run p (λ x. x.now) (iter_rest c.iter.result) reversed _ _ (search rules) wanted.result
    (λ x b h. search rules) c.rposition.result c.rposition.ensures.bound by
    ∙ (λ i. found (last_of (c.iter.ensures.rest i) (same i)))
