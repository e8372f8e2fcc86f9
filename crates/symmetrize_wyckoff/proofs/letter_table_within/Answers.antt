-- `letter_table_within`: the candidates are prepared, and the walk by them gives the letters of the orbits.
use mathlib.Core.Path.{◌≡◌, sym, ap, subst, ◌∙◌}
use native.Mathlib.Omega.{arith}
use Rattle.std.proofs.lemmas.List.{get_or-take}
use lib.ListN.{length, take, length-map, length-take}
use Rattle.definitions.specs.SiteCalls.{choice_at}
use Rattle.symmetrize_wyckoff.specs.Given.{placed_of}
use Rattle.symmetrize_wyckoff.specs.Lettering.{assign_with}
use Rattle.symmetrize_match.specs.Match.{CountedDiagonal}
use Rattle.symmetrize_wyckoff.specs.Prepared.{found, no_candidate, real_candidate, PutCandidates, walked-prepared}
use Rattle.symmetrize_wyckoff.proofs.Assigned.{walkable}
use Rattle.symmetrize_wyckoff.proofs.letter_table_within.Goals as goal

pub put_candidates-requires : goal.put_candidates-requires
put_candidates-requires g c =
    let ss = c.args.placed.now.spaces.now in
    -- a space a candidate
    let counted = sym (length-map ss (λ t. t.matrix)) ∙ c.requires.0.matrices in
    (omega (arith, c.requires.1), sym counted, c.requires.0.letters ∙ sym counted)

pub note_letters-requires : goal.note_letters-requires
note_letters-requires g c =
    let a = c.args in
    walkable (assign_with (placed_of a.placed.now) a.labels.now a.multiplicities.now) c.requires.0

pub returns : goal.returns
returns g c =
    let a = c.args in
    let x = assign_with (placed_of a.placed.now) a.labels.now a.multiplicities.now in
    let ss = a.placed.now.spaces.now in
    let n = length ss in
    let counted : n ≡ length x.candidates = sym (length-map ss (λ t. t.matrix)) ∙ c.requires.0.matrices in
    let out = c.put_candidates.new.out in
    let long : length (take n out) ≡ length x.candidates =
    length-take n out ∙ omega (arith, counted, c.requires.1, c.put_candidates.ensures.size) in
    let put : PutCandidates x (length x.candidates) (take n out) = λ k h.
    subst (λ b. (b ≡ real_candidate (choice_at x k)) × CountedDiagonal (choice_at x k).space.snf.d)
    (sym (get_or-take n out k no_candidate (omega (arith, counted))))
    (c.put_candidates.ensures.candidates k (omega (arith, counted))) in
    λ l b. c.note_letters.ensures l b ∙ ap found (walked-prepared x (take n out) long put c.requires.0.positions l)
