-- `answer_with`: the verdict by the sub-calls' promises, and the promise of the whole by what the work left.
use Prim.Native.Nat.{ℕ, ◌*◌, ◌≤◌}
use mathlib.Core.Path.{◌≡◌, refl, sym, ap, subst, ◌∙◌}
use mathlib.Core.List.{List, [], ◌∷◌}
use native.Mathlib.Omega.{arith}
use lib.ListN.{length, take, replicate}
use lib.Seq.{length-take-le, take_all}
use Rattle.std.specs.Prelude.{Ok}
use Rattle.definitions.specs.Refusal.{Verdict}
use Rattle.definitions.specs.Calls.{AlignPromise, LatticePromise, FactorsPromise}
use Rattle.definitions.specs.Limits.{copies}
use Rattle.definitions.specs.SiteCalls.{space_rooms}
use Rattle.definitions.specs.WholeCalls.{Given, AnswerCells, rooms_of}
use Rattle.laws.specs.Verdicts.{Passed, passed_on}
use borrow.Author.Rules.{rules}
use Rattle.data_wyckoff.specs.Spaces.{lists, zero_space}
use Rattle.data_wyckoff.specs.declared.space.Space as code
use Rattle.data_wyckoff.proofs.Promise.{rooms_are}
use Rattle.base_transformation.specs.Runs.{held}
use Rattle.base_cell.specs.Given.{orbit_cells}
use Rattle.symmetrize_wyckoff.specs.Given.{letter_cells}
use Rattle.symmetrize_standardize.specs.declared.verdicts.Told.{Told}
use Rattle.symmetrize_standardize.specs.Given.{given_by, answer_cells, labelling_of, placed_in}
use Rattle.symmetrize_standardize.specs.Stages.{Finished, Uncleared, candidates_room, whole_verdict}
use Rattle.symmetrize_standardize.proofs.General.{Until}
use Rattle.symmetrize_standardize.proofs.Ladder.{conditions, table_rooms, few_candidates, Right, whole_until}
use Rattle.symmetrize_standardize.proofs.Parts.{listed-word, fits_kept}
use Rattle.symmetrize_standardize.proofs.Choices.{fronts, fronts_of_all}
use Rattle.symmetrize_standardize.proofs.Past.{known_copies, known_sites, known_entries, known_candidates, known_roomy}
use Rattle.symmetrize_standardize.proofs.Assembled.{right_of, lattice_unrefused, factors_unrefused, refused_uncleared, finished_by, answered, given_back}
use Rattle.symmetrize_standardize.proofs.answer_with.Goals as goal
use Rattle.symmetrize_standardize.proofs.answer_with.Goals.{After-whole_verdict}

-- ---- what was given and lent

abbrev given : After-whole_verdict → Given
given w = given_by w.args.job.now

abbrev lent : After-whole_verdict → AnswerCells
lent w = answer_cells w.args.answer.now

-- ---- the sub-calls before the verdict

-- the table and the images as they are lent, and as they come back
abbrev no_spaces : After-whole_verdict → List code.Space
no_spaces w = take w.candidates_room.result (replicate 64 zero_space)

no_spaces_long : (w : After-whole_verdict) → length (no_spaces w) ≡ candidates_room (length (given w).texts)
no_spaces_long w =
    let few : w.candidates_room.result ≤ 64 =
    subst (λ n. n ≤ 64) (sym w.candidates_room.ensures) (few_candidates (length w.args.job.now.texts.now)) in
    length-take-le _ (replicate 64 zero_space) few ∙ w.candidates_room.ensures

abbrev spaces : After-whole_verdict → List code.Space
spaces w = w.prepare_all-prepared.new.spaces

abbrev images : After-whole_verdict → List ℕ
images w = w.align_permutations-found.new.out

table_rooms_lem : (w : After-whole_verdict) → space_rooms (lists (no_spaces w)) ≡ table_rooms (given w)
table_rooms_lem w = rooms_are (no_spaces w) ∙ ap (λ n. n ∷ n ∷ n ∷ n ∷ n ∷ []) (no_spaces_long w)

abbrev told : After-whole_verdict → Told
told w =
    record {
      prepared = w.prepare_all-prepared.result;
      factors = w.invariant_factors-factors.result;
      aligned = w.align_permutations-found.result;
      lattice = w.symmetrize_lattice-lattice.result;
    }

-- what the sub-calls promise, of the job's own lists
aligns :
    (w : After-whole_verdict) →
    AlignPromise (given w).t (given w).rotations (given w).images (length (given w).positions) (given w).rotations_of_targets
    w.args.aligned.now (images w) w.align_permutations-found.result
aligns w =
    subst
    (λ g. AlignPromise g.t g.operations.rotations.now g.operations.images.now g.operations.sites g.targets.now
    w.args.aligned.now (images w) w.align_permutations-found.result)
    w.alignment.ensures w.align_permutations-found.ensures

deformed :
    (w : After-whole_verdict) →
    LatticePromise (given w).lattice (given w).t (given w).c (given w).conventional w.symmetrize_lattice-lattice.result
deformed w =
    subst (λ g. LatticePromise g.lattice g.t g.c g.rotations.now w.symmetrize_lattice-lattice.result)
    w.given_lattice.ensures w.symmetrize_lattice-lattice.ensures

right : (w : After-whole_verdict) → Right (given w) (told w)
right w =
    right_of (given w) (lists (no_spaces w)) (lists (spaces w)) w.prepare_all-prepared.result (table_rooms_lem w) w.prepare_all-prepared.ensures.prepared
    w.args.aligned.now (images w) w.align_permutations-found.result w.requires (aligns w)
    w.symmetrize_lattice-lattice.result (deformed w)
    w.invariant_factors-factors.result w.invariant_factors-factors.ensures

-- ---- the verdict

until :
    (w : After-whole_verdict) (v : Verdict) → v ≡ whole_verdict (given w) (rooms_of (lent w)) (told w) →
    Until (conditions (given w) (rooms_of (lent w))) 12 v
until w v e =
    let x = given w in
    let rooms = rooms_of (lent w) in
    subst (Until (conditions x rooms) 12) (sym e) (whole_until x rooms (told w) (right w))

pub returns-in_err-whole_verdict-clause-uncleared : goal.returns-in_err-whole_verdict-clause-uncleared
returns-in_err-whole_verdict-clause-uncleared c =
    let w = (goal.at.returns-in_err-whole_verdict-clause-uncleared c).After-whole_verdict in
    let k = c.in_err-whole_verdict.field-0.0 in
    passed_on (Uncleared (given w) (lent w) _) k c.from_residual.result c.from_residual.ensures.1
    (refused_uncleared (given w) (lent w) _ k (until w _ c.in_err-whole_verdict.ensures))

-- ---- past 12

passed : (w : After-whole_verdict) → Ok tt ≡ whole_verdict (given w) (rooms_of (lent w)) (told w) → Passed (conditions (given w) (rooms_of (lent w))) 12
passed w e = until w (Ok tt) e

-- neither is refused
pub returns-in_err-bases-clause-uncleared : goal.returns-in_err-bases-clause-uncleared
returns-in_err-bases-clause-uncleared c =
    let w = (goal.at.returns-in_err-bases-clause-uncleared c).After-whole_verdict in
    let x = given w in
    let r = c.in_err-bases.field-0.0 in
    let p = passed w c.in_ok-whole_verdict.ensures in
    absurd
    (lattice_unrefused x (rooms_of (lent w)) p r
    (subst (LatticePromise x.lattice x.t x.c x.conventional) c.in_err-bases.was (deformed w)))

pub returns-in_err-diagonal-clause-uncleared : goal.returns-in_err-diagonal-clause-uncleared
returns-in_err-diagonal-clause-uncleared c =
    let w = (goal.at.returns-in_err-diagonal-clause-uncleared c).After-whole_verdict in
    let x = given w in
    let r = c.in_err-diagonal.field-0.0 in
    let p = passed w c.in_ok-whole_verdict.ensures in
    absurd
    (factors_unrefused x (rooms_of (lent w)) p r
    (subst (FactorsPromise x.c) c.in_err-diagonal.was w.invariant_factors-factors.ensures))

pub list_cell-requires : goal.list_cell-requires
list_cell-requires c =
    let w = (goal.at.list_cell-requires c).After-whole_verdict in
    let x = given w in
    let rooms = rooms_of (lent w) in
    let p = passed w c.in_ok-whole_verdict.ensures in
    (known_copies x rooms p, (known_roomy x rooms p).primitive)

-- so many listed sites
counted : (w : After-whole_verdict) (m : ℕ) → m ≡ copies w.args.job.now.c → length w.args.job.now.positions.now * m ≡ length w.args.job.now.positions.now * copies w.args.job.now.c
counted w m e = ap (λ k. length w.args.job.now.positions.now * k) e

pub overflow_mul-listed : goal.overflow_mul-listed
overflow_mul-listed c =
    let w = (goal.at.overflow_mul-listed c).After-whole_verdict in
    let x = given w in
    let rooms = rooms_of (lent w) in
    let p = passed w c.in_ok-whole_verdict.ensures in
    listed-word (length x.positions) c.copies.result (known_sites x rooms p) (fits_kept c.copies.ensures (known_copies x rooms p) refl)

pub letter-requires : goal.letter-requires
letter-requires c =
    let w = (goal.at.letter-requires c).After-whole_verdict in
    let x = given w in
    let rooms = rooms_of (lent w) in
    let roomy = known_roomy x rooms (passed w c.in_ok-whole_verdict.ensures) in
    let listed = ap (λ v. v.listed) c.work_of-work.ensures ∙ counted w c.copies.result c.copies.ensures in
    let kept = c.list_cell.ensures.rooms in (
      fits_kept listed roomy.positions kept.positions,
      fits_kept listed roomy.mapping kept.mapping,
      fits_kept listed roomy.labels refl,
      fits_kept listed roomy.multiplicities refl,
    )

-- ---- the answer

-- the images and the tables, as they are read
images_front :
    (w : After-whole_verdict) → Passed (conditions (given w) (rooms_of (lent w))) 12 →
    images w ≡ take (length (given w).rotations_of_targets * length (given w).positions) (images w)
images_front w p =
    let x = given w in
    let long : length (images w) ≤ length x.rotations_of_targets * length x.positions =
    omega (arith, w.align_permutations-found.auto.out ∙ w.requires ∙ known_entries x (rooms_of (lent w)) p) in
    sym (take_all _ (images w) long)

spaces-fronts :
    (w : After-whole_verdict) → Passed (conditions (given w) (rooms_of (lent w))) 12 →
    lists (spaces w) ≡ fronts (length (given w).texts) (lists (spaces w))
spaces-fronts w p =
    fronts_of_all (spaces w) (length (given w).texts)
    (w.prepare_all-prepared.ensures.len ∙ no_spaces_long w ∙ known_candidates (given w) (rooms_of (lent w)) p)

pub returns-clause-uncleared : goal.returns-clause-uncleared
returns-clause-uncleared c =
    let w = (goal.at.returns-clause-uncleared c).After-whole_verdict in
    let x = given w in
    let p = passed w c.in_ok-whole_verdict.ensures in
    let bases = c.in_ok-bases.bases in
    let listing = held c.list_cell.new.listing in
    let orbits = orbit_cells c.letter.new.orbits in
    let z : AnswerCells =
    record {
      positions = listing.positions;
      points = listing.points;
      mapping = listing.mapping;
      elements = listing.elements;
      labels = orbits.labels;
      multiplicities = orbits.multiplicities;
      letters = c.letter.new.letters;
      primitive = c.list_cell.new.primitive;
      primitive_cell_basis = bases.primitive;
      listed_cell_basis = bases.listed;
      factors = c.in_ok-diagonal.diagonal;
    } in
    let lettered =
    subst
    (λ v. Finished v.listed (labelling_of v listing) (placed_in v (lists (spaces w)) listing)
    (letter_cells (record { labels = (lent w).labels; multiplicities = (lent w).multiplicities }) (lent w).letters)
    (letter_cells orbits c.letter.new.letters) c.letter.result)
    c.work_of-work.ensures c.letter.ensures.lettered in
    given_back x (lent w) z c.letter.result
    (answered x (lent w) z c.list_cell.ensures.listed.shape p
    (lists (no_spaces w)) (lists (spaces w)) w.prepare_all-prepared.result (table_rooms_lem w) w.prepare_all-prepared.ensures.prepared
    w.args.aligned.now (images w) w.align_permutations-found.result w.requires (aligns w)
    bases.conventional
    (subst (LatticePromise x.lattice x.t x.c x.conventional) c.in_ok-bases.was (deformed w))
    (subst (FactorsPromise x.c) c.in_ok-diagonal.was w.invariant_factors-factors.ensures)
    (images w) (images_front w p) (lists (spaces w)) (spaces-fronts w p) c.list_cell.ensures.listed c.letter.result
    (finished_by _ _ (counted w c.copies.result c.copies.ensures) (length x.positions) (length x.rotations_of_targets) (images w)
    z.mapping z.positions bases.listed x.symprec x.multiplicities x.letters (lists (spaces w)) (letter_cells (record { labels = (lent w).labels; multiplicities = (lent w).multiplicities }) (lent w).letters)
    (letter_cells orbits c.letter.new.letters) c.letter.result lettered))
    (search (rules, c.list_cell.ensures.same_lists)) (search (rules, c.list_cell.ensures.same_lists)) (search (rules, c.list_cell.ensures.same_lists))
    (search (rules, c.list_cell.ensures.same_lists)) (search (rules, c.letter.ensures.same_orbits)) (search (rules, c.letter.ensures.same_orbits))
