-- `put_candidates`: before the place k the table has the candidates.
use Prim.Native.Nat.{ℕ, ◌<◌}
use mathlib.Core.Path.{◌≡◌, sym, ap, subst, ◌∙◌}
use mathlib.Core.List.{List, []}
use native.Mathlib.Omega.{arith}
use borrow.Author.Count.{below_more}
use lib.ListN.{length, get_or, set, length-set}
use lib.Seq.{get_or-set_same, get_or-set_other}
use Rattle.definitions.specs.Wyckoff.{Space}
use Rattle.definitions.specs.SiteCalls.{SpaceCells, space_from, choice_at}
use Rattle.laws.specs.Lists.{map_at}
use Rattle.data_wyckoff.specs.declared.space.Space as code
use Rattle.data_wyckoff.specs.Spaces.{space_of, lists}
use Rattle.symmetrize_match.specs.Match.{real_space, CountedDiagonal}
use Rattle.symmetrize_wyckoff.specs.Given.{placed_of}
use Rattle.symmetrize_wyckoff.specs.Lettering.{assign_with}
use Rattle.symmetrize_wyckoff.specs.declared.find.Candidate.{Candidate}
use Rattle.symmetrize_wyckoff.specs.Prepared.{no_candidate, real_candidate}
use Rattle.symmetrize_wyckoff.proofs.prepare.put_candidates.Goals as goal

-- what a place behind a list is read as
abbrev behind : code.Space
behind = record { matrix = []; shift = []; d = []; l = []; r = [] }

-- the candidate k's space in lent lists
abbrev lent_space : SpaceCells → ℕ → Space
lent_space e k =
    space_from (get_or e.matrices k []) (get_or e.shifts k [])
    (record { d = get_or e.ds k []; l = get_or e.ls k []; r = get_or e.rs k [] })

-- the space at a place, by its fields in the five lists
space_at : (ss : List code.Space) (k : ℕ) → k < length ss → lent_space (lists ss) k ≡ space_of (get_or ss k behind)
space_at ss k h = λ i. space_of (record {
  matrix = map_at (λ s. s.matrix) ss k behind [] h i;
  shift = map_at (λ s. s.shift) ss k behind [] h i;
  d = map_at (λ s. s.d) ss k behind [] h i;
  l = map_at (λ s. s.l) ss k behind [] h i;
  r = map_at (λ s. s.r) ss k behind [] h i;
})

pub loop-k-preserved : goal.loop-k-preserved
loop-k-preserved c =
    let l = c.loop-k in
    let v = c.from in
    let p = c.args.placed.now in
    let choice = choice_at (assign_with (placed_of p) [] []) in
    let new : Candidate = record
    { multiplicity = get_or p.multiplicities.now l.k 0; letter = get_or p.letters.now l.k 0; space = v.result } in
    let out = set l.out l.k new in
    let e = space_at p.spaces.now l.k c.loop-k-test.true in
    let other = λ (i : ℕ) (b : i < l.k). get_or-set_other l.out l.k i new no_candidate (λ q. omega arith) in
    let same = get_or-set_same l.out l.k new no_candidate (omega (arith, l.invariant.0)) in (
      simp length-set l.invariant.0,
      below_more (λ i. (get_or out i no_candidate ≡ real_candidate (choice i)) × CountedDiagonal (choice i).space.snf.d)
          l.k
          (λ i b. (other i b ∙ (l.invariant.1 i b).0, (l.invariant.1 i b).1)) (
            same ∙ ap (λ s. record
                { multiplicity = get_or p.multiplicities.now l.k 0; letter = get_or p.letters.now l.k 0; space = s })
                (v.ensures.0 ∙ ap real_space (sym e)),
            subst (λ s. CountedDiagonal s.snf.d) (sym e) v.ensures.1,
          ),
    )
