-- `note_letters`: the table has what the sites before j give each label.
use Prim.Native.Nat.{◌+◌, ◌<◌}
use mathlib.Core.Path.{◌≡◌, refl, sym, ap, ◌∙◌, subst}
use mathlib.Core.Bool.{not}
use native.Mathlib.Omega.{arith}
use lib.ListN.{length, get_or, set, length-set}
use Rattle.std.proofs.Common.{is_some, None}
use Rattle.symmetrize_wyckoff.specs.Walk.{walked}
use Rattle.symmetrize_wyckoff.specs.Prepared.{RealSites, found, found_real, found_by, NotesAll}
use Rattle.symmetrize_wyckoff.proofs.Tables.{find_found, nothing_noted, skipped, noted_more}
use Rattle.symmetrize_wyckoff.proofs.walk.note_letters.Goals as goal
use Rattle.symmetrize_wyckoff.proofs.walk.note_letters.Goals.{then-is_none, else-is_none}
use Rattle.symmetrize_wyckoff.proofs.walk.note_letters.Goals.{After-from-label, Joined-is_none, Start}

abbrev sites : Start → RealSites
sites s =
    record {
      multiplicities = s.args.multiplicities.now;
      positions = s.args.positions.now;
      basis = s.args.candidates.now.basis;
      symprec = s.args.candidates.now.symprec;
      candidates = s.args.candidates.now.listed.now;
    }

pub loop-j-init : goal.loop-j-init
loop-j-init c = (refl, nothing_noted (found_by (sites (goal.at.loop-j-init c).Start)) c.args.labels.now)

-- a label is a site, and so a place of the table
below : (c : After-from-label) → c.from-label.result < 1024
below c =
    let l = c.loop-j in
    let h : l.j < length c.args.labels.now = omega arith in
    omega (arith, c.from-label.ensures, c.requires.labels l.j h, c.requires.listed)

pub offset_bounds-table-label : goal.offset_bounds-table-label
offset_bounds-table-label c = record { fits = omega (arith, below c) }

pub bounds-table-label : goal.bounds-table-label
bounds-table-label c = omega (arith, below c)

pub bounds-multiplicities-j : goal.bounds-multiplicities-j
bounds-multiplicities-j c = omega (arith, c.requires.multiplicities)

pub bounds-positions-j : goal.bounds-positions-j
bounds-positions-j c = omega (arith, c.requires.positions)

pub offset_bounds-table-label-then-is_none : goal.offset_bounds-table-label-then-is_none
offset_bounds-table-label-then-is_none c =
    record { fits = omega (arith, below (goal.at.offset_bounds-table-label-then-is_none c).After-from-label) }

pub bounds-table-label-then-is_none : goal.bounds-table-label-then-is_none
bounds-table-label-then-is_none c = omega (arith, below (goal.at.bounds-table-label-then-is_none c).After-from-label)

-- the table where the arms meet: the label had no letter and has what was found, or it had one
next :
    (c : Joined-is_none) →
    (length c.if-is_none.table ≡ 1024)
    × NotesAll (walked (found_by (sites (goal.at.Joined-is_none c).Start)) c.args.labels.now (c.loop-j.j + 1))
    c.if-is_none.table
next c =
    let l = c.loop-j in
    let g = sites (goal.at.Joined-is_none c).Start in
    let f = found_by g in
    let ls = c.args.labels.now in
    let label = get_or ls l.j 0 in
    let q = c.from-label.ensures in
    let h : l.j < length ls = omega arith in
    let b : label < 1024 = omega (arith, c.requires.labels l.j h, c.requires.listed) in
    let cell = ap (λ k. is_some (get_or l.table k None)) (sym q) ∙ c.is_none.ensures in
    elim c.if-is_none.branch [
      | then-is_none w ↦
          subst (λ t. (length t ≡ 1024) × NotesAll (walked f ls (l.j + 1)) t)
          (sym (w.table-is ∙ ap (λ k. set l.table k w.find_letter.result) q)) (
            length-set l.table label w.find_letter.result ∙ l.invariant.0,
            noted_more f ls l.j l.table l.invariant.1 b l.invariant.0 (cell ∙ ap not w.if-is_none.true)
                w.find_letter.result
                (w.find_letter.ensures
                ∙ find_found g.basis g.symprec (get_or g.multiplicities l.j 0) w.from-at.result g.candidates
                ∙ ap (λ p. found (found_real g.basis g.symprec (get_or g.multiplicities l.j 0) p g.candidates))
                w.from-at.ensures),
          )
      | else-is_none w ↦
          subst (λ t. (length t ≡ 1024) × NotesAll (walked f ls (l.j + 1)) t) (sym w.table-is)
          (l.invariant.0, skipped f ls l.j l.table l.invariant.1 b (cell ∙ ap not w.if-is_none.false))
    ]

pub loop-j-preserved : goal.loop-j-preserved
loop-j-preserved c = next c

pub returns : goal.returns
returns c =
    let l = c.loop-j in
    let end : l.j ≡ length c.args.labels.now = omega arith in
    subst (λ j. NotesAll (walked (found_by (sites (goal.at.returns c).Start)) c.args.labels.now j) l.table) end l.invariant.1
