-- The whole call past 12: what its sub-calls promise makes its own promise, but for what is cleared.
use Prim.Native.Nat.{ℕ, ◌*◌}
use mathlib.Core.Path.{◌≡◌, refl, sym, ap, ◌∙◌, subst}
use mathlib.Core.Bool.{Bool, true, false, not, cond}
use mathlib.Core.List.{List, [], map}
use lib.ListN.{length, take}
use lib.IntN.{ℤ, pos}
use lib.Ieee.{Float}
use borrow.Author.Tests.{not-true, not-false}
use Rattle.definitions.specs.Refusal.{Verdict}
use Rattle.std.specs.Prelude.{Result, Err, Ok}
use Rattle.std.specs.Result.{is_err}
use lib.Dec.{T}
use Rattle.definitions.specs.declared.Refusal.TheVariants.{OrbitFit}
use Rattle.definitions.specs.declared.Refusal.{Refusal}
use Rattle.definitions.specs.declared.AnswerCounts.{AnswerCounts}
use Rattle.definitions.specs.Refusal.{Checked, Returns, Holds, padded, accepted, refused, orbit_fit, outcome, number}
use Rattle.definitions.specs.Limits.{copies}
use Rattle.definitions.specs.Real.{RealMatrix}
use Rattle.definitions.specs.Lists.{each}
use Rattle.definitions.specs.Snf.{Run, points, diagonal}
use Rattle.definitions.specs.Job.{Job}
use Rattle.definitions.specs.Lent.{cells_of, zero_cells, zero_point}
use Rattle.definitions.specs.Transformation.{aligned}
use Rattle.definitions.specs.Symmetrization.{primitive_positions, primitive_cell_basis, listed_cell_basis}
use Rattle.definitions.specs.Cell.{site_mapping, listed_positions, listed_points, listed_elements}
use Rattle.definitions.specs.Orbit.{Labels, multiplicities, orbits}
use Rattle.definitions.specs.Wyckoff.{Space, AreSpaces, sites_of, orbit_without_fit, letters}
use Rattle.definitions.specs.Calls.{centring_conditions, align_conditions, lattice_conditions, bases_of}
use Rattle.definitions.specs.Calls.{AlignPromise, LatticePromise, FactorsPromise}
use Rattle.definitions.specs.declared.Bases.{Bases}
use Rattle.definitions.specs.SiteCalls.{ListingCells, HoldsListing, listing_at, CopiesListed, LabelArguments, LetterCells}
use Rattle.definitions.specs.SiteCalls.{SpaceCells, space_rooms, HoldsSpaces, prepare_all_conditions, PrepareAllPromise, Assigned}
use Rattle.definitions.specs.Standardize.{Rooms, site_count, Work, answer_of, IsAnswer}
use Rattle.definitions.specs.WholeCalls.{Given, job_from, AnswerCells, rooms_of, HoldsAnswer, nothing_answered, answer_counts, ListsPromise}
use Rattle.laws.specs.Verdicts.{Passed, refused_with_lem, accepted_with, checked_in, tells_answer, tells_number, not_both}
use Rattle.math_matrix.specs.Laws.{Three}
use Rattle.math_snf_laws.specs.Unique.{run_unique}
use Rattle.base_cell.specs.Grouping.{OrbitsLabelled}
use Rattle.base_cell.proofs.Tables.{length-multiplicities}
use Rattle.base_transformation_laws.proofs.Listed.{positions_count as listed-count}
use Rattle.symmetrize_standardize_laws.specs.Found.{positions_count}
use Rattle.symmetrize_standardize.specs.Stages.{CellListed, assigning, label_cells, told_by, Finished, Uncleared}
use Rattle.symmetrize_standardize.proofs.General.{same_verdict, promised_checked, promised_answer}
use Rattle.symmetrize_standardize.proofs.Facts.{of_elements}
use Rattle.symmetrize_standardize.proofs.Ladder.{conditions, table_rooms, aligned_room, Right, listed_is}
use Rattle.symmetrize_standardize.proofs.Together.{length-spaces}
use Rattle.symmetrize_standardize.proofs.Parts.{front_of, length-cells}
use Rattle.symmetrize_standardize.proofs.Choices.{fronts, fronts_are, tables_of}
use Rattle.symmetrize_standardize.proofs.Past.{length_mapping, known_like, known_regular, known_roomy, prepared-accepts, factors_accept, lattice-accepts}
use Rattle.symmetrize_standardize.proofs.Done.{images_of, primitive_count, primitive_held, points_held, listed_held, labels_held}
use Rattle.symmetrize_standardize.proofs.Answered.{work, lettering, letters_held, accepted_past, refused_there}

abbrev pub listing_cells : AnswerCells → ListingCells
listing_cells e = record { positions = e.positions; points = e.points; mapping = e.mapping; elements = e.elements }

abbrev pub letter_cells : AnswerCells → LetterCells
letter_cells e = record { labels = e.labels; multiplicities = e.multiplicities; letters = e.letters }

-- ---- the parts of the lists that hold the answer, by the number of listed sites

pub finished_by :
    (i k : ℕ) → i ≡ k → (sites count : ℕ) (images mapping : List ℕ) (ps : List (List Float)) (basis : RealMatrix) (symprec : Float)
    (candidates letters : List ℕ) (spaces : SpaceCells) (entry exit : LetterCells) (r : Result AnswerCounts Refusal) →
    Finished i (record { sites = sites; count = count; images = images; mapping = take i mapping })
    (record { positions = take i ps; basis = basis; symprec = symprec; candidates = candidates; letters = letters; spaces = spaces })
    entry exit r →
    Finished k (record { sites = sites; count = count; images = images; mapping = take k mapping })
    (record { positions = take k ps; basis = basis; symprec = symprec; candidates = candidates; letters = letters; spaces = spaces })
    entry exit r
finished_by i k e sites count images mapping ps basis symprec candidates letters spaces entry exit r f =
    subst
    (λ n. Finished n (record { sites = sites; count = count; images = images; mapping = take n mapping })
    (record { positions = take n ps; basis = basis; symprec = symprec; candidates = candidates; letters = letters; spaces = spaces })
    entry exit r) e f

-- ---- the prepared candidates, the bases and the factors

module _ (x : Given) (rooms : Rooms) (p : Passed (conditions x rooms) 12) where
  pub spaces_held :
      (before after : SpaceCells) (v : Verdict) → space_rooms before ≡ table_rooms x → PrepareAllPromise x.texts before after v →
      (ss : List Space) × AreSpaces x.texts ss × (fronts (length x.texts) after ≡ tables_of ss)
  spaces_held before after v room h =
      let cs = prepare_all_conditions x.texts (space_rooms before) in
      let checked = promised_checked cs (AreSpaces x.texts) (HoldsSpaces before after) (HoldsSpaces before after []) v h in
      let e = prepared-accepts x rooms p v (subst (λ r. Checked (prepare_all_conditions x.texts r) v) room checked) in
      let (ss, are, held) = promised_answer cs (AreSpaces x.texts) (HoldsSpaces before after) (HoldsSpaces before after []) v e h in
      (ss, are, fronts_are (length x.texts) before after ss (length-spaces x.texts ss are) held)

  pub bases_held :
      (b : Bases) → LatticePromise x.lattice x.t x.c x.conventional (Ok b) →
      (b.primitive ≡ primitive_cell_basis (job_from x)) × (b.listed ≡ listed_cell_basis (job_from x))
  unfolding job_from primitive_cell_basis listed_cell_basis Returns
  bases_held b h = (ap (λ (a : Bases). a.primitive) h.1, ap (λ (a : Bases). a.listed) h.1)

  pub factors_held : (fs : List ℤ) → FactorsPromise x.c (Ok fs) → (r : Run x.c) → fs ≡ diagonal r.third.d
  unfolding Returns
  factors_held fs h r = h.1.1 ∙ ap (λ s. diagonal s.d) (run_unique h.1.0 r)

  -- neither is refused there
  pub lattice_unrefused : (r : Refusal) → LatticePromise x.lattice x.t x.c x.conventional (Err r) → ⊥
  unfolding Checked
  lattice_unrefused r h = not_both (Err r) tt r (lattice-accepts x rooms p (Err r) h) refl

  pub factors_unrefused : (r : Refusal) → FactorsPromise x.c (Err r) → ⊥
  unfolding Checked
  factors_unrefused r h = not_both (Err r) tt r (factors_accept x rooms p (Err r) h) refl

-- ---- the verdicts of the sub-calls are right

pub right_of :
    (x : Given) (before after : SpaceCells) (v₁ : Verdict) → space_rooms before ≡ table_rooms x → PrepareAllPromise x.texts before after v₁ →
    (old new : List ℕ) (v₂ : Verdict) → length old ≡ aligned_room x →
    AlignPromise x.t x.rotations x.images (length x.positions) x.rotations_of_targets old new v₂ →
    (lattice : Result Bases Refusal) → LatticePromise x.lattice x.t x.c x.conventional lattice →
    (factors : Result (List ℤ) Refusal) → FactorsPromise x.c factors →
    Right x (record { prepared = v₁; factors = factors; aligned = v₂; lattice = lattice })
right_of x before after v₁ rooms₁ prepared old new v₂ room₂ alignment lattice deformed factors diagonalised =
    record {
      prepared =
          subst (Checked (prepare_all_conditions x.texts (table_rooms x))) (sym (same_verdict v₁))
          (subst (λ r. Checked (prepare_all_conditions x.texts r) v₁) rooms₁
          (promised_checked (prepare_all_conditions x.texts (space_rooms before)) (AreSpaces x.texts) (HoldsSpaces before after)
          (HoldsSpaces before after []) v₁ prepared));
      factors =
          checked_in (centring_conditions x.c) (λ gs. (q : Run x.c) × (gs ≡ diagonal q.third.d)) (λ gs. gs) factors diagonalised;
      aligned =
          let at = align_conditions x.t x.rotations x.images (length x.positions) x.rotations_of_targets in
          subst (Checked (at (aligned_room x))) (sym (same_verdict v₂)) (subst (λ r. Checked (at r) v₂) room₂ alignment.0);
      lattice =
          checked_in (lattice_conditions x.lattice x.t x.c x.conventional) (λ b. b ≡ bases_of x.lattice x.t x.c x.conventional)
          (λ b. b) lattice deformed;
    }

-- ---- the promise

pub refused_uncleared :
    (x : Given) (e z : AnswerCells) (r : Refusal) → Checked (conditions x (rooms_of e)) (Err r) → Uncleared x e z (Err r)
refused_uncleared x e z r h =
    (refused (number r), (refused_with_lem (conditions x (rooms_of e)) (IsAnswer (job_from x)) r h, tt), refl)

module _ (x : Given) (e z : AnswerCells) (shape : Three x.c) (p : Passed (conditions x (rooms_of e)) 12) where
  abbrev j : Job
  j = job_from x

  abbrev n : ℕ
  n = length x.positions

  abbrev m : ℕ
  m = copies x.c

  abbrev k : ℕ
  k = length x.rotations_of_targets

  abbrev images : List ℕ
  images = each (λ q. q) (aligned (job_from x))

  -- the positions, their copies and the points, with one run of C
  pub record Listed : Type 0 where
    pub run : Run x.c
    pub count : length (points run.third) ≡ copies x.c
    pub primitive : Holds zero_cells e.primitive z.primitive (map cells_of (primitive_positions (job_from x)))
    pub listing : HoldsListing (listing_cells e) (listing_cells z) (listing_at x.c x.elements (primitive_positions (job_from x)) (points run.third))

  pub listed :
      CellListed x (each (λ q. q) (aligned (job_from x)))
      e.primitive z.primitive (listing_cells e) (listing_cells z) →
      Listed
  listed h =
      let rooms = rooms_of e in
      let roomy = known_roomy x rooms p in
      let pp = primitive_positions j in
      let held = primitive_held x rooms p e.primitive z.primitive h.symmetrised roomy.primitive h.positions in
      let (r, front, count) = points_held x rooms p shape h.none h.found h.pointed h.room h.points in
      let cells : take n z.primitive ≡ map cells_of pp =
      front_of zero_cells (map cells_of pp) z.primitive (length e.primitive) n held (length-cells pp ∙ primitive_count x rooms p) in
      let copied : CopiesListed x.c (points r.third) x.elements (map cells_of pp) (listing_cells e) (listing_cells z) =
      subst (λ fs. CopiesListed x.c fs x.elements (map cells_of pp) (listing_cells e) (listing_cells z)) front
      (subst (λ ps. CopiesListed x.c (take m h.found) x.elements ps (listing_cells e) (listing_cells z)) cells h.listed) in
      record {
        run = r;
        count = count;
        primitive = held;
        listing =
            listed_held x rooms p r count (listing_cells e) (listing_cells z) roomy.positions roomy.points roomy.mapping roomy.elements copied;
      }

  -- the mapping is that of n sites with m copies each
  mapping_is : (l : Listed) → site_mapping (length (primitive_positions (job_from x))) (length (points l.run.third)) ≡ site_mapping (length x.positions) (copies x.c)
  mapping_is l = λ i. site_mapping (primitive_count x (rooms_of e) p i) (l.count i)

  pub mapping_front : (l : Listed) → take (length x.positions * copies x.c) z.mapping ≡ site_mapping (length x.positions) (copies x.c)
  mapping_front l =
      front_of 0 (site_mapping n m) z.mapping (length e.mapping) (n * m)
      (l.listing.mapping ∙ ap (λ a. padded 0 a (length e.mapping)) (mapping_is l)) (length_mapping n m)

  positions_front :
      (l : Listed) →
      take (length x.positions * copies x.c) z.positions ≡ map cells_of (listed_positions x.c (primitive_positions (job_from x)) (points l.run.third))
  positions_front l =
      let lp = listed_positions x.c (primitive_positions j) (points l.run.third) in
      let long : length lp ≡ n * m =
      listed-count shape (known_regular x (rooms_of e) p) l.run [] (primitive_positions j) ∙ ap (λ s. s * m) (primitive_count x (rooms_of e) p) in
      front_of zero_cells (map cells_of lp) z.positions (length e.positions) (n * m) l.listing.positions (length-cells lp ∙ long)

  -- ---- with the spaces and the labels that were found

  module _ (l : Listed) (ss : List Space) (are : AreSpaces x.texts ss) (ls : List ℕ)
      (labels : Labels (aligned (job_from x)) (site_mapping (site_count (job_from x)) (copies x.c)) ls)
      (long : length ls ≡ length x.positions * copies x.c)
      (labels_held : Holds 0 e.labels z.labels ls) (counts-held : Holds 0 e.multiplicities z.multiplicities (multiplicities ls))
      (basis : z.primitive_cell_basis ≡ primitive_cell_basis (job_from x)) (fit-basis : z.listed_cell_basis ≡ listed_cell_basis (job_from x))
      (factors : z.factors ≡ diagonal l.run.third.d) where
    abbrev done : Work (job_from x)
    done = work x (rooms_of e) p shape l.run ss are ls labels long

    labels_front : take (length x.positions * copies x.c) z.labels ≡ ls
    labels_front = front_of 0 ls z.labels (length e.labels) (n * m) labels_held long

    -- the letters' arguments are these
    pub letter_arguments :
        (tables : SpaceCells) → tables ≡ tables_of ss → (listed : ℕ) → listed ≡ length x.positions * copies x.c →
        assigning
        (record {
          positions = take (length x.positions * copies x.c) z.positions;
          basis = z.listed_cell_basis;
          symprec = x.symprec;
          candidates = x.multiplicities;
          letters = x.letters;
          spaces = tables;
        }) listed (letter_cells z)
        ≡ lettering x (rooms_of e) p shape l.run ss are ls labels long
    letter_arguments tables t listed h =
        let counted : take (n * m) z.multiplicities ≡ multiplicities ls =
        front_of 0 (multiplicities ls) z.multiplicities (length e.multiplicities) (n * m) counts-held (length-multiplicities ls ∙ long) in
        let first : take listed z.labels ≡ ls = ap (λ i. take i z.labels) h ∙ labels_front in
        let second : take listed z.multiplicities ≡ multiplicities ls = ap (λ i. take i z.multiplicities) h ∙ counted in
        let placed = positions_front l in
        λ i.
        record {
          labels = first i;
          multiplicities = second i;
          positions = placed i;
          basis = fit-basis i;
          symprec = x.symprec;
          candidates = x.multiplicities;
          letters = x.letters;
          spaces = t i;
        }

    holds : Holds 0 e.letters z.letters (letters (sites_of done.found)) → HoldsAnswer e z (answer_of done)
    unfolding job_from work
    holds h =
        let sited : length (primitive_positions j) ≡ site_count j = positions_count j in
        let elements : listed_elements x.elements (length (points l.run.third)) ≡ listed_elements (map (λ s. s.element) j.sites) m =
        λ i. listed_elements (sym (of_elements x (known_like x (rooms_of e) p)) i) (l.count i) in
        record {
          positions = l.listing.positions;
          points = l.listing.points ∙ ap (λ s. padded zero_point (listed_points s (points l.run.third)) (length e.points)) sited;
          mapping = l.listing.mapping ∙ (λ i. padded 0 (site_mapping (sited i) (l.count i)) (length e.mapping));
          elements = l.listing.elements ∙ ap (λ a. padded (pos 0) a (length e.elements)) elements;
          labels = labels_held;
          multiplicities = counts-held;
          letters = h;
          primitive = l.primitive;
          primitive_cell_basis = basis;
          listed_cell_basis = fit-basis;
          factors = factors;
        }

    pub concluded :
        (whole : Bool) → Assigned (lettering x (rooms_of e) p shape l.run ss are ls labels long) e.letters z.letters whole →
        (r : Result AnswerCounts Refusal) → r ≡ told_by whole (length x.positions * copies x.c) z.labels → Uncleared x e z r
    unfolding work
    concluded whole a r told =
        let (judged, held) = letters_held x (rooms_of e) p shape l.run ss are ls labels long e.letters z.letters whole (known_roomy x (rooms_of e) p).letters a in
        by whole judged held told
      where
        unfit : Bool
        unfit = orbit_without_fit (sites_of done.found)

        by :
            (b : Bool) → b ≡ not unfit → Holds 0 e.letters z.letters (cond b (letters (sites_of done.found)) []) →
            r ≡ told_by b (n * m) z.labels → Uncleared x e z r
        by true q h t = (
          accepted (answer_of done),
          (
            accepted_with (conditions x (rooms_of e)) (IsAnswer j) (answer_of done)
                (accepted_past x (rooms_of e) p shape l.run ss are ls labels long (not-true unfit (sym q))) (done, refl),
            holds h,
          ),
          (λ i. accepted (record { sites = listed_is x (known_like x (rooms_of e) p) i; orbits = length (orbits (sym labels_front i)) }))
              ∙ ap (λ s. outcome (λ b. b) s) (sym t),
        )
        by false q h t = (
          refused orbit_fit,
          (
            refused_with_lem (conditions x (rooms_of e)) (IsAnswer j) OrbitFit
                (refused_there x (rooms_of e) p shape l.run ss are ls labels long (not-false unfit (sym q))),
            tt,
          ),
          ap (λ s. outcome (λ b. b) s) (sym t),
        )

  -- ---- by the sub-calls' promises

  pub answered :
      (before after : SpaceCells) (v₁ : Verdict) → space_rooms before ≡ table_rooms x → PrepareAllPromise x.texts before after v₁ →
      (old new : List ℕ) (v₂ : Verdict) → length old ≡ aligned_room x →
      AlignPromise x.t x.rotations x.images (length x.positions) x.rotations_of_targets old new v₂ →
      (conventional : RealMatrix) →
      LatticePromise x.lattice x.t x.c x.conventional
      (Ok (record { conventional = conventional; primitive = z.primitive_cell_basis; listed = z.listed_cell_basis })) →
      FactorsPromise x.c (Ok z.factors) →
      (is : List ℕ) → is ≡ take (length x.rotations_of_targets * length x.positions) new →
      (lent : SpaceCells) → lent ≡ fronts (length x.texts) after →
      CellListed x is
      e.primitive z.primitive (listing_cells e) (listing_cells z) →
      (r : Result AnswerCounts Refusal) →
      Finished (length x.positions * copies x.c)
      (record {
        sites = length x.positions;
        count = length x.rotations_of_targets;
        images = is;
        mapping = take (length x.positions * copies x.c) z.mapping;
      })
      (record {
        positions = take (length x.positions * copies x.c) z.positions;
        basis = z.listed_cell_basis;
        symprec = x.symprec;
        candidates = x.multiplicities;
        letters = x.letters;
        spaces = lent;
      })
      (letter_cells e) (letter_cells z) r →
      Uncleared x e z r
  answered before after v₁ rooms₁ prepared old new v₂ room₂ alignment conventional lattice factors is is_front lent lent-fronts cell r (whole, orb, told) =
      let rooms = rooms_of e in
      let roomy = known_roomy x rooms p in
      let same-images : is ≡ images = is_front ∙ images_of x rooms p old new v₂ room₂ alignment in
      let l =
      listed
      (subst (λ l. CellListed x l
      e.primitive z.primitive (listing_cells e) (listing_cells z)) same-images cell) in
      let (ss, are, tables) = spaces_held x rooms p before after v₁ rooms₁ prepared in
      let bases : Bases =
      record { conventional = conventional; primitive = z.primitive_cell_basis; listed = z.listed_cell_basis } in
      let (pb, lb) = bases_held x rooms p bases lattice in
      let labelled =
      subst (λ l. OrbitsLabelled (labelling l (site_mapping n m)) (label_cells (letter_cells e)) (label_cells (letter_cells z))) same-images
      (subst (λ ms. OrbitsLabelled (labelling is ms) (label_cells (letter_cells e)) (label_cells (letter_cells z))) (mapping_front l)
      orb.labels) in
      let (ls, labels, long, lh, mh) =
      labels_held x rooms p (label_cells (letter_cells e)) (label_cells (letter_cells z)) roomy.labels roomy.multiplicities labelled in
      let fs = factors_held x rooms p z.factors factors l.run in
      let sited : length (take (n * m) z.mapping) ≡ n * m = ap length (mapping_front l) ∙ length_mapping n m in
      concluded l ss are ls labels long lh mh pb lb fs whole
      (subst (λ a. Assigned a e.letters z.letters whole)
      (letter_arguments l ss are ls labels long lh mh pb lb fs lent (lent-fronts ∙ tables) (length (take (n * m) z.mapping)) sited)
      orb.letters)
      r told
    where
      labelling : List ℕ → List ℕ → LabelArguments
      labelling is mapping = record { sites = n; count = k; images = is; mapping = mapping }

-- where six of the lists are given back as they were left
pub given_back :
    (x : Given) (e y : AnswerCells) (r : Result AnswerCounts Refusal) {ps : List (List Float)} {fs : List (List ℤ)} {ms : List ℕ} {es : List ℤ} {ls us : List ℕ} →
    Uncleared x e y r → ps ≡ y.positions → fs ≡ y.points → ms ≡ y.mapping → es ≡ y.elements → ls ≡ y.labels → us ≡ y.multiplicities →
    Uncleared x e
    (record {
      positions = ps;
      points = fs;
      mapping = ms;
      elements = es;
      labels = ls;
      multiplicities = us;
      letters = y.letters;
      primitive = y.primitive;
      primitive_cell_basis = y.primitive_cell_basis;
      listed_cell_basis = y.listed_cell_basis;
      factors = y.factors;
    }) r
given_back x e y r {ps} {fs} {ms} {es} {ls} {us} u a b c d f g =
    subst (λ z. Uncleared x e z r)
    (λ i.
    record {
      positions = sym a i;
      points = sym b i;
      mapping = sym c i;
      elements = sym d i;
      labels = sym f i;
      multiplicities = sym g i;
      letters = y.letters;
      primitive = y.primitive;
      primitive_cell_basis = y.primitive_cell_basis;
      listed_cell_basis = y.listed_cell_basis;
      factors = y.factors;
    }) u

-- ---- cleared after a refusal

-- the promise of the call, from what it is before it clears
pub promise_refused :
    (x : Given) (e y z : AnswerCells) (r : Result AnswerCounts Refusal) → is_err r ≡ true → Uncleared x e y r →
    HoldsAnswer e z nothing_answered → ListsPromise x e z r
promise_refused x e y z (Ok c) told u clear = absurd (subst T (sym told) tt)
promise_refused x e y z (Err s) told (accepted a, h, t) clear = absurd (not_both (Err s) _ s (tells_answer answer_counts a (Err s) t) refl)
promise_refused x e y z (Err s) told (refused i, h, t) clear = (refused i, (h.0, clear), t)

pub promise_accepted :
    (x : Given) (e z : AnswerCells) (r : Result AnswerCounts Refusal) → is_err r ≡ false → Uncleared x e z r → ListsPromise x e z r
promise_accepted x e z (Ok c) told (accepted a, h, t) = (accepted a, h, t)
promise_accepted x e z (Ok c) told (refused i, h, t) = let n = tells_number answer_counts i (Ok c) t in absurd (not_both (Ok c) c n.0 refl n.1)
promise_accepted x e z (Err s) told u = absurd (subst T told tt)
