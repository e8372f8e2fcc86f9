-- Lists with just the room of a job: it is read into them, and they are its lists.
use Rattle.std.specs.Prelude.{ℕ, ◌+◌, ◌-◌, ◌≤◌, ◌≡◌, refl, true, false, List, [], ◌∷◌, ◌++◌, map, length, replicate, pos}
use Rattle.std.proofs.Common.{sym, ap, ◌∙◌, subst, append-nil, arith, le-ltb, eq-eqb}
use Rattle.std.proofs.lemmas.List.{length-map, length-replicate}
use Rattle.definitions.specs.declared.JobCounts.{JobCounts}
use Rattle.definitions.specs.declared.Position.{Position}
use Rattle.std.specs.Prelude.{Result}
use Rattle.definitions.specs.declared.Refusal.{Refusal}
use Rattle.definitions.specs.declared.AnswerCounts.{AnswerCounts}
use Rattle.definitions.specs.Lists.{any}
use Rattle.definitions.specs.Limits.{shorter_than, most_bytes}
use Rattle.definitions.specs.Refusal.{Holds}
use Rattle.definitions.specs.Job.{Parts, position_of, rows_of}
use Rattle.definitions.specs.Lent.{cells_of, zero_cells, zero_matrix}
use Rattle.definitions.specs.WholeCalls.{Given, given_of, zero_text, HoldsGiven, counts_of, AnswerCells, ListsPromise}
use Rattle.definitions.specs.WholeCalls.{BytesPromise}
use Rattle.laws.specs.Lists.{any_none}
use Rattle.laws.specs.Tests.{neither}
use Rattle.job.specs.Places.{parts_at, symprec_from}
use Rattle.job.specs.Counted.{JobOf, counts_are, not_no_job}
use Rattle.job.specs.declared.room.Rooms.{Rooms}
use Rattle.job.specs.Given.{rooms_of, short, readable, counted_given, ReadCounted}
use Rattle.job_standardize.specs.Bytes.{bytes_promise}

-- as many entries in each list as the job has commands
pub record JustRoom (bs : List ℕ) (k : JobCounts) (e : Rooms) : Type 0 where
  pub job : JobOf bs k
  pub elements : e.elements ≡ k.sites
  pub positions : e.positions ≡ k.sites
  pub rotations : e.rotations ≡ k.operations
  pub translations : e.translations ≡ k.operations
  pub images : e.images ≡ k.images
  pub rotations_of_targets : e.rotations_of_targets ≡ k.targets
  pub translations_of_targets : e.translations_of_targets ≡ k.targets
  pub conventional : e.conventional ≡ k.rotations
  pub multiplicities : e.multiplicities ≡ k.candidates
  pub letters : e.letters ≡ k.candidates
  pub texts : e.texts ≡ k.candidates

-- the front of a list of the greatest length
pub front_length : {A : Type 0} (n m : ℕ) (zero : A) → n ≤ m → n ≤ length (replicate m zero)
front_length n m zero h = subst (λ l. n ≤ l) (sym (length-replicate m zero)) h

-- ---- the reading cannot refuse

room : (a l : ℕ) → l ≡ a → shorter_than a l ≡ false
room a l e = le-ltb l a (omega arith)

no_room : (a : ℕ) → any (shorter_than a) [] ≡ false
unfolding any
no_room a = refl

two_rooms : (a k l : ℕ) → k ≡ a → l ≡ a → any (shorter_than a) (k ∷ l ∷ []) ≡ false
two_rooms a k l e f =
    any_none (shorter_than a) k (l ∷ []) (room a k e) (any_none (shorter_than a) l [] (room a l f) (no_room a))

three-rooms : (a k l m : ℕ) → k ≡ a → l ≡ a → m ≡ a → any (shorter_than a) (k ∷ l ∷ m ∷ []) ≡ false
three-rooms a k l m e f g = any_none (shorter_than a) k (l ∷ m ∷ []) (room a k e) (two_rooms a l m f g)

-- ---- what was read into just room

exact :
    {A B : Type 0} (f : A → B) (l : List A) (zero : B) (old cells : List B) → Holds zero old cells (map f l) →
    length old ≡ length l → cells ≡ map f l
exact f l zero old cells h e =
    let none_left : length old - length (map f l) ≡ 0 = omega (arith, e, length-map l f) in
    h ∙ ap (λ n. map f l ++ replicate n zero) none_left ∙ append-nil (map f l)

itself :
    {A : Type 0} (l : List A) (zero : A) (old cells : List A) → Holds zero old cells l → length old ≡ length l →
    cells ≡ l
itself l zero old cells h e =
    let none_left : length old - length l ≡ 0 = omega (arith, e) in
    h ∙ ap (λ n. l ++ replicate n zero) none_left ∙ append-nil l

module _ (bs : List ℕ) (k : JobCounts) (entry exit : Given) (just : JustRoom bs k (rooms_of entry)) where
  fits : short k (rooms_of entry) ≡ false
  fits =
      neither
      (neither
      (neither
      (neither
      (neither
      (two_rooms k.sites _ _ just.elements just.positions)
      (two_rooms k.operations _ _ just.rotations just.translations))
      (room k.images _ just.images))
      (two_rooms k.targets _ _ just.rotations_of_targets just.translations_of_targets))
      (room k.rotations _ just.conventional))
      (three-rooms k.candidates _ _ _ just.multiplicities just.letters just.texts)

  is_readable : readable bs k (rooms_of entry) ≡ true
  is_readable =
      let few = le-ltb most_bytes (length bs) just.job.few in
      let just_so = eq-eqb (symprec_from k + 10) (length bs) just.job.room in
      rw (few, just_so, fits)

  held : ReadCounted bs k entry exit → HoldsGiven entry exit (given_of (parts_at bs k))
  held h = subst (HoldsGiven entry exit) (ap (λ b. counted_given b bs k) is_readable) h

  abbrev p : Parts
  p = parts_at bs k

  is : counts_of p ≡ k
  is = counts_are bs k

  sites : {l : ℕ} → l ≡ k.sites → l ≡ length p.sites
  sites e = e ∙ ap (λ x. x.sites) (sym is)

  operations : {l : ℕ} → l ≡ k.operations → l ≡ length p.operations
  operations e = e ∙ ap (λ x. x.operations) (sym is)

  images : {l : ℕ} → l ≡ k.images → l ≡ length p.images
  images e = e ∙ ap (λ x. x.images) (sym is)

  targets : {l : ℕ} → l ≡ k.targets → l ≡ length p.targets
  targets e = e ∙ ap (λ x. x.targets) (sym is)

  rotations : {l : ℕ} → l ≡ k.rotations → l ≡ length p.rotations
  rotations e = e ∙ ap (λ x. x.rotations) (sym is)

  candidates : {l : ℕ} → l ≡ k.candidates → l ≡ length p.candidates
  candidates e = e ∙ ap (λ x. x.candidates) (sym is)

  lists_are : HoldsGiven entry exit (given_of p) → exit ≡ given_of p
  unfolding given_of
  lists_are h = λ j.
      record {
        lattice = h.lattice j;
        t = h.t j;
        shift = h.shift j;
        c = h.c j;
        elements =
            exact (λ s. s.element) p.sites (pos 0) entry.elements exit.elements h.elements
            (sites just.elements) j;
        positions =
            exact (λ s. cells_of (position_of s.position)) p.sites zero_cells entry.positions exit.positions
            h.positions (sites just.positions) j;
        rotations =
            exact (λ o. rows_of o.rotation) p.operations zero_matrix entry.rotations exit.rotations
            h.rotations (operations just.rotations) j;
        translations =
            exact (λ o. cells_of (position_of o.translation)) p.operations zero_cells entry.translations
            exit.translations h.translations (operations just.translations) j;
        images = itself p.images 0 entry.images exit.images h.images (images just.images) j;
        rotations_of_targets =
            exact (λ o. rows_of o.rotation) p.targets zero_matrix entry.rotations_of_targets exit.rotations_of_targets
            h.rotations_of_targets (targets just.rotations_of_targets) j;
        translations_of_targets =
            exact (λ o. cells_of (position_of o.translation)) p.targets zero_cells entry.translations_of_targets
            exit.translations_of_targets h.translations_of_targets (targets just.translations_of_targets) j;
        conventional =
            exact rows_of p.rotations zero_matrix entry.conventional exit.conventional h.conventional
            (rotations just.conventional) j;
        multiplicities =
            exact (λ w. w.multiplicity) p.candidates 0 entry.multiplicities exit.multiplicities
            h.multiplicities (candidates just.multiplicities) j;
        letters =
            exact (λ w. w.letter) p.candidates 0 entry.letters exit.letters h.letters
            (candidates just.letters) j;
        texts =
            exact (λ w. w.text) p.candidates zero_text entry.texts exit.texts h.texts
            (candidates just.texts) j;
        symprec = h.symprec j;
      }

  -- what the call on the lists promises after the reading, the call on bytes does
  pub read_promise :
      ReadCounted bs k entry exit → (old new : AnswerCells) (s : Result AnswerCounts Refusal) →
      ListsPromise exit old new s → BytesPromise bs old new s
  read_promise h old new s promised =
      bytes_promise bs p just.job.is (not_no_job bs k just.job) old new s
      (subst (λ x. ListsPromise x old new s) (lists_are (held h)) promised)

-- ---- the shift as a position

-- the same with another shift
abbrev shifted : Given → Position → Given
shifted e q =
    record {
      lattice = e.lattice;
      t = e.t;
      shift = q;
      c = e.c;
      elements = e.elements;
      positions = e.positions;
      rotations = e.rotations;
      translations = e.translations;
      images = e.images;
      rotations_of_targets = e.rotations_of_targets;
      translations_of_targets = e.translations_of_targets;
      conventional = e.conventional;
      multiplicities = e.multiplicities;
      letters = e.letters;
      texts = e.texts;
      symprec = e.symprec;
    }

pub same_shift :
    (e : Given) (p q : Position) → p ≡ q → (old new : AnswerCells) (s : Result AnswerCounts Refusal) →
    ListsPromise (shifted e p) old new s → ListsPromise (shifted e q) old new s
same_shift e p q h old new s = subst (λ x. ListsPromise (shifted e x) old new s) h
