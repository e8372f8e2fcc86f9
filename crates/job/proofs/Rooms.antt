-- Lists that are too short, and lists that are not.
use Prim.Native.Nat.{ℕ, ◌+◌, ◌≤◌, ◌<◌}
use mathlib.Core.Path.{◌≡◌, sym, ◌∙◌}
use mathlib.Core.Bool.{Bool, true, false, not, ◌||◌}
use mathlib.Core.List.{List, [], ◌∷◌}
use native.Mathlib.Omega.{arith}
use borrow.Author.Tests.{ltb-false, lt-ltb, le-ltb, eqb-true, not-true}
use lib.ListN.{length}
use lib.Dec.{T, ltb, eqb}
use Rattle.definitions.specs.declared.JobCounts.{JobCounts}
use Rattle.definitions.specs.Lists.{any}
use Rattle.definitions.specs.Limits.{shorter_than, most_bytes}
use Rattle.laws.specs.Tests.{neither_left, neither_right, never, so, true_of, off, both_pass}
use Rattle.laws.specs.Lists.{none_head, none_tail}
use Rattle.job.specs.Places.{symprec_from}
use Rattle.job.specs.Counted.{more_than, Within, within_not}
use Rattle.job.specs.declared.room.Rooms.{Rooms}
use Rattle.job.specs.Given.{short, Enough, takes_up, readable, most_each}

-- ---- a list that is not too short

room : (n a : ℕ) → shorter_than n a ≡ false → n ≤ a
room n a e = ltb-false a n e

first : (n a : ℕ) (l : List ℕ) → any (shorter_than n) (a ∷ l) ≡ false → n ≤ a
first n a l e = room n a (none_head (shorter_than n) a l e)

second : (n a b : ℕ) (l : List ℕ) → any (shorter_than n) (a ∷ b ∷ l) ≡ false → n ≤ b
second n a b l e = first n b l (none_tail (shorter_than n) a (b ∷ l) e)

third : (n a b c : ℕ) → any (shorter_than n) (a ∷ b ∷ c ∷ []) ≡ false → n ≤ c
third n a b c e = second n b c [] (none_tail (shorter_than n) a (b ∷ c ∷ []) e)

pub enough : (k : JobCounts) (e : Rooms) → short k e ≡ false → Enough k e
enough k e h =
    let s = any (shorter_than k.sites) (e.elements ∷ e.positions ∷ []) in
    let o = any (shorter_than k.operations) (e.rotations ∷ e.translations ∷ []) in
    let i = shorter_than k.images e.images in
    let g = any (shorter_than k.targets) (e.rotations_of_targets ∷ e.translations_of_targets ∷ []) in
    let r = shorter_than k.rotations e.conventional in
    let w = any (shorter_than k.candidates) (e.multiplicities ∷ e.letters ∷ e.texts ∷ []) in
    let h₅ = neither_left (s || o || i || g || r) w h in
    let h₄ = neither_left (s || o || i || g) r h₅ in
    let h₃ = neither_left (s || o || i) g h₄ in
    let h₂ = neither_left (s || o) i h₃ in
    let sites = neither_left s o h₂ in
    let operations = neither_right s o h₂ in
    let targets = neither_right (s || o || i) g h₄ in
    let candidates = neither_right (s || o || i || g || r) w h in
    record {
      elements = first k.sites e.elements (e.positions ∷ []) sites;
      positions = second k.sites e.elements e.positions [] sites;
      rotations = first k.operations e.rotations (e.translations ∷ []) operations;
      translations = second k.operations e.rotations e.translations [] operations;
      images = room k.images e.images (neither_right (s || o) i h₃);
      rotations_of_targets = first k.targets e.rotations_of_targets (e.translations_of_targets ∷ []) targets;
      translations_of_targets = second k.targets e.rotations_of_targets e.translations_of_targets [] targets;
      conventional = room k.rotations e.conventional (neither_right (s || o || i || g) r h₅);
      multiplicities = first k.candidates e.multiplicities (e.letters ∷ e.texts ∷ []) candidates;
      letters = second k.candidates e.multiplicities e.letters (e.texts ∷ []) candidates;
      texts = third k.candidates e.multiplicities e.letters e.texts candidates;
    }

-- ---- counts and bytes

module _ (k : JobCounts) (n : ℕ) where
  pub too_many-bytes : most_bytes < n → false ≡ takes_up k n
  too_many-bytes h = rw (lt-ltb most_bytes n h)

  -- counts that take up the bytes are not above their number
  within_bytes : n ≤ most_bytes → symprec_from k + 10 ≡ n → Within most_each k
  within_bytes h e =
      record {
        sites = omega (arith, h, e);
        operations = omega (arith, h, e);
        images = omega (arith, h, e);
        targets = omega (arith, h, e);
        rotations = omega (arith, h, e);
        candidates = omega (arith, h, e);
      }

  pub too_many_commands : n ≤ most_bytes → more_than most_each k ≡ true → false ≡ takes_up k n
  too_many_commands h m =
      let b = eqb (symprec_from k + 10) n in
      let no : T b → ⊥ = λ t. never (sym (within_not most_each k (within_bytes h (eqb-true _ _ (true_of b t)))) ∙ m) in
      rw (le-ltb most_bytes n h, off b no)

  pub takes_up_so : n ≤ most_bytes → (r : Bool) → r ≡ eqb (symprec_from k + 10) n → r ≡ takes_up k n
  takes_up_so h r e = rw (le-ltb most_bytes n h) e

-- every place of so many commands is a number
pub place_fits : (k : JobCounts) → Within most_each k → symprec_from k + 10 < 18446744073709551616
place_fits k w =
    omega
    (arith, w.sites, w.operations, w.images, w.targets, w.rotations, w.candidates)

-- where counted commands are read, they take up the bytes, and the lists have room
pub read_so : (bs : List ℕ) (k : JobCounts) (e : Rooms) → readable bs k e ≡ true → (symprec_from k + 10 ≡ length bs) × Enough k e
read_so bs k e h =
    let both = both_pass (takes_up k (length bs)) (not (short k e)) (so h) in
    let bytes = both_pass (not (ltb most_bytes (length bs))) (eqb (symprec_from k + 10) (length bs)) both.0 in
    (eqb-true _ _ (true_of _ bytes.1), enough k e (not-true _ (true_of _ both.1)))
