-- The verdict of the call that prepares every candidate, and how its promise is kept.
use Prim.Native.Nat.{ℕ, zero, suc, ◌-◌, ◌≤◌, ◌<◌}
use mathlib.Core.Path.{◌≡◌, refl, sym, ap, subst, ◌∙◌}
use mathlib.Core.Bool.{Bool, true, false, ◌||◌}
use mathlib.Core.List.{List, [], ◌∷◌, map, map-append, map-map}
use lib.ListN.{length, replicate, length-map}
use borrow.Author.Tests.{lt-ltb, le-ltb}
use Rattle.std.specs.Prelude.{Err, Ok}
use Rattle.definitions.specs.declared.Refusal.{Refusal}
use Rattle.definitions.specs.declared.Refusal.TheVariants.{Counts, Coordinates, Diagonalisation, Buffer}
use Rattle.definitions.specs.Limits.{too_many_candidates, shorter_than}
use Rattle.definitions.specs.Lists.{any, Some}
use Rattle.definitions.specs.Refusal.{Checked, padded, Holds}
use Rattle.definitions.specs.SiteCalls.{space_rooms, HoldsSpaces, prepare_all_conditions, PrepareAllPromise}
use Rattle.definitions.specs.Standardize.{BadCoordinates, TextLeaves}
use Rattle.definitions.specs.Wyckoff.{Space, AreSpaces}
use Rattle.laws.specs.Filling.{cut, padded_by}
use Rattle.laws.specs.Lists.{list_any-is_any}
use Rattle.laws.specs.Tests.{so, not_so}
use Rattle.laws.specs.Verdicts.{HoldsAt, Passed, found_at_lem, found_none, refuse, accept, verdict_of}
use Rattle.laws.specs.Verdicts.{promise_accepted, promise_refused}
use Rattle.data_wyckoff.specs.declared.space.Space as code
use Rattle.data_wyckoff.specs.Spaces.{cells_of_space, zero_space, lists, PutSpaces, Judged}
use Rattle.data_wyckoff.proofs.Listed.{Found, neither, six, eight, found}

-- ---- the verdict

-- the five lists are as long as the one
pub rooms_are :
    (ss : List code.Space) →
    space_rooms (lists ss) ≡ length ss ∷ length ss ∷ length ss ∷ length ss ∷ length ss ∷ []
rooms_are ss = λ i.
    length-map ss (λ s. s.matrix) i
    ∷ length-map ss (λ s. s.shift) i
    ∷ length-map ss (λ s. s.d) i
    ∷ length-map ss (λ s. s.l) i
    ∷ length-map ss (λ s. s.r) i
    ∷ []

-- so a test of all their lengths is the test of its
module _ (t : ℕ → Bool) where
  five_alike : (m : ℕ) → any t (m ∷ m ∷ m ∷ m ∷ m ∷ []) ≡ t m
  five_alike m = sym (list_any-is_any t (m ∷ m ∷ m ∷ m ∷ m ∷ [])) ∙ by (t m)
    where
      by : (b : Bool) → (b || (b || (b || (b || (b || false))))) ≡ b
      by true = refl
      by false = refl

  pub rooms_alike : (ss : List code.Space) → any t (space_rooms (lists ss)) ≡ t (length ss)
  rooms_alike ss = ap (any t) (rooms_are ss) ∙ five_alike (length ss)

module _ (texts : List (List ℕ)) (e : List code.Space) where
  room_is : any (shorter_than (length texts)) (space_rooms (lists e)) ≡ shorter_than (length texts) (length e)
  room_is = rooms_alike (shorter_than (length texts)) e

  judged-many :
      too_many_candidates (length texts) ≡ true →
      Checked (prepare_all_conditions texts (space_rooms (lists e))) (Err Counts)
  unfolding verdict_of found_at_lem Passed HoldsAt
  judged-many h = refuse (prepare_all_conditions texts (space_rooms (lists e))) 0 tt (so h) (Err Counts) refl

  pub too_many : too_many_candidates (length texts) ≡ true → Judged texts e e (Err Counts)
  too_many h =
      record { long = refl; checked = judged-many h; room = λ told. absurd (cc); stored = λ told. absurd (cc) }

  module _ (few : too_many_candidates (length texts) ≡ false) where
    judged_refused :
        (k : Refusal) → Found (BadCoordinates texts) (Some TextLeaves texts) (Err k) →
        Checked (prepare_all_conditions texts (space_rooms (lists e))) (Err k)
    unfolding verdict_of found_at_lem Passed HoldsAt
    judged_refused k (six p) =
        refuse (prepare_all_conditions texts (space_rooms (lists e))) 1 (not_so few, tt) p (Err Coordinates) refl
    judged_refused k (eight p q) =
        refuse (prepare_all_conditions texts (space_rooms (lists e))) 2 (not_so few, (p, tt)) q
        (Err Diagonalisation) refl

    judged_short :
        Found (BadCoordinates texts) (Some TextLeaves texts) (Ok tt) →
        any (shorter_than (length texts)) (space_rooms (lists e)) ≡ true →
        Checked (prepare_all_conditions texts (space_rooms (lists e))) (Err Buffer)
    unfolding verdict_of found_at_lem Passed HoldsAt
    judged_short (neither p q) r =
        refuse (prepare_all_conditions texts (space_rooms (lists e))) 3 (not_so few, (p, (q, tt))) (so r)
        (Err Buffer) refl

    judged_whole :
        Found (BadCoordinates texts) (Some TextLeaves texts) (Ok tt) →
        any (shorter_than (length texts)) (space_rooms (lists e)) ≡ false →
        Checked (prepare_all_conditions texts (space_rooms (lists e))) (Ok tt)
    unfolding verdict_of found_none Passed HoldsAt
    judged_whole (neither p q) r =
        accept (prepare_all_conditions texts (space_rooms (lists e))) (not_so few, (p, (q, (not_so r, tt)))) refl

    module _ (x : List code.Space) where
      pub a_refusal : (k : Refusal) → PutSpaces texts e x (Err k) → Judged texts e x (Err k)
      a_refusal k p =
          record {
            long = p.long;
            checked = judged_refused k (found (Err k) p.checked);
            room = λ told. absurd (cc);
            stored = λ told. absurd (cc);
          }

      pub lacks_room : PutSpaces texts e x (Ok tt) → length x < length texts → Judged texts e x (Err Buffer)
      lacks_room p h =
          record {
            long = p.long;
            checked =
                judged_short (found (Ok tt) p.checked)
                (room_is ∙ lt-ltb (length e) (length texts) (subst (λ n. n < length texts) p.long h));
            room = λ told. absurd (cc);
            stored = λ told. absurd (cc);
          }

      pub has_room : PutSpaces texts e x (Ok tt) → length texts ≤ length x → Judged texts e x (Ok tt)
      has_room p h =
          let k : length texts ≤ length e = subst (λ n. length texts ≤ n) p.long h in
          record {
            long = p.long;
            checked = judged_whole (found (Ok tt) p.checked) (room_is ∙ le-ltb (length e) (length texts) k);
            room = λ told. k;
            stored = p.stored;
          }

-- ---- the lists

module _ {A B : Type 0} (f : A → B) (z : A) where
  map_replicate : (n : ℕ) → map f (replicate n z) ≡ replicate n (f z)
  map_replicate zero = refl
  map_replicate (suc n) = ap (λ l. f z ∷ l) (map_replicate n)

  map_padded : (a : List A) (n : ℕ) → map f (padded z a n) ≡ padded (f z) (map f a) n
  map_padded a n = rw (map-append f a (replicate (n - length a) z), map_replicate (n - length a), length-map a f)

module _ (e y : List code.Space) (ss : List Space) (h : y ≡ padded zero_space (map cells_of_space ss) (length e)) where
  held :
      {A : Type 0} (f : code.Space → A) →
      Holds (f zero_space) (map f e) (map f y) (map (λ s. f (cells_of_space s)) ss)
  held f =
      ap (map f) h
      ∙ map_padded f zero_space (map cells_of_space ss) (length e)
      ∙ ap (λ a. padded (f zero_space) a (length e)) (map-map f cells_of_space ss)
      ∙ ap (padded (f zero_space) (map (λ s. f (cells_of_space s)) ss)) (sym (length-map e f))

  holds_all : HoldsSpaces (lists e) (lists y) ss
  holds_all =
      record {
        matrices = held (λ s. s.matrix);
        shifts = held (λ s. s.shift);
        ds = held (λ s. s.d);
        ls = held (λ s. s.l);
        rs = held (λ s. s.r);
      }

module _ (texts : List (List ℕ)) (e x y : List code.Space) where
  -- the list with the spaces in front, and zero behind them
  pub keep-accepted :
      Judged texts e x (Ok tt) → y ≡ cut zero_space (length texts) x →
      PrepareAllPromise texts (lists e) (lists y) (Ok tt)
  keep-accepted j k =
      let s = j.stored refl in
      let r = j.room refl in
      promise_accepted (prepare_all_conditions texts (space_rooms (lists e))) (AreSpaces texts)
      (HoldsSpaces (lists e) (lists y)) (HoldsSpaces (lists e) (lists y) []) s.spaces j.checked s.right
      (holds_all e y s.spaces
      (padded_by zero_space (map cells_of_space s.spaces) e y x (length texts)
      (length-map s.spaces cells_of_space ∙ s.count) r (s.front r) k))

  -- the list zero
  pub keep_refused :
      (n : Refusal) → Judged texts e x (Err n) → y ≡ cut zero_space 0 x →
      PrepareAllPromise texts (lists e) (lists y) (Err n)
  keep_refused n j k =
      promise_refused (prepare_all_conditions texts (space_rooms (lists e))) (AreSpaces texts)
      (HoldsSpaces (lists e) (lists y)) (HoldsSpaces (lists e) (lists y) []) n j.checked
      (holds_all e y [] (k ∙ ap (padded zero_space []) j.long))
