-- Readers of bytes, each with the printer that it undoes: a number, k operands, two operands, a command, a run of
-- items.
use Prim.Native.Nat.{ℕ, zero, suc, ◌+◌, ◌-◌, ◌*◌, ◌/◌, ◌^◌, ◌≤◌, ◌<◌}
use Rattle.std.proofs.Common.{subst, ◌∙◌, lt→ltb, eqb→eq, eq-eqb, eqb-true}
use native.Mathlib.Omega.{arith}
use Rattle.std.proofs.Math.Path.{◌≡◌, refl, sym, ap}
use Rattle.std.specs.Prelude.{Bool, not, ◌&&◌, cond, get_or, ltb, ℤ, pos, negsuc}
use Rattle.std.proofs.Math.Bool.{true, false}
use mathlib.Core.List.{List, [], ◌∷◌, ◌++◌, append_assoc}
use Rattle.std.proofs.Math.Option.{Option, none, some, bind, bind-eq-some_iff, some-injective, none-ne-some}
use Rattle.std.proofs.Math.ListN.{length, length-append}
use Rattle.std.proofs.Math.Dec.{T, eqb, eqb_refl}
use Rattle.std.proofs.Math.Pow.{are_bytes}
use Rattle.definitions.specs.Lists.{all, each}
use Rattle.laws.specs.Tests.{both_pass, pass_both}

-- what is read, and the bytes behind it
abbrev pub Reader : Type 0 → Type 0
Reader A = List ℕ → Option (A × List ℕ)

abbrev pub begins : ℕ → List ℕ → Bool
begins c [] = false
begins c (b ∷ k) = eqb b c

-- none of these commands comes next
abbrev pub clear : List ℕ → List ℕ → Bool
clear [] k = true
clear (c ∷ cs) k = not (begins c k) && clear cs k

-- What holds is read back, whatever is behind it but for the commands cs; and what is read from bytes holds, and prints
-- as them.
pub record Inverse {A : Type 0} (cs : List ℕ) (holds : A → Bool) (print : A → List ℕ) (read : Reader A) : Type 0 where
  pub forth : (a : A) (k : List ℕ) → T (holds a) → T (clear cs k) → read (print a ++ k) ≡ some (a, k)
  pub back : (bs : List ℕ) (a : A) (k : List ℕ) → T (are_bytes bs) → read bs ≡ some (a, k) → T (holds a) × (print a ++ k ≡ bs)

-- ---- words on tests and answers

pub same_read : {A : Type 0} {a a' : A} {k k' : List ℕ} → ◌≡◌ {A = Option (A × List ℕ)} (some (a, k)) (some (a', k')) → (a ≡ a') × (k ≡ k')
same_read {a} {a'} {k} {k'} e =
    let p = some-injective (a, k) (a', k') e in
    (ap (λ r. r.0) p, ap (λ r. r.1) p)

-- what a slice of bytes knows of its elements
pub bytes_known : (bs : List ℕ) → ((i : ℕ) → i < length bs → get_or bs i 0 < 256) → T (are_bytes bs)
bytes_known [] h = tt
bytes_known (b ∷ bs) h = pass_both (ltb b 256) (are_bytes bs) (lt→ltb b 256 (h 0 (omega arith))) (bytes_known bs (λ i l. h (suc i) (omega arith)))

bytes_behind : (xs ys : List ℕ) → T (are_bytes (xs ++ ys)) → T (are_bytes ys)
bytes_behind [] ys h = h
bytes_behind (x ∷ xs) ys h = bytes_behind xs ys (both_pass (ltb x 256) (are_bytes (xs ++ ys)) h).1

-- ---- one reader behind the other, and a reader whose answer is changed

module _ {A B : Type 0} where
  unfoldable pub mapped : (A → B) → Reader A → Reader B
  unfolding bind
  mapped f r bs = bind (r bs) (λ x. some (f x.0, x.1))

  infixl 20 ◌then◌
  unfoldable pub ◌then◌ : Reader A → Reader B → Reader (A × B)
  unfolding bind
  (p then q) bs = bind (p bs) (λ x. bind (q x.1) (λ y. some ((x.0, y.0), y.1)))

  pub mapped_forth : (f : A → B) (r : Reader A) {bs k : List ℕ} {a : A} → r bs ≡ some (a, k) → mapped f r bs ≡ some (f a, k)
  unfolding mapped bind
  mapped_forth f r e = rw e

  pub mapped_back : (f : A → B) (r : Reader A) (bs : List ℕ) {k : List ℕ} {b : B} → mapped f r bs ≡ some (b, k) → (a : A) × (f a ≡ b) × (r bs ≡ some (a, k))
  unfolding mapped
  mapped_back f r bs {k} {b} e =
      let (x, e₁, e₂) = (bind-eq-some_iff {B = B × List ℕ} (r bs) (λ x. some (f x.0, x.1))).0 e in
      (x.0, (same_read e₂).0, e₁ ∙ ap (λ (j : List ℕ). some (x.0, j)) (same_read e₂).1)

  pub then_forth : (p : Reader A) (q : Reader B) {bs k k' : List ℕ} {a : A} {b : B} → p bs ≡ some (a, k) → q k ≡ some (b, k') → (p then q) bs ≡ some ((a, b), k')
  unfolding ◌then◌ bind
  then_forth p q e₁ e₂ = rw (e₁, e₂)

  pub then_back : (p : Reader A) (q : Reader B) (bs : List ℕ) {k' : List ℕ} {a : A} {b : B} → (p then q) bs ≡ some ((a, b), k') → (k : List ℕ) × (p bs ≡ some (a, k)) × (q k ≡ some (b, k'))
  unfolding ◌then◌
  then_back p q bs e =
      let (x, e₁, e₂) = (bind-eq-some_iff {B = (A × B) × List ℕ} (p bs) (λ x. bind (q x.1) (λ y. some ((x.0, y.0), y.1)))).0 e in
      let (y, e₃, e₄) = (bind-eq-some_iff {B = (A × B) × List ℕ} (q x.1) (λ y. some ((x.0, y.0), y.1))).0 e₂ in
      let s = same_read e₄ in
      (x.1, e₁ ∙ ap (λ (z : A × B). some (z.0, x.1)) s.0, e₃ ∙ ap (λ (z : B × List ℕ). some z) (λ i. ((s.0 i).1, s.1 i)))

-- ---- an unsigned operand of n bytes

-- the lowest byte, and the number of the others
abbrev pub place : ℕ → ℕ → ℕ
place b w = b + 256 * w

unfoldable pub number : ℕ → Reader ℕ
unfolding mapped
number zero bs = some (0, bs)
number (suc n) [] = none
number (suc n) (b ∷ bs) = mapped (place b) (number n) bs

-- ---- a signed operand of n bytes, from two's complement

-- its own inverse
abbrev pub mirror : ℕ → ℕ → ℕ
mirror n u = 256 ^ n - suc u

abbrev pub from_complement : ℕ → ℕ → ℤ
from_complement n u = cond (ltb u (256 ^ n / 2)) (pos u) (negsuc (mirror n u))

abbrev pub integer : ℕ → Reader ℤ
integer n = mapped (from_complement n) (number n)

-- ---- the laws on readers, one for each way to make a reader

module _ {A B : Type 0} {cs ds : List ℕ} {h : A → Bool} {p : A → List ℕ} {r : Reader A} {h' : B → Bool} {p' : B → List ℕ} {r' : Reader B} where
  -- two operands: what is printed second never begins with what may not follow the first
  pub then_inverse : Inverse cs h p r → Inverse ds h' p' r' → ((b : B) (k : List ℕ) → T (clear ds k) → T (clear cs (p' b ++ k))) → Inverse ds (λ (x : A × B). h x.0 && h' x.1) (λ x. p x.0 ++ p' x.1) (r then r')
  then_inverse i j apart =
      record {
        forth = λ x k t c.
            let (t₁, t₂) = both_pass (h x.0) (h' x.1) t in
            ap (r then r') (append_assoc (p x.0) (p' x.1) k) ∙ then_forth r r' (i.forth x.0 (p' x.1 ++ k) t₁ (apart x.1 k c)) (j.forth x.1 k t₂ c);
        back = λ bs x k t e.
            let (m, e₁, e₂) = then_back r r' bs e in
            let (t₁, q₁) = i.back bs x.0 m t e₁ in
            let (t₂, q₂) = j.back m x.1 k (bytes_behind (p x.0) m (subst (λ (l : List ℕ). T (are_bytes l)) (sym q₁) t)) e₂ in
            (pass_both (h x.0) (h' x.1) t₁ t₂, append_assoc (p x.0) (p' x.1) k ∙ ap (λ (l : List ℕ). p x.0 ++ l) q₂ ∙ q₁);
      }

module _ {A B : Type 0} {cs : List ℕ} {h : A → Bool} {p : A → List ℕ} {r : Reader A} where
  -- the same operands under another name
  pub mapped-inverse : Inverse cs h p r → (to : A → B) (from : B → A) → ((a : A) → from (to a) ≡ a) → ((b : B) → to (from b) ≡ b) → Inverse cs (λ b. h (from b)) (λ b. p (from b)) (mapped to r)
  mapped-inverse i to from there here =
      record {
        forth = λ b k t c. mapped_forth to r (i.forth (from b) k t c) ∙ ap (λ (x : B). some (x, k)) (here b);
        back = λ bs b k t e.
            let (a, value, read) = mapped_back to r bs e in
            let same : a ≡ from b = sym (there a) ∙ ap from value in
            i.back bs (from b) k t (read ∙ ap (λ (x : A). some (x, k)) same);
      }

-- ---- k operands, one behind the other; a command; a run of items

module _ {A : Type 0} where
  abbrev pub next : Reader A → Reader (List A) → Reader (List A)
  next r rs = mapped (λ x. x.0 ∷ x.1) (r then rs)

  unfoldable pub times : ℕ → Reader A → Reader (List A)
  unfolding mapped ◌then◌
  times zero r bs = some ([], bs)
  times (suc n) r bs = next r (times n r) bs

  -- an item behind its command
  unfoldable pub behind : ℕ → Reader A → Reader A
  behind c r [] = none
  behind c r (b ∷ bs) = elim (eqb b c) [ true ↦ r bs | false ↦ none ]

  -- items as long as the next byte is their command: at most so many
  unfoldable pub at_most : ℕ → ℕ → Reader A → Reader (List A)
  unfolding mapped ◌then◌
  at_most zero c r bs = some ([], bs)
  at_most (suc f) c r [] = some ([], [])
  at_most (suc f) c r (b ∷ bs) = elim (eqb b c) [ true ↦ next r (at_most f c r) bs | false ↦ some ([], b ∷ bs) ]

  abbrev pub many : ℕ → Reader A → Reader (List A)
  many c r bs = at_most (length bs) c r bs

-- a command that has no operands
abbrev pub alone : ℕ → Reader (Unit {0})
alone c = behind c (λ bs. some (tt, bs))

-- an item before such a command
unfoldable pub closed : {A : Type 0} → Reader A → ℕ → Reader A
unfolding mapped ◌then◌ behind
closed r c = mapped (λ x. x.0) (r then alone c)

all_cons : {A : Type 0} (h : A → Bool) (a : A) (l : List A) → all h (a ∷ l) ≡ (h a && all h l)
unfolding all
all_cons h a l = go (h a) (all h l)
  where
    go : (t b : Bool) → (elim t as (λ x. Bool) [ true ↦ b | false ↦ false ]) ≡ (t && b)
    go true b = refl
    go false b = refl

first_and_rest : {A : Type 0} (h : A → Bool) (a : A) (l : List A) → T (all h (a ∷ l)) → T (h a) × T (all h l)
first_and_rest h a l t = both_pass (h a) (all h l) (subst T (all_cons h a l) t)

cons-all : {A : Type 0} (h : A → Bool) (a : A) (l : List A) → T (h a) → T (all h l) → T (all h (a ∷ l))
cons-all h a l t u = subst T (sym (all_cons h a l)) (pass_both (h a) (all h l) t u)

not_begins : (b c : ℕ) → T (not (eqb b c)) → eqb b c ≡ false
not_begins b c t = go (eqb b c) t
  where
    go : (x : Bool) → T (not x) → x ≡ false
    go true t = absurd t
    go false t = refl

module _ {A : Type 0} {h : A → Bool} {p : A → List ℕ} {r : Reader A} (i : Inverse [] h p r) where
  next_forth : (rs : Reader (List A)) (a : A) (l : List A) (ys k : List ℕ) → T (h a) → rs (ys ++ k) ≡ some (l, k) → next r rs (p a ++ ys ++ k) ≡ some (a ∷ l, k)
  next_forth rs a l ys k t e =
      ap (next r rs) (append_assoc (p a) ys k)
      ∙ mapped_forth (λ x. x.0 ∷ x.1) (r then rs) (then_forth r rs (i.forth a (ys ++ k) t tt) e)

  -- what `next` read: the item a, then l from the bytes m
  record Next (rs : Reader (List A)) (bs : List ℕ) (l : List A) (k : List ℕ) : Type 0 where
    a : A
    l' : List A
    m : List ℕ
    whole : a ∷ l' ≡ l
    holds : T (h a)
    print : p a ++ m ≡ bs
    small : T (are_bytes m)
    rest : rs m ≡ some (l', k)

  next_back : (rs : Reader (List A)) (bs : List ℕ) (l : List A) (k : List ℕ) → T (are_bytes bs) → next r rs bs ≡ some (l, k) → Next rs bs l k
  next_back rs bs l k t e =
      let (x, value, read) = mapped_back (λ x. x.0 ∷ x.1) (r then rs) bs e in
      let (m, e₁, e₂) = then_back r rs bs read in
      let (t₁, q₁) = i.back bs x.0 m t e₁ in
      record {
        a = x.0;
        l' = x.1;
        m = m;
        whole = value;
        holds = t₁;
        print = q₁;
        small = bytes_behind (p x.0) m (subst (λ (y : List ℕ). T (are_bytes y)) (sym q₁) t);
        rest = e₂;
      }

  times_forth : (n : ℕ) (l : List A) (k : List ℕ) → length l ≡ n → T (all h l) → times n r (each p l ++ k) ≡ some (l, k)
  unfolding times each
  times_forth zero [] k e t = refl
  times_forth zero (a ∷ l) k e t = absurd (omega arith)
  times_forth (suc n) [] k e t = absurd (omega arith)
  times_forth (suc n) (a ∷ l) k e t =
      let (t₁, t₂) = first_and_rest h a l t in
      let size : length l ≡ n = omega arith in
      next_forth (times n r) a l (each p l) k t₁ (times_forth n l k size t₂)

  times_back : (n : ℕ) (bs : List ℕ) (l : List A) (k : List ℕ) → T (are_bytes bs) → times n r bs ≡ some (l, k) → (length l ≡ n) × T (all h l) × (each p l ++ k ≡ bs)
  unfolding times each all
  times_back zero bs l k t e = let (none_read, rest) = same_read e in rw (← none_read, ← rest) (refl, tt, refl)
  times_back (suc n) bs l k t e =
      let x = next_back (times n r) bs l k t e in
      let (size, t₂, q₂) = times_back n x.m x.l' k x.small x.rest in
      rw (← x.whole) (ap suc size, cons-all h x.a x.l' x.holds t₂, append_assoc (p x.a) (each p x.l') k ∙ ap (λ (y : List ℕ). p x.a ++ y) q₂ ∙ x.print)

  pub times_inverse : (n : ℕ) → Inverse [] (λ (l : List A). eqb (length l) n && all h l) (each p) (times n r)
  times_inverse n =
      record {
        forth = λ l k t c. let (t₁, t₂) = both_pass (eqb (length l) n) (all h l) t in times_forth n l k (eqb→eq (length l) n t₁) t₂;
        back = λ bs l k t e. let (e₁, t₁, e₂) = times_back n bs l k t e in (pass_both (eqb (length l) n) (all h l) (subst (λ (m : ℕ). T (eqb (length l) m)) e₁ (eqb_refl (length l))) t₁, e₂);
      }

  at_most_forth : (f c : ℕ) (l : List A) (k : List ℕ) → length l ≤ f → T (all h l) → T (not (begins c k)) → at_most f c r (each (λ a. c ∷ p a) l ++ k) ≡ some (l, k)
  unfolding at_most each
  at_most_forth zero c [] k e t u = refl
  at_most_forth zero c (a ∷ l) k e t u = absurd (omega arith)
  at_most_forth (suc f) c [] [] e t u = refl
  at_most_forth (suc f) c [] (b ∷ k) e t u = rw (not_begins b c u, at_most)
  at_most_forth (suc f) c (a ∷ l) k e t u =
      let (t₁, t₂) = first_and_rest h a l t in
      let size : length l ≤ f = omega arith in
      rw (eq-eqb c c refl, at_most) (next_forth (at_most f c r) a l (each (λ a. c ∷ p a) l) k t₁ (at_most_forth f c l k size t₂ u))

  at_most_back : (f c : ℕ) (bs : List ℕ) (l : List A) (k : List ℕ) → T (are_bytes bs) → at_most f c r bs ≡ some (l, k) → T (all h l) × (each (λ a. c ∷ p a) l ++ k ≡ bs)
  unfolding at_most each all
  at_most_back zero c bs l k t e = let (none_read, rest) = same_read e in rw (← none_read, ← rest) (tt, refl)
  at_most_back (suc f) c [] l k t e = let (none_read, rest) = same_read e in rw (← none_read, ← rest) (tt, refl)
  at_most_back (suc f) c (b ∷ bs) l k t e = go (λ m l' u q. at_most_back f c m l' k u q) (eqb b c) refl e
    where
      go : ((m : List ℕ) (l' : List A) → T (are_bytes m) → at_most f c r m ≡ some (l', k) → T (all h l') × (each (λ a. c ∷ p a) l' ++ k ≡ m)) → (x : Bool) → eqb b c ≡ x → ◌≡◌ {A = Option (List A × List ℕ)} (elim x [ true ↦ next r (at_most f c r) bs | false ↦ some ([], b ∷ bs) ]) (some (l, k)) → T (all h l) × (each (λ a. c ∷ p a) l ++ k ≡ b ∷ bs)
      go again true command e =
          let x = next_back (at_most f c r) bs l k (both_pass (ltb b 256) (are_bytes bs) t).1 e in
          let (t₂, q₂) = again x.m x.l' x.small x.rest in
          let items = each (λ a. c ∷ p a) x.l' in
          rw (← x.whole) (cons-all h x.a x.l' x.holds t₂, λ j. sym (eqb-true b c command) j ∷ (append_assoc (p x.a) items k ∙ ap (λ (y : List ℕ). p x.a ++ y) q₂ ∙ x.print) j)
      go again false command e = let (none_read, rest) = same_read e in rw (← none_read, ← rest) (tt, refl)

  -- as many items as bytes are enough
  length-each : (c : ℕ) (l : List A) (k : List ℕ) → length l ≤ length (each (λ a. c ∷ p a) l ++ k)
  unfolding each
  length-each c [] k = omega arith
  length-each c (a ∷ l) k =
      let items = each (λ a. c ∷ p a) l in
      omega (arith, ap length (append_assoc (p a) items k), length-append (p a) (items ++ k), length-each c l k)

  pub many-inverse : (c : ℕ) (cs : List ℕ) → Inverse (c ∷ cs) (all h) (each (λ a. c ∷ p a)) (many c r)
  many-inverse c cs =
      record {
        forth = λ l k t u. at_most_forth (length (each (λ a. c ∷ p a) l ++ k)) c l k (length-each c l k) t (both_pass (not (begins c k)) (clear cs k) u).0;
        back = λ bs l k t e. at_most_back (length bs) c bs l k t e;
      }

module _ {A : Type 0} {cs : List ℕ} {h : A → Bool} {p : A → List ℕ} {r : Reader A} where
  pub behind_inverse : Inverse cs h p r → (c : ℕ) → Inverse cs h (λ a. c ∷ p a) (behind c r)
  unfolding behind
  behind_inverse i c =
      record {
        forth = λ a k t u. rw (eq-eqb c c refl, behind) (i.forth a k t u);
        back = λ bs a k t e. go bs a k t e;
      }
    where
      yes_or_none : (x : Bool) (o : Option (A × List ℕ)) (y : A × List ℕ) → (elim x as (λ z. Option (A × List ℕ)) [ true ↦ o | false ↦ none ]) ≡ some y → (x ≡ true) × (o ≡ some y)
      yes_or_none true o y e = (refl, e)
      yes_or_none false o y e = absurd (none-ne-some y e)

      go : (bs : List ℕ) (a : A) (k : List ℕ) → T (are_bytes bs) → behind c r bs ≡ some (a, k) → T (h a) × (c ∷ p a ++ k ≡ bs)
      go [] a k t e = absurd (none-ne-some (a, k) e)
      go (b ∷ bs) a k t e =
          let (command, e₁) = yes_or_none (eqb b c) (r bs) (a, k) e in
          let (t₁, q₁) = i.back bs a k (both_pass (ltb b 256) (are_bytes bs) t).1 e₁ in
          (t₁, λ j. sym (eqb-true b c command) j ∷ q₁ j)

pub alone-inverse : (c : ℕ) → Inverse [] (λ (x : Unit {0}). true) (λ x. c ∷ []) (alone c)
alone-inverse c = behind_inverse (record { forth = λ x k t u. refl; back = λ bs x k t e. (tt, sym (same_read e).1) }) c

module _ {A : Type 0} {cs : List ℕ} {h : A → Bool} {p : A → List ℕ} {r : Reader A} where
  pub closed-inverse : Inverse cs h p r → (c : ℕ) → ((k : List ℕ) → T (clear cs (c ∷ k))) → Inverse [] h (λ a. p a ++ (c ∷ [])) (closed r c)
  unfolding closed
  closed-inverse i c fresh =
      record {
        forth = λ a k t u. mapped_forth (λ x. x.0) (r then alone c) (joined.forth (a, tt) k (pass_both (h a) true t tt) u);
        back = λ bs a k t e.
            let (x, value, read) = mapped_back (λ x. x.0) (r then alone c) bs e in
            let (t₁, q₁) = joined.back bs x k t read in
            rw (← value) ((both_pass (h x.0) true t₁).0, q₁);
      }
    where
      joined : Inverse [] (λ (x : A × Unit {0}). h x.0 && true) (λ x. p x.0 ++ (c ∷ [])) (r then alone c)
      joined = then_inverse i (alone-inverse c) (λ x k u. fresh k)

module _ {A B : Type 0} {cs : List ℕ} {h : A → Bool} {p : A → List ℕ} {r : Reader A} {h' : B → Bool} {p' : B → List ℕ} {r' : Reader B} where
  -- a run of items behind what has been read: from now on their command may not follow
  pub many-after : Inverse cs h p r → Inverse [] h' p' r' → (c : ℕ) → ((k : List ℕ) → T (clear cs (c ∷ k))) → Inverse (c ∷ cs) (λ (x : A × List B). h x.0 && all h' x.1) (λ x. p x.0 ++ each (λ b. c ∷ p' b) x.1) (r then many c r')
  unfolding each
  many-after i j c fresh = then_inverse i (many-inverse j c cs) apart
    where
      apart : (l : List B) (k : List ℕ) → T (clear (c ∷ cs) k) → T (clear cs (each (λ b. c ∷ p' b) l ++ k))
      apart [] k u = (both_pass (not (begins c k)) (clear cs k) u).1
      apart (b ∷ l) k u = fresh (p' b ++ each (λ b. c ∷ p' b) l ++ k)
