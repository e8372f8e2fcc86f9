-- A union-find: each site has a parent that is not after it, and a root is its own parent. Sites of one root are
-- joined.
use Prim.Native.Nat.{ℕ, zero, suc, ◌+◌, ◌≤◌, ◌<◌}
use Rattle.std.specs.Prelude.{◌≡◌, refl, Bool, true, false, List, ◌⊎◌, length, set, eqb}
use Rattle.std.proofs.Math.Path.{sym}
use Rattle.std.proofs.Common.{ap, ◌∙◌, subst, inl, inr, ⊎_elim, arith, not-suc-le-zero, le_of_suc-le-suc, eq-or-lt_of_le, add-one, below_more, eqb-true, length-set, get_or-set_same, get_or-set_other}
use mathlib.Core.List.Memᴰ
use Rattle.std.proofs.lemmas.Bool.{eqb-false}
use Rattle.std.proofs.Math.ListN.{get_or}
use Rattle.definitions.specs.Lists.{up_from, up_to}
use Rattle.definitions.specs.Permutation.{permutation_at}
use Rattle.definitions.specs.Lent.{permutations_of}
use Rattle.definitions.specs.Orbit.{Step, Joined, none, forth, back}
use Rattle.laws.specs.Lists.{length-up_from, up_to_at, in_up_to, from_up_to, in_map, from_map}
use Rattle.base_cell.specs.Joined.{joined_step, joined_sym}
use Rattle.base_cell.specs.Classes.{replaced, replaced_is, replaced_not, replaced_into, replaced_sound, Decides}

-- the parents of n sites
pub record Forest (n : ℕ) (par : List ℕ) : Type 0 where
  pub size : length par ≡ n
  pub down : (i : ℕ) → i < n → get_or par i 0 ≤ i

unfoldable pub climb : List ℕ → ℕ → ℕ → ℕ
climb par zero i = i
climb par (suc k) i = climb par k (get_or par i 0)

-- the end of the way up, which has no more steps than there are sites
unfoldable pub root : List ℕ → ℕ → ℕ
unfolding climb
root par i = climb par (length par) i

-- for each site its root
abbrev pub Flat : ℕ → List ℕ → List ℕ → Type 0
Flat n par flat = (i : ℕ) → i < n → get_or flat i 0 ≡ root par i

-- ---- the way up

climb_top : (par : List ℕ) (i k : ℕ) → get_or par i 0 ≡ i → climb par k i ≡ i
unfolding climb
climb_top par i zero e = refl
climb_top par i (suc k) e = subst (λ j. climb par k j ≡ i) (sym e) (climb_top par i k e)

pub root_top : (par : List ℕ) (i : ℕ) → get_or par i 0 ≡ i → root par i ≡ i
unfolding root
root_top par i e = climb_top par i (length par) e

module _ {n : ℕ} {par : List ℕ} (f : Forest n par) where
  -- what holds of a root, and of a site where it holds of its parent, holds of every site
  up_ind :
      (P : ℕ → Type 0) → ((i : ℕ) → get_or par i 0 ≡ i → P i) → ((i : ℕ) → i < n → get_or par i 0 < i → P (get_or par i 0) → P i) →
      (i : ℕ) → i < n → P i
  up_ind P top up i h = go i i (omega arith) h
    where
      -- a root or a site with an earlier parent
      by : (i : ℕ) → i < n → (get_or par i 0 < i → P (get_or par i 0)) → (t : Bool) → eqb (get_or par i 0) i ≡ t → P i
      by i h rest true e = top i (eqb-true (get_or par i 0) i e)
      by i h rest false e =
          let ne = eqb-false (get_or par i 0) i e in
          let less : get_or par i 0 < i = omega (arith, f.down i h) in
          up i h less (rest less)

      go : (k i : ℕ) → i ≤ k → i < n → P i
      go zero i hk h = top i (omega (arith, f.down i h))
      go (suc k) i hk h = by i h (λ less. go k (get_or par i 0) (omega arith) (omega arith)) (eqb (get_or par i 0) i) refl

  -- more steps than there are sites before it change nothing
  one_more : (i : ℕ) → i < n → (k : ℕ) → i ≤ k → climb par (suc k) i ≡ climb par k i
  unfolding climb
  one_more =
      up_ind
      (λ i. (k : ℕ) → i ≤ k → climb par (suc k) i ≡ climb par k i)
      (λ i e k h. climb_top par i (suc k) e ∙ sym (climb_top par i k e))
      up
    where
      up :
          (i : ℕ) → i < n → get_or par i 0 < i → ((k : ℕ) → get_or par i 0 ≤ k → climb par (suc k) (get_or par i 0) ≡ climb par k (get_or par i 0)) →
          (k : ℕ) → i ≤ k → climb par (suc k) i ≡ climb par k i
      up i h less rest zero hk = absurd (omega arith)
      up i h less rest (suc k) hk = rest k (omega arith)

  pub root_up : (i : ℕ) → i < n → root par i ≡ root par (get_or par i 0)
  unfolding root climb
  root_up i h = go (length par) (omega (arith, f.size))
    where
      go : (m : ℕ) → i < m → climb par m i ≡ climb par m (get_or par i 0)
      go zero hm = absurd (not-suc-le-zero hm)
      go (suc m) hm = sym (one_more (get_or par i 0) (omega (arith, f.down i h)) m (omega (arith, f.down i h)))

  -- a root is its own parent
  pub root-root : (i : ℕ) → i < n → get_or par (root par i) 0 ≡ root par i
  root-root =
      up_ind
      (λ i. get_or par (root par i) 0 ≡ root par i)
      (λ i e. subst (λ r. get_or par r 0 ≡ r) (sym (root_top par i e)) e)
      (λ i h less rest. subst (λ r. get_or par r 0 ≡ r) (sym (root_up i h)) rest)

  pub root_le : (i : ℕ) → i < n → root par i ≤ i
  root_le =
      up_ind
      (λ i. root par i ≤ i)
      (λ i e. omega (arith, root_top par i e))
      (λ i h less rest. omega (arith, root_up i h, rest))

  pub root_below : (i : ℕ) → i < n → root par i < n
  root_below i h = omega (arith, root_le i h)

-- ---- the root b under the root s

module _ {n : ℕ} {par : List ℕ} (f : Forest n par)
    (b s : ℕ) (hb : b < n) (top-b : get_or par b 0 ≡ b) (top-s : get_or par s 0 ≡ s) (order : s ≤ b) where
  at_b : get_or (set par b s) b 0 ≡ s
  at_b = get_or-set_same par b s 0 (omega (arith, f.size))

  -- another site keeps its parent
  other : (x : ℕ) → (x ≡ b → ⊥) → get_or (set par b s) x 0 ≡ get_or par x 0
  other x ne = get_or-set_other par b x s 0 ne

  under_forest : Forest n (set par b s)
  under_forest = record { size = length-set par b s ∙ f.size; down = λ i h. down i h (eqb i b) refl }
    where
      down : (i : ℕ) → i < n → (t : Bool) → eqb i b ≡ t → get_or (set par b s) i 0 ≤ i
      down i h true e = let q = eqb-true i b e in rw q (omega (arith, at_b))
      down i h false e = omega (arith, other i (eqb-false i b e), f.down i h)

  top_under : get_or (set par b s) s 0 ≡ s
  top_under = by (eqb s b) refl
    where
      by : (t : Bool) → eqb s b ≡ t → get_or (set par b s) s 0 ≡ s
      by true e = let q = eqb-true s b e in ap (λ x. get_or (set par b s) x 0) q ∙ at_b
      by false e = other s (eqb-false s b e) ∙ top-s

  under_root : (x : ℕ) → x < n → root (set par b s) x ≡ replaced b s (root par x)
  under_root = up_ind f (λ x. root (set par b s) x ≡ replaced b s (root par x)) (λ x e. top x e (eqb x b) refl) up
    where
      top : (x : ℕ) → get_or par x 0 ≡ x → (t : Bool) → eqb x b ≡ t → root (set par b s) x ≡ replaced b s (root par x)
      top x e true q =
          let same = eqb-true x b q in
          rw same
          (root_up under_forest b hb
          ∙ ap (root (set par b s)) at_b
          ∙ root_top (set par b s) s top_under
          ∙ sym (replaced_is b s (root par b) (root_top par b top-b)))
      top x e false q =
          root_top (set par b s) x (other x (eqb-false x b q) ∙ e)
          ∙ sym (ap (replaced b s) (root_top par x e) ∙ replaced_not b s x q)

      up :
          (x : ℕ) → x < n → get_or par x 0 < x → root (set par b s) (get_or par x 0) ≡ replaced b s (root par (get_or par x 0)) →
          root (set par b s) x ≡ replaced b s (root par x)
      up x h less rest =
          root_up under_forest x h
          ∙ ap (root (set par b s)) (other x (λ q. omega (arith, less, q, ap (λ y. get_or par y 0) q, top-b)))
          ∙ rest
          ∙ ap (replaced b s) (sym (root_up f x h))

-- ---- a site directly under its root

module _ {n : ℕ} {par : List ℕ} (f : Forest n par) (i : ℕ) (hi : i < n) where
  at_i : get_or (set par i (root par i)) i 0 ≡ root par i
  at_i = get_or-set_same par i (root par i) 0 (omega (arith, f.size))

  -- another site keeps its parent
  not_i : (x : ℕ) → (x ≡ i → ⊥) → get_or (set par i (root par i)) x 0 ≡ get_or par x 0
  not_i x ne = get_or-set_other par i x (root par i) 0 ne

  short_forest : Forest n (set par i (root par i))
  short_forest = record { size = length-set par i (root par i) ∙ f.size; down = λ x h. down x h (eqb x i) refl }
    where
      down : (x : ℕ) → x < n → (t : Bool) → eqb x i ≡ t → get_or (set par i (root par i)) x 0 ≤ x
      down x h true e = let q = eqb-true x i e in rw q (omega (arith, at_i, root_le f i hi))
      down x h false e = omega (arith, not_i x (eqb-false x i e), f.down x h)

  -- a root stays one
  top_stays : (x : ℕ) → get_or par x 0 ≡ x → get_or (set par i (root par i)) x 0 ≡ x
  top_stays x e = by (eqb x i) refl
    where
      by : (t : Bool) → eqb x i ≡ t → get_or (set par i (root par i)) x 0 ≡ x
      by true q = let same = eqb-true x i q in rw same (at_i ∙ root_top par i (rw same at e))
      by false q = not_i x (eqb-false x i q) ∙ e

  short-root : (x : ℕ) → x < n → root (set par i (root par i)) x ≡ root par x
  short-root =
      up_ind f (λ x. root (set par i (root par i)) x ≡ root par x)
      (λ x e. root_top (set par i (root par i)) x (top_stays x e) ∙ sym (root_top par x e))
      (λ x h less rest. up x h rest (eqb x i) refl)
    where
      up :
          (x : ℕ) → x < n → root (set par i (root par i)) (get_or par x 0) ≡ root par (get_or par x 0) → (t : Bool) →
          eqb x i ≡ t → root (set par i (root par i)) x ≡ root par x
      up x h rest true e =
          let q = eqb-true x i e in
          rw q
          (root_up short_forest i hi
          ∙ ap (root (set par i (root par i))) at_i
          ∙ root_top (set par i (root par i)) (root par i) (top_stays (root par i) (root-root f i hi)))
      up x h rest false e =
          root_up short_forest x h
          ∙ ap (root (set par i (root par i))) (not_i x (eqb-false x i e))
          ∙ rest
          ∙ sym (root_up f x h)

-- ---- trees that are joined

-- sites of one root are joined by the permutations ps
abbrev pub OnlyJoined : ℕ → List (List ℕ) → List ℕ → Type 0
OnlyJoined n ps par = (x y : ℕ) → x < n → y < n → root par x ≡ root par y → Joined ps x y

-- The trees b are the trees a with the sites joined that R says, which are sites of theirs, and no others.
pub record Linked (n : ℕ) (R : ℕ → ℕ → Type 0) (a b : List ℕ) : Type 0 where
  pub forest : Forest n b
  pub within : (x y : ℕ) → R x y → (x < n) × (y < n)
  pub keeps : (x y : ℕ) → x < n → y < n → root a x ≡ root a y → root b x ≡ root b y
  pub joins : (x y : ℕ) → x < n → y < n → R x y → root b x ≡ root b y
  pub least :
      (ps : List (List ℕ)) → OnlyJoined n ps a → ((x y : ℕ) → x < n → y < n → R x y → Joined ps x y) → OnlyJoined n ps b

-- the two sites i and j
abbrev pub Pair : ℕ → ℕ → ℕ → ℕ → Type 0
Pair i j x y = (x ≡ i) × (y ≡ j)

-- each site before k and its image
abbrev pub Upto : List ℕ → ℕ → ℕ → ℕ → Type 0
Upto p k x y = (x < k) × (get_or p x 0 ≡ y)

-- each site and its image
abbrev pub Along : List ℕ → ℕ → ℕ → Type 0
Along p = Upto p (length p)

-- the root of i under that of j
pub linked_under :
    {n : ℕ} {par : List ℕ} → Forest n par → (i j : ℕ) → i < n → j < n → root par j ≤ root par i →
    Linked n (Pair i j) par (set par (root par i) (root par j))
linked_under {n} {par} f i j hi hj order =
    record {
      forest = under_forest f b s hb (root-root f i hi) (root-root f j hj) order;
      within = λ x y p. (rw p.0 hi, rw p.1 hj);
      keeps = λ x y hx hy e. moved x hx ∙ ap (replaced b s) e ∙ sym (moved y hy);
      joins = joins;
      least =
          λ ps only given x y hx hy e.
          replaced_sound n ps (root par) only i j hi hj (given i j hi hj (refl, refl)) x y hx hy
          (sym (moved x hx) ∙ e ∙ moved y hy);
    }
  where
    b : ℕ
    b = root par i

    s : ℕ
    s = root par j

    hb : b < n
    hb = root_below f i hi

    after : List ℕ
    after = set par b s

    moved : (x : ℕ) → x < n → root after x ≡ replaced b s (root par x)
    moved = under_root f b s hb (root-root f i hi) (root-root f j hj) order

    joins : (x y : ℕ) → x < n → y < n → Pair i j x y → root after x ≡ root after y
    joins x y hx hy (p, q) =
        rw (p, q) (moved i hi ∙ replaced_is b s b refl ∙ sym (replaced_into b s) ∙ sym (moved j hj))

-- a site directly under its root, which is s
pub linked_short :
    {n : ℕ} {R : ℕ → ℕ → Type 0} {a b : List ℕ} → Linked n R a b → (i s : ℕ) → i < n → root b i ≡ s →
    Linked n R a (set b i s)
linked_short {n} {R} {a} {b} l i s hi e =
    subst
    (λ r. Linked n R a (set b i r))
    e
    (record {
      forest = short_forest f i hi;
      within = l.within;
      keeps = λ x y hx hy e. same x hx ∙ l.keeps x y hx hy e ∙ sym (same y hy);
      joins = λ x y hx hy r. same x hx ∙ l.joins x y hx hy r ∙ sym (same y hy);
      least = λ ps only given x y hx hy e. l.least ps only given x y hx hy (sym (same x hx) ∙ e ∙ same y hy);
    })
  where
    f : Forest n b
    f = l.forest

    same : (x : ℕ) → x < n → root (set b i (root b i)) x ≡ root b x
    same = short-root f i hi

-- the root of i under that of j, then both sites directly under it
pub linked_pair :
    {n : ℕ} {par : List ℕ} → Forest n par → (i j : ℕ) → i < n → j < n → root par j ≤ root par i →
    Linked n (Pair i j) par (set (set (set par (root par i) (root par j)) i (root par j)) j (root par j))
linked_pair {n} {par} f i j hi hj order =
    linked_short (linked_short under i s hi (moved i hi ∙ replaced_is b s b refl)) j s hj
    (short_is ∙ moved j hj ∙ replaced_into b s)
  where
    b : ℕ
    b = root par i

    s : ℕ
    s = root par j

    under : Linked n (Pair i j) par (set par b s)
    under = linked_under f i j hi hj order

    moved : (x : ℕ) → x < n → root (set par b s) x ≡ replaced b s (root par x)
    moved = under_root f b s (root_below f i hi) (root-root f i hi) (root-root f j hj) order

    short_is : root (set (set par b s) i s) j ≡ root (set par b s) j
    short_is =
        subst (λ r. root (set (set par b s) i r) j ≡ root (set par b s) j) (moved i hi ∙ replaced_is b s b refl)
        (short-root under.forest i hi j hj)

-- sites of one parent are of one tree
pub linked_already :
    {n : ℕ} {par : List ℕ} → Forest n par → (i j : ℕ) → i < n → j < n → get_or par i 0 ≡ get_or par j 0 →
    Linked n (Pair i j) par par
linked_already {n} {par} f i j hi hj e =
    record {
      forest = f;
      within = λ x y p. (rw p.0 hi, rw p.1 hj);
      keeps = λ x y hx hy e. e;
      joins = λ x y hx hy p. rw (p.0, p.1) (root_up f i hi ∙ ap (root par) e ∙ sym (root_up f j hj));
      least = λ ps only given. only;
    }

pub linked_flip : {n i j : ℕ} {a b : List ℕ} → Linked n (Pair j i) a b → Linked n (Pair i j) a b
linked_flip l =
    record {
      forest = l.forest;
      within = λ x y p. let (hy, hx) = l.within y x (p.1, p.0) in (hx, hy);
      keeps = l.keeps;
      joins = λ x y hx hy p. sym (l.joins y x hy hx (p.1, p.0));
      least = λ ps only given. l.least ps only (λ x y hx hy p. joined_sym (given y x hy hx (p.1, p.0)));
    }

pub linked_none : {n : ℕ} {R : ℕ → ℕ → Type 0} {a : List ℕ} → Forest n a → ((x y : ℕ) → R x y → ⊥) → Linked n R a a
linked_none f empty =
    record {
      forest = f;
      within = λ x y r. absurd (empty x y r);
      keeps = λ x y hx hy e. e;
      joins = λ x y hx hy r. absurd (empty x y r);
      least = λ ps only given. only;
    }

-- one after the other: U is what R or S says
pub linked_then :
    {n : ℕ} {R S U : ℕ → ℕ → Type 0} {a b c : List ℕ} → Linked n R a b → Linked n S b c →
    ((x y : ℕ) → U x y → R x y ⊎ S x y) → ((x y : ℕ) → R x y → U x y) → ((x y : ℕ) → S x y → U x y) → Linked n U a c
linked_then l m split left right =
    record {
      forest = m.forest;
      within = λ x y u. ⊎_elim (l.within x y) (m.within x y) (split x y u);
      keeps = λ x y hx hy e. m.keeps x y hx hy (l.keeps x y hx hy e);
      joins = λ x y hx hy u. ⊎_elim (λ r. m.keeps x y hx hy (l.joins x y hx hy r)) (m.joins x y hx hy) (split x y u);
      least =
          λ ps only given.
          m.least ps (l.least ps only (λ x y hx hy r. given x y hx hy (left x y r))) (λ x y hx hy s. given x y hx hy (right x y s));
    }

-- ---- from each site by itself to all the steps of the permutations

pub alone_forest : (n : ℕ) → Forest n (up_to n)
alone_forest n = record { size = length-up_from 0 n; down = λ i h. omega (arith, up_to_at n i h) }

-- the roots decide what the permutations join
pub roots_decide :
    (n : ℕ) (ps : List (List ℕ)) (par flat : List ℕ) → Linked n (Step ps) (up_to n) par → Flat n par flat →
    Decides n ps flat
roots_decide n ps par flat l is x y hx hy = (
  λ e. l.least ps alone (λ x y hx hy s. joined_step s) x y hx hy (sym (is x hx) ∙ e ∙ is y hy),
  λ r. is x hx ∙ same r ∙ sym (is y hy),
)
  where
    alone : OnlyJoined n ps (up_to n)
    alone x y hx hy e =
        let q : x ≡ y = sym (root_top (up_to n) x (up_to_at n x hx)) ∙ e ∙ root_top (up_to n) y (up_to_at n y hy) in
        subst (Joined ps x) q none

    same : {x y : ℕ} → Joined ps x y → root par x ≡ root par y
    same none = refl
    same (forth {i} {j} s r) = let (hi, hj) = l.within i j s in l.joins i j hi hj s ∙ same r
    same (back {i} {j} s r) = let (hj, hi) = l.within j i s in sym (l.joins j i hj hi s) ∙ same r

-- ---- the permutations of a list, one behind the other

module _ (n : ℕ) (images : List ℕ) where
  pub steps_none : (x y : ℕ) → Step (permutations_of n 0 images) x y → ⊥
  unfolding up_from
  steps_none x y s = Memᴰ.not-nil s.listed

  step_at : (k o x y : ℕ) → o < k → Along (permutation_at n images o) x y → Step (permutations_of n k images) x y
  step_at k o x y h a =
      record {
        permutation = permutation_at n images o;
        listed = in_map (permutation_at n images) (up_to k) o (in_up_to k o h);
        within = a.0;
        to = a.1;
      }

  from_step : (k x y : ℕ) → Step (permutations_of n k images) x y → (o : ℕ) × (o < k) × Along (permutation_at n images o) x y
  from_step k x y s =
      let r = from_map (permutation_at n images) (up_to k) s.permutation s.listed in
      (r.0, from_up_to k r.0 r.1, subst (λ p. Along p x y) r.2 (s.within, s.to))

  -- the permutation k, after those before it
  pub linked_permutation :
      {m : ℕ} {a b c : List ℕ} (k : ℕ) → Linked m (Step (permutations_of n k images)) a b → Linked m (Along (permutation_at n images k)) b c →
      Linked m (Step (permutations_of n (k + 1) images)) a c
  linked_permutation k l m = linked_then l m split left (λ x y a. step_at (k + 1) k x y (omega arith) a)
    where
      split : (x y : ℕ) → Step (permutations_of n (k + 1) images) x y → Step (permutations_of n k images) x y ⊎ Along (permutation_at n images k) x y
      split x y s =
          let (o, h, a) = from_step (k + 1) x y s in
          ⊎_elim
          (λ e. inr (subst (λ q. Along (permutation_at n images q) x y) e a))
          (λ l. inl (step_at k o x y l a))
          (eq-or-lt_of_le (le_of_suc-le-suc (subst (λ q. o < q) (add-one k) h)))

      left : (x y : ℕ) → Step (permutations_of n k images) x y → Step (permutations_of n (k + 1) images) x y
      left x y s = let (o, h, a) = from_step k x y s in step_at (k + 1) o x y (omega arith) a

-- the site k and its image, after those before it
pub linked_site :
    {n : ℕ} {a b c : List ℕ} (p : List ℕ) (k : ℕ) → Linked n (Upto p k) a b → Linked n (Pair k (get_or p k 0)) b c → Linked n (Upto p (k + 1)) a c
linked_site p k l m = linked_then l m split (λ x y u. (omega (arith, u.0), u.1)) right
  where
    split : (x y : ℕ) → Upto p (k + 1) x y → Upto p k x y ⊎ Pair k (get_or p k 0) x y
    split x y (h, e) =
        ⊎_elim
        (λ q. inr (q, sym e ∙ ap (λ i. get_or p i 0) q))
        (λ l. inl (l, e))
        (eq-or-lt_of_le (le_of_suc-le-suc (subst (λ q. x < q) (add-one k) h)))

    right : (x y : ℕ) → Pair k (get_or p k 0) x y → Upto p (k + 1) x y
    right x y (q, e) = (omega arith, ap (λ i. get_or p i 0) q ∙ sym e)

-- ---- flattened in one pass: before i each site has its root, from i on its parent

module _ {n : ℕ} {par : List ℕ} (f : Forest n par) (cur : List ℕ) (i : ℕ) (hi : i < n) (size : length cur ≡ n)
    (flat : (k : ℕ) → k < i → get_or cur k 0 ≡ root par k) (rest : (k : ℕ) → i ≤ k → get_or cur k 0 ≡ get_or par k 0) where
  parent_root : (up : ℕ) → up ≡ get_or cur i 0 → get_or cur up 0 ≡ root par i
  parent_root up e = by (eqb up i) refl
    where
      is : up ≡ get_or par i 0
      is = e ∙ rest i (omega arith)

      by : (t : Bool) → eqb up i ≡ t → get_or cur up 0 ≡ root par i
      by true q =
          let same = eqb-true up i q in
          ap (λ k. get_or cur k 0) same ∙ sym e ∙ same ∙ sym (root_top par i (sym is ∙ same))
      by false q =
          let ne = eqb-false up i q in
          let less : up < i = omega (arith, f.down i hi, is) in
          flat up less ∙ ap (root par) is ∙ sym (root_up f i hi)

  pub flat_more : (up : ℕ) → up ≡ get_or cur i 0 → (k : ℕ) → k < i + 1 → get_or (set cur i (get_or cur up 0)) k 0 ≡ root par k
  flat_more up e =
      below_more
      (λ k. get_or (set cur i (get_or cur up 0)) k 0 ≡ root par k)
      i
      (λ k h. get_or-set_other cur i k (get_or cur up 0) 0 (λ q. omega arith) ∙ flat k h)
      (get_or-set_same cur i (get_or cur up 0) 0 (omega arith) ∙ parent_root up e)

  pub flat_rest : (v k : ℕ) → i + 1 ≤ k → get_or (set cur i v) k 0 ≡ get_or par k 0
  flat_rest v k h = get_or-set_other cur i k v 0 (λ q. omega arith) ∙ rest k (omega arith)
