-- A stage pass by pass, and a run stage by stage.
use Prim.Native.Nat.{ℕ, suc, zero, ◌+◌, ◌≤◌, ◌<◌, zero-le}
use mathlib.Core.Path.{◌≡◌, refl, ap, ◌∙◌, subst}
use mathlib.Core.Bool.{Bool, true, false, cond, ◌&&◌, false≢true}
use mathlib.Core.List.{List, [], ◌∷◌, ◌++◌, append_assoc}
use mathlib.Core.Option.{Option, none, some}
use native.Mathlib.Omega.{arith}
use Rattle.std.proofs.Common.{add-zero}
use lib.Dec.{lit<}
use lib.ListN.{length, length-append}
use lib.IntN.{ℤ}
use Rattle.definitions.specs.declared.Stages.{Stages}
use Rattle.definitions.specs.Lists.{all, each}
use Rattle.definitions.specs.Matrix.{Matrix}
use Rattle.definitions.specs.Snf.{State, Place, Stage, empty, last, again, start, size_at, pivot, pass, all_small, begun}
use Rattle.definitions.specs.Limits.{small}
use Rattle.math_snf_laws.specs.Steps.{In, i00, i11, i22}
use Rattle.math_snf_laws.specs.Pivot.{chosen}
use Rattle.math_snf_laws.specs.Reduced.{falls}
use Rattle.math_snf_laws.specs.Stages.{most, stage-passes, stage_found}
use Rattle.math_snf_laws.specs.Begun.{small_append, small_one, small_cons, begun-append, begun_one, begun_left}
use Rattle.std.specs.Prelude.{Some, None}
use Rattle.math_snf.specs.declared.Grade.{Grade}
use Rattle.math_snf.specs.declared.Grade.TheVariants.{Idle, Cleared, Strayed}
use Rattle.math_snf.specs.Step.{Passed, most_passes, EndedIn, RanIn, LeftIn}

-- ---- every stage ends

stage_of : (s : ℕ) → s < 3 → In s s
stage_of zero h = i00
stage_of (suc zero) h = i11
stage_of (suc (suc zero)) h = i22
stage_of (suc (suc (suc s))) h = absurd (omega arith)

-- what falls from pass to pass: one more than the pivot's magnitude where the next pass updates, and otherwise 0
abbrev due : ℕ → State → Option Place → ℕ
due s t none = 0
due s t (some p) = cond (pass s p t).updated (suc (size_at t.d p)) 0

due_falls : (s : ℕ) → s < 3 → (t : State) (p : Place) → pivot s t.d ≡ some p → due s (pass s p t).state (pivot s (pass s p t).state.d) ≤ size_at t.d p
due_falls s h t p e = by (pivot s (pass s p t).state.d) refl
  where
    i : In s s
    i = stage_of s h

    u : State
    u = (pass s p t).state

    at_pivot : (q : Place) → pivot s u.d ≡ some q → (b : Bool) → (pass s q u).updated ≡ b → cond b (suc (size_at u.d q)) 0 ≤ size_at t.d p
    at_pivot q f true c = falls s p t (chosen t.d p i e) q (chosen u.d q i f) c
    at_pivot q f false c = zero-le

    by : (o : Option Place) → pivot s u.d ≡ o → due s u o ≤ size_at t.d p
    by none f = zero-le
    by (some q) f = at_pivot q f (pass s q u).updated refl

-- ---- the loop of a stage

-- the first pivot of the stage s from t allows few passes
abbrev Few : ℕ → State → Type 0
Few s t = most t.d (pivot s t.d) ≤ most_passes

-- The stage s, which began at t₀, goes on from t as it would from t₀, and what it has assigned in n passes is in range.
pub record Going (s : ℕ) (t₀ : State) (n : ℕ) (t : State) : Type 0 where
  pub done : List (List ℤ)
  pub is_in_range : all_small done ≡ true
  pub counted : length done ≡ n
  pub few : Few s t → Few s t₀
  pub on : (rest : List (List ℤ)) (u : State) → Stage s t rest u → Stage s t₀ (done ++ rest) u

-- the stage that has come in n passes, the last of the grade g, to the state t: it goes on, or it has ended
abbrev pub At : ℕ → State → Grade → ℕ → State → Type 0
At s t₀ Idle n t = EndedIn s t₀ true n t
At s t₀ Cleared n t = Going s t₀ n t
At s t₀ Strayed n t = EndedIn s t₀ false n t

pub at_start : (s : ℕ) (t : State) → Going s t 0 t
unfolding all each
at_start s t = record { done = []; is_in_range = refl; counted = refl; few = λ h. h; on = λ rest u x. x }

-- what is left for a stage to do
abbrev pub left : ℕ → State → ℕ
left s t = due s t (pivot s t.d)

module _ (s : ℕ) (low : s < 3) (t₀ t : State) (n : ℕ) (g : Going s t₀ n t) (h : Few s t) where
  pub passes_few : n ≤ most_passes
  passes_few =
      let r = stage_found (stage_of s low) t in
      let a = stage-passes (stage_of s low) (g.on r.0 r.1 r.2) in
      omega (arith, length-append g.done r.0, g.counted, g.few h)

  -- some more passes, and the end
  over : (rest : List (List ℤ)) (u t' : State) (c : Bool) (k : ℕ) → Stage s t rest u → all_small rest ≡ c → begun rest ≡ k → (c ≡ true → t' ≡ u) → EndedIn s t₀ c (n + k) t'
  over rest u t' c k st f e same =
      record {
        ended = record {
          assigned = g.done ++ rest;
          «end» = u;
          stage = g.on rest u st;
          is_in_range = small_append g.done rest ∙ rw g.is_in_range f;
          same_state = same;
        };
        counted = begun-append g.done rest g.is_in_range ∙ rw (g.counted, e) refl;
      }

  more : (p : Place) → pivot s t.d ≡ some p → (pass s p t).updated ≡ true → all small (pass s p t).assigned ≡ true → Going s t₀ (n + 1) (pass s p t).state
  more p e c f =
      record {
        done = g.done ++ ((pass s p t).assigned ∷ []);
        is_in_range = small_append g.done ((pass s p t).assigned ∷ []) ∙ rw (g.is_in_range, small_one (pass s p t).assigned, f);
        counted = length-append g.done ((pass s p t).assigned ∷ []) ∙ rw g.counted refl;
        few = λ k. g.few h;
        on = λ rest u x. rw (append_assoc g.done ((pass s p t).assigned ∷ []) rest) (g.on ((pass s p t).assigned ∷ rest) u (again p e c x));
      }

  -- Where a pass leaves the range the stage goes on, over whole numbers, to some end.
  graded_at : (p : Place) → pivot s t.d ≡ some p → (b c : Bool) → all small (pass s p t).assigned ≡ b → (pass s p t).updated ≡ c → (t' : State) → (b ≡ true → t' ≡ (pass s p t).state) → At s t₀ (cond b (cond c Cleared Idle) Strayed) (n + 1) t'
  graded_at p e true true f c t' k = rw (k refl) (more p e c f)
  graded_at p e true false f c t' k = over ((pass s p t).assigned ∷ []) (pass s p t).state t' true 1 (last p e c) (small_one (pass s p t).assigned ∙ f) (begun_one (pass s p t).assigned) k
  graded_at p e false true f c t' k =
      let r = stage_found (stage_of s low) (pass s p t).state in
      over ((pass s p t).assigned ∷ r.0) r.1 t' false 1 (again p e c r.2) (small_cons (pass s p t).assigned r.0 ∙ rw f) (begun_left (pass s p t).assigned r.0 f) (λ z. absurd (false≢true z))
  graded_at p e false false f c t' k = over ((pass s p t).assigned ∷ []) (pass s p t).state t' false 1 (last p e c) (small_one (pass s p t).assigned ∙ f) (begun_one (pass s p t).assigned) k

  -- A pass of the code takes the stage on,
  pub at_next : (i : Grade) (t' : State) → Passed s t (Some i) t' → At s t₀ i (n + 1) t'
  at_next i t' w =
      let p = w.0 in
      let r = w.2 in
      rw r.same-grade (graded_at p w.1 (all small (pass s p t).assigned) (pass s p t).updated refl refl t' r.same_state)

  -- or finds no pivot.
  pub at_none : (t' : State) → Passed s t None t' → EndedIn s t₀ true n t'
  unfolding all each begun
  at_none t' w = subst (λ (k : ℕ). EndedIn s t₀ true k t') (add-zero n) (over [] t t' true 0 (empty w.0) refl refl (λ _. w.1))

module _ (s : ℕ) (low : s < 3) (t : State) where
  -- and leaves less of it
  pub left_falls : (t' : State) → Passed s t (Some Cleared) t' → left s t' < left s t
  left_falls t' w = pick (all small (pass s w.0 t).assigned) (pass s w.0 t).updated refl w.2.same-grade w.2.same_state
    where
      p : Place
      p = w.0

      pick : (b c : Bool) → (pass s p t).updated ≡ c → Cleared ≡ cond b (cond c Cleared Idle) Strayed → (b ≡ true → t' ≡ (pass s p t).state) → left s t' < left s t
      pick true true c g k = rw (k refl, w.1, c) (omega (arith, due_falls s low t p w.1))
      pick true false c g k = absurd (cc)
      pick false u c g k = absurd (cc)

-- ---- the three stages

-- The next stage, of the code from t and by its definition from u, where the one before came to u.
record Follows (s : ℕ) (u : State) (b c : Bool) (n : ℕ) (t' : State) : Type 0 where
  assigned : List (List ℤ)
  «end» : State
  stage : Stage s u assigned «end»
  is_in_range : (b && all_small assigned) ≡ (b && c)
  counted : cond b (begun assigned) 0 ≡ cond b n 0
  same_state : (b && c) ≡ true → t' ≡ «end»

follow : (s : ℕ) → s < 3 → (u t t' : State) (b c : Bool) (n : ℕ) → (b ≡ true → t ≡ u) → EndedIn s t c n t' → Follows s u b c n t'
follow s low u t t' true c n k w = subst (λ (x : State). Follows s x true c n t') (k refl) (record { assigned = w.ended.assigned; «end» = w.ended.«end»; stage = w.ended.stage; is_in_range = w.ended.is_in_range; counted = w.counted; same_state = w.ended.same_state })
follow s low u t t' false c n k w =
    let r = stage_found (stage_of s low) u in
    record { assigned = r.0; «end» = r.1; stage = r.2; is_in_range = refl; counted = refl; same_state = λ z. absurd (false≢true z) }

-- the passes of each stage, of which none is counted behind one that left the range
abbrev reached : Bool → Bool → ℕ → ℕ → ℕ → Stages
reached a b i j k = record { first = i; second = cond a j 0; third = cond (a && b) k 0 }

module _ (m : Matrix) where
  stages_ran :
      (t₁ t₂ t₃ : State) (a b c : Bool) (i j k : ℕ) →
      EndedIn 0 (start m) a i t₁ → EndedIn 1 t₁ b j t₂ → EndedIn 2 t₂ c k t₃ → RanIn m (a && b && c) (reached a b i j k) t₃
  stages_ran t₁ t₂ t₃ a b c i j k x y z =
      record {
        ran = record {
          run = record { first = x.ended.«end»; second = second.«end»; third = third.«end»; assigned₀ = x.ended.assigned; assigned₁ = second.assigned; assigned₂ = third.assigned; stage₀ = x.ended.stage; stage₁ = second.stage; stage₂ = third.stage };
          is_in_range = small_append (x.ended.assigned ++ second.assigned) third.assigned ∙ ap (λ (w : Bool). w && all_small third.assigned) both ∙ third.is_in_range;
          same_state = third.same_state;
        };
        counted = rw (both, x.ended.is_in_range, x.counted, second.counted, third.counted) refl;
      }
    where
      second : Follows 1 x.ended.«end» a b j t₂
      second = follow 1 (lit< tt) x.ended.«end» t₁ t₂ a b j x.ended.same_state y

      third : Follows 2 second.«end» (a && b) c k t₃
      third = follow 2 (lit< tt) second.«end» t₂ t₃ (a && b) c k second.same_state z

      both : all_small (x.ended.assigned ++ second.assigned) ≡ (a && b)
      both = small_append x.ended.assigned second.assigned ∙ ap (λ (w : Bool). w && all_small second.assigned) x.ended.is_in_range ∙ second.is_in_range

  -- a stage that is not run, by its definition
  some_end : (s : ℕ) → s < 3 → (t : State) → (b : Bool) × (n : ℕ) × (u : State) × EndedIn s t b n u
  some_end s low t =
      let r = stage_found (stage_of s low) t in
      (_, _, r.1, record { ended = record { assigned = r.0; «end» = r.1; stage = r.2; is_in_range = refl; same_state = λ z. refl }; counted = refl })

  left_of : {n : Stages} {t : State} → RanIn m false n t → LeftIn m n
  left_of r = record { run = r.ran.run; leaves = r.ran.is_in_range; counted = r.counted }

  pub ran_first : (t₁ : State) (i : ℕ) → EndedIn 0 (start m) false i t₁ → LeftIn m (record { first = i; second = 0; third = 0 })
  ran_first t₁ i x =
      let y = some_end 1 (lit< tt) t₁ in
      let z = some_end 2 (lit< tt) y.2 in
      left_of (stages_ran t₁ y.2 z.2 false y.0 z.0 i y.1 z.1 x y.3 z.3)

  pub ran_second : (t₁ t₂ : State) (i j : ℕ) → EndedIn 0 (start m) true i t₁ → EndedIn 1 t₁ false j t₂ → LeftIn m (record { first = i; second = j; third = 0 })
  ran_second t₁ t₂ i j x y =
      let z = some_end 2 (lit< tt) t₂ in
      left_of (stages_ran t₁ t₂ z.2 true false z.0 i j z.1 x y z.3)

  pub ran_third : (t₁ t₂ t₃ : State) (i j k : ℕ) → EndedIn 0 (start m) true i t₁ → EndedIn 1 t₁ true j t₂ → EndedIn 2 t₂ false k t₃ → LeftIn m (record { first = i; second = j; third = k })
  ran_third t₁ t₂ t₃ i j k x y z = left_of (stages_ran t₁ t₂ t₃ true true false i j k x y z)

  pub ran : (t₁ t₂ t₃ : State) (i j k : ℕ) → EndedIn 0 (start m) true i t₁ → EndedIn 1 t₁ true j t₂ → EndedIn 2 t₂ true k t₃ → RanIn m true (record { first = i; second = j; third = k }) t₃
  ran t₁ t₂ t₃ i j k x y z = stages_ran t₁ t₂ t₃ true true true i j k x y z
