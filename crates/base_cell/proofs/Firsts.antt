-- The table of first listed sites by class: after j sites it has the first site of each class that was met.
use Rattle.std.proofs.Common.{ℕ, ◌+◌, ◌<◌, ◌≡◌, refl, sym, ap, ◌∙◌, Bool, true, false, List, ◌⊎◌, inl, inr, ⊎_elim, Some, None, Option, arith, not-suc-le-zero, below_more, eqb-true, length, get_or, set, replicate, get_or-set_same, get_or-set_other}
use Rattle.std.proofs.lemmas.Bool.{eqb-false}
use Rattle.std.proofs.Math.Dec.{eqb}
use Rattle.std.proofs.Math.ListN.{get_or-replicate}
use Rattle.std.specs.Option.{unwrap_or}
use Rattle.base_cell.specs.Labels.{First}

module _ (ds : List ℕ) where
  -- the cell x of the class r: no site of the class among the first j, or the first of them
  abbrev pub NotedAt : ℕ → ℕ → Option ℕ → Type 0
  NotedAt j r x =
      ((x ≡ None) × ((k : ℕ) → k < j → get_or ds k 0 ≡ r → ⊥)) ⊎ ((l : ℕ) × (x ≡ Some l) × First r ds l × (l < j))

  abbrev pub Noted : ℕ → ℕ → List (Option ℕ) → Type 0
  Noted n j table = (r : ℕ) → r < n → NotedAt j r (get_or table r None)

  pub nothing_yet : (n : ℕ) → Noted n 0 (replicate n None)
  nothing_yet n r h = inl (get_or-replicate n r None None h, λ k g. absurd (not-suc-le-zero g))

  module _ (n j : ℕ) (table : List (Option ℕ)) (noted : Noted n j table) (hj : j < length ds)
      (r : ℕ) (hr : r < n) (is : r ≡ get_or ds j 0) where
    -- the first site of j's class
    pub first_of : (l : ℕ) → l ≡ unwrap_or (get_or table r None) j → First r ds l × (l < j + 1)
    first_of l e = ⊎_elim none one (noted r hr)
      where
        x : Option ℕ
        x = get_or table r None

        none : (x ≡ None) × ((k : ℕ) → k < j → get_or ds k 0 ≡ r → ⊥) → First r ds l × (l < j + 1)
        none (q, f) =
            let here : l ≡ j = e ∙ ap (λ o. unwrap_or o j) q in
            rw here (record { below = hj; at = sym is; least = f }, omega arith)

        one : (m : ℕ) × (x ≡ Some m) × First r ds m × (m < j) → First r ds l × (l < j + 1)
        one (m, q, f, h) =
            let there : l ≡ m = e ∙ ap (λ o. unwrap_or o j) q in
            rw there (f, omega arith)

    pub noted_more : (l : ℕ) → First r ds l × (l < j + 1) → length table ≡ n → Noted n (j + 1) (set table r (Some l))
    noted_more l first size s hs = by (eqb s r) refl
      where
        new : List (Option ℕ)
        new = set table r (Some l)

        by : (t : Bool) → eqb s r ≡ t → NotedAt (j + 1) s (get_or new s None)
        by true e =
            let same = eqb-true s r e in
            let at : get_or new r None ≡ Some l = get_or-set_same table r (Some l) None (omega arith) in
            rw (same, at) (inr (l, refl, first.0, first.1))
        by false e =
            let ne = eqb-false s r e in
            let at : get_or new s None ≡ get_or table s None = get_or-set_other table r s (Some l) None ne in
            rw at
            (⊎_elim
            (λ w. inl (w.0, below_more (λ k. get_or ds k 0 ≡ s → ⊥) j w.1 (λ q. ne (sym q ∙ sym is))))
            (λ w. inr (w.0, w.1, w.2, omega (arith, w.3)))
            (noted s hs))
