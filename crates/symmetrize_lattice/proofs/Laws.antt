-- The cases of a factor, the last test, and the bases of the new one.
use mathlib.Core.Path.{◌≡◌, refl, sym, ap, ◌∙◌}
use mathlib.Core.Bool.{Bool, true, false, not, cond, ◌&&◌}
use mathlib.Core.List.{List}
use mathlib.Core.Option as Math
use lib.Ieee.{eq}
use Rattle.laws.specs.Tests.{without, so, not_so}
use Rattle.laws.specs.Verdicts.{HoldsAt, Passed, pass, found_at_lem, found_none, refuse, accept, verdict_of}
use Rattle.laws.specs.Verdicts.{accepted_with, refused_with_lem}
use Rattle.definitions.specs.declared.Bases.{Bases}
use Rattle.definitions.specs.declared.Refusal.{Refusal}
use Rattle.definitions.specs.declared.Refusal.TheVariants.{Lattice}
use Rattle.definitions.specs.Lists.{all}
use Rattle.definitions.specs.Refusal.{Returns, outcome}
use Rattle.definitions.specs.Calls.{LatticePromise}
use Rattle.definitions.specs.Matrix.{Matrix}
use Rattle.definitions.specs.Real.{RealMatrix, zero_f, at_f, det_f, mul_f, real, inverse_of_c, is_finite, cholesky}
use Rattle.definitions.specs.Symmetrization.{new_basis, mean_metric, factor_fails, basis_or, lattice_fails}
use Rattle.definitions.specs.Symmetrization.{symmetrized_basis, deformation, new_of}
use Rattle.math_real.specs.Rows.{all_finite_lem}
use Rattle.std.specs.Prelude.{Option, None, Some, Result, Ok, Err}
use Rattle.std.specs.Option.{ok_or}
use Rattle.std.proofs.Common.{subst}
use Rattle.math_factor.specs.Factor.{handed_back}
use Rattle.symmetrize_lattice.specs.declared.GivenLattice.{GivenLattice}
use Rattle.symmetrize_lattice.specs.Given.{conditions, conventional_basis, IsNew}
use Rattle.symmetrize_lattice.specs.Lattice.{deforms, symmetrized}

module _ (old : RealMatrix) where
  good : (l : RealMatrix) → deforms old (new_basis old l) ≡ not (factor_fails old (Math.some l))
  unfolding all
  good l =
      ap (λ (b : Bool). not (eq (det_f old) zero_f) && b) (sym (all_finite_lem (at_f (deformation old l)))) ∙ without (eq (det_f old) zero_f) (all (all is_finite) (deformation old l))

  -- the definition's three cases of 12, as the code comes to them
  picked : Math.Option RealMatrix → Option RealMatrix
  picked o = cond (factor_fails old o) None (Some (basis_or old o))

  no_factor : (o : Math.Option RealMatrix) → None ≡ handed_back o → None ≡ picked o
  unfolding picked
  no_factor Math.none e = refl
  no_factor (Math.some l) e = cc

  by_factor : (o : Math.Option RealMatrix) (l b : RealMatrix) (q : Bool) → Some l ≡ handed_back o → b ≡ new_basis old l → q ≡ deforms old b → cond q (Some b) None ≡ picked o
  unfolding picked
  by_factor Math.none l b q e h d = cc
  by_factor (Math.some m) l b q e h d =
      let k : l ≡ m = cc in
      let n : b ≡ new_basis old m = h ∙ ap (new_basis old) k in
      by (factor_fails old (Math.some m)) (d ∙ ap (deforms old) n ∙ good m) n
    where
      by : (f : Bool) → q ≡ not f → b ≡ new_basis old m → cond q (Some b) None ≡ cond f None (Some (new_basis old m))
      by true e n = rw e refl
      by false e n = rw e (ap Some n)

  module _ (rs : List Matrix) (g : RealMatrix) (mean : g ≡ mean_metric old rs) where
    pub without_factor : None ≡ handed_back (cholesky g) → None ≡ symmetrized old rs
    unfolding picked lattice_fails symmetrized_basis
    without_factor e = no_factor (cholesky (mean_metric old rs)) (e ∙ ap (λ (m : RealMatrix). handed_back (cholesky m)) mean)

    pub with_factor : (l b : RealMatrix) (q : Bool) → Some l ≡ handed_back (cholesky g) → b ≡ new_basis old l → q ≡ deforms old b → cond q (Some b) None ≡ symmetrized old rs
    unfolding picked lattice_fails symmetrized_basis
    with_factor l b q e h d = by_factor (cholesky (mean_metric old rs)) l b q (e ∙ ap (λ (m : RealMatrix). handed_back (cholesky m)) mean) h d

module _ (g : GivenLattice) where
  abbrev new : RealMatrix
  new = new_of g.lattice g.t g.c g.rotations.now

  abbrev fails : Bool
  fails = lattice_fails (conventional_basis g) g.rotations.now

  abbrev pub Told : Result RealMatrix Refusal → Type 0
  Told r = Returns (conditions g) (IsNew g) (outcome (λ m. m) r)

  -- the last test: refused with 12, or the new basis
  pub by_last :
      Passed (conditions g) 4 → (r : Result RealMatrix Refusal) →
      r ≡ ok_or (symmetrized (conventional_basis g) g.rotations.now) Lattice → Told r
  unfolding verdict_of found_at_lem found_none HoldsAt
  by_last p r h = at fails refl
    where
      told : (f : Bool) → fails ≡ f → r ≡ ok_or (cond f None (Some new)) Lattice
      told f e = h ∙ ap (λ (b : Bool). ok_or (cond b None (Some new)) Lattice) e

      at : (f : Bool) → fails ≡ f → Told r
      at true e =
          subst Told (sym (told true e))
          (refused_with_lem (conditions g) (IsNew g) Lattice (refuse (conditions g) 4 p (so e) (Err Lattice) refl))
      at false e =
          subst Told (sym (told false e))
          (accepted_with (conditions g) (IsNew g) new (accept (conditions g) (pass (conditions g) 4 p (not_so e)) refl) refl)

  abbrev pub Promised : Result Bases Refusal → Type 0
  Promised = LatticePromise g.lattice g.t g.c g.rotations.now

  -- the primitive and the listed basis are made of the new one
  pub bases_accepted :
      (m p q : RealMatrix) → Told (Ok m) → p ≡ mul_f m (inverse_of_c g.c) → q ≡ mul_f p (real g.c) →
      Promised (Ok (record { conventional = m; primitive = p; listed = q }))
  unfolding Returns
  bases_accepted m p q (past, e) h i =
      let j = h ∙ ap (λ (b : RealMatrix). mul_f b (inverse_of_c g.c)) e in
      let k = i ∙ ap (λ (b : RealMatrix). mul_f b (real g.c)) j in
      (past, λ x. record { conventional = e x; primitive = j x; listed = k x })

  pub bases_refused : (r : Refusal) → Told (Err r) → Promised (Err r)
  unfolding Returns
  bases_refused r h = h
