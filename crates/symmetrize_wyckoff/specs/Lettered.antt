-- A call that letters one design: what it returns goes with the design, not with the order of the permutations.
use Rattle.std.specs.Prelude.{ℕ, ◌≡◌, ◌↔◌, T}
use Rattle.std.proofs.Common.{sym, ap, ◌∙◌, subst}
use Rattle.std.proofs.Math.Logic.Iff.{symm as iff_symm, trans as iff_trans}
use Rattle.definitions.specs.Refusal.{Outcome, accepted}
use Rattle.definitions.specs.Orbit.{multiplicities}
use Rattle.definitions.specs.Wyckoff.{Lettering, Found, Unfit, sites_of, orbit_without_fit, letters}
use Rattle.definitions.specs.Demand.{PastBefore13, HasDesign, ThirteenExactly, LetteringCall, HasJustTheLetters, Alike, JoinTheSame}
use Rattle.definitions.specs.Demand.{AlikeFree, OrderFree, DemandOfLettering}
use Rattle.base_cell.specs.Maps.{Permutations}
use Rattle.base_cell.proofs.Rearranged.{any_size}
use Rattle.symmetrize_wyckoff_laws.specs.Unique.{alike_sites, sites_unique}

-- designs that are alike and joined alike are both without a fit or neither
pub same_fits : {g g' : Lettering} → Alike g g' → JoinTheSame g.permutations g'.permutations → Found g → Found g' → Unfit g ↔ Unfit g'
same_fits a same f f' = (
  λ u. (f', subst (λ s. T (orbit_without_fit s)) (alike_sites a same u.0 f') u.1),
  λ u. (f, subst (λ s. T (orbit_without_fit s)) (sym (alike_sites a same f u.0)) u.1),
)

-- whatever is found of a design, an orbit without a fit is one
pub unfit_by : {g : Lettering} (f : Found g) → Unfit g → T (orbit_without_fit (sites_of f))
unfit_by f u = subst (λ s. T (orbit_without_fit s)) (sites_unique u.0 f) u.1

module _ (c : LetteringCall) where
  abbrev Arguments : Type 0
  Arguments = c.fitting.Arguments

  abbrev Result : Type 0
  Result = c.fitting.Result

  abbrev Promises : Arguments → Outcome Result → Type 0
  Promises = c.fitting.Promises

  abbrev Before : Arguments → Lettering → Type 0
  Before = PastBefore13 c.fitting

  -- what is known of the call: past the refusals before 13 there is a design, which has sites with labels and spaces,
  -- its permutations
  -- are such, and the call answers by those sites
  pub record Letters : Type 0 where
    pub has_design : HasDesign c.fitting
    pub found : (x : Arguments) (g : Lettering) → Before x g → Found g
    pub permute : (x : Arguments) (g : Lettering) → Before x g → (n : ℕ) × Permutations n g.permutations
    pub just_the_letters : HasJustTheLetters c
    pub thirteen : ThirteenExactly c.fitting

  module _ (k : Letters) where
    -- an accepted answer, by what is found of the design
    answer_by :
        (x : Arguments) (g : Lettering) → Before x g → (o : Outcome Result) → Promises x o → (f : Found g) (a : Result) → o ≡ accepted a →
        (c.labels_of a ≡ f.labels) × (c.multiplicities_of a ≡ multiplicities f.labels) × (c.letters_of a ≡ letters (sites_of f))
    answer_by x g b o p f a e = k.just_the_letters x g b a (subst (Promises x) e p) f

    alike_free : AlikeFree c
    alike_free x x' g g' b b' a same o o' p p' =
        let f = k.found x g b in
        let f' = k.found x' g' b' in
        let s = alike_sites a same f f' in
        record {
          thirteen = iff_trans (k.thirteen x g b o p) (iff_trans (same_fits a same f f') (iff_symm (k.thirteen x' g' b' o' p')));
          labels = λ r r' e e'. (answer_by x g b o p f r e).0 ∙ ap (λ t. t.labels) s ∙ sym (answer_by x' g' b' o' p' f' r' e').0;
          multiplicities = λ r r' e e'.
              (answer_by x g b o p f r e).1 ∙ ap (λ t. multiplicities t.labels) s ∙ sym (answer_by x' g' b' o' p' f' r' e').1;
          letters = λ r r' e e'. (answer_by x g b o p f r e).2 ∙ ap letters s ∙ sym (answer_by x' g' b' o' p' f' r' e').2;
        }

    order_free : OrderFree c
    order_free x x' g g' b b' a re =
        let n = k.permute x g b in
        let n' = k.permute x' g' b' in
        alike_free x x' g g' b b' a (any_size n.0 n'.0 g.permutations g'.permutations n.1 n'.1 re)

    pub demand_of_lettering : DemandOfLettering c
    demand_of_lettering =
        record {
          has_design = k.has_design;
          just_the_letters = k.just_the_letters;
          thirteen = k.thirteen;
          order_free = order_free;
          alike_free = alike_free;
        }
