-- The letter call, as its promise has it: demand 3.
use Rattle.std.specs.Prelude.{ℕ, ◌≡◌, refl, false, ◌||◌, List}
use Rattle.std.proofs.Common.{sym, ap, ◌∙◌}
use Rattle.std.proofs.Math.Path.{subst}
use Rattle.std.proofs.Math.Logic.{inl, ⊎_elim}
use Rattle.definitions.specs.Lists.{any}
use Rattle.definitions.specs.Refusal.{Applies, upto, precedence, Past, orbit_fit, Outcome, refused, Returns}
use Rattle.definitions.specs.Lent.{bad_images}
use Rattle.definitions.specs.Wyckoff.{texts_of, AreSpaces, Found, Unfit, letters}
use Rattle.definitions.specs.Orbit.{multiplicities}
use Rattle.definitions.specs.SiteCalls.{LetterArguments, design_from, candidates_in, permutations_in, bad_mapping, letter_conditions, LetterCells}
use Rattle.definitions.specs.SiteCalls.{letter_rooms, IsLettered, HoldsLetters, nothing_lettered, LetterAnswered}
use Rattle.definitions.specs.Demand.{LetteringCall, HasJustTheLetters, ThirteenExactly, DemandOfLettering}
use Rattle.laws.specs.Tests.{off, neither_left, neither_right}
use Rattle.laws.specs.Order.{FailBefore, past_before, numbered}
use Rattle.laws.proofs.Order.{refused_first}
use Rattle.laws.specs.Verdicts.{answered_returns}
use Rattle.base_cell.specs.Maps.{Permutations}
use Rattle.base_cell.proofs.Labelling.{given_permutations, given_labels}
use Rattle.symmetrize_wyckoff_laws.specs.Unique.{equal_sites}
use Rattle.symmetrize_wyckoff.specs.Spaces.{spaces_found, alike_texts}
use Rattle.symmetrize_wyckoff.specs.Lettered.{Letters, demand_of_lettering}

abbrev pub letter_call : LetteringCall
letter_call =
    record {
      fitting =
          record {
            Arguments = LetterArguments × LetterCells;
            Result = LetterCells;
            conditions = λ x. letter_conditions x.0 (letter_rooms x.1);
            IsDesign = λ x g. design_from x.0 ≡ g;
            Promises = λ x o. (exit : LetterCells) × LetterAnswered x.0 x.1 exit o;
          };
      labels_of = λ a. a.labels;
      multiplicities_of = λ a. a.multiplicities;
      letters_of = λ a. a.letters;
    }

module _ (x : LetterArguments) (rooms : List ℕ) (past : Past orbit_fit (letter_conditions x rooms)) where
  not_five :
      (bad_images x.labelling.sites x.labelling.count x.labelling.images || bad_mapping x.labelling.sites x.labelling.mapping)
      ≡ false
  unfolding FailBefore any upto precedence
  not_five = off _ ((past_before orbit_fit (letter_conditions x rooms) past).1.1.0 tt)

  -- past 2, the candidates' lists belong together
  texts_are : texts_of (candidates_in x) ≡ x.texts
  unfolding FailBefore any upto precedence
  texts_are = alike_texts x (off _ ((past_before orbit_fit (letter_conditions x rooms) past).0 tt))

  permute : Permutations x.labelling.sites (permutations_in x.labelling)
  permute = given_permutations x.labelling (neither_left _ _ not_five)

  -- what is found of the design
  design_found : Found (design_from x)
  unfolding FailBefore any upto precedence
  design_found =
      let s = spaces_found x.texts ((past_before orbit_fit (letter_conditions x rooms) past).1.1.1.0 tt) in
      let l =
      given_labels x.labelling (neither_left _ _ not_five)
      (neither_right (bad_images x.labelling.sites x.labelling.count x.labelling.images) _ not_five) in
      record {
        spaces = s.0;
        are_spaces = subst (λ ts. AreSpaces ts s.0) (sym texts_are) s.1;
        labels = l.0;
        are_labels = l.1;
      }

  -- 13 applies to a design without a fit, and to no other
  unfit_applies : Unfit (design_from x) → Applies (letter_conditions x rooms) orbit_fit
  unfolding Applies
  unfit_applies u = inl u

  applies_unfit : Applies (letter_conditions x rooms) orbit_fit → Unfit (design_from x)
  unfolding Applies
  applies_unfit a = ⊎_elim (λ u. u) (λ n. absurd n) a

  thirteen_is : (o : Outcome LetterCells) → Returns (letter_conditions x rooms) (IsLettered x) o → o ≡ refused orbit_fit → Unfit (design_from x)
  unfolding Returns
  thirteen_is o r e = applies_unfit (subst (Returns (letter_conditions x rooms) (IsLettered x)) e r).0

  is_thirteen : Unfit (design_from x) → (o : Outcome LetterCells) → Returns (letter_conditions x rooms) (IsLettered x) o → o ≡ refused orbit_fit
  unfolding numbered any precedence
  is_thirteen u = refused_first (letter_conditions x rooms) tt (IsLettered x) orbit_fit (unfit_applies u) past

just_the_letters : HasJustTheLetters letter_call
unfolding Returns
just_the_letters x g (e, past) a (exit, (r, h)) f =
    let s = equal_sites e r.1.0 f in
    let q = r.1.1 in (
      ap (λ c. c.labels) q ∙ ap (λ t. t.labels) s,
      ap (λ c. c.multiplicities) q ∙ ap (λ t. multiplicities t.labels) s,
      ap (λ c. c.letters) q ∙ ap letters s,
    )

thirteen : ThirteenExactly letter_call.fitting
thirteen x g (e, past) o (exit, h) =
    let r =
    answered_returns (letter_conditions x.0 (letter_rooms x.1)) (IsLettered x.0) (HoldsLetters x.1 exit)
    (HoldsLetters x.1 exit nothing_lettered) o h in (
      λ q. subst Unfit e (thirteen_is x.0 (letter_rooms x.1) past o r q),
      λ u. is_thirteen x.0 (letter_rooms x.1) past (subst Unfit (sym e) u) o r,
    )

-- Demand 3 of the promise of the letter call.
pub letter_demand : DemandOfLettering letter_call
letter_demand = demand_of_lettering letter_call known
  where
    known : Letters letter_call
    known =
        record {
          has_design = λ x past. (design_from x.0, refl, design_found x.0 (letter_rooms x.1) past);
          found = λ x g b. subst Found b.0 (design_found x.0 (letter_rooms x.1) b.1);
          permute = λ x g b. (x.0.labelling.sites, subst (λ h. Permutations x.0.labelling.sites h.permutations) b.0 (permute x.0 (letter_rooms x.1) b.1));
          just_the_letters = just_the_letters;
          thirteen = thirteen;
        }
