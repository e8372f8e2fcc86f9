-- The label call: labels that are there, just these in an accepted answer, whatever the order of the permutations.
use Rattle.std.specs.Prelude.{ℕ, ◌≡◌, false, ◌||◌, List, ltb}
use Rattle.std.proofs.Common.{sym, ap, ◌∙◌, subst}
use Rattle.definitions.specs.Lists.{all, any}
use Rattle.definitions.specs.Refusal.{upto, precedence, Past, orbit_fit, accepted, Returns}
use Rattle.definitions.specs.Orbit.{Labels, multiplicities}
use Rattle.definitions.specs.Lent.{bad_images}
use Rattle.definitions.specs.SiteCalls.{LabelArguments, permutations_in, LabelCells, bad_mapping}
use Rattle.definitions.specs.Demand.{JoinTheSame, Rearranged, HasLabels, HasJustTheLabels, SameLabelsUnder, DemandOfLabelling}
use Rattle.laws.specs.Tests.{passed, off, not_so, neither_left, neither_right}
use Rattle.laws.specs.Order.{FailBefore, past_before}
use Rattle.base_cell.specs.Maps.{Permutations, permutations-all}
use Rattle.base_cell.specs.Classes.{classes}
use Rattle.base_cell.specs.Labels.{labels_by, labels_unique, same_joins_same_labels}
use Rattle.base_cell.proofs.ClassLabels.{labels_computed}
use Rattle.base_cell.proofs.Rearranged.{any_size}
use Rattle.base_cell.specs.Labelling.{images_permute, label_call}

-- ---- arguments past 5

module _ (x : LabelArguments) (images : bad_images x.sites x.count x.images ≡ false) where
  pub given_permutations : Permutations x.sites (permutations_in x)
  given_permutations = permutations-all x.sites (permutations_in x) (images_permute x.sites x.count x.images images)

  -- a mapping that passes has labels
  pub given_labels : bad_mapping x.sites x.mapping ≡ false → (ls : List ℕ) × Labels (permutations_in x) x.mapping ls
  given_labels within = (
    labels_by (classes x.sites (permutations_in x)) x.mapping,
    labels_computed x.sites (permutations_in x) x.mapping (images_permute x.sites x.count x.images images)
        (passed (all (λ i. ltb i x.sites) x.mapping) (not_so within)),
  )

-- ---- the call

abbrev Arguments : Type 0
Arguments = label_call.Arguments

abbrev PastFive : Arguments → Type 0
PastFive x = Past orbit_fit (label_call.conditions x)

-- what 5 says of the arguments
not_five : (x : Arguments) → PastFive x → (bad_images x.0.sites x.0.count x.0.images || bad_mapping x.0.sites x.0.mapping) ≡ false
unfolding FailBefore any upto precedence
not_five x past = off _ ((past_before orbit_fit (label_call.conditions x) past).1.0 tt)

permute : (x : Arguments) → PastFive x → Permutations x.0.sites (permutations_in x.0)
permute x past = given_permutations x.0 (neither_left _ _ (not_five x past))

has_labels : HasLabels label_call
has_labels x past = given_labels x.0 (neither_left _ _ (not_five x past)) (neither_right (bad_images x.0.sites x.0.count x.0.images) _ (not_five x past))

just_the_labels : HasJustTheLabels label_call
unfolding Returns
just_the_labels x past a h = h.1.0.1

alike_free : SameLabelsUnder label_call JoinTheSame
alike_free x x' past past' e same o o' p p' =
    record { labels = labels; multiplicities = λ a a' f f'. counts a f ∙ ap multiplicities (labels a a' f f') ∙ sym (counts' a' f') }
  where
    of : (a : LabelCells) → o ≡ accepted a → Labels (permutations_in x.0) x.0.mapping a.labels × (a.multiplicities ≡ multiplicities a.labels)
    of a f = just_the_labels x past a (subst (label_call.Promises x) f p)

    of' : (a : LabelCells) → o' ≡ accepted a → Labels (permutations_in x'.0) x'.0.mapping a.labels × (a.multiplicities ≡ multiplicities a.labels)
    of' a f = just_the_labels x' past' a (subst (label_call.Promises x') f p')

    counts : (a : LabelCells) → o ≡ accepted a → a.multiplicities ≡ multiplicities a.labels
    counts a f = (of a f).1

    counts' : (a : LabelCells) → o' ≡ accepted a → a.multiplicities ≡ multiplicities a.labels
    counts' a f = (of' a f).1

    labels : (a a' : LabelCells) → o ≡ accepted a → o' ≡ accepted a' → a.labels ≡ a'.labels
    labels a a' f f' =
        labels_unique
        (same_joins_same_labels same (subst (λ m. Labels (permutations_in x.0) m a.labels) e (of a f).0))
        (of' a' f').0

order_free : SameLabelsUnder label_call Rearranged
order_free x x' past past' e re =
    alike_free x x' past past' e
    (any_size x.0.sites x'.0.sites (permutations_in x.0) (permutations_in x'.0) (permute x past) (permute x' past') re)

-- Demand 3 of the promise of the label call.
pub label_demand : DemandOfLabelling label_call
label_demand =
    record { has_labels = has_labels; just_the_labels = just_the_labels; order_free = order_free; alike_free = alike_free }
