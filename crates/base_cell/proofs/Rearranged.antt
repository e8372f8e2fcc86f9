-- Permutations rearranged, of whatever number of sites, join the same.
use Rattle.std.specs.Prelude.{ℕ, ◌≡◌, refl}
use Rattle.std.proofs.Common.{sym, ◌∙◌, subst}
use mathlib.Core.List.Memᴰ
use mathlib.Core.List.{List, [], ◌∷◌, Memᴰ}
use Rattle.definitions.specs.Demand.{JoinTheSame, Rearranged}
use Rattle.base_cell.specs.Maps.{Permutations, permutation_maps}
use Rattle.base_cell.specs.Rearranged.{rearranged_joins}

-- The lists share a permutation, so they are of one number of sites; or they are empty.
pub any_size : (n n' : ℕ) (ps qs : List (List ℕ)) → Permutations n ps → Permutations n' qs → Rearranged ps qs → JoinTheSame ps qs
any_size n n' [] qs a b re = rearranged_joins n' (λ p m. absurd (Memᴰ.not-nil m)) b re
any_size n n' (p ∷ ps) qs a b re = rearranged_joins n a (subst (λ k. Permutations k qs) (sym size) b) re
  where
    size : n ≡ n'
    size = sym (permutation_maps n p (a p (Memᴰ.head refl))).size ∙ (permutation_maps n' p (b p (re.kept p (Memᴰ.head refl)))).size
