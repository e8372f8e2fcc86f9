-- The list call as demand 3 speaks of it; that none of its copies is missing or twice stands in proofs/.
use Rattle.std.specs.Prelude.{ℕ, ◌+◌, ◌*◌, ◌<◌, ◌≡◌, get_or, ℤ, Float}
use Rattle.std.proofs.Common.{◌∙◌}
use mathlib.Core.List.{List, map}
use Rattle.std.proofs.Math.ListN.{length, length-replicate, get_or-replicate, replicate}
use Rattle.definitions.specs.declared.Position.{Position}
use Rattle.definitions.specs.Lists.{up_to}
use Rattle.definitions.specs.Limits.{copies}
use Rattle.definitions.specs.Matrix.{Matrix}
use Rattle.definitions.specs.Snf.{Run}
use Rattle.definitions.specs.Cell.{site_mapping}
use Rattle.definitions.specs.Lent.{position_from}
use Rattle.definitions.specs.SiteCalls.{ListingCells, listing_rooms, list_conditions, ListAnswered}
use Rattle.definitions.specs.Demand.{ListingCall}
use Rattle.laws.specs.Lists.{up_to_at, below_up_to, each_at}
use Rattle.math_matrix.specs.Laws.{Three}

module _ {c : Matrix} (shape : Three c) (regular : 0 < copies c) (r : Run c) (es : List ℤ) (ps : List Position) where
  abbrev n : ℕ
  n = length ps

  abbrev m : ℕ
  m = copies c

  module _ (i k : ℕ) (h : i < n) (g : k < m) where
    pub primitive : get_or (site_mapping n m) (i * m + k) 0 ≡ i
    unfolding site_mapping
    primitive =
        each_at (λ i. replicate m i) m (λ i. length-replicate m i) (up_to n) i k 0 0 (below_up_to n i h) g
        ∙ get_or-replicate m k (get_or (up_to n) i 0) 0 g
        ∙ up_to_at n i h

-- ---- the call

-- C has three rows of three, as its type says
pub record ListArguments : Type 0 where
  pub c : Matrix
  pub shape : Three c
  pub elements : List ℤ
  pub positions : List (List Float)
  pub entry : ListingCells

abbrev pub list_call : ListingCall
list_call =
    record {
      Arguments = ListArguments;
      conditions = λ x. list_conditions x.c x.elements x.positions (listing_rooms x.entry);
      centring = λ x. x.c;
      primitive = λ x. map position_from x.positions;
      Promises = λ x o. (exit : ListingCells) × ListAnswered x.c x.elements x.positions x.entry exit o;
    }
