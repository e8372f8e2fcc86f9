-- Request M-113 of document 02: the passes of its own figures. One table; the one
-- proof over it stands in proofs/.
use Rattle.std.specs.Prelude.{ℕ, ◌≡◌, refl, List, [], ◌∷◌, ℤ, pos, negsuc}
use Rattle.std.proofs.Common.{subst}
use Rattle.std.proofs.Math.Option.{Option, none, some, none-ne-some, some-injective}
use Rattle.definitions.specs.declared.Stages.{Stages}
use Rattle.definitions.specs.declared.Passes.{Passes}
use Rattle.definitions.specs.declared.Passes.TheVariants.{Counted, Left, Outside}
use Rattle.definitions.specs.Matrix.{Matrix}
use Rattle.definitions.specs.Snf.{Run, pivot}
use Rattle.definitions.specs.Calls.{PassesPromise}
use Rattle.math_snf_laws.specs.Evaluate.{run}
use Rattle.math_snf_laws.specs.Stages.{most}
use Rattle.math_snf_laws.specs.Passes.{judged, judged_right}
use Rattle.designs.specs.Computed.{computed}

-- what a run that is found says
abbrev said_by : {m : Matrix} → Option (Run m) → Option Passes
said_by none = none
said_by (some r) = some (judged r)

pub said_right : {m : Matrix} (p : Passes) (o : Option (Run m)) → said_by o ≡ some p → PassesPromise m p
said_right p none e = absurd (none-ne-some p e)
said_right {m} p (some r) e = subst (PassesPromise m) (some-injective (judged r) p e) (judged_right r)

-- a matrix and what the call says of it; a stage is let 12 passes
pub record Figure : Type 0 where
  pub matrix : Matrix
  pub passes : Passes

abbrev pub Promised : Figure → Type 0
Promised f = PassesPromise f.matrix f.passes

abbrev pub said : Figure → Option Passes
said f = said_by (run 12 f.matrix)

abbrev rows : ℤ → ℤ → ℤ → ℤ → ℤ → ℤ → ℤ → ℤ → ℤ → Matrix
rows a b c d e f g h i = (a ∷ b ∷ c ∷ []) ∷ (d ∷ e ∷ f ∷ []) ∷ (g ∷ h ∷ i ∷ []) ∷ []

abbrev stages : ℕ → ℕ → ℕ → Stages
stages a b c = record { first = a; second = b; third = c }

abbrev counted : Matrix → ℕ → ℕ → ℕ → Figure
counted m a b c = record { matrix = m; passes = Counted (stages a b c) }

abbrev left : Matrix → ℕ → ℕ → ℕ → Figure
left m a b c = record { matrix = m; passes = Left (stages a b c) }

abbrev outside : Matrix → Figure
outside m = record { matrix = m; passes = Outside }

abbrev ones : Matrix
ones = rows (pos 1) (pos 1) (pos 1) (pos 1) (pos 1) (pos 1) (pos 1) (pos 1) (pos 1)

-- diag(2,3,1), zero, a matrix of rank 1, diag(2,4,0), the centrings I and C, all ones; refused with 8 in the first
-- stage's first pass (document 01's own C), in its second, and in the second stage's first pass and second; with 3, and
-- with 3 where 8 would apply
unfoldable pub figures : List Figure
figures =
    counted (rows (pos 2) (pos 0) (pos 0) (pos 0) (pos 3) (pos 0) (pos 0) (pos 0) (pos 1)) 1 1 1
    ∷ counted (rows (pos 0) (pos 0) (pos 0) (pos 0) (pos 0) (pos 0) (pos 0) (pos 0) (pos 0)) 0 0 0
    ∷ counted (rows (pos 2) (pos 4) (pos 6) (pos 4) (pos 8) (pos 12) (pos 2) (pos 4) (pos 6)) 2 0 0
    ∷ counted (rows (pos 2) (pos 0) (pos 0) (pos 0) (pos 4) (pos 0) (pos 0) (pos 0) (pos 0)) 1 1 0
    ∷ counted (rows (pos 0) (pos 1) (pos 1) (pos 1) (pos 0) (pos 1) (pos 1) (pos 1) (pos 0)) 2 2 1
    ∷ counted (rows (pos 1) (negsuc 0) (pos 0) (pos 1) (pos 1) (pos 0) (pos 0) (pos 0) (pos 1)) 2 1 1
    ∷ counted ones 2 0 0
    ∷ left (rows (pos 1) (pos 31) (pos 0) (pos 31) (pos 0) (pos 1) (pos 0) (pos 1) (pos 0)) 1 0 0
    ∷ left (rows (negsuc 7) (pos 4) (negsuc 8) (pos 9) (negsuc 7) (negsuc 6) (pos 8) (pos 2) (negsuc 3)) 2 0 0
    ∷ left (rows (negsuc 3) (negsuc 4) (negsuc 4) (pos 5) (negsuc 4) (negsuc 3) (negsuc 5) (negsuc 5) (pos 6)) 3 1 0
    ∷ left (rows (pos 2) (pos 3) (pos 4) (pos 4) (negsuc 1) (negsuc 3) (pos 3) (negsuc 3) (pos 4)) 3 2 0
    ∷ outside (rows (pos 32) (pos 0) (pos 0) (pos 0) (pos 1) (pos 0) (pos 0) (pos 0) (pos 1))
    ∷ outside (rows (pos 1) (pos 31) (pos 0) (pos 31) (pos 32) (pos 1) (pos 0) (pos 1) (pos 0))
    ∷ []

-- the bound is met: of all ones the first pivot is 1, and the first stage has two passes
pub bound_met : most ones (pivot 0 ones) ≡ 2
unfolding computed
bound_met = refl
