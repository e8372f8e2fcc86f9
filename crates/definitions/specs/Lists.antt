-- Words on lists that the definitions share. A test is a function into Bool.
use Rattle.std.specs.Prelude.{ℕ, zero, suc, Bool, true, false, List, [], ◌∷◌, ◌++◌, ◌⊎◌}
use Rattle.std.proofs.Math.Option.{Option, none, some}

-- at least one element passes
unfoldable pub any : {A : Type 0} → (A → Bool) → List A → Bool
any t [] = false
any t (a ∷ l) = elim (t a) [ true ↦ true | false ↦ any t l ]

-- every element passes
unfoldable pub all : {A : Type 0} → (A → Bool) → List A → Bool
all t [] = true
all t (a ∷ l) = elim (t a) [ true ↦ all t l | false ↦ false ]

-- the first element that passes, in list order
unfoldable pub first : {A : Type 0} → (A → Bool) → List A → Option A
first t [] = none
first t (a ∷ l) = elim (t a) [ true ↦ some a | false ↦ first t l ]

-- the elements that pass, in list order
unfoldable pub those : {A : Type 0} → (A → Bool) → List A → List A
those t [] = []
those t (a ∷ l) = elim (t a) [ true ↦ a ∷ those t l | false ↦ those t l ]

-- how many pass
unfoldable pub count : {A : Type 0} → (A → Bool) → List A → ℕ
count t [] = 0
count t (a ∷ l) = elim (t a) [ true ↦ suc (count t l) | false ↦ count t l ]

-- k, k + 1, .. : n numbers
unfoldable pub up_from : ℕ → ℕ → List ℕ
up_from k zero = []
up_from k (suc n) = k ∷ up_from (suc k) n

-- 0 to n - 1
abbrev pub up_to : ℕ → List ℕ
up_to n = up_from 0 n

-- the lists that f makes of the elements, one behind the other
unfoldable pub each : {A B : Type 0} → (A → List B) → List A → List B
each f [] = []
each f (a ∷ l) = f a ++ each f l

-- P holds of each element
unfoldable pub Each : {A : Type 0} → (A → Type 0) → List A → Type 0
Each P [] = Unit {0}
Each P (a ∷ l) = P a × Each P l

-- P holds of one element at least
unfoldable pub Some : {A : Type 0} → (A → Type 0) → List A → Type 0
Some P [] = ⊥
Some P (a ∷ l) = P a ⊎ Some P l
