-- A text put at a place of lent bytes, as far as there is room.
use Rattle.std.specs.Prelude.{ℕ, zero, suc, ◌≡◌, List, [], ◌∷◌}

-- the bytes d with the text at the place `at`, and what is behind the text as it was
unfoldable pub put : List ℕ → ℕ → List ℕ → List ℕ
put [] at text = []
put (x ∷ d) zero [] = x ∷ d
put (x ∷ d) zero (b ∷ text) = b ∷ put d zero text
put (x ∷ d) (suc at) text = x ∷ put d at text

-- the place behind it; `at` where there was no room
unfoldable pub place : List ℕ → ℕ → List ℕ → ℕ
place [] at text = at
place (x ∷ d) zero [] = zero
place (x ∷ d) zero (b ∷ text) = suc (place d zero text)
place (x ∷ d) (suc at) text = suc (place d at text)

pub record Puts (text : List ℕ) (at : ℕ) (entry exit : List ℕ) (n : ℕ) : Type 0 where
  pub bytes : exit ≡ put entry at text
  pub next : n ≡ place entry at text
