-- To be joined by permutations is an equivalence.
use Rattle.std.specs.Prelude.{ℕ, List}
use Rattle.definitions.specs.Orbit.{Step, Joined, none, forth, back}

pub joined_step : {ps : List (List ℕ)} {i j : ℕ} → Step ps i j → Joined ps i j
joined_step s = forth s none

pub joined_trans : {ps : List (List ℕ)} {i j k : ℕ} → Joined ps i j → Joined ps j k → Joined ps i k
joined_trans none h = h
joined_trans (forth s r) h = forth s (joined_trans r h)
joined_trans (back s r) h = back s (joined_trans r h)

pub joined_sym : {ps : List (List ℕ)} {i j : ℕ} → Joined ps i j → Joined ps j i
joined_sym none = none
joined_sym (forth s r) = joined_trans (joined_sym r) (back s none)
joined_sym (back s r) = joined_trans (joined_sym r) (forth s none)

-- what joins each step's two sites joins what the steps join
pub joined_by : {ps qs : List (List ℕ)} → ((i j : ℕ) → Step ps i j → Joined qs i j) → {i j : ℕ} → Joined ps i j → Joined qs i j
joined_by f none = none
joined_by f (forth {i} {j} s r) = joined_trans (f i j s) (joined_by f r)
joined_by f (back {i} {j} s r) = joined_trans (joined_sym (f j i s)) (joined_by f r)
