-- A command, and a run of commands of a fixed width, by places: what is read there, and where the reader stops.
use Prim.Native.Nat.{ℕ, zero, suc, ◌+◌, ◌*◌, ◌≤◌, ◌<◌}
use mathlib.Core.Path.{◌≡◌, refl, sym, ap, subst, ◌∙◌}
use mathlib.Core.Bool.{Bool, true, false}
use mathlib.Core.List.{List, [], ◌∷◌}
use mathlib.Core.Option.{none, some, none-ne-some}
use mathlib.Core.Logic.{⊎_elim}
use native.Mathlib.Omega.{arith}
use lib.ListN.{length, get_or, drop, drop_of_length-le}
use lib.Dec.{T, eqb}
use borrow.Author.Tests.{eq-eqb, ne_eqb, eqb-true, eqb-false}
use Rattle.laws.specs.Order.{among}
use Rattle.definitions.specs.Lists.{any}
use Rattle.job_laws.specs.Reader.{Reader, ◌then◌, mapped_forth, mapped_back, then_forth, then_back, same_read, next, behind, at_most}
use Rattle.job.specs.Places.{items, run, Run}
use Rattle.job.proofs.Fixed.{Fixed, within, byte_at, mapped_none, then_none}

-- ---- a command before operands of v bytes

module _ {A : Type 0} {r : Reader A} {v : ℕ} {f : List ℕ → ℕ → A} (i : Fixed r v f) (c : ℕ) where
  behind_cons : (b : ℕ) (l : List ℕ) → b ≡ c → behind c r (b ∷ l) ≡ r l
  unfolding behind
  behind_cons b l e = rw (eq-eqb b c e, behind)

  behind_other : (b : ℕ) (l : List ℕ) → (b ≡ c → ⊥) → behind c r (b ∷ l) ≡ none
  unfolding behind
  behind_other b l e = rw (ne_eqb b c e, behind)

  behind_nil : behind c r [] ≡ none
  unfolding behind
  behind_nil = refl

  pub command_forth : (bs : List ℕ) (at : ℕ) → at + suc v ≤ length bs → get_or bs at 0 ≡ c → behind c r (drop at bs) ≡ some (f bs (at + 1), drop (at + suc v) bs)
  command_forth bs at h e =
      let below : at < length bs = omega arith in
      let end : at + 1 + v ≡ at + suc v = omega arith in
      ap (behind c r) (byte_at bs at below)
      ∙ behind_cons (get_or bs at 0) (drop (at + 1) bs) e
      ∙ i.whole bs (at + 1) (omega arith)
      ∙ ap (λ (n : ℕ). some (f bs (at + 1), drop n bs)) end

  -- what is read there: a whole command
  pub record Command (bs : List ℕ) (at : ℕ) (k : List ℕ) : Type 0 where
    pub room : at + suc v ≤ length bs
    pub byte : get_or bs at 0 ≡ c
    pub rest : k ≡ drop (at + suc v) bs

  pub command_back : (bs : List ℕ) (at : ℕ) (a : A) (k : List ℕ) → behind c r (drop at bs) ≡ some (a, k) → Command bs at k
  command_back bs at a k e = ⊎_elim inside (λ l. past l) (within (suc at) (length bs))
    where
      past : length bs < suc at → Command bs at k
      past l =
          let end : length bs ≤ at = omega arith in
          absurd (none-ne-some (a, k) (sym (ap (behind c r) (drop_of_length-le bs end) ∙ behind_nil) ∙ e))

      inside : suc at ≤ length bs → Command bs at k
      inside l = by (eqb (get_or bs at 0) c) refl
        where
          there : behind c r (get_or bs at 0 ∷ drop (at + 1) bs) ≡ some (a, k)
          there = sym (ap (behind c r) (byte_at bs at l)) ∙ e

          by : (t : Bool) → eqb (get_or bs at 0) c ≡ t → Command bs at k
          by false q = absurd (none-ne-some (a, k) (sym (behind_other (get_or bs at 0) (drop (at + 1) bs) (eqb-false (get_or bs at 0) c q)) ∙ there))
          by true q = ⊎_elim fits cuts (within (at + suc v) (length bs))
            where
              byte : get_or bs at 0 ≡ c
              byte = eqb-true (get_or bs at 0) c q

              operands : r (drop (at + 1) bs) ≡ some (a, k)
              operands = sym (behind_cons (get_or bs at 0) (drop (at + 1) bs) byte) ∙ there

              fits : at + suc v ≤ length bs → Command bs at k
              fits h = record { room = h; byte = byte; rest = (same_read (sym operands ∙ sym (behind_cons (get_or bs at 0) (drop (at + 1) bs) byte) ∙ sym (ap (behind c r) (byte_at bs at l)) ∙ command_forth bs at h byte)).1 }

              cuts : length bs < at + suc v → Command bs at k
              cuts h = absurd (none-ne-some (a, k) (sym (i.cut bs (at + 1) (omega arith) (omega arith)) ∙ operands))

-- ---- a run of them

module _ {A : Type 0} {r : Reader A} {v : ℕ} {f : List ℕ → ℕ → A} (i : Fixed r v f) (c : ℕ) (bs : List ℕ) where
  tail : (at n : ℕ) → Run c (suc v) bs at (suc n) → Run c (suc v) bs (at + suc v) n
  tail at n x =
      let end : at + suc v + n * suc v ≡ at + suc n * suc v = omega arith in
      record {
        room = omega (arith, x.room);
        commands = λ j h.
            let o : at + suc v + j * suc v ≡ at + suc j * suc v = omega arith in
            ap (λ (p : ℕ). get_or bs p 0) o ∙ x.commands (suc j) (omega arith);
        stops = λ h e. x.stops (omega arith) (ap (λ (p : ℕ). get_or bs p 0) (sym end) ∙ e);
      }

  head : (at n : ℕ) → Run c (suc v) bs at (suc n) → (at + suc v ≤ length bs) × (get_or bs at 0 ≡ c)
  head at n x =
      let o : at ≡ at + 0 * suc v = omega arith in
      (omega (arith, x.room), ap (λ (p : ℕ). get_or bs p 0) o ∙ x.commands 0 (omega arith))

  at_most-cons : (g b : ℕ) (l : List ℕ) → b ≡ c → at_most (suc g) c r (b ∷ l) ≡ next r (at_most g c r) l
  unfolding at_most
  at_most-cons g b l e = rw (eq-eqb b c e, at_most)

  at_most_other : (g b : ℕ) (l : List ℕ) → (b ≡ c → ⊥) → at_most g c r (b ∷ l) ≡ some ([], b ∷ l)
  unfolding at_most
  at_most_other zero b l e = refl
  at_most_other (suc g) b l e = rw (ne_eqb b c e, at_most)

  at_most-nil : (g : ℕ) → at_most g c r [] ≡ some ([], [])
  unfolding at_most
  at_most-nil zero = refl
  at_most-nil (suc g) = refl

  -- another byte comes next, or none
  none_next : (g at : ℕ) → (at < length bs → get_or bs at 0 ≡ c → ⊥) → at_most g c r (drop at bs) ≡ some ([], drop at bs)
  none_next g at e = ⊎_elim inside past (within (suc at) (length bs))
    where
      inside : suc at ≤ length bs → at_most g c r (drop at bs) ≡ some ([], drop at bs)
      inside l =
          ap (at_most g c r) (byte_at bs at l)
          ∙ at_most_other g (get_or bs at 0) (drop (at + 1) bs) (e l)
          ∙ ap (λ (k : List ℕ). some ([], k)) (sym (byte_at bs at l))

      past : length bs < suc at → at_most g c r (drop at bs) ≡ some ([], drop at bs)
      past l =
          let end : length bs ≤ at = omega arith in
          ap (at_most g c r) (drop_of_length-le bs end) ∙ at_most-nil g ∙ ap (λ (k : List ℕ). some ([], k)) (sym (drop_of_length-le bs end))

  -- a command comes next
  one_next : (g at : ℕ) → at < length bs → get_or bs at 0 ≡ c → at_most (suc g) c r (drop at bs) ≡ next r (at_most g c r) (drop (at + 1) bs)
  one_next g at h e = ap (at_most (suc g) c r) (byte_at bs at h) ∙ at_most-cons g (get_or bs at 0) (drop (at + 1) bs) e

  operands_forth : (at : ℕ) → at + suc v ≤ length bs → r (drop (at + 1) bs) ≡ some (f bs (at + 1), drop (at + suc v) bs)
  operands_forth at h =
      let end : at + 1 + v ≡ at + suc v = omega arith in
      i.whole bs (at + 1) (omega arith) ∙ ap (λ (n : ℕ). some (f bs (at + 1), drop n bs)) end

  -- no command is next at its end: the run is what is read
  pub run_forth :
      (n g at : ℕ) → Run c (suc v) bs at n → n ≤ g → (get_or bs (at + n * suc v) 0 ≡ c → ⊥) →
      at_most g c r (drop at bs) ≡ some (run f bs (suc v) at n, drop (at + n * suc v) bs)
  unfolding items
  run_forth zero g at x h e =
      let o : at ≡ at + 0 * suc v = omega arith in
      none_next g at (λ l q. e (ap (λ (p : ℕ). get_or bs p 0) (sym o) ∙ q)) ∙ ap (λ (p : ℕ). some ([], drop p bs)) o
  run_forth (suc n) zero at x h e = absurd (omega arith)
  run_forth (suc n) (suc g) at x h e =
      let (room, byte) = head at n x in
      let end : at + suc v + n * suc v ≡ at + suc n * suc v = omega arith in
      let below : at < length bs = omega arith in
      let rest = run_forth n g (at + suc v) (tail at n x) (omega arith) (λ q. e (ap (λ (p : ℕ). get_or bs p 0) (sym end) ∙ q)) in
      one_next g at below byte
      ∙ mapped_forth (λ y. y.0 ∷ y.1) (r then at_most g c r) (then_forth r (at_most g c r) (operands_forth at room) rest)
      ∙ ap (λ (p : ℕ). some (run f bs (suc v) at (suc n), drop p bs)) end

  -- whatever is read, it is read up to the run's end
  pub run_back :
      (n g at : ℕ) → Run c (suc v) bs at n → length bs ≤ at + g → (l : List A) (k : List ℕ) →
      at_most g c r (drop at bs) ≡ some (l, k) → k ≡ drop (at + n * suc v) bs
  run_back zero g at x h l k e =
      let o : at ≡ at + 0 * suc v = omega arith in
      (same_read (sym e ∙ none_next g at (stuck g h e))).1 ∙ ap (λ (p : ℕ). drop p bs) o
    where
      stuck : (g : ℕ) → length bs ≤ at + g → at_most g c r (drop at bs) ≡ some (l, k) → at < length bs → get_or bs at 0 ≡ c → ⊥
      stuck zero h e b q = absurd (omega arith)
      stuck (suc g) h e b q = ⊎_elim fits cuts (within (at + suc v) (length bs))
        where
          fits : at + suc v ≤ length bs → ⊥
          fits m =
              let o : at + 0 * suc v ≡ at = omega arith in
              x.stops (omega arith) (ap (λ (p : ℕ). get_or bs p 0) o ∙ q)

          cuts : length bs < at + suc v → ⊥
          cuts m =
              let short = i.cut bs (at + 1) (omega arith) (omega arith) in
              let nothing = one_next g at b q ∙ mapped_none (λ y. y.0 ∷ y.1) (r then at_most g c r) (then_none r (at_most g c r) short) in
              none-ne-some (l, k) (sym nothing ∙ e)
  run_back (suc n) zero at x h l k e = let (room, byte) = head at n x in absurd (omega arith)
  run_back (suc n) (suc g) at x h l k e =
      let (room, byte) = head at n x in
      let end : at + suc v + n * suc v ≡ at + suc n * suc v = omega arith in
      let below : at < length bs = omega arith in
      let (y, value, read) = mapped_back (λ y. y.0 ∷ y.1) (r then at_most g c r) (drop (at + 1) bs) (sym (one_next g at below byte) ∙ e) in
      let (m, first, rest) = then_back r (at_most g c r) (drop (at + 1) bs) read in
      let there = (same_read (sym first ∙ operands_forth at room)).1 in
      run_back n g (at + suc v) (tail at n x) (omega arith) y.1 k (ap (at_most g c r) (sym there) ∙ rest)
      ∙ ap (λ (p : ℕ). drop p bs) end

-- ---- the byte behind a run

-- the byte at a place is one of these
abbrev pub Leads : List ℕ → List ℕ → ℕ → Type 0
Leads cs bs at = T (among cs (get_or bs at 0))

pub leads_run : (c w : ℕ) (bs cs : List ℕ) (at n : ℕ) → Run c w bs at n → Leads cs bs (at + n * w) → Leads (c ∷ cs) bs at
unfolding any
leads_run c w bs cs at zero x t =
    let o : at + 0 * w ≡ at = omega arith in
    by (eqb c (get_or bs at 0)) (subst (λ (p : ℕ). T (among cs (get_or bs p 0))) o t)
  where
    by : (b : Bool) → T (among cs (get_or bs at 0)) → T (elim b [ true ↦ true | false ↦ among cs (get_or bs at 0) ])
    by true t = tt
    by false t = t
leads_run c w bs cs at (suc n) x t =
    let o : at ≡ at + 0 * w = omega arith in
    let byte : get_or bs at 0 ≡ c = ap (λ (p : ℕ). get_or bs p 0) o ∙ x.commands 0 (omega arith) in
    rw (eq-eqb c (get_or bs at 0) (sym byte), any) tt

-- it is no other one
pub leads_away : (c : ℕ) (cs bs : List ℕ) (at : ℕ) → (T (among cs c) → ⊥) → Leads cs bs at → get_or bs at 0 ≡ c → ⊥
leads_away c cs bs at n t e = n (subst (λ (b : ℕ). T (among cs b)) e t)
