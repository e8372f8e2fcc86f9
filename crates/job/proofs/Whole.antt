-- The whole job by places: where L, T, C, the six runs, N and Z stand, the bytes are a job; and nowhere else.
use Prim.Native.Nat.{ℕ, suc, ◌+◌, ◌*◌, ◌≤◌}
use mathlib.Core.Path.{◌≡◌, sym, ap, ◌∙◌}
use mathlib.Core.List.{List, [], ◌∷◌}
use mathlib.Core.Option.{some}
use native.Mathlib.Omega.{arith}
use lib.ListN.{length, get_or, drop, length-drop, drop_of_length-le}
use lib.IntN.{ℤ}
use Rattle.definitions.specs.declared.JobCounts.{JobCounts}
use Rattle.definitions.specs.Lists.{any}
use Rattle.definitions.specs.Job.{Parts, SitePart, OperationPart}
use Rattle.job_laws.specs.Reader.{Reader, mapped, ◌then◌, mapped_forth, mapped_back, then_forth, then_back, behind, many, number, alone, closed}
use Rattle.job_laws.specs.Decode.{Opening, Body, read_lattice, read_transformation, read_centring, read_opening, read_sites, read_operation, read_entries, read_candidate, read_floats, read_body, read_parts, to_parts, ending, decode}
use Rattle.job_laws.proofs.Decode.{ending_is}
use Rattle.job.specs.Places.{parts_at, run, Run, Layout, Opens, Closes, entries_at, floats_at, sites_from, operations_from, images_from, targets_from, rotations_from, candidates_from, symprec_from}
use Rattle.job.proofs.Fixed.{Fixed, fixed_number, fixed_floats, fixed_entries, fixed_then, fixed_site, fixed_operation, fixed_candidate, fixed_nothing}
use Rattle.job.proofs.Runs.{command_forth, command_back, run_forth, run_back, Leads, leads_run, leads_away}

-- ---- readers one behind the other

-- the reader reads a from the front of the bytes, up to the place e
abbrev Reads : {A : Type 0} → Reader A → List ℕ → A → ℕ → Type 0
Reads r bs a e = r bs ≡ some (a, drop e bs)

-- whatever it reads, it stops at the place e
abbrev Stops : {A : Type 0} → Reader A → List ℕ → ℕ → Type 0
Stops {A} r bs e = (a : A) (k : List ℕ) → r bs ≡ some (a, k) → k ≡ drop e bs

-- it reads something
abbrev Succeeds : {A : Type 0} → Reader A → List ℕ → Type 0
Succeeds {A} r bs = (a : A) × (k : List ℕ) × (r bs ≡ some (a, k))

module _ {A B : Type 0} where
  first : (p : Reader A) (q : Reader B) {bs : List ℕ} → Succeeds (p then q) bs → Succeeds p bs
  first p q {bs} s =
      let (k, e₁, e₂) = then_back p q bs s.2 in
      (s.0.0, k, e₁)

  module _ (p : Reader A) {q : Reader B} {bs : List ℕ} {v : ℕ} {f : List ℕ → ℕ → B} (j : Fixed q v f) (c e n : ℕ) (x : Run c (suc v) bs e n) where
    reads_many : {a : A} → Reads p bs a e → (get_or bs (e + n * suc v) 0 ≡ c → ⊥) → Reads (p then many c q) bs (a, run f bs (suc v) e n) (e + n * suc v)
    reads_many r stop =
        let few : n ≤ length (drop e bs) = omega (arith, length-drop e bs, x.room) in
        then_forth p (many c q) r (run_forth j c bs n (length (drop e bs)) e x few stop)

    stops_many : Stops p bs e → Stops (p then many c q) bs (e + n * suc v)
    stops_many s z k read =
        let (m, e₁, e₂) = then_back p (many c q) bs read in
        let there : m ≡ drop e bs = s z.0 m e₁ in
        let enough : length bs ≤ e + length (drop e bs) = omega (arith, length-drop e bs) in
        run_back j c bs n (length (drop e bs)) e x enough z.1 k (sym (ap (λ (y : List ℕ). many c q y) there) ∙ e₂)

-- ---- L, T and C

abbrev fixed_shifted : Fixed (read_entries then read_floats 3) 33 (λ bs at. (entries_at bs at, floats_at 3 bs (at + 9)))
fixed_shifted = fixed_then fixed_entries (fixed_floats 3)

opening_forth : (bs : List ℕ) → Opens bs → Reads read_opening bs ((floats_at 9 bs 1, (entries_at bs 74, floats_at 3 bs 83)), entries_at bs 108) 117
opening_forth bs o =
    let l = command_forth (fixed_floats 9) 76 bs 0 (omega (arith, o.room)) o.lattice in
    let t = command_forth fixed_shifted 84 bs 73 (omega (arith, o.room)) o.transformation in
    let c = command_forth fixed_entries 67 bs 107 o.room o.centring in
    then_forth (read_lattice then read_transformation) read_centring (then_forth read_lattice read_transformation l t) c

-- what was read up to C
record Opened (bs : List ℕ) (k : List ℕ) : Type 0 where
  opens : Opens bs
  rest : k ≡ drop 117 bs

opening_back : (bs : List ℕ) (s : Succeeds read_opening bs) → Opened bs s.1
opening_back bs s =
    let (k₂, e₁, e₂) = then_back (read_lattice then read_transformation) read_centring bs s.2 in
    let (k₁, e₃, e₄) = then_back read_lattice read_transformation bs e₁ in
    let l = command_back (fixed_floats 9) 76 bs 0 s.0.0.0 k₁ e₃ in
    let t = command_back fixed_shifted 84 bs 73 s.0.0.1 k₂ (sym (ap read_transformation l.rest) ∙ e₄) in
    let c = command_back fixed_entries 67 bs 107 s.0.1 s.1 (sym (ap read_centring t.rest) ∙ e₂) in
    record {
      opens = record { room = c.room; lattice = l.byte; transformation = t.byte; centring = c.byte };
      rest = c.rest;
    }

-- ---- the six runs behind them

abbrev body₁ : Reader (Opening × List SitePart)
body₁ = read_opening then read_sites

abbrev body₂ : Reader ((Opening × List SitePart) × List OperationPart)
body₂ = body₁ then many 79 read_operation

abbrev body₃ : Reader (((Opening × List SitePart) × List OperationPart) × List ℕ)
body₃ = body₂ then many 80 (number 1)

abbrev body₄ : Reader ((((Opening × List SitePart) × List OperationPart) × List ℕ) × List OperationPart)
body₄ = body₃ then many 71 read_operation

abbrev body₅ : Reader (((((Opening × List SitePart) × List OperationPart) × List ℕ) × List OperationPart) × List (List ℤ))
body₅ = body₄ then many 82 read_entries

abbrev whole : Reader (Body × ℕ)
whole = read_body then behind 78 (number 8)

-- ---- they are a job

pub job_reads : (bs : List ℕ) (k : JobCounts) → Opens bs → Layout bs k → Closes bs (symprec_from k) → decode bs ≡ some (parts_at bs k)
unfolding decode read_parts parts_at closed any
job_reads bs k o x z =
    let n₆ : Leads (78 ∷ []) bs (symprec_from k) = rw z.symprec tt in
    let n₅ = leads_run 87 68 bs (78 ∷ []) (candidates_from k) k.candidates x.candidates n₆ in
    let n₄ = leads_run 82 10 bs (87 ∷ 78 ∷ []) (rotations_from k) k.rotations x.rotations n₅ in
    let n₃ = leads_run 71 34 bs (82 ∷ 87 ∷ 78 ∷ []) (targets_from k) k.targets x.targets n₄ in
    let n₂ = leads_run 80 2 bs (71 ∷ 82 ∷ 87 ∷ 78 ∷ []) (images_from k) k.images x.images n₃ in
    let n₁ = leads_run 79 34 bs (80 ∷ 71 ∷ 82 ∷ 87 ∷ 78 ∷ []) (operations_from k) k.operations x.operations n₂ in
    let r₁ = reads_many read_opening fixed_site 83 sites_from k.sites x.sites (opening_forth bs o) (leads_away 83 (79 ∷ 80 ∷ 71 ∷ 82 ∷ 87 ∷ 78 ∷ []) bs (operations_from k) (λ t. t) n₁) in
    let r₂ = reads_many body₁ fixed_operation 79 (operations_from k) k.operations x.operations r₁ (leads_away 79 (80 ∷ 71 ∷ 82 ∷ 87 ∷ 78 ∷ []) bs (images_from k) (λ t. t) n₂) in
    let r₃ = reads_many body₂ (fixed_number 1) 80 (images_from k) k.images x.images r₂ (leads_away 80 (71 ∷ 82 ∷ 87 ∷ 78 ∷ []) bs (targets_from k) (λ t. t) n₃) in
    let r₄ = reads_many body₃ fixed_operation 71 (targets_from k) k.targets x.targets r₃ (leads_away 71 (82 ∷ 87 ∷ 78 ∷ []) bs (rotations_from k) (λ t. t) n₄) in
    let r₅ = reads_many body₄ fixed_entries 82 (rotations_from k) k.rotations x.rotations r₄ (leads_away 82 (87 ∷ 78 ∷ []) bs (candidates_from k) (λ t. t) n₅) in
    let r₆ = reads_many body₅ fixed_candidate 87 (candidates_from k) k.candidates x.candidates r₅ (leads_away 87 (78 ∷ []) bs (symprec_from k) (λ t. t) n₆) in
    let n = command_forth (fixed_number 8) 78 bs (symprec_from k) (omega (arith, z.room)) z.symprec in
    let e = command_forth fixed_nothing 90 bs (symprec_from k + 9) (omega (arith, z.room)) z.ends in
    let end : length bs ≤ symprec_from k + 9 + 1 = omega (arith, z.room) in
    let body = then_forth read_body (behind 78 (number 8)) {bs = bs} r₆ n in
    let parts = mapped_forth to_parts whole {bs = bs} body in
    let ended = then_forth (mapped to_parts whole) (alone 90) {bs = bs} parts e in
    let all : read_parts bs ≡ some (parts_at bs k, drop (symprec_from k + 9 + 1) bs) =
    mapped_forth (λ y. y.0) (mapped to_parts whole then alone 90) {bs = bs} ended in
    ap ending (all ∙ ap (λ (l : List ℕ). some (parts_at bs k, l)) (drop_of_length-le bs end))

-- ---- nowhere else

record Read (bs : List ℕ) : Type 0 where
  body : Succeeds whole bs
  ends : alone 90 body.1 ≡ some (tt, [])

job_read : (bs : List ℕ) (p : Parts) → decode bs ≡ some p → Read bs
unfolding decode read_parts closed
job_read bs p e =
    let (y, value, read) = mapped_back (λ y. y.0) (mapped to_parts whole then alone 90) bs (ending_is (read_parts bs) p e) in
    let (m, e₁, e₂) = then_back (mapped to_parts whole) (alone 90) bs read in
    let (w, same, e₃) = mapped_back to_parts whole bs e₁ in
    record { body = (w, m, e₃); ends = e₂ }

pub job_opens : (bs : List ℕ) (p : Parts) → decode bs ≡ some p → Opens bs
job_opens bs p e =
    (opening_back bs
    (first read_opening read_sites
    (first body₁ (many 79 read_operation)
    (first body₂ (many 80 (number 1))
    (first body₃ (many 71 read_operation)
    (first body₄ (many 82 read_entries)
    (first body₅ (many 87 read_candidate)
    (first read_body (behind 78 (number 8)) (job_read bs p e).body)))))))
    ).opens

pub job_closes : (bs : List ℕ) (k : JobCounts) (p : Parts) → Layout bs k → decode bs ≡ some p → Closes bs (symprec_from k)
job_closes bs k p x e =
    let read = job_read bs p e in
    let s₀ : Stops read_opening bs 117 = λ a m q. (opening_back bs (a, m, q)).rest in
    let s₁ = stops_many read_opening fixed_site 83 sites_from k.sites x.sites s₀ in
    let s₂ = stops_many body₁ fixed_operation 79 (operations_from k) k.operations x.operations s₁ in
    let s₃ = stops_many body₂ (fixed_number 1) 80 (images_from k) k.images x.images s₂ in
    let s₄ = stops_many body₃ fixed_operation 71 (targets_from k) k.targets x.targets s₃ in
    let s₅ = stops_many body₄ fixed_entries 82 (rotations_from k) k.rotations x.rotations s₄ in
    let s₆ = stops_many body₅ fixed_candidate 87 (candidates_from k) k.candidates x.candidates s₅ in
    let (m, e₁, e₂) = then_back read_body (behind 78 (number 8)) bs read.body.2 in
    let there = s₆ _ m e₁ in
    let n = command_back (fixed_number 8) 78 bs (symprec_from k) _ read.body.1 (sym (ap (behind 78 (number 8)) there) ∙ e₂) in
    let z = command_back fixed_nothing 90 bs (symprec_from k + 9) tt [] (sym (ap (alone 90) n.rest) ∙ read.ends) in
    record {
      room = omega (arith, z.room, ap length z.rest, length-drop (symprec_from k + 9 + 1) bs);
      symprec = n.byte;
      ends = z.byte;
    }
