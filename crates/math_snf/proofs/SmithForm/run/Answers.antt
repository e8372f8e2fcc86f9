-- `run`: the three stages are the run, up to the one that leaves the range.
use Rattle.std.proofs.Common.{rules, ℕ, ◌≡◌, Bool, true, false, subst, Result, Ok, Err, MatchResult}
use Rattle.std.specs.Result.{IsErrAnd}
use Rattle.std.proofs.lemmas.Result.{MatchResult-weaker, MatchResult-at_ok, MatchResult-at_err, err_from_is_err_and}
use Rattle.definitions.specs.declared.Stages.{Stages}
use Rattle.definitions.specs.Matrix.{Matrix}
use Rattle.definitions.specs.Snf.{start}
use Rattle.math_snf.specs.Step.{state_of, EndedIn}
use Rattle.math_snf.proofs.Stages.{ran_first, ran_second, ran_third, ran}
use Rattle.math_snf.proofs.SmithForm.run.Goals.{After-map_err, After-map_err-2, After-map_err-3}
use Rattle.math_snf.proofs.SmithForm.run.Goals as goal

-- what a stage's end says of s, its passes counted as f tells
abbrev Told : Result ℕ Stages → (Bool → ℕ → Type 0) → (ℕ → Stages) → Type 0
Told s E f = MatchResult s (E true) (λ d. (n : ℕ) × (d ≡ f n) × E false n)

told : (E : Bool → ℕ → Type 0) (r : Result ℕ ℕ) (s : Result ℕ Stages) (post : ℕ → Stages → Type 0) (f : ℕ → Stages) → ((n : ℕ) (d : Stages) → post n d → d ≡ f n) → MatchResult r (E true) (E false) → MatchResult r (λ n. s ≡ Ok n) (λ n. IsErrAnd s (post n)) → Told s E f
told E (Ok n) s post f h p e = rw e p
told E (Err n) s post f h q e = let y = err_from_is_err_and s e in rw y.1 (n, h n y.0 y.2, q)

told_ok : (E : Bool → ℕ → Type 0) (s : Result ℕ Stages) (f : ℕ → Stages) (n : ℕ) → s ≡ Ok n → Told s E f → E true n
told_ok E s f n e h = MatchResult-at_ok (E true) (λ d. (n : ℕ) × (d ≡ f n) × E false n) n e h

told_err : (E : Bool → ℕ → Type 0) (s : Result ℕ Stages) (f : ℕ → Stages) (d : Stages) → s ≡ Err d → Told s E f → (n : ℕ) × (d ≡ f n) × E false n
told_err E s f d e h = MatchResult-at_err (E true) (λ d. (n : ℕ) × (d ≡ f n) × E false n) d e h

-- the first stage begins at D = m, L and R the identity
abbrev first_end : After-map_err → Bool → ℕ → Type 0
first_end c b n = EndedIn 0 (start c.args.m) b n (state_of c.stage.new.self)

abbrev first_count : ℕ → Stages
first_count n = record { first = n; second = 0; third = 0 }

first : (c : After-map_err) → Told c.map_err.result (first_end c) first_count
first c =
    let begun : (b : Bool) (n : ℕ) → EndedIn 0 (start c.widened.result) b n (state_of c.stage.new.self) → first_end c b n = λ b n h. subst (λ (x : Matrix). EndedIn 0 (start x) b n (state_of c.stage.new.self)) c.widened.ensures h in
    told (first_end c) c.stage.result c.map_err.result _ first_count (λ n d q. search rules)
    (MatchResult-weaker c.stage.result c.stage.ensures (begun true) (begun false))
    c.map_err.ensures.cases

abbrev second_end : After-map_err-2 → Bool → ℕ → Type 0
second_end c b n = EndedIn 1 (state_of c.stage.new.self) b n (state_of c.stage-2.new.self)

abbrev second_count : After-map_err-2 → ℕ → Stages
second_count c n = record { first = c.in_ok-first.first; second = n; third = 0 }

second : (c : After-map_err-2) → Told c.map_err-2.result (second_end c) (second_count c)
second c = told (second_end c) c.stage-2.result c.map_err-2.result _ (second_count c) (λ n d q. search rules) c.stage-2.ensures c.map_err-2.ensures.cases

abbrev third_end : After-map_err-3 → Bool → ℕ → Type 0
third_end c b n = EndedIn 2 (state_of c.stage-2.new.self) b n (state_of c.stage-3.new.self)

abbrev third_count : After-map_err-3 → ℕ → Stages
third_count c n = record { first = c.in_ok-first.first; second = c.in_ok-second.second; third = n }

third : (c : After-map_err-3) → Told c.map_err-3.result (third_end c) (third_count c)
third c = told (third_end c) c.stage-3.result c.map_err-3.result _ (third_count c) (λ n d q. search rules) c.stage-3.ensures c.map_err-3.ensures.cases

pub returns-in_err-first : goal.returns-in_err-first
returns-in_err-first c =
    let a = (goal.at.returns-in_err-first c).After-map_err in
    let p = err_from_is_err_and c.from_residual.result c.from_residual.ensures.1 in
    let w = told_err (first_end a) c.map_err.result first_count c.in_err-first.field-0.0 c.in_err-first.was (first a) in
    rw (p.1, p.2, w.1) (ran_first c.args.m _ w.0 w.2)

pub returns-in_err-second : goal.returns-in_err-second
returns-in_err-second c =
    let a = (goal.at.returns-in_err-second c).After-map_err in
    let b = (goal.at.returns-in_err-second c).After-map_err-2 in
    let p = err_from_is_err_and c.from_residual-in_err-second.result c.from_residual-in_err-second.ensures.1 in
    let w = told_err (second_end b) c.map_err-2.result (second_count b) c.in_err-second.field-0.0 c.in_err-second.was (second b) in
    rw (p.1, p.2, w.1)
    (ran_second c.args.m _ _ c.in_ok-first.first w.0 (told_ok (first_end a) c.map_err.result first_count c.in_ok-first.first c.in_ok-first.was (first a)) w.2)

pub returns-in_err-third : goal.returns-in_err-third
returns-in_err-third c =
    let a = (goal.at.returns-in_err-third c).After-map_err in
    let b = (goal.at.returns-in_err-third c).After-map_err-2 in
    let e = (goal.at.returns-in_err-third c).After-map_err-3 in
    let p = err_from_is_err_and c.from_residual-in_err-third.result c.from_residual-in_err-third.ensures.1 in
    let w = told_err (third_end e) c.map_err-3.result (third_count e) c.in_err-third.field-0.0 c.in_err-third.was (third e) in
    rw (p.1, p.2, w.1)
    (ran_third c.args.m _ _ _ c.in_ok-first.first c.in_ok-second.second w.0
    (told_ok (first_end a) c.map_err.result first_count c.in_ok-first.first c.in_ok-first.was (first a))
    (told_ok (second_end b) c.map_err-2.result (second_count b) c.in_ok-second.second c.in_ok-second.was (second b))
    w.2)

pub returns : goal.returns
returns c =
    let a = (goal.at.returns c).After-map_err in
    let b = (goal.at.returns c).After-map_err-2 in
    let e = (goal.at.returns c).After-map_err-3 in
    rw c.counted.ensures
    (ran c.args.m _ _ _ c.in_ok-first.first c.in_ok-second.second c.in_ok-third.third
    (told_ok (first_end a) c.map_err.result first_count c.in_ok-first.first c.in_ok-first.was (first a))
    (told_ok (second_end b) c.map_err-2.result (second_count b) c.in_ok-second.second c.in_ok-second.was (second b))
    (told_ok (third_end e) c.map_err-3.result (third_count e) c.in_ok-third.third c.in_ok-third.was (third e)))
