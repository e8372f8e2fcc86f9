-- `put_letters`: the letters of the sites before j are written, and each of those sites has one.
use mathlib.Core.Path.{sym, ap, ◌∙◌}
use mathlib.Core.List.{map}
use native.Mathlib.Omega.{arith}
use lib.ListN.{length, get_or, length-map}
use Rattle.std.proofs.Common.{is_some, None}
use Rattle.std.specs.Option.{unwrap_or}
use Rattle.std.specs.Prelude.{is_ok}
use Rattle.std.specs.Result.{result_ok}
use Rattle.definitions.specs.declared.Refusal.TheVariants.{OrbitFit}
use Rattle.laws.specs.Filling.{put_step, put_end}
use Rattle.laws.specs.Lists.{map_at, all_pass, all_fail, all_end}
use Rattle.laws.specs.Tests.{never}
use Rattle.laws.specs.Verdicts.{passed_on}
use Rattle.symmetrize_wyckoff.specs.Prepared.{is_noted, noted_letter, Written}
use Rattle.symmetrize_wyckoff.proofs.Tables.{cell_is}
use Rattle.symmetrize_wyckoff.proofs.write.put_letters.Goals as goal

pub returns-in_err-letters-clause-written : goal.returns-in_err-letters-clause-written
returns-in_err-letters-clause-written c =
    let l = c.loop-j in
    let a = c.args in
    let t = a.table.now in
    let no =
    ap (λ k. is_some (get_or t k None)) (sym c.from.ensures)
    ∙ ap is_some (cell_is (get_or t c.from.result None) OrbitFit c.ok_or.result c.ok_or.ensures.value ∙ ap result_ok c.in_err-letters.was) in
    passed_on (λ r. Written a.labels.now t a.letters.now l.letters (is_ok r)) c.in_err-letters.field-0.0 c.from_residual.result
    c.from_residual.ensures.1
    (record {
      judged = sym (l.invariant.1 ∙ all_fail (is_noted t) 0 a.labels.now l.j (omega arith) no);
      written = λ e. absurd (never e);
    })

pub bounds-letters-j : goal.bounds-letters-j
bounds-letters-j c = omega (arith, c.requires.1)

pub loop-j-preserved : goal.loop-j-preserved
loop-j-preserved c =
    let l = c.loop-j in
    let ls = c.args.labels.now in
    let t = c.args.table.now in
    let f = noted_letter t in
    let cell =
    ap (λ k. get_or t k None) (sym c.from.ensures)
    ∙ cell_is (get_or t c.from.result None) OrbitFit c.ok_or.result c.ok_or.ensures.value
    ∙ ap result_ok c.in_ok-letters.was in (
      put_step 0 (map f ls) c.args.letters.now l.letters l.j c.in_ok-letters.field-0 l.invariant.0
          (omega (arith, length-map ls f)) (omega (arith, c.requires.1))
          (sym (map_at f ls l.j 0 0 (omega arith) ∙ ap (λ o. unwrap_or o 0) cell)),
      l.invariant.1 ∙ all_pass (is_noted t) 0 ls l.j (omega arith) (ap is_some cell),
    )

pub returns : goal.returns
returns c =
    let l = c.loop-j in
    let a = c.args in
    let ls = a.labels.now in
    let t = a.table.now in
    let f = noted_letter t in
    record {
      written = record {
        judged = all_end (is_noted t) ls l.j (omega arith) ∙ sym l.invariant.1;
        written = λ e. put_end 0 (map f ls) a.letters.now l.letters l.j (length ls) l.invariant.0 (length-map ls f) (omega arith);
      };
      refusal = tt;
    }
