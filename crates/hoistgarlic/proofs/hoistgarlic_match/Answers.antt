-- `hoistgarlic_match`: the match of the position that the lent cells are.
use mathlib.Core.Path.{subst}
use Rattle.definitions.specs.SiteCalls.{MatchPromise}
use Rattle.hoistgarlic.proofs.hoistgarlic_match.Goals as goal

pub returns : goal.returns
returns c =
    let a = c.args in
    let r = c.match_coordinates-r.result in
    record {
      matching = r;
      promise =
          subst (λ p. MatchPromise a.basis.now p a.text.now a.symprec r)
          c.from.ensures
          c.match_coordinates-r.ensures;
      number = c.tell_match.ensures.0;
      offset = c.tell_match.ensures.1;
      length = c.tell_match.ensures.2;
    }
