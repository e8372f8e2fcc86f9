-- What is special is its own.
use Rattle.std.proofs.Common.{sym, rules}
use Rattle.math_round.specs.Rounded.{special_is_its_own}
use Rattle.math_round.proofs.cases.special.Goals as goal

pub returns-in-Special : goal.returns-in-Special
returns-in-Special c = (c.in-Special.ensures, sym (special_is_its_own c.args.x (search rules) c.in-Special.ensures))
