-- What `Iterator::all` says of the list, in the definition's word.
use mathlib.Core.Path.{◌∙◌}
use borrow.Author.Rules.{rules}
use borrow.Author.Tests.{tests}
use Rattle.std.proofs.lemmas.Iterator.{YieldsList-from_slice}
use Rattle.std.proofs.lemmas.Iterator.Search.{all_from_yields_List}
use Rattle.laws.specs.Lists.{list_all-is_all}
use Rattle.checks.specs.Entries.{at_most}
use Rattle.checks.proofs.all_within.Goals as goal

pub returns : goal.returns
returns c =
    all_from_yields_List (at_most c.args.limit) _ _ c.all.result c.all.ensures.ran (YieldsList-from_slice c.args.v cc) (λ x b q k. search (rules, tests))
    ∙ list_all-is_all (at_most c.args.limit) c.args.v
