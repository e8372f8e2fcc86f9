-- What `Iterator::all` says of the list, in the definition's word.
use mathlib.Core.Path.{◌∙◌}
use borrow.Author.Rules.{rules}
use borrow.Author.Tests.{tests}
use Rattle.std.proofs.lemmas.Iterator.{YieldsList-from_slice}
use Rattle.std.proofs.lemmas.Iterator.Search.{all_from_yields_List}
use Rattle.laws.specs.Lists.{list_all-is_all}
use Rattle.definitions.specs.Job.{float}
use Rattle.definitions.specs.Lists.{all}
use Rattle.checks.specs.Entries.{at_most}
use Rattle.checks.proofs.Laws.{within_lattice}
use Rattle.checks.proofs.lattice_within.Goals as goal

pub returns : goal.returns
returns c =
    all_from_yields_List (all (at_most (float 0x412e848000000000))) _ _ c.all.result c.all.ensures.ran (YieldsList-from_slice c.args.l cc) (λ x b q k. search (rules, tests))
    ∙ list_all-is_all (all (at_most (float 0x412e848000000000))) c.args.l
    ∙ (λ i. all (all (λ x. within_lattice x i)) c.args.l)
