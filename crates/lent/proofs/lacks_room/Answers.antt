-- What `Iterator::any` says of the list, in the definition's word.
use mathlib.Core.Path.{◌∙◌}
use borrow.Author.Rules.{rules}
use borrow.Author.Tests.{tests}
use Rattle.std.proofs.lemmas.Iterator.{YieldsList-from_slice}
use Rattle.std.proofs.lemmas.Iterator.Search.{any_from_yields_List}
use Rattle.definitions.specs.Limits.{shorter_than}
use Rattle.laws.specs.Lists.{list_any-is_any}
use Rattle.lent.proofs.lacks_room.Goals as goal

pub returns : goal.returns
returns g c =
    let t = shorter_than c.args.answer in
    any_from_yields_List t _ _ c.any.result c.any.ensures.ran (YieldsList-from_slice c.args.rooms cc) (λ x b q k. search (rules, tests))
    ∙ list_any-is_any t c.args.rooms
