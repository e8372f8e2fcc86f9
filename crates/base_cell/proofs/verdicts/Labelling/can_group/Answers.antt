-- `can_group`: each return has tested what comes before it.
use Rattle.std.proofs.Common.{sym, ◌∙◌}
use Rattle.base_cell.proofs.verdicts.Labelling.can_group.Goals as goal

pub returns-then-bad_counts : goal.returns-then-bad_counts
returns-then-bad_counts c = rw (sym c.bad_counts.ensures ∙ c.if-bad_counts.true)

pub returns-then-bad_mapping : goal.returns-then-bad_mapping
returns-then-bad_mapping c =
    rw (sym c.bad_counts.ensures ∙ c.if-bad_counts.false, sym c.bad_mapping.ensures ∙ c.if-bad_mapping.true)

pub returns-then-lists_too_many : goal.returns-then-lists_too_many
returns-then-lists_too_many c =
    rw (sym c.bad_counts.ensures ∙ c.if-bad_counts.false, sym c.bad_mapping.ensures ∙ c.if-bad_mapping.false, sym c.lists_too_many.ensures ∙ c.if-lists_too_many.true)

pub returns : goal.returns
returns c =
    rw (sym c.bad_counts.ensures ∙ c.if-bad_counts.false, sym c.bad_mapping.ensures ∙ c.if-bad_mapping.false, sym c.lists_too_many.ensures ∙ c.if-lists_too_many.false, ← c.lacks_room.ensures)
