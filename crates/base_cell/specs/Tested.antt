-- What is handed on past the verdict of the label call, and past the test of its step.
use Rattle.std.specs.Prelude.{ℕ, ◌≡◌, true, false, List, length, Result, Ok, Err, Option, Some, None}
use Rattle.definitions.specs.declared.Refusal.{Refusal}
use Rattle.definitions.specs.Refusal.{Checked}
use Rattle.definitions.specs.Limits.{shorter_than}
use Rattle.definitions.specs.Lists.{any}
use Rattle.definitions.specs.SiteCalls.{label_conditions}
use Rattle.base_cell.specs.Given.{arguments_of}
use Rattle.base_cell.specs.Grouping.{groupable}
use Rattle.base_cell.specs.declared.labels.Grouping.{Grouping}
use Rattle.base_cell.specs.declared.verdicts.Labelling.{Labelling}

-- what is grouped is what was given, and there is room for it
abbrev pub Groups : Labelling → List ℕ → Grouping → Type 0
Groups x rooms g = (g.labelling ≡ x) × (any (shorter_than (length g.labelling.mapping.now)) rooms ≡ false)

-- by the call's verdict
abbrev pub Accepted : Labelling → List ℕ → Result Grouping Refusal → Type 0
Accepted x rooms (Ok g) = Groups x rooms g × Checked (label_conditions (arguments_of x) rooms) (Ok tt)
Accepted x rooms (Err r) = Checked (label_conditions (arguments_of x) rooms) (Err r)

-- by the step's test
abbrev pub Tested : Labelling → List ℕ → Option Grouping → Type 0
Tested x rooms (Some g) = Groups x rooms g × (groupable (arguments_of x) rooms ≡ true)
Tested x rooms None = groupable (arguments_of x) rooms ≡ false
