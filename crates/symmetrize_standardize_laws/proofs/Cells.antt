-- Of the contracts of the whole call: what is told and what the lent cells hold.
use Rattle.std.specs.Prelude.{Result}
use Rattle.definitions.specs.declared.Refusal.{Refusal}
use Rattle.definitions.specs.declared.AnswerCounts.{AnswerCounts}
use Rattle.definitions.specs.Refusal.{Past, orbit_fit}
use Rattle.definitions.specs.Job.{Job}
use Rattle.definitions.specs.WholeCalls.{AnswerCells}
use Rattle.definitions.specs.WholeCalls.{ListsPromise, BytesPromise}
use Rattle.symmetrize_standardize_laws.specs.Calls.{BytesArguments, bytes_call, ListsArguments, lists_call}
use Rattle.symmetrize_standardize_laws.proofs.Whole.{whole_lists, whole_bytes}
use Rattle.symmetrize_standardize_laws.specs.Cells.{CellsAnswer, answered}

-- of the call on lists: its contract is `ListsPromise`
pub lists-answered :
    (x : ListsArguments) (j : Job) → lists_call.IsJob x j → Past orbit_fit (lists_call.conditions x) →
    (exit : AnswerCells) (told : Result AnswerCounts Refusal) → ListsPromise x.given x.entry exit told → CellsAnswer j x.entry exit told
lists-answered x j is past exit told = answered lists_call whole_lists x j is past _ _ x.entry exit (λ o h. (exit, h)) told

-- of the call on bytes: its contract is `BytesPromise`
pub bytes-answered :
    (x : BytesArguments) (j : Job) → bytes_call.IsJob x j → Past orbit_fit (bytes_call.conditions x) →
    (exit : AnswerCells) (told : Result AnswerCounts Refusal) → BytesPromise x.bytes x.entry exit told → CellsAnswer j x.entry exit told
bytes-answered x j is past exit told = answered bytes_call whole_bytes x j is past _ _ x.entry exit (λ o h. (exit, h)) told
