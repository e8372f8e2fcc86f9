-- `shuffle::swap_down` meets its contract: what is left to do below i, from the state and the list as they are, makes
-- what was to be made.
use Rattle.std.proofs.Common.{ℕ, ◌<◌, ◌-◌, ◌+◌, ◌%◌, length, sym, ◌∙◌, arith}
use Rattle.std.proofs.lemmas.List.Edits.{swap_is}
use Rattle.definitions.specs.Shuffle.{top_bits}
use Rattle.shuffle_laws.specs.Shuffled.{mod_below, swap-next, swap_none}
use Rattle.shuffle.proofs.swap_down.Goals as goal
use Rattle.shuffle.proofs.swap_down.Goals.{After-step-state}

-- the entry that entry i is swapped with
other : After-step-state → ℕ
other c = top_bits c.step-state.result % (c.loop-i.i - 1 + 1)

other_within : (c : After-step-state) → other c < length c.loop-i.list
unfolding other
other_within c = mod_below _ (omega arith) (omega arith)

pub swap-requires : goal.swap-requires
unfolding other
swap-requires c = record { a_in_bounds = omega arith; b_in_bounds = other_within (goal.at.swap-requires c).After-step-state }

pub loop-i-preserved : goal.loop-i-preserved
unfolding other
loop-i-preserved c =
    let l = c.loop-i in
    let i = l.i - 1 in
    let s = (goal.at.loop-i-preserved c).After-step-state in
    let swapped = c.swap.ensures.after ∙ sym (swap_is l.list i (other s) 0 (omega arith) (other_within s)) in
    sym (swap-next i l.state l.list (omega arith) c.step-state.ensures swapped) ∙ l.invariant

pub returns : goal.returns
returns c =
    let l = c.loop-i in
    swap_none l.i l.state l.list (omega arith) ∙ l.invariant
