-- `letter_groups`: room for the letters, and then what the step says.
use mathlib.Core.Path.{◌≡◌, sym, ap, ◌∙◌}
use mathlib.Core.Bool.{Bool}
use lib.ListN.{length, take}
use borrow.Author.Tests.{lt-ltb, le-ltb}
use Rattle.definitions.specs.Limits.{shorter_than}
use Rattle.symmetrize_wyckoff.specs.Given.{placed_of}
use Rattle.symmetrize_wyckoff.specs.Lettering.{lacks_room, assign_with}
use Rattle.symmetrize_wyckoff.proofs.Promise.{take_count, step_judged}
use Rattle.symmetrize_wyckoff.proofs.arguments.Placed.letter_groups.Goals as goal
use Rattle.symmetrize_wyckoff.proofs.arguments.Placed.letter_groups.Goals.{Start}

-- of the labels, as many as are given
counted : (s : Start) (b : Bool) → shorter_than s.args.n (length s.args.letters.now) ≡ b →
    shorter_than (length (take s.args.n s.args.orbits.now.labels.now)) (length s.args.letters.now) ≡ b
counted s b e =
    ap (λ m. shorter_than m (length s.args.letters.now)) (sym (take_count s.args.n s.args.orbits.now.labels.now s.requires.0)) ∙ e

pub returns-then-letters-n : goal.returns-then-letters-n
returns-then-letters-n c = lacks_room (counted (goal.at.returns-then-letters-n c).Start _ (lt-ltb (length c.args.letters.now) c.args.n c.if-letters-n.true))

pub returns : goal.returns
returns c =
    let a = c.args in
    let o = a.orbits.now in
    let r = c.assign_wyckoffs_by_orbit in
    step_judged (assign_with (placed_of a.self.now) (take a.n o.labels.now) (take a.n o.multiplicities.now)) a.letters.now
    r.new.letters r.result (counted (goal.at.returns c).Start _ (le-ltb (length a.letters.now) a.n c.if-letters-n.false))
    r.ensures.assigned r.ensures.refusal
