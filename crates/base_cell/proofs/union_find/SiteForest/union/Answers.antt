-- `union`: sites of one parent are joined already; else one of the two roots becomes the other's parent, and that of i and j.
use Rattle.std.proofs.Common.{ℕ, ◌≤◌, ◌<◌, ◌≡◌, List, set, arith}
use Rattle.base_cell.specs.Trees.{Forest, root, Pair, Linked, linked_already, linked_pair, linked_flip}
use Rattle.base_cell.proofs.union_find.SiteForest.union.Goals as goal

-- the root a of i under the root v of j
under :
    {par : List ℕ} → Forest 256 par → (i j : ℕ) {a v : ℕ} → i < 256 → j < 256 → a ≡ root par i → v ≡ root par j → v ≤ a →
    Linked 256 (Pair i j) par (set (set (set par a v) i v) j v)
under f i j hi hj of-i of-j order = rw (of-i, of-j) (linked_pair f i j hi hj (omega (arith, of-i, of-j)))

pub returns-then-self-p : goal.returns-then-self-p
returns-then-self-p c =
    linked_already c.args.self.now.tree c.args.i.0 c.args.j.0 c.requires.0 c.requires.1 c.if-self-p.true

pub invariant_of-self : goal.invariant_of-self
invariant_of-self c =
    record { tree = (under c.args.self.now.tree c.args.j.0 c.args.i.0 c.requires.1 c.requires.0 c.find-b.ensures.0 c.find-a.ensures.0 (omega arith)).forest }

pub invariant_of-self-else-x-y : goal.invariant_of-self-else-x-y
invariant_of-self-else-x-y c =
    record { tree = (under c.args.self.now.tree c.args.i.0 c.args.j.0 c.requires.0 c.requires.1 c.find-a.ensures.0 c.find-b.ensures.0 (omega arith)).forest }

pub returns-then-x-y : goal.returns-then-x-y
returns-then-x-y c =
    linked_flip (under c.args.self.now.tree c.args.j.0 c.args.i.0 c.requires.1 c.requires.0 c.find-b.ensures.0 c.find-a.ensures.0 (omega arith))

pub returns-else-x-y : goal.returns-else-x-y
returns-else-x-y c =
    under c.args.self.now.tree c.args.i.0 c.args.j.0 c.requires.0 c.requires.1 c.find-a.ensures.0 c.find-b.ensures.0 (omega arith)
