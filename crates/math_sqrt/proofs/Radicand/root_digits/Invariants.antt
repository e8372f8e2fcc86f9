use Rattle.math_sqrt.specs.Root.{First}
use Rattle.math_sqrt.proofs.Radicand.root_digits.Given as goal

abbrev pub invariant-loop : goal.invariant-loop
invariant-loop l = First l.fn.self.w l.counter l.a.q l.a.rem l.rest
