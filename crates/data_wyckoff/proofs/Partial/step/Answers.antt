-- By the byte's class.
use mathlib.Core.Path.{◌∙◌}
use native.Mathlib.Omega.{arith}
use Rattle.data_wyckoff.proofs.Steps.{step_plus, step_minus, step_slash, step_digit, step_axis, step_other}
use Rattle.data_wyckoff.proofs.Partial.step.Goals as goal

pub returns-in-43 : goal.returns-in-43
returns-in-43 c = c.on_sign.ensures ∙ step_plus c.args.self c.args.b c.in-43.is

pub returns-in-45 : goal.returns-in-45
returns-in-45 c = c.on_sign-in-45.ensures ∙ step_minus c.args.self c.args.b c.in-45.is

pub returns-in-47 : goal.returns-in-47
returns-in-47 c = c.on_slash.ensures ∙ step_slash c.args.self c.args.b c.in-47.is

pub returns-in-48-to-57 : goal.returns-in-48-to-57
returns-in-48-to-57 c =
    let a = c.args in
    c.on_digit.ensures ∙ step_digit a.self a.b (omega arith) (omega arith)

pub returns-in-120-to-122 : goal.returns-in-120-to-122
returns-in-120-to-122 c =
    let a = c.args in
    c.on_axis.ensures ∙ step_axis a.self a.b (omega arith) (omega arith)

pub returns-in_default : goal.returns-in_default
returns-in_default c = step_other c.args.self c.args.b (omega arith) (omega arith) (omega arith) (λ h g. omega arith) (λ h g. omega arith)

pub returns-in_default-2 : goal.returns-in_default-2
returns-in_default-2 c = step_other c.args.self c.args.b (omega arith) (omega arith) (omega arith) (λ h g. omega arith) (λ h g. omega arith)

pub returns-in_default-3 : goal.returns-in_default-3
returns-in_default-3 c = step_other c.args.self c.args.b (omega arith) (omega arith) (omega arith) (λ h g. omega arith) (λ h g. omega arith)
