use Rattle.std.proofs.Common.{◌≡◌, ◌++◌, drop}
use Rattle.tb_types.specs.Calls.{actuals_faults}
use Rattle.tb_types.specs.Scopes.{visible}
use Rattle.tb_types.proofs.calls.push_actuals.Given as goal

-- the violations of the remaining arguments come after the noted violations
abbrev pub invariant-loop-position : goal.invariant-loop-position
invariant-loop-position l =
    l.into ++ actuals_faults l.names.script.now (visible l.scope) l.manner l.formals l.position (drop l.position l.actuals)
    ≡ l.initial.into ++ actuals_faults l.names.script.now (visible l.scope) l.manner l.formals 0 l.actuals
