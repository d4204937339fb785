use Rattle.std.proofs.Common.{◌≡◌, map, drop}
use Rattle.tb_types.specs.Scopes.{sort_in, known_var}
use Rattle.tb_types.proofs.scope.sort_of_var.Given as goal

-- the result depends on the remaining variables only
abbrev pub invariant-loop-var : goal.invariant-loop-var
invariant-loop-var l = sort_in (map known_var (drop l.var-index l.vars)) l.name ≡ sort_in (map known_var l.vars) l.name
