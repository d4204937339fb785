use Rattle.std.proofs.Common.{◌≡◌, map, drop}
use Rattle.tb_types.specs.Scopes.{sort_in, known_formal}
use Rattle.tb_types.proofs.scope.sort_of_formal.Given as goal

-- the result depends on the remaining parameters only
abbrev pub invariant-loop-formal : goal.invariant-loop-formal
invariant-loop-formal l = sort_in (map known_formal (drop l.formal-index l.formals)) l.name ≡ sort_in (map known_formal l.formals) l.name
