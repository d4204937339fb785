use Rattle.std.proofs.Common.{◌≡◌, ◌++◌, map, drop}
use Rattle.tb_chart_cast.specs.Casts.{beside, role_of, seen_role}
use Rattle.tb_chart_cast.proofs.roles_of.Given as goal

-- the roles so far, followed by the roles of the remaining places, are all roles
abbrev pub invariant-loop-index : goal.invariant-loop-index
invariant-loop-index l = map seen_role l.roles.items ++ beside role_of l.bodies l.index (drop l.index l.places) ≡ beside role_of l.bodies 0 l.places
