use Rattle.std.proofs.Common.{◌≡◌, map, drop}
use Rattle.tb_types.specs.Exprs.{judged, all_fit}
use Rattle.tb_types.specs.Scopes.{visible}
use Rattle.tb_types.proofs.exprs.+fits.Given as goal

-- the result depends on the remaining parts only
abbrev pub invariant-all_fit-loop-part : goal.invariant-all_fit-loop-part
invariant-all_fit-loop-part l = all_fit (map (judged (visible l.scope)) (drop l.part-index l.parts)) l.sort ≡ all_fit (map (judged (visible l.scope)) l.parts) l.sort
