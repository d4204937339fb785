use Rattle.std.proofs.Common.{◌≡◌, drop}
use Rattle.std.specs.List.{list_any}
use Rattle.std.specs.Str.{bytes_eq}
use Rattle.tb_body.specs.declared.program.Tool.{Tool}
use Rattle.tb_living.proofs.speaking.has_kind.Given as goal

-- the kinds that are left decide
abbrev pub invariant-loop-kind : goal.invariant-loop-kind
invariant-loop-kind l = list_any (λ (tool : Tool). bytes_eq tool.name l.name) (drop l.kind-index l.kinds) ≡ list_any (λ (tool : Tool). bytes_eq tool.name l.name) l.kinds
