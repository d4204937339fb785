use Rattle.std.proofs.Common.{◌≡◌, drop, find}
use Rattle.std.specs.Str.{bytes_eq}
use Rattle.tb_body.specs.declared.program.Tool.{Tool}
use Rattle.tb_iface.proofs.of_program.kind_named.Given as goal

-- the kinds that are left decide
abbrev pub invariant-loop-kind : goal.invariant-loop-kind
invariant-loop-kind l = find (λ (kind : Tool). bytes_eq kind.name l.name) (drop l.kind-index l.kinds) ≡ find (λ (kind : Tool). bytes_eq kind.name l.name) l.kinds
