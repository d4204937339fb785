use Rattle.std.proofs.Common.{◌≡◌, drop, find}
use Rattle.std.specs.Str.{bytes_eq}
use Rattle.tb_body.specs.declared.program.Tool.{Tool}
use Rattle.tb_top.proofs.iface.tool_named.Given as goal

-- the tool is sought among those that are left
abbrev pub invariant-loop-tool : goal.invariant-loop-tool
invariant-loop-tool l = find (λ (tool : Tool). bytes_eq tool.name l.name) (drop l.tool-index l.tools) ≡ find (λ (tool : Tool). bytes_eq tool.name l.name) l.tools
