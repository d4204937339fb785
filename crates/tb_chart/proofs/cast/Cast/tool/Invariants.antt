use Rattle.std.proofs.Common.{◌≡◌, List, ℕ, drop}
use Rattle.std.specs.List.{list_any}
use Rattle.std.specs.Str.{bytes_eq}
use Rattle.tb_chart.proofs.cast.Cast.tool.Given as goal

-- the tools that are left decide
abbrev pub invariant-loop-tool : goal.invariant-loop-tool
invariant-loop-tool l =
    list_any (λ (tool : List ℕ). bytes_eq tool l.name) (drop l.tool-index l.self.tools.items)
    ≡ list_any (λ (tool : List ℕ). bytes_eq tool l.name) l.self.tools.items
