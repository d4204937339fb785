-- A measure of the parts of a process that decreases in each part, so the building ends.
use Rattle.std.proofs.Common.{ℕ, Option, option_map}
use Rattle.tb_body.specs.Trees.{or_no_levels}
use Rattle.tb_syntax.specs.declared.proc.Proc.{Proc}
use Rattle.tb_syntax.specs.declared.script.Script.{Script}
use Rattle.tb_expand.specs.Helpers.Sizes.{size_of, size_with}

abbrev pub levels_with : Script → ℕ → Proc → ℕ
levels_with script depth p = (size_with script (size_of script depth) p).levels

abbrev pub other_levels : Script → ℕ → Option Proc → ℕ
other_levels script depth p = or_no_levels (option_map (levels_with script depth) p)
