-- The input with which a lane gave a line that a later step takes.
use Rattle.std.specs.Prelude.{◌≡◌, ℕ, List, Contains}
use Rattle.tb_terms.specs.declared.term.Term.{Term}
use Rattle.tb_log.specs.declared.entry.Entry.{Entry}
use Rattle.tb_log.specs.declared.entry.Entry.TheVariants.{Fed}
use Rattle.tb_log.specs.declared.entry.Input.TheVariants.{Line}
use Rattle.tb_log.specs.declared.entry.Reply.TheVariants.{Took}
use Rattle.tb_log.specs.declared.entry.ToolLine.{ToolLine}
use Rattle.tb_tool_line.specs.ToolLines.{line_of}

-- A lane gave the line that this term means, and the bus took the line.
pub record WasGiven (log : List Entry) (term : Term) : Type 0 where
  pub lane : ℕ
  pub line : ToolLine
  pub there : Contains log (Fed (Line lane line) Took)
  pub means : line ≡ line_of term
