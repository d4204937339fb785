-- What a write end takes of an output, and the capacity that the text of a line needs.
use Rattle.std.specs.Prelude.{ℕ, List, []}
use Rattle.tb_terms.specs.declared.term.Term.{out-Term}
use Rattle.tb_terms.specs.Texts.{term_text}
use Rattle.tb_log.specs.declared.entry.Out.{Out}
use Rattle.tb_log.specs.declared.entry.Out.TheVariants as out
use Rattle.tb_log.specs.Shapes.{IsForTool}
use Rattle.tb_edge.specs.declared.given.Taken.{Taken}
use Rattle.tb_edge.specs.declared.given.Taken.TheVariants as taken

-- the output is a line in shape, and not a start or an end
abbrev pub IsLineInShape : Out → Type 0
IsLineInShape (out.Start command) = ⊥
IsLineInShape (out.Line term) = IsForTool (out-Term term)
IsLineInShape out.End = ⊥

-- the text of a line, without a newline; empty for a start or an end
abbrev pub line_text : Out → List ℕ
line_text (out.Start command) = []
line_text (out.Line term) = term_text term
line_text out.End = []

-- the most bytes of the text of a line in shape: 21 for each unit of its parts' size, and 64 for the name around the parts
abbrev pub most_line_text : ℕ
most_line_text = 1376320

-- the item that a write end takes: the command of a start, the text of a line, or an end
abbrev pub taken_of : Out → Taken
taken_of (out.Start command) = taken.Start command
taken_of (out.Line term) = taken.Line (term_text term)
taken_of out.End = taken.End
