use Rattle.std.proofs.Common.{IsTrue, arith, sym, subst}
use Rattle.tb_chart.specs.declared.row.Who.{Who}
use Rattle.tb_chart.specs.Lifelines.{has_line, is_line_of, spot_at}
use Rattle.tb_chart.proofs.ColumnLemmas.{only_column}
use Rattle.tb_chart.proofs.LineLemmas.{column_notes, column_of_tool, column_process, notes_few}
use Rattle.tb_chart.proofs.lines.Lines.column.Goals as goal

pub returns-in-Process-clause-at : goal.returns-in-Process-clause-at
returns-in-Process-clause-at c =
    let lines = c.args.self.now in
    let column = c.unwrap_or.result in
    subst (λ (who : Who). IsTrue (has_line lines who) → IsTrue (is_line_of lines who (spot_at lines column))) (sym c.in-Process.is)
    (λ has. column_process c.in-Process.number lines c.process_place.result column c.process_place.ensures c.unwrap_or.ensures has)

pub returns-in-Notes-clause-at : goal.returns-in-Notes-clause-at
returns-in-Notes-clause-at c =
    let lines = c.args.self.now in
    let column = c.len.result in
    subst (λ (who : Who). IsTrue (has_line lines who) → IsTrue (is_line_of lines who (spot_at lines column))) (sym c.in-Notes.is)
    (λ has. column_notes lines column (omega (arith, c.len.ensures, lines.processes.ok.0)) has)

pub returns-in-Tool-clause-at : goal.returns-in-Tool-clause-at
returns-in-Tool-clause-at c =
    let lines = c.args.self.now in
    let column = c.saturating_add.result in
    subst (λ (who : Who). IsTrue (has_line lines who) → IsTrue (is_line_of lines who (spot_at lines column))) (sym c.in-Tool.is)
    (λ has.
    column_of_tool lines c.in-Tool.seat c.as_slice.result.now c.tool_place.result c.first_tool.result column c.as_slice.ensures.value
    c.tool_place.ensures
    (λ within. omega (
      arith,
      within,
      c.saturating_add.ensures,
      c.first_tool.ensures,
      notes_few lines,
      lines.processes.ok.0,
      lines.processes.ok.1,
      lines.processes.small,
      lines.tools.ok.0,
      lines.tools.ok.1,
      lines.tools.small,
    ))
    c.first_tool.ensures has)

pub returns-in-Process-clause-only : goal.returns-in-Process-clause-only
returns-in-Process-clause-only c = λ once known has.
    only_column c.args.self.now c.args.who c.unwrap_or.result (returns-in-Process-clause-at c has) once known

pub returns-in-Notes-clause-only : goal.returns-in-Notes-clause-only
returns-in-Notes-clause-only c = λ once known has.
    only_column c.args.self.now c.args.who c.len.result (returns-in-Notes-clause-at c has) once known

pub returns-in-Tool-clause-only : goal.returns-in-Tool-clause-only
returns-in-Tool-clause-only c = λ once known has.
    only_column c.args.self.now c.args.who c.saturating_add.result (returns-in-Tool-clause-at c has) once known
