-- What a chart shows of an entry: an arrow between whom, a mark at one of them, a rule across, or nothing.
use Rattle.std.specs.Prelude.{ℕ}
use Rattle.tb_log.specs.declared.entry.LabelKind.{LabelKind}
use Rattle.tb_log.specs.declared.entry.LabelKind.TheVariants as kind
use Rattle.tb_log.specs.declared.entry.Input.{Input}
use Rattle.tb_log.specs.declared.entry.Input.TheVariants as input
use Rattle.tb_log.specs.declared.entry.Out.{Out}
use Rattle.tb_log.specs.declared.entry.Out.TheVariants as out
use Rattle.tb_log.specs.declared.entry.Reply.TheVariants.{Took, Dropped}
use Rattle.tb_log.specs.declared.entry.Entry.{Entry}
use Rattle.tb_log.specs.declared.entry.Entry.TheVariants.{Did, Quiet, Fed, Gave}
use Rattle.tb_chart.specs.declared.figure.End.TheVariants.{Process, Child, Tool, Lane, Notes}
use Rattle.tb_chart.specs.declared.figure.ArrowKind.TheVariants as arrow
use Rattle.tb_chart.specs.declared.figure.Figure.{Figure}
use Rattle.tb_chart.specs.declared.figure.Figure.TheVariants.{Arrow, Mark, Stop, Lost, Time, Rule, Hidden}

-- A step of these two processes. What a process does alone is a mark, and the end of the bus a rule. The child is the process
-- that the step creates, the tool the one that its first term names.
abbrev pub step_figure : LabelKind → ℕ → ℕ → Figure
step_figure kind.Msg from to = Arrow arrow.Message (Process from) (Process to)
step_figure kind.Set from to = Mark (Process from)
step_figure kind.Tau from to = Mark (Process from)
step_figure kind.Printf from to = Mark (Process from)
step_figure kind.SndNote from to = Arrow arrow.Note (Process from) Notes
step_figure kind.RecNote from to = Arrow arrow.Note Notes (Process from)
step_figure kind.NoNote from to = Mark (Process from)
step_figure kind.Subscribe from to = Mark (Process from)
step_figure kind.Unsubscribe from to = Mark (Process from)
step_figure kind.Create from to = Arrow arrow.Start (Process from) Child
step_figure kind.Execute from to = Arrow arrow.Start (Process from) Tool
step_figure kind.RecConnect from to = Arrow arrow.Start Tool (Process from)
step_figure kind.RecDisconnect from to = Arrow arrow.End Tool (Process from)
step_figure kind.SndEval from to = Arrow arrow.Question (Process from) Tool
step_figure kind.RecValue from to = Arrow arrow.Answer Tool (Process from)
step_figure kind.SndDo from to = Arrow arrow.Order (Process from) Tool
step_figure kind.RecEvent from to = Arrow arrow.Event Tool (Process from)
step_figure kind.SndAckEvent from to = Arrow arrow.Answer (Process from) Tool
step_figure kind.SndTerminate from to = Arrow arrow.End (Process from) Tool
step_figure kind.Shutdown from to = Rule
step_figure kind.Finish from to = Rule
step_figure kind.Halt from to = Rule

-- an input that the bus took
abbrev pub taken_figure : Input → Figure
taken_figure input.Tick = Time
taken_figure input.NoTicks = Time
taken_figure (input.Line lane line) = Mark (Lane lane)
taken_figure (input.Gone lane) = Stop lane
taken_figure (input.Cut lane) = Stop lane

-- a dropped one: only the line of a tool is lost
abbrev pub dropped_figure : Input → Figure
dropped_figure input.Tick = Hidden
dropped_figure input.NoTicks = Hidden
dropped_figure (input.Line lane line) = Lost lane
dropped_figure (input.Gone lane) = Hidden
dropped_figure (input.Cut lane) = Hidden

-- What is handed out on a lane. The step that queued a line or an end is shown already.
abbrev pub given_figure : ℕ → Out → Figure
given_figure lane (out.Start command) = Mark (Lane lane)
given_figure lane (out.Line term) = Hidden
given_figure lane out.End = Hidden

-- an entry
abbrev pub figure : Entry → Figure
figure (Did label) = step_figure label.kind label.from.proc label.to.proc
figure Quiet = Hidden
figure (Fed input Took) = taken_figure input
figure (Fed input (Dropped why)) = dropped_figure input
figure (Gave lane out) = given_figure lane out
