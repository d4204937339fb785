-- What a log shows of a pipe that serves lane 1 of its bus: the terms of the tool's `rec-do` lines, its events, and the lines of a tool
-- that sends just such events.
use Rattle.std.specs.Prelude.{Bool, true, false, List, [], ◌∷◌, Option, Some, None, if◌then◌else◌, codes}
use Rattle.std.specs.List.{filter_map}
use Rattle.std.specs.Str.{bytes_eq}
use Rattle.tb_terms.specs.declared.term.Term.{Term, out-Term}
use Rattle.tb_terms.specs.declared.term.Term.TheOpen.{Term-F}
use Rattle.tb_terms.specs.declared.term.Term.TheOpen as layer
use Rattle.tb_log.specs.declared.entry.ToolLine.TheVariants as tool
use Rattle.tb_log.specs.declared.entry.Input.{Input}
use Rattle.tb_log.specs.declared.entry.Input.TheVariants as input
use Rattle.tb_log.specs.declared.entry.Out.{Out}
use Rattle.tb_log.specs.declared.entry.Out.TheVariants as out
use Rattle.tb_log.specs.declared.entry.Entry.{Entry}
use Rattle.tb_log.specs.Lanes.{handed, inputs}

-- the term t of the line rec-do(t)
abbrev pub told_in : Term-F Term → Option Term
told_in (layer.Int number) = None
told_in (layer.Str bytes) = None
told_in (layer.Appl name []) = None
told_in (layer.Appl name (t ∷ [])) = if bytes_eq name (codes "rec-do") then Some t else None
told_in (layer.Appl name (t ∷ u ∷ ts)) = None
told_in (layer.List parts) = None

-- the term of an item that is a `rec-do` line
abbrev pub told_by : Out → Option Term
told_by (out.Start command) = None
told_by (out.Line term) = told_in (out-Term term)
told_by out.End = None

-- the terms of all `rec-do` lines that are sent to the tool of lane 1, in order
abbrev pub does : List Entry → List Term
does log = filter_map told_by (handed log 1)

-- the term of an event of one term
abbrev pub event_in : Input → Option Term
event_in input.Tick = None
event_in input.NoTicks = None
event_in (input.Line at (tool.Value t)) = None
event_in (input.Line at (tool.Event [])) = None
event_in (input.Line at (tool.Event (t ∷ []))) = Some t
event_in (input.Line at (tool.Event (t ∷ u ∷ ts))) = None
event_in (input.Line at (tool.Connect name)) = None
event_in (input.Line at tool.Disconnect) = None
event_in (input.Line at tool.Bad) = None
event_in (input.Gone at) = None
event_in (input.Cut at) = None

-- all events of one term of lane 1, in order, whatever their replies
abbrev pub events : List Entry → List Term
events log = filter_map event_in (inputs log 1)

-- the connect request of the tool `pipe`
abbrev pub connect : Input
connect = input.Line 1 (tool.Connect (codes "pipe"))

-- the event of this term
abbrev pub event_of : Term → Input
event_of t = input.Line 1 (tool.Event (t ∷ []))

-- the disconnect request
abbrev pub disconnect : Input
disconnect = input.Line 1 tool.Disconnect

-- the events of these terms, and then the disconnect request if the tool leaves
abbrev pub lines_of : List Term → Bool → List Input
lines_of [] false = []
lines_of [] true = disconnect ∷ []
lines_of (t ∷ ts) leaves = event_of t ∷ lines_of ts leaves
