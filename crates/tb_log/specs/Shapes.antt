-- The entries that a log may have: their places, the number and size of their terms, and their lanes.
use Rattle.std.specs.Prelude.{◌≡◌, ℕ, ◌≤◌, Bool, ◌&&◌, ◌||◌, ◌==◌, nat_le, List, length, IsTrue, codes}
use Rattle.std.specs.List.{All}
use Rattle.std.specs.Str.{bytes_eq}
use Rattle.tb_terms.specs.Sizes.{most_term_size, IsWithinLimits}
use Rattle.tb_terms.specs.declared.term.Term.{Term, out-Term}
use Rattle.tb_terms.specs.declared.term.Term.TheOpen.{Term-F}
use Rattle.tb_terms.specs.declared.term.Term.TheOpen as layer
use Rattle.tb_log.specs.Limits.{terms_size}
use Rattle.tb_log.specs.declared.entry.Place.{Place}
use Rattle.tb_log.specs.declared.entry.LabelKind.{LabelKind}
use Rattle.tb_log.specs.declared.entry.LabelKind.TheVariants as kind
use Rattle.tb_log.specs.declared.entry.Label.{Label}
use Rattle.tb_log.specs.declared.entry.ToolLine.{ToolLine}
use Rattle.tb_log.specs.declared.entry.ToolLine.TheVariants as tool
use Rattle.tb_log.specs.declared.entry.Input.{Input}
use Rattle.tb_log.specs.declared.entry.Input.TheVariants as input
use Rattle.tb_log.specs.declared.entry.Out.{Out}
use Rattle.tb_log.specs.declared.entry.Out.TheVariants as out
use Rattle.tb_log.specs.declared.entry.Entry.{Entry}
use Rattle.tb_log.specs.declared.entry.Entry.TheVariants.{Did, Quiet, Fed, Gave}

-- no atom
abbrev pub nowhere : Place
nowhere = record { proc = 0; atom = 0 }

-- the places of a step: a message has two, `finish` and `halt` have none, and any other step has one; each place that the line doesn't
-- show is `nowhere`
abbrev pub HasPlaces : LabelKind → Place → Place → Type 0
HasPlaces kind.Msg from to = Unit {0}
HasPlaces kind.Finish from to = (from ≡ nowhere) × (to ≡ nowhere)
HasPlaces kind.Halt from to = (from ≡ nowhere) × (to ≡ nowhere)
HasPlaces kind from to = to ≡ nowhere

-- whether a step of this kind can show this many terms
abbrev pub has_terms : LabelKind → ℕ → Bool
has_terms kind.Msg count = nat_le 1 count
has_terms kind.Set count = count == 1
has_terms kind.Tau count = count == 0
has_terms kind.Printf count = count == 1
has_terms kind.SndNote count = nat_le 1 count
has_terms kind.RecNote count = nat_le 1 count
has_terms kind.NoNote count = count == 0
has_terms kind.Subscribe count = count == 0
has_terms kind.Unsubscribe count = count == 0
has_terms kind.Create count = count == 1
has_terms kind.Execute count = count == 1
has_terms kind.RecConnect count = count == 1
has_terms kind.RecDisconnect count = count == 1
has_terms kind.SndEval count = count == 2
has_terms kind.RecValue count = count == 2
has_terms kind.SndDo count = count == 2
has_terms kind.RecEvent count = nat_le 2 count
has_terms kind.SndAckEvent count = nat_le 2 count
has_terms kind.SndTerminate count = count == 2
has_terms kind.Shutdown count = count == 1
has_terms kind.Finish count = count == 0
has_terms kind.Halt count = count == 0

-- the label of a step has the places and the number of terms of its kind, and each term is within the limits
pub record IsLabelInShape (label : Label) : Type 0 where
  pub places : HasPlaces label.kind label.from label.to
  pub count : IsTrue (has_terms label.kind (length label.terms))
  pub terms : All IsWithinLimits label.terms

-- The parts of one line between the bus and a tool: each part is within the limits, and the total size of the parts is at most the
-- greatest size of a term. The name around the parts doesn't count.
pub record AreParts (parts : List Term) : Type 0 where
  pub each : All IsWithinLimits parts
  pub together : terms_size parts ≤ most_term_size

-- the greatest length of a tool's name: the size of the tool's term, which is the name with a number, is 2 larger, and at most the
-- greatest size of a term
abbrev pub most_tool_name : ℕ
most_tool_name = 65534

-- a line that a tool may send, or a bad line
abbrev pub IsToolLineInShape : ToolLine → Type 0
IsToolLineInShape (tool.Value term) = IsWithinLimits term
IsToolLineInShape (tool.Event terms) = (1 ≤ length terms) × AreParts terms
IsToolLineInShape (tool.Connect name) = length name ≤ most_tool_name
IsToolLineInShape tool.Disconnect = Unit {0}
IsToolLineInShape tool.Bad = Unit {0}

-- the names of the four lines for a tool, with the number of their parts: an acknowledged event has at least one part, each other
-- line exactly one
abbrev pub has_parts : List ℕ → ℕ → Bool
has_parts name count =
    (bytes_eq name (codes "rec-eval") && (count == 1)) || (bytes_eq name (codes "rec-do") && (count == 1))
    || (bytes_eq name (codes "rec-terminate") && (count == 1)) || (bytes_eq name (codes "rec-ack-event") && nat_le 1 count)

-- a term that the bus may send to a tool as a line
abbrev pub IsForTool : Term-F Term → Type 0
IsForTool (layer.Int number) = ⊥
IsForTool (layer.Str bytes) = ⊥
IsForTool (layer.Appl name parts) = IsTrue (has_parts name (length parts)) × AreParts parts
IsForTool (layer.List parts) = ⊥

-- an output that a bus may send: any command, a line for a tool, the end
abbrev pub IsOutInShape : Out → Type 0
IsOutInShape (out.Start command) = Unit {0}
IsOutInShape (out.Line term) = IsForTool (out-Term term)
IsOutInShape out.End = Unit {0}

-- the number of lanes
abbrev pub lane_count : ℕ
lane_count = 16

-- the numbers of lanes: from 1 to `lane_count`
abbrev pub IsLane : ℕ → Type 0
IsLane lane = (1 ≤ lane) × (lane ≤ lane_count)

-- an input that a log may have
abbrev pub IsInputInShape : Input → Type 0
IsInputInShape input.Tick = Unit {0}
IsInputInShape input.NoTicks = Unit {0}
IsInputInShape (input.Line lane line) = IsLane lane × IsToolLineInShape line
IsInputInShape (input.Gone lane) = IsLane lane
IsInputInShape (input.Cut lane) = IsLane lane

-- an entry that a log may have
abbrev pub InShape : Entry → Type 0
InShape (Did label) = IsLabelInShape label
InShape Quiet = Unit {0}
InShape (Fed input reply) = IsInputInShape input
InShape (Gave lane out) = IsLane lane × IsOutInShape out
