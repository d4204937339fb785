-- Which entries of a log are wrong. A log with a wrong entry has no chart. An `execute` that isn't wrong may be rejected too.
use Rattle.std.specs.Prelude.{◌≡◌, ◌⊎◌, ℕ, ◌+◌, ◌^◌, ◌<◌, ◌&&◌, ◌++◌, [], ◌∷◌, nat_le, Bool, true, false, List, length, Option, Some, None, IsTrue, ⊤}
use Rattle.std.specs.List.{list_any}
use Rattle.std.specs.Str.{bytes_eq}
use Rattle.tb_log.specs.Shapes.{lane_count}
use Rattle.tb_log.specs.declared.entry.Label.{Label}
use Rattle.tb_log.specs.declared.entry.LabelKind.{LabelKind}
use Rattle.tb_log.specs.declared.entry.LabelKind.TheVariants as kind
use Rattle.tb_log.specs.declared.entry.Input.{Input}
use Rattle.tb_log.specs.declared.entry.Input.TheVariants as input
use Rattle.tb_log.specs.declared.entry.ToolLine.{ToolLine}
use Rattle.tb_log.specs.declared.entry.ToolLine.TheVariants as line
use Rattle.tb_log.specs.declared.entry.Reply.TheVariants.{Took, Dropped}
use Rattle.tb_log.specs.declared.entry.Entry.{Entry}
use Rattle.tb_log.specs.declared.entry.Entry.TheVariants.{Did, Quiet, Fed, Gave}
use Rattle.tb_chart.specs.declared.cast.Cast.{Cast}
use Rattle.tb_chart.specs.declared.chart.Span.{Span}
use Rattle.tb_chart.specs.declared.fault.ChartFault.{ChartFault}
use Rattle.tb_chart.specs.declared.fault.ChartFault.TheVariants as fault
use Rattle.tb_chart.specs.declared.figure.End.{End}
use Rattle.tb_chart.specs.declared.figure.End.TheVariants.{Process, Child, Tool, Lane, Notes}
use Rattle.tb_chart.specs.Ends.{ends_of}
use Rattle.tb_chart.specs.Figures.{figure}
use Rattle.tb_chart.specs.Numbers.{numbered}
use Rattle.tb_chart.specs.Players.{created_by, players_after, players_of}
use Rattle.tb_chart.specs.Rows.{is_shown}
use Rattle.tb_chart.specs.Terms.{creates}
use Rattle.tb_chart.specs.Tools.{has_number, has_tool, tool_name, tools_after, tools_of}

-- a lane has a number from 1 to the number of lanes
abbrev pub is_lane : ℕ → ℕ → Bool
is_lane lanes lane = nat_le 1 lane && nat_le lane lanes

-- An end of a figure isn't there. `players` are the processes after the entry, and `tools` the names of the tools after it. A created
-- process has a number below 2 ^ 32.
abbrev pub IsAbsent : ℕ → List ℕ → List (List ℕ) → Entry → End → Type 0
IsAbsent lanes players tools entry (Process number) = numbered players number ≡ None
IsAbsent lanes players tools entry Child = (number : ℕ) → number < 2 ^ 32 → IsTrue (creates entry number) → numbered players number ≡ None
IsAbsent lanes players tools entry Tool = has_tool tools entry ≡ false
IsAbsent lanes players tools entry (Lane lane) = is_lane lanes lane ≡ false
IsAbsent lanes players tools entry Notes = ⊥

-- one of both ends isn't there
abbrev pub LacksEnd : ℕ → List ℕ → List (List ℕ) → Entry → Option (End × End) → Type 0
LacksEnd lanes players tools entry None = ⊥
LacksEnd lanes players tools entry (Some ends) = IsAbsent lanes players tools entry ends.0 ⊎ IsAbsent lanes players tools entry ends.1

-- a tool is declared with this name
abbrev pub declares : Cast → List ℕ → Bool
declares cast name = list_any (λ tool. bytes_eq tool name) cast.tools.items

-- there is a name, and a tool is declared with it
abbrev pub declares_one : Cast → Option (List ℕ) → Bool
declares_one cast None = false
declares_one cast (Some name) = declares cast name

-- a connect request by a name with which no tool is declared
abbrev pub IsStrange : Cast → ToolLine → Type 0
IsStrange cast (line.Value term) = ⊥
IsStrange cast (line.Event terms) = ⊥
IsStrange cast (line.Connect name) = declares cast name ≡ false
IsStrange cast line.Disconnect = ⊥
IsStrange cast line.Bad = ⊥

-- an accepted input of a lane that isn't there, or of a tool that isn't declared
abbrev pub IsLostInput : ℕ → Cast → Input → Type 0
IsLostInput lanes cast input.Tick = ⊥
IsLostInput lanes cast input.NoTicks = ⊥
IsLostInput lanes cast (input.Line lane line) = (is_lane lanes lane ≡ false) ⊎ IsStrange cast line
IsLostInput lanes cast (input.Gone lane) = is_lane lanes lane ≡ false
IsLostInput lanes cast (input.Cut lane) = is_lane lanes lane ≡ false

-- What is wrong with a step apart from its ends: it creates no process, its tool isn't declared, or no tool has its number.
abbrev pub IsLostStep : LabelKind → Cast → List ℕ → List (List ℕ) → Label → Type 0
IsLostStep kind.Create cast players tools label = created_by cast players label ≡ None
IsLostStep kind.Execute cast players tools label = declares_one cast (tool_name label.terms) ≡ false
IsLostStep kind.RecConnect cast players tools label = has_number tools label.terms ≡ false
IsLostStep kind.RecDisconnect cast players tools label = has_number tools label.terms ≡ false
IsLostStep kind.SndEval cast players tools label = has_number tools label.terms ≡ false
IsLostStep kind.SndDo cast players tools label = has_number tools label.terms ≡ false
IsLostStep kind.SndAckEvent cast players tools label = has_number tools label.terms ≡ false
IsLostStep kind.SndTerminate cast players tools label = has_number tools label.terms ≡ false
IsLostStep _ cast players tools label = ⊥

-- What is wrong with an entry apart from its ends. Before it the processes and the tools are these.
abbrev pub IsLost : ℕ → Cast → List ℕ → List (List ℕ) → Entry → Type 0
IsLost lanes cast players tools (Did label) = IsLostStep label.kind cast players tools label
IsLost lanes cast players tools Quiet = ⊥
IsLost lanes cast players tools (Fed input Took) = IsLostInput lanes cast input
IsLost lanes cast players tools (Fed input (Dropped why)) = ⊥
IsLost lanes cast players tools (Gave lane out) = is_lane lanes lane ≡ false

-- an entry is an `execute`
abbrev pub is_execute_kind : LabelKind → Bool
is_execute_kind kind.Execute = true
is_execute_kind _ = false

abbrev pub is_execute : Entry → Bool
is_execute (Did label) = is_execute_kind label.kind
is_execute Quiet = false
is_execute (Fed input reply) = false
is_execute (Gave lane out) = false

-- An entry with this number is wrong. Before it the processes and the tools are these. Only one that is shown must have its ends.
abbrev pub IsWrong : ℕ → Cast → Span → List ℕ → List (List ℕ) → ℕ → Entry → Type 0
IsWrong lanes cast span players tools number entry =
    IsLost lanes cast players tools entry
    ⊎ (IsTrue (is_shown span.from span.to number (figure entry))
    × LacksEnd lanes (players_after cast players entry) (tools_after tools entry) entry (ends_of (figure entry)))

-- An entry that may be rejected: a wrong one, or any `execute`, since nothing here says which lanes are free.
abbrev pub MayFail : ℕ → Cast → Span → List ℕ → List (List ℕ) → ℕ → Entry → Type 0
MayFail lanes cast span players tools number entry = IsWrong lanes cast span players tools number entry ⊎ IsTrue (is_execute entry)

-- None of the entries from this number on is wrong. Before them the processes and the tools are these.
abbrev pub AreRight : Cast → Span → List ℕ → List (List ℕ) → ℕ → List Entry → Type 0
AreRight cast span players tools number [] = ⊤
AreRight cast span players tools number (entry ∷ entries) =
    (IsWrong lane_count cast span players tools number entry → ⊥)
    × AreRight cast span (players_after cast players entry) (tools_after tools entry) (number + 1) entries

-- the line with this number, from 1 on, may be rejected, and no line before it is wrong
pub record IsRefusedAt (cast : Cast) (span : Span) (entries : List Entry) (number : ℕ) : Type 0 where
  pub before : List Entry
  pub entry : Entry
  pub after : List Entry
  pub parts : entries ≡ before ++ entry ∷ after
  pub place : number ≡ length before + 1
  pub right : AreRight cast span cast.roots.items [] 1 before
  pub wrong : MayFail lane_count cast span (players_of cast before) (tools_of before) number entry

-- the reason why these entries have no chart
abbrev pub IsRefused : Cast → Span → List Entry → ChartFault → Type 0
IsRefused cast span entries (fault.Line number) = IsRefusedAt cast span entries number
IsRefused cast span entries fault.NoMemory = ⊤
