-- What calls change as a log goes on: the lifelines, and the processes.
use Rattle.std.specs.Prelude.{◌≡◌, ◌≢◌, ◌⊎◌, ◌<◌, ◌≤◌, ℕ, ◌==◌, nat_eq, List, [], ◌∷◌, ◌++◌, length, map, slice_get, slice_index_or, slice_set, ◌+◌, ◌^◌, Bool, true, false, ◌&&◌, Option, Some, None, is_some, option_and_then, All, IsTrue, ⊤, if◌then◌else◌}
use Rattle.std.specs.List.{AllPairs, list_any}
use Rattle.std.specs.Option.{option_eq}
use Rattle.tb_chart.specs.declared.chart.Span.{Span}
use Rattle.tb_chart.specs.declared.fault.ChartFault.{ChartFault}
use Rattle.tb_chart.specs.declared.fault.ChartFault.TheVariants as fault
use Rattle.tb_chart.specs.declared.lines.Lines.{Lines}
use Rattle.tb_chart.specs.declared.lines.ProcessLine.{ProcessLine}
use Rattle.tb_log.specs.declared.entry.Entry.{Entry}
use Rattle.tb_chart.specs.declared.row.Row.{Row}
use Rattle.tb_chart.specs.declared.row.Seat.{Seat}
use Rattle.tb_chart.specs.declared.scene.Scene.{Scene}
use Rattle.tb_chart.specs.declared.row.Who.{Who}
use Rattle.tb_chart.specs.declared.row.Who.TheVariants as who
use Rattle.tb_chart.specs.declared.drawn.Drawn.{Drawn}
use Rattle.tb_chart.specs.Drawn.{are_ticks, joined}
use Rattle.tb_chart.specs.declared.figure.End.{End}
use Rattle.tb_chart.specs.Ends.{ends_of}
use Rattle.tb_chart.specs.Figures.{figure}
use Rattle.tb_chart.specs.Lifelines.{HasBody, HasOnly, OfTwoTools, has_line, is_needed, is_tool, place_of}
use Rattle.tb_chart.specs.Numbers.{numbered}
use Rattle.tb_chart.specs.Players.{players_after}
use Rattle.tb_chart.specs.Refused.{IsAbsent, IsLost, IsWrong, LacksEnd, MayFail, is_execute, is_lane}
use Rattle.tb_chart.specs.Tools.{has_number, has_tool, tool_number, tools_after}
use Rattle.tb_terms.specs.declared.term.Term.{Term}

-- the lifeline is that of this tool, on its lane and with its name
abbrev pub is_seat : Seat → Seat → Bool
is_seat seat line = line.lane == seat.lane && option_eq nat_eq line.kind seat.kind

abbrev pub is_seat_in : Seat → Option Seat → Bool
is_seat_in seat None = false
is_seat_in seat (Some line) = is_seat seat line

-- a process is one of them
abbrev pub is_player : List ℕ → Who → Bool
is_player players (who.Process number) = is_some (numbered players number)
is_player players (who.Tool seat) = true
is_player players who.Notes = true

-- each process of these is one of them
abbrev pub are_players : List ℕ → Option (Who × Who) → Bool
are_players players None = true
are_players players (Some ends) = is_player players ends.0 && is_player players ends.1

-- the lifelines of all processes are where they were
abbrev pub SamePlaces : List (Option ℕ) → List (Option ℕ) → Type 0
SamePlaces old new = (number : ℕ) → place_of new number ≡ place_of old number

-- the lifeline of the process with this number is at this place, and all others are where they were
pub record Puts (number place : ℕ) (old new : List (Option ℕ)) : Type 0 where
  pub placed : number ≢ 0 → place_of new number ≡ Some place
  pub others : (other : ℕ) → other ≢ number → place_of new other ≡ place_of old other

-- this tool has a lifeline now, each that had one still has, and none has two
pub record AddsTool (seat : Seat) (old new : List Seat) : Type 0 where
  pub there : IsTrue (list_any (is_tool seat) new)
  pub stays : (other : Seat) → IsTrue (list_any (is_tool other) old) → IsTrue (list_any (is_tool other) new)
  pub apart : AllPairs OfTwoTools old → AllPairs OfTwoTools new
  pub only : (test : Seat → Bool) → IsTrue (test seat) → All (λ line. IsTrue (test line)) old → All (λ line. IsTrue (test line)) new

-- each that had a lifeline still has
abbrev pub Stay : Lines → Lines → Type 0
Stay old new = (it : Who) → IsTrue (has_line old it) → IsTrue (has_line new it)

-- each lifeline of a process is at the place of its process
abbrev pub Placed : List ProcessLine → List (Option ℕ) → Type 0
Placed processes places = (index : ℕ) (line : ProcessLine) → index < length processes
    → place_of places (slice_index_or processes index line).number ≡ Some index

-- each lifeline of a process has its definition and its place, and no tool has two
pub record Sound (players : List ℕ) (lines : Lines) : Type 0 where
  pub bodies : All (HasBody players) lines.processes.items
  pub placed : Placed lines.processes.items lines.places.items
  pub tools : AllPairs OfTwoTools lines.tools.items

-- this one has a lifeline now, if it is a process then one of the bus
pub record Adds (players : List ℕ) (it : Who) (old new : Lines) : Type 0 where
  pub there : IsTrue (is_player players it) → IsTrue (has_line new it)
  pub stay : Stay old new
  pub sound : Sound players old → Sound players new
  pub only : (test : Who → Bool) → IsTrue (test it) → HasOnly test old → HasOnly test new

-- both ends of a row pass the test
abbrev pub are_all : (Who → Bool) → Option (Who × Who) → Bool
are_all test None = true
are_all test (Some ends) = test ends.0 && test ends.1

-- lifelines that pass the test stay so, if those of processes do that are there
abbrev pub OnlyPlayers : ℕ → Lines → Lines → Type 0
OnlyPlayers many old new = (test : Who → Bool) → ((number : ℕ) → 1 ≤ number → number ≤ many → IsTrue (test (who.Process number)))
    → HasOnly test old → HasOnly test new

-- each lifeline stays needed, also of the rows that are added
abbrev pub StayNeeded : List Row → List Row → Lines → Lines → Type 0
StayNeeded before rows old new = (all : Bool) (many : ℕ) → HasOnly (is_needed all many before) old → HasOnly (is_needed all many rows) new

-- `seats` are those of the tools, by their numbers. This is the one of the tool with the number in the first of these terms.
abbrev pub seat_of : List Seat → List Term → Option Seat
seat_of seats terms = option_and_then (λ number. numbered seats number) (tool_number terms)

-- the name with which the tool on a seat is declared
abbrev pub declared : List (List ℕ) → Seat → Option (List ℕ)
declared tools seat = option_and_then (λ kind. slice_get tools kind) seat.kind

-- a seat is on a lane that there is
abbrev pub HasLane : ℕ → Seat → Type 0
HasLane lanes seat = IsTrue (is_lane lanes seat.lane)

-- The seats are those of the tools with these names. Each is declared, and on a lane that there is.
pub record Seated (scene : Scene) (tools : List (List ℕ)) : Type 0 where
  pub names : map (declared scene.cast.now.tools.items) scene.seats.items ≡ map Some tools
  pub lanes : All (HasLane (length scene.lanes.items)) scene.seats.items

-- the processes, the seats, the cast that they are from, and the number of lanes stay
pub record Keeps (old new : Scene) : Type 0 where
  pub players : new.players.items ≡ old.players.items
  pub seats : new.seats.items ≡ old.seats.items
  pub cast : new.cast.now ≡ old.cast.now
  pub lanes : length new.lanes.items ≡ length old.lanes.items

-- the same, with this seat more
pub record AddsSeat (seat : Seat) (old new : Scene) : Type 0 where
  pub players : new.players.items ≡ old.players.items
  pub seats : new.seats.items ≡ old.seats.items ++ seat ∷ []
  pub cast : new.cast.now ≡ old.cast.now
  pub lanes : length new.lanes.items ≡ length old.lanes.items

-- the definition of each process stays
abbrev pub KeepBodies : List ℕ → List ℕ → Type 0
KeepBodies old new = (number body : ℕ) → numbered old number ≡ Some body → numbered new number ≡ Some body

-- the seats are those after an entry
abbrev pub GoOnSeated : Entry → Scene → Scene → Type 0
GoOnSeated entry old new = (tools : List (List ℕ)) → Seated old tools → Seated new (tools_after tools entry)

-- the processes and the tools are those after an entry, of the same cast
pub record GoesOn (entry : Entry) (old new : Scene) : Type 0 where
  pub players : new.players.items ≡ players_after old.cast.now old.players.items entry
  pub keep : KeepBodies old.players.items new.players.items
  pub tools : GoOnSeated entry old new
  pub cast : new.cast.now ≡ old.cast.now
  pub lanes : length new.lanes.items ≡ length old.lanes.items

-- what is so if the answer is no
abbrev pub IfNo : Bool → Type 0 → Type 0
IfNo true P = ⊤
IfNo false P = P

-- what is so if the answer is yes
abbrev pub IfYes : Bool → Type 0 → Type 0
IfYes true P = P
IfYes false P = ⊤

-- an entry is no step of one of the tools of a scene
abbrev pub HasNoTool : Scene → Entry → Type 0
HasNoTool scene entry = (tools : List (List ℕ)) → Seated scene tools → has_tool tools entry ≡ false

-- an end isn't there in a scene
abbrev pub IsAbsentIn : Scene → Entry → End → Type 0
IsAbsentIn scene entry end =
    (tools : List (List ℕ)) → Seated scene tools → IsAbsent (length scene.lanes.items) scene.players.items tools entry end

-- one of both ends isn't there in a scene
abbrev pub LacksEndIn : Scene → Entry → Option (End × End) → Type 0
LacksEndIn scene entry ends =
    (tools : List (List ℕ)) → Seated scene tools → LacksEnd (length scene.lanes.items) scene.players.items tools entry ends

-- an end is there in a scene
pub record IsThere (scene : Scene) (entry : Entry) (end : End) : Type 0 where
  pub there : (tools : List (List ℕ)) → Seated scene tools
      → IsAbsent (length scene.lanes.items) scene.players.items tools entry end → ⊥

-- both ends are there in a scene
pub record HasEnds (scene : Scene) (entry : Entry) (ends : Option (End × End)) : Type 0 where
  pub there : (tools : List (List ℕ)) → Seated scene tools
      → LacksEnd (length scene.lanes.items) scene.players.items tools entry ends → ⊥

-- a tool of a scene has the number in the first of these terms
pub record HasNumber (scene : Scene) (terms : List Term) : Type 0 where
  pub has : (tools : List (List ℕ)) → Seated scene tools → has_number tools terms ≡ true

-- no tool of a scene has the number in the first of these terms
pub record LacksNumber (scene : Scene) (terms : List Term) : Type 0 where
  pub lacks : (tools : List (List ℕ)) → Seated scene tools → has_number tools terms ≡ false

-- nothing is wrong with an entry apart from its ends, before which the scene is this
pub record Passes (scene : Scene) (entry : Entry) : Type 0 where
  pub not_lost : (tools : List (List ℕ)) → Seated scene tools
      → IsLost (length scene.lanes.items) scene.cast.now scene.players.items tools entry → ⊥

-- an entry with this number isn't wrong, before which the scene is this
pub record IsRightIn (scene : Scene) (span : Span) (number : ℕ) (entry : Entry) : Type 0 where
  pub right : (tools : List (List ℕ)) → Seated scene tools
      → IsWrong (length scene.lanes.items) scene.cast.now span scene.players.items tools number entry → ⊥

-- something is wrong with an entry apart from its ends, or it is an `execute`
abbrev pub IsLostIn : Scene → Entry → Type 0
IsLostIn scene entry =
    (tools : List (List ℕ)) → Seated scene tools
    → IsLost (length scene.lanes.items) scene.cast.now scene.players.items tools entry ⊎ IsTrue (is_execute entry)

-- an entry with this number may be rejected, before which the scene is this
abbrev pub MayFailIn : Scene → Span → ℕ → Entry → Type 0
MayFailIn scene span number entry =
    (tools : List (List ℕ)) → Seated scene tools
    → MayFail (length scene.lanes.items) scene.cast.now span scene.players.items tools number entry

-- the scene goes on, or the entry is rejected
abbrev pub Follows : Entry → Scene → Scene → Bool → Type 0
Follows entry old new true = GoesOn entry old new
Follows entry old new false = IsLostIn old entry

-- the fault of an entry with this number that lacks an end. After it the scene is this.
abbrev pub IsEndFault : Scene → ℕ → Entry → ChartFault → Type 0
IsEndFault scene number entry (fault.Line named) = (named ≡ number) × LacksEndIn scene entry (ends_of (figure entry))
IsEndFault scene number entry fault.NoMemory = ⊤

-- the fault of an entry with this number, before which the scene is this
abbrev pub IsEntryFault : Scene → Span → ℕ → Entry → ChartFault → Type 0
IsEntryFault scene span number entry (fault.Line named) = (named ≡ number) × MayFailIn scene span number entry
IsEntryFault scene span number entry fault.NoMemory = ⊤

-- a line after others: ticks join the ticks before them
abbrev pub after_lines : List Drawn → Drawn → List Drawn
after_lines [] line = line ∷ []
after_lines (before ∷ []) line = if are_ticks before line then joined before line ∷ [] else before ∷ line ∷ []
after_lines (before ∷ next ∷ lines) line = before ∷ after_lines (next ∷ lines) line

-- so many ticks can be added to a line
abbrev pub HasFewTicks : ℕ → Drawn → Type 0
HasFewTicks more line = line.ticks + more < 2 ^ 64

-- a line joins the last one, at this index
pub record JoinsAt (line : Drawn) (lines : List Drawn) (index : ℕ) : Type 0 where
  pub within : index < length lines
  pub joins : after_lines lines line ≡ slice_set lines index (joined (slice_index_or lines index line) line)
