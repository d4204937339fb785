-- The definitions of the first lane, the tool with the smallest number, and the oldest event.
use Rattle.std.specs.Prelude.{◌≡◌, ℕ, ◌<◌, ◌≤◌, Bool, true, false, List, length, slice_get, Option, Some, None, option_and_then}
use Rattle.tb_terms.specs.declared.term.Term.{Term}
use Rattle.tb_terms.specs.declared.pattern.Pattern.{Pattern}
use Rattle.tb_match.specs.declared.bind.Bind.{Bind}
use Rattle.tb_match.specs.Matches.{match_list}
use Rattle.tb_tools.specs.declared.stage.Stage.{Stage}
use Rattle.tb_tools.specs.declared.found.FoundEvent.{FoundEvent}
use Rattle.tb_tools.specs.Lanes.{Tool, Lane, BenchState, lane_at, tool_at}
use Rattle.tb_tools.specs.Finding.{is_at}

-- the bench has a lane with this number
abbrev pub IsThere : BenchState → ℕ → Type 0
IsThere bench lane = (1 ≤ lane) × (lane ≤ length bench.lanes)

-- no lane passes the test
abbrev pub NoLane : (Lane → Bool) → BenchState → Type 0
NoLane test bench = (lane : ℕ) → IsThere bench lane → test (lane_at lane bench) ≡ false

-- the bench has this lane, the lane passes the test, and no lower lane does
abbrev pub IsFirstLane : (Lane → Bool) → BenchState → ℕ → Type 0
IsFirstLane test bench lane =
    IsThere bench lane
    × (test (lane_at lane bench) ≡ true)
    × ((other : ℕ) → 1 ≤ other → other < lane → test (lane_at other bench) ≡ false)

-- this lane has this tool, which has the name and is at the stage
abbrev pub IsToolAt : List ℕ → Stage → BenchState → ℕ → Tool → Type 0
IsToolAt name stage bench lane tool = IsThere bench lane × (tool_at lane bench ≡ Some tool) × (is_at name stage tool ≡ true)

-- no lane has a tool with this name and stage
abbrev pub NoToolAt : List ℕ → Stage → BenchState → Type 0
NoToolAt name stage bench = (lane : ℕ) (tool : Tool) → IsToolAt name stage bench lane tool → ⊥

-- this lane has a tool with this name and stage, and no such tool has a smaller number
abbrev pub HasSmallest : List ℕ → Stage → BenchState → ℕ → Type 0
HasSmallest name stage bench lane =
    (tool : Tool)
    × IsToolAt name stage bench lane tool
    × ((other : ℕ) (another : Tool) → IsToolAt name stage bench other another → tool.number ≤ another.number)

-- the binds of the event at this position; none if there is no such event, or the event doesn't match
abbrev pub binds_at : List Pattern → List (List Term) → ℕ → Option (List Bind)
binds_at patterns events place = option_and_then (match_list patterns) (slice_get events place)

-- no event matches
abbrev pub NoneMatches : List Pattern → List (List Term) → Type 0
NoneMatches patterns events = (place : ℕ) → binds_at patterns events place ≡ None

-- the event at the found position matches with these binds, and no earlier event matches
abbrev pub IsOldest : List Pattern → List (List Term) → FoundEvent → Type 0
IsOldest patterns events found =
    (binds_at patterns events found.place ≡ Some found.binds)
    × ((place : ℕ) → place < found.place → binds_at patterns events place ≡ None)
