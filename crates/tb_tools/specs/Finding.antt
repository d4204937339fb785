-- The lowest lane that is free, the lowest lane that has a queued item, the lane of a tool, and the oldest event that matches.
use Rattle.std.specs.Prelude.{ℕ, ◌+◌, nat_le, Bool, not, ◌&&◌, List, [], ◌∷◌, slice_get, Option, Some, None, option_map, if◌then◌else◌}
use Rattle.std.specs.List.{position_from}
use Rattle.std.specs.Str.{bytes_eq}
use Rattle.tb_terms.specs.declared.term.Term.{Term}
use Rattle.tb_terms.specs.declared.pattern.Pattern.{Pattern}
use Rattle.tb_terms.specs.Same.{is_same_term, is_same_terms}
use Rattle.tb_match.specs.declared.bind.Bind.{Bind}
use Rattle.tb_match.specs.Matches.{match_list}
use Rattle.tb_log.specs.declared.entry.Out.{Out}
use Rattle.tb_tools.specs.declared.stage.Stage.{Stage}
use Rattle.tb_tools.specs.declared.found.FoundEvent.{FoundEvent}
use Rattle.tb_tools.specs.declared.found.FoundTool.{FoundTool}
use Rattle.tb_tools.specs.Lanes.{Tool, Lane, BenchState, of_tool, is_same_stage, is_empty, outs_at, is_free, term_of}
use Rattle.tb_tools.specs.Acts.{events_at, received_at}

-- the first lane that passes the test
abbrev pub first_lane : (Lane → Bool) → BenchState → Option ℕ
first_lane test bench = position_from test 1 bench.lanes

-- The lowest lane that is free.
abbrev pub free_lane : BenchState → Option ℕ
free_lane = first_lane is_free

-- the lane has the tool with this term
abbrev pub has_tool : Term → Lane → Bool
has_tool term lane = of_tool (λ tool. is_same_term term (term_of tool)) lane.tool

-- The lowest lane that has a tool with this term.
abbrev pub find_tool : Term → BenchState → Option ℕ
find_tool term = first_lane (has_tool term)

-- the tool has this name and is at this stage
abbrev pub is_at : List ℕ → Stage → Tool → Bool
is_at name stage tool = bytes_eq tool.name name && is_same_stage tool.stage stage

-- the best so far, or another tool if that has a smaller number, or if there is no best yet
abbrev pub smaller : Option FoundTool → FoundTool → FoundTool
smaller None other = other
smaller (Some best) other = if nat_le best.number other.number then best else other

-- the best so far, or the tool of this lane if it has the name, is at the stage, and has a smaller number or there is no best yet
abbrev pub smaller_of : List ℕ → Stage → Option FoundTool → ℕ → Option Tool → Option FoundTool
smaller_of name stage best lane None = best
smaller_of name stage best lane (Some tool) = if is_at name stage tool then Some (smaller best (record { number = tool.number; lane = lane })) else best

-- the best of the best so far and the tools with this name and stage on these lanes, of which the first has this number
abbrev pub smallest_from : List ℕ → Stage → Option FoundTool → ℕ → List Lane → Option FoundTool
smallest_from name stage best number [] = best
smallest_from name stage best number (lane ∷ lanes) = smallest_from name stage (smaller_of name stage best number lane.tool) (number + 1) lanes

-- The lane of the tool with the smallest number, among the tools with this name and stage.
abbrev pub first_at : List ℕ → Stage → BenchState → Option ℕ
first_at name stage bench = option_map (λ found. found.lane) (smallest_from name stage None 1 bench.lanes)

abbrev pub found_or : ℕ → Option (List Bind) → Option FoundEvent → Option FoundEvent
found_or place None later = later
found_or place (Some binds) later = Some (record { place = place; binds = binds })

-- the first of these events that matches, with its position and its binds; the first event has this position
abbrev pub first_match : ℕ → List Pattern → List (List Term) → Option FoundEvent
first_match place patterns [] = None
first_match place patterns (event ∷ events) = found_or place (match_list patterns event) (first_match (place + 1) patterns events)

-- The oldest waiting event of the tool on this lane that matches.
abbrev pub oldest_event : List Pattern → ℕ → BenchState → Option FoundEvent
oldest_event patterns lane bench = first_match 0 patterns (events_at lane bench)

-- The position of the first received event of the tool on this lane with exactly these terms.
abbrev pub oldest_received : List Term → ℕ → BenchState → Option ℕ
oldest_received terms lane bench = position_from (is_same_terms terms) 0 (received_at lane bench)

-- The next queued item of this lane.
abbrev pub next_out : ℕ → BenchState → Option Out
next_out lane bench = slice_get (outs_at lane bench) 0

abbrev pub has_out : Lane → Bool
has_out lane = not (is_empty lane.outs)

-- The lowest lane that has a queued item.
abbrev pub first_out : BenchState → Option ℕ
first_out = first_lane has_out
