-- The data that a search goes through, and the candidates that it finds, by indices of processes and of their actions.
use Rattle.std.specs.Prelude.{ℕ, ◌+◌, ◌&&◌, ◌==◌, nat_lt, nat_le, List, [], ◌∷◌, ◌++◌, map, take, drop, length, Bool, true, if◌then◌else◌, Option, Some, None, is_some, not, option_map, option_to_list, slice_index_or}
use Rattle.std.specs.List.{list_all}
use Rattle.tb_terms.specs.declared.term.Term.{Term}
use Rattle.tb_match.specs.declared.bind.Bind.{Bind}
use Rattle.tb_match.specs.Matches.{match_list}
use Rattle.tb_body.specs.declared.atom.Atom.{Atom}
use Rattle.tb_process_steps.specs.Offers.{Offered}
use Rattle.tb_body.specs.declared.body.Body.{Body}
use Rattle.tb_notes.specs.Inboxes.{Held, nothing, wants, oldest_match}
use Rattle.tb_bus.specs.Actions.{action_of}
use Rattle.tb_body.specs.declared.program.Tool.{Tool as ToolKind}
use Rattle.tb_tools.specs.Lanes.{BenchState}
use Rattle.tb_bus.specs.Effects.{takes_note, may_create}
use Rattle.tb_bus.specs.Exchanges.{Setting, setting_by, exchange_for}
use Rattle.tb_search.specs.declared.marks.Marks.{Marks}
use Rattle.tb_bus.specs.declared.action.Action.{Action}
use Rattle.tb_bus.specs.declared.action.Action.TheVariants as action
use Rattle.tb_bus.specs.declared.action.OwnAction.{OwnAction}
use Rattle.tb_bus.specs.declared.action.OwnAction.TheVariants as own
use Rattle.tb_search.specs.declared.living.Ready.{Ready}
use Rattle.tb_search.specs.declared.living.Living.{Living}
use Rattle.tb_search.specs.declared.candidate.Received.{Received}
use Rattle.tb_search.specs.declared.candidate.Partner.{Partner}
use Rattle.tb_search.specs.declared.candidate.Finding.{Finding}
use Rattle.tb_search.specs.declared.candidate.Finding.TheVariants as finding
use Rattle.tb_search.specs.declared.candidate.Candidate.{Candidate}
use Rattle.tb_search.specs.declared.candidate.Candidate.TheVariants as candidate

-- an offer with its action, or nothing if it has none
abbrev pub ready_one : ℕ → Offered → Option Action → List Ready
ready_one at offered None = []
ready_one at offered (Some action) = record { offer = at; atom = offered.atom; action = action } ∷ []

-- the offers that have an action, if the first offer has this index
abbrev pub readies : List Atom → ℕ → ℕ → List Offered → List Ready
readies atoms now at [] = []
readies atoms now at (offered ∷ others) = ready_one at offered (action_of atoms now offered) ++ readies atoms now (at + 1) others

-- the data of a process that is alive, as a search sees them
pub record Row : Type 0 where
  pub number : ℕ
  pub body : ℕ
  pub inbox : Held
  pub ready : List Ready

abbrev pub row_of : {W : Type 0} → Living W → Row
row_of living = record { number = living.number; body = living.body; inbox = living.inbox.held; ready = living.ready.items }

abbrev pub rows_of : {W : Type 0} → List (Living W) → List Row
rows_of all = map row_of all

-- the row for an index at which there is no process; no search finds such an index
abbrev pub no_row : Row
no_row = record { number = 0; body = 0; inbox = nothing; ready = [] }

abbrev pub row_at : List Row → ℕ → Row
row_at rows at = slice_index_or rows at no_row

abbrev pub received_if : ℕ → Option (List Bind) → List Received
received_if index None = []
received_if index (Some binds) = record { action = index; binds = binds } ∷ []

-- the action at an index with its binds, if it receives the terms
abbrev pub reception : List Term → ℕ → Action → List Received
reception terms index (action.Own own) = []
reception terms index (action.Send other) = []
reception terms index (action.Receive patterns) = received_if index (match_list patterns terms)

-- those of these actions that receive the terms, with their binds, if the first action has this index
abbrev pub receptions : List Term → ℕ → List Ready → List Received
receptions terms index [] = []
receptions terms index (ready ∷ others) = reception terms index ready.action ++ receptions terms (index + 1) others

-- the receivers of the terms among the actions of a process; none for the process with this number, the sender
abbrev pub partner_in : ℕ → List Term → ℕ → Row → List Partner
partner_in number terms index row = if row.number == number then [] else map (λ received. record { living = index; received = received }) (receptions terms 0 row.ready)

-- the receivers of the terms among the actions of these processes, if the first process has this index
abbrev pub partners : ℕ → List Term → ℕ → List Row → List Partner
partners number terms index [] = []
partners number terms index (row ∷ rows) = partner_in number terms index row ++ partners number terms (index + 1) rows

-- the data that a search goes through: the bodies, the kinds of tools, the lanes, the number of the next process, and the rows
pub record Scene : Type 0 where
  pub bodies : List Body
  pub kinds : List ToolKind
  pub bench : BenchState
  pub next_number : ℕ
  pub rows : List Row

-- whether each queue that wants the note has capacity
abbrev pub all_take : List Term → List Row → Bool
all_take terms rows = list_all (λ (row : Row). takes_note terms row.inbox) rows

-- the indices of the processes that want the note, if the first process has this index
abbrev pub wanting : List Term → ℕ → List Row → List ℕ
wanting terms index [] = []
wanting terms index (row ∷ rows) = if wants row.inbox terms then index ∷ wanting terms (index + 1) rows else wanting terms (index + 1) rows

-- the indices of the processes that want the note, if each of their queues has capacity
abbrev pub wanting_if_room : List Term → List Row → Option (List ℕ)
wanting_if_room terms rows = if all_take terms rows then Some (wanting terms 0 rows) else None

-- the setting in which a process speaks with tools: its body, the kinds of tools, and the lanes
abbrev pub setting_in : Scene → Row → Setting
setting_in scene row = setting_by scene.bodies scene.kinds scene.bench row.body

-- the plain finding, if the action may happen
abbrev pub plain_if : Bool → Option Finding
plain_if may = if may then Some finding.Plain else None

-- the finding of an action that a process does by itself, if it may happen
abbrev pub finding_of : Scene → Row → OwnAction → Option Finding
finding_of scene row own.Tau = Some finding.Plain
finding_of scene row (own.Set values binds) = Some finding.Plain
finding_of scene row (own.Print text) = Some finding.Plain
finding_of scene row (own.Notify terms) = option_map finding.Notify (wanting_if_room terms scene.rows)
finding_of scene row (own.TakeNote patterns) = option_map finding.TakeNote (oldest_match patterns row.inbox)
finding_of scene row (own.NoNote patterns) = plain_if (not (is_some (oldest_match patterns row.inbox)))
finding_of scene row (own.Subscribe patterns) = Some finding.Plain
finding_of scene row (own.Unsubscribe patterns) = Some finding.Plain
finding_of scene row (own.Create process actuals slot) =
    plain_if (may_create scene.bodies (length scene.rows) scene.next_number row.body process actuals slot)
finding_of scene row (own.Speak does) = option_map finding.Speak (exchange_for (setting_in scene row) does)
finding_of scene row (own.Shutdown reason) = Some finding.Plain

-- the candidates of an action, if its process has the index `at` among all rows
abbrev pub candidates_by : Scene → ℕ → Row → ℕ → Action → List Candidate
candidates_by scene at row index (action.Own own) = map (candidate.Own at index) (option_to_list (finding_of scene row own))
candidates_by scene at row index (action.Send terms) = map (candidate.Handshake at index) (partners row.number terms 0 scene.rows)
candidates_by scene at row index (action.Receive patterns) = []

-- the candidates of these actions of a process, if the first action has this index
abbrev pub candidates_among : Scene → ℕ → Row → ℕ → List Ready → List Candidate
candidates_among scene at row index [] = []
candidates_among scene at row index (ready ∷ others) = candidates_by scene at row index ready.action ++ candidates_among scene at row (index + 1) others

-- the candidates of all actions of a process
abbrev pub candidates_of : Scene → ℕ → Row → List Candidate
candidates_of scene at row = candidates_among scene at row 0 row.ready

-- the candidates of these processes, if the first one has the index `at` among all rows
abbrev pub candidates_from : Scene → ℕ → List Row → List Candidate
candidates_from scene at [] = []
candidates_from scene at (row ∷ others) = candidates_of scene at row ++ candidates_from scene (at + 1) others

-- the number of rows before the first one whose number is above `last`
abbrev pub up_to : ℕ → List Row → ℕ
up_to last [] = 0
up_to last (row ∷ rows) = if nat_le row.number last then 1 + up_to last rows else 0

-- the candidates of all processes in turn: first of those after the last starter, then of the others
unfoldable pub candidates_in_turn : Scene → ℕ → List Candidate
candidates_in_turn scene last =
    candidates_from scene (up_to last scene.rows) (drop (up_to last scene.rows) scene.rows) ++ candidates_from scene 0 (take (up_to last scene.rows) scene.rows)

-- if the processes can do nothing and no more ticks come, the bus halts
abbrev pub candidates_or_halt : Bool → List Candidate → List Candidate
candidates_or_halt no_ticks [] = if no_ticks then candidate.Halt ∷ [] else []
candidates_or_halt no_ticks (candidate ∷ candidates) = candidate ∷ candidates

-- if no process is left, the bus finishes
abbrev pub candidates_while_up : Scene → Marks → List Row → List Candidate
candidates_while_up scene marks [] = candidate.Finish ∷ []
candidates_while_up scene marks (row ∷ others) = candidates_or_halt marks.no_ticks (candidates_in_turn scene marks.last_starter)

abbrev pub scene_of : List Body → List ToolKind → BenchState → List Row → Marks → Scene
scene_of bodies kinds bench rows marks = record { bodies = bodies; kinds = kinds; bench = bench; next_number = marks.next_number; rows = rows }

-- all moves that may happen next; none if the bus has shut down
unfoldable pub all_candidates : Scene → Marks → List Candidate
all_candidates scene marks = if marks.down then [] else candidates_while_up scene marks scene.rows

-- the numbers of the rows ascend, and the first is above `below`
abbrev pub ascend : ℕ → List Row → Bool
ascend below [] = true
ascend below (row ∷ rows) = nat_lt below row.number && ascend row.number rows
