-- Each line that a trace sends on a lane was queued there by an earlier step of it, and by the log the tool receives it.
use Rattle.std.proofs.Common.{◌≡◌, ◌⊎◌, inl, inr, ℕ, ◌-◌, Bool, true, false, ◌&&◌, List, [], ◌∷◌, ◌++◌, map, replicate, length, append_assoc, append-nil, slice_index_or, if◌then◌else◌, Option, Some, None, Contains, IsTrue, refl, ap, sym, ◌∙◌, subst, arith, pos, codes}
use Rattle.std.specs.Prelude.{⊤}
use Rattle.std.specs.List.{All}
use Rattle.std.specs.Str.{bytes_eq}
use Rattle.std.proofs.lemmas.Bool.{and_from}
use Rattle.std.proofs.lemmas.List.Elements.{All-nil, All-append, All-push, All-map, All-drop, All-replicate, All-weaker, All-contains_itself, Contains-append_right}
use Rattle.tb_terms.specs.declared.term.Term.{Term, out-Term}
use Rattle.tb_terms.specs.declared.term.Term.TheVariants as term
use Rattle.tb_terms.specs.contracts.term.Term as term_row
use Rattle.tb_terms.specs.declared.sort.Sort.TheVariants as sort
use Rattle.tb_terms.specs.Same.{is_same_term}
use Rattle.tb_terms.specs.Sorts.{has_sort, is_int, is_tool}
use Rattle.tb_terms.proofs.SameLemmas.{is_same-sound}
use Rattle.tb_log.specs.Shapes.{lane_count}
use Rattle.tb_log.specs.declared.entry.Label.{Label}
use Rattle.tb_log.specs.declared.entry.LabelKind.{LabelKind}
use Rattle.tb_log.specs.declared.entry.LabelKind.TheVariants as kind
use Rattle.tb_log.specs.declared.entry.Out.{Out}
use Rattle.tb_log.specs.declared.entry.Out.TheVariants.{Start, Line, End}
use Rattle.tb_log.specs.declared.entry.ToolLine.{ToolLine}
use Rattle.tb_log.specs.declared.entry.ToolLine.TheVariants as put
use Rattle.tb_log.specs.declared.entry.Input.{Input}
use Rattle.tb_log.specs.declared.entry.Input.TheVariants as input
use Rattle.tb_log.specs.declared.entry.Reply.TheVariants.{Took, Dropped}
use Rattle.tb_log.specs.declared.entry.Why.{Why}
use Rattle.tb_log.specs.declared.entry.Why.TheVariants as why
use Rattle.tb_log.specs.declared.entry.Entry.{Entry}
use Rattle.tb_log.specs.declared.entry.Entry.TheVariants.{Did, Quiet, Fed, Gave}
use Rattle.tb_tools.specs.declared.stage.Stage.TheVariants as stage
use Rattle.tb_tools.specs.Lanes.{Tool, Lane, BenchState, unused, of_tool, lane_at, outs_at, on_lane, with_tool, is_empty, is_open, started, new_tool, opening, tool_term, term_of}
use Rattle.tb_tools.specs.Acts.{tool_line, without_out, handed_out}
use Rattle.tb_tools.specs.Finding.{has_tool}
use Rattle.tb_tools.specs.Inputs.{closed, lost, while_up, answered, with_event, with_line, dropped, line_by}
use Rattle.tb_tools.specs.Inputs as lanes
use Rattle.tb_tools.proofs.Staying.{with_lane-or}
use Rattle.tb_bus.specs.declared.origin.Origin.{Origin}
use Rattle.tb_bus.specs.Buses.{Bus, start}
use Rattle.tb_bus.specs.Ends.{TakesDown}
use Rattle.tb_bus.specs.Reached.{Reaches}
use Rattle.tb_bus.specs.Steps.{finish_reason, halt_reason}
use Rattle.tb_bus.specs.Traces.{Answer, IsLegal, IsTrace, after, replay, took, declares}
use Rattle.tb_bus.proofs.BusShapes.{reached-in_shape}
use Rattle.tb_bus.proofs.LaneShapes.{all-there, all-or}
use Rattle.tb_bus.proofs.OrderLemmas.{All-one, contains-cases}
use Rattle.tb_bus.proofs.TraceLemmas.{replay-append, trace-prefix, trace-rest}
use Rattle.tb_iface.specs.Handing.{to_tool, puts_as, puts, WasPut, IsFor}
use Rattle.tb_iface.specs.Hearing.{line_if, last_line, told_as, told_by, told}
use Rattle.tb_iface.proofs.OnceLemmas.{contains-flat_map}
use Rattle.tb_iface.proofs.OutlineLemmas.{has-tool}
use Rattle.tb_iface.proofs.PuttingLemmas.{Becomes, step-adds}

-- an item that no step queues, and the queue after an input or a sent item

module _ (P : Out → Type 0) (ends : P End) where
  -- of the items that were queued on a lane, and are after a change of one
  on_lane-keeps : (change : Lane → Lane) (at lane : ℕ) (bench : BenchState) → ((old : Lane) → All P old.outs → All P (change old).outs) → All P (outs_at lane bench) → All P (outs_at lane (on_lane change at bench))
  on_lane-keeps change at lane bench each h = by (with_lane-or at lane (change (lane_at at bench)) bench)
    where
      by : (lane_at lane (on_lane change at bench) ≡ lane_at lane bench) ⊎ ((lane_at lane (on_lane change at bench) ≡ change (lane_at at bench)) × (lane - 1 ≡ at - 1)) → All P (outs_at lane (on_lane change at bench))
      by (inl e) = subst (λ (l : Lane). All P l.outs) (sym e) h
      by (inr e) =
          let here : All P (outs_at at bench) = subst (λ (n : ℕ). All P (slice_index_or bench.lanes n unused).outs) e.1 h in
          subst (λ (l : Lane). All P l.outs) (sym e.0) (each (lane_at at bench) here)

  flushed-by : (lane : Lane) (b : Bool) → All P lane.outs → All P (let new : Lane = if b then lane else record lane { ended = true; outs = End ∷ [] } in new.outs)
  flushed-by lane true h = h
  flushed-by lane false h = All-one P End ends

  closed-keeps : (lane : Lane) → All P lane.outs → All P (closed lane).outs
  closed-keeps lane h = flushed-by lane (lane.ended && is_empty lane.outs) h

  lost-keeps : (lane : Lane) → All P lane.outs → All P (lost lane).outs
  lost-keeps lane h = closed-keeps lane h

  up-by : (lane : ℕ) (b : Bool) (new bench : BenchState) → All P (outs_at lane bench) → All P (outs_at lane new) →
      All P (let answer : lanes.Answer = if b then record { reply = Took; bench = new } else record { reply = Dropped why.NotLive; bench = bench } in outs_at lane answer.bench)
  up-by lane true new bench h k = k
  up-by lane false new bench h k = h

  while_up-keeps : (change : Lane → Lane) (at lane : ℕ) (bench : BenchState) → ((old : Lane) → All P old.outs → All P (change old).outs) → All P (outs_at lane bench) → All P (outs_at lane (while_up change at bench).bench)
  while_up-keeps change at lane bench each h = up-by lane (lane_at at bench).up (on_lane change at bench) bench h (on_lane-keeps change at lane bench each h)

  with_line-keeps : (line : ToolLine) (at lane : ℕ) (bench : BenchState) → All P (outs_at lane bench) → All P (outs_at lane (with_line line at bench))
  with_line-keeps (put.Value value) at lane bench h = on_lane-keeps (answered value) at lane bench (λ old k. k) h
  with_line-keeps (put.Event terms) at lane bench h = on_lane-keeps (with_event terms) at lane bench (λ old k. k) h
  with_line-keeps (put.Connect name) at lane bench h = on_lane-keeps (with_tool (new_tool name bench.next_tool stage.Waiting)) at lane bench (λ old k. k) h
  with_line-keeps put.Disconnect at lane bench h = on_lane-keeps closed at lane bench closed-keeps h
  with_line-keeps put.Bad at lane bench h = h

  line_by-keeps : (found : Option Why) (line : ToolLine) (at lane : ℕ) (bench : BenchState) → All P (outs_at lane bench) → All P (outs_at lane (line_by found line at bench).bench)
  line_by-keeps None line at lane bench h = with_line-keeps line at lane bench h
  line_by-keeps (Some found) line at lane bench h = h

  took-keeps : (bus : Bus) (it : Input) (lane : ℕ) → All P (outs_at lane bus.bench) → All P (outs_at lane (took bus it).bus.bench)
  took-keeps bus input.Tick lane h = h
  took-keeps bus input.NoTicks lane h = h
  took-keeps bus (input.Line at line) lane h = line_by-keeps (dropped (declares bus.program.tools line) line (lane_at at bus.bench)) line at lane bus.bench h
  took-keeps bus (input.Gone at) lane h = while_up-keeps lost at lane bus.bench lost-keeps h
  took-keeps bus (input.Cut at) lane h = while_up-keeps closed at lane bus.bench closed-keeps h

  fed-keeps : (bus : Bus) (it : Input) (lane : ℕ) (down : Bool) → All P (outs_at lane bus.bench) → All P (let a : Answer = if down then record { reply = Dropped why.Down; bus = bus } else took bus it in outs_at lane a.bus.bench)
  fed-keeps bus it lane true h = h
  fed-keeps bus it lane false h = took-keeps bus it lane h

  handed_out-keeps : (at lane : ℕ) (bench : BenchState) → All P (outs_at lane bench) → All P (outs_at lane (handed_out at bench))
  handed_out-keeps at lane bench h = on_lane-keeps without_out at lane bench (λ old k. All-drop P 1 old.outs k) h

  opening-keeps : (commands : List (List ℕ)) (lane : ℕ) → ((command : List ℕ) → P (Start command)) → All P (outs_at lane (opening commands))
  opening-keeps commands lane starts =
      let Q = λ (l : Lane). All P l.outs in
      let first = λ (command : List ℕ). started command unused in
      let none : Q unused = All-nil P in
      all-or Q (opening commands).lanes (lane - 1) unused
      (All-append Q (map first commands) (replicate (lane_count - length commands) unused)
      (All-map Q first commands (λ k d l. All-one P (Start (slice_index_or commands k d)) (starts (slice_index_or commands k d))))
      (All-replicate Q (lane_count - length commands) unused none))
      none

-- each queued item was queued by a step

abbrev IsPut : Origin → List Entry → ℕ → Out → Type 0
IsPut origin log lane (Start command) = ⊤
IsPut origin log lane (Line line) = WasPut origin log lane line
IsPut origin log lane End = ⊤

abbrev ArePut : Origin → List Entry → Bus → Type 0
ArePut origin log bus = (lane : ℕ) → All (IsPut origin log lane) (outs_at lane bus.bench)

put-further : (origin : Origin) (log more : List Entry) (lane : ℕ) (out : Out) → IsPut origin log lane out → IsPut origin (log ++ more) lane out
put-further origin log more lane (Start command) h = tt
put-further origin log more lane (Line line) h = record {
  before = h.before;
  label = h.label;
  rest = h.rest ++ more;
  is = ap (λ (es : List Entry). es ++ more) h.is ∙ append_assoc h.before (Did h.label ∷ h.rest) more;
  puts = h.puts;
}
put-further origin log more lane End h = tt

all-further : (origin : Origin) (log more : List Entry) (lane : ℕ) (outs : List Out) → All (IsPut origin log lane) outs → All (IsPut origin (log ++ more) lane) outs
all-further origin log more lane outs h = All-weaker (IsPut origin log lane) (IsPut origin (log ++ more) lane) (put-further origin log more lane) outs h

-- of the items that a step queues, each line was queued by it
just-put : (origin : Origin) (log : List Entry) (label : Label) (lane : ℕ) (out : Out) → Contains (puts label (lane_at lane (replay (start origin) log).bench)) out →
    outs_at lane (after (replay (start origin) log) (Did label)).bench ≡ outs_at lane (replay (start origin) log).bench ++ puts label (lane_at lane (replay (start origin) log).bench) →
    IsPut origin (log ++ Did label ∷ []) lane out
just-put origin log label lane (Start command) c e = tt
just-put origin log label lane (Line line) c e = record { before = log; label = label; rest = []; is = refl; puts = record { is = c; at_end = e } }
just-put origin log label lane End c e = tt

did-put : (origin : Origin) (log : List Entry) (label : Label) (lane : ℕ) → Becomes label.kind label.terms (lane_at lane (replay (start origin) log).bench) (lane_at lane (after (replay (start origin) log) (Did label)).bench) →
    All (IsPut origin log lane) (outs_at lane (replay (start origin) log).bench) → All (IsPut origin (log ++ Did label ∷ []) lane) (outs_at lane (after (replay (start origin) log) (Did label)).bench)
did-put origin log label lane (inl same) h =
    let P = IsPut origin (log ++ Did label ∷ []) lane in
    subst (All P) (sym same) (all-further origin log (Did label ∷ []) lane (outs_at lane (replay (start origin) log).bench) h)
did-put origin log label lane (inr (inl starts)) h =
    let P = IsPut origin (log ++ Did label ∷ []) lane in
    let outs = outs_at lane (replay (start origin) log).bench in
    subst (All P) (sym starts.1) (All-push P outs (Start starts.0) (all-further origin log (Did label ∷ []) lane outs h) tt)
did-put origin log label lane (inr (inr e)) h =
    let P = IsPut origin (log ++ Did label ∷ []) lane in
    let outs = outs_at lane (replay (start origin) log).bench in
    let new = puts label (lane_at lane (replay (start origin) log).bench) in
    subst (All P) (sym e)
    (All-append P outs new (all-further origin log (Did label ∷ []) lane outs h)
    (All-weaker (Contains new) P (λ out c. just-put origin log label lane out c e) new (All-contains_itself new)))

entry-put : (origin : Origin) (log : List Entry) (entry : Entry) → Reaches origin (replay (start origin) log) → IsLegal (replay (start origin) log) entry (after (replay (start origin) log) entry) →
    ArePut origin log (replay (start origin) log) → ArePut origin (log ++ entry ∷ []) (after (replay (start origin) log) entry)
entry-put origin log (Did label) reaches legal h =
    let bus = replay (start origin) log in
    λ lane. did-put origin log label lane (step-adds bus label (reached-in_shape origin bus reaches) legal lane) (h lane)
entry-put origin log Quiet reaches legal h = λ lane. all-further origin log (Quiet ∷ []) lane (outs_at lane (replay (start origin) log).bench) (h lane)
entry-put origin log (Fed it reply) reaches legal h =
    let bus = replay (start origin) log in
    let more = Fed it reply ∷ [] in
    λ lane. fed-keeps (IsPut origin (log ++ more) lane) tt bus it lane bus.down (all-further origin log more lane (outs_at lane bus.bench) (h lane))
entry-put origin log (Gave at out) reaches legal h =
    let bus = replay (start origin) log in
    let more = Gave at out ∷ [] in
    λ lane. handed_out-keeps (IsPut origin (log ++ more) lane) tt at lane bus.bench (all-further origin log more lane (outs_at lane bus.bench) (h lane))

-- from one bus of a trace on to its end
from-put : (origin : Origin) (before log : List Entry) → IsTrace (start origin) (before ++ log) → ArePut origin before (replay (start origin) before) → ArePut origin (before ++ log) (replay (start origin) (before ++ log))
from-put origin before [] trace h = subst (λ (es : List Entry). ArePut origin es (replay (start origin) es)) (sym (append-nil before)) h
from-put origin before (entry ∷ log) trace h =
    let bus = replay (start origin) before in
    let reaches : Reaches origin bus = (before, trace-prefix (start origin) before (entry ∷ log) trace, refl) in
    let next = entry-put origin before entry reaches (trace-rest (start origin) before (entry ∷ log) trace).0 h in
    let moved : replay (start origin) (before ++ entry ∷ []) ≡ after bus entry = replay-append (start origin) before (entry ∷ []) in
    let whole : (before ++ entry ∷ []) ++ log ≡ before ++ entry ∷ log = append_assoc before (entry ∷ []) log in
    subst (λ (es : List Entry). ArePut origin es (replay (start origin) es)) whole
    (from-put origin (before ++ entry ∷ []) log (subst (IsTrace (start origin)) (sym whole) trace) (subst (ArePut origin (before ++ entry ∷ [])) (sym moved) next))

-- So each line that a trace sends on a lane was queued there by an earlier step.
pub handed-put : (origin : Origin) (before rest : List Entry) (lane : ℕ) (line : Term) → IsTrace (start origin) (before ++ Gave lane (Line line) ∷ rest) → WasPut origin before lane line
handed-put origin before rest lane line trace =
    let legal = (trace-rest (start origin) before (Gave lane (Line line) ∷ rest) trace).0 in
    let opens : ArePut origin [] (start origin) = λ at. opening-keeps (IsPut origin [] at) tt origin.connects at (λ command. tt) in
    let all = from-put origin [] before (trace-prefix (start origin) before (Gave lane (Line line) ∷ rest) trace) opens in
    all-there (IsPut origin before lane) (outs_at lane (replay (start origin) before).bench) 0 (Line line) (all lane) legal.1

-- by the log, the tool receives each line that a step queues

tool-sort : (name tool : List ℕ) (number : ℕ) → bytes_eq name tool ≡ true → has_sort (tool_term name number) (sort.Tool tool) ≡ true
tool-sort name tool number e =
    let named = tool_term name number in
    let part = term.Int (pos number) in
    has-tool named tool ∙ ap (is_tool tool) (term.outs-Appl name (part ∷ []))
    ∙ and_from (bytes_eq name tool) (is_int (out-Term part)) e (ap is_int (term.outs-Int (pos number)))

-- the tool that a step names has the name of the lane's tool
named-sort : (named : Term) (its : Option Tool) (tool : List ℕ) → of_tool (λ (it : Tool). is_same_term named (term_of it)) its ≡ true → of_tool (λ (it : Tool). bytes_eq it.name tool) its ≡ true → has_sort named (sort.Tool tool) ≡ true
named-sort named None tool h e = cc
named-sort named (Some it) tool h e =
    let same : named ≡ term_of it = is_same-sound term_row.the_row.coded named (term_of it) h in
    subst (λ (t : Term). has_sort t (sort.Tool tool) ≡ true) (sym same) (tool-sort it.name tool it.number e)

-- one line, if it is among a line and the end that may come after it
no-line : (line : Term) → Contains [] (Line line) → {A : Type 0} → A
no-line line c = let l = c.1 in absurd (omega arith)

the-line : (word : List ℕ) (parts : List Term) (line : Term) → Contains (tool_line word parts ∷ []) (Line line) → term.Appl word parts ≡ line
the-line word parts line c = by (contains-cases (tool_line word parts) (Line line) [] c)
  where
    by : (tool_line word parts ≡ Line line) ⊎ Contains [] (Line line) → term.Appl word parts ≡ line
    by (inl e) = cc
    by (inr d) = no-line line d

before-end : (word : List ℕ) (parts : List Term) (line : Term) → Contains (tool_line word parts ∷ End ∷ []) (Line line) → term.Appl word parts ≡ line
before-end word parts line c = by (contains-cases (tool_line word parts) (Line line) (End ∷ []) c)
  where
    end : (End ≡ Line line) ⊎ Contains [] (Line line) → term.Appl word parts ≡ line
    end (inl e) = cc
    end (inr d) = no-line line d

    by : (tool_line word parts ≡ Line line) ⊎ Contains (End ∷ []) (Line line) → term.Appl word parts ≡ line
    by (inl e) = cc
    by (inr d) = end (contains-cases End (Line line) [] d)

-- of a line to the tool that a step names
tool-told : (word : List ℕ) (after : List Out) (terms : List Term) (tool : List ℕ) (lane : Lane) (line : Term) → IsTrue (of_tool (λ (it : Tool). bytes_eq it.name tool) lane.tool) →
    ((parts : List Term) → Contains (tool_line word parts ∷ after) (Line line) → term.Appl word parts ≡ line) → Contains (to_tool word after terms lane) (Line line) → Contains (line_if tool word terms) line
tool-told word after [] tool lane line stands only c = no-line line c
tool-told word after (named ∷ parts) tool lane line stands only c = by (has_tool named lane) refl c
  where
    here : has_sort named (sort.Tool tool) ≡ true → term.Appl word parts ≡ line → Contains (line_if tool word (named ∷ parts)) line
    here has same =
        let one : Contains (term.Appl word parts ∷ []) line = (0, omega arith, same) in
        subst (λ (b : Bool). Contains (let lines : List Term = if b then term.Appl word parts ∷ [] else [] in lines) line) (sym has) one

    by : (b : Bool) → has_tool named lane ≡ b → Contains (let outs : List Out = if b then tool_line word parts ∷ after else [] in outs) (Line line) → Contains (line_if tool word (named ∷ parts)) line
    by false e d = no-line line d
    by true e d = here (named-sort named lane.tool tool e stands) (only parts d)

-- of the line that every tool receives
all-told : (reason : List Term) (b : Bool) (line : Term) → Contains (let outs : List Out = if b then tool_line (codes "rec-terminate") reason ∷ End ∷ [] else [] in outs) (Line line) → Contains (last_line reason) line
all-told reason true line c = (0, omega arith, before-end (codes "rec-terminate") reason line c)
all-told reason false line c = no-line line c

-- one line a kind of step
as-told : (tool : List ℕ) (seen : LabelKind) (terms : List Term) (lane : Lane) (line : Term) → TakesDown seen ⊎ IsTrue (of_tool (λ (it : Tool). bytes_eq it.name tool) lane.tool) → Contains (puts_as seen terms lane) (Line line) →
    Contains (told_as tool seen terms) line
as-told tool kind.SndEval terms lane line (inl down) c = absurd down
as-told tool kind.SndEval terms lane line (inr stands) c = tool-told (codes "rec-eval") [] terms tool lane line stands (λ parts d. the-line (codes "rec-eval") parts line d) c
as-told tool kind.SndDo terms lane line (inl down) c = absurd down
as-told tool kind.SndDo terms lane line (inr stands) c = tool-told (codes "rec-do") [] terms tool lane line stands (λ parts d. the-line (codes "rec-do") parts line d) c
as-told tool kind.SndAckEvent terms lane line (inl down) c = absurd down
as-told tool kind.SndAckEvent terms lane line (inr stands) c = tool-told (codes "rec-ack-event") [] terms tool lane line stands (λ parts d. the-line (codes "rec-ack-event") parts line d) c
as-told tool kind.SndTerminate terms lane line (inl down) c = absurd down
as-told tool kind.SndTerminate terms lane line (inr stands) c = tool-told (codes "rec-terminate") (End ∷ []) terms tool lane line stands (λ parts d. before-end (codes "rec-terminate") parts line d) c
as-told tool kind.Shutdown terms lane line for c = all-told terms (is_open lane) line c
as-told tool kind.Finish terms lane line for c = all-told (finish_reason ∷ []) (is_open lane) line c
as-told tool kind.Halt terms lane line for c = all-told (halt_reason ∷ []) (is_open lane) line c
as-told tool _ terms lane line for c = no-line line c

-- By the log, each tool receives each queued line that is for it.
pub put-told : (origin : Origin) (log : List Entry) (lane : ℕ) (line : Term) (tool : List ℕ) (put : WasPut origin log lane line) → IsFor tool put.label (lane_at lane (replay (start origin) put.before).bench) → Contains (told tool log) line
put-told origin log lane line tool put for =
    let label = put.label in
    let step : Contains (Did label ∷ put.rest) (Did label) = (0, omega arith, refl) in
    let there : Contains log (Did label) = subst (λ (es : List Entry). Contains es (Did label)) (sym put.is) (Contains-append_right put.before (Did label ∷ put.rest) (Did label) step) in
    contains-flat_map (told_by tool) log (Did label) line there
    (as-told tool label.kind label.terms (lane_at lane (replay (start origin) put.before).bench) line for put.puts.is)
