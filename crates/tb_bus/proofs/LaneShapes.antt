-- What is done to the lanes leaves what stands on them in shape.
use Rattle.std.proofs.Common.{◌≡◌, ℕ, zero, suc, ◌-◌, ◌≤◌, Bool, true, false, ◌&&◌, List, [], ◌∷◌, ◌++◌, map, length, take, drop, remove, replicate, slice_get, slice_index_or, Option, Some, None, IfSome, option_map, if◌then◌else◌, refl, sym, subst, codes}
use Rattle.std.specs.List.{All}
use Rattle.std.proofs.lemmas.Bool.{le-leb}
use Rattle.std.proofs.lemmas.Option.{get_or_from_slice_get, same_Some}
use Rattle.std.proofs.lemmas.List.Elements.{All-nil, All-cons, All-head, All-tail, All-append, All-push, All-map, All-set, All-take, All-drop, All-replicate, All-weaker}
use Rattle.tb_terms.specs.declared.term.Term.{Term}
use Rattle.tb_terms.specs.declared.term.Term.TheVariants.{Appl, outs-Appl}
use Rattle.tb_terms.specs.Sizes.{IsWithinLimits}
use Rattle.tb_log.specs.declared.entry.Out.{Out}
use Rattle.tb_log.specs.declared.entry.Out.TheVariants.{Start, Line, End}
use Rattle.tb_log.specs.declared.entry.ToolLine.{ToolLine}
use Rattle.tb_log.specs.declared.entry.ToolLine.TheVariants as tool_line
use Rattle.tb_log.specs.declared.entry.Why.{Why}
use Rattle.tb_log.specs.declared.entry.Why.TheVariants as why
use Rattle.tb_log.specs.declared.entry.Reply.TheVariants.{Took, Dropped}
use Rattle.tb_log.specs.Shapes.{lane_count, has_parts, AreParts, IsForTool, IsOutInShape, IsToolLineInShape}
use Rattle.tb_tools.specs.declared.stage.Stage.{Stage}
use Rattle.tb_tools.specs.declared.stage.Stage.TheVariants as stage
use Rattle.tb_tools.specs.declared.stage.Eval.{Eval}
use Rattle.tb_tools.specs.declared.stage.Eval.TheVariants as eval
use Rattle.tb_tools.specs.Lanes.{Tool, Lane, BenchState, unused, lane_at, tool_at, outs_at, on_lane, on_tool, with_tool, without_tool, with_out, is_empty, is_open, started, new_tool, opening}
use Rattle.tb_tools.specs.Acts.{answer_of, answer_by, answer_at, events_of, events_at, received_of, received_at, event_at, executed, connected, with_live_tool, left, with_question, asked, without_answer, value_taken, told, with_received, event_taken, with_acknowledged_of, with_acknowledged, acknowledged, last_line, ended_with, terminated, dismissed, gone_down, without_out, handed_out}
use Rattle.tb_tools.specs.Inputs.{Answer, departed_by, departed, closed, lost, while_up, gone, cut, answered, with_event, with_line, dropped, line_by, put_line}
use Rattle.tb_tools.specs.Finding.{next_out}
use Rattle.tb_bus.specs.Waiting.{IsEvent, IsEvalInShape, IsToolInShape, IsLaneInShape, IsBenchInShape}

-- items by their indices

pub all-there : {A : Type 0} (P : A → Type 0) (xs : List A) (at : ℕ) (x : A) → All P xs → slice_get xs at ≡ Some x → P x
all-there P [] at x h e = cc
all-there P (y ∷ xs) zero x h e = let same : y ≡ x = cc in subst P same (All-head P y xs h)
all-there P (y ∷ xs) (suc at) x h e = all-there P xs at x (All-tail P y xs h) e

pub all-or : {A : Type 0} (P : A → Type 0) (xs : List A) (at : ℕ) (d : A) → All P xs → P d → P (slice_index_or xs at d)
all-or P [] at d h k = k
all-or P (x ∷ xs) zero d h k = All-head P x xs h
all-or P (x ∷ xs) (suc at) d h k = all-or P xs at d (All-tail P x xs h) k

pub all-remove : {A : Type 0} (P : A → Type 0) (xs : List A) (at : ℕ) → All P xs → All P (remove xs at)
all-remove P xs at h = All-append P (take at xs) (drop (suc at) xs) (All-take P at xs h) (All-drop P (suc at) xs h)

-- lines for tools

line-in : (word : List ℕ) (parts : List Term) → has_parts word (length parts) ≡ true → AreParts parts → IsOutInShape (Line (Appl word parts))
line-in word parts e h = subst IsForTool (sym (outs-Appl word parts)) (e, h)

-- lanes

unused-in : IsLaneInShape unused
unused-in = record { tool = tt; outs = All-nil IsOutInShape }

lane-in : (lane : ℕ) (bench : BenchState) → IsBenchInShape bench → IsLaneInShape (lane_at lane bench)
lane-in lane bench h = all-or IsLaneInShape bench.lanes (lane - 1) unused h unused-in

on_lane-in : (change : Lane → Lane) (lane : ℕ) (bench : BenchState) → IsBenchInShape bench → IsLaneInShape (change (lane_at lane bench)) → IsBenchInShape (on_lane change lane bench)
on_lane-in change lane bench h k = All-set IsLaneInShape bench.lanes (lane - 1) (change (lane_at lane bench)) k h

with_out-in : (out : Out) (lane : Lane) → IsOutInShape out → IsLaneInShape lane → IsLaneInShape (with_out out lane)
with_out-in out lane k h = record { tool = h.tool; outs = All-push IsOutInShape lane.outs out h.outs k }

map-in : (change : Tool → Tool) (tool : Option Tool) → ((old : Tool) → tool ≡ Some old → IsToolInShape old → IsToolInShape (change old)) → IfSome tool IsToolInShape → IfSome (option_map change tool) IsToolInShape
map-in change None k h = tt
map-in change (Some old) k h = k old refl h

on_tool-in : (change : Tool → Tool) (lane : Lane) → ((old : Tool) → lane.tool ≡ Some old → IsToolInShape old → IsToolInShape (change old)) → IsLaneInShape lane → IsLaneInShape (on_tool change lane)
on_tool-in change lane k h = record { tool = map-in change lane.tool k h.tool; outs = h.outs }

new-in : (name : List ℕ) (number : ℕ) (at : Stage) → IsToolInShape (new_tool name number at)
new-in name number at = record { eval = tt; events = All-nil IsEvent; received = All-nil IsEvent }

-- what atoms do

pub executed-in : (name command : List ℕ) (lane : ℕ) (bench : BenchState) → IsBenchInShape bench → IsBenchInShape (executed name command lane bench)
executed-in name command lane bench h =
    let old = lane-in lane bench h in
    on_lane-in (λ old. with_tool (new_tool name bench.next_tool stage.Live) (started command old)) lane bench h
    (record { tool = new-in name bench.next_tool stage.Live; outs = All-push IsOutInShape (lane_at lane bench).outs (Start command) old.outs tt })

pub connected-in : (lane : ℕ) (bench : BenchState) → IsBenchInShape bench → IsBenchInShape (connected lane bench)
connected-in lane bench h =
    on_lane-in with_live_tool lane bench h
    (on_tool-in (λ tool. record tool { stage = stage.Live }) (lane_at lane bench) (λ old e k. record { eval = k.eval; events = k.events; received = k.received }) (lane-in lane bench h))

pub left-in : (lane : ℕ) (bench : BenchState) → IsBenchInShape bench → IsBenchInShape (left lane bench)
left-in lane bench h = on_lane-in without_tool lane bench h (let old = lane-in lane bench h in record { tool = tt; outs = old.outs })

pub asked-in : (term : Term) (lane : ℕ) (bench : BenchState) → AreParts (term ∷ []) → IsBenchInShape bench → IsBenchInShape (asked term lane bench)
asked-in term lane bench k h =
    on_lane-in (with_question term) lane bench h
    (on_tool-in (λ tool. record tool { eval = eval.Asked }) (with_out (Line (Appl (codes "rec-eval") (term ∷ []))) (lane_at lane bench)) (λ old e k. record { eval = tt; events = k.events; received = k.received })
    (with_out-in (Line (Appl (codes "rec-eval") (term ∷ []))) (lane_at lane bench) (line-in (codes "rec-eval") (term ∷ []) refl k) (lane-in lane bench h)))

pub value_taken-in : (lane : ℕ) (bench : BenchState) → IsBenchInShape bench → IsBenchInShape (value_taken lane bench)
value_taken-in lane bench h =
    on_lane-in without_answer lane bench h
    (on_tool-in (λ tool. record tool { eval = eval.Closed }) (lane_at lane bench) (λ old e k. record { eval = tt; events = k.events; received = k.received }) (lane-in lane bench h))

pub told-in : (term : Term) (lane : ℕ) (bench : BenchState) → AreParts (term ∷ []) → IsBenchInShape bench → IsBenchInShape (told term lane bench)
told-in term lane bench k h =
    on_lane-in (with_out (Line (Appl (codes "rec-do") (term ∷ [])))) lane bench h
    (with_out-in (Line (Appl (codes "rec-do") (term ∷ []))) (lane_at lane bench) (line-in (codes "rec-do") (term ∷ []) refl k) (lane-in lane bench h))

-- an event that stands there
event-in : (index : ℕ) (events : List (List Term)) (terms : List Term) → All IsEvent events → slice_get events index ≡ Some terms → IsEvent (event_at index events)
event-in index events terms h e = subst IsEvent (sym (get_or_from_slice_get events index terms [] e)) (all-there IsEvent events index terms h e)

pub event_taken-in : (index lane : ℕ) (bench : BenchState) (terms : List Term) → slice_get (events_at lane bench) index ≡ Some terms → IsBenchInShape bench → IsBenchInShape (event_taken index lane bench)
event_taken-in index lane bench terms e h =
    on_lane-in (with_received index) lane bench h
    (on_tool-in (λ tool. record tool { events = remove tool.events index; received = tool.received ++ event_at index tool.events ∷ [] }) (lane_at lane bench)
    (λ old f k. record {
      eval = k.eval;
      events = all-remove IsEvent old.events index k.events;
      received = All-push IsEvent old.received (event_at index old.events) k.received
          (event-in index old.events terms k.events (subst (λ (o : Option Tool). slice_get (events_of o) index ≡ Some terms) f e));
    })
    (lane-in lane bench h))

parts-there : (count : ℕ) → 1 ≤ count → has_parts (codes "rec-ack-event") count ≡ true
parts-there count l = le-leb 1 count l

acknowledged-by : (index : ℕ) (lane : Lane) (tool : Option Tool) (terms : List Term) → slice_get (received_of tool) index ≡ Some terms → IfSome tool IsToolInShape → IsLaneInShape lane → IsLaneInShape (with_acknowledged_of index lane tool)
acknowledged-by index lane None terms e k h = h
acknowledged-by index lane (Some tool) terms e k h =
    let parts = event_at index tool.received in
    let event = event-in index tool.received terms k.received e in
    let after : Tool = record tool { received = remove tool.received index } in
    with_out-in (Line (Appl (codes "rec-ack-event") parts)) (with_tool after lane) (line-in (codes "rec-ack-event") parts (parts-there (length parts) event.0) event.1)
    (record { tool = record { eval = k.eval; events = k.events; received = all-remove IsEvent tool.received index k.received }; outs = h.outs })

pub acknowledged-in : (index lane : ℕ) (bench : BenchState) (terms : List Term) → slice_get (received_at lane bench) index ≡ Some terms → IsBenchInShape bench → IsBenchInShape (acknowledged index lane bench)
acknowledged-in index lane bench terms e h =
    let old = lane-in lane bench h in
    on_lane-in (with_acknowledged index) lane bench h (acknowledged-by index (lane_at lane bench) (tool_at lane bench) terms e old.tool old)

ended-in : (reason : Term) (lane : Lane) → AreParts (reason ∷ []) → IsLaneInShape lane → IsLaneInShape (ended_with (last_line reason) lane)
ended-in reason lane k h = record {
  tool = h.tool;
  outs = All-append IsOutInShape lane.outs (last_line reason ∷ End ∷ []) h.outs
      (All-cons IsOutInShape (last_line reason) (End ∷ []) (line-in (codes "rec-terminate") (reason ∷ []) refl k) (All-cons IsOutInShape End [] tt (All-nil IsOutInShape)));
}

pub terminated-in : (reason : Term) (lane : ℕ) (bench : BenchState) → AreParts (reason ∷ []) → IsBenchInShape bench → IsBenchInShape (terminated reason lane bench)
terminated-in reason lane bench k h =
    let new = ended-in reason (lane_at lane bench) k (lane-in lane bench h) in
    on_lane-in (λ lane. without_tool (ended_with (last_line reason) lane)) lane bench h (record { tool = tt; outs = new.outs })

dismissed-by : (reason : Term) (lane : Lane) (b : Bool) → AreParts (reason ∷ []) → IsLaneInShape lane → IsLaneInShape (if b then ended_with (last_line reason) lane else lane)
dismissed-by reason lane true k h = ended-in reason lane k h
dismissed-by reason lane false k h = h

pub gone_down-in : (reason : Term) (bench : BenchState) → AreParts (reason ∷ []) → IsBenchInShape bench → IsBenchInShape (gone_down reason bench)
gone_down-in reason bench k h =
    All-map IsLaneInShape (dismissed (last_line reason)) bench.lanes
    (All-weaker IsLaneInShape (λ lane. IsLaneInShape (dismissed (last_line reason) lane)) (λ lane l. dismissed-by reason lane (is_open lane) k l) bench.lanes h)

pub handed_out-in : (lane : ℕ) (bench : BenchState) → IsBenchInShape bench → IsBenchInShape (handed_out lane bench)
handed_out-in lane bench h =
    let old = lane-in lane bench h in
    on_lane-in without_out lane bench h (record { tool = old.tool; outs = All-drop IsOutInShape 1 (lane_at lane bench).outs old.outs })

-- what is to be handed out is in shape
pub next_out-in : (lane : ℕ) (bench : BenchState) (out : Out) → IsBenchInShape bench → next_out lane bench ≡ Some out → IsOutInShape out
next_out-in lane bench out h e = let old = lane-in lane bench h in all-there IsOutInShape (outs_at lane bench) 0 out old.outs e

-- what comes from the lanes

flushed-by : (lane : Lane) (b : Bool) → IsLaneInShape lane → All IsOutInShape (let new : Lane = if b then lane else record lane { ended = true; outs = End ∷ [] } in new.outs)
flushed-by lane true h = h.outs
flushed-by lane false h = All-cons IsOutInShape End [] tt (All-nil IsOutInShape)

departed-by : (tool : Tool) (at : Stage) → IsToolInShape tool → IfSome (departed_by tool at) IsToolInShape
departed-by tool stage.Waiting h = tt
departed-by tool stage.Live h = record { eval = h.eval; events = h.events; received = h.received }
departed-by tool stage.Leaving h = h

departed-in : (tool : Option Tool) → IfSome tool IsToolInShape → IfSome (departed tool) IsToolInShape
departed-in None h = tt
departed-in (Some tool) h = departed-by tool tool.stage h

closed-in : (lane : Lane) → IsLaneInShape lane → IsLaneInShape (closed lane)
closed-in lane h = record { tool = departed-in lane.tool h.tool; outs = flushed-by lane (lane.ended && is_empty lane.outs) h }

lost-in : (lane : Lane) → IsLaneInShape lane → IsLaneInShape (lost lane)
lost-in lane h = let new = closed-in lane h in record { tool = new.tool; outs = new.outs }

up-in : (b : Bool) (new bench : BenchState) → IsBenchInShape bench → IsBenchInShape new →
    IsBenchInShape (let answer : Answer = if b then record { reply = Took; bench = new } else record { reply = Dropped why.NotLive; bench = bench } in answer.bench)
up-in true new bench h k = k
up-in false new bench h k = h

while_up-in : (change : Lane → Lane) (lane : ℕ) (bench : BenchState) → ((old : Lane) → IsLaneInShape old → IsLaneInShape (change old)) → IsBenchInShape bench → IsBenchInShape (while_up change lane bench).bench
while_up-in change lane bench k h = up-in (lane_at lane bench).up (on_lane change lane bench) bench h (on_lane-in change lane bench h (k (lane_at lane bench) (lane-in lane bench h)))

pub gone-in : (lane : ℕ) (bench : BenchState) → IsBenchInShape bench → IsBenchInShape (gone lane bench).bench
gone-in lane bench h = while_up-in lost lane bench lost-in h

pub cut-in : (lane : ℕ) (bench : BenchState) → IsBenchInShape bench → IsBenchInShape (cut lane bench).bench
cut-in lane bench h = while_up-in closed lane bench closed-in h

with_line-in : (line : ToolLine) (lane : ℕ) (bench : BenchState) → IsToolLineInShape line → IsBenchInShape bench → IsBenchInShape (with_line line lane bench)
with_line-in (tool_line.Value value) lane bench k h =
    on_lane-in (answered value) lane bench h
    (on_tool-in (λ tool. record tool { eval = eval.Answered value }) (lane_at lane bench) (λ old e t. record { eval = k; events = t.events; received = t.received }) (lane-in lane bench h))
with_line-in (tool_line.Event terms) lane bench k h =
    on_lane-in (with_event terms) lane bench h
    (on_tool-in (λ tool. record tool { events = tool.events ++ terms ∷ [] }) (lane_at lane bench)
    (λ old e t. record { eval = t.eval; events = All-push IsEvent old.events terms t.events k; received = t.received }) (lane-in lane bench h))
with_line-in (tool_line.Connect name) lane bench k h =
    on_lane-in (with_tool (new_tool name bench.next_tool stage.Waiting)) lane bench h
    (let old = lane-in lane bench h in record { tool = new-in name bench.next_tool stage.Waiting; outs = old.outs })
with_line-in tool_line.Disconnect lane bench k h = on_lane-in closed lane bench h (closed-in (lane_at lane bench) (lane-in lane bench h))
with_line-in tool_line.Bad lane bench k h = h

line-by : (found : Option Why) (line : ToolLine) (lane : ℕ) (bench : BenchState) → IsToolLineInShape line → IsBenchInShape bench → IsBenchInShape (line_by found line lane bench).bench
line-by None line lane bench k h = with_line-in line lane bench k h
line-by (Some found) line lane bench k h = h

pub put_line-in : (declared : Bool) (line : ToolLine) (lane : ℕ) (bench : BenchState) → IsToolLineInShape line → IsBenchInShape bench → IsBenchInShape (put_line declared line lane bench).bench
put_line-in declared line lane bench k h = line-by (dropped declared line (lane_at lane bench)) line lane bench k h

-- the opening bench
pub opening-in : (commands : List (List ℕ)) → IsBenchInShape (opening commands)
opening-in commands =
    All-append IsLaneInShape (map (λ command. started command unused) commands) (replicate (lane_count - length commands) unused)
    (All-map IsLaneInShape (λ command. started command unused) commands (λ k d l. record { tool = tt; outs = All-push IsOutInShape [] (Start (slice_index_or commands k d)) (All-nil IsOutInShape) tt }))
    (All-replicate IsLaneInShape (lane_count - length commands) unused unused-in)

-- what stands on a lane

answer-by : (tool : Option Tool) (value : Term) → IfSome tool IsToolInShape → answer_by tool ≡ Some value → IsWithinLimits value
answer-by None value h e = cc
answer-by (Some tool) value h e = by tool.eval h.eval e
  where
    by : (found : Eval) → IsEvalInShape found → answer_of found ≡ Some value → IsWithinLimits value
    by eval.Closed k f = cc
    by eval.Asked k f = cc
    by (eval.Answered other) k f = subst IsWithinLimits (same_Some other value f) k

pub answer-in : (lane : ℕ) (bench : BenchState) (value : Term) → IsBenchInShape bench → answer_at lane bench ≡ Some value → IsWithinLimits value
answer-in lane bench value h e = let old = lane-in lane bench h in answer-by (tool_at lane bench) value old.tool e

events-by : (tool : Option Tool) → IfSome tool IsToolInShape → All IsEvent (events_of tool)
events-by None h = All-nil IsEvent
events-by (Some tool) h = h.events

-- an event that waits there
pub event_at-in : (index lane : ℕ) (bench : BenchState) (terms : List Term) → IsBenchInShape bench → slice_get (events_at lane bench) index ≡ Some terms → IsEvent (event_at index (events_at lane bench))
event_at-in index lane bench terms h e = let old = lane-in lane bench h in event-in index (events_at lane bench) terms (events-by (tool_at lane bench) old.tool) e
