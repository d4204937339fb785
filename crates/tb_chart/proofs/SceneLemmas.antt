-- Lemmas on the processes and the tools as a log goes on.
use Rattle.std.proofs.Common.{◌≡◌, ◌∙◌, ℕ, List, length, Bool, true, false, inl, inr, Option, Some, None, Result, Ok, Err, IfOk, OnOk, refl, sym, ap, subst}
use Rattle.std.specs.List.{list_any}
use Rattle.std.specs.Str.{bytes_eq}
use Rattle.std.proofs.lemmas.Bool.{false≢true}
use Rattle.std.proofs.lemmas.Option.{none-some, same_Some}
use Rattle.tb_terms.specs.declared.memory.NoMemory.{NoMemory}
use Rattle.tb_log.specs.declared.entry.Entry.{Entry}
use Rattle.tb_log.specs.declared.entry.Entry.TheVariants.{Did, Fed, Gave}
use Rattle.tb_log.specs.declared.entry.Input.{Input}
use Rattle.tb_log.specs.declared.entry.Input.TheVariants as input
use Rattle.tb_log.specs.declared.entry.Label.{Label}
use Rattle.tb_log.specs.declared.entry.LabelKind.{LabelKind}
use Rattle.tb_log.specs.declared.entry.LabelKind.TheVariants as kind
use Rattle.tb_log.specs.declared.entry.Out.{Out}
use Rattle.tb_log.specs.declared.entry.Reply.TheVariants.{Took}
use Rattle.tb_log.specs.declared.entry.ToolLine.{ToolLine}
use Rattle.tb_log.specs.declared.entry.ToolLine.TheVariants as line
use Rattle.tb_chart.specs.declared.cast.Cast.{Cast}
use Rattle.tb_chart.specs.declared.figure.End.{End}
use Rattle.tb_chart.specs.declared.scene.Scene.{Scene}
use Rattle.tb_chart.specs.Helpers.Additions.{AddsSeat, Follows, IfNo, IsAbsentIn, Keeps, LacksEndIn, LacksNumber, Seated}
use Rattle.tb_chart.specs.Numbers.{numbered}
use Rattle.tb_chart.specs.Players.{created_by, players_after, players_by}
use Rattle.tb_chart.specs.Refused.{IsLostStep, is_execute_kind, is_lane}
use Rattle.tb_chart.specs.Terms.{is_declared}
use Rattle.tb_chart.specs.Tools.{has_number, tool_name, tools_by, with_tool}
use Rattle.tb_chart.proofs.SeatLemmas.{keeps_tools, line_keeps, seated_kept, seated_more}

-- one of two ends
pub lacks_first : (scene : Scene) (entry : Entry) (from to : End) → IsAbsentIn scene entry from → LacksEndIn scene entry (Some (from, to))
lacks_first scene entry from to absent = λ tools seated. inl (absent tools seated)

pub lacks_second : (scene : Scene) (entry : Entry) (from to : End) → IsAbsentIn scene entry to → LacksEndIn scene entry (Some (from, to))
lacks_second scene entry from to absent = λ tools seated. inr (absent tools seated)

-- an entry that creates no process and makes no tool
pub follows_kept : (entry : Entry) (old new : Scene) → Keeps old new → players_after old.cast.now old.players.items entry ≡ old.players.items
    → keeps_tools entry ≡ true → Follows entry old new true
follows_kept entry old new keeps same none = record {
  players = keeps.players ∙ sym same;
  keep = λ number body is. ap (λ those. numbered those number) keeps.players ∙ is;
  tools = λ tools seated. seated_kept entry old new tools keeps.seats keeps.cast keeps.lanes none seated;
  cast = keeps.cast;
  lanes = keeps.lanes;
}

-- a step that changes the lane of its tool
abbrev pub turns : LabelKind → Bool
turns kind.RecConnect = true
turns kind.RecDisconnect = true
turns kind.SndEval = true
turns kind.SndDo = true
turns kind.SndAckEvent = true
turns kind.SndTerminate = true
turns _ = false

turn_lost : (it : LabelKind) (cast : Cast) (players : List ℕ) (tools : List (List ℕ)) (label : Label) → turns it ≡ true
    → has_number tools label.terms ≡ false → IsLostStep it cast players tools label
turn_lost kind.RecConnect cast players tools label is lacks = lacks
turn_lost kind.RecDisconnect cast players tools label is lacks = lacks
turn_lost kind.SndEval cast players tools label is lacks = lacks
turn_lost kind.SndDo cast players tools label is lacks = lacks
turn_lost kind.SndAckEvent cast players tools label is lacks = lacks
turn_lost kind.SndTerminate cast players tools label is lacks = lacks
turn_lost _ cast players tools label is lacks = absurd (false≢true is)

pub follows_tool : (label : Label) (old new : Scene) (ok : Bool) → Keeps old new
    → players_after old.cast.now old.players.items (Did label) ≡ old.players.items → keeps_tools (Did label) ≡ true → turns label.kind ≡ true
    → IfNo ok (LacksNumber old label.terms) → Follows (Did label) old new ok
follows_tool label old new true keeps same none is lacks = follows_kept (Did label) old new keeps same none
follows_tool label old new false keeps same none is lacks = λ tools seated.
    inl (turn_lost label.kind old.cast.now old.players.items tools label is (lacks.lacks tools seated))

-- a `create` of an atom that creates no process
pub create_fails : (label : Label) (old new : Scene) → label.kind ≡ kind.Create → created_by old.cast.now old.players.items label ≡ None
    → Follows (Did label) old new false
create_fails label old new is none = λ tools seated.
    inl (subst (λ it. IsLostStep it old.cast.now old.players.items tools label) (sym is) none)

-- an `execute`
pub execute_fails : (label : Label) (old new : Scene) → label.kind ≡ kind.Execute → Follows (Did label) old new false
execute_fails label old new is = λ tools seated. inr (ap is_execute_kind is)

execute_goes : (label : Label) (lane tool : ℕ) (name : List ℕ) (old new : Scene) (ok : Bool) → label.kind ≡ kind.Execute
    → tool_name label.terms ≡ Some name → is_declared old.cast.now.tools.items (Some tool) name ≡ true
    → AddsSeat (record { lane = lane; kind = Some tool }) old new → ok ≡ is_lane (length old.lanes.items) lane → Follows (Did label) old new ok
execute_goes label lane tool name old new true execute named is adds there = record {
  players = adds.players ∙ sym (ap (λ it. players_by it old.cast.now old.players.items label) execute);
  keep = λ number body has. ap (λ those. numbered those number) adds.players ∙ has;
  tools = λ tools seated. subst (Seated new) (sym (ap (λ it. tools_by it tools label.terms) execute ∙ ap (with_tool tools) named))
      (seated_more lane tool name old new tools adds is (sym there) seated);
  cast = adds.cast;
  lanes = adds.lanes;
}
execute_goes label lane tool name old new false execute named is adds there = execute_fails label old new execute

pub follows_execute : (label : Label) (lane tool : ℕ) (name : List ℕ) (old new : Scene) (result : Result Bool NoMemory) → label.kind ≡ kind.Execute
    → tool_name label.terms ≡ Some name → is_declared old.cast.now.tools.items (Some tool) name ≡ true
    → OnOk result (AddsSeat (record { lane = lane; kind = Some tool }) old new) → IfOk result (λ ok. ok ≡ is_lane (length old.lanes.items) lane)
    → IfOk result (Follows (Did label) old new)
follows_execute label lane tool name old new (Ok ok) execute named is adds there = execute_goes label lane tool name old new ok execute named is adds there
follows_execute label lane tool name old new (Err fault) execute named is adds there = tt

-- a connect request that the bus accepted
connect_goes : (lane tool : ℕ) (name : List ℕ) (old new : Scene) (ok : Bool) → is_declared old.cast.now.tools.items (Some tool) name ≡ true
    → AddsSeat (record { lane = lane; kind = Some tool }) old new → ok ≡ is_lane (length old.lanes.items) lane
    → Follows (Fed (input.Line lane (line.Connect name)) Took) old new ok
connect_goes lane tool name old new true is adds there = record {
  players = adds.players;
  keep = λ number body has. ap (λ those. numbered those number) adds.players ∙ has;
  tools = λ tools seated. seated_more lane tool name old new tools adds is (sym there) seated;
  cast = adds.cast;
  lanes = adds.lanes;
}
connect_goes lane tool name old new false is adds there = λ tools seated. inl (inl (sym there))

pub follows_connect : (lane tool : ℕ) (name : List ℕ) (old new : Scene) (result : Result Bool NoMemory)
    → is_declared old.cast.now.tools.items (Some tool) name ≡ true → OnOk result (AddsSeat (record { lane = lane; kind = Some tool }) old new)
    → IfOk result (λ ok. ok ≡ is_lane (length old.lanes.items) lane) → IfOk result (Follows (Fed (input.Line lane (line.Connect name)) Took) old new)
follows_connect lane tool name old new (Ok ok) is adds there = connect_goes lane tool name old new ok is adds there
follows_connect lane tool name old new (Err fault) is adds there = tt

pub follows_strange : (lane : ℕ) (name : List ℕ) (old new : Scene) → list_any (λ tool. bytes_eq tool name) old.cast.now.tools.items ≡ false
    → Follows (Fed (input.Line lane (line.Connect name)) Took) old new false
follows_strange lane name old new none = λ tools seated. inl (inr none)

-- another line that the bus took
pub follows_line : (lane : ℕ) (it : ToolLine) (old new : Scene) (ok : Bool) → Keeps old new → line_keeps it ≡ true
    → ok ≡ is_lane (length old.lanes.items) lane → Follows (Fed (input.Line lane it) Took) old new ok
follows_line lane it old new true keeps none there = follows_kept (Fed (input.Line lane it) Took) old new keeps refl none
follows_line lane it old new false keeps none there = λ tools seated. inl (inl (sym there))

-- the lane of a program that has ended
abbrev pub left_lane : Input → Option ℕ
left_lane input.Tick = None
left_lane input.NoTicks = None
left_lane (input.Line lane line) = None
left_lane (input.Gone lane) = Some lane
left_lane (input.Cut lane) = Some lane

pub follows_left : (it : Input) (lane : ℕ) (old new : Scene) (ok : Bool) → left_lane it ≡ Some lane → Keeps old new
    → ok ≡ is_lane (length old.lanes.items) lane → Follows (Fed it Took) old new ok
follows_left input.Tick lane old new ok at keeps there = absurd (none-some lane at)
follows_left input.NoTicks lane old new ok at keeps there = absurd (none-some lane at)
follows_left (input.Line other line) lane old new ok at keeps there = absurd (none-some lane at)
follows_left (input.Gone other) lane old new true at keeps there = follows_kept (Fed (input.Gone other) Took) old new keeps refl refl
follows_left (input.Gone other) lane old new false at keeps there = λ tools seated.
    inl (ap (is_lane (length old.lanes.items)) (same_Some other lane at) ∙ sym there)
follows_left (input.Cut other) lane old new true at keeps there = follows_kept (Fed (input.Cut other) Took) old new keeps refl refl
follows_left (input.Cut other) lane old new false at keeps there = λ tools seated.
    inl (ap (is_lane (length old.lanes.items)) (same_Some other lane at) ∙ sym there)

pub follows_gave : (lane : ℕ) (out : Out) (old new : Scene) (ok : Bool) → Keeps old new → ok ≡ is_lane (length old.lanes.items) lane
    → Follows (Gave lane out) old new ok
follows_gave lane out old new true keeps there = follows_kept (Gave lane out) old new keeps refl refl
follows_gave lane out old new false keeps there = λ tools seated. inl (sym there)
