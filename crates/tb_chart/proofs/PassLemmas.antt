-- Lemmas on what is right with an entry as a log goes on.
use Rattle.std.proofs.Common.{◌≡◌, ◌∙◌, ◌<◌, ◌^◌, ℕ, List, length, Bool, true, false, inl, inr, Option, Some, None, is_some, Result, Ok, Err, IfOk, IfSome, IsTrue, refl, sym, ap, subst}
use Rattle.std.specs.Prelude.{slice_get}
use Rattle.std.specs.List.{list_any}
use Rattle.std.specs.Str.{bytes_eq}
use Rattle.std.proofs.lemmas.Bool.{false≢true}
use Rattle.std.proofs.lemmas.Option.{none-some, same_Some}
use Rattle.tb_terms.specs.declared.memory.NoMemory.{NoMemory}
use Rattle.tb_terms.specs.declared.term.Term.{Term}
use Rattle.tb_log.specs.declared.entry.Entry.{Entry}
use Rattle.tb_log.specs.declared.entry.Entry.TheVariants.{Did, Quiet, Fed, Gave}
use Rattle.tb_log.specs.declared.entry.Input.{Input}
use Rattle.tb_log.specs.declared.entry.Input.TheVariants as input
use Rattle.tb_log.specs.declared.entry.Label.{Label}
use Rattle.tb_log.specs.declared.entry.LabelKind.{LabelKind}
use Rattle.tb_log.specs.declared.entry.LabelKind.TheVariants as kind
use Rattle.tb_log.specs.declared.entry.Out.{Out}
use Rattle.tb_log.specs.declared.entry.Reply.TheVariants.{Took, Dropped}
use Rattle.tb_log.specs.declared.entry.ToolLine.{ToolLine}
use Rattle.tb_log.specs.declared.entry.ToolLine.TheVariants as line
use Rattle.tb_chart.specs.declared.cast.Cast.{Cast}
use Rattle.tb_chart.specs.declared.figure.End.{End}
use Rattle.tb_chart.specs.declared.figure.End.TheVariants.{Process, Child, Tool, Lane, Notes}
use Rattle.tb_chart.specs.declared.row.Seat.{Seat}
use Rattle.tb_chart.specs.declared.row.Who.{Who}
use Rattle.tb_chart.specs.declared.row.Who.TheVariants as who
use Rattle.tb_chart.specs.declared.scene.Scene.{Scene}
use Rattle.tb_chart.specs.Helpers.Additions.{HasEnds, HasNumber, IfYes, IsThere, Passes, is_player, seat_of}
use Rattle.tb_chart.specs.Numbers.{numbered}
use Rattle.tb_chart.specs.Players.{created_by}
use Rattle.tb_chart.specs.Refused.{IsLostStep, IsStrange, declares, declares_one, is_lane}
use Rattle.tb_chart.specs.Terms.{creates, is_declared, is_text, speaks_of}
use Rattle.tb_chart.specs.Tools.{has_number, tool_name, tool_number}
use Rattle.tb_chart.proofs.ListLemmas.{any_here}
use Rattle.tb_chart.proofs.SceneLemmas.{left_lane, turns}
use Rattle.tb_chart.proofs.SeatLemmas.{first_named, line_keeps, some_at, speaks_in}

-- an end that is found is there
some_there : (players : List ℕ) (number : ℕ) (found : Who) → found ≡ who.Process number → is_player players found ≡ true
    → numbered players number ≡ None → ⊥
some_there players number found is there none =
    false≢true (ap is_some (sym none) ∙ sym (ap (is_player players) is) ∙ there)

pub process_there : (scene : Scene) (entry : Entry) (number : ℕ) (result : Option Who) → IfSome result (λ found. found ≡ who.Process number)
    → IfSome result (λ found. IsTrue (is_player scene.players.items found)) → IfSome result (λ found. IsThere scene entry (Process number))
process_there scene entry number (Some found) is there = record { there = λ tools seated. some_there scene.players.items number found is there }
process_there scene entry number None is there = tt

pub child_there : (scene : Scene) (entry : Entry) (number : ℕ) (result : Option Who) → IsTrue (creates entry number) → number < 2 ^ 32
    → IfSome result (λ found. found ≡ who.Process number) → IfSome result (λ found. IsTrue (is_player scene.players.items found))
    → IfSome result (λ found. IsThere scene entry Child)
child_there scene entry number (Some found) names small is there = record {
  there = λ tools seated absent. some_there scene.players.items number found is there (absent number small names);
}
child_there scene entry number None names small is there = tt

pub tool_there : (scene : Scene) (label : Label) (seat : Seat) → Some seat ≡ seat_of scene.seats.items label.terms
    → true ≡ speaks_of scene.cast.now.tools.items (Did label) seat.kind → IsThere scene (Did label) Tool
tool_there scene label seat found speaks = record {
  there = λ tools seated absent. false≢true (sym absent
      ∙ first_named scene.cast.now.tools.items scene.seats.items tools seated.names label.terms
      ∙ ap (speaks_in scene.cast.now.tools.items label.terms) (sym found)
      ∙ sym speaks);
}

pub program_there : (scene : Scene) (entry : Entry) (lane : ℕ) (result : Option Who)
    → IfSome result (λ found. IsTrue (is_lane (length scene.lanes.items) lane)) → IfSome result (λ found. IsThere scene entry (Lane lane))
program_there scene entry lane (Some found) there = record { there = λ tools seated absent. false≢true (sym absent ∙ there) }
program_there scene entry lane None there = tt

pub notes_there : (scene : Scene) (entry : Entry) → IsThere scene entry Notes
notes_there scene entry = record { there = λ tools seated absent. absent }

-- both ends
pub no_ends : (scene : Scene) (entry : Entry) → HasEnds scene entry None
no_ends scene entry = record { there = λ tools seated lacks. lacks }

pub both_there : (scene : Scene) (entry : Entry) (from to : End) → IsThere scene entry from → IsThere scene entry to
    → HasEnds scene entry (Some (from, to))
both_there scene entry from to first second = record {
  there = λ tools seated lacks. elim lacks [
    | inl it ↦ first.there tools seated it
    | inr it ↦ second.there tools seated it
  ];
}

-- an entry with which nothing can be wrong apart from its ends
abbrev kind_passes : LabelKind → Bool
kind_passes kind.Create = false
kind_passes kind.Execute = false
kind_passes kind.RecConnect = false
kind_passes kind.RecDisconnect = false
kind_passes kind.SndEval = false
kind_passes kind.SndDo = false
kind_passes kind.SndAckEvent = false
kind_passes kind.SndTerminate = false
kind_passes _ = true

abbrev input_passes : Input → Bool
input_passes input.Tick = true
input_passes input.NoTicks = true
input_passes (input.Line lane line) = false
input_passes (input.Gone lane) = false
input_passes (input.Cut lane) = false

abbrev pub always_passes : Entry → Bool
always_passes (Did label) = kind_passes label.kind
always_passes Quiet = true
always_passes (Fed input Took) = input_passes input
always_passes (Fed input (Dropped why)) = true
always_passes (Gave lane out) = false

kind_not_lost : (it : LabelKind) (cast : Cast) (players : List ℕ) (tools : List (List ℕ)) (label : Label) → kind_passes it ≡ true
    → IsLostStep it cast players tools label → ⊥
kind_not_lost kind.Create cast players tools label is = absurd (false≢true is)
kind_not_lost kind.Execute cast players tools label is = absurd (false≢true is)
kind_not_lost kind.RecConnect cast players tools label is = absurd (false≢true is)
kind_not_lost kind.RecDisconnect cast players tools label is = absurd (false≢true is)
kind_not_lost kind.SndEval cast players tools label is = absurd (false≢true is)
kind_not_lost kind.SndDo cast players tools label is = absurd (false≢true is)
kind_not_lost kind.SndAckEvent cast players tools label is = absurd (false≢true is)
kind_not_lost kind.SndTerminate cast players tools label is = absurd (false≢true is)
kind_not_lost _ cast players tools label is = λ lost. lost

pub passes : (scene : Scene) (entry : Entry) → always_passes entry ≡ true → Passes scene entry
passes scene (Did label) is = record {
  not_lost = λ tools seated. kind_not_lost label.kind scene.cast.now scene.players.items tools label is;
}
passes scene Quiet is = record { not_lost = λ tools seated lost. lost }
passes scene (Fed input.Tick Took) is = record { not_lost = λ tools seated lost. lost }
passes scene (Fed input.NoTicks Took) is = record { not_lost = λ tools seated lost. lost }
passes scene (Fed (input.Line lane line) Took) is = absurd (false≢true is)
passes scene (Fed (input.Gone lane) Took) is = absurd (false≢true is)
passes scene (Fed (input.Cut lane) Took) is = absurd (false≢true is)
passes scene (Fed input (Dropped why)) is = record { not_lost = λ tools seated lost. lost }
passes scene (Gave lane out) is = absurd (false≢true is)

-- a `create` whose atom creates a process
pub passes_create : (scene : Scene) (label : Label) (body : ℕ) → label.kind ≡ kind.Create
    → Some body ≡ created_by scene.cast.now scene.players.items label → Passes scene (Did label)
passes_create scene label body is found = record {
  not_lost = λ tools seated lost. none-some body
      (sym (subst (λ it. IsLostStep it scene.cast.now scene.players.items tools label) is lost) ∙ sym found);
}

-- a tool that is declared
text_there : (name : List ℕ) (tools : List (List ℕ)) (tool : ℕ) (found : Option (List ℕ)) → slice_get tools tool ≡ found
    → is_text name found ≡ true → list_any (λ it. bytes_eq it name) tools ≡ true
text_there name tools tool None here is = absurd (false≢true is)
text_there name tools tool (Some found) here is = any_here (λ it. bytes_eq it name) tools tool found here is

known_name : (name : List ℕ) (cast : Cast) (tool : ℕ) (kind : Option ℕ) → kind ≡ Some tool
    → IfSome kind (λ kind. IsTrue (is_declared cast.tools.items (Some kind) name)) → declares cast name ≡ true
known_name name cast tool kind at is =
    text_there name cast.tools.items tool (slice_get cast.tools.items tool) refl
    (subst (λ it. IfSome it (λ kind. IsTrue (is_declared cast.tools.items (Some kind) name))) at is)

pub passes_execute : (label : Label) (tool : ℕ) (name : List ℕ) (scene : Scene) (found : Option ℕ) (result : Result Bool NoMemory)
    → label.kind ≡ kind.Execute → tool_name label.terms ≡ Some name → found ≡ Some tool
    → IfSome found (λ kind. IsTrue (is_declared scene.cast.now.tools.items (Some kind) name)) → IfOk result (λ ok. IfYes ok (Passes scene (Did label)))
passes_execute label tool name scene found (Ok true) execute named at is = record {
  not_lost = λ tools seated lost. false≢true
      (sym (subst (λ it. IsLostStep it scene.cast.now scene.players.items tools label) execute lost)
      ∙ ap (declares_one scene.cast.now) named
      ∙ known_name name scene.cast.now tool found at is);
}
passes_execute label tool name scene found (Ok false) execute named at is = tt
passes_execute label tool name scene found (Err fault) execute named at is = tt

-- a tool that is there
pub number_there : (scene : Scene) (terms : List Term) (seat : Seat) (ok : Bool) → Some seat ≡ seat_of scene.seats.items terms
    → IfYes ok (HasNumber scene terms)
number_there scene terms seat true found = record {
  has = λ tools seated.
      some_at scene.cast.now.tools.items scene.seats.items tools seated.names (tool_number terms) ∙ ap is_some (sym found);
}
number_there scene terms seat false found = tt

-- a step that changes its lane
turn_not_lost : (it : LabelKind) (cast : Cast) (players : List ℕ) (tools : List (List ℕ)) (label : Label) → turns it ≡ true
    → has_number tools label.terms ≡ true → IsLostStep it cast players tools label → ⊥
turn_not_lost kind.RecConnect cast players tools label is has = λ lost. false≢true (sym lost ∙ has)
turn_not_lost kind.RecDisconnect cast players tools label is has = λ lost. false≢true (sym lost ∙ has)
turn_not_lost kind.SndEval cast players tools label is has = λ lost. false≢true (sym lost ∙ has)
turn_not_lost kind.SndDo cast players tools label is has = λ lost. false≢true (sym lost ∙ has)
turn_not_lost kind.SndAckEvent cast players tools label is has = λ lost. false≢true (sym lost ∙ has)
turn_not_lost kind.SndTerminate cast players tools label is has = λ lost. false≢true (sym lost ∙ has)
turn_not_lost _ cast players tools label is has = absurd (false≢true is)

pub passes_turn : (scene : Scene) (label : Label) (ok : Bool) → turns label.kind ≡ true → IfYes ok (HasNumber scene label.terms)
    → IfYes ok (Passes scene (Did label))
passes_turn scene label true is has = record {
  not_lost = λ tools seated. turn_not_lost label.kind scene.cast.now scene.players.items tools label is (has.has tools seated);
}
passes_turn scene label false is has = tt

-- an input that the bus took, of a lane that there is
not_strange : (cast : Cast) (it : ToolLine) → line_keeps it ≡ true → IsStrange cast it → ⊥
not_strange cast (line.Value term) is = λ strange. strange
not_strange cast (line.Event terms) is = λ strange. strange
not_strange cast (line.Connect name) is = absurd (false≢true is)
not_strange cast line.Disconnect is = λ strange. strange
not_strange cast line.Bad is = λ strange. strange

pub passes_line : (lane : ℕ) (it : ToolLine) (scene : Scene) (ok : Bool) → line_keeps it ≡ true → ok ≡ is_lane (length scene.lanes.items) lane
    → IfYes ok (Passes scene (Fed (input.Line lane it) Took))
passes_line lane it scene true keeps there = record {
  not_lost = λ tools seated lost. elim lost [
    | inl none ↦ false≢true (sym none ∙ sym there)
    | inr strange ↦ not_strange scene.cast.now it keeps strange
  ];
}
passes_line lane it scene false keeps there = tt

pub passes_connect : (lane tool : ℕ) (name : List ℕ) (scene : Scene) (found : Option ℕ) (result : Result Bool NoMemory) → found ≡ Some tool
    → IfSome found (λ kind. IsTrue (is_declared scene.cast.now.tools.items (Some kind) name)) → IfOk result (λ ok. ok ≡ is_lane (length scene.lanes.items) lane)
    → IfOk result (λ ok. IfYes ok (Passes scene (Fed (input.Line lane (line.Connect name)) Took)))
passes_connect lane tool name scene found (Ok true) at is there = record {
  not_lost = λ tools seated lost. elim lost [
    | inl none ↦ false≢true (sym none ∙ sym there)
    | inr strange ↦ false≢true (sym strange ∙ known_name name scene.cast.now tool found at is)
  ];
}
passes_connect lane tool name scene found (Ok false) at is there = tt
passes_connect lane tool name scene found (Err fault) at is there = tt

pub passes_left : (it : Input) (lane : ℕ) (scene : Scene) (ok : Bool) → left_lane it ≡ Some lane → ok ≡ is_lane (length scene.lanes.items) lane
    → IfYes ok (Passes scene (Fed it Took))
passes_left it lane scene false at there = tt
passes_left input.Tick lane scene true at there = absurd (none-some lane at)
passes_left input.NoTicks lane scene true at there = absurd (none-some lane at)
passes_left (input.Line other line) lane scene true at there = absurd (none-some lane at)
passes_left (input.Gone other) lane scene true at there = record {
  not_lost = λ tools seated lost. false≢true (sym lost ∙ ap (is_lane (length scene.lanes.items)) (same_Some other lane at) ∙ sym there);
}
passes_left (input.Cut other) lane scene true at there = record {
  not_lost = λ tools seated lost. false≢true (sym lost ∙ ap (is_lane (length scene.lanes.items)) (same_Some other lane at) ∙ sym there);
}

-- an output on a lane that there is
pub passes_gave : (lane : ℕ) (out : Out) (scene : Scene) (ok : Bool) → ok ≡ is_lane (length scene.lanes.items) lane
    → IfYes ok (Passes scene (Gave lane out))
passes_gave lane out scene true there = record { not_lost = λ tools seated lost. false≢true (sym lost ∙ sym there) }
passes_gave lane out scene false there = tt
