-- Lemmas on the seats of tools as a log goes on.
use Rattle.std.proofs.Common.{◌≡◌, ◌∙◌, ◌<◌, ◌≤◌, ◌&&◌, ◌++◌, ◌∷◌, [], ℕ, zero, suc, List, length, map, get_or, Bool, true, false, All, Option, Some, None, option_map, refl, sym, ap, subst, arith}
use Rattle.std.specs.Prelude.{slice_get, is_some, nat_le, option_and_then}
use Rattle.std.proofs.lemmas.Bool.{and_from, false≢true, le-leb, lt-leb}
use Rattle.std.proofs.lemmas.List.{map_push}
use Rattle.std.proofs.lemmas.List.Elements.{All-nil, All-push}
use Rattle.std.proofs.lemmas.Option.{none-some, same_Some, slice_get-get_or, slice_get-map, slice_get_within}
use Rattle.std.proofs.lemmas.Slice.Eq.{bytes_eq-Decides}
use Rattle.tb_terms.specs.declared.term.Term.{Term, out-Term}
use Rattle.tb_terms.specs.declared.term.Term.TheOpen.{Term-F, Int, Str, Appl, List as ListOf}
use Rattle.tb_log.specs.declared.entry.Entry.{Entry}
use Rattle.tb_log.specs.declared.entry.Entry.TheVariants.{Did, Quiet, Fed, Gave}
use Rattle.tb_log.specs.declared.entry.Input.{Input}
use Rattle.tb_log.specs.declared.entry.Input.TheVariants as input
use Rattle.tb_log.specs.declared.entry.Label.{Label}
use Rattle.tb_log.specs.declared.entry.LabelKind.{LabelKind}
use Rattle.tb_log.specs.declared.entry.LabelKind.TheVariants as kind
use Rattle.tb_log.specs.declared.entry.Reply.TheVariants.{Took, Dropped}
use Rattle.tb_log.specs.declared.entry.ToolLine.{ToolLine}
use Rattle.tb_log.specs.declared.entry.ToolLine.TheVariants as line
use Rattle.tb_chart.specs.declared.cast.Cast.{Cast}
use Rattle.tb_chart.specs.declared.row.Seat.{Seat}
use Rattle.tb_chart.specs.declared.scene.Scene.{Scene}
use Rattle.tb_chart.specs.Helpers.Additions.{AddsSeat, HasLane, HasNoTool, IfNo, LacksNumber, Seated, declared, seat_of}
use Rattle.tb_chart.specs.Numbers.{index_of, numbered}
use Rattle.tb_chart.specs.Refused.{is_lane}
use Rattle.tb_chart.specs.Terms.{first_names, is_declared, is_text, names_in, speaks_of}
use Rattle.tb_chart.specs.Tools.{first_is_tool, is_tool_term, number_named, tool_number, tools_after, tools_by, tools_by_input, tools_by_line}

-- a lane by its index
pub lane_there : (lane index lanes : ℕ) → Some index ≡ index_of lane → index < lanes → true ≡ is_lane lanes lane
lane_there zero index lanes found within = absurd (none-some index (sym found))
lane_there (suc lane) index lanes found within =
    let at : index ≡ lane = same_Some index lane found in
    let most : suc lane ≤ lanes = omega (arith, at, within) in
    sym (and_from (nat_le 1 (suc lane)) (nat_le (suc lane) lanes) (le-leb 1 (suc lane) (omega arith)) (le-leb (suc lane) lanes most))

pub lane_absent : (lane index lanes : ℕ) → Some index ≡ index_of lane → lanes ≤ index → false ≡ is_lane lanes lane
lane_absent zero index lanes found past = absurd (none-some index (sym found))
lane_absent (suc lane) index lanes found past =
    let at : index ≡ lane = same_Some index lane found in
    let few : lanes < suc lane = omega (arith, at, past) in
    sym (ap (λ b. b && nat_le (suc lane) lanes) (le-leb 1 (suc lane) (omega arith)) ∙ lt-leb (suc lane) lanes few)

pub lane_zero : (lane lanes : ℕ) → None ≡ index_of lane → false ≡ is_lane lanes lane
lane_zero zero lanes none = refl
lane_zero (suc lane) lanes none = absurd (none-some lane none)

-- the tool on a seat has the name in a term
abbrev term_speaks : List (List ℕ) → Term-F Term → Option Seat → Bool
term_speaks tools it None = false
term_speaks tools it (Some seat) = names_in tools seat.kind it

abbrev pub speaks_in : List (List ℕ) → List Term → Option Seat → Bool
speaks_in tools terms None = false
speaks_in tools terms (Some seat) = first_names tools seat.kind terms

-- seats and names have the same numbers
kind_text : (tools : List (List ℕ)) (kind : Option ℕ) (name : List ℕ)
    → is_text name (option_and_then (λ kind. slice_get tools kind) kind) ≡ is_declared tools kind name
kind_text tools None name = refl
kind_text tools (Some kind) name = refl

text_at : (tools : List (List ℕ)) (name : List ℕ) (parts : List Term) (seat : Option Seat) (it : Option (List ℕ))
    → option_map (declared tools) seat ≡ option_map Some it → is_text name it ≡ term_speaks tools (Appl name parts) seat
text_at tools name parts None None same = refl
text_at tools name parts None (Some it) same = absurd (none-some (Some it) same)
text_at tools name parts (Some seat) None same = absurd (none-some (declared tools seat) (sym same))
text_at tools name parts (Some seat) (Some it) same =
    let is : declared tools seat ≡ Some it = same_Some (declared tools seat) (Some it) same in
    ap (is_text name) (sym is) ∙ kind_text tools seat.kind name

module _ (tools : List (List ℕ)) (seats : List Seat) (names : List (List ℕ)) (same : map (declared tools) seats ≡ map Some names) where
  named_at : (name : List ℕ) (parts : List Term) (number : Option ℕ)
      → is_text name (option_and_then (λ number. numbered names number) number)
      ≡ term_speaks tools (Appl name parts) (option_and_then (λ number. numbered seats number) number)
  named_at name parts None = refl
  named_at name parts (Some zero) = refl
  named_at name parts (Some (suc index)) =
      text_at tools name parts (slice_get seats index) (slice_get names index)
      (sym (slice_get-map (declared tools) seats index) ∙ ap (λ those. slice_get those index) same ∙ slice_get-map Some names index)

  term_named : (it : Term-F Term)
      → is_tool_term names it ≡ term_speaks tools it (option_and_then (λ number. numbered seats number) (number_named it))
  term_named (Int n) = refl
  term_named (Str bytes) = refl
  term_named (Appl name parts) = named_at name parts (number_named (Appl name parts))
  term_named (ListOf parts) = refl

  pub first_named : (terms : List Term) → first_is_tool names terms ≡ speaks_in tools terms (seat_of seats terms)
  first_named [] = refl
  first_named (term ∷ terms) = term_named (out-Term term) ∙ by (seat_of seats (term ∷ terms))
    where
      by : (found : Option Seat) → term_speaks tools (out-Term term) found ≡ speaks_in tools (term ∷ terms) found
      by None = refl
      by (Some seat) = refl

-- a step of no tool: none has its number, or that has another name
pub no_seat : (scene : Scene) (label : Label) → None ≡ seat_of scene.seats.items label.terms → HasNoTool scene (Did label)
no_seat scene label none = λ tools seated.
    first_named scene.cast.now.tools.items scene.seats.items tools seated.names label.terms
    ∙ ap (speaks_in scene.cast.now.tools.items label.terms) (sym none)

pub no_name : (scene : Scene) (label : Label) (seat : Seat) → Some seat ≡ seat_of scene.seats.items label.terms
    → false ≡ speaks_of scene.cast.now.tools.items (Did label) seat.kind → HasNoTool scene (Did label)
no_name scene label seat found other = λ tools seated.
    first_named scene.cast.now.tools.items scene.seats.items tools seated.names label.terms
    ∙ ap (speaks_in scene.cast.now.tools.items label.terms) (sym found)
    ∙ sym other

-- as many seats as names
some_map : {X Y : Type 0} (f : X → Y) (xs : List X) (index : ℕ) → is_some (slice_get (map f xs) index) ≡ is_some (slice_get xs index)
some_map f [] index = refl
some_map f (x ∷ xs) zero = refl
some_map f (x ∷ xs) (suc index) = some_map f xs index

module _ (tools : List (List ℕ)) (seats : List Seat) (names : List (List ℕ)) (same : map (declared tools) seats ≡ map Some names) where
  pub some_at : (number : Option ℕ)
      → is_some (option_and_then (λ number. numbered names number) number) ≡ is_some (option_and_then (λ number. numbered seats number) number)
  some_at None = refl
  some_at (Some zero) = refl
  some_at (Some (suc index)) =
      sym (some_map Some names index)
      ∙ ap (λ (those : List (Option (List ℕ))). is_some (slice_get those index)) (sym same)
      ∙ some_map (declared tools) seats index

pub no_number : (scene : Scene) (terms : List Term) → None ≡ seat_of scene.seats.items terms → LacksNumber scene terms
no_number scene terms none = record {
  lacks = λ tools seated.
      some_at scene.cast.now.tools.items scene.seats.items tools seated.names (tool_number terms) ∙ ap is_some (sym none);
}

-- each seat that is found is on a lane
lane_at : (lanes : ℕ) (seats : List Seat) (number : Option ℕ) (seat : Seat) → All (HasLane lanes) seats
    → Some seat ≡ option_and_then (λ number. numbered seats number) number → HasLane lanes seat
lane_at lanes seats None seat all found = absurd (none-some seat (sym found))
lane_at lanes seats (Some zero) seat all found = absurd (none-some seat (sym found))
lane_at lanes seats (Some (suc index)) seat all found =
    let within : index < length seats = slice_get_within seats index seat (sym found) in
    let is : get_or seats index seat ≡ seat = same_Some (get_or seats index seat) seat (sym (slice_get-get_or seats index seat within) ∙ sym found) in
    subst (HasLane lanes) is (all index seat within)

pub no_lane : (scene : Scene) (terms : List Term) (seat : Seat) (ok : Bool) → Some seat ≡ seat_of scene.seats.items terms
    → ok ≡ is_lane (length scene.lanes.items) seat.lane → IfNo ok (LacksNumber scene terms)
no_lane scene terms seat true found is = tt
no_lane scene terms seat false found is = record {
  lacks = λ tools seated.
      absurd (false≢true (is ∙ lane_at (length scene.lanes.items) scene.seats.items (tool_number terms) seat seated.lanes found));
}

-- at the start there is no tool
pub seated_none : (scene : Scene) → scene.seats.items ≡ [] → Seated scene []
seated_none scene none = record {
  names = ap (map (declared scene.cast.now.tools.items)) none;
  lanes = subst (All (HasLane (length scene.lanes.items))) (sym none) (All-nil (HasLane (length scene.lanes.items)));
}

-- the seats stay
pub seated_same : (old new : Scene) (tools : List (List ℕ)) → new.seats.items ≡ old.seats.items → new.cast.now ≡ old.cast.now
    → length new.lanes.items ≡ length old.lanes.items → Seated old tools → Seated new tools
seated_same old new tools seats cast lanes seated = record {
  names = ap (λ (it : Cast). map (declared it.tools.items) new.seats.items) cast ∙ ap (map (declared old.cast.now.tools.items)) seats ∙ seated.names;
  lanes = subst (λ many. All (HasLane many) new.seats.items) (sym lanes) (subst (All (HasLane (length old.lanes.items))) (sym seats) seated.lanes);
}

-- a seat more, of a tool that is declared with this name
text_same : (name : List ℕ) (found : Option (List ℕ)) → is_text name found ≡ true → found ≡ Some name
text_same name None is = absurd (false≢true is)
text_same name (Some found) is = ap Some ((bytes_eq-Decides found name).0 is)

pub seated_more : (lane kind : ℕ) (name : List ℕ) (old new : Scene) (tools : List (List ℕ)) → AddsSeat (record { lane = lane; kind = Some kind }) old new
    → is_declared old.cast.now.tools.items (Some kind) name ≡ true → is_lane (length old.lanes.items) lane ≡ true
    → Seated old tools → Seated new (tools ++ name ∷ [])
seated_more lane kind name old new tools adds is there seated =
    let seat : Seat = record { lane = lane; kind = Some kind } in
    let name_of : Seat → Option (List ℕ) = declared old.cast.now.tools.items in
    let many : ℕ = length old.lanes.items in
    let named : name_of seat ≡ Some name = text_same name (slice_get old.cast.now.tools.items kind) is in
    record {
      names = ap (λ (it : Cast). map (declared it.tools.items) new.seats.items) adds.cast
          ∙ ap (map name_of) adds.seats
          ∙ map_push name_of old.seats.items seat
          ∙ ap (λ (those : List (Option (List ℕ))). those ++ name_of seat ∷ []) seated.names
          ∙ ap (λ (it : Option (List ℕ)). map Some tools ++ it ∷ []) named
          ∙ sym (map_push Some tools name);
      lanes = subst (λ those. All (HasLane those) new.seats.items) (sym adds.lanes)
          (subst (All (HasLane many)) (sym adds.seats) (All-push (HasLane many) old.seats.items seat seated.lanes there));
    }

-- an entry that makes no tool
abbrev kind_keeps : LabelKind → Bool
kind_keeps kind.Execute = false
kind_keeps _ = true

abbrev pub line_keeps : ToolLine → Bool
line_keeps (line.Value term) = true
line_keeps (line.Event terms) = true
line_keeps (line.Connect name) = false
line_keeps line.Disconnect = true
line_keeps line.Bad = true

abbrev input_keeps : Input → Bool
input_keeps input.Tick = true
input_keeps input.NoTicks = true
input_keeps (input.Line lane line) = line_keeps line
input_keeps (input.Gone lane) = true
input_keeps (input.Cut lane) = true

abbrev pub keeps_tools : Entry → Bool
keeps_tools (Did label) = kind_keeps label.kind
keeps_tools Quiet = true
keeps_tools (Fed input Took) = input_keeps input
keeps_tools (Fed input (Dropped why)) = true
keeps_tools (Gave lane out) = true

kind_same : (it : LabelKind) (tools : List (List ℕ)) (terms : List Term) → kind_keeps it ≡ true → tools_by it tools terms ≡ tools
kind_same kind.Execute tools terms is = absurd (false≢true is)
kind_same _ tools terms is = refl

line_same : (tools : List (List ℕ)) (it : ToolLine) → line_keeps it ≡ true → tools_by_line tools it ≡ tools
line_same tools (line.Value term) is = refl
line_same tools (line.Event terms) is = refl
line_same tools (line.Connect name) is = absurd (false≢true is)
line_same tools line.Disconnect is = refl
line_same tools line.Bad is = refl

input_same : (tools : List (List ℕ)) (it : Input) → input_keeps it ≡ true → tools_by_input tools it ≡ tools
input_same tools input.Tick is = refl
input_same tools input.NoTicks is = refl
input_same tools (input.Line lane line) is = line_same tools line is
input_same tools (input.Gone lane) is = refl
input_same tools (input.Cut lane) is = refl

pub same_tools : (tools : List (List ℕ)) (entry : Entry) → keeps_tools entry ≡ true → tools_after tools entry ≡ tools
same_tools tools (Did label) is = kind_same label.kind tools label.terms is
same_tools tools Quiet is = refl
same_tools tools (Fed input Took) is = input_same tools input is
same_tools tools (Fed input (Dropped why)) is = refl
same_tools tools (Gave lane out) is = refl

pub seated_kept : (entry : Entry) (old new : Scene) (tools : List (List ℕ)) → new.seats.items ≡ old.seats.items → new.cast.now ≡ old.cast.now
    → length new.lanes.items ≡ length old.lanes.items → keeps_tools entry ≡ true → Seated old tools → Seated new (tools_after tools entry)
seated_kept entry old new tools seats cast lanes keeps seated =
    subst (Seated new) (sym (same_tools tools entry keeps)) (seated_same old new tools seats cast lanes seated)
