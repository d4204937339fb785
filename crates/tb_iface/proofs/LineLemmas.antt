-- Each line that an action sends to a tool, or takes from it, matches a line of its act.
use Rattle.std.proofs.Common.{◌≡◌, ℕ, pos, Bool, true, false, ◌&&◌, nat_le, sum, List, [], ◌∷◌, ◌++◌, map, codes, slice_get, Option, Some, None, IfSome, IsSome, is_some, option_and_then, if◌then◌else◌, refl, ap, sym, ◌∙◌, subst}
use Rattle.std.specs.Prelude.{⊤}
use Rattle.std.specs.List.{All}
use Rattle.std.specs.Str.{bytes_eq}
use Rattle.std.proofs.lemmas.Bool.{and_parts}
use Rattle.std.proofs.lemmas.List.Elements.{All-nil}
use Rattle.tb_terms.specs.declared.term.Term.{Term}
use Rattle.tb_terms.specs.declared.term.Term.TheVariants as term
use Rattle.tb_terms.specs.declared.sort.Sort.{Sort}
use Rattle.tb_terms.specs.declared.sort.Sort.TheVariants as sort
use Rattle.tb_terms.specs.declared.expr.Expr.{Expr}
use Rattle.tb_terms.specs.declared.pattern.Pattern.{Pattern}
use Rattle.tb_terms.specs.declared.pattern.Pattern.TheVariants as pattern
use Rattle.tb_terms.specs.Sizes.{term_size, most_term_size}
use Rattle.tb_terms.specs.Sorts.{is_one_int, is_tool, has_sort}
use Rattle.tb_func.specs.declared.slot.Slot.{Slot}
use Rattle.tb_func.specs.Printing.{printf_of}
use Rattle.tb_func.specs.Stores.{are_well_sorted}
use Rattle.tb_func.specs.Values.{value_of, all_of}
use Rattle.tb_match.specs.Joining.{both}
use Rattle.tb_match.specs.Matches.{match_list}
use Rattle.tb_match.specs.declared.bind.Bind.{Bind}
use Rattle.tb_body.specs.declared.act.Act.{Act}
use Rattle.tb_body.specs.declared.act.Act.TheVariants.{Delta, Tau, SndMsg, RecMsg, SndNote, RecNote, NoNote, Subscribe, Unsubscribe, Create, Set, Printf, Execute, RecConnect, RecDisconnectAny, RecDisconnect, SndEval, RecValue, SndDo, RecEvent, SndAckEvent, SndTerminate, Shutdown}
use Rattle.tb_body.specs.declared.program.Tool.{Tool as ToolKind}
use Rattle.tb_process_steps.specs.Atoms.{limited_together, values_together, patterns_of}
use Rattle.tb_process_steps.specs.Binds.{takes_bind}
use Rattle.tb_process_steps.specs.Walks.{sorts_of}
use Rattle.tb_log.specs.declared.entry.LabelKind.TheVariants as kind
use Rattle.tb_tools.specs.Lanes.{tool_term}
use Rattle.tb_bus.specs.Actions.{set_action, print_action, notify_action, take_note_action, no_note_action, subscribe_action, unsubscribe_action, create_action, speak_by, shutdown_action, action_in}
use Rattle.tb_bus.specs.Exchanges.{name_of}
use Rattle.tb_bus.specs.declared.action.Action.{Action}
use Rattle.tb_bus.specs.declared.action.Action.TheVariants as action
use Rattle.tb_bus.specs.declared.action.OwnAction.{OwnAction}
use Rattle.tb_bus.specs.declared.action.OwnAction.TheVariants as own
use Rattle.tb_bus.specs.declared.action.ToolAction.{ToolAction}
use Rattle.tb_bus.specs.declared.action.ToolAction.TheVariants as tool_action
use Rattle.tb_bus.proofs.ExchangeLemmas.{about-some}
use Rattle.tb_bus.proofs.OrderLemmas.{All-one}
use Rattle.tb_iface.specs.Hearing.{MatchesOne, told_as, heard_as}
use Rattle.tb_iface.specs.Hearing as hearing
use Rattle.tb_iface.specs.Interfaces.{line, tells, hears}
use Rattle.tb_iface.specs.Interfaces as interfaces
use Rattle.tb_iface.specs.Outlines.{outline}
use Rattle.tb_iface.proofs.FoundLemmas.{map-each, then-each, test-each, test-some}
use Rattle.tb_iface.proofs.MatchLemmas.{cons-some, line-match}
use Rattle.tb_iface.proofs.OnceLemmas.{contains-first}
use Rattle.tb_iface.proofs.OutlineLemmas.{has-tool, values-match, patterns-match, tool-may_be}

abbrev pub AreMatched : List Pattern → List Term → Type 0
AreMatched patterns terms = All (MatchesOne patterns) terms

-- one line

line-matched : (word : List ℕ) (patterns : List Pattern) (terms : List Term) → IsSome (match_list patterns terms) → AreMatched (line word patterns) (term.Appl word terms ∷ [])
line-matched word patterns terms h =
    All-one (MatchesOne (line word patterns)) (term.Appl word terms)
    (record { pattern = pattern.Appl word patterns; among = contains-first (pattern.Appl word patterns) []; matches = ap is_some (line-match word patterns terms) ∙ h })

-- that of a name without arguments
pub name-matched : (word name : List ℕ) → AreMatched (line word (pattern.Appl name [] ∷ [])) (term.Appl word (term.Appl name [] ∷ []) ∷ [])
name-matched word name = line-matched word (pattern.Appl name [] ∷ []) (term.Appl name [] ∷ []) (ap (λ (o : Option (List Bind)). is_some (both o (Some []))) (line-match name [] []))

tool-by : (tool word : List ℕ) (store : List Slot) (first : Expr) (value : Term) (exprs : List Expr) (terms : List Term) (b : Bool) → has_sort value (sort.Tool tool) ≡ b → are_well_sorted store ≡ true → value_of store first ≡ Some value →
    IsSome (match_list (map (outline (sorts_of store)) exprs) terms) → AreMatched (interfaces.line_if tool (sorts_of store) first word exprs) (if b then term.Appl word terms ∷ [] else [])
tool-by tool word store first value exprs terms true e h v m =
    let patterns = map (outline (sorts_of store)) exprs in
    subst (λ (may : Bool). AreMatched (if may then line word patterns else []) (term.Appl word terms ∷ [])) (sym (tool-may_be store first value tool h v e)) (line-matched word patterns terms m)
tool-by tool word store first value exprs terms false e h v m = All-nil (MatchesOne (interfaces.line_if tool (sorts_of store) first word exprs))

-- the line of an atom whose first argument has this value, where the terms after it match the outlines of the others
value-line : (tool word : List ℕ) (store : List Slot) (first : Expr) (value : Term) (exprs : List Expr) (terms : List Term) → are_well_sorted store ≡ true → value_of store first ≡ Some value →
    IsSome (match_list (map (outline (sorts_of store)) exprs) terms) → AreMatched (interfaces.line_if tool (sorts_of store) first word exprs) (hearing.line_if tool word (value ∷ terms))
value-line tool word store first value exprs terms h v m = tool-by tool word store first value exprs terms (has_sort value (sort.Tool tool)) refl h v m

-- values

limited-same : (found : Option (List Term)) (terms : List Term) → option_and_then limited_together found ≡ Some terms → found ≡ Some terms
limited-same None terms e = cc
limited-same (Some some) terms e = ap (λ (ts : List Term). Some ts) (test-some (nat_le (sum (map term_size some)) most_term_size) some terms e)

-- the values of expressions that an act sends
record AreSent (store : List Slot) (first : Expr) (exprs : List Expr) (terms : List Term) : Type 0 where
  value : Term
  others : List Term
  here : value_of store first ≡ Some value
  behind : all_of (map (value_of store) exprs) ≡ Some others
  is : value ∷ others ≡ terms

sent-are : (store : List Slot) (first : Expr) (exprs : List Expr) (terms : List Term) → values_together store (first ∷ exprs) ≡ Some terms → AreSent store first exprs terms
sent-are store first exprs terms e =
    let it = cons-some (value_of store first) (all_of (map (value_of store) exprs)) terms (limited-same (all_of (map (value_of store) (first ∷ exprs))) terms e) in
    record { value = it.0; others = it.1; here = it.2; behind = it.3; is = it.4 }

none-behind : (terms : List Term) → Some [] ≡ Some terms → [] ≡ terms
none-behind terms e = cc

sent-line : (tool word : List ℕ) (store : List Slot) (first : Expr) (exprs : List Expr) (terms : List Term) → are_well_sorted store ≡ true → values_together store (first ∷ exprs) ≡ Some terms →
    AreMatched (interfaces.line_if tool (sorts_of store) first word exprs) (hearing.line_if tool word terms)
sent-line tool word store first exprs terms h e =
    let it = sent-are store first exprs terms e in
    subst (λ (all : List Term). AreMatched (interfaces.line_if tool (sorts_of store) first word exprs) (hearing.line_if tool word all)) it.is
    (value-line tool word store first it.value exprs it.others h it.here (values-match store exprs it.others h it.behind))

came-line : (tool word : List ℕ) (store : List Slot) (first : Expr) (exprs : List Expr) (terms : List Term) (patterns : List Pattern) (came : List Term) → are_well_sorted store ≡ true → values_together store (first ∷ []) ≡ Some terms →
    patterns_of store exprs ≡ Some patterns → IsSome (match_list patterns came) → AreMatched (interfaces.line_if tool (sorts_of store) first word exprs) (hearing.line_if tool word (terms ++ came))
came-line tool word store first exprs terms patterns came h e p m =
    let it = sent-are store first [] terms e in
    let one : it.value ∷ [] ≡ terms = ap (λ (others : List Term). it.value ∷ others) (none-behind it.others it.behind) ∙ it.is in
    subst (λ (all : List Term). AreMatched (interfaces.line_if tool (sorts_of store) first word exprs) (hearing.line_if tool word (all ++ came))) one
    (value-line tool word store first it.value exprs came h it.here (patterns-match store exprs patterns came h p m))

connect-by : (kinds : List ToolKind) (tool : List ℕ) (sorts : List Sort) (which slot number : ℕ) (b : Bool) → has_sort (tool_term (name_of (slice_get kinds which)) number) (sort.Tool tool) ≡ b →
    AreMatched (hears kinds tool sorts (RecConnect which slot)) (if b then term.Appl (codes "snd-connect") (term.Appl tool [] ∷ []) ∷ [] else [])
connect-by kinds tool sorts which slot number true e =
    let name = name_of (slice_get kinds which) in
    let parts = term.Int (pos number) ∷ [] in
    let is : (bytes_eq name tool && is_one_int parts) ≡ true = sym (has-tool (tool_term name number) tool ∙ ap (is_tool tool) (term.outs-Appl name parts)) ∙ e in
    let lines = line (codes "snd-connect") (pattern.Appl tool [] ∷ []) in
    subst (λ (may : Bool). AreMatched (if may then lines else []) (term.Appl (codes "snd-connect") (term.Appl tool [] ∷ []) ∷ [])) (sym (and_parts (bytes_eq name tool) (is_one_int parts) is).0) (name-matched (codes "snd-connect") tool)
connect-by kinds tool sorts which slot number false e = All-nil (MatchesOne (hears kinds tool sorts (RecConnect which slot)))

-- that a tool of the kind has connected
connect-line : (kinds : List ToolKind) (tool : List ℕ) (sorts : List Sort) (which slot number : ℕ) →
    AreMatched (hears kinds tool sorts (RecConnect which slot)) (heard_as tool kind.RecConnect (tool_term (name_of (slice_get kinds which)) number ∷ []))
connect-line kinds tool sorts which slot number = connect-by kinds tool sorts which slot number (has_sort (tool_term (name_of (slice_get kinds which)) number) (sort.Tool tool)) refl

-- actions

-- each line that an exchange with this tool may send to it matches one of the first patterns, and each that it may take matches one of the others
abbrev pub SpeakMatches : List ToolKind → List ℕ → List Pattern → List Pattern → ToolAction → Type 0
SpeakMatches kinds tool to from (tool_action.Execute which slot) = ⊤
SpeakMatches kinds tool to from (tool_action.Connect which slot) = (number : ℕ) → AreMatched from (heard_as tool kind.RecConnect (tool_term (name_of (slice_get kinds which)) number ∷ []))
SpeakMatches kinds tool to from (tool_action.DisconnectAny which slot) = ⊤
SpeakMatches kinds tool to from (tool_action.Disconnect terms) = ⊤
SpeakMatches kinds tool to from (tool_action.Eval terms) = AreMatched to (told_as tool kind.SndEval terms)
SpeakMatches kinds tool to from (tool_action.TakeValue terms patterns) = (came : List Term) → IsSome (match_list patterns came) → AreMatched from (heard_as tool kind.RecValue (terms ++ came))
SpeakMatches kinds tool to from (tool_action.Do terms) = AreMatched to (told_as tool kind.SndDo terms)
SpeakMatches kinds tool to from (tool_action.TakeEvent terms patterns) = (came : List Term) → IsSome (match_list patterns came) → AreMatched from (heard_as tool kind.RecEvent (terms ++ came))
SpeakMatches kinds tool to from (tool_action.Acknowledge terms) = AreMatched to (told_as tool kind.SndAckEvent terms)
SpeakMatches kinds tool to from (tool_action.Terminate terms) = AreMatched to (told_as tool kind.SndTerminate terms)

abbrev pub OwnMatches : List ToolKind → List ℕ → List Pattern → List Pattern → OwnAction → Type 0
OwnMatches kinds tool to from own.Tau = ⊤
OwnMatches kinds tool to from (own.Set values binds) = ⊤
OwnMatches kinds tool to from (own.Print text) = ⊤
OwnMatches kinds tool to from (own.Notify terms) = ⊤
OwnMatches kinds tool to from (own.TakeNote patterns) = ⊤
OwnMatches kinds tool to from (own.NoNote patterns) = ⊤
OwnMatches kinds tool to from (own.Subscribe patterns) = ⊤
OwnMatches kinds tool to from (own.Unsubscribe patterns) = ⊤
OwnMatches kinds tool to from (own.Create process actuals slot) = ⊤
OwnMatches kinds tool to from (own.Speak does) = SpeakMatches kinds tool to from does
OwnMatches kinds tool to from (own.Shutdown reason) = AreMatched to (told_as tool kind.Shutdown (reason ∷ []))

abbrev pub ActionMatches : List ToolKind → List ℕ → List Pattern → List Pattern → Action → Type 0
ActionMatches kinds tool to from (action.Own does) = OwnMatches kinds tool to from does
ActionMatches kinds tool to from (action.Send terms) = ⊤
ActionMatches kinds tool to from (action.Receive patterns) = ⊤

-- it matches the lines of an act, in a body whose slots have these sorts
abbrev pub MatchesAct : List ToolKind → List ℕ → List Sort → Act → Action → Type 0
MatchesAct kinds tool sorts act does = ActionMatches kinds tool (tells tool sorts act) (hears kinds tool sorts act) does

abbrev pub Gives : List ToolKind → List ℕ → List Slot → Act → Option Action → Type 0
Gives kinds tool store act found = IfSome found (MatchesAct kinds tool (sorts_of store) act)

set-gives : (kinds : List ToolKind) (tool : List ℕ) (store : List Slot) (act : Act) (slot : ℕ) (values : List Term) → Gives kinds tool store act (set_action store slot values)
set-gives kinds tool store act slot [] = tt
set-gives kinds tool store act slot (value ∷ []) =
    let bind : Bind = record { slot = slot; value = value } in
    test-each (MatchesAct kinds tool (sorts_of store) act) (takes_bind store bind) (action.Own (own.Set (bind.value ∷ []) (bind ∷ []))) (λ e. tt)
set-gives kinds tool store act slot (value ∷ other ∷ values) = tt

shutdown-gives : (kinds : List ToolKind) (tool : List ℕ) (store : List Slot) (reason : Expr) (terms : List Term) → are_well_sorted store ≡ true → values_together store (reason ∷ []) ≡ Some terms →
    Gives kinds tool store (Shutdown reason) (shutdown_action terms)
shutdown-gives kinds tool store reason [] h e = tt
shutdown-gives kinds tool store reason (value ∷ []) h e =
    line-matched (codes "rec-terminate") (outline (sorts_of store) reason ∷ []) (value ∷ []) (values-match store (reason ∷ []) (value ∷ []) h (limited-same (all_of (map (value_of store) (reason ∷ []))) (value ∷ []) e))
shutdown-gives kinds tool store reason (value ∷ other ∷ terms) h e = tt

-- What an act does in a store with values of its sorts: one line an atom.
pub act-matches : (kinds : List ToolKind) (tool : List ℕ) (store : List Slot) (act : Act) → are_well_sorted store ≡ true → Gives kinds tool store act (action_in store act)
act-matches kinds tool store Delta h = tt
act-matches kinds tool store Tau h = tt
act-matches kinds tool store (SndMsg exprs) h = map-each (MatchesAct kinds tool (sorts_of store) (SndMsg exprs)) action.Send (values_together store exprs) (λ x e. tt)
act-matches kinds tool store (RecMsg exprs) h = map-each (MatchesAct kinds tool (sorts_of store) (RecMsg exprs)) action.Receive (patterns_of store exprs) (λ x e. tt)
act-matches kinds tool store (SndNote exprs) h = map-each (MatchesAct kinds tool (sorts_of store) (SndNote exprs)) notify_action (values_together store exprs) (λ x e. tt)
act-matches kinds tool store (RecNote exprs) h = map-each (MatchesAct kinds tool (sorts_of store) (RecNote exprs)) take_note_action (patterns_of store exprs) (λ x e. tt)
act-matches kinds tool store (NoNote exprs) h = map-each (MatchesAct kinds tool (sorts_of store) (NoNote exprs)) no_note_action (patterns_of store exprs) (λ x e. tt)
act-matches kinds tool store (Subscribe exprs) h = map-each (MatchesAct kinds tool (sorts_of store) (Subscribe exprs)) subscribe_action (patterns_of store exprs) (λ x e. tt)
act-matches kinds tool store (Unsubscribe exprs) h = map-each (MatchesAct kinds tool (sorts_of store) (Unsubscribe exprs)) unsubscribe_action (patterns_of store exprs) (λ x e. tt)
act-matches kinds tool store (Create process actuals slot) h =
    map-each (MatchesAct kinds tool (sorts_of store) (Create process actuals slot)) (create_action process slot) (values_together store actuals) (λ x e. tt)
act-matches kinds tool store (Set slot value) h =
    then-each (MatchesAct kinds tool (sorts_of store) (Set slot value)) (set_action store slot) (values_together store (value ∷ [])) (λ terms e. set-gives kinds tool store (Set slot value) slot terms)
act-matches kinds tool store (Printf exprs) h = map-each (MatchesAct kinds tool (sorts_of store) (Printf exprs)) print_action (option_and_then printf_of (values_together store exprs)) (λ x e. tt)
act-matches kinds tool store (Execute which slot) h = tt
act-matches kinds tool store (RecConnect which slot) h = connect-line kinds tool (sorts_of store) which slot
act-matches kinds tool store (RecDisconnectAny which slot) h = tt
act-matches kinds tool store (RecDisconnect first) h = map-each (MatchesAct kinds tool (sorts_of store) (RecDisconnect first)) (speak_by tool_action.Disconnect) (values_together store (first ∷ [])) (λ x e. tt)
act-matches kinds tool store (SndEval first expr) h =
    map-each (MatchesAct kinds tool (sorts_of store) (SndEval first expr)) (speak_by tool_action.Eval) (values_together store (first ∷ expr ∷ [])) (λ terms e. sent-line tool (codes "rec-eval") store first (expr ∷ []) terms h e)
act-matches kinds tool store (RecValue first expr) h =
    about-some (MatchesAct kinds tool (sorts_of store) (RecValue first expr)) tool_action.TakeValue (patterns_of store (expr ∷ [])) (values_together store (first ∷ []))
    (λ terms patterns e p came m. came-line tool (codes "snd-value") store first (expr ∷ []) terms patterns came h e p m)
act-matches kinds tool store (SndDo first expr) h =
    map-each (MatchesAct kinds tool (sorts_of store) (SndDo first expr)) (speak_by tool_action.Do) (values_together store (first ∷ expr ∷ [])) (λ terms e. sent-line tool (codes "rec-do") store first (expr ∷ []) terms h e)
act-matches kinds tool store (RecEvent first exprs) h =
    about-some (MatchesAct kinds tool (sorts_of store) (RecEvent first exprs)) tool_action.TakeEvent (patterns_of store exprs) (values_together store (first ∷ []))
    (λ terms patterns e p came m. came-line tool (codes "snd-event") store first exprs terms patterns came h e p m)
act-matches kinds tool store (SndAckEvent first exprs) h =
    map-each (MatchesAct kinds tool (sorts_of store) (SndAckEvent first exprs)) (speak_by tool_action.Acknowledge) (values_together store (first ∷ exprs)) (λ terms e. sent-line tool (codes "rec-ack-event") store first exprs terms h e)
act-matches kinds tool store (SndTerminate first expr) h =
    map-each (MatchesAct kinds tool (sorts_of store) (SndTerminate first expr)) (speak_by tool_action.Terminate) (values_together store (first ∷ expr ∷ []))
    (λ terms e. sent-line tool (codes "rec-terminate") store first (expr ∷ []) terms h e)
act-matches kinds tool store (Shutdown reason) h =
    then-each (MatchesAct kinds tool (sorts_of store) (Shutdown reason)) shutdown_action (values_together store (reason ∷ [])) (λ terms e. shutdown-gives kinds tool store reason terms h e)
