-- A line that a step takes from the tool of a lane is one that the program takes by the entry of the step.
use Rattle.std.proofs.Common.{◌≡◌, ℕ, zero, suc, ◌-◌, ◌⊎◌, inl, inr, List, [], ◌∷◌, ◌++◌, length, take, drop, remove, slice_index_or, map, Bool, true, false, not, ◌&&◌, Option, Some, None, IfSome, option_map, option_and_then, option_to_list, is_some, is_none, unwrap_or, codes, if◌then◌else◌, Contains, refl, ap, sym, ◌∙◌, subst, arith, length-append, length-take, length-drop}
use Rattle.std.specs.List.{list_all}
use Rattle.std.proofs.lemmas.Bool.{and_parts}
use Rattle.std.proofs.lemmas.Option.{MatchOption-at_some}
use Rattle.tb_terms.specs.declared.term.Term.{Term}
use Rattle.tb_terms.specs.declared.term.Term.TheVariants.{Appl}
use Rattle.tb_terms.specs.contracts.term.Term as term_row
use Rattle.tb_terms.specs.declared.sort.Sort.TheVariants.{Tool as ToolSort}
use Rattle.tb_terms.specs.declared.pattern.Pattern.{Pattern}
use Rattle.tb_terms.specs.Same.{is_same_term}
use Rattle.tb_terms.specs.Sorts.{has_sort}
use Rattle.tb_terms.proofs.SameLemmas.{is_same-sound}
use Rattle.tb_match.specs.Matches.{match_list}
use Rattle.tb_match.specs.declared.bind.Bind.{Bind}
use Rattle.tb_notes.specs.Inboxes.{oldest_match}
use Rattle.tb_log.specs.declared.entry.Entry.TheVariants.{Did}
use Rattle.tb_log.specs.declared.entry.Label.{Label}
use Rattle.tb_log.specs.declared.entry.LabelKind.{LabelKind}
use Rattle.tb_log.specs.declared.entry.LabelKind.TheVariants as kind
use Rattle.tb_log.specs.declared.entry.Out.{Out}
use Rattle.tb_tools.specs.declared.found.FoundEvent.{FoundEvent}
use Rattle.tb_tools.specs.declared.stage.Stage.{Stage}
use Rattle.tb_tools.specs.declared.stage.Stage.TheVariants.{Waiting, Live}
use Rattle.tb_tools.specs.declared.stage.Eval.{Eval}
use Rattle.tb_tools.specs.declared.stage.Eval.TheVariants.{Closed, Asked, Answered}
use Rattle.tb_tools.specs.Acts.{is_closed, answer_of, answer_by, answer_at, events_of, events_at, event_at, is_live_at, is_taken_at, with_live_tool, with_question, without_answer, with_received, with_acknowledged_of, with_acknowledged, asked, told, terminated, tool_line, last_line, ended_with, dismissed, gone_down}
use Rattle.tb_tools.specs.Finding.{find_tool, has_tool, oldest_event}
use Rattle.tb_tools.specs.First.{NoLane, IsFirstLane}
use Rattle.tb_tools.specs.Lanes.{Tool, Lane, BenchState, unused, of_tool, is_empty, is_open, is_free, lane_at, tool_at, on_lane, new_tool, started, with_tool, without_tool, with_out, term_of}
use Rattle.tb_tools.proofs.Lowest.{first_lane-lowest}
use Rattle.tb_tools.proofs.Staying.{with_lane-or}
use Rattle.tb_bus.specs.declared.origin.Origin.{Origin}
use Rattle.tb_bus.specs.Buses.{Bus, Proc}
use Rattle.tb_bus.specs.Effects.{Nothing, PutsNote, Effect, changed, effect_of, own_effect, speaking, setting_of, creation, may_create, taking, takes_note}
use Rattle.tb_bus.specs.Exchanges.{Setting, kind_name, kind_command, behind, lane_if, lane_of, value_on, event_on, exchange_for, kind_of, terms_seen, values_in, values_on, with_told, bench_after}
use Rattle.tb_bus.specs.Reached.{Reaches}
use Rattle.tb_bus.specs.Steps.{Move, Own, Handshake, Finish, Halt, Step, apply, label_of, finish_reason, halt_reason}
use Rattle.tb_bus.specs.Traces.{IsLegal, after}
use Rattle.tb_bus.specs.Waiting.{IsBusInShape}
use Rattle.tb_bus.specs.declared.action.Action.{Action}
use Rattle.tb_bus.specs.declared.action.Action.TheVariants as action
use Rattle.tb_bus.specs.declared.action.OwnAction.{OwnAction}
use Rattle.tb_bus.specs.declared.action.OwnAction.TheVariants as own
use Rattle.tb_bus.specs.declared.action.ToolAction.{ToolAction}
use Rattle.tb_bus.specs.declared.action.ToolAction.TheVariants as tool
use Rattle.tb_bus.specs.declared.exchange.Exchange.{Exchange}
use Rattle.tb_bus.proofs.BusShapes.{reached-in_shape}
use Rattle.tb_bus.proofs.ExchangeLemmas.{exchange-is}
use Rattle.tb_bus.proofs.ReachedLemmas.{IsMoveOf, step-made}
use Rattle.tb_bus.proofs.SentLemmas.{IsOwnInShape, IsSpeakInShape, IsActionInShape}
use Rattle.tb_iface.specs.Hearing.{line_if, heard_as, heard_by}
use Rattle.tb_heard_laws.specs.Taking.{Takes, value, event, name}
use Rattle.tb_heard_laws.proofs.Hearing.{one-term, ready-in-shape}
use Rattle.tb_heard_laws.proofs.Meanings.{tool-sort}

-- options and lists

and_then-some : {A B : Type 0} (f : A → Option B) (o : Option A) (y : B) → option_and_then f o ≡ Some y → (x : A) × (o ≡ Some x) × (f x ≡ Some y)
and_then-some f None y e = cc
and_then-some f (Some x) y e = (x, refl, e)

map-some : {A B : Type 0} (f : A → B) (o : Option A) (y : B) → option_map f o ≡ Some y → (x : A) × (o ≡ Some x) × (f x ≡ y)
map-some f None y e = cc
map-some f (Some x) y e = (x, refl, cc)

some-same : {A : Type 0} (x y : A) → Some x ≡ Some y → x ≡ y
some-same x y e = cc

never-longer : (xs : List (List Term)) (x : List Term) → xs ≡ xs ++ x ∷ [] → ⊥
never-longer xs x e =
    let many : length xs ≡ length (xs ++ x ∷ []) = ap length e in
    omega (arith, length-append xs (x ∷ []), many)

never-removed : (xs : List (List Term)) (at : ℕ) (x : List Term) → remove xs at ≡ xs ++ x ∷ [] → ⊥
never-removed xs at x e =
    let many : length (take at xs ++ drop (suc at) xs) ≡ length (xs ++ x ∷ []) = ap length e in
    omega (arith, length-append xs (x ∷ []), length-append (take at xs) (drop (suc at) xs), length-take at xs, length-drop (suc at) xs, many)

last-same : (xs : List (List Term)) (x y : List Term) → xs ++ x ∷ [] ≡ xs ++ y ∷ [] → x ≡ y
last-same [] x y e = let t : ◌≡◌ {A = List (List Term)} (x ∷ []) (y ∷ []) = e in cc
last-same (z ∷ xs) x y e = last-same xs x y (ap (drop 1) e)

-- a tool from which nothing is taken

unasked : (it : Tool) (answer : Term) → answer_of it.eval ≡ Some answer → answer_of it.eval ≡ None → ⊥
unasked it answer e f = let t : ◌≡◌ {A = Option Term} (Some answer) None = sym e ∙ f in cc

unmoved : (stage : Stage) → stage ≡ Waiting → stage ≡ Live → ⊥
unmoved stage e f = let t : ◌≡◌ {A = Stage} Waiting Live = sym e ∙ f in cc

nothing-taken : (it : Tool) (line : Term) → Takes it it line → ⊥
nothing-taken it line (value {value = answer} e f) = unasked it answer e f
nothing-taken it line (event terms e) = never-longer it.received terms e
nothing-taken it line (name e f) = unmoved it.stage e f

module _ (seen : LabelKind) (shown : List Term) where
  -- the line that a lane's tool loses is heard
  abbrev pub Hears : Lane → Lane → Type 0
  Hears old new = (before later : Tool) → old.tool ≡ Some before → new.tool ≡ Some later → (line : Term) → Takes before later line → Contains (heard_as before.name seen shown) line

  abbrev pub BenchHears : BenchState → BenchState → Type 0
  BenchHears bench next = (lane : ℕ) → Hears (lane_at lane bench) (lane_at lane next)

  same-hears : (old new : Lane) → new.tool ≡ old.tool → Hears old new
  same-hears old new same before later e f line takes =
      let is : before ≡ later = some-same before later (sym e ∙ (sym same ∙ f)) in
      absurd (nothing-taken before line (subst (λ (t : Tool). Takes before t line) (sym is) takes))

  pub bench-same : (bench : BenchState) → BenchHears bench bench
  bench-same bench lane = same-hears (lane_at lane bench) (lane_at lane bench) refl

  gone-hears : (old new : Lane) → new.tool ≡ None → Hears old new
  gone-hears old new none before later e f line takes = absurd (let t : ◌≡◌ {A = Option Tool} None (Some later) = sym none ∙ f in cc)

  mapped-hears : (change : Tool → Tool) (old new : Lane) → new.tool ≡ option_map change old.tool → ((before : Tool) → old.tool ≡ Some before → (line : Term) → Takes before (change before) line → Contains (heard_as before.name seen shown) line) → Hears old new
  mapped-hears change old new is each before later e f line takes =
      let same : change before ≡ later = some-same (change before) later (sym (ap (option_map change) e) ∙ (sym is ∙ f)) in
      each before e line (subst (λ (t : Tool). Takes before t line) (sym same) takes)

  on_lane-hears : (change : Lane → Lane) (at : ℕ) (bench : BenchState) → Hears (lane_at at bench) (change (lane_at at bench)) → BenchHears bench (on_lane change at bench)
  on_lane-hears change at bench h lane = by (with_lane-or at lane (change (lane_at at bench)) bench)
    where
      by : (lane_at lane (on_lane change at bench) ≡ lane_at lane bench) ⊎ ((lane_at lane (on_lane change at bench) ≡ change (lane_at at bench)) × (lane - 1 ≡ at - 1)) → Hears (lane_at lane bench) (lane_at lane (on_lane change at bench))
      by (inl e) = same-hears (lane_at lane bench) (lane_at lane (on_lane change at bench)) (ap (λ (l : Lane). l.tool) e)
      by (inr e) =
          let same : lane_at at bench ≡ lane_at lane bench = ap (λ (n : ℕ). slice_index_or bench.lanes n unused) (sym e.1) in
          subst (Hears (lane_at lane bench)) (sym e.0) (subst (λ (old : Lane). Hears old (change (lane_at at bench))) same h)

  dismissed-by : (line : Out) (lane : Lane) (b : Bool) → (let new : Lane = if b then ended_with line lane else lane in new.tool) ≡ lane.tool
  dismissed-by line lane true = refl
  dismissed-by line lane false = refl

  map-or : {A : Type 0} (f : A → A) (xs : List A) (at : ℕ) (d : A) → f d ≡ d → slice_index_or (map f xs) at d ≡ f (slice_index_or xs at d)
  map-or f [] at d e = sym e
  map-or f (x ∷ xs) zero d e = refl
  map-or f (x ∷ xs) (suc at) d e = map-or f xs at d e

  down-hears : (reason : Term) (bench : BenchState) → BenchHears bench (gone_down reason bench)
  down-hears reason bench lane =
      same-hears (lane_at lane bench) (lane_at lane (gone_down reason bench))
      (ap (λ (l : Lane). l.tool) (map-or (dismissed (last_line reason)) bench.lanes (lane - 1) unused refl) ∙ dismissed-by (last_line reason) (lane_at lane bench) (is_open (lane_at lane bench)))

  told-hears : (change : Term → ℕ → BenchState → BenchState) (terms : List Term) (at : ℕ) (bench : BenchState) → ((term : Term) → BenchHears bench (change term at bench)) → BenchHears bench (with_told change terms at bench)
  told-hears change [] at bench each = bench-same bench
  told-hears change (term ∷ terms) at bench each = each term

-- the tool that a step names

found-tool : (may : ℕ → BenchState → Bool) (bench : BenchState) (named : Term) (terms : List Term) (lane : ℕ) → lane_of may bench (named ∷ terms) ≡ Some lane → has_tool named (lane_at lane bench) ≡ true
found-tool may bench named terms lane e = by (find_tool named bench) refl e
  where
    here : (at : ℕ) (b : Bool) → find_tool named bench ≡ Some at → (if b then Some at else None) ≡ Some lane → has_tool named (lane_at lane bench) ≡ true
    here at true f g =
        let first = MatchOption-at_some (NoLane (has_tool named) bench) (IsFirstLane (has_tool named) bench) at f (first_lane-lowest (has_tool named) bench) in
        let same : at ≡ lane = cc in
        subst (λ (n : ℕ). has_tool named (lane_at n bench) ≡ true) same first.1
    here at false f g = cc

    by : (found : Option ℕ) → find_tool named bench ≡ found → option_and_then (lane_if may bench) found ≡ Some lane → has_tool named (lane_at lane bench) ≡ true
    by None f g = cc
    by (Some at) f g = here at (may at bench) f g

-- so the term that a step names has the type of the tool
names-type : (named : Term) (lane : Lane) (it : Tool) → has_tool named lane ≡ true → lane.tool ≡ Some it → has_sort named (ToolSort it.name) ≡ true
names-type named lane it h e =
    let same : is_same_term named (term_of it) ≡ true = subst (λ (o : Option Tool). of_tool (λ (t : Tool). is_same_term named (term_of t)) o ≡ true) e h in
    let is : named ≡ term_of it = is_same-sound term_row.the_row.coded named (term_of it) same in
    subst (λ (t : Term). has_sort t (ToolSort it.name) ≡ true) (sym is) (tool-sort it.name it.number)

value-lane : (setting : Setting) (patterns : List Pattern) (terms : List Term) (exchange : Exchange) → exchange_for setting (tool.TakeValue terms patterns) ≡ Some exchange → lane_of is_taken_at setting.bench terms ≡ Some exchange.lane
value-lane setting patterns terms exchange e =
    let at = and_then-some (value_on patterns setting.bench) (lane_of is_taken_at setting.bench terms) exchange e in
    let answer = and_then-some (λ (v : Term). option_map (λ (binds : List Bind). let x : Exchange = record { lane = at.0; event = 0; binds = binds } in x) (match_list patterns (v ∷ []))) (answer_at at.0 setting.bench) exchange at.2 in
    let found = map-some (λ (binds : List Bind). let x : Exchange = record { lane = at.0; event = 0; binds = binds } in x) (match_list patterns (answer.0 ∷ [])) exchange answer.2 in
    at.1 ∙ ap (λ (x : Exchange). Some x.lane) found.2

event-lane : (setting : Setting) (patterns : List Pattern) (terms : List Term) (exchange : Exchange) → exchange_for setting (tool.TakeEvent terms patterns) ≡ Some exchange → lane_of is_taken_at setting.bench terms ≡ Some exchange.lane
event-lane setting patterns terms exchange e =
    let at = and_then-some (event_on patterns setting.bench) (lane_of is_taken_at setting.bench terms) exchange e in
    let found = map-some (λ (found : FoundEvent). let x : Exchange = record { lane = at.0; event = found.place; binds = found.binds } in x) (oldest_event patterns at.0 setting.bench) exchange at.2 in
    at.1 ∙ ap (λ (x : Exchange). Some x.lane) found.2

-- the line of a step that names a tool

line-there : (its word : List ℕ) (named : Term) (parts : List Term) → has_sort named (ToolSort its) ≡ true → Contains (line_if its word (named ∷ parts)) (Appl word parts)
line-there its word named parts h =
    let one : Contains (Appl word parts ∷ []) (Appl word parts) = (0, omega arith, refl) in
    subst (λ (b : Bool). Contains (let lines : List Term = if b then Appl word parts ∷ [] else [] in lines) (Appl word parts)) (sym h) one

-- exchanges

abbrev ExchangeHears : Setting → ToolAction → Exchange → Type 0
ExchangeHears setting does exchange = BenchHears (kind_of does) (terms_seen setting does exchange) setting.bench (bench_after setting does exchange)

not-free : (lane : Lane) (it : Tool) → is_free lane ≡ true → lane.tool ≡ Some it → ⊥
not-free lane it free e =
    let parts = and_parts (not lane.up && is_none lane.tool) (is_empty lane.outs) free in
    let none = (and_parts (not lane.up) (is_none lane.tool) parts.0).1 in
    let t : ◌≡◌ {A = Bool} false true = subst (λ (o : Option Tool). is_none o ≡ true) e none in
    cc

execute-hears : (setting : Setting) (which slot : ℕ) (exchange : Exchange) → exchange_for setting (tool.Execute which slot) ≡ Some exchange → ExchangeHears setting (tool.Execute which slot) exchange
execute-hears setting which slot exchange e =
    let free : is_free (lane_at exchange.lane setting.bench) ≡ true = (exchange-is setting (tool.Execute which slot) exchange e).can in
    let change = λ (old : Lane). with_tool (new_tool (kind_name setting which) setting.bench.next_tool Live) (started (unwrap_or (kind_command setting which) []) old) in
    on_lane-hears kind.Execute (terms_seen setting (tool.Execute which slot) exchange) change exchange.lane setting.bench
    (λ before later f g line takes. absurd (not-free (lane_at exchange.lane setting.bench) before free f))

connect-hears : (setting : Setting) (which slot : ℕ) (exchange : Exchange) → exchange_for setting (tool.Connect which slot) ≡ Some exchange → ExchangeHears setting (tool.Connect which slot) exchange
connect-hears setting which slot exchange e =
    on_lane-hears kind.RecConnect (values_in exchange.binds) with_live_tool exchange.lane setting.bench
    (mapped-hears kind.RecConnect (values_in exchange.binds) (λ it. record it { stage = Live }) old (with_live_tool old) refl by)
  where
    old : Lane
    old = lane_at exchange.lane setting.bench

    by : (before : Tool) → (lane_at exchange.lane setting.bench).tool ≡ Some before → (line : Term) → Takes before (record before { stage = Live }) line → Contains (heard_as before.name kind.RecConnect (values_in exchange.binds)) line
    by before f line (value {value = answer} g h) = absurd (unasked before answer g h)
    by before f line (event terms g) = absurd (never-longer before.received terms g)
    by before f line (name g h) =
        let found = (exchange-is setting (tool.Connect which slot) exchange e).is in
        let same : found.tool ≡ before = some-same found.tool before (sym found.stands ∙ f) in
        let seen : values_in exchange.binds ≡ term_of before ∷ [] = ap values_in found.taking.binds ∙ ap (λ (t : Tool). term_of t ∷ []) same in
        let one : Contains (Appl (codes "snd-connect") (Appl before.name [] ∷ []) ∷ []) (Appl (codes "snd-connect") (Appl before.name [] ∷ [])) = (0, omega arith, refl) in
        let here : Contains (heard_as before.name kind.RecConnect (term_of before ∷ [])) (Appl (codes "snd-connect") (Appl before.name [] ∷ [])) =
        subst (λ (b : Bool). Contains (let lines : List Term = if b then Appl (codes "snd-connect") (Appl before.name [] ∷ []) ∷ [] else [] in lines) (Appl (codes "snd-connect") (Appl before.name [] ∷ []))) (sym (tool-sort before.name before.number)) one in
        subst (λ (ts : List Term). Contains (heard_as before.name kind.RecConnect ts) (Appl (codes "snd-connect") (Appl before.name [] ∷ []))) (sym seen) here

closed-unasked : (eval : Eval) (answer : Term) → is_closed eval ≡ true → answer_of eval ≡ Some answer → ⊥
closed-unasked Closed answer c e = let t : ◌≡◌ {A = Option Term} None (Some answer) = e in cc
closed-unasked Asked answer c e = let t : ◌≡◌ {A = Option Term} None (Some answer) = e in cc
closed-unasked (Answered other) answer c e = let t : ◌≡◌ {A = Bool} false true = c in cc

eval-hears : (setting : Setting) (terms : List Term) (exchange : Exchange) → exchange_for setting (tool.Eval terms) ≡ Some exchange → ExchangeHears setting (tool.Eval terms) exchange
eval-hears setting terms exchange e =
    told-hears kind.SndEval terms asked (behind terms) exchange.lane setting.bench
    (λ term. on_lane-hears kind.SndEval terms (with_question term) exchange.lane setting.bench
    (mapped-hears kind.SndEval terms (λ it. record it { eval = Asked }) (lane_at exchange.lane setting.bench) (with_question term (lane_at exchange.lane setting.bench)) refl by))
  where
    closed-there : of_tool (λ (it : Tool). is_closed it.eval) (tool_at exchange.lane setting.bench) ≡ true
    closed-there = (and_parts (is_live_at exchange.lane setting.bench) (of_tool (λ (it : Tool). is_closed it.eval) (tool_at exchange.lane setting.bench)) (exchange-is setting (tool.Eval terms) exchange e).can).1

    by : (before : Tool) → (lane_at exchange.lane setting.bench).tool ≡ Some before → (line : Term) → Takes before (record before { eval = Asked }) line → Contains (heard_as before.name kind.SndEval terms) line
    by before f line (value {value = answer} g h) =
        absurd (closed-unasked before.eval answer (subst (λ (o : Option Tool). of_tool (λ (it : Tool). is_closed it.eval) o ≡ true) f closed-there) g)
    by before f line (event parts g) = absurd (never-longer before.received parts g)
    by before f line (name g h) = absurd (unmoved before.stage g h)

value-hears : (setting : Setting) (patterns : List Pattern) (exchange : Exchange) (named : Term) → exchange_for setting (tool.TakeValue (named ∷ []) patterns) ≡ Some exchange → ExchangeHears setting (tool.TakeValue (named ∷ []) patterns) exchange
value-hears setting patterns exchange named e =
    on_lane-hears kind.RecValue ((named ∷ []) ++ values_on exchange.lane setting.bench) without_answer exchange.lane setting.bench
    (mapped-hears kind.RecValue ((named ∷ []) ++ values_on exchange.lane setting.bench) (λ it. record it { eval = Closed }) (lane_at exchange.lane setting.bench) (without_answer (lane_at exchange.lane setting.bench)) refl by)
  where
    by : (before : Tool) → (lane_at exchange.lane setting.bench).tool ≡ Some before → (line : Term) → Takes before (record before { eval = Closed }) line → Contains (heard_as before.name kind.RecValue ((named ∷ []) ++ values_on exchange.lane setting.bench)) line
    by before f line (value {value = answer} g h) =
        let there : answer_at exchange.lane setting.bench ≡ Some answer = ap answer_by f ∙ g in
        let seen : values_on exchange.lane setting.bench ≡ answer ∷ [] = ap (λ (o : Option Term). option_to_list o) there in
        let type = names-type named (lane_at exchange.lane setting.bench) before (found-tool is_taken_at setting.bench named [] exchange.lane (value-lane setting patterns (named ∷ []) exchange e)) f in
        subst (λ (vs : List Term). Contains (line_if before.name (codes "snd-value") (named ∷ vs)) (Appl (codes "snd-value") (answer ∷ []))) (sym seen) (line-there before.name (codes "snd-value") named (answer ∷ []) type)
    by before f line (event parts g) = absurd (never-longer before.received parts g)
    by before f line (name g h) = absurd (unmoved before.stage g h)

event-hears : (setting : Setting) (patterns : List Pattern) (exchange : Exchange) (named : Term) → exchange_for setting (tool.TakeEvent (named ∷ []) patterns) ≡ Some exchange → ExchangeHears setting (tool.TakeEvent (named ∷ []) patterns) exchange
event-hears setting patterns exchange named e =
    on_lane-hears kind.RecEvent ((named ∷ []) ++ event_at exchange.event (events_at exchange.lane setting.bench)) (with_received exchange.event) exchange.lane setting.bench
    (mapped-hears kind.RecEvent ((named ∷ []) ++ event_at exchange.event (events_at exchange.lane setting.bench)) change (lane_at exchange.lane setting.bench) (with_received exchange.event (lane_at exchange.lane setting.bench)) refl by)
  where
    change : Tool → Tool
    change it = record it { events = remove it.events exchange.event; received = it.received ++ event_at exchange.event it.events ∷ [] }

    by : (before : Tool) → (lane_at exchange.lane setting.bench).tool ≡ Some before → (line : Term) → Takes before (record before { events = remove before.events exchange.event; received = before.received ++ event_at exchange.event before.events ∷ [] }) line
        → Contains (heard_as before.name kind.RecEvent ((named ∷ []) ++ event_at exchange.event (events_at exchange.lane setting.bench))) line
    by before f line (value {value = answer} g h) = absurd (unasked before answer g h)
    by before f line (event parts g) =
        let same : event_at exchange.event before.events ≡ parts = last-same before.received (event_at exchange.event before.events) parts g in
        let seen : event_at exchange.event (events_at exchange.lane setting.bench) ≡ parts = ap (λ (o : Option Tool). event_at exchange.event (events_of o)) f ∙ same in
        let type = names-type named (lane_at exchange.lane setting.bench) before (found-tool is_taken_at setting.bench named [] exchange.lane (event-lane setting patterns (named ∷ []) exchange e)) f in
        subst (λ (vs : List Term). Contains (line_if before.name (codes "snd-event") (named ∷ vs)) (Appl (codes "snd-event") parts)) (sym seen) (line-there before.name (codes "snd-event") named parts type)
    by before f line (name g h) = absurd (unmoved before.stage g h)

acknowledged-tool : (place : ℕ) (lane : Lane) (found : Option Tool) → lane.tool ≡ found → (with_acknowledged_of place lane found).tool ≡ option_map (λ (it : Tool). let new : Tool = record it { received = remove it.received place } in new) lane.tool
acknowledged-tool place lane None e = e ∙ ap (option_map (λ (it : Tool). let new : Tool = record it { received = remove it.received place } in new)) (sym e)
acknowledged-tool place lane (Some it) e = ap (option_map (λ (it : Tool). let new : Tool = record it { received = remove it.received place } in new)) (sym e)

acknowledge-hears : (setting : Setting) (terms : List Term) (exchange : Exchange) → ExchangeHears setting (tool.Acknowledge terms) exchange
acknowledge-hears setting terms exchange =
    on_lane-hears kind.SndAckEvent terms (with_acknowledged exchange.event) exchange.lane setting.bench
    (mapped-hears kind.SndAckEvent terms (λ it. record it { received = remove it.received exchange.event }) (lane_at exchange.lane setting.bench) (with_acknowledged exchange.event (lane_at exchange.lane setting.bench))
    (acknowledged-tool exchange.event (lane_at exchange.lane setting.bench) (lane_at exchange.lane setting.bench).tool refl) by)
  where
    by : (before : Tool) → (lane_at exchange.lane setting.bench).tool ≡ Some before → (line : Term) → Takes before (record before { received = remove before.received exchange.event }) line → Contains (heard_as before.name kind.SndAckEvent terms) line
    by before f line (value {value = answer} g h) = absurd (unasked before answer g h)
    by before f line (event parts g) = absurd (never-removed before.received exchange.event parts g)
    by before f line (name g h) = absurd (unmoved before.stage g h)

exchange-hears : (setting : Setting) (does : ToolAction) (exchange : Exchange) → IsSpeakInShape does → exchange_for setting does ≡ Some exchange → ExchangeHears setting does exchange
exchange-hears setting (tool.Execute which slot) exchange sent e = execute-hears setting which slot exchange e
exchange-hears setting (tool.Connect which slot) exchange sent e = connect-hears setting which slot exchange e
exchange-hears setting (tool.DisconnectAny which slot) exchange sent e =
    on_lane-hears kind.RecDisconnect (values_in exchange.binds) without_tool exchange.lane setting.bench
    (gone-hears kind.RecDisconnect (values_in exchange.binds) (lane_at exchange.lane setting.bench) (without_tool (lane_at exchange.lane setting.bench)) refl)
exchange-hears setting (tool.Disconnect terms) exchange sent e =
    on_lane-hears kind.RecDisconnect terms without_tool exchange.lane setting.bench
    (gone-hears kind.RecDisconnect terms (lane_at exchange.lane setting.bench) (without_tool (lane_at exchange.lane setting.bench)) refl)
exchange-hears setting (tool.Eval terms) exchange sent e = eval-hears setting terms exchange e
exchange-hears setting (tool.TakeValue terms patterns) exchange sent e =
    one-term (λ (ts : List Term). exchange_for setting (tool.TakeValue ts patterns) ≡ Some exchange → ExchangeHears setting (tool.TakeValue ts patterns) exchange) (λ named. value-hears setting patterns exchange named) terms sent e
exchange-hears setting (tool.Do terms) exchange sent e =
    told-hears kind.SndDo terms told (behind terms) exchange.lane setting.bench
    (λ term. on_lane-hears kind.SndDo terms (with_out (tool_line (codes "rec-do") (term ∷ []))) exchange.lane setting.bench
    (same-hears kind.SndDo terms (lane_at exchange.lane setting.bench) (with_out (tool_line (codes "rec-do") (term ∷ [])) (lane_at exchange.lane setting.bench)) refl))
exchange-hears setting (tool.TakeEvent terms patterns) exchange sent e =
    one-term (λ (ts : List Term). exchange_for setting (tool.TakeEvent ts patterns) ≡ Some exchange → ExchangeHears setting (tool.TakeEvent ts patterns) exchange) (λ named. event-hears setting patterns exchange named) terms sent e
exchange-hears setting (tool.Acknowledge terms) exchange sent e = acknowledge-hears setting terms exchange
exchange-hears setting (tool.Terminate terms) exchange sent e =
    told-hears kind.SndTerminate terms terminated (behind terms) exchange.lane setting.bench
    (λ term. on_lane-hears kind.SndTerminate terms (λ (old : Lane). without_tool (ended_with (last_line term) old)) exchange.lane setting.bench
    (gone-hears kind.SndTerminate terms (lane_at exchange.lane setting.bench) (without_tool (ended_with (last_line term) (lane_at exchange.lane setting.bench))) refl))

-- steps

abbrev EffectHears : Bus → Effect → Type 0
EffectHears bus effect = (number : ℕ) → BenchHears effect.kind effect.shown bus.bench (changed effect.change number bus).bench

if-hears : (bus : Bus) (b : Bool) (effect : Effect) → EffectHears bus effect → IfSome (if b then Some effect else None) (EffectHears bus)
if-hears bus true effect h = h
if-hears bus false effect h = tt

unless-hears : (bus : Bus) (b : Bool) (effect : Effect) → EffectHears bus effect → IfSome (if b then None else Some effect) (EffectHears bus)
unless-hears bus true effect h = tt
unless-hears bus false effect h = h

map-hears : {A : Type 0} (bus : Bus) (f : A → Effect) (found : Option A) → ((x : A) → found ≡ Some x → EffectHears bus (f x)) → IfSome (option_map f found) (EffectHears bus)
map-hears bus f None each = tt
map-hears bus f (Some x) each = each x refl

own-hears : (bus : Bus) (proc : Proc) (does : OwnAction) → IsOwnInShape does → IfSome (own_effect bus proc does) (EffectHears bus)
own-hears bus proc own.Tau sent = λ number. bench-same kind.Tau [] bus.bench
own-hears bus proc (own.Set values binds) sent = λ number. bench-same kind.Set values bus.bench
own-hears bus proc (own.Print text) sent = λ number. bench-same kind.Printf (text ∷ []) bus.bench
own-hears bus proc (own.Notify terms) sent =
    if-hears bus (list_all (λ (other : Proc). takes_note terms other.inbox) bus.procs) (record { kind = kind.SndNote; shown = terms; binds = []; change = PutsNote terms }) (λ number. bench-same kind.SndNote terms bus.bench)
own-hears bus proc (own.TakeNote patterns) sent =
    map-hears bus (taking proc.inbox) (oldest_match patterns proc.inbox) (λ found e number. bench-same kind.RecNote (taking proc.inbox found).shown bus.bench)
own-hears bus proc (own.NoNote patterns) sent =
    unless-hears bus (is_some (oldest_match patterns proc.inbox)) (record { kind = kind.NoNote; shown = []; binds = []; change = Nothing }) (λ number. bench-same kind.NoNote [] bus.bench)
own-hears bus proc (own.Subscribe patterns) sent = λ number. bench-same kind.Subscribe [] bus.bench
own-hears bus proc (own.Unsubscribe patterns) sent = λ number. bench-same kind.Unsubscribe [] bus.bench
own-hears bus proc (own.Create process actuals slot) sent =
    if-hears bus (may_create bus.program.bodies (length bus.procs) bus.next_number proc.body process actuals slot) (creation bus.next_number process actuals slot)
    (λ number. bench-same kind.Create (creation bus.next_number process actuals slot).shown bus.bench)
own-hears bus proc (own.Speak does) sent =
    let setting = setting_of bus proc in
    map-hears bus (speaking setting does) (exchange_for setting does) (λ exchange e number. exchange-hears setting does exchange sent e)
own-hears bus proc (own.Shutdown reason) sent = λ number. down-hears kind.Shutdown (reason ∷ []) reason bus.bench

effect-hears : (bus : Bus) (proc : Proc) (does : Action) → IsActionInShape does → IfSome (effect_of bus proc does) (EffectHears bus)
effect-hears bus proc (action.Own does) sent = own-hears bus proc does sent
effect-hears bus proc (action.Send terms) sent = tt
effect-hears bus proc (action.Receive patterns) sent = tt

move-hears : (bus : Bus) (move : Move) → IsBusInShape bus → IsMoveOf bus move → BenchHears (label_of move).kind (label_of move).terms bus.bench (apply bus move).bench
move-hears bus (Own proc offered effect) shape is =
    let all : IfSome (Some effect) (EffectHears bus) = subst (λ (o : Option Effect). IfSome o (EffectHears bus)) is.2 (effect-hears bus proc is.0 (ready-in-shape bus proc offered is.0 shape is.1)) in
    all proc.number
move-hears bus (Handshake sender sent receiver received terms binds) shape is = bench-same kind.Msg terms bus.bench
move-hears bus Finish shape is = down-hears kind.Finish [] finish_reason bus.bench
move-hears bus Halt shape is = down-hears kind.Halt [] halt_reason bus.bench

pub taken-heard : (origin : Origin) (bus : Bus) (label : Label) (lane : ℕ) (before later : Tool) (line : Term) → Reaches origin bus → IsLegal bus (Did label) (after bus (Did label)) → tool_at lane bus.bench ≡ Some before
    → tool_at lane (after bus (Did label)).bench ≡ Some later → Takes before later line → Contains (heard_by before.name (Did label)) line
taken-heard origin bus label lane before later line r legal e f takes =
    let made = step-made bus (record { label = label; bus = after bus (Did label) }) legal in
    let hears = subst (λ (s : Step). BenchHears s.label.kind s.label.terms bus.bench s.bus.bench) (sym made.2) (move-hears bus made.0 (reached-in_shape origin bus r) made.1) in
    hears lane before later e f line takes
