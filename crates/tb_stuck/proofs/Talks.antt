-- What lines and exchanges make of the tools of a bench.
use Rattle.std.proofs.Common.{◌≡◌, ℕ, zero, suc, inl, inr, List, [], ◌∷◌, ◌++◌, remove, Bool, true, false, not, ◌||◌, Option, Some, None, option_map, slice_get, slice_index_or, is_some, unwrap_or, codes, if◌then◌else◌, refl, ap, sym, subst, ◌∙◌, arith}
use Rattle.std.specs.Prelude.{⊤}
use Rattle.std.specs.List.{All, list_any}
use Rattle.std.specs.Coded.{coded_list}
use Rattle.std.proofs.lemmas.Bool.{and_parts}
use Rattle.std.proofs.lemmas.List.Elements.{All-nil, All-cons, All-head, All-tail}
use Rattle.tb_terms.specs.declared.term.Term.{Term}
use Rattle.tb_terms.specs.contracts.term.Term as term
use Rattle.tb_terms.specs.declared.pattern.Pattern.{Pattern}
use Rattle.tb_terms.specs.Same.{is_same_terms}
use Rattle.tb_terms.proofs.SameLemmas.{is_same-sound}
use Rattle.tb_match.specs.declared.bind.Bind.{Bind}
use Rattle.tb_match.specs.Matches.{match_list}
use Rattle.tb_log.specs.declared.entry.ToolLine.{ToolLine}
use Rattle.tb_log.specs.declared.entry.ToolLine.TheVariants.{Value, Event, Connect, Disconnect, Bad}
use Rattle.tb_log.specs.declared.entry.Why.{Why}
use Rattle.tb_tools.specs.declared.stage.Stage.{Stage}
use Rattle.tb_tools.specs.declared.stage.Stage.TheVariants.{Waiting, Live, Leaving}
use Rattle.tb_tools.specs.declared.stage.Eval.{Eval}
use Rattle.tb_tools.specs.declared.stage.Eval.TheVariants.{Closed, Asked, Answered}
use Rattle.tb_tools.specs.Acts.{is_closed, answer_of, answer_by, events_of, event_at, is_live_at, can_eval, with_question, without_answer, with_received, with_acknowledged_of, with_acknowledged, with_live_tool, last_line, ended_with, asked, told, terminated, tool_line, can_leave, left}
use Rattle.tb_tools.specs.Inputs.{Row, closed, dropped, drops, first_that_holds, has_asked, is_asked, answered, with_event, line_by, put_line}
use Rattle.tb_tools.specs.Lanes.{Tool, Lane, BenchState, lane_at, tool_at, of_tool, on_lane, is_open, is_same_stage, term_of, new_tool, started, with_tool, without_tool, with_out, with_next_tool}
use Rattle.tb_bus.specs.Buses.{Bus, Proc}
use Rattle.tb_bus.specs.Effects.{setting_of}
use Rattle.tb_bus.specs.Exchanges.{behind, bench_after, exchange_for, with_told, kind_name, kind_command}
use Rattle.tb_bus.specs.declared.action.Action.TheVariants as action
use Rattle.tb_bus.specs.declared.action.OwnAction.TheVariants as own
use Rattle.tb_bus.specs.declared.action.ToolAction.{ToolAction}
use Rattle.tb_bus.specs.declared.action.ToolAction.TheVariants as tool_action
use Rattle.tb_bus.specs.declared.exchange.Exchange.{Exchange}
use Rattle.tb_bus.proofs.ExchangeLemmas.{exchange-is}
use Rattle.tb_bus.proofs.LaneShapes.{all-remove}
use Rattle.tb_stuck.specs.Stuck.{Region, MayBeDone, NobodyAsks, NobodyTakes, NoAnswer}
use Rattle.tb_stuck.proofs.Held.{IsShut}
use Rattle.tb_stuck.proofs.Told.{map-some, of-tool, IsTold, exchange-told, kind-is}
use Rattle.tb_stuck.proofs.Names.{LaneNames, BenchNames, names-stay, names-mapped, names-left, names-live, names-waiting, names-closed, names-same, on_lane-names, next-names, closed-shut, ended-shut}
use Rattle.tb_stuck.proofs.Tools.{ToolGoes, LaneGoes, BenchGoes, lane-stays, lane-empty, on_lane-goes, closed-goes, bench-stays}

row-false : (row : Row) (rows : List Row) → first_that_holds (row ∷ rows) ≡ None → (row.holds ≡ false) × (first_that_holds rows ≡ None)
row-false row rows e = by row.holds e
  where
    by : (b : Bool) → (if b then Some row.why else first_that_holds rows) ≡ None → (b ≡ false) × (first_that_holds rows ≡ None)
    by true f = absurd (let t : ◌≡◌ {A = Option Why} (Some row.why) None = f in cc)
    by false f = (refl, f)

abbrev NoneHolds : List Row → Type 0
NoneHolds [] = ⊤
NoneHolds (row ∷ rows) = (row.holds ≡ false) × NoneHolds rows

none-hold : (rows : List Row) → first_that_holds rows ≡ None → NoneHolds rows
none-hold [] e = tt
none-hold (row ∷ rows) e = let it = row-false row rows e in (it.0, none-hold rows it.1)

not-false-is : (b : Bool) → not b ≡ false → b ≡ true
not-false-is true e = refl
not-false-is false e = absurd cc

asked-is : (o : Option Tool) (before : Tool) → o ≡ Some before → not (has_asked o) ≡ false → before.eval ≡ Asked
asked-is o before e f = by before.eval (not-false-is (is_asked before.eval) (subst (λ (o : Option Tool). not (has_asked o) ≡ false) e f))
  where
    by : (eval : Eval) → is_asked eval ≡ true → eval ≡ Asked
    by Closed g = absurd cc
    by Asked g = refl
    by (Answered value) g = absurd cc

module _ (region : Region) (bus : Bus) where
  -- a tool that changes stays a tool of its lane
  mapped-goes : (old : Option Tool) (change : Tool → Tool) (tool : Tool) → ((before : Tool) → old ≡ Some before → ToolGoes region bus before (change before)) → option_map change old ≡ Some tool →
      (before : Tool) × (old ≡ Some before) × ToolGoes region bus before tool
  mapped-goes old change tool goes e = let it = map-some change old tool e in (it.0, it.1, subst (ToolGoes region bus it.0) it.2 (goes it.0 it.1))

  value-goes : (before : Tool) (value : Term) → before.eval ≡ Asked → (before.stage ≡ Leaving → ⊥) → ToolGoes region bus before (record before { eval = Answered value })
  value-goes before value e out = record {
    term = refl;
    leaving = λ f. f;
    asked = λ k f. refl;
    answer = λ patterns k. absurd (out (subst (NoAnswer bus region patterns before) e k));
    events = λ f patterns h. h;
    received = λ terms k h. h;
  }

  answer-kept : (before : Tool) (events received : List (List Term)) (patterns : List Pattern) (e : Eval) → NoAnswer bus region patterns before e → NoAnswer bus region patterns (record before { events = events; received = received }) e
  answer-kept before events received patterns Closed h = h
  answer-kept before events received patterns Asked h = h
  answer-kept before events received patterns (Answered value) h = h

  event-goes : (before : Tool) (terms : List Term) → (before.stage ≡ Leaving → ⊥) → ToolGoes region bus before (record before { events = before.events ++ terms ∷ [] })
  event-goes before terms out = record {
    term = refl;
    leaving = λ f. f;
    asked = λ k f. f;
    answer = λ patterns k. answer-kept before (before.events ++ terms ∷ []) before.received patterns before.eval k;
    events = λ f patterns h. absurd (out f);
    received = λ terms k h. h;
  }

  next-goes : (bench : BenchState) → BenchGoes region bus bench → BenchGoes region bus (with_next_tool bench)
  next-goes bench goes = record { more = let l = goes.more in omega (arith, l); lanes = goes.lanes }

  new-goes : (change : Lane → Lane) (lane : ℕ) (new : Tool) → ((old : Lane) → (change old).tool ≡ Some new) → bus.bench.next_tool ≡ new.number → BenchGoes region bus (with_next_tool (on_lane change lane bus.bench))
  new-goes change lane new is e =
      next-goes (on_lane change lane bus.bench) (on_lane-goes region bus change lane (λ tool f.
      let same : new ≡ tool = let t : ◌≡◌ {A = Option Tool} (Some new) (Some tool) = sym (is (lane_at lane bus.bench)) ∙ f in cc in
      let number = ap (λ (t : Tool). t.number) same in
      inr (omega (arith, e, number))))

  line-kept : (shut : IsShut bus.bench) (declared : Bool) (line : ToolLine) (lane : ℕ) (why : Option Why) → dropped declared line (lane_at lane bus.bench) ≡ why → BenchGoes region bus (line_by why line lane bus.bench).bench
  line-kept shut declared line lane (Some why) e = bench-stays region bus
  line-kept shut declared (Value value) lane None e =
      let old = lane_at lane bus.bench in
      let rows = none-hold (drops declared (Value value) old) e in
      let opened : is_open old ≡ true = not-false-is (is_open old) rows.0 in
      on_lane-goes region bus (answered value) lane (λ tool f.
      inl (mapped-goes old.tool (λ tool. record tool { eval = Answered value }) tool
      (λ before is. value-goes before value (asked-is old.tool before is rows.1.1.1.1.1.0) (λ leaving. let t = shut lane before is leaving in cc)) f))
  line-kept shut declared (Event terms) lane None e =
      let old = lane_at lane bus.bench in
      let opened : is_open old ≡ true = not-false-is (is_open old) (none-hold (drops declared (Event terms) old) e).0 in
      on_lane-goes region bus (with_event terms) lane (λ tool f.
      inl (mapped-goes old.tool (λ tool. record tool { events = tool.events ++ terms ∷ [] }) tool
      (λ before is. event-goes before terms (λ leaving. let t = shut lane before is leaving in cc)) f))
  line-kept shut declared (Connect name) lane None e = new-goes (with_tool (new_tool name bus.bench.next_tool Waiting)) lane (new_tool name bus.bench.next_tool Waiting) (λ old. refl) refl
  line-kept shut declared Disconnect lane None e = on_lane-goes region bus closed lane (closed-goes region bus (lane_at lane bus.bench))
  line-kept shut declared Bad lane None e = bench-stays region bus

  pub line-goes : (shut : IsShut bus.bench) (declared : Bool) (line : ToolLine) (lane : ℕ) → BenchGoes region bus (put_line declared line lane bus.bench).bench
  line-goes shut declared line lane = line-kept shut declared line lane (dropped declared line (lane_at lane bus.bench)) refl

  -- exchanges

  answer-live : (before : Tool) (patterns : List Pattern) (e : Eval) → before.stage ≡ Waiting → NoAnswer bus region patterns before e → NoAnswer bus region patterns (record before { stage = Live }) e
  answer-live before patterns Closed w h = h
  answer-live before patterns Asked w h = absurd (let t : before.stage ≡ Leaving = h in let u : ◌≡◌ {A = Stage} Waiting Leaving = sym w ∙ t in cc)
  answer-live before patterns (Answered value) w h = h

  connect-goes : (before : Tool) → before.stage ≡ Waiting → ToolGoes region bus before (record before { stage = Live })
  connect-goes before w = record {
    term = refl;
    leaving = λ f. absurd (let u : ◌≡◌ {A = Stage} Waiting Leaving = sym w ∙ f in cc);
    asked = λ k f. f;
    answer = λ patterns k. answer-live before patterns before.eval w k;
    events = λ f patterns h. absurd (let u : ◌≡◌ {A = Stage} Waiting Leaving = sym w ∙ f in cc);
    received = λ terms k h. h;
  }

  closed-is : (patterns : List Pattern) (tool : Tool) (e : Eval) → is_closed e ≡ true → NoAnswer bus region patterns tool e → NobodyAsks bus region tool
  closed-is patterns tool Closed c h = h
  closed-is patterns tool Asked c h = absurd cc
  closed-is patterns tool (Answered value) c h = absurd cc

  ask-goes : (before : Tool) (terms rest : List Term) → MayBeDone bus.program.bodies region (action.Own (own.Speak (tool_action.Eval terms))) → terms ≡ term_of before ∷ rest → is_closed before.eval ≡ true → ToolGoes region bus before (record before { eval = Asked })
  ask-goes before terms rest may is c = record {
    term = refl;
    leaving = λ f. f;
    asked = λ k f. refl;
    answer = λ patterns k. absurd (closed-is patterns before before.eval c k rest (subst (λ (ts : List Term). MayBeDone bus.program.bodies region (action.Own (own.Speak (tool_action.Eval ts)))) is may));
    events = λ f patterns h. h;
    received = λ terms k h. h;
  }

  taken-is : (patterns : List Pattern) (tool : Tool) (e : Eval) (value : Term) → answer_of e ≡ Some value → NoAnswer bus region patterns tool e → NobodyTakes bus region tool
  taken-is patterns tool Closed value f h = absurd (let t : ◌≡◌ {A = Option Term} None (Some value) = f in cc)
  taken-is patterns tool Asked value f h = absurd (let t : ◌≡◌ {A = Option Term} None (Some value) = f in cc)
  taken-is patterns tool (Answered other) value f h = h.1

  take-goes : (before : Tool) (terms rest : List Term) (patterns : List Pattern) (value : Term) → MayBeDone bus.program.bodies region (action.Own (own.Speak (tool_action.TakeValue terms patterns))) → terms ≡ term_of before ∷ rest →
      answer_of before.eval ≡ Some value → ToolGoes region bus before (record before { eval = Closed })
  take-goes before terms rest patterns value may is e =
      let here = subst (λ (ts : List Term). MayBeDone bus.program.bodies region (action.Own (own.Speak (tool_action.TakeValue ts patterns)))) is may in
      record {
        term = refl;
        leaving = λ f. f;
        asked = λ k f. absurd (k rest patterns here);
        answer = λ others k. absurd (taken-is others before before.eval value e k rest patterns here);
        events = λ f patterns h. h;
        received = λ terms k h. h;
      }

  any-push : (test : List Term → Bool) (xs : List (List Term)) (x : List Term) → list_any test xs ≡ false → test x ≡ false → list_any test (xs ++ x ∷ []) ≡ false
  any-push test [] x e f = by (test x) f
    where
      by : (b : Bool) → b ≡ false → (b || false) ≡ false
      by true g = absurd cc
      by false g = refl
  any-push test (y ∷ xs) x e f = by (test y) (list_any test xs) (list_any test (xs ++ x ∷ [])) e (λ g. any-push test xs x g f)
    where
      by : (b c d : Bool) → (b || c) ≡ false → (c ≡ false → d ≡ false) → (b || d) ≡ false
      by true c d g h = absurd cc
      by false c d g h = h g

  none-all : (test : List Term → Bool) (xs : List (List Term)) → list_any test xs ≡ false → All (λ x. test x ≡ false) xs
  none-all test [] e = All-nil (λ x. test x ≡ false)
  none-all test (y ∷ xs) e = All-cons (λ x. test x ≡ false) y xs (one (test y) (list_any test xs) e) (none-all test xs (rest (test y) (list_any test xs) e))
    where
      one : (b c : Bool) → (b || c) ≡ false → b ≡ false
      one true c g = absurd cc
      one false c g = refl

      rest : (b c : Bool) → (b || c) ≡ false → c ≡ false
      rest true c g = absurd cc
      rest false c g = g

  all-none : (test : List Term → Bool) (xs : List (List Term)) → All (λ x. test x ≡ false) xs → list_any test xs ≡ false
  all-none test [] h = refl
  all-none test (y ∷ xs) h = by (test y) (list_any test xs) (All-head (λ x. test x ≡ false) y xs h) (all-none test xs (All-tail (λ x. test x ≡ false) y xs h))
    where
      by : (b c : Bool) → b ≡ false → c ≡ false → (b || c) ≡ false
      by true c f g = absurd cc
      by false c f g = g

  any-remove : (test : List Term → Bool) (xs : List (List Term)) (at : ℕ) → list_any test xs ≡ false → list_any test (remove xs at) ≡ false
  any-remove test xs at e = all-none test (remove xs at) (all-remove (λ x. test x ≡ false) xs at (none-all test xs e))

  at-or : (xs : List (List Term)) (at : ℕ) (x : List Term) → slice_get xs at ≡ Some x → slice_index_or xs at [] ≡ x
  at-or [] at x e = absurd (let t : ◌≡◌ {A = Option (List Term)} None (Some x) = e in cc)
  at-or (y ∷ xs) zero x e = let t : ◌≡◌ {A = Option (List Term)} (Some y) (Some x) = e in cc
  at-or (y ∷ xs) (suc at) x e = at-or xs at x e

  not-is : (b : Bool) → (b ≡ true → ⊥) → b ≡ false
  not-is true never = absurd (never refl)
  not-is false never = refl

  receive-goes : (before : Tool) (terms rest event : List Term) (patterns : List Pattern) (binds : List Bind) (place : ℕ) → MayBeDone bus.program.bodies region (action.Own (own.Speak (tool_action.TakeEvent terms patterns))) → terms ≡ term_of before ∷ rest →
      slice_get before.events place ≡ Some event → match_list patterns event ≡ Some binds → ToolGoes region bus before (record before { events = remove before.events place; received = before.received ++ event_at place before.events ∷ [] })
  receive-goes before terms rest event patterns binds place may is e matches =
      let here = subst (λ (ts : List Term). MayBeDone bus.program.bodies region (action.Own (own.Speak (tool_action.TakeEvent ts patterns)))) is may in
      let it : event_at place before.events ≡ event = at-or before.events place event e in
      record {
        term = refl;
        leaving = λ f. f;
        asked = λ k f. f;
        answer = λ patterns k. answer-kept before (remove before.events place) (before.received ++ event_at place before.events ∷ []) patterns before.eval k;
        events = λ f others h. all-remove (λ event. match_list others event ≡ None) before.events place h;
        received = λ others k h. any-push (is_same_terms others) before.received (event_at place before.events) h
            (not-is (is_same_terms others (event_at place before.events)) (λ same.
            let equal : others ≡ event = is_same-sound (coded_list term.the_row.coded) others (event_at place before.events) same ∙ it in
            let none : match_list patterns event ≡ None = subst (λ (ts : List Term). match_list patterns ts ≡ None) equal (k rest patterns here) in
            cc));
      }

  ack-goes : (before : Tool) (place : ℕ) → ToolGoes region bus before (record before { received = remove before.received place })
  ack-goes before place = record {
    term = refl;
    leaving = λ f. f;
    asked = λ k f. f;
    answer = λ patterns k. answer-kept before before.events (remove before.received place) patterns before.eval k;
    events = λ f patterns h. h;
    received = λ terms k h. any-remove (is_same_terms terms) before.received place h;
  }

  acked-lane : (lane : Lane) (place : ℕ) (found : Option Tool) → lane.tool ≡ found → LaneGoes region bus lane (with_acknowledged_of place lane found)
  acked-lane lane place None e tool f = lane-stays region bus lane lane refl tool f
  acked-lane lane place (Some before) e tool f =
      let same : record before { received = remove before.received place } ≡ tool = let t : ◌≡◌ {A = Option Tool} (Some (record before { received = remove before.received place })) (Some tool) = f in cc in
      inl (before, e, subst (ToolGoes region bus before) same (ack-goes before place))

  same-tool : (before other : Tool) (o : Option Tool) → o ≡ Some before → o ≡ Some other → other ≡ before
  same-tool before other o e f = let t : ◌≡◌ {A = Option Tool} (Some other) (Some before) = sym f ∙ e in cc

  stage-is : (stage : Stage) → is_same_stage stage Waiting ≡ true → stage ≡ Waiting
  stage-is Waiting e = refl
  stage-is Live e = absurd cc
  stage-is Leaving e = absurd cc

  pub exchange-goes : (proc : Proc) (does : ToolAction) (exchange : Exchange) → MayBeDone bus.program.bodies region (action.Own (own.Speak does)) → exchange_for (setting_of bus proc) does ≡ Some exchange → BenchGoes region bus (bench_after (setting_of bus proc) does exchange)
  exchange-goes proc (tool_action.Execute tool slot) exchange may e =
      let name = kind_name (setting_of bus proc) tool in
      let new = new_tool name bus.bench.next_tool Live in
      new-goes (λ old. with_tool new (started (unwrap_or (kind_command (setting_of bus proc) tool) []) old)) exchange.lane new (λ old. refl) refl
  exchange-goes proc (tool_action.Connect tool slot) exchange may e =
      let can = (exchange-is (setting_of bus proc) (tool_action.Connect tool slot) exchange e).can in
      on_lane-goes region bus with_live_tool exchange.lane (λ tool f.
      inl (mapped-goes (tool_at exchange.lane bus.bench) (λ tool. record tool { stage = Live }) tool
      (λ before is. connect-goes before (stage-is before.stage (subst (λ (o : Option Tool). of_tool (λ tool. is_same_stage tool.stage Waiting) o ≡ true) is can))) f))
  exchange-goes proc (tool_action.DisconnectAny tool slot) exchange may e = on_lane-goes region bus without_tool exchange.lane (lane-empty region bus (lane_at exchange.lane bus.bench) (without_tool (lane_at exchange.lane bus.bench)) refl)
  exchange-goes proc (tool_action.Disconnect terms) exchange may e = on_lane-goes region bus without_tool exchange.lane (lane-empty region bus (lane_at exchange.lane bus.bench) (without_tool (lane_at exchange.lane bus.bench)) refl)
  exchange-goes proc (tool_action.Eval terms) exchange may e = by (behind terms)
    where
      it : IsTold can_eval bus.bench terms exchange.lane
      it = exchange-told (setting_of bus proc) (tool_action.Eval terms) exchange e

      is-closed : is_closed it.tool.eval ≡ true
      is-closed = subst (λ (o : Option Tool). of_tool (λ tool. is_closed tool.eval) o ≡ true) it.there (and_parts (is_live_at exchange.lane bus.bench) (of_tool (λ tool. is_closed tool.eval) (tool_at exchange.lane bus.bench)) it.can).1

      by : (terms : List Term) → BenchGoes region bus (with_told asked terms exchange.lane bus.bench)
      by [] = bench-stays region bus
      by (asks ∷ more) = on_lane-goes region bus (with_question asks) exchange.lane (λ tool f.
          inl (mapped-goes (tool_at exchange.lane bus.bench) (λ tool. record tool { eval = Asked }) tool
          (λ before is. subst (λ (t : Tool). ToolGoes region bus t (record t { eval = Asked })) (same-tool before it.tool (tool_at exchange.lane bus.bench) is it.there) (ask-goes it.tool terms it.rest may it.is is-closed)) f))
  exchange-goes proc (tool_action.TakeValue terms patterns) exchange may e =
      let it = exchange-told (setting_of bus proc) (tool_action.TakeValue terms patterns) exchange e in
      let value = (exchange-is (setting_of bus proc) (tool_action.TakeValue terms patterns) exchange e).is in
      let answer : answer_of it.tool.eval ≡ Some value.value = subst (λ (o : Option Tool). answer_by o ≡ Some value.value) it.there value.there in
      on_lane-goes region bus without_answer exchange.lane (λ tool f.
      inl (mapped-goes (tool_at exchange.lane bus.bench) (λ tool. record tool { eval = Closed }) tool
      (λ before is. subst (λ (t : Tool). ToolGoes region bus t (record t { eval = Closed })) (same-tool before it.tool (tool_at exchange.lane bus.bench) is it.there)
      (take-goes it.tool terms it.rest patterns value.value may it.is answer)) f))
  exchange-goes proc (tool_action.Do terms) exchange may e = by (behind terms)
    where
      by : (terms : List Term) → BenchGoes region bus (with_told told terms exchange.lane bus.bench)
      by [] = bench-stays region bus
      by (does ∷ more) =
          let change : Lane → Lane = with_out (tool_line (codes "rec-do") (does ∷ [])) in
          on_lane-goes region bus change exchange.lane (lane-stays region bus (lane_at exchange.lane bus.bench) (change (lane_at exchange.lane bus.bench)) refl)
  exchange-goes proc (tool_action.TakeEvent terms patterns) exchange may e =
      let it = exchange-told (setting_of bus proc) (tool_action.TakeEvent terms patterns) exchange e in
      let event = (exchange-is (setting_of bus proc) (tool_action.TakeEvent terms patterns) exchange e).is in
      let there : slice_get it.tool.events exchange.event ≡ Some event.terms = subst (λ (o : Option Tool). slice_get (events_of o) exchange.event ≡ Some event.terms) it.there event.there in
      let change : Tool → Tool = λ tool. record tool { events = remove tool.events exchange.event; received = tool.received ++ event_at exchange.event tool.events ∷ [] } in
      on_lane-goes region bus (with_received exchange.event) exchange.lane (λ tool f.
      inl (mapped-goes (tool_at exchange.lane bus.bench) change tool
      (λ before is. subst (λ (t : Tool). ToolGoes region bus t (change t)) (same-tool before it.tool (tool_at exchange.lane bus.bench) is it.there)
      (receive-goes it.tool terms it.rest event.terms patterns exchange.binds exchange.event may it.is there event.matches)) f))
  exchange-goes proc (tool_action.Acknowledge terms) exchange may e =
      on_lane-goes region bus (with_acknowledged exchange.event) exchange.lane (acked-lane (lane_at exchange.lane bus.bench) exchange.event (tool_at exchange.lane bus.bench) refl)
  exchange-goes proc (tool_action.Terminate terms) exchange may e = by (behind terms)
    where
      by : (terms : List Term) → BenchGoes region bus (with_told terminated terms exchange.lane bus.bench)
      by [] = bench-stays region bus
      by (reason ∷ more) =
          let change : Lane → Lane = λ lane. without_tool (ended_with (last_line reason) lane) in
          on_lane-goes region bus change exchange.lane (lane-empty region bus (lane_at exchange.lane bus.bench) (change (lane_at exchange.lane bus.bench)) refl)

  -- the names

  some-none : (o : Option Tool) → is_some o ≡ false → o ≡ None
  some-none None e = refl
  some-none (Some tool) e = absurd cc

  line-named : (shut : IsShut bus.bench) (declared : Bool) (line : ToolLine) (lane : ℕ) (why : Option Why) → dropped declared line (lane_at lane bus.bench) ≡ why → BenchNames region bus (line_by why line lane bus.bench).bench
  line-named shut declared line lane (Some why) e = names-same region bus shut
  line-named shut declared (Value value) lane None e =
      let old = lane_at lane bus.bench in
      on_lane-names region bus shut (answered value) lane (names-mapped region bus old (answered value old) (λ tool. record tool { eval = Answered value }) (shut lane) refl refl (λ tool. (refl, refl)))
  line-named shut declared (Event terms) lane None e =
      let old = lane_at lane bus.bench in
      on_lane-names region bus shut (with_event terms) lane (names-mapped region bus old (with_event terms old) (λ tool. record tool { events = tool.events ++ terms ∷ [] }) (shut lane) refl refl (λ tool. (refl, refl)))
  line-named shut declared (Connect name) lane None e =
      let old = lane_at lane bus.bench in
      let rows = none-hold (drops declared (Connect name) old) e in
      let new = new_tool name bus.bench.next_tool Waiting in
      next-names region bus (on_lane (with_tool new) lane bus.bench)
      (on_lane-names region bus shut (with_tool new) lane (names-waiting region bus old (with_tool new old) new refl refl (not-false-is (is_open old) rows.0, some-none old.tool rows.1.1.0)))
  line-named shut declared Disconnect lane None e =
      let old = lane_at lane bus.bench in
      on_lane-names region bus shut closed lane (names-closed region bus old (closed old) (closed-shut region bus old) refl)
  line-named shut declared Bad lane None e = names-same region bus shut

  pub line-names : (shut : IsShut bus.bench) (declared : Bool) (line : ToolLine) (lane : ℕ) → BenchNames region bus (put_line declared line lane bus.bench).bench
  line-names shut declared line lane = line-named shut declared line lane (dropped declared line (lane_at lane bus.bench)) refl

  stage-leaving : (stage : Stage) → is_same_stage stage Leaving ≡ true → stage ≡ Leaving
  stage-leaving Waiting e = absurd cc
  stage-leaving Live e = absurd cc
  stage-leaving Leaving e = refl

  left-named : IsShut bus.bench → (lane : ℕ) → can_leave lane bus.bench ≡ true → BenchNames region bus (left lane bus.bench)
  left-named shut lane can =
      let old = lane_at lane bus.bench in
      let it = of-tool (λ tool. is_same_stage tool.stage Leaving) (tool_at lane bus.bench) can in
      on_lane-names region bus shut without_tool lane (names-left region bus old (without_tool old) refl (shut lane it.0 it.1 (stage-leaving it.0.stage it.2)))

  acked-named : (lane : Lane) (place : ℕ) (found : Option Tool) → lane.tool ≡ found → ((tool : Tool) → lane.tool ≡ Some tool → tool.stage ≡ Leaving → is_open lane ≡ false) → LaneNames region bus lane (with_acknowledged_of place lane found)
  acked-named lane place None e shut = names-stay region bus lane lane shut refl refl
  acked-named lane place (Some before) e shut =
      names-mapped region bus lane (with_acknowledged_of place lane (Some before)) (λ tool. record tool { received = remove tool.received place }) shut refl
      (ap (option_map (λ (tool : Tool). record tool { received = remove tool.received place })) (sym e)) (λ tool. (refl, refl))

  pub exchange-names : (shut : IsShut bus.bench) (proc : Proc) (does : ToolAction) (exchange : Exchange) → MayBeDone bus.program.bodies region (action.Own (own.Speak does)) → exchange_for (setting_of bus proc) does ≡ Some exchange →
      BenchNames region bus (bench_after (setting_of bus proc) does exchange)
  exchange-names shut proc (tool_action.Execute tool slot) exchange may e =
      let name = kind_name (setting_of bus proc) tool in
      let new = new_tool name bus.bench.next_tool Live in
      let change : Lane → Lane = λ old. with_tool new (started (unwrap_or (kind_command (setting_of bus proc) tool) []) old) in
      let old = lane_at exchange.lane bus.bench in
      next-names region bus (on_lane change exchange.lane bus.bench)
      (on_lane-names region bus shut change exchange.lane (names-live region bus old (change old) new refl refl (inr (record { kind = tool; at = slot; may = inl may; is = refl }))))
  exchange-names shut proc (tool_action.Connect tool slot) exchange may e =
      let it = kind-is (setting_of bus proc) Waiting tool slot exchange e in
      let old = lane_at exchange.lane bus.bench in
      on_lane-names region bus shut with_live_tool exchange.lane
      (names-live region bus old (with_live_tool old) (record it.found { stage = Live }) (ap (option_map (λ (tool : Tool). record tool { stage = Live })) it.there) refl
      (inr (record { kind = tool; at = slot; may = inr may; is = it.named })))
  exchange-names shut proc (tool_action.DisconnectAny tool slot) exchange may e = left-named shut exchange.lane (exchange-is (setting_of bus proc) (tool_action.DisconnectAny tool slot) exchange e).can
  exchange-names shut proc (tool_action.Disconnect terms) exchange may e = left-named shut exchange.lane (exchange-is (setting_of bus proc) (tool_action.Disconnect terms) exchange e).can
  exchange-names shut proc (tool_action.Eval terms) exchange may e = by (behind terms)
    where
      by : (terms : List Term) → BenchNames region bus (with_told asked terms exchange.lane bus.bench)
      by [] = names-same region bus shut
      by (asks ∷ more) =
          let old = lane_at exchange.lane bus.bench in
          on_lane-names region bus shut (with_question asks) exchange.lane (names-mapped region bus old (with_question asks old) (λ tool. record tool { eval = Asked }) (shut exchange.lane) refl refl (λ tool. (refl, refl)))
  exchange-names shut proc (tool_action.TakeValue terms patterns) exchange may e =
      let old = lane_at exchange.lane bus.bench in
      on_lane-names region bus shut without_answer exchange.lane (names-mapped region bus old (without_answer old) (λ tool. record tool { eval = Closed }) (shut exchange.lane) refl refl (λ tool. (refl, refl)))
  exchange-names shut proc (tool_action.Do terms) exchange may e = by (behind terms)
    where
      by : (terms : List Term) → BenchNames region bus (with_told told terms exchange.lane bus.bench)
      by [] = names-same region bus shut
      by (does ∷ more) =
          let change : Lane → Lane = with_out (tool_line (codes "rec-do") (does ∷ [])) in
          let old = lane_at exchange.lane bus.bench in
          on_lane-names region bus shut change exchange.lane (names-stay region bus old (change old) (shut exchange.lane) refl refl)
  exchange-names shut proc (tool_action.TakeEvent terms patterns) exchange may e =
      let old = lane_at exchange.lane bus.bench in
      let change : Tool → Tool = λ tool. record tool { events = remove tool.events exchange.event; received = tool.received ++ event_at exchange.event tool.events ∷ [] } in
      on_lane-names region bus shut (with_received exchange.event) exchange.lane (names-mapped region bus old (with_received exchange.event old) change (shut exchange.lane) refl refl (λ tool. (refl, refl)))
  exchange-names shut proc (tool_action.Acknowledge terms) exchange may e =
      on_lane-names region bus shut (with_acknowledged exchange.event) exchange.lane (acked-named (lane_at exchange.lane bus.bench) exchange.event (tool_at exchange.lane bus.bench) refl (shut exchange.lane))
  exchange-names shut proc (tool_action.Terminate terms) exchange may e = by (behind terms)
    where
      by : (terms : List Term) → BenchNames region bus (with_told terminated terms exchange.lane bus.bench)
      by [] = names-same region bus shut
      by (reason ∷ more) =
          let change : Lane → Lane = λ lane. without_tool (ended_with (last_line reason) lane) in
          let old = lane_at exchange.lane bus.bench in
          on_lane-names region bus shut change exchange.lane (names-left region bus old (change old) refl (ended-shut region bus old.up true refl))
