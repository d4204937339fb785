-- An offer has no reason if and only if it takes part in a move.
use Rattle.std.proofs.Common.{◌≡◌, ℕ, ◌+◌, ◌<◌, ◌==◌, ◌&&◌, Bool, true, false, not, nat_lt, List, [], ◌∷◌, map, length, Option, Some, None, is_some, option_map, option_and_then, if◌then◌else◌, refl, ap, sym, ◌∙◌, subst}
use Rattle.std.specs.Prelude.{is_none, slice_get}
use Rattle.std.specs.List.{list_all}
use Rattle.std.proofs.lemmas.List.{length-map}
use Rattle.tb_terms.specs.declared.term.Term.{Term}
use Rattle.tb_terms.specs.declared.pattern.Pattern.{Pattern}
use Rattle.tb_terms.specs.Sizes.{is_within_limits}
use Rattle.tb_func.specs.Printing.{printf_of}
use Rattle.tb_func.specs.Stores.{sort_at}
use Rattle.tb_func.specs.declared.slot.Slot.{Slot}
use Rattle.tb_match.specs.Matches.{match_list}
use Rattle.tb_body.specs.declared.act.Act.{Act}
use Rattle.tb_body.specs.declared.act.Act.TheVariants.{Delta, Tau, SndMsg, RecMsg, SndNote, RecNote, NoNote, Subscribe, Unsubscribe, Create, Set, Printf, Execute, RecConnect, RecDisconnectAny, RecDisconnect, SndEval, RecValue, SndDo, RecEvent, SndAckEvent, SndTerminate, Shutdown}
use Rattle.tb_body.specs.declared.program.Tool.{Tool as ToolKind}
use Rattle.tb_process_steps.specs.Atoms.{act_of, is_ready, matched_exprs, patterns_of, sent_exprs, times_of, values_together}
use Rattle.tb_process_steps.specs.Binds.{has_slot_sort}
use Rattle.tb_process_steps.specs.Offers.{Offered}
use Rattle.tb_notes.specs.Inboxes.{oldest_match}
use Rattle.tb_notes.specs.declared.queue.Found.{Found}
use Rattle.tb_tools.specs.declared.found.FoundEvent.{FoundEvent}
use Rattle.tb_tools.specs.declared.stage.Stage.{Stage}
use Rattle.tb_tools.specs.declared.stage.Stage.TheVariants as stage
use Rattle.tb_tools.specs.Acts.{answer_at, can_eval, can_leave, is_closed, is_live_at, is_taken_at}
use Rattle.tb_tools.specs.Finding.{find_tool, first_at, free_lane, oldest_event, oldest_received}
use Rattle.tb_tools.specs.Lanes.{BenchState, of_tool, tool_at, tool_term}
use Rattle.tb_bus.specs.Actions.{action_if, action_in, print_action, set_action, shutdown_action, speak_about}
use Rattle.tb_bus.specs.Buses.{Bus, Proc, atoms_of}
use Rattle.tb_bus.specs.Effects.{creation, most_alive, number_term, own_effect, setting_of, speaking, takes_note, taking}
use Rattle.tb_bus.specs.Exchanges.{Setting, behind, binding_on, bound_on, command_of, event_on, exchange_for, first_of, first_of_kind, lane_if, lane_of, name_of, plain_on, received_on, starting, taking_tool, term_on, value_on}
use Rattle.tb_bus.specs.Slots.{fits_formals, fits_slot}
use Rattle.tb_bus.specs.declared.action.Action.{Action}
use Rattle.tb_bus.specs.declared.action.Action.TheVariants as action
use Rattle.tb_bus.specs.declared.action.OwnAction.{OwnAction}
use Rattle.tb_bus.specs.declared.action.OwnAction.TheVariants as own
use Rattle.tb_bus.specs.declared.action.ToolAction.{ToolAction}
use Rattle.tb_bus.specs.declared.action.ToolAction.TheVariants as tool_action
use Rattle.tb_bus.specs.declared.exchange.Exchange.{Exchange}
use Rattle.tb_why.specs.Possible.{can_by, can_happen, is_full}
use Rattle.tb_why.specs.Reasons.{Queue, create_reason, end_reason, full_queue, full_reason, has_receiver, has_sender, print_reason, queue_of, reason_by, receiver_reason, sender_reason, reason_now, scene_of, set_reason, sorts_in, waits_reason, with_patterns, with_terms}
use Rattle.tb_why.specs.Standing.{offering_of, standing_of, standings}
use Rattle.tb_why.specs.Tools.{answer_reason, at_stage, command_reason, event_reason, execute_reason, found_reason, idle_reason, kind_reason, lane_named, lane_reason, leaving_reason, live_reason, open_reason, received_reason, fits_reason, term_reason, tool_reason, unless, value_reason}
use Rattle.tb_why.specs.declared.reason.Reason.{Reason}
use Rattle.tb_why.specs.declared.reason.Reason.TheVariants as reason
use Rattle.tb_why.specs.declared.standing.Offering.{Offering}
use Rattle.tb_why.proofs.PartnerLemmas.{receiver-is, sender-is}

-- a condition alone
unless-is : (b : Bool) (r : Reason) → is_none (unless b r) ≡ b
unless-is true r = refl
unless-is false r = refl

some-map : {A B : Type 0} (f : A → B) (o : Option A) → is_some (option_map f o) ≡ is_some o
some-map f None = refl
some-map f (Some x) = refl

-- a tool that is started, or taken
binding-by : {A : Type 0} (within slot : Bool) (x : A) → is_none (if within then unless slot reason.WrongTool else Some reason.ToolTooLarge) ≡ is_some (if within && slot then Some x else None)
binding-by true true x = refl
binding-by true false x = refl
binding-by false true x = refl
binding-by false false x = refl

binding-is : (setting : Setting) (slot lane : ℕ) (term : Term) → is_none (fits_reason setting slot term) ≡ is_some (binding_on setting slot lane term)
binding-is setting slot lane term = binding-by (is_within_limits term) (fits_slot setting.body slot term) (bound_on slot lane term)

starting-is : (setting : Setting) (slot : ℕ) (name : List ℕ) (lane : Option ℕ) →
    is_none (lane_reason setting slot name lane) ≡ is_some (option_and_then (λ lane. binding_on setting slot lane (tool_term name setting.bench.next_tool)) lane)
starting-is setting slot name None = refl
starting-is setting slot name (Some lane) = binding-is setting slot lane (tool_term name setting.bench.next_tool)

command-is : (setting : Setting) (slot : ℕ) (name : List ℕ) (command : Option (List ℕ)) → is_none (command_reason setting slot name command) ≡ is_some (option_and_then (λ command. starting setting slot name) command)
command-is setting slot name None = refl
command-is setting slot name (Some command) = starting-is setting slot name (free_lane setting.bench)

execute-is : (setting : Setting) (slot : ℕ) (kind : Option ToolKind) → is_none (execute_reason setting slot kind) ≡ is_some (option_and_then (λ command. starting setting slot (name_of kind)) (command_of kind))
execute-is setting slot None = refl
execute-is setting slot (Some kind) = command-is setting slot kind.name kind.command

term-is : (setting : Setting) (slot lane : ℕ) (term : Option Term) → is_none (term_reason setting slot term) ≡ is_some (option_and_then (binding_on setting slot lane) term)
term-is setting slot lane None = refl
term-is setting slot lane (Some term) = binding-is setting slot lane term

found-is : (setting : Setting) (at : Stage) (slot : ℕ) (lane : Option ℕ) → is_none (found_reason setting at slot lane) ≡ is_some (option_and_then (taking_tool setting slot) lane)
found-is setting at slot None = refl
found-is setting at slot (Some lane) = term-is setting slot lane (term_on lane setting.bench)

kind-is : (setting : Setting) (at : Stage) (slot : ℕ) (kind : Option ToolKind) → is_none (kind_reason setting at slot kind) ≡ is_some (option_and_then (first_of setting at slot) kind)
kind-is setting at slot None = refl
kind-is setting at slot (Some kind) = found-is setting at slot (first_at kind.name at setting.bench)

-- an atom that speaks with a tool that is there
plain-is : (may : ℕ → BenchState → Bool) (bench : BenchState) (r : ℕ → Option Reason) (same : (lane : ℕ) → is_none (r lane) ≡ may lane bench) (found : Option ℕ) →
    is_none (tool_reason r found) ≡ is_some (option_map plain_on (option_and_then (lane_if may bench) found))
plain-is may bench r same None = refl
plain-is may bench r same (Some lane) = same lane ∙ by (may lane bench)
  where
    by : (b : Bool) → b ≡ is_some (option_map plain_on (if b then Some lane else None))
    by true = refl
    by false = refl

named-is : (may : ℕ → BenchState → Bool) (bench : BenchState) (r : ℕ → Option Reason) (same : (lane : ℕ) → is_none (r lane) ≡ may lane bench) (terms : List Term) →
    is_none (tool_reason r (lane_named bench terms)) ≡ is_some (option_map plain_on (lane_of may bench terms))
named-is may bench r same [] = refl
named-is may bench r same (tool ∷ terms) = plain-is may bench r same (find_tool tool bench)

-- one that also takes something there
then-is : (may : ℕ → BenchState → Bool) (bench : BenchState) (r : ℕ → Option Reason) (f : ℕ → Option Exchange) (same : (lane : ℕ) → is_none (r lane) ≡ (if may lane bench then is_some (f lane) else false)) (found : Option ℕ) →
    is_none (tool_reason r found) ≡ is_some (option_and_then f (option_and_then (lane_if may bench) found))
then-is may bench r f same None = refl
then-is may bench r f same (Some lane) = same lane ∙ by (may lane bench)
  where
    by : (b : Bool) → (if b then is_some (f lane) else false) ≡ is_some (option_and_then f (if b then Some lane else None))
    by true = refl
    by false = refl

taken-is : (may : ℕ → BenchState → Bool) (bench : BenchState) (r : ℕ → Option Reason) (f : ℕ → Option Exchange) (same : (lane : ℕ) → is_none (r lane) ≡ (if may lane bench then is_some (f lane) else false)) (terms : List Term) →
    is_none (tool_reason r (lane_named bench terms)) ≡ is_some (option_and_then f (lane_of may bench terms))
taken-is may bench r f same [] = refl
taken-is may bench r f same (tool ∷ terms) = then-is may bench r f same (find_tool tool bench)

-- live comes first
idle-by : (live can : Bool) (one other : Reason) → (live ≡ false → can ≡ false) → is_none (if live then unless can one else Some other) ≡ can
idle-by true can one other h = unless-is can one
idle-by false can one other h = sym (h refl)

not-both : (live other : Bool) → live ≡ false → (live && other) ≡ false
not-both true other e = absurd (let t : true ≡ false = e in cc)
not-both false other e = refl

idle-is : (bench : BenchState) (lane : ℕ) → is_none (idle_reason bench lane) ≡ can_eval lane bench
idle-is bench lane =
    idle-by (is_live_at lane bench) (can_eval lane bench) (open_reason bench lane) (at_stage bench lane) (not-both (is_live_at lane bench) (of_tool (λ tool. is_closed tool.eval) (tool_at lane bench)))

if-unless : (a b : Bool) (one other : Reason) → is_none (if a then unless b one else Some other) ≡ (if a then b else false)
if-unless true b one other = unless-is b one
if-unless false b one other = refl

event-some : (ps : List Pattern) (bench : BenchState) (lane : ℕ) → is_some (oldest_event ps lane bench) ≡ is_some (event_on ps bench lane)
event-some ps bench lane = sym (some-map (λ (found : FoundEvent). record { lane = lane; event = found.place; binds = found.binds }) (oldest_event ps lane bench))

received-some : (ts : List Term) (bench : BenchState) (lane : ℕ) → is_some (oldest_received ts lane bench) ≡ is_some (received_on ts bench lane)
received-some ts bench lane = sym (some-map (λ (place : ℕ). record { lane = lane; event = place; binds = [] }) (oldest_received ts lane bench))

event-is : (ps : List Pattern) (bench : BenchState) (lane : ℕ) → is_none (event_reason bench ps lane) ≡ (if is_taken_at lane bench then is_some (event_on ps bench lane) else false)
event-is ps bench lane = if-unless (is_taken_at lane bench) (is_some (oldest_event ps lane bench)) _ _ ∙ ap (λ (b : Bool). if is_taken_at lane bench then b else false) (event-some ps bench lane)

received-is : (ts : List Term) (bench : BenchState) (lane : ℕ) → is_none (received_reason bench ts lane) ≡ (if is_live_at lane bench then is_some (received_on (behind ts) bench lane) else false)
received-is ts bench lane = if-unless (is_live_at lane bench) (is_some (oldest_received (behind ts) lane bench)) _ _ ∙ ap (λ (b : Bool). if is_live_at lane bench then b else false) (received-some (behind ts) bench lane)

-- what a value that has come binds
abbrev value-one : List Pattern → ℕ → Term → Option Exchange
value-one ps lane value = option_map (λ binds. record { lane = lane; event = 0; binds = binds }) (match_list ps (value ∷ []))

answer-is : (ps : List Pattern) (bench : BenchState) (lane : ℕ) (value : Option Term) → answer_at lane bench ≡ value → is_none (answer_reason bench ps lane value) ≡ is_some (value_on ps bench lane)
answer-is ps bench lane None e = ap (λ (o : Option Term). is_some (option_and_then (value-one ps lane) o)) (sym e)
answer-is ps bench lane (Some value) e = unless-is (is_some (value_on ps bench lane)) (reason.AnswerDiffers lane)

value-by : (ps : List Pattern) (bench : BenchState) (lane : ℕ) (taken : Bool) (other : Reason) →
    is_none (if taken then answer_reason bench ps lane (answer_at lane bench) else Some other) ≡ (if taken then is_some (value_on ps bench lane) else false)
value-by ps bench lane true other = answer-is ps bench lane (answer_at lane bench) refl
value-by ps bench lane false other = refl

value-is : (ps : List Pattern) (bench : BenchState) (lane : ℕ) → is_none (value_reason bench ps lane) ≡ (if is_taken_at lane bench then is_some (value_on ps bench lane) else false)
value-is ps bench lane = value-by ps bench lane (is_taken_at lane bench) _

-- queues
full-is : (terms : List Term) (procs : List Proc) → is_none (full_reason (full_queue terms (map queue_of procs))) ≡ list_all (λ (other : Proc). takes_note terms other.inbox) procs
full-is terms [] = refl
full-is terms (proc ∷ procs) = by (takes_note terms proc.inbox) (full-is terms procs)
  where
    by : (b : Bool) → is_none (full_reason (full_queue terms (map queue_of procs))) ≡ list_all (λ (other : Proc). takes_note terms other.inbox) procs → is_none (full_reason (if b then full_queue terms (map queue_of procs) else Some proc.number)) ≡ (b && list_all (λ (other : Proc). takes_note terms other.inbox) procs)
    by true more = more
    by false more = refl

-- an offer that is ready, by its atom
module _ (bus : Bus) (proc : Proc) (offered : Offered) (sorts : (slot : ℕ) → sort_at offered.store slot ≡ sorts_in (slice_get bus.program.bodies proc.body) slot) where
  abbrev setting : Setting
  setting = setting_of bus proc

  abbrev Right : Option Reason → Option Action → Type 0
  Right r does = is_none r ≡ can_by bus proc offered does

  spoken : (does : ToolAction) → is_some (exchange_for setting does) ≡ is_some (own_effect bus proc (own.Speak does))
  spoken does = sym (some-map (speaking setting does) (exchange_for setting does))

  set-if : (sort term : Bool) → sort ≡ term → is_none (unless sort reason.WrongSort) ≡ term
  set-if sort term e = unless-is sort reason.WrongSort ∙ e

  set-right : (slot : ℕ) (o : Option (List Term)) → Right (with_terms (set_reason (sorts_in (slice_get bus.program.bodies proc.body) slot)) o) (option_and_then (set_action offered.store slot) o)
  set-right slot None = refl
  set-right slot (Some []) = refl
  set-right slot (Some (v ∷ [])) = unless-is (has_slot_sort (sorts_in (slice_get bus.program.bodies proc.body) slot) v) reason.WrongSort ∙ ap (λ s. has_slot_sort s v) (sym (sorts slot)) ∙ by (has_slot_sort (sort_at offered.store slot) v)
    where
      by : (b : Bool) → b ≡ can_by bus proc offered (if b then Some (action.Own (own.Set (v ∷ []) (record { slot = slot; value = v } ∷ []))) else None)
      by true = refl
      by false = refl
  set-right slot (Some (v ∷ w ∷ vs)) = refl

  end-right : (o : Option (List Term)) → Right (with_terms end_reason o) (option_and_then shutdown_action o)
  end-right None = refl
  end-right (Some []) = refl
  end-right (Some (v ∷ [])) = refl
  end-right (Some (v ∷ w ∷ vs)) = refl

  print-right : (o : Option (List Term)) → Right (with_terms print_reason o) (option_map print_action (option_and_then printf_of o))
  print-right None = refl
  print-right (Some terms) = unless-is (is_some (printf_of terms)) _ ∙ by (printf_of terms)
    where
      by : (t : Option Term) → is_some t ≡ can_by bus proc offered (option_map print_action t)
      by None = refl
      by (Some text) = refl

  send-right : (o : Option (List Term)) → Right (with_terms (receiver_reason bus.program.bodies proc.number (standings bus)) o) (option_map action.Send o)
  send-right None = refl
  send-right (Some terms) = unless-is (has_receiver bus.program.bodies proc.number (Some terms) (standings bus)) _ ∙ receiver-is bus proc offered terms

  receive-right : (o : Option (List Pattern)) → Right (with_patterns (sender_reason bus.program.bodies proc.number (standings bus)) o) (option_map action.Receive o)
  receive-right None = refl
  receive-right (Some patterns) = unless-is (has_sender bus.program.bodies proc.number (Some patterns) (standings bus)) _ ∙ sender-is bus proc.number patterns bus.procs

  note-right : (o : Option (List Term)) → Right (with_terms (λ terms. full_reason (full_queue terms (map queue_of bus.procs))) o) (option_map (λ terms. action.Own (own.Notify terms)) o)
  note-right None = refl
  note-right (Some terms) = full-is terms bus.procs ∙ by (list_all (λ (other : Proc). takes_note terms other.inbox) bus.procs) _
    where
      by : {A : Type 0} (b : Bool) (x : A) → b ≡ is_some (if b then Some x else None)
      by true x = refl
      by false x = refl

  take-right : (o : Option (List Pattern)) → Right (with_patterns (λ patterns. unless (is_some (oldest_match patterns proc.inbox)) reason.NoNote) o) (option_map (λ patterns. action.Own (own.TakeNote patterns)) o)
  take-right None = refl
  take-right (Some patterns) = unless-is (is_some (oldest_match patterns proc.inbox)) _ ∙ sym (some-map (taking proc.inbox) (oldest_match patterns proc.inbox))

  none-right : (o : Option (List Pattern)) → Right (with_patterns (λ patterns. waits_reason (oldest_match patterns proc.inbox)) o) (option_map (λ patterns. action.Own (own.NoNote patterns)) o)
  none-right None = refl
  none-right (Some patterns) = by (oldest_match patterns proc.inbox) _
    where
      by : {A : Type 0} (found : Option Found) (x : A) → is_none (waits_reason found) ≡ is_some (if is_some found then None else Some x)
      by None x = refl
      by (Some found) x = refl

  plain-right : (g : List Pattern → OwnAction) → ((ps : List Pattern) → is_some (own_effect bus proc (g ps)) ≡ true) → (o : Option (List Pattern)) → Right (with_patterns (λ patterns. None) o) (option_map (λ patterns. action.Own (g patterns)) o)
  plain-right g h None = refl
  plain-right g h (Some patterns) = sym (h patterns)

  create-by : (few formals slot : Bool) {A : Type 0} (x : A) → is_none (if few then (if formals then unless slot reason.NoNumber else Some reason.WrongActuals) else Some reason.TooMany) ≡ is_some (if few && formals && slot then Some x else None)
  create-by true true true x = refl
  create-by true true false x = refl
  create-by true false true x = refl
  create-by true false false x = refl
  create-by false true true x = refl
  create-by false true false x = refl
  create-by false false true x = refl
  create-by false false false x = refl

  create-right : (process slot : ℕ) (o : Option (List Term)) → Right (with_terms (create_reason (scene_of bus) proc.body process slot) o) (option_map (λ terms. action.Own (own.Create process terms slot)) o)
  create-right process slot None = refl
  create-right process slot (Some actuals) =
      let formals : Bool = fits_formals (slice_get bus.program.bodies process) actuals in
      let number : Bool = fits_slot (slice_get bus.program.bodies proc.body) slot (number_term bus.next_number) in
      ap (λ (n : ℕ). is_none (if nat_lt n most_alive then (if formals then unless number reason.NoNumber else Some reason.WrongActuals) else Some reason.TooMany)) (length-map bus.procs (standing_of bus.program.bodies bus.now))
      ∙ create-by (nat_lt (length bus.procs) most_alive) formals number (creation bus.next_number process actuals slot)

  told-right : (does : List Term → ToolAction) (r : List Term → Option Reason) → ((terms : List Term) → is_none (r terms) ≡ is_some (exchange_for setting (does terms))) → (o : Option (List Term)) → Right (with_terms r o) (option_map (λ terms. action.Own (own.Speak (does terms))) o)
  told-right does r same None = refl
  told-right does r same (Some terms) = same terms ∙ spoken (does terms)

  about-right : (does : List Term → List Pattern → ToolAction) (r : List Term → List Pattern → Option Reason) → ((terms : List Term) (ps : List Pattern) → is_none (r terms ps) ≡ is_some (exchange_for setting (does terms ps))) →
      (ps : Option (List Pattern)) (o : Option (List Term)) → Right (with_terms (λ terms. with_patterns (r terms) ps) o) (option_and_then (speak_about does ps) o)
  about-right does r same ps None = refl
  about-right does r same None (Some terms) = refl
  about-right does r same (Some ps) (Some terms) = same terms ps ∙ spoken (does terms ps)

  abbrev offer_with : Act → Offering
  offer_with act = record { atom = offered.atom; age = offered.age; ready = true; sent = values_together offered.store (sent_exprs act); patterns = patterns_of offered.store (matched_exprs act) }

  act-right : (act : Act) → Right (reason_by (scene_of bus) proc.number proc.body proc.inbox (offer_with act) act) (action_in offered.store act)
  act-right Delta = refl
  act-right Tau = refl
  act-right (Set slot value) = set-right slot (values_together offered.store (value ∷ []))
  act-right (Printf exprs) = print-right (values_together offered.store exprs)
  act-right (SndMsg exprs) = send-right (values_together offered.store exprs)
  act-right (RecMsg exprs) = receive-right (patterns_of offered.store exprs)
  act-right (SndNote exprs) = note-right (values_together offered.store exprs)
  act-right (RecNote exprs) = take-right (patterns_of offered.store exprs)
  act-right (NoNote exprs) = none-right (patterns_of offered.store exprs)
  act-right (Subscribe exprs) = plain-right own.Subscribe (λ ps. refl) (patterns_of offered.store exprs)
  act-right (Unsubscribe exprs) = plain-right own.Unsubscribe (λ ps. refl) (patterns_of offered.store exprs)
  act-right (Create process actuals slot) = create-right process slot (values_together offered.store actuals)
  act-right (Execute tool slot) = execute-is setting slot (slice_get setting.kinds tool) ∙ spoken (tool_action.Execute tool slot)
  act-right (RecConnect tool slot) = kind-is setting stage.Waiting slot (slice_get setting.kinds tool) ∙ spoken (tool_action.Connect tool slot)
  act-right (RecDisconnectAny tool slot) = kind-is setting stage.Leaving slot (slice_get setting.kinds tool) ∙ spoken (tool_action.DisconnectAny tool slot)
  act-right (RecDisconnect tool) = told-right tool_action.Disconnect _ (named-is can_leave setting.bench (leaving_reason setting.bench) (λ lane. unless-is (can_leave lane setting.bench) _)) (values_together offered.store (tool ∷ []))
  act-right (SndEval tool expr) = told-right tool_action.Eval _ (named-is can_eval setting.bench (idle_reason setting.bench) (idle-is setting.bench)) (values_together offered.store (tool ∷ expr ∷ []))
  act-right (RecValue tool expr) =
      about-right tool_action.TakeValue _ (λ terms ps. taken-is is_taken_at setting.bench (value_reason setting.bench ps) (value_on ps setting.bench) (value-is ps setting.bench) terms) (patterns_of offered.store (expr ∷ [])) (values_together offered.store (tool ∷ []))
  act-right (SndDo tool expr) = told-right tool_action.Do _ (named-is can_eval setting.bench (idle_reason setting.bench) (idle-is setting.bench)) (values_together offered.store (tool ∷ expr ∷ []))
  act-right (RecEvent tool exprs) =
      about-right tool_action.TakeEvent _ (λ terms ps. taken-is is_taken_at setting.bench (event_reason setting.bench ps) (event_on ps setting.bench) (event-is ps setting.bench) terms) (patterns_of offered.store exprs) (values_together offered.store (tool ∷ []))
  act-right (SndAckEvent tool exprs) = told-right tool_action.Acknowledge _ (λ terms. taken-is is_live_at setting.bench (received_reason setting.bench terms) (received_on (behind terms) setting.bench) (received-is terms setting.bench) terms) (values_together offered.store (tool ∷ exprs))
  act-right (SndTerminate tool expr) = told-right tool_action.Terminate _ (named-is is_live_at setting.bench (live_reason setting.bench) (λ lane. unless-is (is_live_at lane setting.bench) _)) (values_together offered.store (tool ∷ expr ∷ []))
  act-right (Shutdown expr) = end-right (values_together offered.store (expr ∷ []))

  ready-right : (act : Act) (ready : Bool) → is_none (if ready then reason_by (scene_of bus) proc.number proc.body proc.inbox (record (offer_with act) { ready = ready }) act else Some reason.Times) ≡ can_by bus proc offered (action_if ready offered.store act)
  ready-right act true = act-right act
  ready-right act false = refl

  -- on a bus that is up, an offer has no reason if and only if it takes part in a move
  pub reasons-right : bus.down ≡ false → is_none (reason_now bus.down (scene_of bus) proc.number proc.body proc.inbox (offering_of (atoms_of bus.program.bodies proc.body) bus.now offered)) ≡ can_happen bus proc offered
  reasons-right up =
      let atoms = atoms_of bus.program.bodies proc.body in
      subst (λ (down : Bool). is_none (reason_now down (scene_of bus) proc.number proc.body proc.inbox (offering_of atoms bus.now offered)) ≡ can_happen bus proc offered) (sym up)
      (ready-right (act_of atoms offered.atom) (is_ready offered.store offered.age bus.now (times_of atoms offered.atom)))
