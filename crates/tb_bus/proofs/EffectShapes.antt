-- What each effect shows, binds and changes is in shape.
use Rattle.std.proofs.Common.{◌≡◌, ℕ, ◌+◌, ◌≤◌, ◌==◌, Bool, true, false, nat_le, List, [], ◌∷◌, ◌++◌, length, slice_get, Option, Some, None, IfSome, MatchOption, is_some, option_map, option_and_then, option_to_list, unwrap_or, if◌then◌else◌, refl, ap, sym, ◌∙◌, subst, arith, pos, codes}
use Rattle.std.specs.Prelude.{⊤}
use Rattle.std.specs.List.{All, list_all}
use Rattle.std.proofs.lemmas.Bool.{le-leb}
use Rattle.std.proofs.lemmas.Bool.Decides.{nat_tests}
use Rattle.std.proofs.lemmas.List.{length_push, length-append}
use Rattle.std.proofs.lemmas.Option.{get_or_from_slice_get}
use Rattle.std.proofs.lemmas.List.Elements.{All-nil, All-head, All-tail, All-append, All-weaker}
use Rattle.tb_terms.specs.declared.term.Term.{Term}
use Rattle.tb_terms.specs.declared.pattern.Pattern.{Pattern}
use Rattle.tb_terms.specs.Sizes.{term_size, term_levels, size_step, levels_step, IsWithinLimits}
use Rattle.tb_terms.proofs.Induction.{fold-Int, fold-Appl}
use Rattle.tb_terms.proofs.LimitLemmas.{within-limits}
use Rattle.tb_match.specs.declared.bind.Bind.{Bind}
use Rattle.tb_match.specs.Matches.{match_list}
use Rattle.tb_notes.specs.Inboxes.{Held, oldest_match}
use Rattle.tb_notes.specs.Oldest.{IsOldest, NoneMatches}
use Rattle.tb_notes.specs.declared.queue.Found.{Found}
use Rattle.tb_notes.proofs.Finding.{oldest-first}
use Rattle.tb_log.specs.declared.entry.Place.{Place}
use Rattle.tb_log.specs.declared.entry.LabelKind.TheVariants as kind
use Rattle.tb_log.specs.Limits.{terms_size}
use Rattle.tb_log.specs.Shapes.{HasPlaces, has_terms, AreParts}
use Rattle.tb_tools.specs.Lanes.{BenchState, term_of}
use Rattle.tb_tools.specs.Acts.{event_at, events_at, asked, told, terminated}
use Rattle.tb_bus.specs.declared.action.Action.{Action}
use Rattle.tb_bus.specs.declared.action.Action.TheVariants as action
use Rattle.tb_bus.specs.declared.action.OwnAction.{OwnAction}
use Rattle.tb_bus.specs.declared.action.OwnAction.TheVariants as own
use Rattle.tb_bus.specs.declared.action.ToolAction.{ToolAction}
use Rattle.tb_bus.specs.declared.action.ToolAction.TheVariants as tool_action
use Rattle.tb_bus.specs.declared.exchange.Exchange.{Exchange}
use Rattle.tb_bus.specs.Buses.{Bus, Proc}
use Rattle.tb_bus.specs.Exchanges.{Setting, kind_name, kind_command, behind, exchange_for, kind_of, values_in, terms_seen, with_told, bench_after}
use Rattle.tb_bus.specs.Effects.{Change, Nothing, PutsNote, TakesNote, Subscribes, Unsubscribes, Creates, SetsBench, GoesDown, Effect, note_at, number_term, may_create, creation, taking, takes_note, own_effect, setting_of, speaking, effect_of}
use Rattle.tb_bus.specs.Steps.{nowhere, finish_reason, halt_reason}
use Rattle.tb_bus.specs.Waiting.{IsShallow, IsNote, IsEvent, IsBenchInShape, IsProcInShape, IsBusInShape}
use Rattle.tb_bus.proofs.ExchangeLemmas.{IsTaking, ExchangeIs, next_term, exchange-is}
use Rattle.tb_bus.proofs.LevelLemmas.{AreShallowBinds, match-shallow}
use Rattle.tb_bus.proofs.SentLemmas.{IsOwnInShape, IsSpeakInShape, IsActionInShape, size-cons, size-append}
use Rattle.tb_bus.proofs.LaneShapes.{all-there, executed-in, connected-in, left-in, asked-in, value_taken-in, told-in, event_taken-in, acknowledged-in, terminated-in, answer-in, event_at-in}
use Rattle.tb_bus.proofs.OrderLemmas.{All-one}

-- terms

pub one-part : (term : Term) → IsWithinLimits term → AreParts (term ∷ [])
one-part term h = record { each = All-one IsWithinLimits term h; together = let e = size-cons term [] in let size = h.size in omega arith }

number-within : (number : ℕ) → IsWithinLimits (number_term number)
number-within number =
    let size : term_size (number_term number) ≡ 1 = fold-Int ℕ size_step (pos number) in
    let levels : term_levels (number_term number) ≡ 1 = fold-Int ℕ levels_step (pos number) in
    record { size = omega arith; levels = omega arith }

pub finish-within : IsWithinLimits finish_reason
finish-within =
    let size : term_size finish_reason ≡ 7 = fold-Appl ℕ size_step (codes "finish") [] in
    let levels : term_levels finish_reason ≡ 1 = fold-Appl ℕ levels_step (codes "finish") [] in
    record { size = omega arith; levels = omega arith }

pub halt-within : IsWithinLimits halt_reason
halt-within =
    let size : term_size halt_reason ≡ 5 = fold-Appl ℕ size_step (codes "halt") [] in
    let levels : term_levels halt_reason ≡ 1 = fold-Appl ℕ levels_step (codes "halt") [] in
    record { size = omega arith; levels = omega arith }

pub all-levels : (terms : List Term) → All IsWithinLimits terms → All IsShallow terms
all-levels terms h = All-weaker IsWithinLimits IsShallow (λ t w. w.levels) terms h

-- effects

abbrev pub IsChangeInShape : Change → Type 0
IsChangeInShape Nothing = ⊤
IsChangeInShape (PutsNote terms) = IsNote terms
IsChangeInShape (TakesNote index) = ⊤
IsChangeInShape (Subscribes patterns) = ⊤
IsChangeInShape (Unsubscribes patterns) = ⊤
IsChangeInShape (Creates process actuals) = All IsShallow actuals
IsChangeInShape (SetsBench bench) = IsBenchInShape bench
IsChangeInShape (GoesDown reason) = IsWithinLimits reason

pub record IsEffectInShape (effect : Effect) : Type 0 where
  pub places : (from : Place) → HasPlaces effect.kind from nowhere
  pub count : has_terms effect.kind (length effect.shown) ≡ true
  pub terms : All IsWithinLimits effect.shown
  pub size : terms_size effect.shown ≤ 131072
  pub binds : AreShallowBinds effect.binds
  pub change : IsChangeInShape effect.change

abbrev pub GivesInShape : Option Effect → Type 0
GivesInShape found = IfSome found IsEffectInShape

no-terms : All IsWithinLimits []
no-terms = All-nil IsWithinLimits

no-binds : AreShallowBinds []
no-binds = All-nil (λ (bind : Bind). IsShallow bind.value)

one-bind : (slot : ℕ) (value : Term) → IsShallow value → AreShallowBinds (record { slot = slot; value = value } ∷ [])
one-bind slot value h = All-one (λ (bind : Bind). IsShallow bind.value) (record { slot = slot; value = value }) h

if-in : (b : Bool) (effect : Effect) → IsEffectInShape effect → GivesInShape (if b then Some effect else None)
if-in true effect h = h
if-in false effect h = tt

if-not-in : (b : Bool) (effect : Effect) → IsEffectInShape effect → GivesInShape (if b then None else Some effect)
if-not-in true effect h = tt
if-not-in false effect h = h

-- how large what is seen is

none-size : terms_size [] ≤ 131072
none-size = omega arith

one-size : (term : Term) → IsWithinLimits term → terms_size (term ∷ []) ≤ 131072
one-size term h = let e = size-cons term [] in let size = h.size in omega arith

parts-size : (terms : List Term) → AreParts terms → terms_size terms ≤ 131072
parts-size terms h = let size = h.together in omega arith

behind-size : (terms came : List Term) → AreParts terms → terms_size came ≤ 65536 → terms_size (terms ++ came) ≤ 131072
behind-size terms came h l =
    let size = h.together in
    let both : terms_size (terms ++ came) ≡ terms_size terms + terms_size came = size-append terms came in
    omega arith

-- so many terms
count-is : (terms : List Term) (many : ℕ) → length terms ≡ many → (length terms == many) ≡ true
count-is terms many e = grind (arith, nat_tests)

values-size : (values : List Term) → length values ≡ 1 → All IsWithinLimits values → terms_size values ≤ 131072
values-size [] e h = none-size
values-size (value ∷ []) e h = one-size value (All-head IsWithinLimits value [] h)
values-size (value ∷ other ∷ values) e h = absurd (omega arith)

-- a note that was found in a queue

note-by : (patterns : List Pattern) (held : Held) (found : Found) (note : Option (List Term)) → slice_get held.notes found.place ≡ note → option_and_then (match_list patterns) note ≡ Some found.binds → All IsNote held.notes → IsEffectInShape (taking held found)
note-by patterns held found None there matches h = cc
note-by patterns held found (Some note) there matches h =
    let is : IsNote note = all-there IsNote held.notes found.place note h there in
    let same : note_at held found.place ≡ note = get_or_from_slice_get held.notes found.place note [] there in
    record {
      places = λ from. refl;
      count = subst (λ (ts : List Term). nat_le 1 (length ts) ≡ true) (sym same) (le-leb 1 (length note) is.0);
      terms = subst (All IsWithinLimits) (sym same) is.1.each;
      size = subst (λ (ts : List Term). terms_size ts ≤ 131072) (sym same) (parts-size note is.1);
      binds = match-shallow patterns note found.binds (all-levels note is.1.each) matches;
      change = tt;
    }

take-in : (patterns : List Pattern) (held : Held) (o : Option Found) → MatchOption o (NoneMatches patterns held.notes) (IsOldest patterns held.notes) → All IsNote held.notes → GivesInShape (option_map (taking held) o)
take-in patterns held None oldest h = tt
take-in patterns held (Some found) oldest h = note-by patterns held found (slice_get held.notes found.place) refl oldest.0 h

-- exchanges with tools

-- what is told a tool stands behind its own term
told-in_shape : (change : Term → ℕ → BenchState → BenchState) (terms : List Term) (lane : ℕ) (bench : BenchState) → ((term : Term) → AreParts (term ∷ []) → IsBenchInShape (change term lane bench)) → All IsWithinLimits terms → IsBenchInShape bench →
    IsBenchInShape (with_told change (behind terms) lane bench)
told-in_shape change [] lane bench k h b = b
told-in_shape change (tool ∷ []) lane bench k h b = b
told-in_shape change (tool ∷ term ∷ terms) lane bench k h b =
    k term (one-part term (All-head IsWithinLimits term terms (All-tail IsWithinLimits tool (term ∷ terms) h)))

-- the slot takes a tool, which is all that is seen
taking-in : (setting : Setting) (does : ToolAction) (exchange : Exchange) (slot : ℕ) (term : Term) → IsTaking setting slot term exchange → ((from : Place) → HasPlaces (kind_of does) from nowhere) → has_terms (kind_of does) 1 ≡ true →
    terms_seen setting does exchange ≡ values_in exchange.binds → IsBenchInShape (bench_after setting does exchange) → IsEffectInShape (speaking setting does exchange)
taking-in setting does exchange slot term is places count seen bench =
    let shown : terms_seen setting does exchange ≡ term ∷ [] = seen ∙ ap values_in is.binds in
    let within = within-limits term is.limited in
    record {
      places = places;
      count = subst (λ (ts : List Term). has_terms (kind_of does) (length ts) ≡ true) (sym shown) count;
      terms = subst (All IsWithinLimits) (sym shown) (All-one IsWithinLimits term within);
      size = subst (λ (ts : List Term). terms_size ts ≤ 131072) (sym shown) (one-size term within);
      binds = subst AreShallowBinds (sym is.binds) (one-bind slot term within.levels);
      change = bench;
    }

-- nothing is bound, and its own terms are seen
plain-in : (setting : Setting) (does : ToolAction) (exchange : Exchange) (terms : List Term) → exchange.binds ≡ [] → ((from : Place) → HasPlaces (kind_of does) from nowhere) → has_terms (kind_of does) (length terms) ≡ true →
    AreParts terms → terms_seen setting does exchange ≡ terms → IsBenchInShape (bench_after setting does exchange) → IsEffectInShape (speaking setting does exchange)
plain-in setting does exchange terms binds places count within seen bench = record {
  places = places;
  count = subst (λ (ts : List Term). has_terms (kind_of does) (length ts) ≡ true) (sym seen) count;
  terms = subst (All IsWithinLimits) (sym seen) within.each;
  size = subst (λ (ts : List Term). terms_size ts ≤ 131072) (sym seen) (parts-size terms within);
  binds = subst AreShallowBinds (sym binds) no-binds;
  change = bench;
}

-- what came from a tool is seen behind its own term
from-in : (setting : Setting) (does : ToolAction) (exchange : Exchange) (terms came : List Term) (patterns : List Pattern) → AreParts terms → AreParts came → match_list patterns came ≡ Some exchange.binds →
    ((from : Place) → HasPlaces (kind_of does) from nowhere) → has_terms (kind_of does) (length (terms ++ came)) ≡ true → terms_seen setting does exchange ≡ terms ++ came → IsBenchInShape (bench_after setting does exchange) →
    IsEffectInShape (speaking setting does exchange)
from-in setting does exchange terms came patterns within parts matches places count seen bench = record {
  places = places;
  count = subst (λ (ts : List Term). has_terms (kind_of does) (length ts) ≡ true) (sym seen) count;
  terms = subst (All IsWithinLimits) (sym seen) (All-append IsWithinLimits terms came within.each parts.each);
  size = subst (λ (ts : List Term). terms_size ts ≤ 131072) (sym seen) (behind-size terms came within parts.together);
  binds = match-shallow patterns came exchange.binds (all-levels came parts.each) matches;
  change = bench;
}

more-are : (terms came : List Term) → length terms ≡ 1 → 1 ≤ length came → nat_le 2 (length (terms ++ came)) ≡ true
more-are terms came e l = le-leb 2 (length (terms ++ came)) (let both = length-append terms came in omega arith)

exchange-in : (setting : Setting) (does : ToolAction) (exchange : Exchange) → IsBenchInShape setting.bench → IsSpeakInShape does → ExchangeIs setting does exchange → IsEffectInShape (speaking setting does exchange)
exchange-in setting (tool_action.Execute tool slot) exchange h sent is =
    taking-in setting (tool_action.Execute tool slot) exchange slot (next_term setting tool) is.1 (λ from. refl) refl refl
    (executed-in (kind_name setting tool) (unwrap_or (kind_command setting tool) []) exchange.lane setting.bench h)
exchange-in setting (tool_action.Connect tool slot) exchange h sent is =
    taking-in setting (tool_action.Connect tool slot) exchange slot (term_of is.tool) is.taking (λ from. refl) refl refl (connected-in exchange.lane setting.bench h)
exchange-in setting (tool_action.DisconnectAny tool slot) exchange h sent is =
    taking-in setting (tool_action.DisconnectAny tool slot) exchange slot (term_of is.tool) is.taking (λ from. refl) refl refl (left-in exchange.lane setting.bench h)
exchange-in setting (tool_action.Disconnect terms) exchange h sent is =
    plain-in setting (tool_action.Disconnect terms) exchange terms is.binds (λ from. refl) (count-is terms 1 sent.many) sent.parts refl (left-in exchange.lane setting.bench h)
exchange-in setting (tool_action.Eval terms) exchange h sent is =
    plain-in setting (tool_action.Eval terms) exchange terms is.binds (λ from. refl) (count-is terms 2 sent.many) sent.parts refl
    (told-in_shape asked terms exchange.lane setting.bench (λ term k. asked-in term exchange.lane setting.bench k h) sent.parts.each h)
exchange-in setting (tool_action.TakeValue terms patterns) exchange h sent is =
    let came : terms_seen setting (tool_action.TakeValue terms patterns) exchange ≡ terms ++ is.value ∷ [] = ap (λ (o : Option Term). terms ++ option_to_list o) is.there in
    let two : length (terms ++ is.value ∷ []) ≡ 2 = length_push terms is.value ∙ ap (λ n. n + 1) sent.many in
    from-in setting (tool_action.TakeValue terms patterns) exchange terms (is.value ∷ []) patterns sent.parts (one-part is.value (answer-in exchange.lane setting.bench is.value h is.there)) is.matches
    (λ from. refl) (count-is (terms ++ is.value ∷ []) 2 two) came (value_taken-in exchange.lane setting.bench h)
exchange-in setting (tool_action.Do terms) exchange h sent is =
    plain-in setting (tool_action.Do terms) exchange terms is.binds (λ from. refl) (count-is terms 2 sent.many) sent.parts refl
    (told-in_shape told terms exchange.lane setting.bench (λ term k. told-in term exchange.lane setting.bench k h) sent.parts.each h)
exchange-in setting (tool_action.TakeEvent terms patterns) exchange h sent is =
    let event = event_at-in exchange.event exchange.lane setting.bench is.terms h is.there in
    let same : event_at exchange.event (events_at exchange.lane setting.bench) ≡ is.terms = get_or_from_slice_get (events_at exchange.lane setting.bench) exchange.event is.terms [] is.there in
    let came : IsEvent is.terms = subst IsEvent same event in
    from-in setting (tool_action.TakeEvent terms patterns) exchange terms is.terms patterns sent.parts came.1 is.matches
    (λ from. refl) (more-are terms is.terms sent.many came.0) (ap (λ (ts : List Term). terms ++ ts) same) (event_taken-in exchange.event exchange.lane setting.bench is.terms is.there h)
exchange-in setting (tool_action.Acknowledge terms) exchange h sent is =
    plain-in setting (tool_action.Acknowledge terms) exchange terms is.binds (λ from. refl) (le-leb 2 (length terms) sent.0) sent.1 refl
    (acknowledged-in exchange.event exchange.lane setting.bench (behind terms) is.there h)
exchange-in setting (tool_action.Terminate terms) exchange h sent is =
    plain-in setting (tool_action.Terminate terms) exchange terms is.binds (λ from. refl) (count-is terms 2 sent.many) sent.parts refl
    (told-in_shape terminated terms exchange.lane setting.bench (λ term k. terminated-in term exchange.lane setting.bench k h) sent.parts.each h)

speak-in : (setting : Setting) (does : ToolAction) (o : Option Exchange) → exchange_for setting does ≡ o → IsBenchInShape setting.bench → IsSpeakInShape does → GivesInShape (option_map (speaking setting does) o)
speak-in setting does None e h sent = tt
speak-in setting does (Some exchange) e h sent = let it = exchange-is setting does exchange e in exchange-in setting does exchange h sent it.is

-- what a process does by itself

own-in : (bus : Bus) (proc : Proc) (does : OwnAction) → IsBusInShape bus → IsProcInShape proc → IsOwnInShape does → GivesInShape (own_effect bus proc does)
own-in bus proc own.Tau b k h = record { places = λ from. refl; count = refl; terms = no-terms; size = none-size; binds = no-binds; change = tt }
own-in bus proc (own.Set values binds) b k h = record { places = λ from. refl; count = count-is values 1 h.0; terms = h.1; size = values-size values h.0 h.1; binds = h.2; change = tt }
own-in bus proc (own.Print text) b k h = record { places = λ from. refl; count = refl; terms = All-one IsWithinLimits text h; size = one-size text h; binds = no-binds; change = tt }
own-in bus proc (own.Notify terms) b k h =
    if-in (list_all (λ (other : Proc). takes_note terms other.inbox) bus.procs) (record { kind = kind.SndNote; shown = terms; binds = []; change = PutsNote terms })
    (record { places = λ from. refl; count = le-leb 1 (length terms) h.0; terms = h.1.each; size = parts-size terms h.1; binds = no-binds; change = h })
own-in bus proc (own.TakeNote patterns) b k h = take-in patterns proc.inbox (oldest_match patterns proc.inbox) (oldest-first patterns proc.inbox) k.notes
own-in bus proc (own.NoNote patterns) b k h =
    if-not-in (is_some (oldest_match patterns proc.inbox)) (record { kind = kind.NoNote; shown = []; binds = []; change = Nothing })
    (record { places = λ from. refl; count = refl; terms = no-terms; size = none-size; binds = no-binds; change = tt })
own-in bus proc (own.Subscribe patterns) b k h = record { places = λ from. refl; count = refl; terms = no-terms; size = none-size; binds = no-binds; change = tt }
own-in bus proc (own.Unsubscribe patterns) b k h = record { places = λ from. refl; count = refl; terms = no-terms; size = none-size; binds = no-binds; change = tt }
own-in bus proc (own.Create process actuals slot) b k h =
    let number = number-within bus.next_number in
    if-in (may_create bus.program.bodies (length bus.procs) bus.next_number proc.body process actuals slot) (creation bus.next_number process actuals slot)
    (record { places = λ from. refl; count = refl; terms = All-one IsWithinLimits (number_term bus.next_number) number; size = one-size (number_term bus.next_number) number; binds = one-bind slot (number_term bus.next_number) number.levels; change = h })
own-in bus proc (own.Speak does) b k h = speak-in (setting_of bus proc) does (exchange_for (setting_of bus proc) does) refl b.bench h
own-in bus proc (own.Shutdown reason) b k h = record { places = λ from. refl; count = refl; terms = All-one IsWithinLimits reason h; size = one-size reason h; binds = no-binds; change = h }

effect-gives : (bus : Bus) (proc : Proc) (does : Action) → IsBusInShape bus → IsProcInShape proc → IsActionInShape does → GivesInShape (effect_of bus proc does)
effect-gives bus proc (action.Own does) h k is = own-in bus proc does h k is
effect-gives bus proc (action.Send terms) h k is = tt
effect-gives bus proc (action.Receive patterns) h k is = tt

-- So what an action comes to is in shape, on a bus that is.
pub effect-in-shape : (bus : Bus) (proc : Proc) (does : Action) (effect : Effect) → IsBusInShape bus → IsProcInShape proc → IsActionInShape does → effect_of bus proc does ≡ Some effect → IsEffectInShape effect
effect-in-shape bus proc does effect h k is e = subst GivesInShape e (effect-gives bus proc does h k is)
