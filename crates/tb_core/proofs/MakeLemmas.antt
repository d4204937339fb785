-- A candidate that is made: what was taken of its processes leads to the bus after its move.
use Rattle.std.proofs.Common.{◌≡◌, ℕ, ◌<◌, ◌≢◌, List, [], ◌∷◌, ◌++◌, length, refl, ap, sym, subst, ◌∙◌, Option, Some, None, Bool, true, false, Contains, MatchOption, slice_get, nat_lt, ◌&&◌, not, is_some, if◌then◌else◌, option_map, option_and_then}
use Rattle.std.proofs.lemmas.Bool.{and_from, and_parts}
use Rattle.std.proofs.lemmas.Option.{get_or_from_slice_get, same_Some, slice_get_within}
use Rattle.std.proofs.lemmas.List.{length-map}
use Rattle.std.proofs.lemmas.List.Elements.{Contains-append_left, Contains-push}
use Rattle.std.specs.Global.{Vec}
use Rattle.tb_terms.specs.declared.term.Term.{Term}
use Rattle.tb_terms.specs.declared.sort.Sort.{Sort}
use Rattle.tb_terms.specs.declared.pattern.Pattern.{Pattern}
use Rattle.tb_func.specs.declared.slot.Slot.{Slot}
use Rattle.tb_func.specs.Stores.{sort_at}
use Rattle.tb_match.specs.declared.bind.Bind.{Bind}
use Rattle.tb_match.specs.Matches.{match_list}
use Rattle.tb_body.specs.declared.body.Body.{Body}
use Rattle.tb_process_steps.specs.Binds.{has_slot_sort, takes_bind, takes_binds}
use Rattle.tb_process_steps.specs.Offers.{Offered}
use Rattle.tb_process_steps.specs.Walks.{sorts_of}
use Rattle.tb_process_steps.specs.WalkerViews.{View}
use Rattle.tb_process_steps.proofs.Sorts.{offer_at-keeps, sort_at-sorts_of}
use Rattle.tb_notes.specs.Inboxes.{Held, oldest_match}
use Rattle.tb_notes.specs.Oldest.{IsOldest, NoneMatches}
use Rattle.tb_notes.specs.declared.queue.Found.{Found}
use Rattle.tb_notes.proofs.Finding.{oldest-first}
use Rattle.tb_tools.specs.Lanes.{HasLanes}
use Rattle.tb_bus.specs.Buses.{Bus, Proc}
use Rattle.tb_bus.specs.Effects.{Effect, changed, effect_of, may_create, note_at, number_term}
use Rattle.tb_bus.specs.Exchanges.{exchange_for, setting_by}
use Rattle.tb_bus.specs.Slots.{fits_formals, fits_slot}
use Rattle.tb_bus.specs.Steps.{advance, apply, label_of, nowhere, place_of}
use Rattle.tb_bus.specs.Steps as move
use Rattle.tb_search.specs.Candidates.{Row, Scene, no_row, row_at, row_of, rows_of, all_take, wanting, wanting_if_room, plain_if, finding_of, setting_in}
use Rattle.tb_search.specs.FoundEffects.{note_found, exchange_found, effect_by}
use Rattle.tb_search.specs.Views.{no_proc, proc_at, ready_at, offer_of, own_in, own_move, move_by, IsCandidateIn}
use Rattle.tb_bus.specs.declared.action.Action.TheVariants as action
use Rattle.tb_bus.specs.declared.action.OwnAction.{OwnAction}
use Rattle.tb_bus.specs.declared.action.ToolAction.{ToolAction}
use Rattle.tb_bus.specs.declared.exchange.Exchange.{Exchange}
use Rattle.tb_bus.specs.declared.origin.Origin.{Origin}
use Rattle.tb_bus.specs.declared.action.OwnAction.TheVariants as own
use Rattle.tb_search.specs.declared.candidate.Candidate.TheVariants.{Handshake}
use Rattle.tb_search.specs.declared.candidate.Candidate.TheVariants as candidate
use Rattle.tb_search.specs.declared.candidate.Finding.{Finding}
use Rattle.tb_search.specs.declared.candidate.Finding.TheVariants as finding
use Rattle.tb_search.specs.declared.marks.Marks.{Marks}
use Rattle.tb_search.specs.declared.living.Living.{Living}
use Rattle.tb_bus.proofs.ExchangeLemmas.{exchange-takes}
use Rattle.tb_search.proofs.EffectLemmas.{found-row, own-effect-is}
use Rattle.tb_log.specs.declared.entry.Label.{Label}
use Rattle.tb_log.specs.declared.entry.LabelKind.{LabelKind}
use Rattle.tb_log.specs.declared.entry.LabelKind.TheVariants as kind
use Rattle.tb_log.specs.declared.entry.Place.{Place}
use Rattle.tb_living.specs.Lives.{proc_by, proc_in, AreFresh}
use Rattle.tb_core.specs.Helpers.Makings.{effect_in, finding_in, IsPlainIn}
use Rattle.tb_core.specs.Helpers.LiveBuses.{IsSound, StandsAs, AreAdvanced, Leaves, CanAdvance, IsKept, IsChanged, HasGone, bus_of, procs_in, move_in, scene_in}
use Rattle.tb_living.specs.Spoken.{CanSpeak, IsDone}
use Rattle.tb_living.specs.declared.done.Done.{Done}
use Rattle.tb_core.specs.declared.bus.LiveBus.{LiveBus}
use Rattle.tb_living.proofs.ReadLemmas.{body-there, map-there, some-at}
use Rattle.tb_core.proofs.ReadLemmas.{live-there}
use Rattle.tb_core.proofs.FreshLemmas.{ActionFits, OwnFits, action-at, fits-at}
use Rattle.tb_core.proofs.HoldLemmas.{held-same, helds-same, nothing-changed}
use Rattle.tb_living.proofs.HoldLemmas.{row-held}
use Rattle.tb_core.proofs.RowsLemmas.{searched-for}
use Rattle.tb_living.proofs.NoteLemmas.{all_take-same, wanting-same}

-- the offer of one of the actions of a process
pub record OfferIs {W P T : Type 0} (view : View P W T) (bus : LiveBus W P T) (at index : ℕ) : Type 0 where
  pub sorts : sorts_of (offer_of (procs_in view bus) (rows_of bus.living.items) at index).store ≡ sorts_of (proc_at (procs_in view bus) at).store
  pub fits : ActionFits (offer_of (procs_in view bus) (rows_of bus.living.items) at index).store (ready_at (rows_of bus.living.items) at index).action
  pub number : (row_at (rows_of bus.living.items) at).number ≡ (proc_at (procs_in view bus) at).number
  pub atom : (ready_at (rows_of bus.living.items) at index).atom ≡ (offer_of (procs_in view bus) (rows_of bus.living.items) at index).atom
  pub body : Body
  pub body_is : slice_get bus.origin.program.bodies (proc_at (procs_in view bus) at).body ≡ Some body
  pub body_sorts : sorts_of (offer_of (procs_in view bus) (rows_of bus.living.items) at index).store ≡ body.sorts

pub offer-is : {W P T : Type 0} (view : View P W T) (bus : LiveBus W P T) (at index : ℕ) (taken : T) (offered : Offered) → IsSound view bus → AreFresh bus.living.items → index < length (row_at (rows_of bus.living.items) at).ready → Leaves view bus at taken offered →
    OfferIs view bus at index
offer-is view bus at index taken offered sound fresh within leaves =
    let it = live-there view bus at leaves.0 sound leaves.1 in
    let walking = view.walking it.plan leaves.0.walker in
    let there = action-at view bus at index leaves.0 it fresh within in
    let offer = offer_of (procs_in view bus) (rows_of bus.living.items) at index in
    let ready = ready_at (rows_of bus.living.items) at index in
    record {
      sorts = (offer_at-keeps walking ready.offer offer there.here).sorts ∙ ap (λ (p : Proc). sorts_of p.store) (sym it.proc);
      fits = fits-at (view.body_of it.plan) bus.ticks walking ready offer there;
      number = ap (λ (r : Row). r.number) it.row ∙ ap (λ (p : Proc). p.number) (sym it.proc);
      atom = there.atom;
      body = view.body_of it.plan;
      body_is = ap (slice_get bus.origin.program.bodies) (ap (λ (p : Proc). p.body) it.proc) ∙ body-there view.body_of bus.plans bus.origin.program.bodies leaves.0.body it.plan sound.planned it.planned;
      body_sorts = (offer_at-keeps walking ready.offer offer there.here).sorts ∙ it.live.sorts;
    }

-- what was taken of it leads on, on another state of the same bus
pub can-advance : {W P T : Type 0} (view : View P W T) (old new : LiveBus W P T) (at index : ℕ) (taken : T) (binds : List Bind) → OfferIs view old at index → bus_of view new ≡ bus_of view old →
    Leaves view new at taken (offer_of (procs_in view old) (rows_of old.living.items) at index) → takes_binds (offer_of (procs_in view old) (rows_of old.living.items) at index).store binds ≡ true → CanAdvance view new at taken binds
can-advance view old new at index taken binds is same leaves takes =
    (offer_of (procs_in view old) (rows_of old.living.items) at index, leaves, is.sorts ∙ ap (λ (b : Bus). sorts_of (proc_at b.procs at).store) (sym same), takes)

-- the position of an offer
pub place-is : {W P T : Type 0} (view : View P W T) (bus : LiveBus W P T) (at index : ℕ) (place : Place) → OfferIs view bus at index →
    place.proc ≡ (row_at (rows_of bus.living.items) at).number → place.atom ≡ (ready_at (rows_of bus.living.items) at index).atom →
    place ≡ place_of (proc_at (procs_in view bus) at) (offer_of (procs_in view bus) (rows_of bus.living.items) at index)
place-is view bus at index place is e f =
    ap (λ (n : ℕ). let p : Place = record { proc = n; atom = place.atom } in p) (e ∙ is.number)
    ∙ ap (λ (n : ℕ). let p : Place = record { proc = (proc_at (procs_in view bus) at).number; atom = n } in p) (f ∙ is.atom)

-- the one at an index is kept

pub kept-leaves : {W P T : Type 0} (view : View P W T) (old new : LiveBus W P T) (at : ℕ) (taken : T) (offered : Offered) → IsKept old.living.items new.living.items at → new.plans ≡ old.plans → Leaves view old at taken offered → Leaves view new at taken offered
kept-leaves {W = W} view old new at taken offered kept plans leaves =
    let same : leaves.0 ≡ kept.before = same_Some leaves.0 kept.before (sym leaves.1 ∙ kept.here) in (
      kept.after,
      kept.there,
      (
        leaves.2.0,
        ap (slice_get new.plans) (kept.body ∙ ap (λ (l : Living W). l.body) (sym same)) ∙ ap (λ ps. slice_get ps leaves.0.body) plans ∙ leaves.2.1,
        subst (λ w. view.leaves leaves.2.0 w taken offered) (ap (λ (l : Living W). l.walker) same ∙ sym kept.walker) leaves.2.2,
      ),
    )

pub kept-number : {W : Type 0} (old new : List (Living W)) (at : ℕ) → IsKept old new at → (row_at (rows_of new) at).number ≡ (row_at (rows_of old) at).number
kept-number old new at kept =
    ap (λ (r : Row). r.number) (map-there row_of new at kept.after no_row kept.there) ∙ kept.number ∙ ap (λ (r : Row). r.number) (sym (map-there row_of old at kept.before no_row kept.here))

kept-body : {W : Type 0} (old new : List (Living W)) (at : ℕ) → IsKept old new at → (row_at (rows_of new) at).body ≡ (row_at (rows_of old) at).body
kept-body old new at kept =
    ap (λ (r : Row). r.body) (map-there row_of new at kept.after no_row kept.there) ∙ kept.body ∙ ap (λ (r : Row). r.body) (sym (map-there row_of old at kept.before no_row kept.here))

store-by : {W P T : Type 0} (view : View P W T) (plan : Option P) (one other : Living W) → one.walker ≡ other.walker → (proc_by view plan one).store ≡ (proc_by view plan other).store
store-by view None one other e = refl
store-by view (Some plan) one other e = ap (λ w. (view.walking plan w).store) e

pub kept-store : {W P T : Type 0} (view : View P W T) (old new : LiveBus W P T) (at : ℕ) → IsKept old.living.items new.living.items at → new.plans ≡ old.plans → (proc_at (procs_in view new) at).store ≡ (proc_at (procs_in view old) at).store
kept-store view old new at kept plans =
    ap (λ (p : Proc). p.store) (map-there (proc_in view new.plans) new.living.items at kept.after no_proc kept.there)
    ∙ ap (λ ps. (proc_by view (slice_get ps kept.after.body) kept.after).store) plans
    ∙ ap (λ b. (proc_by view (slice_get old.plans b) kept.after).store) kept.body
    ∙ store-by view (slice_get old.plans kept.before.body) kept.after kept.before kept.walker
    ∙ ap (λ (p : Proc). p.store) (sym (map-there (proc_in view old.plans) old.living.items at kept.before no_proc kept.here))

pub kept-within : {W : Type 0} (old new : List (Living W)) (at : ℕ) → IsKept old new at → at < length new
kept-within old new at kept = slice_get_within new at kept.after kept.there

pub kept-same : {W : Type 0} (all : List (Living W)) (at : ℕ) → at < length all → IsKept all all at
kept-same all at within = let it = some-at all at within in record { before = it.0; after = it.0; here = it.1; there = it.1; number = refl; body = refl; walker = refl }

pub kept-then : {W : Type 0} (old middle new : List (Living W)) (at : ℕ) → IsKept old middle at → IsKept middle new at → IsKept old new at
kept-then {W = W} old middle new at one other =
    let same : other.before ≡ one.after = same_Some other.before one.after (sym other.here ∙ one.there) in
    record {
      before = one.before;
      after = other.after;
      here = one.here;
      there = other.there;
      number = other.number ∙ ap (λ (l : Living W). l.number) same ∙ one.number;
      body = other.body ∙ ap (λ (l : Living W). l.body) same ∙ one.body;
      walker = other.walker ∙ ap (λ (l : Living W). l.walker) same ∙ one.walker;
    }

-- a process by itself

-- its action was begun, and its change was made
pub record IsActed {W P T : Type 0} (view : View P W T) (old begun mid : LiveBus W P T) (at index : ℕ) (effect : Effect) : Type 0 where
  pub offer : OfferIs view old at index
  pub same : StandsAs view old begun
  pub begun_kept : IsKept old.living.items begun.living.items at
  pub named : Contains begun.stale.items (row_at (rows_of old.living.items) at).number
  pub change : IsChanged view begun at effect mid
  pub effect_is : effect_of (bus_of view old) (proc_at (procs_in view old) at) (ready_at (rows_of old.living.items) at index).action ≡ Some effect
  pub takes : takes_binds (offer_of (procs_in view old) (rows_of old.living.items) at index).store effect.binds ≡ true

-- a bus on which a process has gone on, and is the last starter
abbrev gone_on : Offered → ℕ → List Bind → ℕ → Bus → Bus
gone_on offered number binds last bus = record bus { procs = advance number offered binds bus.procs; last_starter = last }

module _ {W P T : Type 0} (view : View P W T) (old begun mid : LiveBus W P T) (at index : ℕ) (effect : Effect) (it : IsActed view old begun mid at index effect) where
  abbrev offered : Offered
  offered = offer_of (procs_in view old) (rows_of old.living.items) at index

  kept : IsKept old.living.items mid.living.items at
  kept = kept-then old.living.items begun.living.items mid.living.items at it.begun_kept it.change.kept

  plans : mid.plans ≡ old.plans
  plans = it.change.plans ∙ it.same.plans

  pub acted-within : at < length mid.living.items
  acted-within = kept-within old.living.items mid.living.items at kept

  pub acted-named : Contains mid.stale.items (row_at (rows_of mid.living.items) at).number
  acted-named = subst (Contains mid.stale.items) (sym (kept-number old.living.items mid.living.items at kept)) (it.change.named (row_at (rows_of old.living.items) at).number it.named)

  pub acted-leaves : (taken : T) → Leaves view old at taken offered → Leaves view mid at taken offered
  acted-leaves taken leaves = kept-leaves view old mid at taken offered kept plans leaves

  -- so it can go on with what was taken
  pub acted-advance : (taken : T) (binds : List Bind) → Leaves view old at taken offered → binds ≡ effect.binds → CanAdvance view mid at taken binds
  acted-advance taken binds leaves e = (
    offered,
    acted-leaves taken leaves,
    it.offer.sorts ∙ ap sorts_of (sym (kept-store view old mid at kept plans)),
    ap (takes_binds offered.store) e ∙ it.takes,
  )

  -- and then its move was made
  pub acted-made : (new : LiveBus W P T) (binds : List Bind) (last : ℕ) → HasGone view mid at offered binds last new → binds ≡ effect.binds → last ≡ (row_at (rows_of old.living.items) at).number →
      bus_of view new ≡ apply (bus_of view old) (move_by (bus_of view old) (rows_of old.living.items) at index)
  acted-made new binds last went e f =
      let proc : Proc = proc_at (procs_in view old) at in
      let number : ℕ = (row_at (rows_of mid.living.items) at).number in
      let its : ℕ = (row_at (rows_of begun.living.items) at).number in
      went.bus
      ∙ ap (gone_on offered number binds last) it.change.bus
      ∙ ap (λ (b : Bus). gone_on offered number binds last (changed effect.change its b)) it.same.bus
      ∙ ap (λ n. gone_on offered number binds last (changed effect.change n (bus_of view old))) (kept-number old.living.items begun.living.items at it.begun_kept ∙ it.offer.number)
      ∙ ap (λ n. gone_on offered n binds last (changed effect.change proc.number (bus_of view old))) (kept-number old.living.items mid.living.items at kept ∙ it.offer.number)
      ∙ ap (λ xs. gone_on offered proc.number xs last (changed effect.change proc.number (bus_of view old))) e
      ∙ ap (λ n. gone_on offered proc.number effect.binds n (changed effect.change proc.number (bus_of view old))) (f ∙ it.offer.number)
      ∙ ap (λ found. apply (bus_of view old) (own_move proc offered found)) (sym it.effect_is)

  pub acted-origin : (new : LiveBus W P T) → new.origin ≡ mid.origin → new.origin ≡ old.origin
  acted-origin new e = e ∙ it.change.origin ∙ it.same.origin

  -- what is seen of it
  pub acted-label : (place : Place) (done : Done) → IsDone effect done → place.proc ≡ (row_at (rows_of old.living.items) at).number → place.atom ≡ (ready_at (rows_of old.living.items) at index).atom →
      ◌≡◌ {A = Label} (record { kind = done.kind; from = place; to = nowhere; terms = done.shown }) (label_of (move_by (bus_of view old) (rows_of old.living.items) at index))
  acted-label place done is e f =
      let proc : Proc = proc_at (procs_in view old) at in
      ap (λ (k : LabelKind). let l : Label = record { kind = k; from = place; to = nowhere; terms = done.shown } in l) is.0
      ∙ ap (λ (ts : List Term). let l : Label = record { kind = effect.kind; from = place; to = nowhere; terms = ts } in l) is.1
      ∙ ap (λ (p : Place). let l : Label = record { kind = effect.kind; from = p; to = nowhere; terms = effect.shown } in l) (place-is view old at index place it.offer e f)
      ∙ ap (λ found. label_of (own_move proc offered found)) (sym it.effect_is)

-- what was found of an action

may-from : {A : Type 0} (b : Bool) (x y : A) → (if b then Some x else None) ≡ Some y → b ≡ true
may-from true x y e = refl
may-from false x y e = cc

-- the note is the oldest that matches, and the exchange the one that may happen
pub note-is : (o : Option Found) (found : Finding) → option_map finding.TakeNote o ≡ Some found → o ≡ Some (note_found found)
note-is None found e = cc
note-is (Some note) found e = ap (λ f. Some (note_found f)) (same_Some (finding.TakeNote note) found e)

pub exchange-is : (o : Option Exchange) (found : Finding) → option_map finding.Speak o ≡ Some found → o ≡ Some (exchange_found found)
exchange-is None found e = cc
exchange-is (Some exchange) found e = ap (λ f. Some (exchange_found f)) (same_Some (finding.Speak exchange) found e)

-- and a note goes to those that want it, each with room for it
abbrev indices_found : Finding → List ℕ
indices_found finding.Plain = []
indices_found (finding.Notify indices) = indices
indices_found (finding.TakeNote found) = []
indices_found (finding.Speak exchange) = []

pub notify-is : (room : Bool) (wanted indices : List ℕ) → option_map finding.Notify (if room then Some wanted else None) ≡ Some (finding.Notify indices) → (room ≡ true) × (indices ≡ wanted)
notify-is true wanted indices e = (refl, ap indices_found (sym (same_Some (finding.Notify wanted) (finding.Notify indices) e)))
notify-is false wanted indices e = cc

-- no other finding comes with such an action
notify-only : (o : Option (List ℕ)) (found : Finding) → option_map finding.Notify o ≡ Some found → (indices : List ℕ) × (found ≡ finding.Notify indices)
notify-only None found e = cc
notify-only (Some indices) found e = (indices, sym (same_Some (finding.Notify indices) found e))

note-only : (o : Option Found) (found : Finding) → option_map finding.TakeNote o ≡ Some found → (note : Found) × (found ≡ finding.TakeNote note)
note-only None found e = cc
note-only (Some note) found e = (note, sym (same_Some (finding.TakeNote note) found e))

exchange-only : (o : Option Exchange) (found : Finding) → option_map finding.Speak o ≡ Some found → (exchange : Exchange) × (found ≡ finding.Speak exchange)
exchange-only None found e = cc
exchange-only (Some exchange) found e = (exchange, sym (same_Some (finding.Speak exchange) found e))

-- so by the action of the process at an index
module _ {W P T : Type 0} (bus : LiveBus W P T) (at : ℕ) (action : OwnAction) (found : Finding) (h : finding_in bus at action ≡ Some found) where
  abbrev its_row : Row
  its_row = row_at (rows_of bus.living.items) at

  pub notified : (terms : List Term) (indices : List ℕ) → action ≡ own.Notify terms → found ≡ finding.Notify indices → (all_take terms (rows_of bus.living.items) ≡ true) × (indices ≡ wanting terms 0 (rows_of bus.living.items))
  notified terms indices e f =
      notify-is (all_take terms (rows_of bus.living.items)) (wanting terms 0 (rows_of bus.living.items)) indices (ap (finding_in bus at) (sym e) ∙ h ∙ ap (λ (x : Finding). Some x) f)

  pub notified-only : (terms : List Term) → action ≡ own.Notify terms → (indices : List ℕ) × (found ≡ finding.Notify indices)
  notified-only terms e = notify-only (wanting_if_room terms (rows_of bus.living.items)) found (ap (finding_in bus at) (sym e) ∙ h)

  pub noted : (patterns : List Pattern) (note : Found) → action ≡ own.TakeNote patterns → found ≡ finding.TakeNote note → oldest_match patterns its_row.inbox ≡ Some note
  noted patterns note e f = note-is (oldest_match patterns its_row.inbox) (finding.TakeNote note) (ap (finding_in bus at) (sym e) ∙ h ∙ ap (λ (x : Finding). Some x) f)

  pub noted-only : (patterns : List Pattern) → action ≡ own.TakeNote patterns → (note : Found) × (found ≡ finding.TakeNote note)
  noted-only patterns e = note-only (oldest_match patterns its_row.inbox) found (ap (finding_in bus at) (sym e) ∙ h)

  pub spoken : (does : ToolAction) (exchange : Exchange) → action ≡ own.Speak does → found ≡ finding.Speak exchange → HasLanes bus.bench → CanSpeak bus.origin.program.tools bus.bench does exchange
  spoken does exchange e f lanes = record {
    body = slice_get bus.origin.program.bodies its_row.body;
    found = exchange-is (exchange_for (setting_in (scene_in bus) its_row) does) (finding.Speak exchange) (ap (finding_in bus at) (sym e) ∙ h ∙ ap (λ (x : Finding). Some x) f);
    lanes = lanes;
  }

  pub spoken-only : (does : ToolAction) → action ≡ own.Speak does → (exchange : Exchange) × (found ≡ finding.Speak exchange)
  spoken-only does e = exchange-only (exchange_for (setting_in (scene_in bus) its_row) does) found (ap (finding_in bus at) (sym e) ∙ h)

-- a note that was found in a queue: it stands there, and the store takes what it binds

pub record IsFoundIn (patterns : List Pattern) (held : Held) (found : Found) : Type 0 where
  pub note : List Term
  pub there : slice_get held.notes found.place ≡ Some note
  pub matches : match_list patterns note ≡ Some found.binds

binds-by : (patterns : List Pattern) (held : Held) (found : Found) (note : Option (List Term)) → slice_get held.notes found.place ≡ note → option_and_then (match_list patterns) note ≡ Some found.binds → IsFoundIn patterns held found
binds-by patterns held found None e h = cc
binds-by patterns held found (Some note) e h = record { note = note; there = e; matches = h }

pub found-in : (patterns : List Pattern) (held : Held) (found : Found) → oldest_match patterns held ≡ Some found → IsFoundIn patterns held found
found-in patterns held found e =
    let oldest : IsOldest patterns held.notes found = subst (λ o. MatchOption o (NoneMatches patterns held.notes) (IsOldest patterns held.notes)) e (oldest-first patterns held) in
    binds-by patterns held found (slice_get held.notes found.place) refl oldest.0

-- the note that is taken is the one that was found
pub found-in_row : {W : Type 0} (all : List (Living W)) (at : ℕ) (patterns : List Pattern) (found : Found) → oldest_match patterns (row_at (rows_of all) at).inbox ≡ Some found → found.place < length (row_at (rows_of all) at).inbox.notes
found-in_row all at patterns found e =
    let it = found-in patterns (row_at (rows_of all) at).inbox found e in
    slice_get_within (row_at (rows_of all) at).inbox.notes found.place it.note it.there

pub note-there : (held : Held) (place : ℕ) (note : List Term) → slice_get held.notes place ≡ Some note → note ≡ note_at held place
note-there held place note e = sym (get_or_from_slice_get held.notes place note [] e)

-- what its store takes

slot-fits : (found : Option Body) (body : Body) (slot : ℕ) (value : Term) → found ≡ Some body → fits_slot found slot value ≡ true → has_slot_sort (slice_get body.sorts slot) value ≡ true
slot-fits None body slot value e h = cc
slot-fits (Some found) body slot value e h = let same : found ≡ body = same_Some found body e in ap (λ (b : Body). has_slot_sort (slice_get b.sorts slot) value) (sym same) ∙ h

-- the actuals of a creation fit, and its slot takes the number
pub create-fits : (bodies : List Body) (alive number creator process : ℕ) (actuals : List Term) (slot : ℕ) (found : Finding) → plain_if (may_create bodies alive number creator process actuals slot) ≡ Some found →
    (fits_formals (slice_get bodies process) actuals ≡ true) × (fits_slot (slice_get bodies creator) slot (number_term number) ≡ true)
create-fits bodies alive number creator process actuals slot found h =
    let may = may-from (may_create bodies alive number creator process actuals slot) finding.Plain found h in
    let formals = fits_formals (slice_get bodies process) actuals in
    let parts = and_parts (nat_lt alive 10000 && formals) (fits_slot (slice_get bodies creator) slot (number_term number)) may in
    ((and_parts (nat_lt alive 10000) formals parts.0).1, parts.1)

effect-takes : (scene : Scene) (row : Row) (store : List Slot) (body : Body) (own : OwnAction) (found : Finding) → slice_get scene.bodies row.body ≡ Some body → sorts_of store ≡ body.sorts → OwnFits store own →
    finding_of scene row own ≡ Some found → takes_binds store (effect_by scene.next_number row.inbox (setting_in scene row) own found).binds ≡ true
effect-takes scene row store body own.Tau found there sorts fits h = refl
effect-takes scene row store body (own.Set values binds) found there sorts fits h = fits
effect-takes scene row store body (own.Print text) found there sorts fits h = refl
effect-takes scene row store body (own.Notify terms) found there sorts fits h = refl
effect-takes scene row store body (own.TakeNote patterns) found there sorts fits h =
    let it = found-in patterns row.inbox (note_found found) (note-is (oldest_match patterns row.inbox) found h) in
    fits it.note (note_found found).binds it.matches
effect-takes scene row store body (own.NoNote patterns) found there sorts fits h = refl
effect-takes scene row store body (own.Subscribe patterns) found there sorts fits h = refl
effect-takes scene row store body (own.Unsubscribe patterns) found there sorts fits h = refl
effect-takes scene row store body (own.Create process actuals slot) found there sorts fits h =
    let value : Term = number_term scene.next_number in
    let takes : has_slot_sort (slice_get body.sorts slot) value ≡ true =
    slot-fits (slice_get scene.bodies row.body) body slot value there (create-fits scene.bodies (length scene.rows) scene.next_number row.body process actuals slot found h).1 in
    let same : sort_at store slot ≡ slice_get body.sorts slot = sort_at-sorts_of store slot ∙ ap (λ (all : List Sort). slice_get all slot) sorts in
    and_from (takes_bind store (record { slot = slot; value = value })) true (ap (λ found. has_slot_sort found value) same ∙ takes) refl
effect-takes scene row store body (own.Speak does) found there sorts fits h =
    exchange-takes (setting_in scene row) body store does (exchange_found found) there sorts fits (exchange-is (exchange_for (setting_in scene row) does) found h)
effect-takes scene row store body (own.Shutdown reason) found there sorts fits h = refl

own-plain : (store : List Slot) (own : OwnAction) → OwnFits store own → IsPlainIn own
own-plain store own.Tau fits = tt
own-plain store (own.Set values binds) fits = tt
own-plain store (own.Print text) fits = tt
own-plain store (own.Notify terms) fits = tt
own-plain store (own.TakeNote patterns) fits = tt
own-plain store (own.NoNote patterns) fits = tt
own-plain store (own.Subscribe patterns) fits = fits
own-plain store (own.Unsubscribe patterns) fits = tt
own-plain store (own.Create process actuals slot) fits = tt
own-plain store (own.Speak does) fits = tt
own-plain store (own.Shutdown reason) fits = tt

-- after an action was begun, it has the same finding and the same effect
module _ {W P T : Type 0} (view : View P W T) (old begun : LiveBus W P T) (at : ℕ) (same : StandsAs view old begun) (kept : IsKept old.living.items begun.living.items at) where
  abbrev old_row : Row
  old_row = row_at (rows_of old.living.items) at

  abbrev new_row : Row
  new_row = row_at (rows_of begun.living.items) at

  inbox-since : new_row.inbox ≡ old_row.inbox
  inbox-since = row-held begun.living.items at ∙ held-same view old begun at same ∙ sym (row-held old.living.items at)

  body-since : new_row.body ≡ old_row.body
  body-since = kept-body old.living.items begun.living.items at kept

  setting-since : setting_in (scene_in begun) new_row ≡ setting_in (scene_in old) old_row
  setting-since =
      ap (λ (o : Origin). setting_by o.program.bodies o.program.tools begun.bench new_row.body) same.origin
      ∙ ap (λ (b : Bus). setting_by old.origin.program.bodies old.origin.program.tools b.bench new_row.body) same.bus
      ∙ ap (setting_by old.origin.program.bodies old.origin.program.tools old.bench) body-since

  effect-since : (own : OwnAction) (found : Finding) → effect_in begun at own found ≡ effect_in old at own found
  effect-since own found =
      ap (λ (m : Marks). effect_by m.next_number new_row.inbox (setting_in (scene_in begun) new_row) own found) same.marks
      ∙ ap (λ held. effect_by old.marks.next_number held (setting_in (scene_in begun) new_row) own found) inbox-since
      ∙ ap (λ setting. effect_by old.marks.next_number old_row.inbox setting own found) setting-since

  rows-since : length (rows_of begun.living.items) ≡ length (rows_of old.living.items)
  rows-since =
      length-map begun.living.items row_of ∙ sym (length-map begun.living.items (λ (l : Living W). l.inbox.held))
      ∙ ap (λ (hs : List Held). length hs) (helds-same view old begun same)
      ∙ length-map old.living.items (λ (l : Living W). l.inbox.held) ∙ sym (length-map old.living.items row_of)

  may-since : (process : ℕ) (actuals : List Term) (slot : ℕ) →
      may_create begun.origin.program.bodies (length (rows_of begun.living.items)) begun.marks.next_number new_row.body process actuals slot
      ≡ may_create old.origin.program.bodies (length (rows_of old.living.items)) old.marks.next_number old_row.body process actuals slot
  may-since process actuals slot =
      ap (λ (o : Origin). may_create o.program.bodies (length (rows_of begun.living.items)) begun.marks.next_number new_row.body process actuals slot) same.origin
      ∙ ap (λ n. may_create old.origin.program.bodies n begun.marks.next_number new_row.body process actuals slot) rows-since
      ∙ ap (λ (m : Marks). may_create old.origin.program.bodies (length (rows_of old.living.items)) m.next_number new_row.body process actuals slot) same.marks
      ∙ ap (λ b. may_create old.origin.program.bodies (length (rows_of old.living.items)) old.marks.next_number b process actuals slot) body-since

  finding-since : (own : OwnAction) → finding_in begun at own ≡ finding_in old at own
  finding-since own.Tau = refl
  finding-since (own.Set values binds) = refl
  finding-since (own.Print text) = refl
  finding-since (own.Notify terms) =
      let helds = helds-same view old begun same in
      ap (λ b. option_map finding.Notify (if b then Some (wanting terms 0 (rows_of begun.living.items)) else None)) (all_take-same terms begun.living.items old.living.items helds)
      ∙ ap (λ is. option_map finding.Notify (if all_take terms (rows_of old.living.items) then Some is else None)) (wanting-same terms begun.living.items old.living.items helds)
  finding-since (own.TakeNote patterns) = ap (λ held. option_map finding.TakeNote (oldest_match patterns held)) inbox-since
  finding-since (own.NoNote patterns) = ap (λ held. plain_if (not (is_some (oldest_match patterns held)))) inbox-since
  finding-since (own.Subscribe patterns) = refl
  finding-since (own.Unsubscribe patterns) = refl
  finding-since (own.Create process actuals slot) = ap plain_if (may-since process actuals slot)
  finding-since (own.Speak does) = ap (λ setting. option_map finding.Speak (exchange_for setting does)) setting-since
  finding-since (own.Shutdown reason) = refl

-- what a process does by itself, once it was begun
pub record IsOwnAt {W P T : Type 0} (view : View P W T) (old begun : LiveBus W P T) (at index : ℕ) (own : OwnAction) (found : Finding) : Type 0 where
  pub offer : OfferIs view old at index
  pub plain : IsPlainIn own
  pub finds : finding_in begun at own ≡ Some found
  pub effect_is : effect_of (bus_of view old) (proc_at (procs_in view old) at) (ready_at (rows_of old.living.items) at index).action ≡ Some (effect_in begun at own found)
  pub takes : takes_binds (offer_of (procs_in view old) (rows_of old.living.items) at index).store (effect_in begun at own found).binds ≡ true

pub own-at : {W P T : Type 0} (view : View P W T) (old begun : LiveBus W P T) (at index : ℕ) (taken : T) (own : OwnAction) (found : Finding) → IsSound view old → AreFresh old.living.items → IsCandidateIn (scene_in old) (candidate.Own at index found) →
    Leaves view old at taken (offer_of (procs_in view old) (rows_of old.living.items) at index) → own ≡ own_in (ready_at (rows_of old.living.items) at index).action → StandsAs view old begun → IsKept old.living.items begun.living.items at →
    IsOwnAt view old begun at index own found
own-at view old begun at index taken own found sound fresh h leaves e same kept =
    let bus = bus_of view old in
    let rows = rows_of old.living.items in
    let offer = offer_of (procs_in view old) rows at index in
    let is = offer-is view old at index taken offer sound fresh h.0.1 leaves in
    let own_is : own ≡ h.1.0 = e ∙ ap own_in h.1.1 in
    let does : (ready_at rows at index).action ≡ action.Own own = h.1.1 ∙ ap action.Own (sym own_is) in
    let finds : finding_in old at own ≡ Some found = ap (finding_in old at) own_is ∙ h.1.2 in
    let searched = searched-for view old sound fresh in
    let row = found-row bus (scene_in old) old.marks searched at h.0.0 in
    let fits : OwnFits offer.store own = subst (ActionFits offer.store) does is.fits in
    let since : effect_in begun at own found ≡ effect_in old at own found = effect-since view old begun at same kept own found in
    record {
      offer = is;
      plain = own-plain offer.store own fits;
      finds = finding-since view old begun at same kept own ∙ finds;
      effect_is = own-effect-is bus (scene_in old) old.marks searched at index found h own does ∙ ap (λ (x : Effect). Some x) (sym since);
      takes = ap (λ (x : Effect). takes_binds offer.store x.binds) since
          ∙ effect-takes (scene_in old) (row_at rows at) offer.store is.body own found (ap (slice_get old.origin.program.bodies) row.body ∙ is.body_is) is.body_sorts fits finds;
    }

pub acted-own : {W P T : Type 0} (view : View P W T) (old begun mid : LiveBus W P T) (at index : ℕ) (own : OwnAction) (found : Finding) → IsOwnAt view old begun at index own found → StandsAs view old begun → IsKept old.living.items begun.living.items at →
    Contains begun.stale.items (row_at (rows_of old.living.items) at).number → IsChanged view begun at (effect_in begun at own found) mid → IsActed view old begun mid at index (effect_in begun at own found)
acted-own view old begun mid at index own found it same kept named change = record {
  offer = it.offer;
  same = same;
  begun_kept = kept;
  named = named;
  change = change;
  effect_is = it.effect_is;
  takes = it.takes;
}

-- what is seen by its kind alone changes nothing
pub acted-tau : {W P T : Type 0} (view : View P W T) (old begun : LiveBus W P T) (at index : ℕ) (taken : T) → IsSound view old → AreFresh old.living.items → IsCandidateIn (scene_in old) (candidate.Own at index finding.Plain) →
    Leaves view old at taken (offer_of (procs_in view old) (rows_of old.living.items) at index) → (ready_at (rows_of old.living.items) at index).action ≡ action.Own own.Tau → StandsAs view old begun → IsKept old.living.items begun.living.items at →
    Contains begun.stale.items (row_at (rows_of old.living.items) at).number → IsActed view old begun begun at index (effect_in begun at own.Tau finding.Plain)
acted-tau view old begun at index taken sound fresh found leaves e same kept named =
    acted-own view old begun begun at index own.Tau finding.Plain (own-at view old begun at index taken own.Tau finding.Plain sound fresh found leaves (ap own_in (sym e)) same kept) same kept named
    (nothing-changed view begun at kept.after (effect_in begun at own.Tau finding.Plain) same.sound kept.there refl)

-- the terms that are seen

pub shown-own : {W P T : Type 0} (view : View P W T) (bus : LiveBus W P T) (at index : ℕ) (own : OwnAction) (found : Finding) → IsSound view bus → AreFresh bus.living.items → IsCandidateIn (scene_in bus) (candidate.Own at index found) →
    (ready_at (rows_of bus.living.items) at index).action ≡ action.Own own → (effect_in bus at own found).shown ≡ (label_of (move_in view bus (candidate.Own at index found))).terms
shown-own view bus at index own found sound fresh h e =
    let rows = rows_of bus.living.items in
    ap (λ o. (label_of (own_move (proc_at (procs_in view bus) at) (offer_of (procs_in view bus) rows at index) o)).terms)
    (sym (own-effect-is (bus_of view bus) (scene_in bus) bus.marks (searched-for view bus sound fresh) at index found h own e))

-- the numbers of both parties are named
pub named-first : (old middle last stale : Vec ℕ) (one other before number : ℕ) → stale ≡ last → last.items ≡ middle.items ++ other ∷ [] → middle.items ≡ old.items ++ one ∷ [] → number ≡ before → one ≡ before → Contains stale.items number
named-first old middle last stale one other before number same e f g h =
    subst (λ ns. Contains ns number) (sym (ap (λ (v : Vec ℕ). v.items) same ∙ e))
    (Contains-append_left middle.items (other ∷ []) number (subst (λ ns. Contains ns number) (sym f) (subst (Contains (old.items ++ one ∷ [])) (h ∙ sym g) (Contains-push old.items one))))

pub named-second : (middle last stale : Vec ℕ) (other before number : ℕ) → stale ≡ last → last.items ≡ middle.items ++ other ∷ [] → number ≡ before → other ≡ before → Contains stale.items number
named-second middle last stale other before number same e g h =
    subst (λ ns. Contains ns number) (sym (ap (λ (v : Vec ℕ). v.items) same ∙ e)) (subst (Contains (middle.items ++ other ∷ [])) (h ∙ sym g) (Contains-push middle.items other))

-- two that differ in number stand at two indices
pub index-apart : (rows : List Row) (one other : ℕ) → (row_at rows one).number ≢ (row_at rows other).number → other ≢ one
index-apart rows one other apart e = apart (ap (λ n. (row_at rows n).number) (sym e))

-- the bus after a handshake
pub handshake-made : {W P T : Type 0} (view : View P W T) (old taken new : LiveBus W P T) (at index other action : ℕ) (binds : List Bind) (last : ℕ) → OfferIs view old at index → OfferIs view old other action → bus_of view taken ≡ bus_of view old →
    (row_at (rows_of taken.living.items) at).number ≡ (row_at (rows_of old.living.items) at).number → (row_at (rows_of taken.living.items) other).number ≡ (row_at (rows_of old.living.items) other).number →
    AreAdvanced view taken at (offer_of (procs_in view old) (rows_of old.living.items) at index) other (offer_of (procs_in view old) (rows_of old.living.items) other action) binds new → last ≡ (row_at (rows_of old.living.items) at).number →
    ◌≡◌ {A = Bus} (record (bus_of view new) { last_starter = last })
    (apply (bus_of view old) (move_in view old (Handshake at index (record { living = other; received = record { action = action; binds = binds } }))))
handshake-made view old taken new at index other action binds last is its same number number_its went g =
    let procs = procs_in view old in
    let offer = offer_of procs (rows_of old.living.items) at index in
    let received = offer_of procs (rows_of old.living.items) other action in
    let sender = (proc_at procs at).number in
    let receiver = (proc_at procs other).number in
    ap (λ (b : Bus). let after : Bus = record b { last_starter = last } in after) went.bus
    ∙ ap (λ (b : Bus). let after : Bus = record b {
      procs = advance (row_at (rows_of taken.living.items) other).number received binds (advance (row_at (rows_of taken.living.items) at).number offer [] b.procs);
      last_starter = last;
    } in after) same
    ∙ ap (λ (n : ℕ). let after : Bus = record (bus_of view old) { procs = advance n received binds (advance (row_at (rows_of taken.living.items) at).number offer [] procs); last_starter = last } in after) (number_its ∙ its.number)
    ∙ ap (λ (n : ℕ). let after : Bus = record (bus_of view old) { procs = advance receiver received binds (advance n offer [] procs); last_starter = last } in after) (number ∙ is.number)
    ∙ ap (λ (n : ℕ). let after : Bus = record (bus_of view old) { procs = advance receiver received binds (advance sender offer [] procs); last_starter = n } in after) (g ∙ is.number)

-- what is seen of it
pub handshake-label : (from to : Place) (sender : Proc) (sent : Offered) (receiver : Proc) (received : Offered) (shown terms : List Term) (binds : List Bind) → from ≡ place_of sender sent → to ≡ place_of receiver received → shown ≡ terms →
    ◌≡◌ {A = Label} (record { kind = kind.Msg; from = from; to = to; terms = shown }) (label_of (move.Handshake sender sent receiver received terms binds))
handshake-label from to sender sent receiver received shown terms binds e f g =
    ap (λ (p : Place). let l : Label = record { kind = kind.Msg; from = p; to = to; terms = shown } in l) e
    ∙ ap (λ (p : Place). let l : Label = record { kind = kind.Msg; from = place_of sender sent; to = p; terms = shown } in l) f
    ∙ ap (λ (ts : List Term). let l : Label = record { kind = kind.Msg; from = place_of sender sent; to = place_of receiver received; terms = ts } in l) g
