-- A region that waits for good does so after each step and each input.
use Rattle.std.proofs.Common.{◌≡◌, ℕ, ◌+◌, ◌≤◌, ◌==◌, ◌⊎◌, inl, inr, List, [], ◌∷◌, ◌++◌, length, map, Bool, true, false, Option, Some, None, IfSome, option_map, is_some, Contains, slice_get, if◌then◌else◌, refl, sym, subst, ◌∙◌, arith}
use Rattle.std.specs.Prelude.{⊤}
use Rattle.std.specs.List.{All, list_all}
use Rattle.std.proofs.lemmas.Bool.{eqb-true}
use Rattle.std.proofs.lemmas.List.Elements.{All-nil, All-append, All-weaker, All-map, All-contains, All-contains_itself}
use Rattle.tb_terms.specs.declared.term.Term.{Term}
use Rattle.tb_terms.specs.declared.pattern.Pattern.{Pattern}
use Rattle.tb_func.specs.declared.slot.Slot.{Slot}
use Rattle.tb_match.specs.declared.bind.Bind.{Bind}
use Rattle.tb_match.specs.Matches.{match_list}
use Rattle.tb_body.specs.declared.body.Body.{Body}
use Rattle.tb_body.specs.declared.program.Program.{Program}
use Rattle.tb_process_steps.specs.Binds.{with_binds}
use Rattle.tb_process_steps.specs.Offers.{Offered, offers}
use Rattle.tb_process_steps.specs.Processes.{Process, fresh}
use Rattle.tb_notes.specs.Inboxes.{Held, nothing, found_or, first_match, oldest_match, wants, with_note, without_note, subscribed, unsubscribed}
use Rattle.tb_notes.specs.declared.queue.Found.{Found}
use Rattle.tb_tools.specs.Lanes.{BenchState}
use Rattle.tb_log.specs.declared.entry.LabelKind.TheVariants as kind
use Rattle.tb_bus.specs.Actions.{action_of}
use Rattle.tb_bus.specs.Buses as buses
use Rattle.tb_bus.specs.Buses.{Bus, Proc, proc_left, opened_one, opening_store, created}
use Rattle.tb_bus.specs.Effects.{Change, Nothing, PutsNote, TakesNote, Subscribes, Unsubscribes, Creates, SetsBench, GoesDown, Effect, effect_of, own_effect, taking, takes_note, creation, may_create, setting_of, speaking, given, with_inbox, changed}
use Rattle.tb_bus.specs.Exchanges.{exchange_for, bench_after}
use Rattle.tb_bus.specs.Steps.{advance}
use Rattle.tb_bus.specs.declared.action.Action.{Action}
use Rattle.tb_bus.specs.declared.action.Action.TheVariants as action
use Rattle.tb_bus.specs.declared.action.OwnAction.{OwnAction}
use Rattle.tb_bus.specs.declared.action.OwnAction.TheVariants as own
use Rattle.tb_bus.specs.declared.action.ToolAction.{ToolAction}
use Rattle.tb_bus.specs.declared.exchange.Exchange.{Exchange}
use Rattle.tb_bus.proofs.OrderLemmas.{All-flat_map, All-one, All-both, one-number, InOrder}
use Rattle.tb_bus.proofs.ReachedLemmas.{IsOffered}
use Rattle.tb_stuck.specs.Stuck.{Region, CanCome, MayBeDone, CantSpeak, CantDo, NoneReceives, CantHappen, IsClosed}
use Rattle.tb_stuck.proofs.Held.{IsShut, IsHeld}
use Rattle.tb_transfer_laws.proofs.AtomLemmas.{HasOnly, offer-only, only-from, only-each}
use Rattle.tb_stuck.proofs.Names.{names-shut}
use Rattle.tb_stuck.proofs.Tools.{speak-next}
use Rattle.tb_stuck.proofs.Talks.{exchange-goes, exchange-names}

-- how a queue goes on

module _ (patterns : List Pattern) where
  found-none : (place : ℕ) (binds : Option (List Bind)) (later : Option Found) → found_or place binds later ≡ None → (binds ≡ None) × (later ≡ None)
  found-none place None later e = (refl, e)
  found-none place (Some binds) later e = absurd (let t : ◌≡◌ {A = Option Found} (Some (record { place = place; binds = binds })) None = e in cc)

  found-later : (place : ℕ) (binds : Option (List Bind)) (later : Option Found) → binds ≡ None → later ≡ None → found_or place binds later ≡ None
  found-later place None later e f = f
  found-later place (Some binds) later e f = absurd cc

  first-none : (place : ℕ) (notes : List (List Term)) (note : List Term) → first_match place patterns notes ≡ None → match_list patterns note ≡ None → first_match place patterns (notes ++ note ∷ []) ≡ None
  first-none place [] note e f = found-later place (match_list patterns note) None f refl
  first-none place (other ∷ notes) note e f =
      let both = found-none place (match_list patterns other) (first_match (place + 1) patterns notes) e in
      found-later place (match_list patterns other) (first_match (place + 1) patterns (notes ++ note ∷ [])) both.0 (first-none (place + 1) notes note both.1 f)

  found-more : (place : ℕ) (binds : Option (List Bind)) (one other : Option Found) → (is_some one ≡ true → is_some other ≡ true) → is_some (found_or place binds one) ≡ true → is_some (found_or place binds other) ≡ true
  found-more place None one other f e = f e
  found-more place (Some binds) one other f e = refl

  first-more : (place : ℕ) (notes : List (List Term)) (note : List Term) → is_some (first_match place patterns notes) ≡ true → is_some (first_match place patterns (notes ++ note ∷ [])) ≡ true
  first-more place [] note e = absurd cc
  first-more place (other ∷ notes) note e =
      found-more place (match_list patterns other) (first_match (place + 1) patterns notes) (first_match (place + 1) patterns (notes ++ note ∷ [])) (first-more (place + 1) notes note) e

module _ (region : Region) (bus : Bus) where
  -- the inbox of a process of the region is unchanged, or gets a note that a process outside sends
  abbrev pub IsFed : Held → Held → Type 0
  IsFed old new = (new ≡ old) ⊎ ((terms : List Term) × MayBeDone bus.program.bodies region (action.Own (own.Notify terms)) × (wants old terms ≡ true) × (new ≡ with_note terms old))

  -- on the next bus, the process stands where it stood
  pub record Stands (next : Bus) (proc : Proc) : Type 0 where
    pub old : Proc
    pub there : Contains bus.procs old
    pub number : old.number ≡ proc.number
    pub body : old.body ≡ proc.body
    pub comes : (does : Action) → CanCome next proc does → CanCome bus old does
    pub inbox : IsFed old.inbox proc.inbox

  abbrev pub Left : ℕ → ℕ → Type 0
  Left body atom = region.left body atom ≡ true

  -- a process of the next bus: of the region, or one whose atoms are left
  pub record IsNext (next : Bus) (proc : Proc) : Type 0 where
    pub stands : region.waits proc.number ≡ true → Stands next proc
    pub left : region.waits proc.number ≡ false → HasOnly (Left proc.body) proc.term

  -- what the region needs of the lanes of the next bus
  abbrev pub KeepsSilence : Bus → Type 0
  KeepsSilence next = ((does : ToolAction) → CantSpeak bus region does → CantSpeak next region does) × (IsShut bus.bench → IsShut next.bench)

  pub record GoesOn (next : Bus) : Type 0 where
    pub program : next.program ≡ bus.program
    pub number : bus.next_number ≤ next.next_number
    pub procs : All (IsNext next) next.procs
    pub silence : KeepsSilence next

  done-back : (next : Bus) (does : Action) → next.program ≡ bus.program → MayBeDone next.program.bodies region does → MayBeDone bus.program.bodies region does
  done-back next does e = subst (λ (program : Program). MayBeDone program.bodies region does) e

  cant-note : (next : Bus) (old proc : Proc) (patterns : List Pattern) → next.program ≡ bus.program → IsFed old.inbox proc.inbox → CantDo bus region old (own.TakeNote patterns) → CantDo next region proc (own.TakeNote patterns)
  cant-note next old proc patterns e (inl same) k = (
    subst (λ (held : Held). oldest_match patterns held ≡ None) (sym same) k.0,
    λ terms may w. k.1 terms (done-back next (action.Own (own.Notify terms)) e may) (subst (λ (held : Held). wants held terms ≡ true) same w),
  )
  cant-note next old proc patterns e (inr more) k = (
    subst (λ (held : Held). oldest_match patterns held ≡ None) (sym more.3) (first-none patterns 0 old.inbox.notes more.0 k.0 (k.1 more.0 more.1 more.2)),
    λ terms may w. k.1 terms (done-back next (action.Own (own.Notify terms)) e may) (subst (λ (held : Held). wants held terms ≡ true) more.3 w),
  )

  cant-no_note : (old proc : Proc) (patterns : List Pattern) → IsFed old.inbox proc.inbox → is_some (oldest_match patterns old.inbox) ≡ true → is_some (oldest_match patterns proc.inbox) ≡ true
  cant-no_note old proc patterns (inl same) k = subst (λ (held : Held). is_some (oldest_match patterns held) ≡ true) (sym same) k
  cant-no_note old proc patterns (inr more) k = subst (λ (held : Held). is_some (oldest_match patterns held) ≡ true) (sym more.3) (first-more patterns 0 old.inbox.notes more.0 k)

  cant-own-next : (next : Bus) (proc : Proc) (does : OwnAction) → GoesOn next → (at : Stands next proc) → CantDo bus region at.old does → CantDo next region proc does
  cant-own-next next proc own.Tau goes at k = k
  cant-own-next next proc (own.Set values binds) goes at k = k
  cant-own-next next proc (own.Print text) goes at k = k
  cant-own-next next proc (own.Notify terms) goes at k = k
  cant-own-next next proc (own.TakeNote patterns) goes at k = cant-note next at.old proc patterns goes.program at.inbox k
  cant-own-next next proc (own.NoNote patterns) goes at k = cant-no_note at.old proc patterns at.inbox k
  cant-own-next next proc (own.Subscribe patterns) goes at k = k
  cant-own-next next proc (own.Unsubscribe patterns) goes at k = k
  cant-own-next next proc (own.Create process actuals slot) goes at k =
      subst (λ (body : ℕ). CantDo next region (record proc { body = body }) (own.Create process actuals slot)) at.body
      (subst (λ (program : Program). CantDo (record bus { program = program }) region at.old (own.Create process actuals slot)) (sym goes.program) k)
  cant-own-next next proc (own.Speak does) goes at k = goes.silence.0 does k
  cant-own-next next proc (own.Shutdown reason) goes at k = k

  cant-next : (next : Bus) (proc : Proc) (does : Action) → GoesOn next → (at : Stands next proc) → CantHappen bus region at.old does → CantHappen next region proc does
  cant-next next proc (action.Own does) goes at k = cant-own-next next proc does goes at k
  cant-next next proc (action.Send terms) goes at k = (none, λ patterns may. k.1 patterns (done-back next (action.Receive patterns) goes.program may))
    where
      none : NoneReceives next region proc terms
      none other patterns c w d come =
          let there = (All-contains (IsNext next) next.procs other goes.procs c).stands w in
          k.0 there.old patterns there.there (subst (λ (n : ℕ). region.waits n ≡ true) (sym there.number) w)
          (λ same. d (sym there.number ∙ same ∙ at.number)) (there.comes (action.Receive patterns) come)
  cant-next next proc (action.Receive patterns) goes at k = λ terms may. k terms (done-back next (action.Send terms) goes.program may)

  -- So the region waits for good on the next bus.
  pub goes-wait : (next : Bus) → IsHeld bus region → GoesOn next → IsHeld next region
  goes-wait next h goes = record {
    begun = λ number w. let b = h.begun number w in let l = goes.number in let less = b.1 in (b.0, omega (arith, l, less));
    stuck = λ proc does c w come.
        let at = (All-contains (IsNext next) next.procs proc goes.procs c).stands w in
        cant-next next proc does goes at (h.stuck at.old does at.there (subst (λ (n : ℕ). region.waits n ≡ true) (sym at.number) w) (at.comes does come));
    others = λ proc atom c w d. only-each (Left proc.body) proc.term ((All-contains (IsNext next) next.procs proc goes.procs c).left w) atom d;
    created = subst (λ (program : Program). IsClosed program.bodies region) (sym goes.program) h.created;
    shut = goes.silence.1 h.shut;
  }

  -- a change that is no exchange with a tool leaves all tools
  pub silence-same : (next : Bus) → next.program ≡ bus.program → next.bench ≡ bus.bench → KeepsSilence next
  silence-same next e f = (
    λ does k. subst (λ (bench : BenchState). CantSpeak (record next { bench = bench }) region does) (sym f)
        (subst (λ (program : Program). CantSpeak (record bus { program = program }) region does) (sym e) k),
    λ shut. subst IsShut (sym f) shut,
  )

  come-as : (proc other : Proc) (does : Action) → proc.body ≡ other.body → proc.term ≡ other.term → proc.store ≡ other.store → CanCome bus proc does → CanCome bus other does
  come-as proc other does e f g come = record {
    offered = come.offered;
    ticks = come.ticks;
    there = subst (λ (term : Process). Contains (offers term other.store) come.offered) f (subst (λ (store : List Slot). Contains (offers proc.term store) come.offered) g come.there);
    does = subst (λ (body : ℕ). action_of (buses.atoms_of bus.program.bodies body) (bus.now + come.ticks) (record come.offered { age = come.offered.age + come.ticks }) ≡ Some does) e come.does;
  }

  come-back : (next : Bus) (proc : Proc) (does : Action) → next.program ≡ bus.program → next.now ≡ bus.now → CanCome next proc does → CanCome bus proc does
  come-back next proc does e f come = record {
    offered = come.offered;
    ticks = come.ticks;
    there = come.there;
    does = subst (λ (now : ℕ). action_of (buses.atoms_of bus.program.bodies proc.body) (now + come.ticks) (record come.offered { age = come.offered.age + come.ticks }) ≡ Some does) f
        (subst (λ (program : Program). action_of (buses.atoms_of program.bodies proc.body) (next.now + come.ticks) (record come.offered { age = come.offered.age + come.ticks }) ≡ Some does) e come.does);
  }

  -- the processes where they stand

  itself : (h : IsHeld bus region) (proc : Proc) → Contains bus.procs proc → IsNext bus proc
  itself h proc c = record {
    stands = λ w. record { old = proc; there = c; number = refl; body = refl; comes = λ does come. come; inbox = inl refl };
    left = λ w. only-from (Left proc.body) proc.term (λ atom d. h.others proc atom c w d);
  }

  pub all-itself : (h : IsHeld bus region) → All (IsNext bus) bus.procs
  all-itself h = All-weaker (Contains bus.procs) (IsNext bus) (itself h) bus.procs (All-contains_itself bus.procs)

  -- changes

  abbrev pub ChangeOf : Change → Type 0
  ChangeOf Nothing = ⊤
  ChangeOf (PutsNote terms) = MayBeDone bus.program.bodies region (action.Own (own.Notify terms))
  ChangeOf (TakesNote place) = ⊤
  ChangeOf (Subscribes patterns) = ⊤
  ChangeOf (Unsubscribes patterns) = ⊤
  ChangeOf (Creates process actuals) = (slot : ℕ) × MayBeDone bus.program.bodies region (action.Own (own.Create process actuals slot))
  ChangeOf (SetsBench bench) = KeepsSilence (record bus { bench = bench })
  ChangeOf (GoesDown reason) = ⊤

  if-change : (b : Bool) (effect : Effect) → ChangeOf effect.change → IfSome (if b then Some effect else None) (λ (e : Effect). ChangeOf e.change)
  if-change true effect h = h
  if-change false effect h = tt

  unless-change : (b : Bool) (effect : Effect) → ChangeOf effect.change → IfSome (if b then None else Some effect) (λ (e : Effect). ChangeOf e.change)
  unless-change true effect h = tt
  unless-change false effect h = h

  map-change : {X : Type 0} (f : X → Effect) (o : Option X) → ((x : X) → o ≡ Some x → ChangeOf (f x).change) → IfSome (option_map f o) (λ (e : Effect). ChangeOf e.change)
  map-change f None h = tt
  map-change f (Some x) h = h x refl

  spoken : (h : IsHeld bus region) (proc : Proc) (does : ToolAction) (exchange : Exchange) → MayBeDone bus.program.bodies region (action.Own (own.Speak does)) → exchange_for (setting_of bus proc) does ≡ Some exchange →
      KeepsSilence (record bus { bench = bench_after (setting_of bus proc) does exchange })
  spoken h proc does exchange may e =
      let next = bench_after (setting_of bus proc) does exchange in
      let names = exchange-names region bus h.shut proc does exchange may e in
      (speak-next region bus next (exchange-goes region bus proc does exchange may e) names, λ shut. names-shut region bus next names)

  own-change : (h : IsHeld bus region) (proc : Proc) (does : OwnAction) → MayBeDone bus.program.bodies region (action.Own does) → IfSome (own_effect bus proc does) (λ (e : Effect). ChangeOf e.change)
  own-change h proc own.Tau may = tt
  own-change h proc (own.Set values binds) may = tt
  own-change h proc (own.Print text) may = tt
  own-change h proc (own.Notify terms) may = if-change (list_all (λ (other : Proc). takes_note terms other.inbox) bus.procs) (record { kind = kind.SndNote; shown = terms; binds = []; change = PutsNote terms }) may
  own-change h proc (own.TakeNote patterns) may = map-change (taking proc.inbox) (oldest_match patterns proc.inbox) (λ found e. tt)
  own-change h proc (own.NoNote patterns) may = unless-change (is_some (oldest_match patterns proc.inbox)) (record { kind = kind.NoNote; shown = []; binds = []; change = Nothing }) tt
  own-change h proc (own.Subscribe patterns) may = tt
  own-change h proc (own.Unsubscribe patterns) may = tt
  own-change h proc (own.Create process actuals slot) may =
      if-change (may_create bus.program.bodies (length bus.procs) bus.next_number proc.body process actuals slot) (creation bus.next_number process actuals slot) (slot, may)
  own-change h proc (own.Speak does) may = map-change (speaking (setting_of bus proc) does) (exchange_for (setting_of bus proc) does) (λ exchange e. spoken h proc does exchange may e)
  own-change h proc (own.Shutdown reason) may = tt

  pub change-of : (h : IsHeld bus region) (proc : Proc) (does : Action) (effect : Effect) → MayBeDone bus.program.bodies region does → effect_of bus proc does ≡ Some effect → ChangeOf effect.change
  change-of h proc (action.Own does) effect may e = subst (λ (o : Option Effect). IfSome o (λ (e : Effect). ChangeOf e.change)) e (own-change h proc does may)
  change-of h proc (action.Send terms) effect may e = absurd (let t : ◌≡◌ {A = Option Effect} None (Some effect) = e in cc)
  change-of h proc (action.Receive patterns) effect may e = absurd (let t : ◌≡◌ {A = Option Effect} None (Some effect) = e in cc)

  given-next : (h : IsHeld bus region) (terms : List Term) → MayBeDone bus.program.bodies region (action.Own (own.Notify terms)) → (proc : Proc) (b : Bool) → wants proc.inbox terms ≡ b → Contains bus.procs proc →
      IsNext bus (if b then record proc { inbox = with_note terms proc.inbox } else proc)
  given-next h terms may proc true e c = record {
    stands = λ w. record {
      old = proc;
      there = c;
      number = refl;
      body = refl;
      comes = λ does. come-as (record proc { inbox = with_note terms proc.inbox }) proc does refl refl refl;
      inbox = inr (terms, may, e, refl);
    };
    left = (itself h proc c).left;
  }
  given-next h terms may proc false e c = itself h proc c

  inbox-next : (h : IsHeld bus region) (number : ℕ) (held : Held) → region.waits number ≡ false → (proc : Proc) (b : Bool) → (proc.number == number) ≡ b → Contains bus.procs proc →
      IsNext bus (if b then record proc { inbox = held } else proc)
  inbox-next h number held out proc true e c = record {
    stands = λ w. absurd (let same : proc.number ≡ number = eqb-true proc.number number e in let t : region.waits number ≡ true = subst (λ (n : ℕ). region.waits n ≡ true) same w in cc);
    left = (itself h proc c).left;
  }
  inbox-next h number held out proc false e c = itself h proc c

  inboxes-next : (h : IsHeld bus region) (number : ℕ) (change : Held → Held) → region.waits number ≡ false → All (IsNext bus) (map (with_inbox number change) bus.procs)
  inboxes-next h number change out =
      All-map (IsNext bus) (with_inbox number change) bus.procs
      (All-weaker (Contains bus.procs) (λ proc. IsNext bus (with_inbox number change proc)) (λ proc c. inbox-next h number (change proc.inbox) out proc (proc.number == number) refl c) bus.procs (All-contains_itself bus.procs))

  created-next : (h : IsHeld bus region) (process slot : ℕ) (actuals : List Term) → MayBeDone bus.program.bodies region (action.Own (own.Create process actuals slot)) → (body : Option Body) → slice_get bus.program.bodies process ≡ body →
      All (IsNext bus) (opened_one bus.next_number process actuals body)
  created-next h process slot actuals may None e = All-nil (IsNext bus)
  created-next h process slot actuals may (Some body) e =
      All-one (IsNext bus) (record { number = bus.next_number; body = process; term = fresh body.tree; store = opening_store body actuals; inbox = nothing })
      (record {
        stands = λ w. absurd (let less = (h.begun bus.next_number w).1 in omega (arith, less));
        left = λ w. only-from (Left process) (fresh body.tree) (λ atom d. h.created process slot atom actuals body may e d);
      })

  pub changed-next : (h : IsHeld bus region) (change : Change) (number : ℕ) → region.waits number ≡ false → ChangeOf change → All (IsNext bus) (changed change number bus).procs
  changed-next h Nothing number out is = all-itself h
  changed-next h (PutsNote terms) number out is =
      All-map (IsNext bus) (given terms) bus.procs
      (All-weaker (Contains bus.procs) (λ proc. IsNext bus (given terms proc)) (λ proc c. given-next h terms is proc (wants proc.inbox terms) refl c) bus.procs (All-contains_itself bus.procs))
  changed-next h (TakesNote place) number out is = inboxes-next h number (without_note place) out
  changed-next h (Subscribes patterns) number out is = inboxes-next h number (subscribed patterns) out
  changed-next h (Unsubscribes patterns) number out is = inboxes-next h number (unsubscribed patterns) out
  changed-next h (Creates process actuals) number out is =
      All-append (IsNext bus) bus.procs (created bus process actuals) (all-itself h) (created-next h process is.0 actuals is.1 (slice_get bus.program.bodies process) refl)
  changed-next h (SetsBench bench) number out is = all-itself h
  changed-next h (GoesDown reason) number out is = all-itself h

  -- a process outside goes on

  abbrev pub MayLeave : ℕ → Option Process → ℕ → ℕ → Type 0
  MayLeave number left n body = n ≡ number → IfSome left (HasOnly (Left body))

  left-next : (number : ℕ) (proc : Proc) (store : List Slot) (left : Option Process) → region.waits number ≡ false → proc.number ≡ number → IfSome left (HasOnly (Left proc.body)) → All (IsNext bus) (proc_left proc store left)
  left-next number proc store None out same h = All-nil (IsNext bus)
  left-next number proc store (Some term) out same h =
      All-one (IsNext bus) (record proc { term = term; store = store })
      (record { stands = λ w. absurd (let t : region.waits number ≡ true = subst (λ (n : ℕ). region.waits n ≡ true) same w in cc); left = λ w. h })

  one-next : (number : ℕ) (offered : Offered) (binds : List Bind) (proc : Proc) (b : Bool) → (proc.number == number) ≡ b → region.waits number ≡ false → MayLeave number offered.residual proc.number proc.body → IsNext bus proc →
      All (IsNext bus) (if b then proc_left proc (with_binds offered.store binds) offered.residual else proc ∷ [])
  one-next number offered binds proc true e out may h = let same = eqb-true proc.number number e in left-next number proc (with_binds offered.store binds) offered.residual out same (may same)
  one-next number offered binds proc false e out may h = All-one (IsNext bus) proc h

  pub advance-next : (number : ℕ) (offered : Offered) (binds : List Bind) (procs : List Proc) → region.waits number ≡ false → All (λ (p : Proc). MayLeave number offered.residual p.number p.body) procs → All (IsNext bus) procs →
      All (IsNext bus) (advance number offered binds procs)
  unfolding advance
  advance-next number offered binds procs out may h =
      let May : Proc → Type 0 = λ p. MayLeave number offered.residual p.number p.body in
      All-flat_map (IsNext bus) (λ (proc : Proc). if proc.number == number then proc_left proc (with_binds offered.store binds) offered.residual else proc ∷ []) procs
      (All-weaker (λ p. May p × IsNext bus p) (λ proc. All (IsNext bus) (if proc.number == number then proc_left proc (with_binds offered.store binds) offered.residual else proc ∷ []))
      (λ proc both. one-next number offered binds proc (proc.number == number) refl out both.0 both.1) procs (All-both May (IsNext bus) procs may h))

  pub may-leave : (h : IsHeld bus region) (order : InOrder bus) (proc : Proc) (offered : Offered) → region.waits proc.number ≡ false → IsOffered bus proc offered →
      All (λ (p : Proc). MayLeave proc.number offered.residual p.number p.body) bus.procs
  may-leave h order proc offered out g =
      let left = (offer-only (Left proc.body) proc.term proc.store offered ((itself h proc g.0).left out) g.1).left in
      All-weaker (Contains bus.procs) (λ (p : Proc). MayLeave proc.number offered.residual p.number p.body)
      (λ p c. λ e. subst (λ (q : Proc). IfSome offered.residual (HasOnly (Left q.body))) (sym (one-number 0 bus.procs p proc order.ascend e c g.0)) left)
      bus.procs (All-contains_itself bus.procs)

  -- the processes of a next bus at the same tick
  pub all-moved : (next : Bus) (procs : List Proc) → next.program ≡ bus.program → next.now ≡ bus.now → All (IsNext bus) procs → All (IsNext next) procs
  all-moved next procs e f h = All-weaker (IsNext bus) (IsNext next) moved procs h
    where
      moved : (proc : Proc) → IsNext bus proc → IsNext next proc
      moved proc is = record {
        stands = λ w. let at = is.stands w in
            record { old = at.old; there = at.there; number = at.number; body = at.body; comes = λ does come. at.comes does (come-back next proc does e f come); inbox = at.inbox };
        left = is.left;
      }

  pub changed-now : (change : Change) (number : ℕ) → (changed change number bus).now ≡ bus.now
  changed-now Nothing number = refl
  changed-now (PutsNote terms) number = refl
  changed-now (TakesNote place) number = refl
  changed-now (Subscribes patterns) number = refl
  changed-now (Unsubscribes patterns) number = refl
  changed-now (Creates process actuals) number = refl
  changed-now (SetsBench bench) number = refl
  changed-now (GoesDown reason) number = refl

  pub changed-number : (change : Change) (number : ℕ) → bus.next_number ≤ (changed change number bus).next_number
  changed-number Nothing number = omega arith
  changed-number (PutsNote terms) number = omega arith
  changed-number (TakesNote place) number = omega arith
  changed-number (Subscribes patterns) number = omega arith
  changed-number (Unsubscribes patterns) number = omega arith
  changed-number (Creates process actuals) number = omega arith
  changed-number (SetsBench bench) number = omega arith
  changed-number (GoesDown reason) number = omega arith

  -- a change silences no tool, unless it shuts down the bus
  pub changed-silence : (change : Change) (number : ℕ) → ChangeOf change → ((changed change number bus).down ≡ true) ⊎ KeepsSilence (changed change number bus)
  changed-silence Nothing number is = inr (silence-same bus refl refl)
  changed-silence (PutsNote terms) number is = inr (silence-same (changed (PutsNote terms) number bus) refl refl)
  changed-silence (TakesNote place) number is = inr (silence-same (changed (TakesNote place) number bus) refl refl)
  changed-silence (Subscribes patterns) number is = inr (silence-same (changed (Subscribes patterns) number bus) refl refl)
  changed-silence (Unsubscribes patterns) number is = inr (silence-same (changed (Unsubscribes patterns) number bus) refl refl)
  changed-silence (Creates process actuals) number is = inr (silence-same (changed (Creates process actuals) number bus) refl refl)
  changed-silence (SetsBench bench) number is = inr is
  changed-silence (GoesDown reason) number is = inl refl
