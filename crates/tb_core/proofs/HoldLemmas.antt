-- A bus whose inboxes change: the other parts of each running process stay, with the facts that depend on them only.
use Rattle.std.proofs.Common.{◌≡◌, ℕ, ◌<◌, ◌≤◌, ◌⊎◌, zero, suc, List, [], ◌∷◌, length, map, refl, ap, sym, subst, ◌∙◌, arith, Option, Some, None, Bool, true, false, slice_get, slice_set, get_or, option_map, nat_lt, ◌&&◌, ◌==◌, if◌then◌else◌, eq-eqb, Contains}
use Rattle.std.specs.Global.{Vec}
use Rattle.std.specs.List.{All}
use Rattle.std.proofs.lemmas.Bool.{eqb-true, false_from_ne_true}
use Rattle.std.proofs.lemmas.Option.{slice_get-map, none-some, same_Some}
use Rattle.std.proofs.Math.ListN.{get_or-map}
use Rattle.tb_terms.specs.declared.term.Term.{Term}
use Rattle.tb_process_steps.specs.WalkerViews.{View}
use Rattle.tb_notes.specs.Inboxes.{Held, nothing, wants, with_note}
use Rattle.tb_bus.specs.Buses.{Bus, Proc}
use Rattle.tb_bus.specs.Effects.{Change, Effect, Nothing, changed, given, with_inbox}
use Rattle.tb_search.specs.Candidates.{Row, ascend, row_at, row_of, rows_of, no_row}
use Rattle.tb_search.specs.declared.living.Living.{Living}
use Rattle.tb_search.proofs.TurnLemmas.{ascend-first}
use Rattle.tb_living.specs.Lives.{IsBelow, IsLive, proc_by, proc_in, procs_of, IsFreshOr}
use Rattle.tb_living.specs.Indexes.{IsRightFor}
use Rattle.tb_living.specs.Holdings.{helds_of, held_at, bare, bares_of, IsHeldAt, HoldTheSame, with_given}
use Rattle.tb_search.specs.FoundEffects.{noting}
use Rattle.tb_core.specs.Helpers.LiveBuses.{IsChanged, IsKept, IsSound, StandsAs, bus_of, procs_in, settings_in}
use Rattle.tb_core.specs.declared.bus.LiveBus.{LiveBus}
use Rattle.tb_living.proofs.ReadLemmas.{above-there, map-there, proc-number}
use Rattle.tb_living.proofs.HoldLemmas.{held-there, same-long}
use Rattle.tb_living.proofs.IndexLemmas.{alive-bares, bare-right, filled-right}
use Rattle.tb_living.proofs.RestLemmas.{rested-bares, stays-given, stays-held, stays-unheld}
use Rattle.tb_index.specs.Indexes.{is_awake}

-- what doesn't rest on inboxes

pub ascend-bares : {W : Type 0} (below : ℕ) (all : List (Living W)) → ascend below (rows_of (bares_of all)) ≡ ascend below (rows_of all)
ascend-bares below [] = refl
ascend-bares below (living ∷ all) = ap (λ rest. nat_lt below living.number && rest) (ascend-bares living.number all)

pub all-bares : {W : Type 0} (P : Living W → Type 0) (old new : List (Living W)) → ((living : Living W) → P living → P (bare living)) → ((living : Living W) → P (bare living) → P living) → bares_of new ≡ bares_of old → All P old → All P new
all-bares {W = W} P old new to from e h k d within =
    let long = same-long old new e in
    let less : k < length old = omega arith in
    let same : bare (get_or old k d) ≡ bare (get_or new k d) =
    sym (get_or-map bare old k d) ∙ ap (λ (xs : List (Living W)). get_or xs k (bare d)) (sym e) ∙ get_or-map bare new k d in
    from (get_or new k d) (subst P same (to (get_or old k d) (h k d less)))

live-bare : {W P T : Type 0} (view : View P W T) (plans : List P) (now : ℕ) (living : Living W) → IsLive view plans now living → IsLive view plans now (bare living)
live-bare view plans now living h = (h.0, h.1, record { is_on = h.2.is_on; alive = h.2.alive; sorts = h.2.sorts; ticks = h.2.ticks; ready = h.2.ready })

live-filled : {W P T : Type 0} (view : View P W T) (plans : List P) (now : ℕ) (living : Living W) → IsLive view plans now (bare living) → IsLive view plans now living
live-filled view plans now living h = (h.0, h.1, record { is_on = h.2.is_on; alive = h.2.alive; sorts = h.2.sorts; ticks = h.2.ticks; ready = h.2.ready })

-- what the inbox of each lets rest it lets rest after a change too
abbrev pub Stays : {W P T : Type 0} → LiveBus W P T → List (Living W) → Type 0
Stays {W = W} bus new = (k : ℕ) (d : Living W) → k < length bus.living.items →
    ((get_or new k d).inbox.held.notes ≡ (get_or bus.living.items k d).inbox.held.notes)
    ⊎ (((get_or bus.living.items k d).fresh ≡ false) ⊎ (is_awake bus.index (get_or bus.living.items k d).number ≡ true))

pub sound-bares : {W P T : Type 0} (view : View P W T) (bus : LiveBus W P T) (living : Vec (Living W)) → bares_of living.items ≡ bares_of bus.living.items → Stays bus living.items → IsSound view bus → IsSound view (record bus { living = living })
sound-bares view bus living e stays sound = record {
  in_order = sym (ascend-bares 0 living.items) ∙ ap (λ all. ascend 0 (rows_of all)) e ∙ ascend-bares 0 bus.living.items ∙ sound.in_order;
  below = all-bares (IsBelow bus.marks.next_number) bus.living.items living.items (λ l h. h) (λ l h. h) e sound.below;
  planned = sound.planned;
  lanes = sound.lanes;
  live = all-bares (IsLive view bus.plans bus.ticks) bus.living.items living.items (live-bare view bus.plans bus.ticks) (live-filled view bus.plans bus.ticks) e sound.live;
  fresh = λ young. all-bares (IsFreshOr bus.stale.items) bus.living.items living.items (λ l h. h) (λ l h. h) e (sound.fresh young);
  indexed = record { each = all-bares (IsRightFor bus.index) bus.living.items living.items (bare-right bus.index) (filled-right bus.index) e sound.indexed.each; others = λ number absent. sound.indexed.others number (alive-bares number bus.living.items living.items e ∙ absent) };
  rested = rested-bares (settings_in bus) bus.stirred bus.index bus.living.items living.items e (same-long bus.living.items living.items e) stays sound.rested;
}

-- one at an index is as it was, but for its inbox

mapped-some : {A B : Type 0} (f : A → B) (found : Option A) (y : B) → option_map f found ≡ Some y → (x : A) × (found ≡ Some x) × (f x ≡ y)
mapped-some f None y e = absurd (none-some y e)
mapped-some f (Some x) y e = (x, refl, same_Some (f x) y e)

pub kept-bares : {W : Type 0} (old new : List (Living W)) (at : ℕ) (before : Living W) → slice_get old at ≡ Some before → bares_of new ≡ bares_of old → IsKept old new at
kept-bares {W = W} old new at before here e =
    let found = mapped-some bare (slice_get new at) (bare before)
    (sym (slice_get-map bare new at) ∙ ap (λ (xs : List (Living W)). slice_get xs at) e ∙ slice_get-map bare old at ∙ ap (option_map bare) here) in
    record {
      before = before;
      after = found.0;
      here = here;
      there = found.1;
      number = ap (λ (l : Living W). l.number) found.2;
      body = ap (λ (l : Living W). l.body) found.2;
      walker = ap (λ (l : Living W). l.walker) found.2;
    }

-- the processes, but for what they hold

abbrev bare_proc : Proc → Proc
bare_proc proc = record proc { inbox = nothing }

abbrev inbox_of : Proc → Held
inbox_of proc = proc.inbox

abbrev holding : Proc → Held → Proc
holding proc held = record proc { inbox = held }

proc-same : (one other : Proc) → bare_proc one ≡ bare_proc other → one.inbox ≡ other.inbox → one ≡ other
proc-same one other e f = ap (λ (p : Proc). holding p one.inbox) e ∙ ap (holding other) f

procs-same : (ones others : List Proc) → map bare_proc ones ≡ map bare_proc others → map inbox_of ones ≡ map inbox_of others → ones ≡ others
procs-same [] [] e f = refl
procs-same [] (other ∷ others) e f = cc
procs-same (one ∷ ones) [] e f = cc
procs-same (one ∷ ones) (other ∷ others) e f =
    let bares : bare_proc one ≡ bare_proc other = cc in
    let inboxes : one.inbox ≡ other.inbox = cc in
    let bares_rest : map bare_proc ones ≡ map bare_proc others = cc in
    let inboxes_rest : map inbox_of ones ≡ map inbox_of others = cc in
    ap (λ p. p ∷ ones) (proc-same one other bares inboxes) ∙ ap (λ ps. other ∷ ps) (procs-same ones others bares_rest inboxes_rest)

bare-by : {W P T : Type 0} (view : View P W T) (plan : Option P) (living : Living W) → bare_proc (proc_by view plan living) ≡ proc_by view plan (bare living)
bare-by view None living = refl
bare-by view (Some plan) living = refl

bare-procs : {W P T : Type 0} (view : View P W T) (plans : List P) (all : List (Living W)) → map bare_proc (procs_of view plans all) ≡ procs_of view plans (bares_of all)
bare-procs view plans [] = refl
bare-procs view plans (living ∷ all) =
    ap (λ p. p ∷ map bare_proc (procs_of view plans all)) (bare-by view (slice_get plans living.body) living) ∙ ap (λ ps. proc_in view plans (bare living) ∷ ps) (bare-procs view plans all)

pub inbox-by : {W P T : Type 0} (view : View P W T) (plan : Option P) (living : Living W) → (proc_by view plan living).inbox ≡ living.inbox.held
inbox-by view None living = refl
inbox-by view (Some plan) living = refl

inbox-procs : {W P T : Type 0} (view : View P W T) (plans : List P) (all : List (Living W)) → map inbox_of (procs_of view plans all) ≡ helds_of all
inbox-procs view plans [] = refl
inbox-procs view plans (living ∷ all) =
    ap (λ h. h ∷ map inbox_of (procs_of view plans all)) (inbox-by view (slice_get plans living.body) living) ∙ ap (λ hs. living.inbox.held ∷ hs) (inbox-procs view plans all)

bare-mapped : (change : Proc → Proc) → ((proc : Proc) → bare_proc (change proc) ≡ bare_proc proc) → (procs : List Proc) → map bare_proc (map change procs) ≡ map bare_proc procs
bare-mapped change h [] = refl
bare-mapped change h (proc ∷ procs) = ap (λ p. p ∷ map bare_proc (map change procs)) (h proc) ∙ ap (λ ps. bare_proc proc ∷ ps) (bare-mapped change h procs)

-- the living stand for processes of which only what they hold has changed
procs-held : {W P T : Type 0} (view : View P W T) (plans : List P) (old new : List (Living W)) (change : Proc → Proc) → ((proc : Proc) → bare_proc (change proc) ≡ bare_proc proc) →
    bares_of new ≡ bares_of old → helds_of new ≡ map inbox_of (map change (procs_of view plans old)) → procs_of view plans new ≡ map change (procs_of view plans old)
procs-held view plans old new change h e f =
    procs-same (procs_of view plans new) (map change (procs_of view plans old))
    (bare-procs view plans new ∙ ap (procs_of view plans) e ∙ sym (bare-procs view plans old) ∙ sym (bare-mapped change h (procs_of view plans old)))
    (inbox-procs view plans new ∙ f)

-- where they hold the same, they stand for the same
pub procs-unheld : {W P T : Type 0} (view : View P W T) (plans : List P) (old new : List (Living W)) → HoldTheSame old new → procs_of view plans new ≡ procs_of view plans old
procs-unheld view plans old new same =
    procs-same (procs_of view plans new) (procs_of view plans old)
    (bare-procs view plans new ∙ ap (procs_of view plans) same.bares ∙ sym (bare-procs view plans old))
    (inbox-procs view plans new ∙ same.helds ∙ sym (inbox-procs view plans old))

-- and where they stand for the same, they hold the same
pub helds-same : {W P T : Type 0} (view : View P W T) (old new : LiveBus W P T) → StandsAs view old new → helds_of new.living.items ≡ helds_of old.living.items
helds-same view old new same =
    sym (inbox-procs view new.plans new.living.items) ∙ ap (λ (b : Bus). map inbox_of b.procs) same.bus ∙ inbox-procs view old.plans old.living.items

pub held-same : {W P T : Type 0} (view : View P W T) (old new : LiveBus W P T) (at : ℕ) → StandsAs view old new → held_at new.living.items at ≡ held_at old.living.items at
held-same view old new at same = ap (λ (hs : List Held). get_or hs at nothing) (helds-same view old new same)

-- the inbox of the process with a number

with-bare_by : (change : Held → Held) (proc : Proc) (b : Bool) → bare_proc (if b then record proc { inbox = change proc.inbox } else proc) ≡ bare_proc proc
with-bare_by change proc true = refl
with-bare_by change proc false = refl

with-bare : (number : ℕ) (change : Held → Held) (proc : Proc) → bare_proc (with_inbox number change proc) ≡ bare_proc proc
with-bare number change proc = with-bare_by change proc (proc.number == number)

with-here_by : (change : Held → Held) (proc : Proc) (b : Bool) → b ≡ true → inbox_of (if b then record proc { inbox = change proc.inbox } else proc) ≡ change proc.inbox
with-here_by change proc true e = refl
with-here_by change proc false e = cc

with-here : (number : ℕ) (change : Held → Held) (proc : Proc) → proc.number ≡ number → (with_inbox number change proc).inbox ≡ change proc.inbox
with-here number change proc e = with-here_by change proc (proc.number == number) (eq-eqb proc.number number e)

with-past_by : (change : Held → Held) (proc : Proc) (b : Bool) → b ≡ false → inbox_of (if b then record proc { inbox = change proc.inbox } else proc) ≡ proc.inbox
with-past_by change proc true e = cc
with-past_by change proc false e = refl

with-past : (number : ℕ) (change : Held → Held) (proc : Proc) → (proc.number ≡ number → ⊥) → (with_inbox number change proc).inbox ≡ proc.inbox
with-past number change proc h = with-past_by change proc (proc.number == number) (false_from_ne_true (proc.number == number) (λ e. h (eqb-true proc.number number e)))

helds-above : {W P T : Type 0} (view : View P W T) (plans : List P) (number below : ℕ) (change : Held → Held) (all : List (Living W)) → number ≤ below → ascend below (rows_of all) ≡ true →
    map inbox_of (map (with_inbox number change) (procs_of view plans all)) ≡ helds_of all
helds-above view plans number below change [] le h = refl
helds-above view plans number below change (living ∷ all) le h =
    let t = ascend-first below (row_of living) (rows_of all) h in
    let above = t.0 in
    let proc = proc_in view plans living in
    let named = proc-number view (slice_get plans living.body) living in
    ap (λ i. i ∷ map inbox_of (map (with_inbox number change) (procs_of view plans all))) (with-past number change proc (λ e. omega arith) ∙ inbox-by view (slice_get plans living.body) living)
    ∙ ap (λ hs. living.inbox.held ∷ hs) (helds-above view plans number living.number change all (omega arith) t.1)

helds-changed : {W P T : Type 0} (view : View P W T) (plans : List P) (below : ℕ) (change : Held → Held) (all : List (Living W)) (at : ℕ) (before : Living W) → ascend below (rows_of all) ≡ true → slice_get all at ≡ Some before →
    map inbox_of (map (with_inbox before.number change) (procs_of view plans all)) ≡ slice_set (helds_of all) at (change before.inbox.held)
helds-changed view plans below change [] at before h here = cc
helds-changed {W = W} view plans below change (living ∷ all) zero before h here =
    let same : living ≡ before = cc in
    let t = ascend-first below (row_of living) (rows_of all) h in
    let proc = proc_in view plans living in
    let number : living.number ≡ before.number = ap (λ (l : Living W). l.number) same in
    ap (λ i. i ∷ map inbox_of (map (with_inbox before.number change) (procs_of view plans all)))
    (with-here before.number change proc (proc-number view (slice_get plans living.body) living ∙ number) ∙ ap change (inbox-by view (slice_get plans living.body) living ∙ ap (λ (l : Living W). l.inbox.held) same))
    ∙ ap (λ hs. change before.inbox.held ∷ hs) (helds-above view plans before.number living.number change all (omega arith) t.1)
helds-changed view plans below change (living ∷ all) (suc at) before h here =
    let t = ascend-first below (row_of living) (rows_of all) h in
    let above : living.number < before.number = above-there living.number all at before t.1 here in
    let proc = proc_in view plans living in
    let named = proc-number view (slice_get plans living.body) living in
    ap (λ i. i ∷ map inbox_of (map (with_inbox before.number change) (procs_of view plans all))) (with-past before.number change proc (λ e. omega arith) ∙ inbox-by view (slice_get plans living.body) living)
    ∙ ap (λ hs. living.inbox.held ∷ hs) (helds-changed view plans living.number change all at before t.1 here)

-- notes that are given

given-bare_by : (note : List Term) (proc : Proc) (b : Bool) → bare_proc (if b then record proc { inbox = with_note note proc.inbox } else proc) ≡ bare_proc proc
given-bare_by note proc true = refl
given-bare_by note proc false = refl

given-bare : (note : List Term) (proc : Proc) → bare_proc (given note proc) ≡ bare_proc proc
given-bare note proc = given-bare_by note proc (wants proc.inbox note)

given-inbox_by : (note : List Term) (proc : Proc) (b : Bool) → inbox_of (if b then record proc { inbox = with_note note proc.inbox } else proc) ≡ (if b then with_note note proc.inbox else proc.inbox)
given-inbox_by note proc true = refl
given-inbox_by note proc false = refl

given-inboxes : (note : List Term) (procs : List Proc) → map inbox_of (map (given note) procs) ≡ map (with_given note) (map inbox_of procs)
given-inboxes note [] = refl
given-inboxes note (proc ∷ procs) =
    ap (λ h. h ∷ map inbox_of (map (given note) procs)) (given-inbox_by note proc (wants proc.inbox note)) ∙ ap (λ hs. with_given note proc.inbox ∷ hs) (given-inboxes note procs)

-- what was changed

-- where other parts of the fields had changed before
pub changed-since : {W P T : Type 0} (view : View P W T) (old mid new : LiveBus W P T) (at : ℕ) (effect : Effect) → StandsAs view old mid → mid.living ≡ old.living → mid.stale ≡ old.stale → IsChanged view mid at effect new → IsChanged view old at effect new
changed-since view old mid new at effect same living stale change = record {
  sound = change.sound;
  bus = change.bus
      ∙ ap (λ (all : Vec (Living _)). changed effect.change (row_at (rows_of all.items) at).number (bus_of view mid)) living
      ∙ ap (changed effect.change (row_at (rows_of old.living.items) at).number) same.bus;
  origin = change.origin ∙ same.origin;
  plans = change.plans ∙ same.plans;
  kept = subst (λ (all : Vec (Living _)). IsKept all.items new.living.items at) living change.kept;
  named = λ number h. change.named number (subst (λ (numbers : Vec ℕ). Contains numbers.items number) (sym stale) h);
}

-- nothing
pub nothing-changed : {W P T : Type 0} (view : View P W T) (bus : LiveBus W P T) (at : ℕ) (before : Living W) (effect : Effect) → IsSound view bus → slice_get bus.living.items at ≡ Some before → effect.change ≡ Nothing → IsChanged view bus at effect bus
nothing-changed view bus at before effect sound here e = record {
  sound = sound;
  bus = sym (ap (λ (c : Change). changed c (row_at (rows_of bus.living.items) at).number (bus_of view bus)) e);
  origin = refl;
  plans = refl;
  kept = kept-bares bus.living.items bus.living.items at before here refl;
  named = λ number h. h;
}

-- one inbox
pub held-changed : {W P T : Type 0} (view : View P W T) (bus : LiveBus W P T) (at : ℕ) (before : Living W) (effect : Effect) (change : Held → Held) (living : Vec (Living W)) → IsSound view bus → slice_get bus.living.items at ≡ Some before →
    IsHeldAt bus.living.items at (change (held_at bus.living.items at)) living.items →
    (((change (held_at bus.living.items at)).notes ≡ before.inbox.held.notes) ⊎ (before.fresh ≡ false)) →
    ((number : ℕ) → changed effect.change number (bus_of view bus) ≡ record (bus_of view bus) { procs = map (with_inbox number change) (procs_in view bus) }) → IsChanged view bus at effect (record bus { living = living })
held-changed view bus at before effect change living sound here held rests e =
    let all = bus.living.items in
    let procs = procs-held view bus.plans all living.items (with_inbox before.number change) (with-bare before.number change) held.bares
    (held.helds ∙ ap (λ h. slice_set (helds_of all) at (change h)) (held-there all at before here) ∙ sym (helds-changed view bus.plans 0 change all at before sound.in_order here)) in
    let number : (row_at (rows_of all) at).number ≡ before.number = ap (λ (r : Row). r.number) (map-there row_of all at before no_row here) in
    record {
      sound = sound-bares view bus living held.bares
          (stays-held bus.index all living.items (same-long all living.items held.bares) at before (change (held_at all at)) here held rests) sound;
      bus = ap (λ (ps : List Proc). let b : Bus = record (bus_of view bus) { procs = ps } in b) procs ∙ sym (e before.number) ∙ ap (λ n. changed effect.change n (bus_of view bus)) (sym number);
      origin = refl;
      plans = refl;
      kept = kept-bares all living.items at before here held.bares;
      named = λ number h. h;
    }

-- the inboxes of those that want a note
pub noted-changed : {W P T : Type 0} (view : View P W T) (bus : LiveBus W P T) (at : ℕ) (before : Living W) (note : List Term) (living : Vec (Living W)) → IsSound view bus → slice_get bus.living.items at ≡ Some before →
    bares_of living.items ≡ bares_of bus.living.items → helds_of living.items ≡ map (with_given note) (helds_of bus.living.items) →
    ((k : ℕ) (d : Living W) → k < length bus.living.items → wants (get_or bus.living.items k d).inbox.held note ≡ true → is_awake bus.index (get_or bus.living.items k d).number ≡ true) →
    IsChanged view bus at (noting note) (record bus { living = living })
noted-changed view bus at before note living sound here bares helds awake =
    let all = bus.living.items in
    let procs = procs-held view bus.plans all living.items (given note) (given-bare note) bares
    (helds ∙ ap (map (with_given note)) (sym (inbox-procs view bus.plans all)) ∙ sym (given-inboxes note (procs_in view bus))) in
    record {
      sound = sound-bares view bus living bares (stays-given bus.index all living.items (same-long all living.items bares) note helds awake) sound;
      bus = ap (λ (ps : List Proc). let b : Bus = record (bus_of view bus) { procs = ps } in b) procs;
      origin = refl;
      plans = refl;
      kept = kept-bares all living.items at before here bares;
      named = λ number h. h;
    }

-- the same is held, and it stands for the same bus
pub stands-held : {W P T : Type 0} (view : View P W T) (bus : LiveBus W P T) (living : Vec (Living W)) → IsSound view bus → HoldTheSame bus.living.items living.items → StandsAs view bus (record bus { living = living })
stands-held view bus living sound same = record {
  sound = sound-bares view bus living same.bares (stays-unheld bus.index bus.living.items living.items (same-long bus.living.items living.items same.bares) same.helds) sound;
  bus = ap (λ (ps : List Proc). let b : Bus = record (bus_of view bus) { procs = ps } in b) (procs-unheld view bus.plans bus.living.items living.items same);
  origin = refl;
  plans = refl;
  marks = refl;
  calm = λ e. e;
}
