-- The bus that the running processes represent after a tick for each.
use Rattle.std.proofs.Common.{◌≡◌, ◌<◌, ◌+◌, ◌⊎◌, ◌&&◌, ◌||◌, ◌==◌, ℕ, List, [], ◌∷◌, ◌++◌, length, map, get_or, refl, ap, sym, subst, ◌∙◌, arith, inl, inr, Option, Some, None, Bool, true, false, not, nat_lt, option_map, slice_get, slice_set}
use Rattle.tb_bus.specs.Exchanges.{Setting}
use Rattle.tb_notes.specs.Inboxes.{Contents}
use Rattle.tb_living.proofs.RestLemmas.{rested-same}
use Rattle.std.specs.Global.{Vec}
use Rattle.std.specs.List.{All}
use Rattle.std.proofs.lemmas.Bool.{and_parts, cases_eq, not-true}
use Rattle.std.proofs.lemmas.Option.{same_Some, slice_get-get_or}
use Rattle.std.proofs.lemmas.List.Elements.{All-cons, All-head, All-nil, All-tail, All-weaker}
use Rattle.tb_func.specs.declared.slot.Slot.{Slot}
use Rattle.tb_body.specs.declared.act.Act.{Act}
use Rattle.tb_body.specs.declared.atom.Atom.{Atom}
use Rattle.tb_body.specs.declared.body.Body.{Body}
use Rattle.tb_process_steps.specs.Ageing.{AreAged}
use Rattle.tb_process_steps.specs.Atoms.{act_of, is_ready, times_of}
use Rattle.tb_process_steps.specs.Offers.{Offered}
use Rattle.tb_process_steps.specs.Processes.{Process, aged}
use Rattle.tb_process_steps.specs.Walks.{Walking, is_end, offers_of, sorts_of, ticked}
use Rattle.tb_process_steps.specs.WalkerViews.{View}
use Rattle.tb_process_steps.proofs.AgedOffers.{is_end-ticked, offers_of-age, ready-aged}
use Rattle.tb_index.specs.Indexes.{IndexState}
use Rattle.tb_bus.specs.Buses.{Bus, Proc}
use Rattle.tb_bus.specs.Actions.{action_if, action_of}
use Rattle.tb_search.specs.Candidates.{ascend, readies, ready_one, rows_of}
use Rattle.tb_bus.specs.Traces.{aged_proc}
use Rattle.tb_bus.specs.declared.action.Action.{Action}
use Rattle.tb_search.specs.declared.living.Living.{Living}
use Rattle.tb_search.specs.declared.living.Ready.{Ready}
use Rattle.tb_living.specs.Indexes.{IsRightFor, is_alive, IsRested}
use Rattle.tb_living.specs.Lives.{IsBelow, IsFreshFor, IsLive, IsLiveOn, IsTimeless, proc_by, proc_in, proc_of, procs_of, term_in, AreFresh, IsFreshOr}
use Rattle.tb_core.specs.Helpers.LiveBuses.{IsSound, StandsAs, bus_of, procs_in, settings_in}
use Rattle.tb_living.specs.Ticking.{AreTicked, CanTick, HasTicked, IsTicked}
use Rattle.tb_core.specs.declared.bus.LiveBus.{LiveBus}
use Rattle.tb_living.proofs.IndexLemmas.{same-right}
use Rattle.tb_core.proofs.SetLemmas.{set-other, set-there}

-- what holds of each of the others, where it did before the tick
ticked-by : {W P T : Type 0} (view : View P W T) (plans : List P) (Q R : Living W → Type 0) (olds news : List (Living W)) → ((old new : Living W) → IsTicked view plans old new → Q old → R new) → AreTicked view plans olds news → All Q olds → All R news
ticked-by view plans Q R [] [] each h q = All-nil R
ticked-by view plans Q R [] (new ∷ news) each h q = absurd h
ticked-by view plans Q R (old ∷ olds) [] each h q = absurd h
ticked-by view plans Q R (old ∷ olds) (new ∷ news) each h q =
    All-cons R new news (each old new h.0 (All-head Q old olds q)) (ticked-by view plans Q R olds news each h.1 (All-tail Q old olds q))

ticked-ascend : {W P T : Type 0} (view : View P W T) (plans : List P) (below : ℕ) (olds news : List (Living W)) → AreTicked view plans olds news → ascend below (rows_of news) ≡ ascend below (rows_of olds)
ticked-ascend view plans below [] [] h = refl
ticked-ascend view plans below [] (new ∷ news) h = absurd h
ticked-ascend view plans below (old ∷ olds) [] h = absurd h
ticked-ascend view plans below (old ∷ olds) (new ∷ news) h =
    let number = h.0.2.number in
    ap (λ n. nat_lt below n && ascend n (rows_of news)) number ∙ ap (λ rest. nat_lt below old.number && rest) (ticked-ascend view plans old.number olds news h.1)

ready-atom : (at : ℕ) (one other : Offered) (found : Option Action) → one.atom ≡ other.atom → ready_one at one found ≡ ready_one at other found
ready-atom at one other None e = refl
ready-atom at one other (Some found) e = ap (λ (n : ℕ). let r : Ready = record { offer = at; atom = n; action = found } in r ∷ []) e

-- what offers are ready for stays, where no time is set
same-ready : (at : ℕ) (one other : Offered) (ready is : Bool) (act its : Act) → other.atom ≡ one.atom → other.store ≡ one.store → is ≡ ready → its ≡ act → ready_one at other (action_if is other.store its) ≡ ready_one at one (action_if ready one.store act)
same-ready at one other ready is act its e f r a =
    ap (λ (found : Option Action). ready_one at other found) (ap (λ (s : List Slot). action_if is s its) f ∙ ap (λ (b : Bool). action_if b one.store its) r ∙ ap (action_if ready one.store) a)
    ∙ ready-atom at other one (action_if ready one.store act) e

readies-aged : (atoms : List Atom) (now next at : ℕ) (offers laters : List Offered) → AreAged offers laters → All (IsTimeless atoms) offers → readies atoms next at laters ≡ readies atoms now at offers
readies-aged atoms now next at [] [] h none = refl
readies-aged atoms now next at [] (later ∷ laters) h none = absurd h
readies-aged atoms now next at (offered ∷ offers) [] h none = absurd h
readies-aged atoms now next at (offered ∷ offers) (later ∷ laters) h none =
    let timeless = All-head (IsTimeless atoms) offered offers none in
    ap (λ (rs : List Ready). rs ++ readies atoms next (at + 1) laters)
    (same-ready at offered later (is_ready offered.store offered.age now (times_of atoms offered.atom)) (is_ready later.store later.age next (times_of atoms later.atom)) (act_of atoms offered.atom) (act_of atoms later.atom)
    h.0.atom h.0.store (ready-aged atoms now next offered later h.0 timeless) (ap (act_of atoms) h.0.atom))
    ∙ ap (λ (rs : List Ready). ready_one at offered (action_of atoms now offered) ++ rs) (readies-aged atoms now next (at + 1) offers laters h.1 (All-tail (IsTimeless atoms) offered offers none))

timeless-aged : (atoms : List Atom) (offers laters : List Offered) → AreAged offers laters → All (IsTimeless atoms) offers → All (IsTimeless atoms) laters
timeless-aged atoms [] [] h none = none
timeless-aged atoms [] (later ∷ laters) h none = absurd h
timeless-aged atoms (offered ∷ offers) [] h none = absurd h
timeless-aged atoms (offered ∷ offers) (later ∷ laters) h none =
    All-cons (IsTimeless atoms) later laters (ap (times_of atoms) h.0.atom ∙ All-head (IsTimeless atoms) offered offers none)
    (timeless-aged atoms offers laters h.1 (All-tail (IsTimeless atoms) offered offers none))

fresh-ticked : (body : Body) (now : ℕ) (walking later : Walking) (ready its : List Ready) → later ≡ ticked walking → its ≡ ready → IsFreshFor body now walking false ready → IsFreshFor body (now + 1) later false its
fresh-ticked body now walking later ready its e f h =
    let age = offers_of-age walking in
    let none = h.lasting refl in
    record {
      ready = f ∙ h.ready ∙ sym (readies-aged body.atoms now (now + 1) 0 (offers_of walking) (offers_of (ticked walking)) age none)
          ∙ ap (λ (w : Walking). readies body.atoms (now + 1) 0 (offers_of w)) (sym e);
      lasting = λ young. subst (λ (w : Walking). All (IsTimeless body.atoms) (offers_of w)) (sym e)
          (timeless-aged body.atoms (offers_of walking) (offers_of (ticked walking)) age none);
    }

-- one that was looked at needn't be looked at anew, unless it is timed
still-fresh : {W P T : Type 0} (view : View P W T) (plan : P) (now : ℕ) (old new : Living W) → HasTicked view plan old new → IsLiveOn view plan now old → new.fresh ≡ true →
    IsFreshFor (view.body_of plan) (now + 1) (view.walking plan new.walker) new.timed new.ready.items
still-fresh view plan now old new t live e =
    let both = and_parts old.fresh (not old.timed) (sym t.fresh ∙ e) in
    let untimed : old.timed ≡ false = not-true old.timed both.1 in
    let looked = subst (λ timed. IsFreshFor (view.body_of plan) now (view.walking plan old.walker) timed old.ready.items) untimed (live.ready both.0) in
    subst (λ timed. IsFreshFor (view.body_of plan) (now + 1) (view.walking plan new.walker) timed new.ready.items) (sym (t.timed ∙ untimed))
    (fresh-ticked (view.body_of plan) now (view.walking plan old.walker) (view.walking plan new.walker) old.ready.items new.ready.items t.aged (ap (λ (v : Vec Ready). v.items) t.ready) looked)

ticked-live : {W P T : Type 0} (view : View P W T) (plans : List P) (now : ℕ) (old new : Living W) → IsTicked view plans old new → IsLive view plans now old → IsLive view plans (now + 1) new
ticked-live view plans now old new t h =
    let same : h.0 ≡ t.0 = same_Some h.0 t.0 (sym h.1 ∙ t.1) in
    let live = subst (λ p. IsLiveOn view p now old) same h.2 in (
      t.0,
      ap (slice_get plans) t.2.body ∙ t.1,
      record {
        is_on = t.2.is_on;
        alive = ap (λ (w : Walking). is_end w.term) t.2.aged ∙ is_end-ticked (view.walking t.0 old.walker) ∙ live.alive;
        sorts = ap (λ (w : Walking). sorts_of w.store) t.2.aged ∙ live.sorts;
        ticks = let e = ap (λ (w : Walking). w.ticks) t.2.aged in let l = live.ticks in omega arith;
        ready = λ e. still-fresh view t.0 now old new t.2 live e;
      },
    )

-- the process of one that hasn't ended is a tick older
aged-term : (term : Option Process) → is_end term ≡ false → term_in (option_map aged term) ≡ aged (term_in term)
aged-term None e = cc
aged-term (Some term) e = refl

ticked-proc : {W P T : Type 0} (view : View P W T) (plans : List P) (now : ℕ) (old new : Living W) → IsTicked view plans old new → IsLive view plans now old → proc_in view plans new ≡ aged_proc (proc_in view plans old)
ticked-proc view plans now old new t h =
    let same : h.0 ≡ t.0 = same_Some h.0 t.0 (sym h.1 ∙ t.1) in
    let live = subst (λ p. IsLiveOn view p now old) same h.2 in
    let walking = view.walking t.0 old.walker in
    ap (λ p. proc_by view p new) (ap (slice_get plans) t.2.body ∙ t.1)
    ∙ ap (λ (w : Walking). proc_of new w) t.2.aged
    ∙ ap (λ (n : ℕ). let p : Proc = record (proc_of new (ticked walking)) { number = n } in p) t.2.number
    ∙ ap (λ (n : ℕ). let p : Proc = record (proc_of new (ticked walking)) { number = old.number; body = n } in p) t.2.body
    ∙ ap (λ (i : _). let p : Proc = record { number = old.number; body = old.body; term = term_in (option_map aged walking.term); store = walking.store; inbox = i.held } in p) t.2.inbox
    ∙ ap (λ (term : Process). let p : Proc = record { number = old.number; body = old.body; term = term; store = walking.store; inbox = old.inbox.held } in p) (aged-term walking.term live.alive)
    ∙ ap (λ p. aged_proc (proc_by view p old)) (sym t.1)

ticked-procs : {W P T : Type 0} (view : View P W T) (plans : List P) (now : ℕ) (olds news : List (Living W)) → AreTicked view plans olds news → All (IsLive view plans now) olds → procs_of view plans news ≡ map aged_proc (procs_of view plans olds)
ticked-procs view plans now [] [] h live = refl
ticked-procs view plans now [] (new ∷ news) h live = absurd h
ticked-procs view plans now (old ∷ olds) [] h live = absurd h
ticked-procs view plans now (old ∷ olds) (new ∷ news) h live =
    ap (λ (p : Proc). p ∷ procs_of view plans news) (ticked-proc view plans now old new h.0 (All-head (IsLive view plans now) old olds live))
    ∙ ap (λ (ps : List Proc). aged_proc (proc_in view plans old) ∷ ps) (ticked-procs view plans now olds news h.1 (All-tail (IsLive view plans now) old olds live))

-- where a bus has seen few ticks, one more may pass for each of the living
live-few : {W P T : Type 0} (view : View P W T) (plans : List P) (now : ℕ) → now < 4000000 → (living : Living W) → IsLive view plans now living → CanTick view plans living
live-few view plans now few living h = (h.0, h.1, record { is_on = h.2.is_on; few = let l = h.2.ticks in omega arith })

pub all-few : {W P T : Type 0} (view : View P W T) (bus : LiveBus W P T) → IsSound view bus → bus.ticks < 4000000 → All (CanTick view bus.plans) bus.living.items
all-few view bus sound few = All-weaker (IsLive view bus.plans bus.ticks) (CanTick view bus.plans) (live-few view bus.plans bus.ticks few) bus.living.items sound.live

ticked-alive : {W P T : Type 0} (view : View P W T) (plans : List P) (number : ℕ) (olds news : List (Living W)) → AreTicked view plans olds news → is_alive number olds ≡ is_alive number news
ticked-alive view plans number [] [] h = refl
ticked-alive view plans number [] (new ∷ news) h = absurd h
ticked-alive view plans number (old ∷ olds) [] h = absurd h
ticked-alive view plans number (old ∷ olds) (new ∷ news) h =
    ap (λ n. (n == number) || is_alive number olds) (sym h.0.2.number) ∙ ap (λ rest. (new.number == number) || rest) (ticked-alive view plans number olds news h.1)

-- of one that ticked the index has what it had
ticked-right : {W P T : Type 0} (view : View P W T) (index : IndexState) (plan : P) (old new : Living W) → HasTicked view plan old new → IsRightFor index old → IsRightFor index new
ticked-right view index plan old new t h =
    same-right index old new t.number t.marks (λ e. ((and_parts old.fresh (not old.timed) (sym t.fresh ∙ e)).0, t.ready)) h

ticked-rested : {W P T : Type 0} (view : View P W T) (settings : ℕ → Setting) (stirred : Bool) (index : IndexState) (plan : P) (old new : Living W) → HasTicked view plan old new → IsRested settings stirred index old → IsRested settings stirred index new
ticked-rested view settings stirred index plan old new t h =
    rested-same settings stirred index old new t.number t.body (λ e. ((and_parts old.fresh (not old.timed) (sym t.fresh ∙ e)).0, t.ready)) (ap (λ (i : Contents). i.held.notes) t.inbox) h

-- a bus a tick later
pub sound-ticked : {W P T : Type 0} (view : View P W T) (bus : LiveBus W P T) (living : Vec (Living W)) → IsSound view bus → AreTicked view bus.plans bus.living.items living.items → IsSound view (record bus { living = living; ticks = bus.ticks + 1; aged = true })
sound-ticked view bus living sound h = record {
  in_order = ticked-ascend view bus.plans 0 bus.living.items living.items h ∙ sound.in_order;
  below = ticked-by view bus.plans (IsBelow bus.marks.next_number) (IsBelow bus.marks.next_number) bus.living.items living.items
      (λ old new t l. let e = t.2.number in omega arith) h sound.below;
  planned = sound.planned;
  live = ticked-by view bus.plans (IsLive view bus.plans bus.ticks) (IsLive view bus.plans (bus.ticks + 1)) bus.living.items living.items (ticked-live view bus.plans bus.ticks) h sound.live;
  fresh = λ young. cc;
  lanes = sound.lanes;
  indexed = record {
    each = ticked-by view bus.plans (IsRightFor bus.index) (IsRightFor bus.index) bus.living.items living.items (λ old new t. ticked-right view bus.index t.0 old new t.2) h sound.indexed.each;
    others = λ number absent. sound.indexed.others number (ticked-alive view bus.plans number bus.living.items living.items h ∙ absent);
  };
  rested = ticked-by view bus.plans (IsRested (settings_in bus) bus.stirred bus.index) (IsRested (settings_in bus) bus.stirred bus.index) bus.living.items living.items
      (λ old new t. ticked-rested view (settings_in bus) bus.stirred bus.index t.0 old new t.2) h sound.rested;
}

pub bus-ticked : {W P T : Type 0} (view : View P W T) (bus : LiveBus W P T) (living : Vec (Living W)) → IsSound view bus → AreTicked view bus.plans bus.living.items living.items →
    bus_of view (record bus { living = living; ticks = bus.ticks + 1; aged = true }) ≡ record (bus_of view bus) { procs = map aged_proc (procs_in view bus); now = bus.ticks + 1 }
bus-ticked view bus living sound h =
    ap (λ (ps : List Proc). let b : Bus = record (bus_of view bus) { procs = ps; now = bus.ticks + 1 } in b) (ticked-procs view bus.plans bus.ticks bus.living.items living.items h sound.live)

-- those in front of an index are fresh
abbrev pub AreFreshBelow : {W : Type 0} → ℕ → List (Living W) → Type 0
AreFreshBelow {W = W} at all = (k : ℕ) (living : Living W) → k < at → slice_get all k ≡ Some living → living.fresh ≡ true

fresh-by : {W : Type 0} (all : List (Living W)) (at : ℕ) (one : Living W) (k : ℕ) (living : Living W) → (k ≡ at) ⊎ (k ≡ at → ⊥) → at < length all → one.fresh ≡ true → AreFreshBelow at all → k < at + 1 → slice_get (slice_set all at one) k ≡ Some living → living.fresh ≡ true
fresh-by all at one k living (inl e) within looked fresh less here =
    let there = set-there all at (get_or all at one) one (slice_get-get_or all at one within) in
    let same : one ≡ living = same_Some one living (sym there ∙ ap (slice_get (slice_set all at one)) (sym e) ∙ here) in
    ap (λ (l : Living _). l.fresh) (sym same) ∙ looked
fresh-by all at one k living (inr ne) within looked fresh less here =
    fresh k living (omega arith) (sym (set-other all at k one ne) ∙ here)

-- and so is the one there once it was looked at
pub fresh-more : {W : Type 0} (all new : List (Living W)) (at : ℕ) (one : Living W) → new ≡ slice_set all at one → at < length all → one.fresh ≡ true → AreFreshBelow at all → AreFreshBelow (at + 1) new
fresh-more all new at one e within looked fresh k living less here =
    fresh-by all at one k living (cases_eq k at) within looked fresh less (ap (λ xs. slice_get xs k) (sym e) ∙ here)

pub all-fresh : {W : Type 0} (all : List (Living W)) → AreFreshBelow (length all) all → AreFresh all
all-fresh all fresh k d within = fresh k (get_or all k d) within (slice_get-get_or all k d within)

-- once all were looked at, none is named
pub none-stale : {W P T : Type 0} (view : View P W T) (old bus : LiveBus W P T) (stale : Vec ℕ) → StandsAs view old bus → AreFresh bus.living.items → StandsAs view old (record bus { stale = stale; aged = false })
none-stale view old bus stale same fresh = record {
  sound = record {
    in_order = same.sound.in_order;
    below = same.sound.below;
    planned = same.sound.planned;
    live = same.sound.live;
    fresh = λ young. All-weaker (λ living. living.fresh ≡ true) (IsFreshOr stale.items) (λ living e. inl e) bus.living.items fresh;
    lanes = same.sound.lanes;
    indexed = same.sound.indexed;
    rested = same.sound.rested;
  };
  bus = same.bus;
  origin = same.origin;
  plans = same.plans;
  marks = same.marks;
  calm = same.calm;
}
