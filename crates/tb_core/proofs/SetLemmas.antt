-- A running process is replaced by another that represents the same process.
use Rattle.std.proofs.Common.{◌≡◌, ◌+◌, drop, drop-cons, add-one, ◌<◌, ◌≢◌, ◌&&◌, ℕ, zero, suc, List, [], ◌∷◌, length, map, refl, ap, sym, subst, ◌∙◌, Some, nat_lt, slice_get, slice_set, get_or, Contains, false, inl, inr, Bool}
use Rattle.tb_living.proofs.RestLemmas.{rested-kept, rested-one}
use Rattle.std.specs.Global.{Vec}
use Rattle.std.specs.List.{All}
use Rattle.std.proofs.Math.Seq.{map-set_same}
use Rattle.std.proofs.lemmas.Option.{get_or_from_slice_get, same_Some}
use Rattle.std.proofs.lemmas.List.Elements.{All-set, All-weaker}
use Rattle.tb_process_steps.specs.WalkerViews.{View}
use Rattle.tb_index.specs.Indexes.{IndexState, IsTurned}
use Rattle.tb_index.specs.declared.mark.Marks.{Marks as KeptMarks}
use Rattle.tb_bus.specs.Buses.{Bus, Proc}
use Rattle.tb_search.specs.Candidates.{ascend, rows_of}
use Rattle.tb_search.specs.declared.living.Living.{Living}
use Rattle.tb_living.specs.Indexes.{IsRightForAll, IsRightFor, KeepsOf, IsRested}
use Rattle.tb_living.specs.Lives.{IsBelow, IsFreshFor, IsLive, IsLiveOn, proc_by, proc_in, IsFreshOr}
use Rattle.tb_core.specs.Helpers.LiveBuses.{IsSound, StandsAs, bus_of, procs_in, AreSettled, settings_in}
use Rattle.tb_core.specs.declared.bus.LiveBus.{LiveBus}
use Rattle.tb_core.proofs.ReadLemmas.{LiveAt}
use Rattle.tb_living.proofs.ReadLemmas.{all-there}
use Rattle.tb_living.proofs.IndexLemmas.{all-kept, right-set, all-turned, each-set, keeps-turned}

-- what was set at an index stands there
pub set-there : {A : Type 0} (xs : List A) (at : ℕ) (x y : A) → slice_get xs at ≡ Some x → slice_get (slice_set xs at y) at ≡ Some y
set-there [] at x y e = cc
set-there (z ∷ xs) zero x y e = refl
set-there (z ∷ xs) (suc at) x y e = set-there xs at x y e

-- the others stay
pub set-other : {A : Type 0} (xs : List A) (at other : ℕ) (y : A) → other ≢ at → slice_get (slice_set xs at y) other ≡ slice_get xs other
set-other [] at other y ne = refl
set-other (x ∷ xs) zero zero y ne = absurd (ne refl)
set-other (x ∷ xs) zero (suc other) y ne = refl
set-other (x ∷ xs) (suc at) zero y ne = refl
set-other (x ∷ xs) (suc at) (suc other) y ne = set-other xs at other y (λ e. ne (ap suc e))

-- they stand by their numbers as before
pub ascend-set : {W : Type 0} (below : ℕ) (all : List (Living W)) (at : ℕ) (living one : Living W) → slice_get all at ≡ Some living → one.number ≡ living.number → ascend below (rows_of (slice_set all at one)) ≡ ascend below (rows_of all)
ascend-set below [] at living one e f = refl
ascend-set below (x ∷ all) zero living one e f =
    ap (λ number. nat_lt below number && ascend number (rows_of all)) (f ∙ ap (λ (l : Living _). l.number) (sym (same_Some x living e)))
ascend-set below (x ∷ all) (suc at) living one e f = ap (λ rest. nat_lt below x.number && rest) (ascend-set x.number all at living one e f)

-- another in the place of one of the living
pub record IsInPlace {W P T : Type 0} (view : View P W T) (bus : LiveBus W P T) (plan : P) (living one : Living W) : Type 0 where
  pub live : IsLiveOn view plan bus.ticks one
  pub proc : proc_by view (Some plan) one ≡ proc_by view (Some plan) living
  pub fresh : bus.aged ≡ false → IsFreshOr bus.stale.items one

pub in-place : {W P T : Type 0} (view : View P W T) (bus : LiveBus W P T) (plan its : P) (living one : Living W) → plan ≡ its → IsLiveOn view plan bus.ticks one → proc_by view (Some plan) one ≡ proc_by view (Some plan) living → (bus.aged ≡ false → IsFreshOr bus.stale.items one) → IsInPlace view bus its living one
in-place view bus plan its living one e live proc fresh = subst (λ p. IsInPlace view bus p living one) e (record { live = live; proc = proc; fresh = fresh })

-- if the list has the number of each process that isn't fresh, a process that isn't fresh can be replaced by any with its number
pub named-as : {W : Type 0} (stale : List ℕ) (living one : Living W) → IsFreshOr stale living → living.fresh ≡ false → one.number ≡ living.number → IsFreshOr stale one
named-as stale living one (inl fresh) e number = cc
named-as stale living one (inr named) e number = inr (subst (Contains stale) (sym number) named)

-- one that was looked at lives, also once the index has that
pub updated-live : {W P T : Type 0} (view : View P W T) (plan : P) (now : ℕ) (looked one : Living W) → IsLiveOn view plan now looked → IsFreshFor (view.body_of plan) now (view.walking plan looked.walker) looked.timed looked.ready.items →
    one ≡ record looked { marks = one.marks; fresh = one.fresh } → IsLiveOn view plan now one
updated-live view plan now looked one live fresh e = subst (IsLiveOn view plan now) (sym e) (record { is_on = live.is_on; alive = live.alive; sorts = live.sorts; ticks = live.ticks; ready = λ is. fresh })

same-proc : {W P T : Type 0} (view : View P W T) (plans : List P) (plan : P) (living one : Living W) → slice_get plans living.body ≡ Some plan → proc_by view (Some plan) one ≡ proc_by view (Some plan) living → proc_in view plans one ≡ proc_in view plans living
same-proc view plans plan living one planned same =
    ap (λ body. proc_by view (slice_get plans body) one) (ap (λ (p : Proc). p.body) same)
    ∙ ap (λ p. proc_by view p one) planned ∙ same ∙ ap (λ p. proc_by view p living) (sym planned)

same-procs : {W P T : Type 0} (view : View P W T) (bus : LiveBus W P T) (at : ℕ) (living one : Living W) (it : LiveAt view bus at living) → IsInPlace view bus it.plan living one →
    map (proc_in view bus.plans) (slice_set bus.living.items at one) ≡ procs_in view bus
same-procs view bus at living one it h =
    map-set_same (proc_in view bus.plans) bus.living.items at one living
    (same-proc view bus.plans it.plan living one it.planned h.proc ∙ ap (proc_in view bus.plans) (sym (get_or_from_slice_get bus.living.items at living living it.here)))

sound-set : {W P T : Type 0} (view : View P W T) (bus : LiveBus W P T) (all : Vec (Living W)) (index : IndexState) (looked : KeptMarks) (at : ℕ) (living one : Living W) (it : LiveAt view bus at living) → IsSound view bus → all.items ≡ slice_set bus.living.items at one →
    IsInPlace view bus it.plan living one → IsRightForAll index all.items → All (IsRested (settings_in bus) bus.stirred index) all.items → IsSound view (record bus { living = all; index = index; looked = looked })
sound-set view bus all index looked at living one it sound e h right rested = record {
  in_order = ap (λ xs. ascend 0 (rows_of xs)) e ∙ ascend-set 0 bus.living.items at living one it.here (ap (λ (p : Proc). p.number) h.proc) ∙ sound.in_order;
  below = subst (All (IsBelow bus.marks.next_number)) (sym e)
      (All-set (IsBelow bus.marks.next_number) bus.living.items at one
      (subst (λ n. n < bus.marks.next_number) (sym (ap (λ (p : Proc). p.number) h.proc)) (all-there (IsBelow bus.marks.next_number) bus.living.items at living sound.below it.here)) sound.below);
  planned = sound.planned;
  live = subst (λ (xs : List (Living _)). (k : ℕ) (d : Living _) → k < length xs → IsLive view bus.plans bus.ticks (get_or xs k d)) (sym e)
      (All-set (IsLive view bus.plans bus.ticks) bus.living.items at one (it.plan, ap (slice_get bus.plans) (ap (λ (p : Proc). p.body) h.proc) ∙ it.planned, h.live) sound.live);
  fresh = λ young. subst (λ (xs : List (Living _)). (k : ℕ) (d : Living _) → k < length xs → IsFreshOr bus.stale.items (get_or xs k d)) (sym e)
      (All-set (IsFreshOr bus.stale.items) bus.living.items at one (h.fresh young) (sound.fresh young));
  lanes = sound.lanes;
  indexed = right;
  rested = rested;
}

pub stands-set : {W P T : Type 0} (view : View P W T) (bus : LiveBus W P T) (all : Vec (Living W)) (index : IndexState) (looked : KeptMarks) (at : ℕ) (living one : Living W) (it : LiveAt view bus at living) → IsSound view bus → all.items ≡ slice_set bus.living.items at one →
    IsInPlace view bus it.plan living one → ((other : ℕ) → other ≢ living.number → KeepsOf bus.index index other) → IsRightFor index one → IsRested (settings_in bus) bus.stirred index one → StandsAs view bus (record bus { living = all; index = index; looked = looked })
stands-set view bus all index looked at living one it sound e h kept right rested = record {
  sound = sound-set view bus all index looked at living one it sound e h
      (right-set bus.index index bus.living.items all.items at living one e sound.in_order it.here (ap (λ (p : Proc). p.number) h.proc) kept right sound.indexed)
      (subst (All (IsRested (settings_in bus) bus.stirred index)) (sym e)
      (each-set (IsRested (settings_in bus) bus.stirred) (rested-kept (settings_in bus) bus.stirred) bus.index index 0 bus.living.items at living one sound.in_order it.here kept rested sound.rested));
  bus = ap (λ (procs : List Proc). let b : Bus = record (bus_of view bus) { procs = procs } in b) (ap (map (proc_in view bus.plans)) e ∙ same-procs view bus at living one it h);
  origin = refl;
  plans = refl;
  marks = refl;
  calm = λ e. e;
}

-- with the same living, the same numbers named and the same index it stands for the same bus, wherever they are kept
pub stands-moved : {W P T : Type 0} (view : View P W T) (bus : LiveBus W P T) (all : Vec (Living W)) (stale : Vec ℕ) (index : IndexState) → IsSound view bus → all.items ≡ bus.living.items → stale.items ≡ bus.stale.items → ((number : ℕ) → KeepsOf bus.index index number) →
    StandsAs view bus (record bus { living = all; stale = stale; index = index })
stands-moved view bus all stale index sound e f kept = record {
  sound = record {
    in_order = ap (λ xs. ascend 0 (rows_of xs)) e ∙ sound.in_order;
    below = subst (λ xs. All (IsBelow bus.marks.next_number) xs) (sym e) sound.below;
    planned = sound.planned;
    live = subst (λ xs. All (IsLive view bus.plans bus.ticks) xs) (sym e) sound.live;
    fresh = λ young. subst (λ (numbers : List ℕ). All (IsFreshOr numbers) all.items) (sym f) (subst (λ xs. All (IsFreshOr bus.stale.items) xs) (sym e) (sound.fresh young));
    lanes = sound.lanes;
    indexed = subst (λ xs. IsRightForAll index xs) (sym e) (all-kept bus.index index bus.living.items kept sound.indexed);
    rested = subst (All (IsRested (settings_in bus) bus.stirred index)) (sym e)
        (All-weaker (IsRested (settings_in bus) bus.stirred bus.index) (IsRested (settings_in bus) bus.stirred index)
        (λ living it. rested-kept (settings_in bus) bus.stirred bus.index index living (kept living.number) it) bus.living.items sound.rested);
  };
  bus = ap (λ (procs : List Proc). let b : Bus = record (bus_of view bus) { procs = procs } in b) (ap (map (proc_in view bus.plans)) e);
  origin = refl;
  plans = refl;
  marks = refl;
  calm = λ e. e;
}

-- with one of them woken or asleep too
pub stands-turned : {W P T : Type 0} (view : View P W T) (bus : LiveBus W P T) (index : IndexState) (roused : Vec ℕ) (at : ℕ) (living : Living W) (awake : Bool) → IsSound view bus → slice_get bus.living.items at ≡ Some living → IsTurned bus.index index living.number awake →
    IsRested (settings_in bus) bus.stirred index living → StandsAs view bus (record bus { index = index; roused = roused })
stands-turned view bus index roused at living awake sound here turned rested = record {
  sound = record {
    in_order = sound.in_order;
    below = sound.below;
    planned = sound.planned;
    live = sound.live;
    fresh = sound.fresh;
    lanes = sound.lanes;
    indexed = all-turned bus.index index awake bus.living.items at living here turned sound.indexed;
    rested = rested-one bus.living.items sound.in_order at living here (settings_in bus) bus.stirred bus.index index (keeps-turned bus.index index living.number awake turned) rested sound.rested;
  };
  bus = refl;
  origin = refl;
  plans = refl;
  marks = refl;
  calm = λ e. e;
}

-- the fields represent the same bus with any list of woken processes
pub stands-roused : {W P T : Type 0} (view : View P W T) (old bus : LiveBus W P T) (roused : Vec ℕ) → StandsAs view old bus → StandsAs view old (record bus { roused = roused })
stands-roused view old bus roused same = record {
  sound = record {
    in_order = same.sound.in_order;
    below = same.sound.below;
    planned = same.sound.planned;
    live = same.sound.live;
    fresh = same.sound.fresh;
    lanes = same.sound.lanes;
    indexed = same.sound.indexed;
    rested = same.sound.rested;
  };
  bus = same.bus;
  origin = same.origin;
  plans = same.plans;
  marks = same.marks;
  calm = same.calm;
}

-- if each sleeping process rests by the tools as they are now, the fields represent the same bus without `stirred`
pub stands-settled : {W P T : Type 0} (view : View P W T) (old bus : LiveBus W P T) → StandsAs view old bus → AreSettled bus → StandsAs view old (record bus { stirred = false })
stands-settled view old bus same settled = record {
  sound = record {
    in_order = same.sound.in_order;
    below = same.sound.below;
    planned = same.sound.planned;
    live = same.sound.live;
    fresh = same.sound.fresh;
    lanes = same.sound.lanes;
    indexed = same.sound.indexed;
    rested = settled;
  };
  bus = same.bus;
  origin = same.origin;
  plans = same.plans;
  marks = same.marks;
  calm = λ e. refl;
}

-- the same bus as one that stands for the same bus
pub stands-then : {W P T : Type 0} (view : View P W T) (old bus new : LiveBus W P T) → StandsAs view old bus → StandsAs view bus new → StandsAs view old new
stands-then view old bus new first then = record { sound = then.sound; bus = then.bus ∙ first.bus; origin = then.origin ∙ first.origin; plans = then.plans ∙ first.plans; marks = then.marks ∙ first.marks; calm = λ e. then.calm (first.calm e) }

-- what was named from an index on is the number there, or named behind it
pub named-from : {W : Type 0} (stale : List ℕ) (index number : ℕ) (all : List (Living W)) → index < length stale → number ≡ get_or stale index number → All (IsFreshOr (drop index stale)) all → All (IsFreshOr (number ∷ drop (index + 1) stale)) all
named-from stale index number all within is h =
    let prefix : drop index stale ≡ number ∷ drop (index + 1) stale = rw (add-one, drop-cons stale index number) (ap (λ n. n ∷ drop (suc index) stale) (sym is)) in
    subst (λ (numbers : List ℕ). All (IsFreshOr numbers) all) prefix h
