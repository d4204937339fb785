-- A bus whose lanes change. It may also shut down, but nothing else changes.
use Rattle.std.proofs.Common.{◌≡◌, ℕ, ◌<◌, ◌||◌, List, length, refl, ap, sym, subst, ◌∙◌, Bool, true, false, Contains}
use Rattle.std.specs.Global.{Vec}
use Rattle.tb_terms.specs.declared.term.Term.{Term}
use Rattle.tb_body.specs.declared.program.Tool.{Tool as ToolKind}
use Rattle.tb_process_steps.specs.WalkerViews.{View}
use Rattle.tb_log.specs.declared.entry.ToolLine.{ToolLine}
use Rattle.tb_tools.specs.Inputs.{put_line}
use Rattle.tb_tools.specs.Lanes.{BenchState}
use Rattle.tb_bus.specs.Buses.{Bus}
use Rattle.tb_bus.specs.Effects.{Change, Effect, SetsBench, GoesDown, changed, speaking, went_down}
use Rattle.tb_bus.specs.Exchanges.{bench_after}
use Rattle.tb_bus.specs.declared.action.ToolAction.{ToolAction}
use Rattle.tb_bus.specs.declared.exchange.Exchange.{Exchange}
use Rattle.tb_search.specs.Candidates.{row_at, rows_of}
use Rattle.tb_search.specs.declared.living.Living.{Living}
use Rattle.tb_living.specs.Spoken.{CanSpeak, IsDone, around}
use Rattle.tb_core.specs.Helpers.LiveBuses.{IsChanged, IsKept, IsSound, StandsAs, bus_of, settings_in}
use Rattle.tb_living.proofs.RestLemmas.{rested-stirred}
use Rattle.tb_living.specs.declared.done.Done.{Done}
use Rattle.tb_core.specs.declared.bus.LiveBus.{LiveBus}
use Rattle.tb_core.proofs.HoldLemmas.{changed-since}
use Rattle.tb_core.proofs.MakeLemmas.{kept-same}

-- once its lanes have changed
pub sound-bench : {W P T : Type 0} (view : View P W T) (bus : LiveBus W P T) (bench : BenchState) → IsSound view bus → length bench.lanes ≡ 16 → IsSound view (record bus { bench = bench; stirred = true })
sound-bench view bus bench sound long = record {
  in_order = sound.in_order;
  below = sound.below;
  planned = sound.planned;
  live = sound.live;
  fresh = sound.fresh;
  lanes = long;
  indexed = sound.indexed;
  rested = rested-stirred (settings_in bus) (settings_in (record bus { bench = bench })) bus.stirred bus.index bus.living.items sound.rested;
}

pub sound-down : {W P T : Type 0} (view : View P W T) (bus : LiveBus W P T) (bench : BenchState) → IsSound view bus → length bench.lanes ≡ 16 → IsSound view (record bus { bench = bench; stirred = true; marks = record bus.marks { down = true } })
sound-down view bus bench sound long =
    let still = sound-bench view bus bench sound long in
    record {
      in_order = still.in_order;
      below = still.below;
      planned = still.planned;
      live = still.live;
      fresh = still.fresh;
      lanes = still.lanes;
      indexed = still.indexed;
      rested = still.rested;
    }

-- it stands for the same bus where the lanes are the same
pub stands-bench : {W P T : Type 0} (view : View P W T) (bus : LiveBus W P T) (bench : BenchState) → IsSound view bus → bench ≡ bus.bench → StandsAs view bus (record bus { bench = bench })
stands-bench view bus bench sound e = record {
  sound = subst (λ (b : BenchState). IsSound view (record bus { bench = b })) (sym e) sound;
  bus = ap (λ (b : BenchState). let same : Bus = record (bus_of view bus) { bench = b } in same) e;
  origin = refl;
  plans = refl;
  marks = refl;
  calm = λ e. e;
}

or-true : (b : Bool) → (b || true) ≡ true
or-true true = refl
or-true false = refl

or-false : (b : Bool) → (b || false) ≡ b
or-false true = refl
or-false false = refl

-- the bus stays sound with other lanes if `stirred` is set, or if each sleeping process rests by these lanes
pub sound-if : {W P T : Type 0} (view : View P W T) (bus : LiveBus W P T) (bench : BenchState) (stirs : Bool) → IsSound view bus → length bench.lanes ≡ 16 → (stirs ≡ false → IsSound view (record bus { bench = bench })) →
    IsSound view (record bus { bench = bench; stirred = bus.stirred || stirs })
sound-if view bus bench true sound long quiet = subst (λ b. IsSound view (record bus { bench = bench; stirred = b })) (sym (or-true bus.stirred)) (sound-bench view bus bench sound long)
sound-if view bus bench false sound long quiet = subst (λ b. IsSound view (record bus { bench = bench; stirred = b })) (sym (or-false bus.stirred)) (quiet refl)

-- the change of an effect that sets the lanes was made
bench-changed : {W P T : Type 0} (view : View P W T) (bus : LiveBus W P T) (at : ℕ) (bench : BenchState) (stirs : Bool) (effect : Effect) → IsSound view bus → at < length bus.living.items → length bench.lanes ≡ 16 →
    (stirs ≡ false → IsSound view (record bus { bench = bench })) → effect.change ≡ SetsBench bench → IsChanged view bus at effect (record bus { bench = bench; stirred = bus.stirred || stirs })
bench-changed view bus at bench stirs effect sound within long quiet e = record {
  sound = sound-if view bus bench stirs sound long quiet;
  bus = sym (ap (λ (c : Change). changed c (row_at (rows_of bus.living.items) at).number (bus_of view bus)) e);
  origin = refl;
  plans = refl;
  kept = kept-same bus.living.items at within;
  named = λ number h. h;
}

-- and of one by which the bus goes down
pub down-changed : {W P T : Type 0} (view : View P W T) (old new : LiveBus W P T) (at : ℕ) (reason : Term) (effect : Effect) → IsSound view new → new.origin ≡ old.origin → new.plans ≡ old.plans → new.living ≡ old.living → new.stale ≡ old.stale →
    bus_of view new ≡ went_down reason (bus_of view old) → at < length old.living.items → effect.change ≡ GoesDown reason → IsChanged view old at effect new
down-changed view old new at reason effect sound origin plans living stale went within e = record {
  sound = sound;
  bus = went ∙ sym (ap (λ (c : Change). changed c (row_at (rows_of old.living.items) at).number (bus_of view old)) e);
  origin = origin;
  plans = plans;
  kept = subst (λ all. IsKept old.living.items all.items at) (sym living) (kept-same old.living.items at within);
  named = λ number h. subst (λ numbers. Contains numbers.items number) (sym stale) h;
}

-- A bus in which some were roused before its lanes changed.
module _ {W P T : Type 0} (view : View P W T) (old mid new : LiveBus W P T) (same : StandsAs view old mid) (alone : mid ≡ record old { index = mid.index; roused = mid.roused })
    (bench : BenchState) (stirs : Bool) (is : new ≡ record mid { bench = bench; stirred = mid.stirred || stirs }) where
  -- who speaks with a tool changes the lanes
  pub spoken-changed : (at : ℕ) (does : ToolAction) (exchange : Exchange) (kinds : List ToolKind) → kinds ≡ mid.origin.program.tools → bench ≡ bench_after (around kinds mid.bench) does exchange → length bench.lanes ≡ 16 →
      (stirs ≡ false → IsSound view (record mid { bench = bench_after (around old.origin.program.tools old.bench) does exchange })) → at < length old.living.items →
      IsChanged view old at (speaking (around old.origin.program.tools old.bench) does exchange) new
  spoken-changed at does exchange kinds tools after long quiet within =
      let spoken : Effect = speaking (around old.origin.program.tools old.bench) does exchange in
      let lanes : mid.bench ≡ old.bench = ap (λ (b : LiveBus W P T). b.bench) alone in
      let living : mid.living ≡ old.living = ap (λ (b : LiveBus W P T). b.living) alone in
      let stale : mid.stale ≡ old.stale = ap (λ (b : LiveBus W P T). b.stale) alone in
      let there : bench ≡ bench_after (around old.origin.program.tools old.bench) does exchange =
      after ∙ ap (λ ks. bench_after (around ks mid.bench) does exchange) (tools ∙ ap (λ (b : LiveBus W P T). b.origin.program.tools) alone)
      ∙ ap (λ (b : BenchState). bench_after (around old.origin.program.tools b) does exchange) lanes in
      let set : spoken.change ≡ SetsBench bench = ap SetsBench (sym there) in
      subst (IsChanged view old at spoken) (sym is)
      (changed-since view old mid (record mid { bench = bench; stirred = mid.stirred || stirs }) at spoken same living stale
      (bench-changed view mid at bench stirs spoken same.sound (subst (λ (all : Vec (Living W)). at < length all.items) (sym living) within) long
      (λ calm. subst (λ (b : BenchState). IsSound view (record mid { bench = b })) (sym there) (quiet calm)) set))

  -- it stands for a bus with other lanes
  pub bus-since : bus_of view new ≡ record (bus_of view old) { bench = bench }
  bus-since = ap (bus_of view) is ∙ ap (λ (b : Bus). let it : Bus = record b { bench = bench } in it) same.bus

  pub sound-since : length bench.lanes ≡ 16 → (stirs ≡ false → IsSound view (record mid { bench = bench })) → IsSound view new
  sound-since long quiet = subst (IsSound view) (sym is) (sound-if view mid bench stirs same.sound long quiet)

  pub origin-since : new.origin ≡ old.origin
  origin-since = ap (λ (b : LiveBus W P T). b.origin) is ∙ same.origin

pub spoken-done : (does : ToolAction) (exchange : Exchange) (kinds tools : List ToolKind) (before bench : BenchState) (done : Done) → kinds ≡ tools → before ≡ bench → IsDone (speaking (around kinds before) does exchange) done → IsDone (speaking (around tools bench) does exchange) done
spoken-done does exchange kinds tools before bench done e f is =
    subst (λ (b : BenchState). IsDone (speaking (around tools b) does exchange) done) f (subst (λ ks. IsDone (speaking (around ks before) does exchange) done) e is)

pub can-speak : (does : ToolAction) (exchange : Exchange) (kinds tools : List ToolKind) (before bench : BenchState) → kinds ≡ tools → before ≡ bench → CanSpeak tools bench does exchange → CanSpeak kinds before does exchange
can-speak does exchange kinds tools before bench e f can = subst (λ (b : BenchState). CanSpeak kinds b does exchange) (sym f) (subst (λ ks. CanSpeak ks bench does exchange) (sym e) can)

-- a line that was copied does the same
pub line-same : (declared its : Bool) (copied line : ToolLine) (lane : ℕ) (before bench : BenchState) → declared ≡ its → copied ≡ line → before ≡ bench → put_line declared copied lane before ≡ put_line its line lane bench
line-same declared its copied line lane before bench e f g =
    ap (λ d. put_line d copied lane before) e ∙ ap (λ (l : ToolLine). put_line its l lane before) f ∙ ap (λ (b : BenchState). put_line its line lane b) g
