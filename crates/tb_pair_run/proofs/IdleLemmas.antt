-- A pair that didn't begin: nothing was logged, and the outside is as it was.
use Rattle.std.proofs.Common.{◌≡◌, ◌+◌, ℕ, List, [], ◌∷◌, false, Option, refl, sym, ap, ◌∙◌, subst, inl, inr, arith}
use Rattle.std.specs.Prelude.{⊤}
use Rattle.tb_edge.specs.Ends.{ClockView}
use Rattle.tb_edge.specs.Faults.{Rose}
use Rattle.tb_log.specs.declared.entry.Entry.{Entry}
use Rattle.tb_core.specs.Cores.{CoreState}
use Rattle.tb_lock.specs.Seats.{SeatView, first_seat}
use Rattle.tb_lock.specs.Calls.{Closes}
use Rattle.tb_run.specs.declared.ends.RunWhy.{RunWhy}
use Rattle.tb_run.specs.declared.ends.RunWhy.TheVariants as run
use Rattle.tb_run.specs.Outcomes.{LaneStopped, is_of}
use Rattle.tb_run.specs.Running.{FailsFor}
use Rattle.tb_run.specs.Views.{EachLane, LaneView}
use Rattle.tb_run.proofs.ReadLemmas.{and_given_none}
use Rattle.tb_run.proofs.TickLemmas.{ticked_none}
use Rattle.tb_run.proofs.WorkedLemmas.{sees_nothing}
use Rattle.tb_run.proofs.WriteLemmas.{and_taken_none}
use Rattle.tb_pair.specs.Clocks.{ClockPasses, TimePasses}
use Rattle.tb_pair.specs.Passing.{Passes}
use Rattle.tb_pair.proofs.OnceLemmas.{awaits_none, once_none}
use Rattle.tb_pair.proofs.PipeLemmas.{dropped_none}
use Rattle.tb_pair_run.specs.Helpers.Reasons.{no_crew}
use Rattle.tb_pair_run.specs.Helpers.Running.{HasCome, IsBack, with_first}
use Rattle.tb_pair_run.specs.Outcomes.{NothingDone, PairOutcome, TellsFirst}
use Rattle.tb_pair_run.specs.Views.{IsSame, IsUnused, PairView, pair_of}
use Rattle.tb_pair_run.specs.declared.ends.BusWhy.TheVariants as bus
use Rattle.tb_pair_run.specs.declared.ends.PairWhy.TheVariants as pair

-- a lane that nothing has happened to
lane_same : (lane : ℕ) (view : LaneView) → LaneStopped [] lane view view
lane_same lane view = record {
  fed = [];
  last = [];
  over = false;
  gave = sym (and_given_none view.gave);
  lines = tt;
  one = omega arith;
  whole = λ over. refl;
  put = [];
  lost = [];
  handed = refl;
  took = sym (and_taken_none view.took);
  one_lost = omega arith;
  failed = inl refl;
  cuts = inl (omega arith);
}

lanes_same : (lane : ℕ) (views : List LaneView) → EachLane (LaneStopped []) lane views views
lanes_same lane [] = tt
lanes_same lane (view ∷ views) = (lane_same lane view, lanes_same (lane + 1) views)

views_same : (lane : ℕ) (views : List LaneView) → EachLane IsSame lane views views
views_same lane [] = tt
views_same lane (view ∷ views) = (refl, views_same (lane + 1) views)

nothing_passed : Passes [] [] ⊤ ⊤
nothing_passed = record {
  rest = [];
  prefix = refl;
  no_cut = refl;
  others_no_cut = refl;
  first = awaits_none;
  others_first = awaits_none;
  others_once = once_none [] (dropped_none (is_of 1));
  names = inr (refl, tt);
  leaves = false;
  others_names = inr (refl, refl, tt);
  whole = λ e. refl;
  why = inr (inr tt);
  exact = inl refl;
}

no_time : (most : ℕ) (Failed : Type 0) → TimePasses [] most 0 false Failed ⊤
no_time most Failed = record {
  within = omega arith;
  all = inl refl;
  time = record { first = []; tail = []; is = refl; ticks = tt; last = inl refl };
  once = inl tt;
  why = inl refl;
  read = inr tt;
  word = inr (inr tt);
}

no_clock : (most : ℕ) (clock : Option ClockView) (Failed : Type 0) → ClockPasses most [] [] clock clock Failed ⊤ ⊤
no_clock most clock Failed = record {
  given = 0;
  ended = false;
  told = sym (ticked_none clock);
  within = omega arith;
  first = no_time most Failed;
  second = no_time most Failed;
  fully = inl (inl refl);
}

module _ (most : ℕ) (lanes lanes' others others' : List LaneView) (clock clock' : Option ClockView) (faults faults' crew crew' : ℕ) (same : lanes' ≡ lanes) (others_same : others' ≡ others) (clock_same : clock' ≡ clock)
    (lane lane' other other' : LaneView) (unused : IsUnused lane lane') (others_unused : IsUnused other other') (core others_core : CoreState) (none : core.log ≡ []) (others_none : others_core.log ≡ []) where
  abbrev Old : PairView
  Old = pair_of (lane ∷ lanes) (other ∷ others) clock faults crew

  abbrev New : PairView
  New = pair_of (lane' ∷ lanes') (other' ∷ others') clock' faults' crew'

  stopped_lanes : EachLane (LaneStopped core.log) 2 lanes lanes'
  stopped_lanes = subst (λ (l : List Entry). EachLane (LaneStopped l) 2 lanes lanes') (sym none) (subst (EachLane (LaneStopped []) 2 lanes) (sym same) (lanes_same 2 lanes))

  stopped_others : EachLane (LaneStopped others_core.log) 2 others others'
  stopped_others = subst (λ (l : List Entry). EachLane (LaneStopped l) 2 others others') (sym others_none) (subst (EachLane (LaneStopped []) 2 others) (sym others_same) (lanes_same 2 others))

  pub no_memory : PairOutcome most Old New core others_core pair.NoMemory
  no_memory = record {
    why = bus.NoMemory;
    others_why = bus.NoMemory;
    is = refl;
    ran = record {
      first = (unused, stopped_lanes);
      second = (others_unused, stopped_others);
      pipe = subst (λ (l : List Entry). Passes l others_core.log ⊤ ⊤) (sym none) (subst (λ (l : List Entry). Passes [] l ⊤ ⊤) (sym others_none) nothing_passed);
      clock = subst (λ (c : Option ClockView). ClockPasses most core.log others_core.log clock c (Rose faults faults') ⊤ ⊤) (sym clock_same)
          (subst (λ (l : List Entry). ClockPasses most l others_core.log clock clock (Rose faults faults') ⊤ ⊤) (sym none)
          (subst (λ (l : List Entry). ClockPasses most [] l clock clock (Rose faults faults') ⊤ ⊤) (sym others_none) (no_clock most clock (Rose faults faults'))));
    };
  }

  pub nothing_done : NothingDone Old New core others_core
  nothing_done = record {
    log = none;
    others_log = others_none;
    lanes = (unused, subst (EachLane IsSame 2 lanes) (sym same) (views_same 2 lanes));
    others = (others_unused, subst (EachLane IsSame 2 others) (sym others_same) (views_same 2 others));
    clock = clock_same;
  }

-- the seats that are closed have seen nothing
module _ (most : ℕ) (lanes lanes' others others' : List LaneView) (clock clock' : Option ClockView) (faults faults' crew crew' : ℕ) (same : lanes' ≡ lanes) (others_same : others' ≡ others) (clock_same : clock' ≡ clock)
    (begun last others_begun others_last : SeatView) (back : IsBack begun last) (others_back : IsBack others_begun others_last) (none : last.seen ≡ []) (others_none : others_last.seen ≡ []) where
  abbrev Before : PairView
  Before = pair_of lanes others clock faults crew

  abbrev After : PairView
  After = pair_of lanes' others' clock' faults' crew'

  outcome : (w : RunWhy) → FailsFor w crew crew' → (core others_core : CoreState) → Closes last core → Closes others_last others_core → (lane lane' other other' : LaneView) → IsUnused lane lane' → IsUnused other other'
      → PairOutcome most (with_first lane other Before) (with_first lane' other' After) core others_core (no_crew w)
  outcome run.Crew f core others_core c o lane lane' other other' u v =
      (nothing_done most lanes lanes' others others' clock clock' faults faults' crew crew' same others_same clock_same lane lane' other other' u v core others_core (c.log ∙ none) (o.log ∙ others_none), f)
  outcome run.NoMemory f core others_core c o lane lane' other other' u v =
      no_memory most lanes lanes' others others' clock clock' faults faults' crew crew' same others_same clock_same lane lane' other other' u v core others_core (c.log ∙ none) (o.log ∙ others_none)
  outcome run.Ended f core others_core c o lane lane' other other' u v = absurd f
  outcome run.Clock f core others_core c o lane lane' other other' u v = absurd f
  outcome run.Out f core others_core c o lane lane' other other' u v = absurd f
  outcome run.Events f core others_core c o lane lane' other other' u v = absurd f

  tells : (w : RunWhy) → FailsFor w crew crew' → faults' ≡ faults → (lane lane' other other' : LaneView) → TellsFirst (with_first lane other Before) (with_first lane' other' After) (no_crew w)
  tells run.Crew f calm lane lane' other other' = (f, calm)
  tells run.NoMemory f calm lane lane' other other' = tt
  tells run.Ended f calm lane lane' other other' = absurd f
  tells run.Clock f calm lane lane' other other' = absurd f
  tells run.Out f calm lane lane' other other' = absurd f
  tells run.Events f calm lane lane' other other' = absurd f

  pub uncrewed : (w : RunWhy) → FailsFor w crew crew' → faults' ≡ faults → HasCome most Before After begun last others_begun others_last (no_crew w)
  uncrewed w f calm = record {
    first = back;
    second = others_back;
    outcome = λ core others_core c o few others_few lane lane' other other' u v. outcome w f core others_core c o lane lane' other other' u v;
    tells = λ core others_core c o few others_few lane lane' other other' u v. tells w f calm lane lane' other other';
  }

-- a first seat that wasn't parted
first_back : (begun : SeatView) → begun ≡ first_seat begun.bus begun.origin → IsBack begun begun
first_back begun first = record { bus = refl; origin = refl; rights = ap (λ (s : SeatView). s.rights) first; room = ap (λ (s : SeatView). s.room) first; sees = sees_nothing begun (ap (λ (s : SeatView). s.seen) first) }

pub unparted : (most : ℕ) (view : PairView) (begun others_begun : SeatView) → begun ≡ first_seat begun.bus begun.origin → others_begun ≡ first_seat others_begun.bus others_begun.origin → HasCome most view view begun begun others_begun others_begun pair.NoMemory
unparted most view begun others_begun first others_first =
    uncrewed most view.lanes view.lanes view.others view.others view.clock view.clock view.clock_faults view.clock_faults view.crew_faults view.crew_faults refl refl refl begun begun others_begun others_begun
    (first_back begun first) (first_back others_begun others_first) (ap (λ (s : SeatView). s.seen) first) (ap (λ (s : SeatView). s.seen) others_first) run.NoMemory tt refl
