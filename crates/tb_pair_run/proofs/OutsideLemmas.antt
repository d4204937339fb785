-- What was to be seen of the outside of a pair, said in another way; and a pair that didn't begin.
use Rattle.std.proofs.Common.{◌≡◌, ◌≤◌, ℕ, suc, List, [], ◌∷◌, length, map, Option, refl, sym, ap, ◌∙◌, subst, arith}
use Rattle.std.specs.Prelude.{IsTrue}
use Rattle.std.specs.List.{list_all}
use Rattle.tb_edge.specs.Ends.{ClockView, InletView}
use Rattle.tb_edge.specs.declared.given.Taken.{Taken}
use Rattle.tb_log.specs.Proper.{is_proper_entry}
use Rattle.tb_log.specs.declared.entry.Entry.{Entry}
use Rattle.tb_bus.specs.declared.origin.Origin.{Origin}
use Rattle.tb_core.specs.Cores.{CoreState}
use Rattle.tb_lock.specs.Seats.{SeatView}
use Rattle.tb_lock.specs.Calls.{Closes}
use Rattle.tb_lock.proofs.HistoryLemmas.{sparse_nil}
use Rattle.tb_run.specs.Outcomes.{IsRunOf}
use Rattle.tb_run.specs.Views.{LaneView, lane_view, views}
use Rattle.tb_run.proofs.OutsideLemmas.{views_of}
use Rattle.tb_pair_run.specs.Helpers.Running.{HasCome, IsBack, RunsFromTwo}
use Rattle.tb_pair_run.specs.Outcomes.{IsLogOf, PairRuns}
use Rattle.tb_pair_run.specs.Views.{IsUnused, PairView, pair_of}
use Rattle.tb_pair_run.specs.declared.ends.PairWhy.{PairWhy}
use Rattle.tb_pair_run.specs.declared.ends.PairWhy.TheVariants as pair
use Rattle.tb_pair_run.proofs.IdleLemmas.{no_memory}

pub runs_pairs : (most : ℕ) (a a' b b' c c' d d' : List LaneView) (clock clock' : Option ClockView) (faults faults' crew crew' : ℕ) (one other : Origin) (back others_back : CoreState) (it : PairWhy) → a ≡ a' → b ≡ b' → c ≡ c' → d ≡ d'
    → PairRuns most (pair_of a b clock faults crew) (pair_of c d clock' faults' crew') one other back others_back it → PairRuns most (pair_of a' b' clock faults crew) (pair_of c' d' clock' faults' crew') one other back others_back it
runs_pairs most a a' b b' c c' d d' clock clock' faults faults' crew crew' one other back others_back it e f g h r =
    subst (λ (l : List LaneView). PairRuns most (pair_of a' b' clock faults crew) (pair_of c' l clock' faults' crew') one other back others_back it) h
    (subst (λ (l : List LaneView). PairRuns most (pair_of a' b' clock faults crew) (pair_of l d clock' faults' crew') one other back others_back it) g
    (subst (λ (l : List LaneView). PairRuns most (pair_of a' l clock faults crew) (pair_of c d clock' faults' crew') one other back others_back it) f
    (subst (λ (l : List LaneView). PairRuns most (pair_of l b clock faults crew) (pair_of c d clock' faults' crew') one other back others_back it) e r)))

-- the log of a core whose seat has closed it
log_of : (origin : Origin) (begun last : SeatView) (core : CoreState) → begun.origin ≡ origin → IsBack begun last → Closes last core → length core.log ≤ core.origin.limit → IsTrue (list_all is_proper_entry core.log) → IsLogOf origin core
log_of origin begun last core is back closes within proper = record {
  origin_is = closes.origin ∙ (back.origin ∙ is);
  history = subst (λ (o : Origin). IsRunOf o core.log) (sym closes.origin) (subst (IsRunOf last.origin) (sym closes.log) (record { trace = back.sees.trace; sparse = back.sees.sparse }));
  proper = proper;
  within = within;
}

-- both buses were closed
pub pair_closed : (most : ℕ) (old new : PairView) (begun last others_begun others_last : SeatView) (core others_core : CoreState) (it : PairWhy) → HasCome most old new begun last others_begun others_last it → Closes last core → Closes others_last others_core
    → length core.log ≤ core.origin.limit → length others_core.log ≤ others_core.origin.limit → IsTrue (list_all is_proper_entry core.log) → IsTrue (list_all is_proper_entry others_core.log)
    → RunsFromTwo most old new begun.origin others_begun.origin core others_core it
pair_closed most old new begun last others_begun others_last core others_core it come closes others_closes few others_few proper others_proper = record {
  runs = λ lane lane' other other' unused others_unused. record {
    first = log_of begun.origin begun last core refl come.first closes few proper;
    second = log_of others_begun.origin others_begun others_last others_core refl come.second others_closes others_few others_proper;
    outcome = come.outcome core others_core closes others_closes few others_few lane lane' other other' unused others_unused;
    tells = come.tells core others_core closes others_closes few others_few lane lane' other other' unused others_unused;
  };
}

-- a core that has logged nothing
log_none : (origin : Origin) (core : CoreState) → core.origin ≡ origin → core.log ≡ [] → IsLogOf origin core
log_none origin core is none = record {
  origin_is = is;
  history = subst (IsRunOf core.origin) (sym none) (record { trace = tt; sparse = sparse_nil });
  proper = subst (λ (l : List Entry). IsTrue (list_all is_proper_entry l)) (sym none) refl;
  within = subst (λ (l : List Entry). length l ≤ core.origin.limit) (sym none) (let z : length {A = Entry} [] ≤ core.origin.limit = omega arith in z);
}

-- two cores that are handed back as they were
pub not_begun : (most : ℕ) (view : PairView) (origin others_origin : Origin) (core others_core : CoreState) → core.origin ≡ origin → others_core.origin ≡ others_origin → core.log ≡ [] → others_core.log ≡ []
    → RunsFromTwo most view view origin others_origin core others_core pair.NoMemory
not_begun most view origin others_origin core others_core is others_is none others_none = record {
  runs = λ lane lane' other other' unused others_unused. record {
    first = log_none origin core is none;
    second = log_none others_origin others_core others_is others_none;
    outcome = no_memory most view.lanes view.lanes view.others view.others view.clock view.clock view.clock_faults view.clock_faults view.crew_faults view.crew_faults refl refl refl lane lane' other other' unused others_unused core others_core none others_none;
    tells = tt;
  };
}

pub unused_same : (lane : LaneView) → IsUnused lane lane
unused_same lane = record { gave = refl; inlet_faults = refl; took = refl; outlet_faults = omega arith }

-- two cores that are handed back as they were, beside lists of lanes that are there
pub not_begun_so : (most n m : ℕ) (a b : List LaneView) (clock : Option ClockView) (faults crew : ℕ) (core others_core : CoreState) → length a ≡ suc n → length b ≡ suc m → core.log ≡ [] → others_core.log ≡ []
    → PairRuns most (pair_of a b clock faults crew) (pair_of a b clock faults crew) core.origin others_core.origin core others_core pair.NoMemory
not_begun_so most n m [] b clock faults crew core others_core i j none others_none = absurd (omega (arith, i))
not_begun_so most n m (x ∷ a) [] clock faults crew core others_core i j none others_none = absurd (omega (arith, j))
not_begun_so most n m (x ∷ a) (y ∷ b) clock faults crew core others_core i j none others_none =
    let not_begun_here : RunsFromTwo most (pair_of a b clock faults crew) (pair_of a b clock faults crew) core.origin others_core.origin core others_core pair.NoMemory = not_begun most (pair_of a b clock faults crew) core.origin others_core.origin core others_core refl refl none others_none in
    not_begun_here.runs x x y y (unused_same x) (unused_same y)

-- a lane whose two ends aren't used, but that its outlet is closed
unused_ends : {X Y : Type 0} (gave : X → Option InletView) (fails : X → ℕ) (took : Y → Option (List Taken)) (faults : Y → ℕ) (x x' : X) (y y' : Y) → x' ≡ x → took y' ≡ took y → faults y ≤ faults y'
    → IsUnused (lane_view gave fails took faults x y) (lane_view gave fails took faults x' y')
unused_ends gave fails took faults x x' y y' same kept rose = record { gave = ap gave same; inlet_faults = ap fails same; took = kept; outlet_faults = rose }

-- the ends of the lanes of a bus in two lists, that of the pair at place 1 apart
pub record StandsApart {X Y T : Type 0} (inlet : T → X) (outlet : T → Y) (pairs : List T) (x : X) (y : Y) (is : List X) (os : List Y) : Type 0 where
  pub inlets : map inlet pairs ≡ x ∷ is
  pub outlets : map outlet pairs ≡ y ∷ os

pub apart_views : {X Y T : Type 0} (gave : X → Option InletView) (fails : X → ℕ) (took : Y → Option (List Taken)) (faults : Y → ℕ) (inlet : T → X) (outlet : T → Y) (pairs : List T) (x : X) (y : Y) (is : List X) (os : List Y) → StandsApart inlet outlet pairs x y is os
    → lane_view gave fails took faults x y ∷ views gave fails took faults is os ≡ map (λ (t : T). lane_view gave fails took faults (inlet t) (outlet t)) pairs
apart_views gave fails took faults inlet outlet pairs x y is os apart = views_of gave fails took faults inlet outlet pairs (x ∷ is) (y ∷ os) (sym apart.inlets) (sym apart.outlets)

-- the lanes from 2 on were run, and those of place 1 weren't used
pub pair_was_run : {X Y T : Type 0} (gave : X → Option InletView) (fails : X → ℕ) (took : Y → Option (List Taken)) (faults : Y → ℕ) (inlet : T → X) (outlet : T → Y) (most : ℕ) (clock clock' : Option ClockView) (clock_faults clock_faults' crew crew' : ℕ)
    (one other : Origin) (back others_back : CoreState) (it : PairWhy) (old new others_old others_new : List T) (x x' p p' : X) (y y' q q' : Y) (is is' ps ps' : List X) (os os' qs qs' : List Y)
    → StandsApart inlet outlet old x y is os → StandsApart inlet outlet new x' y' is' os' → StandsApart inlet outlet others_old p q ps qs → StandsApart inlet outlet others_new p' q' ps' qs'
    → x' ≡ x → took y' ≡ took y → faults y ≤ faults y' → p' ≡ p → took q' ≡ took q → faults q ≤ faults q'
    → RunsFromTwo most (pair_of (views gave fails took faults is os) (views gave fails took faults ps qs) clock clock_faults crew) (pair_of (views gave fails took faults is' os') (views gave fails took faults ps' qs') clock' clock_faults' crew') one other back others_back it
    → PairRuns most (pair_of (map (λ (t : T). lane_view gave fails took faults (inlet t) (outlet t)) old) (map (λ (t : T). lane_view gave fails took faults (inlet t) (outlet t)) others_old) clock clock_faults crew)
    (pair_of (map (λ (t : T). lane_view gave fails took faults (inlet t) (outlet t)) new) (map (λ (t : T). lane_view gave fails took faults (inlet t) (outlet t)) others_new) clock' clock_faults' crew') one other back others_back it
pair_was_run gave fails took faults inlet outlet most clock clock' clock_faults clock_faults' crew crew' one other back others_back it old new others_old others_new x x' p p' y y' q q' is is' ps ps' os os' qs qs' stood stands others_stood others_stand same kept rose others_same others_kept others_rose ran =
    runs_pairs most _ _ _ _ _ _ _ _ clock clock' clock_faults clock_faults' crew crew' one other back others_back it
    (apart_views gave fails took faults inlet outlet old x y is os stood) (apart_views gave fails took faults inlet outlet others_old p q ps qs others_stood)
    (apart_views gave fails took faults inlet outlet new x' y' is' os' stands) (apart_views gave fails took faults inlet outlet others_new p' q' ps' qs' others_stand)
    (ran.runs (lane_view gave fails took faults x y) (lane_view gave fails took faults x' y') (lane_view gave fails took faults p q) (lane_view gave fails took faults p' q')
    (unused_ends gave fails took faults x x' y y' same kept rose) (unused_ends gave fails took faults p p' q q' others_same others_kept others_rose))
