-- If all processes of a sound bus are fresh, its rows have the ready actions of each process.
use Rattle.std.proofs.Common.{◌≡◌, ◌<◌, ℕ, List, [], ◌∷◌, length, map, refl, ap, sym, subst, ◌∙◌, true, get_or}
use Rattle.std.proofs.lemmas.List.Elements.{All-head, All-tail}
use Rattle.tb_body.specs.declared.body.Body.{Body}
use Rattle.tb_process_steps.specs.Offers.{offers}
use Rattle.tb_process_steps.specs.WalkerViews.{View}
use Rattle.tb_search.specs.Candidates.{readies, row_of, rows_of}
use Rattle.tb_search.specs.Views.{AreRowsOf, IsRowOf, IsSearchedFor}
use Rattle.tb_search.specs.declared.living.Living.{Living}
use Rattle.tb_living.specs.Lives.{IsLive, term_in, proc_by, proc_in, procs_of, AreFresh}
use Rattle.tb_core.specs.Helpers.LiveBuses.{IsSound, bus_of, scene_in}
use Rattle.tb_core.specs.declared.bus.LiveBus.{LiveBus}
use Rattle.tb_living.proofs.ReadLemmas.{plan-atoms}
use Rattle.tb_core.proofs.FreshLemmas.{offers-alive}

row-of : {W P T : Type 0} (view : View P W T) (plans : List P) (bodies : List Body) (now : ℕ) (living : Living W) → map view.body_of plans ≡ bodies → IsLive view plans now living → living.fresh ≡ true → IsRowOf bodies now (row_of living) (proc_in view plans living)
row-of view plans bodies now living e h fresh =
    let walking = view.walking h.0 living.walker in
    subst (λ o. IsRowOf bodies now (row_of living) (proc_by view o living)) (sym h.1) (record {
      number = refl;
      body = refl;
      inbox = refl;
      ready = (h.2.ready fresh).ready
          ∙ ap (readies (view.body_of h.0).atoms now 0) (offers-alive walking h.2.alive)
          ∙ ap (λ atoms. readies atoms now 0 (offers (term_in walking.term) walking.store)) (sym (plan-atoms view.body_of plans bodies living.body h.0 e h.1));
    })

rows-of : {W P T : Type 0} (view : View P W T) (plans : List P) (bodies : List Body) (now : ℕ) (all : List (Living W)) → map view.body_of plans ≡ bodies →
    ((k : ℕ) (d : Living W) → k < length all → IsLive view plans now (get_or all k d)) → AreFresh all → AreRowsOf bodies now (rows_of all) (procs_of view plans all)
rows-of view plans bodies now [] e h fresh = tt
rows-of view plans bodies now (living ∷ all) e h fresh = (
  row-of view plans bodies now living e (All-head (IsLive view plans now) living all h) (All-head (λ living. living.fresh ≡ true) living all fresh),
  rows-of view plans bodies now all e (All-tail (IsLive view plans now) living all h) (All-tail (λ living. living.fresh ≡ true) living all fresh),
)

-- a search over them is a search for the moves of the bus
pub searched-for : {W P T : Type 0} (view : View P W T) (bus : LiveBus W P T) → IsSound view bus → AreFresh bus.living.items → IsSearchedFor (bus_of view bus) (scene_in bus) bus.marks
searched-for view bus sound fresh = record {
  bodies_are = refl;
  kinds_are = refl;
  bench_is = refl;
  rows_are = rows-of view bus.plans bus.origin.program.bodies bus.ticks bus.living.items sound.planned sound.live fresh;
  last_is = refl;
  next_is = refl;
  no_ticks_is = refl;
  down_is = refl;
}
