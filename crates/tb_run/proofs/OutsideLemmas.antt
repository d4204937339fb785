-- The view of the environment, in another form.
use Rattle.std.proofs.Common.{◌≡◌, ℕ, List, map, Option, sym, ap, ◌∙◌, subst}
use Rattle.tb_edge.specs.Ends.{InletView}
use Rattle.tb_edge.specs.declared.given.Taken.{Taken}
use Rattle.tb_bus.specs.declared.origin.Origin.{Origin}
use Rattle.tb_core.specs.Cores.{CoreState}
use Rattle.tb_run.specs.declared.ends.RunWhy.{RunWhy}
use Rattle.tb_run.specs.Outcomes.{Runs}
use Rattle.tb_run.specs.Views.{LaneView, OutsideView, views}
use Rattle.tb_run.proofs.WentLemmas.{pair_views}

pub runs_origin : (most : ℕ) (old new : OutsideView) (one other : Origin) (back : CoreState) (it : RunWhy) → one ≡ other → Runs most old new one back it → Runs most old new other back it
runs_origin most old new one other back it e r = subst (λ (o : Origin). Runs most old new o back it) e r

pub runs_back : (most : ℕ) (old new : OutsideView) (origin : Origin) (one other : CoreState) (it : RunWhy) → other ≡ one → Runs most old new origin one it → Runs most old new origin other it
runs_back most old new origin one other it e r = subst (λ (k : CoreState). Runs most old new origin k it) (sym e) r

pub runs_lanes : (most : ℕ) (old new : OutsideView) (origin : Origin) (back : CoreState) (it : RunWhy) (before after : List LaneView) → old.lanes ≡ before → new.lanes ≡ after → Runs most old new origin back it →
    Runs most (record old { lanes = before }) (record new { lanes = after }) origin back it
runs_lanes most old new origin back it before after b a r =
    let one : Runs most (record old { lanes = before }) new origin back it = subst (λ (l : List LaneView). Runs most (record old { lanes = l }) new origin back it) b r in
    subst (λ (l : List LaneView). Runs most (record old { lanes = before }) (record new { lanes = l }) origin back it) a one

pub views_of : {I O T : Type 0} (gave : I → Option InletView) (fails : I → ℕ) (took : O → Option (List Taken)) (faults : O → ℕ) (inlet : T → I) (outlet : T → O) (pairs : List T) (is : List I) (os : List O) → is ≡ map inlet pairs → os ≡ map outlet pairs →
    views gave fails took faults is os ≡ map (λ (t : T). let v : LaneView = record { gave = gave (inlet t); inlet_faults = fails (inlet t); took = took (outlet t); outlet_faults = faults (outlet t) } in v) pairs
views_of {I} {O} gave fails took faults inlet outlet pairs is os a b =
    ap (λ (s : List I). views gave fails took faults s os) a ∙ (ap (λ (s : List O). views gave fails took faults (map inlet pairs) s) b ∙ pair_views gave fails took faults inlet outlet pairs)
