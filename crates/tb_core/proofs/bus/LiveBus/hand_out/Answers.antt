use Rattle.std.proofs.Common.{◌∙◌, ap, subst, sym}
use Rattle.tb_tools.specs.Lanes.{BenchState, is_free, lane_at}
use Rattle.tb_bus.specs.Buses.{Bus}
use Rattle.tb_core.specs.Helpers.LiveBuses.{IsSound, bus_of}
use Rattle.tb_core.specs.declared.bus.LiveBus.{LiveBus}
use Rattle.tb_core.proofs.BenchLemmas.{sound-if}
use Rattle.tb_core.proofs.QuietLemmas.{quiet-handed}
use Rattle.tb_core.proofs.bus.LiveBus.hand_out.Goals as goal

pub returns-clause-sound : goal.returns-clause-sound
returns-clause-sound g c =
    let view = g.W.Walker.view in
    let old = c.args.self.now in
    let bench = c.take_handout-handout.new.self in
    let is = c.take_handout-handout.ensures.bench in
    subst (IsSound view) (sym c.stir_if.ensures) (
    sound-if view old bench c.is_free-stirs.result c.requires.sound c.show_lanes.ensures (
    λ calm.
    subst (λ (b : BenchState). IsSound view (record old { bench = b })) (sym is)
    (quiet-handed view old c.requires.sound c.args.lane c.take_handout-handout.result.logged c.requires.lane c.take_handout-handout.ensures.logged
    (ap (λ (b : BenchState). is_free (lane_at c.args.lane b)) (sym is) ∙ sym c.is_free-stirs.ensures ∙ calm))))

pub returns-clause-origin : goal.returns-clause-origin
returns-clause-origin g c = ap (λ (b : LiveBus _ _ _). b.origin) c.stir_if.ensures

pub returns-clause-bus : goal.returns-clause-bus
returns-clause-bus g c =
    let view = g.W.Walker.view in
    let old = c.args.self.now in
    ap (bus_of view) c.stir_if.ensures ∙ ap (λ (b : BenchState). let it : Bus = record (bus_of view old) { bench = b } in it) c.take_handout-handout.ensures.bench
