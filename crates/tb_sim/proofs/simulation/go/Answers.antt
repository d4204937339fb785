use Rattle.std.proofs.Common.{refl, sym}
use Rattle.std.proofs.lemmas.Result.{IfOk-weaker}
use Rattle.tb_sim.specs.Helpers.Turns.{HandsOut, Goes}
use Rattle.tb_sim.proofs.SimLemmas.{goes-handed}
use Rattle.tb_sim.proofs.simulation.go.Goals as goal

pub returns-in-Some-clause-ok : goal.returns-in-Some-clause-ok
returns-in-Some-clause-ok g c =
    let old = c.args.core.now in
    let new = c.hand_out.new.core in
    let so_far = c.args.so_far in
    IfOk-weaker c.hand_out.result (HandsOut c.in-Some.lane so_far old new) (Goes c.args.steps c.args.feed.now old so_far new)
    (goes-handed c.args.steps c.args.feed.now so_far old new c.in-Some.lane c.requires.within (sym c.in-Some.ensures.lane) (c.in-Some.ensures.some c.in-Some.lane refl)) c.hand_out.ensures.ok
