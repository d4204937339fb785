use Rattle.std.proofs.Common.{Option, length, refl, ap, sym, ◌∙◌}
use Rattle.std.proofs.lemmas.Option.{same_Some}
use Rattle.tb_living.proofs.ReadLemmas.{read-there}
use Rattle.tb_why.specs.Helpers.Scenes.{scene_seen}
use Rattle.tb_why.specs.Reasons.{stall_of}
use Rattle.tb_why.specs.declared.reason.Reason.{Reason}
use Rattle.tb_why.specs.declared.stall.Stall.{Stall}
use Rattle.tb_why.specs.declared.standing.Offering.{Offering}
use Rattle.tb_why.proofs.LookLemmas.{one-more}
use Rattle.tb_why.proofs.explaining.stalls_of.Goals as goal

pub loop-offer-preserved : goal.loop-offer-preserved
loop-offer-preserved g c =
    let sight = c.args.sight.now in
    let living = c.args.living.now in
    let offers = c.args.offers.now in
    let at = c.loop-offer.offer-index in
    let item = c.offer-item.result in
    let stall : Offering → Stall = stall_of sight.down (scene_seen sight) living.number living.body living.inbox.held in
    let pushed : Stall = record { atom = item.atom; reason = c.in_ok-reason.reason } in
    one-more stall offers at (length offers) c.loop-offer.stalls c.push.new.self pushed c.loop-offer-test.true refl c.loop-offer.invariant c.in_ok-push.ensures.ok
    (λ other there.
    ap (λ (reason : Option Reason). let s : Stall = record { atom = item.atom; reason = reason } in s) c.in_ok-reason.ensures
    ∙ ap stall (same_Some item other (sym (read-there offers at item c.loop-offer-test.true c.offer-item.is) ∙ there)))
