use Rattle.std.proofs.Common.{◌∙◌, ap, map}
use Rattle.tb_chart_cast.specs.Casts.{role_of, seen_role}
use Rattle.tb_chart_cast.proofs.BesideLemmas.{beside_more, roles_push}
use Rattle.tb_chart_cast.proofs.roles_of.Goals as goal

pub loop-index-preserved : goal.loop-index-preserved
loop-index-preserved c =
    let place = c.index-places-index.result in
    let role = c.in_ok-role_of.field-0 in
    beside_more role_of c.args.bodies.now c.loop-index.index c.args.places.now place (seen_role role) (map seen_role c.loop-index.roles.items)
    (map seen_role c.push.new.self.items) _ c.loop-index-test.true c.index-places-index.is
    (c.in_ok-role_of.ensures ∙ ap (λ body. role_of body place) c.at.ensures)
    (roles_push c.loop-index.roles.items c.push.new.self.items role c.in_ok-push.ensures.items) c.loop-index.invariant
