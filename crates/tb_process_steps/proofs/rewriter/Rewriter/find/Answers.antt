use Rattle.std.proofs.Common.{◌≡◌, List, ◌++◌, map, ap, sym, ◌∙◌}
use Rattle.tb_process_steps.specs.Helpers.Runnings.{term_of}
use Rattle.tb_process_steps.specs.Helpers.OfferViews.{shown, offer_views}
use Rattle.tb_process_steps.specs.declared.found.Found.{Found}
use Rattle.tb_process_steps.proofs.RewriterLemmas.{offer_views_some, offer_views_none}
use Rattle.tb_process_steps.proofs.rewriter.Rewriter.find.Goals as goal

pub returns-in_ok-look_term-in-Some : goal.returns-in_ok-look_term-in-Some
returns-in_ok-look_term-in-Some c =
    let base = c.args.self.now.store in
    let all = offer_views c.args.plan.now.body.atoms c.args.now (term_of c.args.plan.now.nodes c.args.self.now.ticks c.in-Some.term) base in
    let looked : map (shown base) c.look_term.new.found ≡ map (shown base) c.new-found.result ++ all = c.in_ok-look_term-in-Some.ensures in
    looked
    ∙ ap (λ (l : List Found). map (shown base) l ++ all) c.new-found.ensures
    ∙ sym (offer_views_some c.args.plan.now.body.atoms c.args.now c.args.plan.now c.args.self.now c.in-Some.term c.in-Some.is)

pub returns-in-None : goal.returns-in-None
returns-in-None c =
    ap (λ (l : List Found). map (shown c.args.self.now.store) l) c.new.ensures
    ∙ sym (offer_views_none c.args.plan.now.body.atoms c.args.now c.args.plan.now c.args.self.now c.in-None.is)
