use Rattle.std.proofs.Common.{◌≡◌, List, ◌++◌, map, ap, sym, ◌∙◌, subst, OnOk}
use Rattle.tb_process_steps.specs.Helpers.Runnings.{term_of, entered_term}
use Rattle.tb_process_steps.specs.Helpers.OfferViews.{OfferView, shown, offer_views}
use Rattle.tb_process_steps.specs.declared.running.Running.{Running}
use Rattle.tb_process_steps.proofs.OfferViewLemmas.{both_more}
use Rattle.tb_process_steps.proofs.TermLemmas.{offer_views_of_seq, offer_views_of_par, offer_views_of_disrupt}
use Rattle.tb_process_steps.proofs.look.+look_term.Goals as goal

pub returns-in-Seq : goal.returns-in-Seq
returns-in-Seq t c =
    let store = c.args.store.now in
    let whole = offer_views_of_seq c.args.plan.now.nodes c.args.ticks c.args.plan.now.body.atoms c.args.now store c.args.term.now c.in-Seq.x c.in-Seq.field-1 c.in-Seq.is in
    let part = ap (λ (r : Running). offer_views c.args.plan.now.body.atoms c.args.now (term_of c.args.plan.now.nodes c.args.ticks r) store) c.get.ensures in
    subst (λ (l : List OfferView). OnOk c.look_term.result (map (shown store) c.look_term.new.found ≡ map (shown store) c.args.found.now ++ l)) (part ∙ sym whole) c.look_term.ensures

pub returns-in_ok-look_term-in-Par : goal.returns-in_ok-look_term-in-Par
returns-in_ok-look_term-in-Par t c =
    let store = c.args.store.now in
    let of_term = λ (r : Running). offer_views c.args.plan.now.body.atoms c.args.now (term_of c.args.plan.now.nodes c.args.ticks r) store in
    let x = c.get-in-Par.result.now in
    let y = c.get-in-Par-2.result.now in
    let whole = offer_views_of_par c.args.plan.now.nodes c.args.ticks c.args.plan.now.body.atoms c.args.now store c.args.term.now c.in-Par.x c.in-Par.y c.in-Par.is in
    let sides : of_term c.args.term.now ≡ of_term x ++ of_term y = whole ∙ ap (λ (r : Running). of_term r ++ of_term c.in-Par.y) (sym c.get-in-Par.ensures) ∙ ap (λ (r : Running). of_term x ++ of_term r) (sym c.get-in-Par-2.ensures) in
    let old = map (shown store) c.args.found.now in
    let middle = map (shown store) c.look_term-in-Par.new.found in
    let one : middle ≡ old ++ of_term x = c.in_ok-look_term-in-Par.ensures in
    let both = both_more old middle (of_term x) (of_term c.args.term.now) (of_term y) one sides in
    subst (λ (l : List OfferView). OnOk c.look_term-in-Par-2.result (map (shown store) c.look_term-in-Par-2.new.found ≡ l)) both c.look_term-in-Par-2.ensures

pub returns-in_ok-look_term-in-Disrupt : goal.returns-in_ok-look_term-in-Disrupt
returns-in_ok-look_term-in-Disrupt t c =
    let store = c.args.store.now in
    let of_term = λ (r : Running). offer_views c.args.plan.now.body.atoms c.args.now (term_of c.args.plan.now.nodes c.args.ticks r) store in
    let waits = offer_views c.args.plan.now.body.atoms c.args.now (entered_term c.args.plan.now.nodes c.args.ticks c.in-Disrupt.entry) store in
    let x = c.get-in-Disrupt.result.now in
    let whole = offer_views_of_disrupt c.args.plan.now.nodes c.args.ticks c.args.plan.now.body.atoms c.args.now store c.args.term.now c.in-Disrupt.x c.in-Disrupt.entry c.in-Disrupt.is in
    let sides : of_term c.args.term.now ≡ of_term x ++ waits = whole ∙ ap (λ (r : Running). of_term r ++ waits) (sym c.get-in-Disrupt.ensures) in
    let old = map (shown store) c.args.found.now in
    let middle = map (shown store) c.look_term-in-Disrupt.new.found in
    let one : middle ≡ old ++ of_term x = c.in_ok-look_term-in-Disrupt.ensures in
    let both = both_more old middle (of_term x) (of_term c.args.term.now) waits one sides in
    subst (λ (l : List OfferView). OnOk c.look_node-in-Disrupt.result (map (shown store) c.look_node-in-Disrupt.new.found ≡ l)) both c.look_node-in-Disrupt.ensures
