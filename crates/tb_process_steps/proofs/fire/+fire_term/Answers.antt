use Rattle.std.proofs.Common.{◌≡◌, ℕ, ap, sym, ◌∙◌, option_map}
use Rattle.std.proofs.lemmas.Result.{IfOk-weaker}
use Rattle.tb_process_steps.specs.Helpers.Selections.{Selected, Past, On, selected, selected_of, selected_with, or_past}
use Rattle.tb_process_steps.specs.Helpers.Plans.{process_at}
use Rattle.tb_process_steps.specs.Helpers.Runnings.{term_of, entered_term}
use Rattle.tb_process_steps.specs.Helpers.OfferViews.{or_own}
use Rattle.tb_process_steps.specs.declared.running.Running.{Running}
use Rattle.tb_process_steps.specs.declared.running.Running.TheVariants.{Seq, Par, Disrupt}
use Rattle.tb_process_steps.proofs.SelectedLemmas.{then, beside, along, held}
use Rattle.tb_process_steps.proofs.TermLemmas.{hits_of_seq, hits_of_par, hits_of_disrupt}
use Rattle.tb_process_steps.proofs.fire.+fire_term.Goals as goal

pub returns-in_ok-fired-in-Seq-clause-selected : goal.returns-in_ok-fired-in-Seq-clause-selected
returns-in_ok-fired-in-Seq-clause-selected t c =
    let is : c.args.term.now ≡ Seq c.get.result.now c.in-Seq.y = c.in-Seq.is ∙ ap (λ (r : Running). Seq r c.in-Seq.y) (sym c.get.ensures) in
    let e = hits_of_seq c.args.plan.now.nodes c.args.ticks c.args.term.now c.get.result.now c.in-Seq.y c.args.store.now c.args.k is in
    let first : selected_of c.args.plan.now.nodes c.args.ticks c.args.store.now c.in_ok-fired-in-Seq.fired ≡ selected (term_of c.args.plan.now.nodes c.args.ticks c.get.result.now) c.args.store.now c.args.k = c.in_ok-fired-in-Seq.ensures.selected in
    IfOk-weaker c.followed.result _ _ (λ whole p. p c.args.plan.now.nodes c.args.store.now ∙ ap (selected_with (then (process_at c.args.plan.now.nodes c.in-Seq.y))) first ∙ sym e) c.followed.ensures.selected

pub returns-in_ok-fired-in-Past-clause-selected : goal.returns-in_ok-fired-in-Past-clause-selected
returns-in_ok-fired-in-Past-clause-selected t c =
    let is : c.args.term.now ≡ Par c.get-in-Par.result.now c.get-in-Past.result.now = c.in-Par.is ∙ ap (λ (r : Running). Par r c.in-Par.y) (sym c.get-in-Par.ensures) ∙ ap (λ (r : Running). Par c.get-in-Par.result.now r) (sym c.get-in-Past.ensures) in
    let e = hits_of_par c.args.plan.now.nodes c.args.ticks c.args.term.now c.get-in-Par.result.now c.get-in-Past.result.now c.args.store.now c.args.k is in
    let first : selected_of c.args.plan.now.nodes c.args.ticks c.args.store.now c.in_ok-rest-in-Par.field-0 ≡ selected (term_of c.args.plan.now.nodes c.args.ticks c.get-in-Par.result.now) c.args.store.now c.args.k = c.in_ok-rest-in-Par.ensures.selected in
    let past : Past c.in-Past.rest ≡ selected (term_of c.args.plan.now.nodes c.args.ticks c.get-in-Par.result.now) c.args.store.now c.args.k = sym (ap (selected_of c.args.plan.now.nodes c.args.ticks c.args.store.now) c.in-Past.is) ∙ first in
    let eq = ap (λ (h : Selected). or_past (selected_with (beside (term_of c.args.plan.now.nodes c.args.ticks c.get-in-Past.result.now)) h) (λ (rest : ℕ). selected_with (along (term_of c.args.plan.now.nodes c.args.ticks c.get-in-Par.result.now)) (selected (term_of c.args.plan.now.nodes c.args.ticks c.get-in-Past.result.now) c.args.store.now rest))) past ∙ sym e in
    let second : selected_of c.args.plan.now.nodes c.args.ticks c.args.store.now c.in_ok-fired-in-Past.fired ≡ selected (term_of c.args.plan.now.nodes c.args.ticks c.get-in-Past.result.now) c.args.store.now c.in-Past.rest = c.in_ok-fired-in-Past.ensures.selected in
    let again : c.get-in-Past-2.result.now ≡ c.get-in-Par.result.now = c.get-in-Past-2.ensures ∙ sym c.get-in-Par.ensures in
    let fired = selected_of c.args.plan.now.nodes c.args.ticks c.args.store.now c.in_ok-fired-in-Past.fired in
    IfOk-weaker c.on_the_right.result _ _ (λ whole p. p c.args.plan.now.nodes c.args.ticks c.args.store.now ∙ ap (λ (r : Running). selected_with (along (term_of c.args.plan.now.nodes c.args.ticks r)) fired) again ∙ ap (selected_with (along (term_of c.args.plan.now.nodes c.args.ticks c.get-in-Par.result.now))) second ∙ eq) c.on_the_right.ensures.selected

pub returns-in-Taken-clause-selected : goal.returns-in-Taken-clause-selected
returns-in-Taken-clause-selected t c =
    let is : c.args.term.now ≡ Par c.get-in-Par.result.now c.get-in-Taken.result.now = c.in-Par.is ∙ ap (λ (r : Running). Par r c.in-Par.y) (sym c.get-in-Par.ensures) ∙ ap (λ (r : Running). Par c.get-in-Par.result.now r) (sym c.get-in-Taken.ensures) in
    let e = hits_of_par c.args.plan.now.nodes c.args.ticks c.args.term.now c.get-in-Par.result.now c.get-in-Taken.result.now c.args.store.now c.args.k is in
    let first : selected_of c.args.plan.now.nodes c.args.ticks c.args.store.now c.in_ok-rest-in-Par.field-0 ≡ selected (term_of c.args.plan.now.nodes c.args.ticks c.get-in-Par.result.now) c.args.store.now c.args.k = c.in_ok-rest-in-Par.ensures.selected in
    let on : On (option_map (term_of c.args.plan.now.nodes c.args.ticks) c.in-Taken.left) (or_own c.in-Taken.own c.args.store.now) ≡ selected (term_of c.args.plan.now.nodes c.args.ticks c.get-in-Par.result.now) c.args.store.now c.args.k = sym (ap (selected_of c.args.plan.now.nodes c.args.ticks c.args.store.now) c.in-Taken.is) ∙ first in
    let whole = ap (λ (h : Selected). or_past (selected_with (beside (term_of c.args.plan.now.nodes c.args.ticks c.get-in-Taken.result.now)) h) (λ (rest : ℕ). selected_with (along (term_of c.args.plan.now.nodes c.args.ticks c.get-in-Par.result.now)) (selected (term_of c.args.plan.now.nodes c.args.ticks c.get-in-Taken.result.now) c.args.store.now rest))) on
    ∙ sym e in
    IfOk-weaker c.taken_beside.result _ _ (λ fired p. p c.args.plan.now.nodes c.args.ticks c.args.store.now ∙ whole) c.taken_beside.ensures.selected

pub returns-in-Past-2-clause-selected : goal.returns-in-Past-2-clause-selected
returns-in-Past-2-clause-selected t c =
    let is : c.args.term.now ≡ Disrupt c.get-in-Disrupt.result.now c.in-Disrupt.entry = c.in-Disrupt.is ∙ ap (λ (r : Running). Disrupt r c.in-Disrupt.entry) (sym c.get-in-Disrupt.ensures) in
    let e = hits_of_disrupt c.args.plan.now.nodes c.args.ticks c.args.term.now c.get-in-Disrupt.result.now c.in-Disrupt.entry c.args.store.now c.args.k is in
    let first : selected_of c.args.plan.now.nodes c.args.ticks c.args.store.now c.in_ok-rest-in-Disrupt.field-0 ≡ selected (term_of c.args.plan.now.nodes c.args.ticks c.get-in-Disrupt.result.now) c.args.store.now c.args.k = c.in_ok-rest-in-Disrupt.ensures.selected in
    let past : Past c.in-Past-2.rest ≡ selected (term_of c.args.plan.now.nodes c.args.ticks c.get-in-Disrupt.result.now) c.args.store.now c.args.k = sym (ap (selected_of c.args.plan.now.nodes c.args.ticks c.args.store.now) c.in-Past-2.is) ∙ first in
    let eq = ap (λ (h : Selected). or_past (selected_with (held (entered_term c.args.plan.now.nodes c.args.ticks c.in-Disrupt.entry)) h) (λ (rest : ℕ). selected (entered_term c.args.plan.now.nodes c.args.ticks c.in-Disrupt.entry) c.args.store.now rest)) past ∙ sym e in
    IfOk-weaker c.fire_node-in-Past-2.result _ _ (λ fired p. p ∙ eq) c.fire_node-in-Past-2.ensures.selected

pub returns-in-Taken-2-clause-selected : goal.returns-in-Taken-2-clause-selected
returns-in-Taken-2-clause-selected t c =
    let is : c.args.term.now ≡ Disrupt c.get-in-Disrupt.result.now c.in-Disrupt.entry = c.in-Disrupt.is ∙ ap (λ (r : Running). Disrupt r c.in-Disrupt.entry) (sym c.get-in-Disrupt.ensures) in
    let e = hits_of_disrupt c.args.plan.now.nodes c.args.ticks c.args.term.now c.get-in-Disrupt.result.now c.in-Disrupt.entry c.args.store.now c.args.k is in
    let first : selected_of c.args.plan.now.nodes c.args.ticks c.args.store.now c.in_ok-rest-in-Disrupt.field-0 ≡ selected (term_of c.args.plan.now.nodes c.args.ticks c.get-in-Disrupt.result.now) c.args.store.now c.args.k = c.in_ok-rest-in-Disrupt.ensures.selected in
    let on : On (option_map (term_of c.args.plan.now.nodes c.args.ticks) c.in-Taken-2.left) (or_own c.in-Taken-2.own c.args.store.now) ≡ selected (term_of c.args.plan.now.nodes c.args.ticks c.get-in-Disrupt.result.now) c.args.store.now c.args.k = sym (ap (selected_of c.args.plan.now.nodes c.args.ticks c.args.store.now) c.in-Taken-2.is) ∙ first in
    let whole = ap (λ (h : Selected). or_past (selected_with (held (entered_term c.args.plan.now.nodes c.args.ticks c.in-Disrupt.entry)) h) (λ (rest : ℕ). selected (entered_term c.args.plan.now.nodes c.args.ticks c.in-Disrupt.entry) c.args.store.now rest)) on ∙ sym e in
    IfOk-weaker c.taken_until.result _ _ (λ fired p. p c.args.plan.now.nodes c.args.ticks c.args.store.now ∙ whole) c.taken_until.ensures.selected
