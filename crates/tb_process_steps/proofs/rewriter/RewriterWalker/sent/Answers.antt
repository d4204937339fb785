use Rattle.std.proofs.Common.{◌≡◌, Option, List, option_copied, ap, sym, ◌∙◌}
use Rattle.tb_terms.specs.declared.term.Term.{Term}
use Rattle.tb_func.specs.declared.slot.Slot.{Slot}
use Rattle.tb_body.specs.declared.atom.Atom.{Atom}
use Rattle.tb_process_steps.specs.Atoms.{act_in, act_of, sent_exprs, values_together}
use Rattle.tb_process_steps.specs.Helpers.Rewritings.{Kept}
use Rattle.tb_process_steps.specs.Helpers.OfferViews.{or_own}
use Rattle.tb_process_steps.proofs.RewriterLemmas.{by_found, is_found}
use Rattle.tb_process_steps.proofs.rewriter.RewriterWalker.sent.Goals as goal

pub returns-in-Some : goal.returns-in-Some
returns-in-Some c =
    let atoms = c.args.plan.now.body.atoms in
    let found = c.in-Some.found.now in
    let given : Option (List Term) = c.in_ok-sent_values-in-Some.field-0 in
    let is = sym c.get.ensures.value ∙ ap option_copied c.in-Some.is in
    let value : given ≡ values_together c.store_of-store.result.now (sent_exprs (act_in (option_copied c.atom.result))) = c.in_ok-sent_values-in-Some.ensures in
    value
    ∙ ap (λ (s : List Slot). values_together s (sent_exprs (act_in (option_copied c.atom.result)))) c.store_of-store.ensures
    ∙ ap (λ (a : Option Atom). values_together (or_own found.own c.args.self.now.store) (sent_exprs (act_in a))) c.atom.ensures
    ∙ sym (by_found (λ (k : Kept). values_together k.store (sent_exprs (act_of atoms k.atom))) c.args.plan.now c.args.self.now c.args.k found c.requires.on c.requires.fresh is)

pub returns : goal.returns
returns c =
    absurd (is_found c.args.self.now c.args.k c.requires.fresh c.requires.within (sym c.get.ensures.value ∙ ap option_copied c.in-None.is))
