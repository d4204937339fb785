use Rattle.std.proofs.Common.{◌≡◌, Option, List, option_copied, ap, sym, ◌∙◌}
use Rattle.tb_func.specs.declared.slot.Slot.{Slot}
use Rattle.tb_match.specs.declared.bind.Bind.{Bind}
use Rattle.tb_body.specs.declared.atom.Atom.{Atom}
use Rattle.tb_process_steps.specs.Atoms.{act_in, act_of, matched_exprs, accepted}
use Rattle.tb_process_steps.specs.Helpers.Rewritings.{Kept}
use Rattle.tb_process_steps.specs.Helpers.OfferViews.{or_own}
use Rattle.tb_walk.proofs.WalkLemmas.{by_found, is_found}
use Rattle.tb_walk.proofs.walk.WalkWalker.accepts.Goals as goal

pub returns-in_ok-accepted_binds-in-Some : goal.returns-in_ok-accepted_binds-in-Some
returns-in_ok-accepted_binds-in-Some c =
    let atoms = c.args.plan.now.body.atoms in
    let found = c.in-Some.found.now in
    let given : Option (List Bind) = c.in_ok-accepted_binds-in-Some.field-0 in
    let is = sym c.get.ensures.value ∙ ap option_copied c.in-Some.is in
    let value : given ≡ accepted c.store_of-store.result.now (matched_exprs (act_in (option_copied c.atom.result))) c.args.ts.now = c.in_ok-accepted_binds-in-Some.ensures in
    value
    ∙ ap (λ (s : List Slot). accepted s (matched_exprs (act_in (option_copied c.atom.result))) c.args.ts.now) c.store_of-store.ensures
    ∙ ap (λ (a : Option Atom). accepted (or_own found.own c.args.self.now.store) (matched_exprs (act_in a)) c.args.ts.now) c.atom.ensures
    ∙ sym (by_found (λ (k : Kept). accepted k.store (matched_exprs (act_of atoms k.atom)) c.args.ts.now) c.args.plan.now c.args.self.now c.args.k found c.requires.on c.requires.fresh is)

pub returns-in-None : goal.returns-in-None
returns-in-None c =
    absurd (is_found c.args.self.now c.args.k c.requires.fresh c.requires.within (sym c.get.ensures.value ∙ ap option_copied c.in-None.is))
