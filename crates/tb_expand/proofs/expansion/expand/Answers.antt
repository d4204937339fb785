use Rattle.std.proofs.Common.{◌≡◌, ◌∙◌, Some, slice_get, subst, sym}
use Rattle.tb_syntax.specs.declared.script.Script.{Script}
use Rattle.tb_types.specs.Conditions.{Proper}
use Rattle.tb_expand.specs.Faults.{IsBodyOf}
use Rattle.tb_expand.proofs.expansion.expand.Goals as goal

pub of-requires-2 : goal.of-requires-2
of-requires-2 c = subst Proper (sym c.in_ok-names.ensures) c.requires.proper

pub returns-clause-body : goal.returns-clause-body
returns-clause-body c = λ d at.
    let same : c.in_ok-expansions.expansions.script.now ≡ c.args.s.now = c.in_ok-expansions.ensures.script ∙ c.in_ok-names.ensures in
    let there = subst (λ (s : Script). slice_get s.procs c.args.root ≡ Some d) (sym same) at in
    subst (λ (s : Script). IsBodyOf s d c.in_ok-body.field-0) same (c.in_ok-body.ensures.body d there)
