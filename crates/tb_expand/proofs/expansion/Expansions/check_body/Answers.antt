use Rattle.std.proofs.Common.{◌≡◌, ◌∙◌, sym, subst, false}
use Rattle.std.proofs.lemmas.Option.{same_Some}
use Rattle.tb_syntax.specs.declared.script.ProcDef.{ProcDef}
use Rattle.tb_expand.specs.Expansion.{expansion_of, is_too_large}
use Rattle.tb_expand.proofs.Made.{read_there, made_body}
use Rattle.tb_expand.proofs.expansion.Expansions.check_body.Goals as goal

pub returns-clause-body : goal.returns-clause-body
returns-clause-body c = λ d at.
    let self = c.args.self.now in
    let script = self.script.now in
    let read = c.index-as_slice-position.result in
    let there = read_there script.procs c.as_slice.result.now c.args.position read c.requires c.index-as_slice-position.is c.as_slice.ensures in
    let small = subst (λ (e : ProcDef). is_too_large (expansion_of script e) ≡ false) (same_Some read d (sym there ∙ at)) (sym c.is_too_large.ensures ∙ c.if-is_too_large.false) in
    made_body script c.args.position d self.proper self.whole self.no_cycle at small
