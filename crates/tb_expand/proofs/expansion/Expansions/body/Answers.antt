use Rattle.std.proofs.Common.{◌≡◌, ◌∙◌, ℕ, Some, length, slice_get, subst, sym, true, false}
use Rattle.std.proofs.lemmas.Option.{same_Some}
use Rattle.tb_body.specs.declared.body.Body.{Body}
use Rattle.tb_syntax.specs.declared.script.ProcDef.{ProcDef}
use Rattle.tb_syntax.specs.declared.script.Script.{Script}
use Rattle.tb_types.specs.Conditions.{Proper}
use Rattle.tb_expand.specs.Expansion.{expansion_of, is_too_large}
use Rattle.tb_expand.specs.Faults.{HasNoCycle, IsBodyOf, IsExpansion}
use Rattle.tb_expand.specs.Helpers.Wholes.{is_whole}
use Rattle.tb_expand.proofs.Made.{read_there}
use Rattle.tb_expand.proofs.expansion.Expansions.body.Goals as goal

body_of : (script named : Script) (position : ℕ) (read d : ProcDef) (body : Body) → named ≡ script → HasNoCycle script → slice_get script.procs position ≡ Some read
    → is_too_large (expansion_of script read) ≡ false → IsExpansion named read body → slice_get script.procs position ≡ Some d → IsBodyOf script d body
body_of script named position read d body same no_cycle at small is at_position =
    subst (λ (e : ProcDef). IsBodyOf script e body) (same_Some read d (sym at ∙ at_position))
    (record { no_cycle = no_cycle; small = small; is = subst (λ (s : Script). IsExpansion s read body) same is })

pub built-requires-clause-proper : goal.built-requires-clause-proper
built-requires-clause-proper c = subst Proper (sym c.args.self.now.same) c.args.self.now.proper

pub built-requires-clause-whole : goal.built-requires-clause-whole
built-requires-clause-whole c =
    let script = c.args.self.now.script.now in
    let d = c.index-as_slice-position.result in
    let at = read_there script.procs c.as_slice.result.now c.args.position d c.requires c.index-as_slice-position.is c.as_slice.ensures in
    subst (λ (s : Script). is_whole s (length s.procs) d.body ≡ true) (sym c.args.self.now.same) (c.args.self.now.whole c.args.position d at)

pub returns-clause-body : goal.returns-clause-body
returns-clause-body c = λ d at_position.
    let script = c.args.self.now.script.now in
    let read = c.index-as_slice-position.result in
    let at = read_there script.procs c.as_slice.result.now c.args.position read c.requires c.index-as_slice-position.is c.as_slice.ensures in
    body_of script c.args.self.now.names.now.script.now c.args.position read d c.in_ok-built.field-0 c.args.self.now.same c.args.self.now.no_cycle at
    (sym c.is_too_large.ensures ∙ c.if-is_too_large.false) c.in_ok-built.ensures at_position
