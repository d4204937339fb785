use Rattle.std.proofs.Common.{ap, sym, ◌∙◌, map}
use Rattle.tb_types.specs.declared.scope.Scope.{Scope}
use Rattle.tb_types.specs.Scopes.{visible, sort_in, known_var}
use Rattle.tb_types.proofs.Scoping.{found_inside, found_outside}
use Rattle.tb_types.proofs.scope.+sort_of.Goals as goal

pub returns-in-Some : goal.returns-in-Some
returns-in-Some t c =
    sym (found_inside (map known_var c.in-Inner.vars.now) (visible c.in-Inner.outer.now) c.args.name.now _ c.in-Some.ensures)
    ∙ ap (λ (s : Scope). sort_in (visible s) c.args.name.now) (sym c.in-Inner.is)

pub returns-in-None : goal.returns-in-None
returns-in-None t c =
    c.sort_of.ensures
    ∙ sym (found_outside (map known_var c.in-Inner.vars.now) (visible c.in-Inner.outer.now) c.args.name.now c.in-None.ensures)
    ∙ ap (λ (s : Scope). sort_in (visible s) c.args.name.now) (sym c.in-Inner.is)
