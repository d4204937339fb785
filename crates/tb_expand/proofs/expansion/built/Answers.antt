use Rattle.std.proofs.Common.{◌≡◌, true, false, is_some, ap, sym, ◌∙◌}
use Rattle.tb_body.specs.InRange.{is_body_in_range}
use Rattle.tb_expand.proofs.Bodies.{parts_in_range}
use Rattle.tb_expand.proofs.expansion.built.Goals as goal

-- the parts are in range, so there is a body
pub unreachable-requires : goal.unreachable-requires
unreachable-requires c =
    let in_range : is_body_in_range c.in_ok-tree.tree c.in_ok-tree.built.atoms c.in_ok-tree.built.sorts c.in_ok-formals.formals ≡ true
    = parts_in_range c.args.names.now.script.now c.args.def.now c.in_ok-tree.tree c.in_ok-tree.built.atoms c.in_ok-tree.built.sorts c.in_ok-formals.formals
    c.requires.proper c.requires.there c.requires.whole c.requires.small
    c.in_ok-tree.ensures.0 c.in_ok-tree.ensures.1 c.in_ok-tree.ensures.2 (c.in_ok-formals.ensures ∙ c.len.ensures) in
    let none : false ≡ true = sym (ap is_some c.in-None.is) ∙ c.in_ok-body.ensures.some ∙ in_range in
    absurd (cc)
