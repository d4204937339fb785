use Rattle.std.proofs.Common.{ap, refl, sym, subst, ◌∙◌}
use Rattle.tb_body.specs.declared.body.Body.{Body}
use Rattle.tb_process_steps.specs.Processes.{fresh}
use Rattle.tb_code.specs.Entries.{AreLists}
use Rattle.tb_code.proofs.Tables.{numbered_all}
use Rattle.tb_code.proofs.code.compile.Goals as goal

pub add_lists-requires-clause-numbered : goal.add_lists-requires-clause-numbered
add_lists-requires-clause-numbered c =
    c.as_slice.ensures ∙ numbered_all c.new-nodes.result c.add_tree.new.nodes (fresh c.args.body.now.tree) (fresh c.args.body.now.tree) c.new-nodes.ensures c.in_ok-add_tree.ensures refl

pub invariant_of-result : goal.invariant_of-result
invariant_of-result c = record {
  numbered = numbered_all c.new-nodes.result c.add_tree.new.nodes (fresh c.args.body.now.tree) (fresh c.in_ok-body.body.tree) c.new-nodes.ensures c.in_ok-add_tree.ensures (ap (λ (b : Body). fresh b.tree) (sym c.in_ok-body.ensures));
  listed = subst (λ (b : Body). AreLists b.atoms (fresh b.tree) c.add_lists.new.entries c.add_lists.new.spans) (sym c.in_ok-body.ensures) c.in_ok-add_lists.ensures;
}
