use Rattle.std.proofs.Common.{◌≡◌, ℕ, ◌<◌, slice_get, Some}
use Rattle.tb_expand.specs.declared.walk.Visit.TheVariants.{New}
use Rattle.tb_expand.specs.Helpers.Walks.{IsAtRest}
use Rattle.tb_expand.proofs.order.topological_order.Given as goal

-- no position so far is new, and the path is empty
abbrev pub invariant-loop-root : goal.invariant-loop-root
invariant-loop-root l = record {
  at_rest : IsAtRest l.graph l.walk;
  visited : (position : ℕ) → position < l.root → slice_get l.walk.visits position ≡ Some New → ⊥;
}
