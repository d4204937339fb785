-- Process terms: the operators of the algebra with an age on each atom. The term of a body that is entered, and a term one tick later.
use Rattle.std.specs.Prelude.{ℕ, ◌+◌, List, Some, None}
use Rattle.tb_terms.specs.declared.expr.Expr.{Expr}
use Rattle.tb_body.specs.declared.tree.Tree.{Tree}
use Rattle.tb_body.specs.declared.tree.Tree.TheOpen as tree
use Rattle.tb_body.specs.declared.tree.Tree.TheFolds.{fold-Tree}
use Rattle.tb_body.specs.declared.tree.Setting.{Setting}

-- A process that has ended has no term: the end is `None`.
pub data Process : Type 0 where
  -- the atom with this number, and its age: the number of ticks that it has waited
  At : ℕ → ℕ → Process
  -- the first term, then the second
  Seq : Process → Process → Process
  -- the first term or the second
  Alt : Process → Process → Process
  -- the first term any number of times, then the second
  Star : Process → Process → Process
  -- both terms, with their atoms in any order
  Par : Process → Process → Process
  -- the left side, until the right side takes a step; if the left side ends, the whole ends
  Disrupt : Process → Process → Process
  -- the first term if the test is true, the second if it is false
  If : Expr → Process → Process → Process
  -- the term if the test is true
  When : Expr → Process → Process
  -- the term, in the store after the settings
  Let : List Setting → Process → Process

abbrev pub fresh_step : tree.Tree-F Process → Process
fresh_step (tree.At atom) = At atom 0
fresh_step (tree.Seq x y) = Seq x y
fresh_step (tree.Alt x y) = Alt x y
fresh_step (tree.Star x y) = Star x y
fresh_step (tree.Par x y) = Par x y
fresh_step (tree.Disrupt x y) = Disrupt x y
fresh_step (tree.If test x None) = When test x
fresh_step (tree.If test x (Some y)) = If test x y
fresh_step (tree.Let settings x) = Let settings x

-- the term of a body that is entered: all ages are 0
abbrev pub fresh : Tree → Process
fresh = fold-Tree Process fresh_step

-- The term one tick later. A tick decides no choice: a waiting star can still take either side. The right side of a sequence doesn't age,
-- and neither do the later turns of a star.
abbrev pub aged : Process → Process
aged (At atom age) = At atom (age + 1)
aged (Seq x y) = Seq (aged x) y
aged (Alt x y) = Alt (aged x) (aged y)
aged (Star x y) = Alt (Seq (aged x) (Star x y)) (aged y)
aged (Par x y) = Par (aged x) (aged y)
aged (Disrupt x y) = Disrupt (aged x) (aged y)
aged (If test x y) = If test (aged x) (aged y)
aged (When test x) = When test (aged x)
aged (Let settings x) = Let settings (aged x)
