-- Which processes of a script and which trees of a body have a disrupt, and which sources have the symbol `>>`.
use Rattle.std.specs.Prelude.{ℕ, Bool, true, false, ◌||◌, List, Some, None, Contains}
use Rattle.tb_body.specs.declared.tree.Tree.{Tree}
use Rattle.tb_body.specs.declared.tree.Tree.TheOpen as tree
use Rattle.tb_body.specs.declared.tree.Tree.TheFolds.{fold-Tree}
use Rattle.tb_lex.specs.declared.kind.TokenKind.TheVariants.{Symbol}
use Rattle.tb_lex.specs.declared.symbol.Symbol.TheVariants.{Angles}
use Rattle.tb_lex.specs.declared.token.Token.{Token}
use Rattle.tb_lex.specs.Tokens.{Lexes}
use Rattle.tb_syntax.specs.declared.proc.Proc.{Proc}
use Rattle.tb_syntax.specs.declared.proc.Proc.TheOpen as proc
use Rattle.tb_syntax.specs.declared.proc.Proc.TheFolds.{fold-Proc}
use Rattle.tb_syntax.specs.Spelling.{kinds_of}

-- the source has the symbol `>>` among its tokens
pub record HasSymbol (text : List ℕ) : Type 0 where
  pub tokens : List Token
  pub lexes : Lexes text tokens
  pub there : Contains (kinds_of tokens) (Symbol Angles)

-- A process has a disrupt if it is one, or if a part has one. A call has none, whatever the called process has.
abbrev pub proc_step : proc.Proc-F Bool → Bool
proc_step (proc.Atom def) = false
proc_step (proc.Call call) = false
proc_step (proc.Seq x y) = x || y
proc_step (proc.Alt x y) = x || y
proc_step (proc.Star x y) = x || y
proc_step (proc.Par x y) = x || y
proc_step (proc.Disrupt x y) = true
proc_step (proc.If test x None) = x
proc_step (proc.If test x (Some y)) = x || y
proc_step (proc.Let vars x) = x

abbrev pub proc_has_disrupt : Proc → Bool
proc_has_disrupt = fold-Proc Bool proc_step

abbrev pub tree_step : tree.Tree-F Bool → Bool
tree_step (tree.At atom) = false
tree_step (tree.Seq x y) = x || y
tree_step (tree.Alt x y) = x || y
tree_step (tree.Star x y) = x || y
tree_step (tree.Par x y) = x || y
tree_step (tree.Disrupt x y) = true
tree_step (tree.If test x None) = x
tree_step (tree.If test x (Some y)) = x || y
tree_step (tree.Let settings x) = x

abbrev pub tree_has_disrupt : Tree → Bool
tree_has_disrupt = fold-Tree Bool tree_step
