-- Examples of token sequences that are read, computed from the definition.
use Rattle.std.proofs.Common.{◌≡◌, ℕ, List, [], ◌∷◌, refl, codes}
use Rattle.tb_lex.specs.declared.kind.TokenKind.{TokenKind}
use Rattle.tb_lex.specs.declared.kind.TokenKind.TheVariants.{Lower, Upper, Symbol as Sign}
use Rattle.tb_lex.specs.declared.symbol.Symbol.TheVariants.{LeftParen, RightParen, Star}
use Rattle.tb_syntax.specs.declared.proc.ActDef.TheVariants as act
use Rattle.tb_syntax.specs.declared.proc.Proc.{Proc}
use Rattle.tb_syntax.specs.declared.proc.Proc.TheVariants as tree
use Rattle.tb_parse.specs.Helpers.Parsing.{
  Found,
  Stops,
  free_name,
  parted,
  in_parens,
  word_sort,
  sort,
  hole,
  list,
  kind,
  expr,
  call_of,
  call,
  create,
  time,
  times,
  timed,
  var,
  upper_proc,
  block,
  sides,
  conditional,
  lower_proc,
  prim_of,
  rightward,
  leftward,
  turns,
  sequence,
  choice,
  merge,
  transfer,
  prim,
  proc,
  formal,
  process,
  command,
  tool,
  definitions,
  roots,
  script,
}

abbrev plain : List ℕ → ℕ → Proc
plain name at = tree.Atom (record { act = act.Named name []; times = []; token = at })

-- process P is tau * delta toolbus ( P ), of which so many tokens are left
abbrev loop : List TokenKind → List TokenKind
loop end = Lower (codes "process") ∷ Upper (codes "P") ∷ Lower (codes "is") ∷ Lower (codes "tau") ∷ Sign Star ∷ Lower (codes "delta") ∷ Lower (codes "toolbus") ∷ Sign LeftParen ∷ Upper (codes "P") ∷ end

loop_found : script 10 0 (loop (Sign RightParen ∷ [])) ≡ Found (record {
  procs = record { name = codes "P"; formals = []; body = tree.Star (plain (codes "tau") 3) (plain (codes "delta") 5); token = 0 } ∷ [];
  tools = [];
  roots = record { name = codes "P"; actuals = []; token = 8 } ∷ [];
}) 10 []
unfolding free_name parted in_parens word_sort sort hole list kind expr call_of call create time times timed var upper_proc block sides conditional lower_proc prim_of rightward leftward turns sequence choice merge transfer prim proc formal process command tool definitions roots script
loop_found = refl

-- the last parenthesis is missing
cut_off : script 9 0 (loop []) ≡ Stops 9
unfolding free_name parted in_parens word_sort sort hole list kind expr call_of call create time times timed var upper_proc block sides conditional lower_proc prim_of rightward leftward turns sequence choice merge transfer prim proc formal process command tool definitions roots script
cut_off = refl

-- one star too many
two_stars : script 8 0 (Lower (codes "process") ∷ Upper (codes "P") ∷ Lower (codes "is") ∷ Lower (codes "tau") ∷ Sign Star ∷ Sign Star ∷ Lower (codes "delta") ∷ Lower (codes "toolbus") ∷ []) ≡ Stops 5
unfolding free_name parted in_parens word_sort sort hole list kind expr call_of call create time times timed var upper_proc block sides conditional lower_proc prim_of rightward leftward turns sequence choice merge transfer prim proc formal process command tool definitions roots script
two_stars = refl
