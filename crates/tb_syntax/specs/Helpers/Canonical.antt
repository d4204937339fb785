-- The tokens that are printed for a script: a process is in parentheses only if the grammar needs them, and tools come before
-- processes.
use Rattle.std.specs.Prelude.{ℕ, zero, suc, Bool, true, false, List, [], ◌∷◌, ◌++◌, map, flat_map, Option, Some, None, codes, if◌then◌else◌}
use Rattle.tb_terms.specs.declared.sort.Sort.{Sort, out-Sort}
use Rattle.tb_terms.specs.declared.sort.Sort.TheOpen as sort
use Rattle.tb_terms.specs.declared.sort.Sort.TheFolds.{para-Sort}
use Rattle.tb_lex.specs.declared.kind.TokenKind.{TokenKind}
use Rattle.tb_lex.specs.declared.kind.TokenKind.TheVariants as kind
use Rattle.tb_lex.specs.declared.kind.TokenKind.TheVariants.{Lower, Upper, Symbol as Sign}
use Rattle.tb_lex.specs.declared.symbol.Symbol.TheVariants.{LeftParen, RightParen, LeftBracket, RightBracket, LeftBrace, RightBrace, Comma, Point, Colon, Assign, Question, Plus, Star, Bars, Angles, Less, Greater}
use Rattle.tb_syntax.specs.declared.ast.Ast.{Ast}
use Rattle.tb_syntax.specs.declared.ast.AstKind.{AstKind}
use Rattle.tb_syntax.specs.declared.ast.AstKind.TheOpen as ast
use Rattle.tb_syntax.specs.declared.ast.AstKind.TheFolds.{fold-AstKind}
use Rattle.tb_syntax.specs.declared.level.Level.{Level}
use Rattle.tb_syntax.specs.declared.level.Level.TheVariants as level
use Rattle.tb_syntax.specs.declared.proc.ActDef.{ActDef}
use Rattle.tb_syntax.specs.declared.proc.ActDef.TheVariants as act
use Rattle.tb_syntax.specs.declared.proc.AtomDef.{AtomDef}
use Rattle.tb_syntax.specs.declared.proc.Call.{Call}
use Rattle.tb_syntax.specs.declared.proc.Proc.{Proc}
use Rattle.tb_syntax.specs.declared.proc.Proc.TheOpen as tree
use Rattle.tb_syntax.specs.declared.proc.Proc.TheFolds.{fold-Proc}
use Rattle.tb_syntax.specs.declared.proc.TimeDef.{TimeDef}
use Rattle.tb_syntax.specs.declared.proc.Var.{Var}
use Rattle.tb_syntax.specs.declared.script.Formal.{Formal}
use Rattle.tb_syntax.specs.declared.script.ProcDef.{ProcDef}
use Rattle.tb_syntax.specs.declared.script.Script.{Script}
use Rattle.tb_syntax.specs.declared.script.ToolDef.{ToolDef}
use Rattle.tb_syntax.specs.Binding.{is_looser}
use Rattle.tb_syntax.specs.Spelling.{word, in_parens, mark, command_tokens}

-- the parts, with a comma between each two
abbrev pub parted : List (List TokenKind) → List TokenKind
parted [] = []
parted (part ∷ []) = part
parted (part ∷ next ∷ parts) = part ++ Sign Comma ∷ parted (next ∷ parts)

-- the comma before the element at this position
abbrev pub comma_before : ℕ → List TokenKind
comma_before zero = []
comma_before (suc position) = Sign Comma ∷ []

-- the parts in parentheses, or no tokens if there are no parts
abbrev pub optional : List (List TokenKind) → List TokenKind
optional [] = []
optional (part ∷ parts) = in_parens (parted (part ∷ parts))

abbrev pub is_any : sort.Sort-F Sort → Bool
is_any sort.Bool = false
is_any sort.Int = false
is_any sort.Str = false
is_any (sort.List members) = false
is_any sort.Any = true
is_any (sort.Tool name) = false

-- the type of lists of any terms is `list` alone
abbrev pub list_tokens : Bool → List TokenKind → List TokenKind
list_tokens true members = word (codes "list")
list_tokens false members = Lower (codes "list") ∷ in_parens members

abbrev pub sort_step : sort.Sort-F (Sort × List TokenKind) → List TokenKind
sort_step sort.Bool = word (codes "bool")
sort_step sort.Int = word (codes "int")
sort_step sort.Str = word (codes "str")
sort_step (sort.List members) = list_tokens (is_any (out-Sort members.0)) members.1
sort_step sort.Any = word (codes "term")
sort_step (sort.Tool name) = word name

abbrev pub sort_tokens : Sort → List TokenKind
sort_tokens = para-Sort (List TokenKind) sort_step

-- the word of a type in a placeholder
abbrev pub hole_word : sort.Sort-F Sort → List ℕ
hole_word sort.Bool = codes "bool"
hole_word sort.Int = codes "int"
hole_word sort.Str = codes "str"
hole_word (sort.List members) = codes "list"
hole_word sort.Any = codes "term"
hole_word (sort.Tool name) = name

abbrev pub hole_tokens : Sort → List TokenKind
hole_tokens s = Sign Less ∷ Lower (hole_word (out-Sort s)) ∷ Sign Greater ∷ []

abbrev pub list_expr_tokens : List (List TokenKind) → List TokenKind
list_expr_tokens parts = Sign LeftBracket ∷ (parted parts ++ Sign RightBracket ∷ [])

abbrev pub kind_step : ast.AstKind-F (List TokenKind) (List TokenKind) → List TokenKind
kind_step (ast.Int number) = kind.Int number ∷ []
kind_step (ast.Str text) = kind.Str text ∷ []
kind_step (ast.Appl name parts) = Lower name ∷ optional parts
kind_step (ast.Var name) = Upper name ∷ []
kind_step (ast.Result name) = Upper name ∷ Sign Question ∷ []
kind_step (ast.Hole s) = hole_tokens s
kind_step (ast.List parts) = list_expr_tokens parts

-- the position of an expression isn't printed
abbrev pub expr_step : ast.Ast-F (List TokenKind) (List TokenKind) → List TokenKind
expr_step expr = expr.kind

abbrev pub kind_tokens : AstKind → List TokenKind
kind_tokens = fold-AstKind (List TokenKind) (List TokenKind) kind_step expr_step

abbrev pub expr_tokens : Ast → List TokenKind
expr_tokens expr = kind_tokens expr.kind

abbrev pub call_tokens : Call → List TokenKind
call_tokens call = Upper call.name ∷ optional (map expr_tokens call.actuals)

abbrev pub set_tokens : List ℕ → Ast → List TokenKind
set_tokens name value = Upper name ∷ Sign Assign ∷ expr_tokens value

abbrev pub create_tokens : Call → Ast → List TokenKind
create_tokens call variable = Lower (codes "create") ∷ Sign LeftParen ∷ (call_tokens call ++ Sign Comma ∷ (expr_tokens variable ++ Sign RightParen ∷ []))

abbrev pub act_tokens : ActDef → List TokenKind
act_tokens (act.Set name value) = set_tokens name value
act_tokens (act.Create call variable) = create_tokens call variable
act_tokens (act.Named name arguments) = Lower name ∷ optional (map expr_tokens arguments)

abbrev pub time_tokens : TimeDef → List TokenKind
time_tokens time = Lower time.name ∷ in_parens (expr_tokens time.value)

abbrev pub atom_tokens : AtomDef → List TokenKind
atom_tokens atom = act_tokens atom.act ++ flat_map time_tokens atom.times

abbrev pub var_tokens : Var → List TokenKind
var_tokens var = Upper var.name ∷ Sign Colon ∷ sort_tokens var.sort

-- the tokens of a construct of level `own` at a place of level `at`: in parentheses if the construct is looser
abbrev pub placed : Level → Level → List TokenKind → List TokenKind
placed own at tokens = if is_looser own at then in_parens tokens else tokens

abbrev pub then_tokens : List TokenKind → List TokenKind → List TokenKind
then_tokens test x = Lower (codes "if") ∷ (test ++ Lower (codes "then") ∷ x)

abbrev pub else_tokens : Option (Level → List TokenKind) → List TokenKind
else_tokens None = Lower (codes "fi") ∷ []
else_tokens (Some y) = Lower (codes "else") ∷ (y level.Proc ++ Lower (codes "fi") ∷ [])

abbrev pub let_tokens : List TokenKind → List TokenKind → List TokenKind
let_tokens vars x = Lower (codes "let") ∷ (vars ++ Lower (codes "in") ∷ (x ++ Lower (codes "endlet") ∷ []))

-- the tokens of one construct, from those of each part at the level of the part's place
abbrev pub proc_step : tree.Proc-F (Level → List TokenKind) → Level → List TokenKind
proc_step (tree.Atom atom) at = atom_tokens atom
proc_step (tree.Call call) at = call_tokens call
proc_step (tree.Seq x y) at = placed level.Seq at (x level.Star ++ Sign Point ∷ y level.Seq)
proc_step (tree.Alt x y) at = placed level.Alt at (x level.Seq ++ Sign Plus ∷ y level.Alt)
proc_step (tree.Star x y) at = placed level.Star at (x level.Star ++ Sign Star ∷ y level.Prim)
proc_step (tree.Par x y) at = placed level.Par at (x level.Alt ++ Sign Bars ∷ y level.Par)
proc_step (tree.Disrupt x y) at = placed level.Proc at (x level.Par ++ Sign Angles ∷ y level.Proc)
proc_step (tree.If test x y) at = then_tokens (expr_tokens test) (x level.Proc) ++ else_tokens y
proc_step (tree.Let vars x) at = let_tokens (parted (map var_tokens vars)) (x level.Proc)

abbrev pub proc_tokens : Proc → Level → List TokenKind
proc_tokens = fold-Proc (Level → List TokenKind) proc_step

abbrev pub formal_tokens : Formal → List TokenKind
formal_tokens formal = Upper formal.name ∷ Sign Colon ∷ (sort_tokens formal.sort ++ mark formal.result)

abbrev pub process_tokens : ProcDef → List TokenKind
process_tokens definition =
    Lower (codes "process") ∷ Upper definition.name ∷ (optional (map formal_tokens definition.formals) ++ Lower (codes "is") ∷ proc_tokens definition.body level.Proc)

abbrev pub tool_tokens : ToolDef → List TokenKind
tool_tokens definition =
    Lower (codes "tool") ∷ Lower definition.name ∷ Lower (codes "is") ∷ Sign LeftBrace ∷ (command_tokens definition.command ++ Sign RightBrace ∷ [])

abbrev pub roots_tokens : List Call → List TokenKind
roots_tokens roots = Lower (codes "toolbus") ∷ in_parens (parted (map call_tokens roots))

abbrev pub script_tokens : Script → List TokenKind
script_tokens script = flat_map tool_tokens script.tools ++ flat_map process_tokens script.procs ++ roots_tokens script.roots
