-- The name of an error: the words with which its line begins, after `toolbus: script: `.
use Rattle.std.specs.Prelude.{◌≡◌, ℕ, List, [], ◌++◌, codes}
use Rattle.tb_lex.specs.declared.fault.LexFault.{LexFault}
use Rattle.tb_lex.specs.declared.fault.LexFault.TheVariants as lex
use Rattle.tb_parse.specs.declared.fault.ParseFault.{ParseFault}
use Rattle.tb_parse.specs.declared.fault.ParseFault.TheVariants as parse
use Rattle.tb_types.specs.declared.fault.CheckFault.{CheckFault}
use Rattle.tb_types.specs.declared.fault.CheckFault.TheVariants as check
use Rattle.tb_expand.specs.declared.fault.ExpandFault.{ExpandFault}
use Rattle.tb_expand.specs.declared.fault.ExpandFault.TheVariants as expand
use Rattle.tb_script.specs.Lines.{script_line}
use Rattle.tb_script.specs.declared.fault.ScriptFault.{ScriptFault}
use Rattle.tb_script.specs.declared.fault.ScriptFault.TheVariants as fault

abbrev pub lex_name : LexFault → List ℕ
lex_name (lex.BadByte at) = codes "byte"
lex_name (lex.OpenString at) = codes "open string"
lex_name (lex.Real at) = codes "real"
lex_name (lex.IntRange at) = codes "integer"
lex_name lex.TooMany = codes "too many tokens"
lex_name lex.NoMemory = []

abbrev pub parse_name : ParseFault → List ℕ
parse_name (parse.Syntax token) = codes "syntax"
parse_name (parse.TooDeep token) = codes "too deep"
parse_name parse.NoMemory = []

abbrev pub check_name : CheckFault → List ℕ
check_name (check.Twice token) = codes "twice"
check_name (check.NoProcess token) = codes "no process"
check_name (check.NoTool token) = codes "no tool"
check_name (check.NoFunction token) = codes "no function"
check_name (check.Arity token) = codes "arity"
check_name (check.Undeclared token) = codes "undeclared"
check_name (check.ResultInSend token) = codes "result in send"
check_name (check.NotResult token) = codes "not result"
check_name (check.TypeClash token) = codes "type clash"
check_name check.NoMemory = []

abbrev pub expand_name : ExpandFault → List ℕ
expand_name (expand.Recursion names) = codes "recursion"
expand_name (expand.TooLarge name) = codes "too large"
expand_name expand.NoMemory = []

-- the name of an error; out of memory isn't an error of the source, and has the empty name
abbrev pub fault_name : ScriptFault → List ℕ
fault_name (fault.Lex f) = lex_name f
fault_name (fault.Parse f) = parse_name f
fault_name (fault.Check f) = check_name f
fault_name (fault.Expand f) = expand_name f
fault_name (fault.Roots count) = codes "too many processes"
fault_name (fault.TooLong count) = codes "too long"
fault_name (fault.NotBuilt token) = codes "not built"
fault_name fault.NoMemory = []

-- in the line of the error, as `toolbus check` writes it, the text after `toolbus: ` begins with `script: ` and the name of the error
abbrev pub BeginsLine : ScriptFault → Type 0
BeginsLine f = (rest : List ℕ) × (script_line f ≡ codes "script: " ++ fault_name f ++ rest)
