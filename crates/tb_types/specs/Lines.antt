-- The text of the line of each error, with its token.
use Rattle.std.specs.Prelude.{ℕ, List, ◌++◌, codes}
use Rattle.std.specs.Fmt.{decimal}
use Rattle.tb_types.specs.declared.fault.CheckFault.{CheckFault}
use Rattle.tb_types.specs.declared.fault.CheckFault.TheVariants.{Twice, NoProcess, NoTool, NoFunction, Arity, Undeclared, ResultInSend, NotResult, TypeClash, NoMemory}

abbrev pub check_line : CheckFault → List ℕ
check_line (Twice token) = codes "script: twice at token " ++ decimal token
check_line (NoProcess token) = codes "script: no process at token " ++ decimal token
check_line (NoTool token) = codes "script: no tool at token " ++ decimal token
check_line (NoFunction token) = codes "script: no function at token " ++ decimal token
check_line (Arity token) = codes "script: arity at token " ++ decimal token
check_line (Undeclared token) = codes "script: undeclared at token " ++ decimal token
check_line (ResultInSend token) = codes "script: result in send at token " ++ decimal token
check_line (NotResult token) = codes "script: not result at token " ++ decimal token
check_line (TypeClash token) = codes "script: type clash at token " ++ decimal token
check_line NoMemory = codes "no memory"
