-- The text of the line of each error: the names of all processes of a cycle, with commas between them, or the process that is too large.
use Rattle.std.specs.Prelude.{ℕ, List, ◌++◌, codes}
use Rattle.std.specs.List.{join_with_byte}
use Rattle.tb_expand.specs.declared.fault.ExpandFault.{ExpandFault}
use Rattle.tb_expand.specs.declared.fault.ExpandFault.TheVariants.{Recursion, TooLarge, NoMemory}

abbrev pub expand_line : ExpandFault → List ℕ
expand_line (Recursion names) = codes "script: recursion " ++ join_with_byte 44 names
expand_line (TooLarge name) = codes "script: too large " ++ name
expand_line NoMemory = codes "no memory"
