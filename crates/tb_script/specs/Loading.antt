-- The results of the loader: the program of a source, that the source has a program, or an error.
use Rattle.std.specs.Prelude.{ℕ, List, Result, Ok, Err}
use Rattle.tb_body.specs.declared.program.Program.{Program}
use Rattle.tb_expand.specs.declared.fault.ExpandFault.TheVariants as expand
use Rattle.tb_script.specs.declared.fault.ScriptFault.{ScriptFault}
use Rattle.tb_script.specs.declared.fault.ScriptFault.TheVariants as fault
use Rattle.tb_script.specs.Findings.{IsFound, NoTokens, NoScript, Improper, Recursive, Large, ManyRoots, Program'}

-- Each error states the only finding of the source; of several cycles of calls, it may name any. Memory may run out at any time, which
-- states nothing about the source. `TooLong` and `NotBuilt` are never returned.
abbrev pub HasFault : List ℕ → ScriptFault → Type 0
HasFault text (fault.Lex f) = IsFound text (NoTokens f)
HasFault text (fault.Parse f) = IsFound text (NoScript f)
HasFault text (fault.Check f) = IsFound text (Improper f)
HasFault text (fault.Expand (expand.Recursion names)) = IsFound text (Recursive names)
HasFault text (fault.Expand (expand.TooLarge name)) = IsFound text (Large name)
HasFault text (fault.Expand expand.NoMemory) = ⊥
HasFault text (fault.Roots count) = IsFound text (ManyRoots count)
HasFault text (fault.TooLong count) = ⊥
HasFault text (fault.NotBuilt token) = ⊥
HasFault text fault.NoMemory = Unit {0}

-- the result of `load`: the program of the source, or its error
abbrev pub HasLoaded : List ℕ → Result Program ScriptFault → Type 0
HasLoaded text (Ok program) = IsFound text (Program' program)
HasLoaded text (Err f) = HasFault text f

-- the result of `accept`: that the source has some program, or its error
abbrev pub HasAccepted : {A : Type 0} → List ℕ → Result A ScriptFault → Type 0
HasAccepted text (Ok done) = (program : Program) × IsFound text (Program' program)
HasAccepted text (Err f) = HasFault text f
