-- The results of the loader's parts give the finding of the source.
use Rattle.std.proofs.Common.{ℕ, List, Err}
use Rattle.tb_body.specs.declared.body.Body.{Body}
use Rattle.tb_syntax.specs.declared.script.Script.{Script}
use Rattle.tb_types.specs.declared.fault.CheckFault.{CheckFault}
use Rattle.tb_types.specs.declared.fault.CheckFault.TheVariants as check
use Rattle.tb_types.specs.Conditions.{Proper, IsFault}
use Rattle.tb_expand.specs.declared.fault.ExpandFault.{ExpandFault}
use Rattle.tb_expand.specs.declared.fault.ExpandFault.TheVariants as expand
use Rattle.tb_script.specs.declared.fault.ScriptFault.{ScriptFault}
use Rattle.tb_script.specs.declared.fault.ScriptFault.TheVariants as fault
use Rattle.tb_script.specs.Loading.{HasFault}
use Rattle.tb_script.specs.Helpers.Making.{IsOnlyScript, HasReadScript, HasBodies, HasJoined, AreExpansions, of_check, of_expand}
use Rattle.tb_script.proofs.Findings.{improper_found, recursive_found, large_found, many_found}

pub read_failed : (text : List ℕ) (f : ScriptFault) → HasReadScript text (Err f) → HasFault text f
read_failed text (fault.Lex f) h = h
read_failed text (fault.Parse f) h = h
read_failed text (fault.Check f) h = absurd h
read_failed text (fault.Expand f) h = absurd h
read_failed text (fault.Roots count) h = absurd h
read_failed text (fault.TooLong count) h = absurd h
read_failed text (fault.NotBuilt token) h = absurd h
read_failed text fault.NoMemory h = tt

pub checks_failed : (text : List ℕ) (script : Script) → IsOnlyScript text script → (f : CheckFault) → IsFault script f → HasFault text (of_check f)
checks_failed text script read (check.Twice token) h = improper_found text script read (check.Twice token) (λ e. absurd cc) h
checks_failed text script read (check.NoProcess token) h = improper_found text script read (check.NoProcess token) (λ e. absurd cc) h
checks_failed text script read (check.NoTool token) h = improper_found text script read (check.NoTool token) (λ e. absurd cc) h
checks_failed text script read (check.NoFunction token) h = improper_found text script read (check.NoFunction token) (λ e. absurd cc) h
checks_failed text script read (check.Arity token) h = improper_found text script read (check.Arity token) (λ e. absurd cc) h
checks_failed text script read (check.Undeclared token) h = improper_found text script read (check.Undeclared token) (λ e. absurd cc) h
checks_failed text script read (check.ResultInSend token) h = improper_found text script read (check.ResultInSend token) (λ e. absurd cc) h
checks_failed text script read (check.NotResult token) h = improper_found text script read (check.NotResult token) (λ e. absurd cc) h
checks_failed text script read (check.TypeClash token) h = improper_found text script read (check.TypeClash token) (λ e. absurd cc) h
checks_failed text script read check.NoMemory h = tt

module _ (text : List ℕ) (script : Script) (read : IsOnlyScript text script) (proper : Proper script) where
  pub bodies_failed : (f : ExpandFault) → HasBodies script (Err f) → HasFault text (of_expand f)
  bodies_failed (expand.Recursion names) h = recursive_found text script read proper names h
  bodies_failed (expand.TooLarge name) h = large_found text script read proper h.no_cycle name h.first
  bodies_failed expand.NoMemory h = tt

  pub joined_failed : (bodies : List Body) (f : ScriptFault) → AreExpansions script bodies → HasJoined script (Err f) → HasFault text f
  joined_failed bodies (fault.Lex f) made h = absurd h
  joined_failed bodies (fault.Parse f) made h = absurd h
  joined_failed bodies (fault.Check f) made h = absurd h
  joined_failed bodies (fault.Expand f) made h = absurd h
  joined_failed bodies (fault.Roots count) made h = many_found text script read proper made.no_cycle made.small count h.are h.many
  joined_failed bodies (fault.TooLong count) made h = absurd h
  joined_failed bodies (fault.NotBuilt token) made h = absurd h
  joined_failed bodies fault.NoMemory made h = tt
