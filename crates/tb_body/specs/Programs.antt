-- Which programs are in range: the number of roots, and the processes and tools that acts and roots refer to.
use Rattle.std.specs.Prelude.{ℕ, Bool, true, false, ◌&&◌, ◌==◌, nat_lt, nat_le, List, [], ◌∷◌, length, Option, Some, None, is_some, slice_get}
use Rattle.std.specs.List.{list_all}
use Rattle.tb_terms.specs.declared.term.Term.{Term}
use Rattle.tb_terms.specs.declared.sort.Sort.{Sort}
use Rattle.tb_terms.specs.Sorts.{has_sort}
use Rattle.tb_terms.specs.Sizes.{is_within_limits}
use Rattle.tb_body.specs.declared.act.Act.{Act}
use Rattle.tb_body.specs.declared.act.Act.TheVariants.{Delta, Tau, SndMsg, RecMsg, SndNote, RecNote, NoNote, Subscribe, Unsubscribe, Create, Set, Printf, Execute, RecConnect, RecDisconnectAny, RecDisconnect, SndEval, RecValue, SndDo, RecEvent, SndAckEvent, SndTerminate, Shutdown}
use Rattle.tb_body.specs.declared.atom.Atom.{Atom}
use Rattle.tb_body.specs.declared.body.Body.{Body}
use Rattle.tb_body.specs.declared.program.Root.{Root}
use Rattle.tb_body.specs.declared.program.Tool.{Tool}

-- the body exists, and it has as many parameters as there are arguments
abbrev pub takes : Option Body → ℕ → Bool
takes None actuals = false
takes (Some body) actuals = body.formals == actuals

-- the tool exists, and it has a command
abbrev pub has_command : Option Tool → Bool
has_command None = false
has_command (Some tool) = is_some tool.command

-- A created process takes this many arguments. A tool exists, and has a command if the act starts it.
abbrev pub is_act_in_program : List Body → List Tool → Act → Bool
is_act_in_program bodies tools Delta = true
is_act_in_program bodies tools Tau = true
is_act_in_program bodies tools (SndMsg exprs) = true
is_act_in_program bodies tools (RecMsg exprs) = true
is_act_in_program bodies tools (SndNote exprs) = true
is_act_in_program bodies tools (RecNote exprs) = true
is_act_in_program bodies tools (NoNote exprs) = true
is_act_in_program bodies tools (Subscribe exprs) = true
is_act_in_program bodies tools (Unsubscribe exprs) = true
is_act_in_program bodies tools (Create process actuals slot) = takes (slice_get bodies process) (length actuals)
is_act_in_program bodies tools (Set slot value) = true
is_act_in_program bodies tools (Printf exprs) = true
is_act_in_program bodies tools (Execute tool slot) = has_command (slice_get tools tool)
is_act_in_program bodies tools (RecConnect tool slot) = nat_lt tool (length tools)
is_act_in_program bodies tools (RecDisconnectAny tool slot) = nat_lt tool (length tools)
is_act_in_program bodies tools (RecDisconnect tool) = true
is_act_in_program bodies tools (SndEval tool expr) = true
is_act_in_program bodies tools (RecValue tool expr) = true
is_act_in_program bodies tools (SndDo tool expr) = true
is_act_in_program bodies tools (RecEvent tool exprs) = true
is_act_in_program bodies tools (SndAckEvent tool exprs) = true
is_act_in_program bodies tools (SndTerminate tool expr) = true
is_act_in_program bodies tools (Shutdown expr) = true

abbrev pub is_body_in_program : List Body → List Tool → Body → Bool
is_body_in_program bodies tools body = list_all (λ (atom : Atom). is_act_in_program bodies tools atom.act) body.atoms

-- each term has the type at its position; there can be more types than terms
abbrev pub have_sorts : List Sort → List Term → Bool
have_sorts sorts [] = true
have_sorts [] (term ∷ terms) = false
have_sorts (sort ∷ sorts) (term ∷ terms) = has_sort term sort && have_sorts sorts terms

-- the terms are arguments of the body: one for each parameter, of the parameter's type, and within the limits of a term
abbrev pub are_actuals : Body → List Term → Bool
are_actuals body terms = length terms == body.formals && have_sorts body.sorts terms && list_all is_within_limits terms

abbrev pub starts : Option Body → List Term → Bool
starts None actuals = false
starts (Some body) actuals = are_actuals body actuals

abbrev pub is_root_in_range : List Body → Root → Bool
is_root_in_range bodies root = starts (slice_get bodies root.process) root.actuals

-- the greatest number of roots of a program
abbrev pub most_roots : ℕ
most_roots = 10000

unfoldable pub is_program_in_range : List Body → List Root → List Tool → Bool
is_program_in_range bodies roots tools =
    list_all (is_body_in_program bodies tools) bodies
    && nat_le (length roots) most_roots && list_all (is_root_in_range bodies) roots
