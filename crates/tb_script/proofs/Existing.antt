-- A well-formed script whose processes have bodies, and that hasn't too many roots, has a program.
use Rattle.std.proofs.Common.{◌≡◌, ℕ, ◌≤◌, List, [], ◌∷◌, map, length, Option, Some, None, refl, sym}
use Rattle.std.specs.List.{AllZip, AllByRecursion}
use Rattle.std.specs.Option.{IsSome}
use Rattle.std.proofs.lemmas.Bool.{false≢true}
use Rattle.std.proofs.lemmas.List.Elements.{recursion_from_All}
use Rattle.tb_terms.specs.declared.term.Term.{Term}
use Rattle.tb_body.specs.declared.body.Body.{Body}
use Rattle.tb_body.specs.declared.program.Program.{Program}
use Rattle.tb_body.specs.declared.program.Root.{Root}
use Rattle.tb_body.specs.Programs.{most_roots}
use Rattle.tb_syntax.specs.declared.ast.Ast.{Ast}
use Rattle.tb_syntax.specs.declared.proc.Call.{Call}
use Rattle.tb_syntax.specs.declared.script.Script.{Script}
use Rattle.tb_types.specs.Conditions.{Proper}
use Rattle.tb_types.specs.Values.{closed_value}
use Rattle.tb_expand.specs.Acts.{process_of}
use Rattle.tb_script.specs.Findings.{IsFound, Program'}
use Rattle.tb_script.specs.Programs.{IsRootOf, declared_tool}
use Rattle.tb_script.specs.Helpers.Making.{AreExpansions, IsOnlyScript, HasValues}
use Rattle.tb_script.proofs.Findings.{program_found}
use Rattle.tb_script.proofs.ProgramRanges.{program_in_range, roots_have_values}

some_value : (found : Option Term) → IsSome found → (value : Term) × (found ≡ Some value)
some_value None h = absurd (false≢true h)
some_value (Some value) h = (value, refl)

abbrev has_value : Ast → Type 0
has_value e = IsSome (closed_value e)

values : (es : List Ast) → AllByRecursion has_value es → (found : List Term) × (map (λ (value : Term). Some value) found ≡ map closed_value es)
values [] h = ([], refl)
values (e ∷ es) h =
    let first = some_value (closed_value e) h.0 in
    let others = values es h.1 in
    (first.0 ∷ others.0, λ i. sym first.1 i ∷ others.1 i)

roots_of : (script : Script) (calls : List Call) → AllByRecursion HasValues calls → (roots : List Root) × AllZip (IsRootOf script) calls roots
roots_of script [] h = ([], tt)
roots_of script (call ∷ calls) h =
    let found = values call.actuals (recursion_from_All has_value call.actuals h.0) in
    let others = roots_of script calls h.1 in
    let root : Root = record { process = process_of script call.name; actuals = found.0 } in
    (root ∷ others.0, (record { process = refl; actuals = found.1 }, others.1))

pub some_program : (text : List ℕ) (script : Script) → IsOnlyScript text script → Proper script → (bodies : List Body) → AreExpansions script bodies → length script.roots ≤ most_roots
    → (program : Program) × IsFound text (Program' program)
some_program text script read proper bodies made few =
    let found = roots_of script script.roots (recursion_from_All HasValues script.roots (roots_have_values script proper)) in
    let tools = map declared_tool script.tools in
    let in_range = program_in_range script bodies found.0 tools proper made.bodies_are found.1 refl few in
    let program : Program = record { bodies = bodies; roots = found.0; tools = tools; in_range = in_range } in
    (program, program_found text script read proper made.no_cycle made.small few program (record { bodies = made.bodies_are; roots = found.1; tools = refl }))
