-- If a script has a spelling, its printed tokens spell it, except for token positions.
use Rattle.std.proofs.Common.{◌≡◌, ℕ, ◌+◌, List, [], ◌∷◌, ◌++◌, length, map, refl, sym, subst, arith, append_assoc}
use Rattle.std.proofs.lemmas.List.{length-append}
use Rattle.std.specs.List.{flat_map}
use Rattle.tb_lex.specs.declared.kind.TokenKind.{TokenKind}
use Rattle.tb_syntax.specs.declared.level.Level.TheVariants as level
use Rattle.tb_syntax.specs.declared.proc.Call.{Call}
use Rattle.tb_syntax.specs.declared.script.Formal.{Formal}
use Rattle.tb_syntax.specs.declared.script.ProcDef.{ProcDef}
use Rattle.tb_syntax.specs.declared.script.Script.{Script}
use Rattle.tb_syntax.specs.declared.script.ToolDef.{ToolDef}
use Rattle.tb_syntax.specs.Spelling.{SpellsFormal, SpellsProcDef, SpellsToolDef, SpellsDefinitions, SpellsRoots, SpellsCall, Spells, InRow}
use Rattle.tb_syntax.specs.Helpers.Canonical.{formal_tokens, process_tokens, tool_tokens, call_tokens, script_tokens, proc_tokens, sort_tokens, parted, optional}
use Rattle.tb_syntax.specs.Positions.{bare_formal, bare_process, bare_tool, bare_call, without_positions}
use Rattle.tb_syntax.proofs.PrintedAtoms.{call_printed}
use Rattle.tb_syntax.proofs.PrintedExprs.{sort_printed}
use Rattle.tb_syntax.proofs.PrintedLists.{IsPrinted, parted_printed, optional_printed}
use Rattle.tb_syntax.proofs.PrintedProcs.{proc_printed}

formal_printed : (at : ℕ) (formal : Formal) (ks : List TokenKind) → SpellsFormal at formal ks → IsPrinted bare_formal SpellsFormal formal (formal_tokens formal)
formal_printed at formal ks d to =
    let r = sort_printed d.is_sort (to + 2) in (
      record { name = formal.name; sort = formal.sort; result = formal.result; token = to; sort_token = r.0 },
      refl,
      record { position = refl; sort = sort_tokens formal.sort; is_sort = r.1; is = refl },
    )

process_printed : {at : ℕ} {definition : ProcDef} {ks : List TokenKind} → SpellsProcDef at definition ks → IsPrinted bare_process SpellsProcDef definition (process_tokens definition)
process_printed {definition = definition} d to =
    let formals = optional (map formal_tokens definition.formals) in
    let r = optional_printed bare_formal formal_tokens SpellsFormal formal_printed d.are_formals (to + 2) in
    let s = proc_printed d.is_body level.Proc (to + length formals + 3) in (
      record { name = definition.name; formals = r.0; body = s.0; token = to },
      λ i. record { name = definition.name; formals = r.1 i; body = s.1 i; token = 0 },
      record { position = refl; formals = formals; are_formals = r.2; body = proc_tokens definition.body level.Proc; is_body = s.2; is = refl },
    )

tool_printed : {at : ℕ} {definition : ToolDef} {ks : List TokenKind} → SpellsToolDef at definition ks → IsPrinted bare_tool SpellsToolDef definition (tool_tokens definition)
tool_printed {definition = definition} d to = (
  record { name = definition.name; command = definition.command; token = to },
  refl,
  record { position = refl; is_name = d.is_name; is = refl },
)

tools_printed : {at : ℕ} {procs : List ProcDef} {tools : List ToolDef} {ks : List TokenKind} → SpellsDefinitions at procs tools ks → (to : ℕ)
    → (others : List ToolDef) × (map bare_tool others ≡ map bare_tool tools) × InRow SpellsToolDef to others (flat_map tool_tokens tools)
tools_printed (SpellsDefinitions.none at) to = ([], refl, InRow.none to)
tools_printed (SpellsDefinitions.process d ds) to = tools_printed ds to
tools_printed (SpellsDefinitions.tool {d = definition} d ds) to =
    let r = tool_printed d to in
    let rs = tools_printed ds (to + length (tool_tokens definition)) in
    (r.0 ∷ rs.0, (λ i. r.1 i ∷ rs.1 i), InRow.more r.2 rs.2)

processes_printed : {at : ℕ} {procs : List ProcDef} {tools : List ToolDef} {ks : List TokenKind} → SpellsDefinitions at procs tools ks → (to : ℕ)
    → (others : List ProcDef) × (map bare_process others ≡ map bare_process procs) × InRow SpellsProcDef to others (flat_map process_tokens procs)
processes_printed (SpellsDefinitions.none at) to = ([], refl, InRow.none to)
processes_printed (SpellsDefinitions.tool d ds) to = processes_printed ds to
processes_printed (SpellsDefinitions.process {d = definition} d ds) to =
    let r = process_printed d to in
    let rs = processes_printed ds (to + length (process_tokens definition)) in
    (r.0 ∷ rs.0, (λ i. r.1 i ∷ rs.1 i), InRow.more r.2 rs.2)

processes_alone : {at : ℕ} {procs : List ProcDef} {ks : List TokenKind} → InRow SpellsProcDef at procs ks → SpellsDefinitions at procs [] ks
processes_alone (InRow.none at) = SpellsDefinitions.none at
processes_alone (InRow.more d ds) = SpellsDefinitions.process d (processes_alone ds)

-- tools, and then processes
joined : {at : ℕ} {tools : List ToolDef} {ks : List TokenKind} → InRow SpellsToolDef at tools ks → (from : ℕ) (procs : List ProcDef) (rest : List TokenKind) → from ≡ at + length ks → InRow SpellsProcDef from procs rest
    → SpellsDefinitions at procs tools (ks ++ rest)
joined (InRow.none at) from procs rest e ds =
    let same : from ≡ at = omega arith in
    subst (λ position. SpellsDefinitions position procs [] rest) same (processes_alone ds)
joined (InRow.more {at = at} {x = x} {ks = ks} {xs = xs} {rest = more} d row) from procs rest e ds =
    let long : length (ks ++ more) ≡ length ks + length more = length-append ks more in
    let position : from ≡ at + length ks + length more = omega arith in
    subst (SpellsDefinitions at procs (x ∷ xs)) (sym (append_assoc ks more rest)) (SpellsDefinitions.tool d (joined row from procs rest position ds))

roots_printed : {at : ℕ} {roots : List Call} {ks : List TokenKind} → SpellsRoots at roots ks → (to : ℕ) → (others : List Call) × (map bare_call others ≡ map bare_call roots) × SpellsRoots to others (parted (map call_tokens roots))
roots_printed (SpellsRoots.none at) to = ([], refl, SpellsRoots.none to)
roots_printed (SpellsRoots.some d) to = let r = parted_printed bare_call call_tokens SpellsCall call_printed d to in (r.0, r.1, SpellsRoots.some r.2)

pub script_printed : (script : Script) (ks : List TokenKind) → Spells script ks → (other : Script) × (without_positions other ≡ without_positions script) × Spells other (script_tokens script)
script_printed script ks d =
    let first = flat_map tool_tokens script.tools in
    let behind = flat_map process_tokens script.procs in
    let t = tools_printed d.are_definitions 0 in
    let p = processes_printed d.are_definitions (length first) in
    let r = roots_printed d.are_roots (length (first ++ behind) + 2) in (
      record { procs = p.0; tools = t.0; roots = r.0 },
      λ i. record { procs = p.1 i; tools = t.1 i; roots = r.1 i },
      record {
        definitions = first ++ behind;
        are_definitions = joined t.2 (length first) p.0 behind (omega arith) p.2;
        roots = parted (map call_tokens script.roots);
        are_roots = r.2;
        is = refl;
      },
    )
