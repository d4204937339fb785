-- Atoms without violations refer only to processes and tools that exist.
use Rattle.std.proofs.Common.{◌≡◌, ℕ, ◌<◌, ◌+◌, ◌==◌, Bool, true, false, cond, ◌&&◌, not, nat_lt, List, [], ◌∷◌, ◌++◌, map, length, slice_get, Option, Some, None, refl, ap, sym, ◌∙◌, arith}
use Rattle.std.specs.Prelude.{is_none, is_some, option_and_then, option_map, unwrap_or}
use Rattle.std.specs.List.{flat_map}
use Rattle.std.specs.Str.{bytes_eq}
use Rattle.std.proofs.lemmas.Bool.{lt-ltb, eqb-true, not-false, or_parts}
use Rattle.std.proofs.lemmas.List.{length-map}
use Rattle.tb_terms.specs.declared.expr.Expr.{Expr}
use Rattle.tb_terms.specs.declared.sort.Sort.{Sort, out-Sort}
use Rattle.tb_terms.specs.declared.sort.Sort.TheOpen as sort_layer
use Rattle.tb_terms.specs.declared.sort.Sort.TheOpen.{Sort-F}
use Rattle.tb_terms.specs.declared.sort.Sort.TheFolds.{fold_out-Sort, map-Sort}
use Rattle.tb_body.specs.declared.act.Act.{Act}
use Rattle.tb_body.specs.declared.act.Act.TheVariants as act
use Rattle.tb_body.specs.declared.body.Body.{Body}
use Rattle.tb_body.specs.declared.program.Tool.{Tool}
use Rattle.tb_body.specs.Programs.{takes, has_command, is_act_in_program}
use Rattle.tb_syntax.specs.declared.ast.Ast.{Ast}
use Rattle.tb_syntax.specs.declared.ast.AstKind.{AstKind, out-AstKind}
use Rattle.tb_syntax.specs.declared.ast.AstKind.TheOpen as layer
use Rattle.tb_syntax.specs.declared.ast.AstKind.TheOpen.{AstKind-F}
use Rattle.tb_syntax.specs.declared.atom_words.AtomWord.{AtomWord}
use Rattle.tb_syntax.specs.declared.atom_words.AtomWord.TheVariants as atom
use Rattle.tb_syntax.specs.declared.proc.ActDef.{ActDef}
use Rattle.tb_syntax.specs.declared.proc.ActDef.TheVariants as def
use Rattle.tb_syntax.specs.declared.proc.AtomDef.{AtomDef}
use Rattle.tb_syntax.specs.declared.proc.Call.{Call}
use Rattle.tb_syntax.specs.declared.script.ProcDef.{ProcDef}
use Rattle.tb_syntax.specs.declared.script.Script.{Script}
use Rattle.tb_syntax.specs.declared.script.ToolDef.{ToolDef}
use Rattle.tb_types.specs.declared.violation.Rule.TheVariants.{NoProcess, Arity}
use Rattle.tb_types.specs.declared.calls.Manner.TheVariants.{Made}
use Rattle.tb_types.specs.declared.positions.Position.TheVariants.{Sent, Taken}
use Rattle.tb_types.specs.declared.scope.Known.{Known}
use Rattle.tb_types.specs.Atoms.{word_of, arguments_faults, act_faults, time_faults, atom_faults}
use Rattle.tb_types.specs.Violation.{noted_if}
use Rattle.tb_types.specs.Calls.{actuals_faults, formals_of, has_wrong_actuals, call_faults}
use Rattle.tb_types.specs.ExpectedSorts.{Expectation, made, command, started, connected, disconnected, name_alone, result_name, taken_sort, is_refused_by, is_sort_of_tool, is_result, fits_some_tool, site_faults}
use Rattle.tb_types.specs.Fitting.{is_any_tool}
use Rattle.tb_types.specs.Names.{process_named, tool_named, is_tool, is_unknown_sort, unknown_step, has_command as is_command}
use Rattle.tb_types.specs.Scopes.{sort_in}
use Rattle.tb_expand.specs.Helpers.Agreeing.{Agrees}
use Rattle.tb_expand.specs.Acts.{name_in, name_of, position_of, process_of, tool_of, tool_of_open, tool_of_sort, leaving as leaves, some_exprs, two_exprs, more_exprs, act_of_word, act_of, atom_of}
use Rattle.tb_expand.specs.Exprs.{expr_of, exprs_of}
use Rattle.tb_expand.specs.Scopes.{Scope, sort_of}
use Rattle.tb_expand.proofs.AtomRanges.{of_arguments}
use Rattle.tb_expand.proofs.ExprRanges.{result_declared}
use Rattle.tb_expand.proofs.KeptSites.{IsKept, kept_site, is_result_of}
use Rattle.tb_expand.proofs.KnownSlots.{sort_of_known, known_sort}
use Rattle.tb_expand.proofs.NoFaults.{append_none, noted_none}

-- the position of a tool that is defined
tool_within : (tools : List ToolDef) (name : List ℕ) → is_some (tool_named tools name) ≡ true → position_of name (map (λ (d : ToolDef). d.name) tools) < length tools
tool_within [] name there = absurd (cc)
tool_within (tool ∷ tools) name there = step (bytes_eq tool.name name) there (tool_within tools name) where
  step : (b : Bool) → is_some (cond b (Some tool) (tool_named tools name)) ≡ true
      → (is_some (tool_named tools name) ≡ true → position_of name (map (λ (d : ToolDef). d.name) tools) < length tools)
      → cond b 0 (position_of name (map (λ (d : ToolDef). d.name) tools) + 1) < length (tool ∷ tools)
  step true found further = omega arith
  step false found further = omega (arith, further found)

layer_within : (script : Script) (x : Sort-F Sort) → unknown_step script.tools (map-Sort Sort Bool (is_unknown_sort script.tools) x) ≡ false → is_any_tool x ≡ true
    → tool_of_open script x < length script.tools
layer_within script sort_layer.Bool known is = absurd (cc)
layer_within script sort_layer.Int known is = absurd (cc)
layer_within script sort_layer.Str known is = absurd (cc)
layer_within script (sort_layer.List s) known is = absurd (cc)
layer_within script sort_layer.Any known is = absurd (cc)
layer_within script (sort_layer.Tool name) known is = tool_within script.tools name (not-false (is_tool script.tools name) known)

-- a known type of a tool has the name of a defined tool
sort_within : (script : Script) (s : Sort) → is_unknown_sort script.tools s ≡ false → is_any_tool (out-Sort s) ≡ true → tool_of_sort script s < length script.tools
sort_within script s known is = layer_within script (out-Sort s) (sym (fold_out-Sort Bool (unknown_step script.tools) s) ∙ known) is

accepted : (o : Option Sort) (s : Sort) → is_refused_by is_sort_of_tool o ≡ false → o ≡ Some s → is_any_tool (out-Sort s) ≡ true
accepted None s kept e = absurd (cc)
accepted (Some t) s kept e =
    let same : t ≡ s = cc in
    ap (λ (u : Sort). is_any_tool (out-Sort u)) (sym same) ∙ not-false (is_any_tool (out-Sort t)) kept

-- a name without arguments that is the name of a tool with a command
command_named : (tools : List ToolDef) (x : AstKind-F AstKind Ast) → is_command (option_and_then (tool_named tools) (name_alone x)) ≡ true → is_command (tool_named tools (name_in x)) ≡ true
command_named tools (layer.Int number) e = absurd (cc)
command_named tools (layer.Str text) e = absurd (cc)
command_named tools (layer.Appl name []) e = e
command_named tools (layer.Appl name (part ∷ parts)) e = absurd (cc)
command_named tools (layer.Var name) e = absurd (cc)
command_named tools (layer.Result name) e = absurd (cc)
command_named tools (layer.Hole s) e = absurd (cc)
command_named tools (layer.List parts) e = absurd (cc)

with_command : (o : Option ToolDef) → is_command o ≡ true → (t : ToolDef) × (o ≡ Some t) × (is_some t.command ≡ true)
with_command None e = absurd (cc)
with_command (Some t) e = (t, refl, e)

-- the called process, which has as many parameters as there are arguments
called : (o : Option ProcDef) (call : Call) → noted_if (is_none o) NoProcess call.token ≡ [] → noted_if (has_wrong_actuals o call.actuals) Arity call.token ≡ []
    → (d : ProcDef) × (o ≡ Some d) × (length call.actuals ≡ length d.formals)
called None call none wrong = absurd (cc)
called (Some d) call none wrong = (d, refl, eqb-true _ _ (not-false (length call.actuals == length d.formals) (noted_none _ Arity call.token wrong)))

abbrev HasBodies : Script → List Body → Type 0
HasBodies script bodies = (name : List ℕ) (d : ProcDef) → process_named script.procs name ≡ Some d → takes (slice_get bodies (process_of script name)) (length d.formals) ≡ true

abbrev HasCommands : Script → List Tool → Type 0
HasCommands script tools = (name : List ℕ) (t : ToolDef) → tool_named script.tools name ≡ Some t → is_some t.command ≡ true → has_command (slice_get tools (tool_of script name)) ≡ true

module _ (script : Script) (slots : ℕ) (scope : Scope) (known : List Known) (agrees : Agrees script slots scope known) (bodies : List Body) (tools : List Tool)
    (has_bodies : HasBodies script bodies) (same_count : length tools ≡ length script.tools) (has_commands : HasCommands script tools) where
  abbrev IsInProgram : Act → Type 0
  IsInProgram act = is_act_in_program bodies tools act ≡ true

  -- the tool of a variable whose type is the type of a tool
  variable_within : (name : List ℕ) (s : Sort) → sort_in known name ≡ Some s → is_any_tool (out-Sort s) ≡ true → nat_lt (tool_of_sort script (sort_of scope name)) (length tools) ≡ true
  variable_within name s e is =
      let within = sort_within script s (known_sort script slots scope known name s agrees e) is in
      let same : tool_of_sort script (sort_of scope name) ≡ tool_of_sort script s = ap (tool_of_sort script) (sort_of_known script slots scope known name s agrees e) in
      lt-ltb (tool_of_sort script (sort_of scope name)) (length tools) (omega (arith, within, same, same_count))

  -- the tool of a result variable whose type is the type of a tool
  taken_within : (e : Ast) (expected_sort : Expectation) (name : List ℕ) → IsKept script known Taken expected_sort e → out-AstKind e.kind ≡ layer.Result name → is_refused_by is_sort_of_tool (taken_sort known e) ≡ false
      → nat_lt (tool_of_sort script (sort_of scope name)) (length tools) ≡ true
  taken_within e expected_sort name kept is accepts =
      let own = result_declared known e name is kept.no_faults in
      let taken : taken_sort known e ≡ Some own.0 = ap (λ (x : AstKind-F AstKind Ast). option_and_then (sort_in known) (result_name x)) is ∙ own.1 in
      variable_within name own.0 own.1 (accepted (taken_sort known e) own.0 accepts taken)

  -- a tool that disconnects
  leaving_in_program : (e : Ast) → IsKept script known Taken disconnected e → (x : AstKind-F AstKind Ast) → out-AstKind e.kind ≡ x → IsInProgram (leaves script scope e x)
  leaving_in_program e kept (layer.Int number) is = refl
  leaving_in_program e kept (layer.Str text) is = refl
  leaving_in_program e kept (layer.Appl name parts) is = refl
  leaving_in_program e kept (layer.Var name) is = refl
  leaving_in_program e kept (layer.Result name) is =
      taken_within e disconnected name kept is
      (or_parts (is_refused_by is_sort_of_tool (taken_sort known e)) (not (is_result e) && not (fits_some_tool script.tools known e)) kept.no_clash).0
  leaving_in_program e kept (layer.Hole s) is = refl
  leaving_in_program e kept (layer.List parts) is = refl

  kept_alone : (expected_sort : Expectation) (e : Ast) → site_faults script known Taken expected_sort e ++ [] ≡ [] → IsKept script known Taken expected_sort e
  kept_alone expected_sort e all = kept_site script known Taken expected_sort e (append_none (site_faults script known Taken expected_sort e) [] all).0

  joining_in_program : (e : Ast) → IsKept script known Taken connected e → nat_lt (tool_of_sort script (sort_of scope (name_of e))) (length tools) ≡ true
  joining_in_program e it = taken_within e connected (name_of e) it (is_result_of e it.has_result) it.no_clash

  executed_in_program : (x : Ast) (others : List Ast) (expected_sort : Expectation) → site_faults script known Sent command x ++ flat_map (site_faults script known Taken expected_sort) others ≡ []
      → has_command (slice_get tools (tool_of script (name_of x))) ≡ true
  executed_in_program x others expected_sort none =
      let kept = kept_site script known Sent command x (append_none (site_faults script known Sent command x) (flat_map (site_faults script known Taken expected_sort) others) none).0 in
      let tool = with_command (tool_named script.tools (name_of x))
      (command_named script.tools (out-AstKind x.kind) (not-false (is_command (option_and_then (tool_named script.tools) (name_alone (out-AstKind x.kind)))) kept.has_tool)) in
      has_commands (name_of x) tool.0 tool.1 tool.2

  -- acts that refer to neither processes nor tools, for all arguments
  given : {A : Type 0} (make : A → Act) → ((a : A) → IsInProgram (make a)) → (o : Option A) → IsInProgram (unwrap_or (option_map make o) act.Delta)
  given make all None = refl
  given make all (Some a) = all a

  word_in_program : (word : AtomWord) (arguments : List Ast) → arguments_faults script known word arguments ≡ [] → IsInProgram (act_of_word script scope word arguments)
  word_in_program atom.Delta es none = refl
  word_in_program atom.Tau [] none = refl
  word_in_program atom.Tau (e ∷ es) none = refl
  word_in_program atom.Printf es none = given act.Printf (λ exprs. refl) (some_exprs scope es)
  word_in_program atom.SndMsg es none = given act.SndMsg (λ exprs. refl) (some_exprs scope es)
  word_in_program atom.RecMsg es none = given act.RecMsg (λ exprs. refl) (some_exprs scope es)
  word_in_program atom.SndNote es none = given act.SndNote (λ exprs. refl) (some_exprs scope es)
  word_in_program atom.RecNote es none = given act.RecNote (λ exprs. refl) (some_exprs scope es)
  word_in_program atom.NoNote es none = given act.NoNote (λ exprs. refl) (some_exprs scope es)
  word_in_program atom.Subscribe es none = given act.Subscribe (λ exprs. refl) (some_exprs scope es)
  word_in_program atom.Unsubscribe es none = given act.Unsubscribe (λ exprs. refl) (some_exprs scope es)
  word_in_program atom.Execute [] none = refl
  word_in_program atom.Execute (e ∷ []) none = refl
  word_in_program atom.Execute (x ∷ y ∷ []) none = executed_in_program x (y ∷ []) (started (name_alone (out-AstKind x.kind))) none
  word_in_program atom.Execute (x ∷ y ∷ z ∷ es) none = refl
  word_in_program atom.RecConnect [] none = refl
  word_in_program atom.RecConnect (e ∷ []) none = joining_in_program e (kept_alone connected e none)
  word_in_program atom.RecConnect (x ∷ y ∷ es) none = refl
  word_in_program atom.RecDisconnect [] none = refl
  word_in_program atom.RecDisconnect (e ∷ []) none = leaving_in_program e (kept_alone disconnected e none) (out-AstKind e.kind) refl
  word_in_program atom.RecDisconnect (x ∷ y ∷ es) none = refl
  word_in_program atom.SndEval es none = given (λ (both : Expr × Expr). act.SndEval both.0 both.1) (λ both. refl) (two_exprs scope es)
  word_in_program atom.RecValue es none = given (λ (both : Expr × Expr). act.RecValue both.0 both.1) (λ both. refl) (two_exprs scope es)
  word_in_program atom.SndDo es none = given (λ (both : Expr × Expr). act.SndDo both.0 both.1) (λ both. refl) (two_exprs scope es)
  word_in_program atom.RecEvent es none = given (λ (both : Expr × List Expr). act.RecEvent both.0 both.1) (λ both. refl) (more_exprs scope es)
  word_in_program atom.SndAckEvent es none = given (λ (both : Expr × List Expr). act.SndAckEvent both.0 both.1) (λ both. refl) (more_exprs scope es)
  word_in_program atom.SndTerminate es none = given (λ (both : Expr × Expr). act.SndTerminate both.0 both.1) (λ both. refl) (two_exprs scope es)
  word_in_program atom.Shutdown [] none = refl
  word_in_program atom.Shutdown (e ∷ []) none = refl
  word_in_program atom.Shutdown (x ∷ y ∷ es) none = refl

  created_in_program : (call : Call) → call_faults script known Made call ≡ [] → takes (slice_get bodies (process_of script call.name)) (length (exprs_of scope call.actuals)) ≡ true
  created_in_program call none =
      let process = process_named script.procs call.name in
      let missing = noted_if (is_none process) NoProcess call.token in
      let wrong = noted_if (has_wrong_actuals process call.actuals) Arity call.token in
      let names = append_none missing wrong (append_none (missing ++ wrong) (actuals_faults script known Made (formals_of process) 0 call.actuals) none).0 in
      let found = called process call names.0 names.1 in
      let count : length (exprs_of scope call.actuals) ≡ length found.0.formals = length-map call.actuals (expr_of scope) ∙ found.2 in
      ap (takes (slice_get bodies (process_of script call.name))) count ∙ has_bodies call.name found.0 found.1

  named_act_in_program : (act : ActDef) (token : ℕ) → act_faults script known act token ≡ [] → IsInProgram (act_of script scope act)
  named_act_in_program (def.Set name value) token none = refl
  named_act_in_program (def.Create call variable) token none =
      created_in_program call (append_none (call_faults script known Made call) (site_faults script known Taken made variable) none).0
  named_act_in_program (def.Named name arguments) token none = word_in_program (word_of name) arguments (of_arguments script known (word_of name) arguments token none)

pub act_in_program : (script : Script) (slots : ℕ) (scope : Scope) (known : List Known) (def : AtomDef) (bodies : List Body) (tools : List Tool)
    → ((name : List ℕ) (d : ProcDef) → process_named script.procs name ≡ Some d → takes (slice_get bodies (process_of script name)) (length d.formals) ≡ true)
    → length tools ≡ length script.tools
    → ((name : List ℕ) (t : ToolDef) → tool_named script.tools name ≡ Some t → is_some t.command ≡ true → has_command (slice_get tools (tool_of script name)) ≡ true)
    → Agrees script slots scope known → atom_faults script known def ≡ [] → is_act_in_program bodies tools (atom_of script scope def).act ≡ true
act_in_program script slots scope known def bodies tools has_bodies same_count has_commands agrees none =
    named_act_in_program script slots scope known agrees bodies tools has_bodies same_count has_commands def.act def.token
    (append_none (act_faults script known def.act def.token) (flat_map (time_faults script known) def.times) none).0
