-- Atoms without violations are in range.
use Rattle.std.proofs.Common.{◌≡◌, ℕ, Bool, true, false, ◌&&◌, not, nat_lt, List, [], ◌∷◌, ◌++◌, map, ◌+◌, length, slice_get, Option, Some, None, refl, ap, ◌∙◌, subst}
use Rattle.std.specs.Prelude.{is_none, is_some}
use Rattle.std.specs.List.{list_all, flat_map}
use Rattle.std.proofs.lemmas.Bool.{and_from, lt-ltb}
use Rattle.tb_terms.specs.declared.expr.Expr.{Expr}
use Rattle.tb_terms.specs.declared.sort.Sort.TheVariants as sorts
use Rattle.tb_body.specs.declared.act.Act.{Act}
use Rattle.tb_body.specs.declared.atom.Time.{Time}
use Rattle.tb_body.specs.Acts.{is_act_in_body, is_atom_in_body, some_and_all}
use Rattle.tb_body.specs.Exprs.{positions_of, is_value}
use Rattle.tb_syntax.specs.declared.ast.Ast.{Ast}
use Rattle.tb_syntax.specs.declared.ast.AstKind.{AstKind, out-AstKind}
use Rattle.tb_syntax.specs.declared.ast.AstKind.TheOpen as layer
use Rattle.tb_syntax.specs.declared.ast.AstKind.TheOpen.{AstKind-F}
use Rattle.tb_syntax.specs.declared.atom_words.AtomWord.{AtomWord}
use Rattle.tb_syntax.specs.declared.atom_words.AtomWord.TheVariants as atom
use Rattle.tb_syntax.specs.declared.proc.ActDef.{ActDef}
use Rattle.tb_syntax.specs.declared.proc.ActDef.TheVariants as def
use Rattle.tb_syntax.specs.declared.proc.AtomDef.{AtomDef}
use Rattle.tb_syntax.specs.declared.proc.Call.{Call}
use Rattle.tb_syntax.specs.declared.proc.TimeDef.{TimeDef}
use Rattle.tb_syntax.specs.declared.script.Formal.{Formal}
use Rattle.tb_syntax.specs.declared.script.Script.{Script}
use Rattle.tb_types.specs.declared.violation.Rule.TheVariants.{NoProcess, Arity, Undeclared}
use Rattle.tb_types.specs.declared.calls.Manner.TheVariants.{Made}
use Rattle.tb_types.specs.declared.positions.Position.{Position}
use Rattle.tb_types.specs.declared.positions.Position.TheVariants.{Sent, Taken, Noted, Received}
use Rattle.tb_types.specs.declared.scope.Known.{Known}
use Rattle.tb_types.specs.Atoms.{word_of, has_wrong_arguments, arguments_faults, named_faults, assigned_expected_sort, act_faults, time_faults, atom_faults}
use Rattle.tb_types.specs.Violation.{noted_if}
use Rattle.tb_types.specs.Calls.{actual_position, actual_expected_sort, actuals_faults, formals_of, has_wrong_actuals, call_faults}
use Rattle.tb_types.specs.ExpectedSorts.{Expectation, plain, of_sort, tested, made, command, started, connected, disconnected, of_tool, name_alone, result_name, is_result, site_faults}
use Rattle.tb_types.specs.Names.{process_named}
use Rattle.tb_types.specs.Scopes.{sort_in}
use Rattle.tb_expand.specs.Helpers.Agreeing.{Agrees}
use Rattle.tb_expand.specs.Acts.{name_of, leaving as leaves, act_of_word, act_of, time_of, atom_of}
use Rattle.tb_expand.specs.Exprs.{expr_of, exprs_of}
use Rattle.tb_expand.specs.Scopes.{Scope, slot_of}
use Rattle.tb_expand.proofs.ExprRanges.{may_stand, some_sort, expr_in_range, value_in_range, taken_in_range, taken_sent}
use Rattle.tb_expand.proofs.KeptSites.{IsKept, kept_site, is_result_of}
use Rattle.tb_expand.proofs.KnownSlots.{slot_in_range}
use Rattle.tb_expand.proofs.NoFaults.{append_none, flat_map_none}

-- the arguments of an atom without violations
pub of_arguments : (script : Script) (known : List Known) (word : AtomWord) (arguments : List Ast) (token : ℕ)
    → named_faults script known word arguments token ≡ [] → arguments_faults script known word arguments ≡ []
of_arguments script known word arguments token none = (append_none (noted_if (has_wrong_arguments word (length arguments)) Arity token) (arguments_faults script known word arguments) none).1

-- the arguments of a `create` are at `Sent`
made_sent : (formal : Option Formal) → actual_position Made formal ≡ Sent
made_sent None = refl
made_sent (Some formal) = refl

module _ (script : Script) (slots : ℕ) (scope : Scope) (known : List Known) (agrees : Agrees script slots scope known) where
  abbrev IsInRange : Act → Type 0
  IsInRange act = is_act_in_body slots act ≡ true

  abbrev stands_at : Position → Expr → Bool
  stands_at position e = may_stand position (positions_of slots e)

  site_stands : (position : Position) (expected_sort : Expectation) (e : Ast) → site_faults script known position expected_sort e ≡ [] → stands_at position (expr_of scope e) ≡ true
  site_stands position expected_sort e none =
      let kept = kept_site script known position expected_sort e none in
      expr_in_range script slots scope known agrees position e kept.no_faults kept.in_place

  sites_stand : (position : Position) (expected_sort : Expectation) (es : List Ast) → flat_map (site_faults script known position expected_sort) es ≡ [] → list_all (stands_at position) (exprs_of scope es) ≡ true
  sites_stand position expected_sort [] none = refl
  sites_stand position expected_sort (e ∷ es) none =
      let parts = flat_map_none (site_faults script known position expected_sort) e es none in
      and_from (stands_at position (expr_of scope e)) (list_all (stands_at position) (exprs_of scope es)) (site_stands position expected_sort e parts.0) (sites_stand position expected_sort es parts.1)

  -- a first argument and others, each at its position
  both_stand : (position other_position : Position) (expected_sort other_expected_sort : Expectation) (e : Ast) (es : List Ast)
      → site_faults script known position expected_sort e ++ flat_map (site_faults script known other_position other_expected_sort) es ≡ []
      → (stands_at position (expr_of scope e) && list_all (stands_at other_position) (exprs_of scope es)) ≡ true
  both_stand position other_position expected_sort other_expected_sort e es none =
      let parts = append_none (site_faults script known position expected_sort e) (flat_map (site_faults script known other_position other_expected_sort) es) none in
      and_from (stands_at position (expr_of scope e)) (list_all (stands_at other_position) (exprs_of scope es)) (site_stands position expected_sort e parts.0) (sites_stand other_position other_expected_sort es parts.1)

  -- two arguments
  two_stand : (position other_position : Position) (expected_sort other_expected_sort : Expectation) (x y : Ast)
      → site_faults script known position expected_sort x ++ flat_map (site_faults script known other_position other_expected_sort) (y ∷ []) ≡ []
      → (stands_at position (expr_of scope x) && stands_at other_position (expr_of scope y)) ≡ true
  two_stand position other_position expected_sort other_expected_sort x y none =
      let parts = append_none (site_faults script known position expected_sort x) (flat_map (site_faults script known other_position other_expected_sort) (y ∷ [])) none in
      and_from (stands_at position (expr_of scope x)) (stands_at other_position (expr_of scope y)) (site_stands position expected_sort x parts.0)
      (site_stands other_position other_expected_sort y (flat_map_none (site_faults script known other_position other_expected_sort) y [] parts.1).0)

  -- a first argument and at least one other
  more_stand : (position other_position : Position) (expected_sort other_expected_sort : Expectation) (x y : Ast) (es : List Ast)
      → site_faults script known position expected_sort x ++ flat_map (site_faults script known other_position other_expected_sort) (y ∷ es) ≡ []
      → (stands_at position (expr_of scope x) && some_and_all (stands_at other_position) (exprs_of scope (y ∷ es))) ≡ true
  more_stand position other_position expected_sort other_expected_sort x y es none = both_stand position other_position expected_sort other_expected_sort x (y ∷ es) none

  result_in_range : (expected_sort : Expectation) (e : Ast) → IsKept script known Taken expected_sort e → not (is_result e) ≡ false → nat_lt (slot_of scope (name_of e)) slots ≡ true
  result_in_range expected_sort e kept there =
      lt-ltb (slot_of scope (name_of e)) slots (taken_in_range script slots scope known e (name_of e) agrees (is_result_of e there) kept.no_faults)

  -- a tool that disconnects
  leaving_in_range : (e : Ast) → IsKept script known Taken disconnected e → (x : AstKind-F AstKind Ast) → out-AstKind e.kind ≡ x → IsInRange (leaves script scope e x)
  leaving_in_range e kept = step where
    sent : (x : AstKind-F AstKind Ast) → out-AstKind e.kind ≡ x → is_some (result_name x) ≡ false → is_value slots (expr_of scope e) ≡ true
    sent x is other = value_in_range script slots scope known e agrees kept.no_faults (taken_sent e (ap (λ (y : AstKind-F AstKind Ast). is_some (result_name y)) is ∙ other) kept.in_place)

    step : (x : AstKind-F AstKind Ast) → out-AstKind e.kind ≡ x → IsInRange (leaves script scope e x)
    step (layer.Int number) is = sent _ is refl
    step (layer.Str text) is = sent _ is refl
    step (layer.Appl name parts) is = sent _ is refl
    step (layer.Var name) is = sent _ is refl
    step (layer.Result name) is = lt-ltb (slot_of scope name) slots (taken_in_range script slots scope known e name agrees is kept.no_faults)
    step (layer.Hole s) is = sent _ is refl
    step (layer.List parts) is = sent _ is refl

  -- a lone argument
  alone : (position : Position) (expected_sort : Expectation) (e : Ast) → site_faults script known position expected_sort e ++ [] ≡ [] → site_faults script known position expected_sort e ≡ []
  alone position expected_sort e all = (append_none (site_faults script known position expected_sort e) [] all).0

  kept : (expected_sort : Expectation) (e : Ast) → site_faults script known Taken expected_sort e ++ [] ≡ [] → IsKept script known Taken expected_sort e
  kept expected_sort e all = kept_site script known Taken expected_sort e (alone Taken expected_sort e all)

  -- the variable of an `execute`, for each tool
  executed_in_range : (position : Position) (expected_sort : Expectation) (tool : Option (List ℕ)) (x y : Ast)
      → site_faults script known position expected_sort x ++ flat_map (site_faults script known Taken (started tool)) (y ∷ []) ≡ [] → nat_lt (slot_of scope (name_of y)) slots ≡ true
  executed_in_range position expected_sort tool x y none =
      let parts = append_none (site_faults script known position expected_sort x) (flat_map (site_faults script known Taken (started tool)) (y ∷ [])) none in
      let kept = kept_site script known Taken (started tool) y (flat_map_none (site_faults script known Taken (started tool)) y [] parts.1).0 in
      result_in_range (started tool) y kept kept.has_result

  word_in_range : (word : AtomWord) (arguments : List Ast) → arguments_faults script known word arguments ≡ [] → IsInRange (act_of_word script scope word arguments)
  word_in_range atom.Delta es none = refl
  word_in_range atom.Tau [] none = refl
  word_in_range atom.Tau (e ∷ es) none = refl
  word_in_range atom.Printf [] none = refl
  word_in_range atom.Printf (e ∷ es) none = both_stand Sent Sent (of_sort sorts.Str) plain e es none
  word_in_range atom.SndMsg [] none = refl
  word_in_range atom.SndMsg (e ∷ es) none = both_stand Sent Sent plain plain e es none
  word_in_range atom.RecMsg [] none = refl
  word_in_range atom.RecMsg (e ∷ es) none = both_stand Received Received plain plain e es none
  word_in_range atom.SndNote [] none = refl
  word_in_range atom.SndNote (e ∷ es) none = both_stand Sent Sent plain plain e es none
  word_in_range atom.RecNote [] none = refl
  word_in_range atom.RecNote (e ∷ es) none = both_stand Received Received plain plain e es none
  word_in_range atom.NoNote [] none = refl
  word_in_range atom.NoNote (e ∷ es) none = both_stand Noted Noted plain plain e es none
  word_in_range atom.Subscribe [] none = refl
  word_in_range atom.Subscribe (e ∷ es) none = both_stand Noted Noted plain plain e es none
  word_in_range atom.Unsubscribe [] none = refl
  word_in_range atom.Unsubscribe (e ∷ es) none = both_stand Noted Noted plain plain e es none
  word_in_range atom.Execute [] none = refl
  word_in_range atom.Execute (e ∷ []) none = refl
  word_in_range atom.Execute (x ∷ y ∷ []) none = executed_in_range Sent command (name_alone (out-AstKind x.kind)) x y none
  word_in_range atom.Execute (x ∷ y ∷ z ∷ es) none = refl
  word_in_range atom.RecConnect [] none = refl
  word_in_range atom.RecConnect (e ∷ []) none = result_in_range connected e (kept connected e none) (kept connected e none).has_result
  word_in_range atom.RecConnect (x ∷ y ∷ es) none = refl
  word_in_range atom.RecDisconnect [] none = refl
  word_in_range atom.RecDisconnect (e ∷ []) none = leaving_in_range e (kept disconnected e none) (out-AstKind e.kind) refl
  word_in_range atom.RecDisconnect (x ∷ y ∷ es) none = refl
  word_in_range atom.SndEval [] none = refl
  word_in_range atom.SndEval (e ∷ []) none = refl
  word_in_range atom.SndEval (x ∷ y ∷ []) none = two_stand Sent Sent of_tool plain x y none
  word_in_range atom.SndEval (x ∷ y ∷ z ∷ es) none = refl
  word_in_range atom.RecValue [] none = refl
  word_in_range atom.RecValue (e ∷ []) none = refl
  word_in_range atom.RecValue (x ∷ y ∷ []) none = two_stand Sent Received of_tool plain x y none
  word_in_range atom.RecValue (x ∷ y ∷ z ∷ es) none = refl
  word_in_range atom.SndDo [] none = refl
  word_in_range atom.SndDo (e ∷ []) none = refl
  word_in_range atom.SndDo (x ∷ y ∷ []) none = two_stand Sent Sent of_tool plain x y none
  word_in_range atom.SndDo (x ∷ y ∷ z ∷ es) none = refl
  word_in_range atom.RecEvent [] none = refl
  word_in_range atom.RecEvent (e ∷ []) none = refl
  word_in_range atom.RecEvent (x ∷ y ∷ es) none = more_stand Sent Received of_tool plain x y es none
  word_in_range atom.SndAckEvent [] none = refl
  word_in_range atom.SndAckEvent (e ∷ []) none = refl
  word_in_range atom.SndAckEvent (x ∷ y ∷ es) none = more_stand Sent Sent of_tool plain x y es none
  word_in_range atom.SndTerminate [] none = refl
  word_in_range atom.SndTerminate (e ∷ []) none = refl
  word_in_range atom.SndTerminate (x ∷ y ∷ []) none = two_stand Sent Sent of_tool plain x y none
  word_in_range atom.SndTerminate (x ∷ y ∷ z ∷ es) none = refl
  word_in_range atom.Shutdown [] none = refl
  word_in_range atom.Shutdown (e ∷ []) none = site_stands Sent plain e (alone Sent plain e none)
  word_in_range atom.Shutdown (x ∷ y ∷ es) none = refl

  actuals_in_range : (formals : List Formal) (position : ℕ) (actuals : List Ast) → actuals_faults script known Made formals position actuals ≡ [] → list_all (is_value slots) (exprs_of scope actuals) ≡ true
  actuals_in_range formals position [] none = refl
  actuals_in_range formals position (actual ∷ actuals) none =
      let own = actual_position Made (slice_get formals position) in
      let expected_sort = actual_expected_sort Made (slice_get formals position) in
      let parts = append_none (site_faults script known own expected_sort actual) (actuals_faults script known Made formals (position + 1) actuals) none in
      let sent = subst (λ (p : Position). site_faults script known p expected_sort actual ≡ []) (made_sent (slice_get formals position)) parts.0 in
      and_from (is_value slots (expr_of scope actual)) (list_all (is_value slots) (exprs_of scope actuals)) (site_stands Sent expected_sort actual sent) (actuals_in_range formals (position + 1) actuals parts.1)

  created_in_range : (call : Call) → call_faults script known Made call ≡ [] → list_all (is_value slots) (exprs_of scope call.actuals) ≡ true
  created_in_range call none =
      let process = process_named script.procs call.name in
      let actuals = append_none (noted_if (is_none process) NoProcess call.token ++ noted_if (has_wrong_actuals process call.actuals) Arity call.token)
      (actuals_faults script known Made (formals_of process) 0 call.actuals) none in
      actuals_in_range (formals_of process) 0 call.actuals actuals.1

  act_in_range : (act : ActDef) (token : ℕ) → act_faults script known act token ≡ [] → IsInRange (act_of script scope act)
  act_in_range (def.Set name value) token none =
      let expected_sort = assigned_expected_sort (sort_in known name) in
      let parts = append_none (noted_if (is_none (sort_in known name)) Undeclared token) (site_faults script known Sent expected_sort value) none in
      let own = some_sort (sort_in known name) Undeclared token parts.0 in
      and_from (nat_lt (slot_of scope name) slots) (is_value slots (expr_of scope value))
      (lt-ltb (slot_of scope name) slots (slot_in_range script slots scope known name own.0 agrees own.1)) (site_stands Sent expected_sort value parts.1)
  act_in_range (def.Create call variable) token none =
      let parts = append_none (call_faults script known Made call) (site_faults script known Taken made variable) none in
      let kept = kept_site script known Taken made variable parts.1 in
      and_from (list_all (is_value slots) (exprs_of scope call.actuals)) (nat_lt (slot_of scope (name_of variable)) slots)
      (created_in_range call parts.0) (result_in_range made variable kept kept.has_result)
  act_in_range (def.Named name arguments) token none = word_in_range (word_of name) arguments (of_arguments script known (word_of name) arguments token none)

  times_in_range : (times : List TimeDef) → flat_map (time_faults script known) times ≡ [] → list_all (λ (time : Time). is_value slots time.value) (map (time_of scope) times) ≡ true
  times_in_range [] none = refl
  times_in_range (time ∷ times) none =
      let parts = flat_map_none (time_faults script known) time times none in
      and_from (is_value slots (expr_of scope time.value)) (list_all (λ (t : Time). is_value slots t.value) (map (time_of scope) times)) (site_stands Sent (tested sorts.Int) time.value parts.0) (times_in_range times parts.1)

pub atom_in_range : (script : Script) (slots : ℕ) (scope : Scope) (known : List Known) (def : AtomDef)
    → Agrees script slots scope known → atom_faults script known def ≡ [] → is_atom_in_body slots (atom_of script scope def) ≡ true
atom_in_range script slots scope known def agrees none =
    let parts = append_none (act_faults script known def.act def.token) (flat_map (time_faults script known) def.times) none in
    and_from (is_act_in_body slots (act_of script scope def.act)) (list_all (λ (time : Time). is_value slots time.value) (map (time_of scope) def.times))
    (act_in_range script slots scope known agrees def.act def.token parts.0) (times_in_range script slots scope known agrees def.times parts.1)
