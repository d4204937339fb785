-- Expressions without violations are in range, by induction over expressions.
use Rattle.std.proofs.Common.{◌≡◌, ℕ, ◌==◌, ◌<◌, Bool, true, false, not, nat_lt, List, [], ◌∷◌, ◌++◌, map, length, Option, Some, None, refl, ap, sym, ◌∙◌, subst, arith}
use Rattle.std.specs.Prelude.{is_none, is_some, if◌then◌else◌}
use Rattle.std.specs.List.{list_all, flat_map}
use Rattle.std.proofs.lemmas.Bool.{and_from, cond-false, lt-ltb, eq-eqb, eqb-true, ne_eqb, not-false}
use Rattle.std.proofs.lemmas.List.{length-map}
use Rattle.tb_terms.specs.declared.expr.Expr.{Expr}
use Rattle.tb_terms.specs.declared.expr.Func.{Func}
use Rattle.tb_terms.specs.declared.sort.Sort.{Sort}
use Rattle.tb_func.specs.Functions.{function_named, signature_of}
use Rattle.tb_body.specs.Exprs.{Positions, positions_of, all_stand, everywhere_if, is_value, is_test, is_receiving}
use Rattle.tb_syntax.specs.declared.ast.Ast.{Ast, roll-Ast}
use Rattle.tb_syntax.specs.declared.ast.AstKind.{AstKind, out-AstKind, roll-AstKind}
use Rattle.tb_syntax.specs.declared.ast.AstKind.TheOpen as layer
use Rattle.tb_syntax.specs.declared.ast.AstKind.TheOpen.{AstKind-F, Ast-F}
use Rattle.tb_syntax.specs.declared.ast.AstKind.TheFolds.{map-AstKind, map-Ast, fold-Ast, fold_out-AstKind, fold-roll-AstKind, fold-roll-Ast, ind-AstKind}
use Rattle.tb_syntax.specs.declared.script.Script.{Script}
use Rattle.tb_types.specs.declared.violation.Violation.{Violation}
use Rattle.tb_types.specs.declared.violation.Rule.{Rule}
use Rattle.tb_types.specs.declared.violation.Rule.TheVariants.{Undeclared, Arity}
use Rattle.tb_types.specs.declared.positions.Position.{Position}
use Rattle.tb_types.specs.declared.positions.Position.TheVariants.{Sent, Taken, Noted, Received}
use Rattle.tb_types.specs.declared.scope.Known.{Known}
use Rattle.tb_types.specs.Violation.{noted_if}
use Rattle.tb_types.specs.ExpectedSorts.{is_result, result_name}
use Rattle.tb_types.specs.Exprs.{Judged, JudgedKind, judged_kind, expr_faults, has_wrong_count, applied_faults, parts_faults, kind_step as judge_kind, expr_step as judge_expr}
use Rattle.tb_types.specs.Names.{applied}
use Rattle.tb_types.specs.Positions.{misplaced, misplaced_kind, misplaced_step, part_position, takes_results, takes_holes, expr_step as misplaced_expr}
use Rattle.tb_types.specs.Scopes.{sort_in}
use Rattle.tb_expand.specs.Helpers.Agreeing.{Agrees}
use Rattle.tb_expand.specs.Exprs.{expr_of, kind_expr, kind_step, position_step, applied as applying}
use Rattle.tb_expand.specs.Scopes.{Scope, slot_of}
use Rattle.tb_expand.proofs.NoFaults.{append_none, noted_none, flat_map_none}
use Rattle.tb_expand.proofs.PositionKinds.{positions_of_int, positions_of_str, positions_of_var, positions_of_result, positions_of_hole, positions_of_appl, positions_of_call, positions_of_list}
use Rattle.tb_expand.proofs.KnownSlots.{slot_in_range}

-- what is taken is looked at by itself
abbrev pub may_stand : Position → Positions → Bool
may_stand Sent positions = positions.value
may_stand Taken positions = true
may_stand Noted positions = positions.test
may_stand Received positions = positions.receiving

stands : (position : Position) (p q : Positions) → p ≡ q → may_stand position q ≡ true → may_stand position p ≡ true
stands position p q e h = ap (may_stand position) e ∙ h

-- what may stand everywhere
stands_if : (position : Position) (b : Bool) → b ≡ true → may_stand position (everywhere_if b) ≡ true
stands_if Sent b h = h
stands_if Taken b h = refl
stands_if Noted b h = h
stands_if Received b h = h

-- parts that may stand there
stand_as_whole : (position : Position) (parts : List Positions) → list_all (may_stand (part_position position)) parts ≡ true → may_stand position (all_stand parts) ≡ true
stand_as_whole Sent parts h = h
stand_as_whole Taken parts h = refl
stand_as_whole Noted parts h = h
stand_as_whole Received parts h = h

result_stands : (position : Position) (b : Bool) (violation : Rule) (token : ℕ) → noted_if (not (takes_results position)) violation token ≡ [] → b ≡ true
    → may_stand position (record { value = false; test = false; receiving = b }) ≡ true
result_stands Sent b violation token e h = absurd (cc)
result_stands Taken b violation token e h = refl
result_stands Noted b violation token e h = absurd (cc)
result_stands Received b violation token e h = h

hole_stands : (position : Position) (violation : Rule) (token : ℕ) → noted_if (not (takes_holes position)) violation token ≡ [] → may_stand position (record { value = false; test = true; receiving = true }) ≡ true
hole_stands Sent violation token e = absurd (cc)
hole_stands Taken violation token e = refl
hole_stands Noted violation token e = refl
hole_stands Received violation token e = refl

pub some_sort : (o : Option Sort) (violation : Rule) (token : ℕ) → noted_if (is_none o) violation token ≡ [] → (s : Sort) × (o ≡ Some s)
some_sort None violation token e = absurd (cc)
some_sort (Some s) violation token e = (s, refl)

-- an application that has parts applies the function of its name
applied_more : {A : Type 0} (name : List ℕ) (x : A) (xs : List A) → applied name (length (x ∷ xs)) ≡ function_named name
applied_more name x xs = cond-false (length (x ∷ xs) == 0) None (function_named name) (ne_eqb (length (x ∷ xs)) 0 (λ e. omega (arith, e)))

abbrev OfKind : Type 0
OfKind = ℕ → Position → List Violation

abbrev OfExpr : Type 0
OfExpr = Position → List Violation

abbrev found : Ast → OfExpr
found = fold-Ast OfKind OfExpr misplaced_step misplaced_expr

abbrev layer_found : AstKind-F AstKind Ast → OfKind
layer_found x = misplaced_step (map-AstKind AstKind Ast OfKind OfExpr misplaced_kind found x)

abbrev judge : List Known → Ast → Judged
judge known = fold-Ast JudgedKind Judged (judge_kind known) judge_expr

abbrev layer_judged : List Known → AstKind-F AstKind Ast → JudgedKind
layer_judged known x = judge_kind known (map-AstKind AstKind Ast JudgedKind Judged (judged_kind known) (judge known) x)

abbrev made : Scope → Ast → Expr
made scope = fold-Ast Expr Expr (kind_step scope) position_step

abbrev layer_made : Scope → AstKind-F AstKind Ast → Expr
layer_made scope x = kind_step scope (map-AstKind AstKind Ast Expr Expr (kind_expr scope) (made scope) x)

module _ (script : Script) (slots : ℕ) (scope : Scope) (known : List Known) (agrees : Agrees script slots scope known) where
  abbrev IsKindInRange : AstKind → Type 0
  IsKindInRange k = (token : ℕ) (position : Position) → (judged_kind known k).faults token ≡ [] → misplaced_kind k token position ≡ []
      → may_stand position (positions_of slots (kind_expr scope k)) ≡ true

  abbrev IsExprInRange : Ast → Type 0
  IsExprInRange e = (position : Position) → (judge known e).faults ≡ [] → found e position ≡ [] → may_stand position (positions_of slots (made scope e)) ≡ true

  abbrev IsLayerInRange : AstKind-F AstKind Ast → Type 0
  IsLayerInRange x = (token : ℕ) (position : Position) → (layer_judged known x).faults token ≡ [] → layer_found x token position ≡ []
      → may_stand position (positions_of slots (layer_made scope x)) ≡ true

  abbrev ShownKind : Type 0
  ShownKind = (k : AstKind) × IsKindInRange k

  abbrev ShownExpr : Type 0
  ShownExpr = (e : Ast) × IsExprInRange e

  abbrev exprs : List ShownExpr → List Ast
  exprs ps = map (λ (p : ShownExpr). p.0) ps

  declared : (name : List ℕ) (token : ℕ) → noted_if (is_none (sort_in known name)) Undeclared token ≡ [] → nat_lt (slot_of scope name) slots ≡ true
  declared name token e =
      let s = some_sort (sort_in known name) Undeclared token e in
      lt-ltb (slot_of scope name) slots (slot_in_range script slots scope known name s.0 agrees s.1)

  parts_stand : (position : Position) (ps : List ShownExpr) → parts_faults (map (judge known) (exprs ps)) ≡ [] → flat_map (λ (part : OfExpr). part position) (map found (exprs ps)) ≡ []
      → list_all (may_stand position) (map (positions_of slots) (map (made scope) (exprs ps))) ≡ true
  parts_stand position [] faults misplaces = refl
  parts_stand position (p ∷ ps) faults misplaces =
      let no_faults = flat_map_none (λ (part : Judged). part.faults) (judge known p.0) (map (judge known) (exprs ps)) faults in
      let in_place = flat_map_none (λ (part : OfExpr). part position) (found p.0) (map found (exprs ps)) misplaces in
      and_from (may_stand position (positions_of slots (made scope p.0))) (list_all (may_stand position) (map (positions_of slots) (map (made scope) (exprs ps))))
      (p.1 position no_faults.0 in_place.0) (parts_stand position ps no_faults.1 in_place.1)

  -- an application that has arguments, by the function of its name
  application_stands : (position : Position) (token : ℕ) (name : List ℕ) (func : Option Func) (ps : List ShownExpr)
      → noted_if (has_wrong_count func (length (map (judge known) (exprs ps)))) Arity token ≡ []
      → parts_faults (map (judge known) (exprs ps)) ≡ []
      → flat_map (λ (part : OfExpr). part (if is_some func then Sent else part_position position)) (map found (exprs ps)) ≡ []
      → may_stand position (positions_of slots (applying name func (map (made scope) (exprs ps)))) ≡ true
  application_stands position token name None ps wrong faults misplaces =
      stands position _ _ (positions_of_appl slots name (map (made scope) (exprs ps)))
      (stand_as_whole position (map (positions_of slots) (map (made scope) (exprs ps))) (parts_stand (part_position position) ps faults misplaces))
  application_stands position token name (Some func) ps wrong faults misplaces =
      let parts = map (positions_of slots) (map (made scope) (exprs ps)) in
      let right = not-false (length (map (judge known) (exprs ps)) == (signature_of func).arity) (noted_none _ Arity token wrong) in
      let count : length parts ≡ (signature_of func).arity
      = length-map (map (made scope) (exprs ps)) (positions_of slots) ∙ length-map (exprs ps) (made scope) ∙ sym (length-map (exprs ps) (judge known))
      ∙ eqb-true _ _ right in
      stands position _ _ (positions_of_call slots func (map (made scope) (exprs ps)))
      (stands_if position _ (and_from _ _ (eq-eqb _ _ count) (parts_stand Sent ps faults misplaces)))

  layer_in_range : (y : AstKind-F ShownKind ShownExpr) → IsLayerInRange (map-AstKind ShownKind ShownExpr AstKind Ast (λ k. k.0) (λ e. e.0) y)
  layer_in_range (layer.Int number) token position faults misplaces = stands position _ _ (positions_of_int slots number) (stands_if position true refl)
  layer_in_range (layer.Str text) token position faults misplaces = stands position _ _ (positions_of_str slots text) (stands_if position true refl)
  layer_in_range (layer.Appl name []) token position faults misplaces = stands position _ _ (positions_of_appl slots name []) (stand_as_whole position [] refl)
  layer_in_range (layer.Appl name (p ∷ ps)) token position faults misplaces =
      let parts = map (judge known) (exprs (p ∷ ps)) in
      let wrong = noted_if (has_wrong_count (applied name (length parts)) (length parts)) Arity token in
      let outer = append_none (wrong ++ applied_faults (applied name (length parts)) parts) (parts_faults parts) faults in
      let inner = append_none wrong (applied_faults (applied name (length parts)) parts) outer.0 in
      let right = subst (λ (o : Option Func). noted_if (has_wrong_count o (length parts)) Arity token ≡ []) (applied_more name (judge known p.0) (map (judge known) (exprs ps))) inner.0 in
      let in_place = subst (λ (o : Option Func). flat_map (λ (part : OfExpr). part (if is_some o then Sent else part_position position)) (map found (exprs (p ∷ ps))) ≡ [])
      (applied_more name (found p.0) (map found (exprs ps))) misplaces in
      application_stands position token name (function_named name) (p ∷ ps) right outer.1 in_place
  layer_in_range (layer.Var name) token position faults misplaces = stands position _ _ (positions_of_var slots (slot_of scope name)) (stands_if position _ (declared name token faults))
  layer_in_range (layer.Result name) token position faults misplaces =
      stands position _ _ (positions_of_result slots (slot_of scope name)) (result_stands position _ _ token misplaces (declared name token faults))
  layer_in_range (layer.Hole s) token position faults misplaces = stands position _ _ (positions_of_hole slots s) (hole_stands position _ token misplaces)
  layer_in_range (layer.List ps) token position faults misplaces =
      stands position _ _ (positions_of_list slots (map (made scope) (exprs ps)))
      (stand_as_whole position (map (positions_of slots) (map (made scope) (exprs ps))) (parts_stand (part_position position) ps faults misplaces))

  kind_rolled : (x : AstKind-F AstKind Ast) → IsLayerInRange x → IsKindInRange (roll-AstKind x)
  kind_rolled x h token position faults misplaces =
      ap (λ (e : Expr). may_stand position (positions_of slots e)) (fold-roll-AstKind Expr Expr (kind_step scope) position_step x)
      ∙ h token position
      (sym (ap (λ (j : JudgedKind). j.faults token) (fold-roll-AstKind JudgedKind Judged (judge_kind known) judge_expr x)) ∙ faults)
      (sym (ap (λ (f : OfKind). f token position) (fold-roll-AstKind OfKind OfExpr misplaced_step misplaced_expr x)) ∙ misplaces)

  expr_rolled : (x : Ast-F AstKind Ast) → IsKindInRange x.kind → IsExprInRange (roll-Ast x)
  expr_rolled x h position faults misplaces =
      ap (λ (e : Expr). may_stand position (positions_of slots e)) (fold-roll-Ast Expr Expr (kind_step scope) position_step x)
      ∙ h x.token position
      (sym (ap (λ (j : Judged). j.faults) (fold-roll-Ast JudgedKind Judged (judge_kind known) judge_expr x)) ∙ faults)
      (sym (ap (λ (f : OfExpr). f position) (fold-roll-Ast OfKind OfExpr misplaced_step misplaced_expr x)) ∙ misplaces)

  kind_in_range : (k : AstKind) → IsKindInRange k
  kind_in_range = ind-AstKind IsKindInRange IsExprInRange on_kind on_expr where
    on_kind : (x : AstKind-F AstKind Ast) (y : AstKind-F ShownKind ShownExpr) → map-AstKind ShownKind ShownExpr AstKind Ast (λ k. k.0) (λ e. e.0) y ≡ x → IsKindInRange (roll-AstKind x)
    on_kind x y e = kind_rolled x (subst IsLayerInRange e (layer_in_range y))

    on_expr : (x : Ast-F AstKind Ast) (y : Ast-F ShownKind ShownExpr) → map-Ast ShownKind ShownExpr AstKind Ast (λ k. k.0) (λ e. e.0) y ≡ x → IsExprInRange (roll-Ast x)
    on_expr x y e = expr_rolled x (subst (λ (z : Ast-F AstKind Ast). IsKindInRange z.kind) e y.kind.1)

  pub expr_in_range : (position : Position) (e : Ast) → expr_faults known e ≡ [] → misplaced position e ≡ [] → may_stand position (positions_of slots (expr_of scope e)) ≡ true
  expr_in_range position e faults misplaces = kind_in_range e.kind e.token position faults misplaces

pub value_in_range : (script : Script) (slots : ℕ) (scope : Scope) (known : List Known) (e : Ast)
    → Agrees script slots scope known → expr_faults known e ≡ [] → misplaced Sent e ≡ [] → is_value slots (expr_of scope e) ≡ true
value_in_range script slots scope known e agrees faults misplaces = expr_in_range script slots scope known agrees Sent e faults misplaces

pub test_in_range : (script : Script) (slots : ℕ) (scope : Scope) (known : List Known) (e : Ast)
    → Agrees script slots scope known → expr_faults known e ≡ [] → misplaced Noted e ≡ [] → is_test slots (expr_of scope e) ≡ true
test_in_range script slots scope known e agrees faults misplaces = expr_in_range script slots scope known agrees Noted e faults misplaces

pub receiving_in_range : (script : Script) (slots : ℕ) (scope : Scope) (known : List Known) (e : Ast)
    → Agrees script slots scope known → expr_faults known e ≡ [] → misplaced Received e ≡ [] → is_receiving slots (expr_of scope e) ≡ true
receiving_in_range script slots scope known e agrees faults misplaces = expr_in_range script slots scope known agrees Received e faults misplaces

-- a result variable is declared
pub result_declared : (known : List Known) (e : Ast) (name : List ℕ) → out-AstKind e.kind ≡ layer.Result name → expr_faults known e ≡ [] → (s : Sort) × (sort_in known name ≡ Some s)
result_declared known e name is faults =
    some_sort (sort_in known name) Undeclared e.token
    (sym (ap (λ (j : JudgedKind). j.faults e.token) (fold_out-AstKind JudgedKind Judged (judge_kind known) judge_expr e.kind ∙ ap (layer_judged known) is)) ∙ faults)

pub taken_in_range : (script : Script) (slots : ℕ) (scope : Scope) (known : List Known) (e : Ast) (name : List ℕ)
    → Agrees script slots scope known → out-AstKind e.kind ≡ layer.Result name → expr_faults known e ≡ [] → slot_of scope name < slots
taken_in_range script slots scope known e name agrees is faults =
    let s = result_declared known e name is faults in
    slot_in_range script slots scope known name s.0 agrees s.1

-- what is taken but is no result variable stands as what is sent
layer_taken : (x : AstKind-F AstKind Ast) (token : ℕ) → is_some (result_name x) ≡ false → layer_found x token Taken ≡ layer_found x token Sent
layer_taken (layer.Int number) token other = refl
layer_taken (layer.Str text) token other = refl
layer_taken (layer.Appl name parts) token other = refl
layer_taken (layer.Var name) token other = refl
layer_taken (layer.Result name) token other = absurd (cc)
layer_taken (layer.Hole s) token other = refl
layer_taken (layer.List parts) token other = refl

misplaced_opened : (e : Ast) (position : Position) → misplaced position e ≡ layer_found (out-AstKind e.kind) e.token position
misplaced_opened e position = ap (λ (f : OfKind). f e.token position) (fold_out-AstKind OfKind OfExpr misplaced_step misplaced_expr e.kind)

pub taken_sent : (e : Ast) → is_result e ≡ false → misplaced Taken e ≡ [] → misplaced Sent e ≡ []
taken_sent e other misplaces =
    misplaced_opened e Sent ∙ sym (layer_taken (out-AstKind e.kind) e.token other) ∙ sym (misplaced_opened e Taken) ∙ misplaces
