-- A property that each construct keeps holds for the expansions of all processes of a well-formed script.
use Rattle.std.proofs.Common.{◌≡◌, ℕ, zero, suc, ◌+◌, ◌≤◌, true, List, [], ◌++◌, map, length, flat_map, None, ap, sym, ◌∙◌, subst, arith, length-append}
use Rattle.std.specs.List.{list_all}
use Rattle.std.proofs.lemmas.List.{length-map}
use Rattle.tb_terms.specs.declared.expr.Expr.{Expr}
use Rattle.tb_terms.specs.declared.sort.Sort.{Sort}
use Rattle.tb_terms.specs.declared.sort.Sort.TheVariants as sorts
use Rattle.tb_body.specs.declared.tree.Setting.{Setting}
use Rattle.tb_body.specs.declared.tree.Tree.{Tree}
use Rattle.tb_body.specs.declared.tree.Tree.TheVariants as tree
use Rattle.tb_body.specs.Exprs.{is_value}
use Rattle.tb_body.specs.InRange.{is_setting_in_range}
use Rattle.tb_syntax.specs.declared.ast.Ast.{Ast}
use Rattle.tb_syntax.specs.declared.proc.AtomDef.{AtomDef}
use Rattle.tb_syntax.specs.declared.proc.Call.{Call}
use Rattle.tb_syntax.specs.declared.proc.Proc.{Proc}
use Rattle.tb_syntax.specs.declared.proc.Var.{Var}
use Rattle.tb_syntax.specs.declared.script.Formal.{Formal}
use Rattle.tb_syntax.specs.declared.script.Script.{Script}
use Rattle.tb_types.specs.declared.violation.Violation.{Violation}
use Rattle.tb_types.specs.declared.calls.Manner.TheVariants.{Called}
use Rattle.tb_types.specs.declared.positions.Position.TheVariants.{Sent}
use Rattle.tb_types.specs.declared.scope.Known.{Known}
use Rattle.tb_types.specs.Atoms.{atom_faults}
use Rattle.tb_types.specs.Bodies as faults
use Rattle.tb_types.specs.Bodies.{proc_faults}
use Rattle.tb_types.specs.Calls.{call_faults}
use Rattle.tb_types.specs.Conditions.{Proper}
use Rattle.tb_types.specs.Definitions.{formal_faults, formal_repeats, none_seen, var_faults, var_repeats, vars_faults}
use Rattle.tb_types.specs.ExpectedSorts.{site_faults, tested}
use Rattle.tb_types.specs.Scopes.{known_formal, known_var}
use Rattle.tb_expand.specs.Helpers.Agreeing.{Agrees}
use Rattle.tb_expand.specs.Exprs.{expr_of}
use Rattle.tb_expand.specs.Expansion.{Expands, Part, atom_only, declaring, expands, formals_of_call, initial, nothing, set_formals, sorts_of, sorts_of_vars, under, value_formals}
use Rattle.tb_expand.specs.Expansion as expansion
use Rattle.tb_expand.specs.Scopes.{Scope, declared}
use Rattle.tb_expand.proofs.Calling.{body_of_call, call_found}
use Rattle.tb_expand.proofs.ExprRanges.{value_in_range}
use Rattle.tb_expand.proofs.FaultFree.{free_call, free_named, free_site}
use Rattle.tb_expand.proofs.NoFaults.{append_none}
use Rattle.tb_expand.proofs.ProcInduction.{Related, folds_related}
use Rattle.tb_expand.proofs.Seeing.{actuals_free, called_agree, declared_agree}
use Rattle.tb_expand.proofs.Settings.{call_in_range, initial_in_range}

-- one part behind the other, under one tree
abbrev pub beside : (Tree → Tree → Tree) → Part → Part → Part
beside join prefix back = record { tree = join prefix.tree back.tree; atoms = prefix.atoms ++ back.atoms; sorts = prefix.sorts ++ back.sorts }

-- A property of parts that each construct keeps, over this many slots. Tests and settings are in range. For an atom, the visible
-- variables agree with the known variables.
pub record Keeps (script : Script) (slots : ℕ) (P : Part → Type 0) : Type 0 where
  pub nothing : P nothing
  pub atom : (scope : Scope) (known : List Known) (def : AtomDef) (atom slot : ℕ) → Agrees script slots scope known → atom_faults script known def ≡ [] → P (atom_only script def scope atom slot)
  pub seq : (prefix back : Part) → P prefix → P back → P (beside tree.Seq prefix back)
  pub alt : (prefix back : Part) → P prefix → P back → P (beside tree.Alt prefix back)
  pub star : (prefix back : Part) → P prefix → P back → P (beside tree.Star prefix back)
  pub par : (prefix back : Part) → P prefix → P back → P (beside tree.Par prefix back)
  pub disrupt : (prefix back : Part) → P prefix → P back → P (beside tree.Disrupt prefix back)
  pub test : (test : Expr) (part : Part) → is_value slots test ≡ true → P part → P (under (λ side. tree.If test side None) part)
  pub test_else : (test : Expr) (prefix back : Part) → is_value slots test ≡ true → P prefix → P back → P (beside (expansion.tested test) prefix back)
  pub block : (settings : List Setting) (sorts : List Sort) (part : Part) → list_all (is_setting_in_range slots) settings ≡ true → P part → P (declaring settings sorts part)

-- the property holds for a process at each place where it has no violations and its slots exist
abbrev HoldsOf : Script → ℕ → (Part → Type 0) → (List Known → List Violation) → Expands → Type 0
HoldsOf script slots P violation x =
    (scope : Scope) (known : List Known) (atom slot : ℕ) → Agrees script slots scope known → violation known ≡ [] → slot + length (x scope atom slot).sorts ≤ slots → P (x scope atom slot)

prefix_within : {A : Type 0} (slot slots : ℕ) (prefix back : List A) → slot + length (prefix ++ back) ≤ slots → slot + length prefix ≤ slots
prefix_within slot slots prefix back within = omega (arith, length-append prefix back)

back_within : {A : Type 0} (slot slots : ℕ) (prefix back : List A) → slot + length (prefix ++ back) ≤ slots → (slot + length prefix) + length back ≤ slots
back_within slot slots prefix back within = omega (arith, length-append prefix back)

module _ (script : Script) (slots : ℕ) (P : Part → Type 0) (keeps : Keeps script slots P) where
  abbrev Holds : (List Known → List Violation) → Expands → Type 0
  Holds = HoldsOf script slots P

  sides_hold : (join : Tree → Tree → Tree) → ((prefix back : Part) → P prefix → P back → P (beside join prefix back))
      → (one other : List Known → List Violation) (x y : Expands) → Holds one x → Holds other y → Holds (λ known. one known ++ other known) (expansion.both join x y)
  sides_hold join kept one other x y f g scope known atom slot agrees free within =
      let parts = append_none (one known) (other known) free in
      let prefix = x scope atom slot in
      let back = y scope (atom + length prefix.atoms) (slot + length prefix.sorts) in
      kept prefix back
      (f scope known atom slot agrees parts.0 (prefix_within slot slots prefix.sorts back.sorts within))
      (g scope known _ _ agrees parts.1 (back_within slot slots prefix.sorts back.sorts within))

  tested_value : (scope : Scope) (known : List Known) (test : Ast) → Agrees script slots scope known → site_faults script known Sent (tested sorts.Bool) test ≡ [] → is_value slots (expr_of scope test) ≡ true
  tested_value scope known test agrees free =
      let site = free_site script known Sent (tested sorts.Bool) test free in
      value_in_range script slots scope known test agrees site.expr site.positioned

  block_holds : (vars : List Var) (violation : List Known → List Violation) (x : Expands) → Holds violation x
      → Holds (λ known. vars_faults script.tools vars ++ violation (map known_var vars ++ known)) (expansion.block_of vars x)
  block_holds vars violation x h scope known atom slot agrees free within =
      let part = x (declared slot vars ++ scope) atom (slot + length vars) in
      let parts = append_none (vars_faults script.tools vars) (violation (map known_var vars ++ known)) free in
      let sorts = append_none (var_repeats none_seen vars) (flat_map (var_faults script.tools) vars) parts.0 in
      let count : length (sorts_of_vars vars) ≡ length vars = length-map vars (λ (var : Var). var.sort) in
      let own : slot + length vars ≤ slots = omega (arith, count, prefix_within slot slots (sorts_of_vars vars) part.sorts within) in
      let rest : (slot + length vars) + length part.sorts ≤ slots = omega (arith, count, back_within slot slots (sorts_of_vars vars) part.sorts within) in
      keeps.block (initial slot vars) (sorts_of_vars vars) part (initial_in_range slots slot vars own)
      (h (declared slot vars ++ scope) (map known_var vars ++ known) atom (slot + length vars) (declared_agree script slots slot vars scope known sorts.1 own agrees) parts.1 rest)

  module _ (proper : Proper script) (body : Proc → Expands) (bodies : (p : Proc) → Holds (proc_faults script p) (body p)) where
    call_holds : (call : Call) → Holds (λ known. call_faults script known Called call) (expansion.call_of script body call)
    call_holds call scope known atom slot agrees free within =
        let found = free_call script known Called call free in
        let d = found.called in
        let own_formals = value_formals d.formals in
        let part = body_of_call body d call.actuals scope atom slot in
        let is = call_found script body call d scope atom slot found.is in
        let all_within : slot + length (sorts_of own_formals ++ part.sorts) ≤ slots = subst (λ (whole : Part). slot + length whole.sorts ≤ slots) is within in
        let count : length (sorts_of own_formals) ≡ length own_formals = length-map own_formals (λ (formal : Formal). formal.sort) in
        let own : slot + length own_formals ≤ slots = omega (arith, count, prefix_within slot slots (sorts_of own_formals) part.sorts all_within) in
        let rest : (slot + length own_formals) + length part.sorts ≤ slots = omega (arith, count, back_within slot slots (sorts_of own_formals) part.sorts all_within) in
        let definition = free_named script call.name d proper found.is in
        let sorts = append_none (formal_repeats none_seen d.formals) (flat_map (formal_faults script.tools) d.formals) definition.formals in
        let actuals = actuals_free script known d.formals call.actuals found.count found.actuals in
        let inner = called_agree script slots scope known agrees slot d.formals call.actuals sorts.1 actuals own in
        subst P (sym is)
        (keeps.block (set_formals scope slot d.formals call.actuals) (sorts_of own_formals) part (call_in_range script slots scope known agrees slot d.formals call.actuals actuals own)
        (bodies d.body (formals_of_call scope slot d.formals call.actuals) (map known_formal d.formals) atom (slot + length own_formals) inner definition.body rest))

    steps : Related (List Known → List Violation) Expands (faults.proc_step script) (expansion.proc_step script body) (HoldsOf script slots P)
    steps = record {
      atom = λ def scope known atom slot agrees free within. keeps.atom scope known def atom slot agrees free;
      call = call_holds;
      seq = sides_hold tree.Seq keeps.seq;
      alt = sides_hold tree.Alt keeps.alt;
      star = sides_hold tree.Star keeps.star;
      par = sides_hold tree.Par keeps.par;
      disrupt = sides_hold tree.Disrupt keeps.disrupt;
      test = λ test violation x f scope known atom slot agrees free within.
          let own = site_faults script known Sent (tested sorts.Bool) test in
          let parts = append_none own (violation known) (append_none (own ++ violation known) [] free).0 in
          keeps.test (expr_of scope test) (x scope atom slot) (tested_value scope known test agrees parts.0) (f scope known atom slot agrees parts.1 within);
      test_else = λ test one other x y f g scope known atom slot agrees free within.
          let own = site_faults script known Sent (tested sorts.Bool) test in
          let outer = append_none (own ++ one known) (other known) free in
          let inner = append_none own (one known) outer.0 in
          let value = tested_value scope known test agrees inner.0 in
          let sides : one known ++ other known ≡ [] = ap (λ violation. violation ++ other known) inner.1 ∙ outer.1 in
          sides_hold (expansion.tested (expr_of scope test)) (λ prefix back. keeps.test_else (expr_of scope test) prefix back value) one other x y f g scope known atom slot agrees sides within;
      block = block_holds;
    }

pub expansions_keep : (script : Script) (slots : ℕ) (P : Part → Type 0) → Keeps script slots P → Proper script
    → (depth : ℕ) (p : Proc) (scope : Scope) (known : List Known) (atom slot : ℕ) → Agrees script slots scope known → proc_faults script p known ≡ []
    → slot + length (expands script depth p scope atom slot).sorts ≤ slots → P (expands script depth p scope atom slot)
expansions_keep script slots P keeps proper zero p scope known atom slot agrees free within = keeps.nothing
expansions_keep script slots P keeps proper (suc depth) p scope known atom slot agrees free within =
    folds_related (List Known → List Violation) Expands (faults.proc_step script) (expansion.proc_step script (expands script depth)) (HoldsOf script slots P)
    (steps script slots P keeps proper (expands script depth) (expansions_keep script slots P keeps proper depth)) p scope known atom slot agrees free within
