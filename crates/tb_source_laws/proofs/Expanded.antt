-- Processes without a disrupt expand to trees without one.
use Rattle.std.proofs.Common.{◌≡◌, ℕ, zero, suc, Bool, true, false, ◌||◌, cond, List, [], ◌∷◌, length, Option, Some, None, Contains, refl, ap, ◌∙◌, subst}
use Rattle.std.specs.Prelude.{find}
use Rattle.std.specs.Str.{bytes_eq}
use Rattle.std.specs.List.{All, AllZip}
use Rattle.std.proofs.lemmas.List.Elements.{All-head, All-tail, All-contains, All-nil, All-cons}
use Rattle.tb_body.specs.declared.body.Body.{Body}
use Rattle.tb_body.specs.declared.program.Program.{Program}
use Rattle.tb_syntax.specs.declared.proc.Call.{Call}
use Rattle.tb_syntax.specs.declared.proc.Proc.{Proc}
use Rattle.tb_syntax.specs.declared.script.ProcDef.{ProcDef}
use Rattle.tb_syntax.specs.declared.script.Script.{Script}
use Rattle.tb_syntax.specs.Spelling.{kinds_of}
use Rattle.tb_types.specs.Names.{process_named}
use Rattle.tb_expand.specs.Scopes.{Scope}
use Rattle.tb_expand.specs.Expansion.{Part, Expands, proc_step, call_of, expands}
use Rattle.tb_expand.specs.Faults.{IsExpansion}
use Rattle.tb_expand.proofs.Calling.{call_found, call_missing}
use Rattle.tb_expand.proofs.ProcInduction.{Related, folds_related}
use Rattle.tb_expand.proofs.TreeFolds as fold
use Rattle.tb_script.specs.Programs.{IsTextOf}
use Rattle.tb_script.specs.Findings.{HasProgram}
use Rattle.tb_source_laws.specs.Disrupts.{HasSymbol, tree_step, tree_has_disrupt}
use Rattle.tb_source_laws.specs.Disrupts as own
use Rattle.tb_source_laws.proofs.Spelt.{HasNone, neither, script-spelt}

-- the expansion has no disrupt, if the process has none
abbrev Follows : Bool → Expands → Type 0
Follows has expands = has ≡ false → (scope : Scope) (atom slot : ℕ) → tree_has_disrupt (expands scope atom slot).tree ≡ false

one : (x y : Bool) → (x || y) ≡ false → x ≡ false
one true y e = e
one false y e = refl

other : (x y : Bool) → (x || y) ≡ false → y ≡ false
other true y e = absurd (let t : ◌≡◌ {A = Bool} true false = e in cc)
other false y e = e

of_none : (xs : List ProcDef) (is : ProcDef → Bool) (d : ProcDef) → find is xs ≡ Some d → All HasNone xs → HasNone d
of_none [] is d e h = absurd (let t : ◌≡◌ {A = Option ProcDef} None (Some d) = e in cc)
of_none (x ∷ xs) is d e h = by (is x) e (λ f. of_none xs is d f (All-tail HasNone x xs h))
  where
    by : (b : Bool) → cond b (Some x) (find is xs) ≡ Some d → (find is xs ≡ Some d → HasNone d) → HasNone d
    by true f rest = let same : x ≡ d = cc in subst HasNone same (All-head HasNone x xs h)
    by false f rest = rest f

module _ (script : Script) (all : All HasNone script.procs) where
  called : (body : Proc → Expands) → ((p : Proc) → Follows (own.proc_has_disrupt p) (body p)) → (call : Call) (o : Option ProcDef) → process_named script.procs call.name ≡ o
      → (scope : Scope) (atom slot : ℕ) → tree_has_disrupt (call_of script body call scope atom slot).tree ≡ false
  called body each call None e scope atom slot = ap (λ (part : Part). tree_has_disrupt part.tree) (call_missing script body call scope atom slot e) ∙ fold.fold-At Bool tree_step 0
  called body each call (Some d) e scope atom slot =
      ap (λ (part : Part). tree_has_disrupt part.tree) (call_found script body call d scope atom slot e)
      ∙ (fold.fold-Let Bool tree_step _ _ ∙ each d.body (of_none script.procs (λ (d : ProcDef). bytes_eq d.name call.name) d e all) _ _ _)

  related : (body : Proc → Expands) → ((p : Proc) → Follows (own.proc_has_disrupt p) (body p)) → Related Bool Expands own.proc_step (proc_step script body) Follows
  related body each = record {
    atom = λ def e scope atom slot. fold.fold-At Bool tree_step atom;
    call = λ call e scope atom slot. called body each call (process_named script.procs call.name) refl scope atom slot;
    seq = λ x y v w h k e scope atom slot. fold.fold-Seq Bool tree_step _ _ ∙ neither _ _ (h (one x y e) scope atom slot) (k (other x y e) _ _ _);
    alt = λ x y v w h k e scope atom slot. fold.fold-Alt Bool tree_step _ _ ∙ neither _ _ (h (one x y e) scope atom slot) (k (other x y e) _ _ _);
    star = λ x y v w h k e scope atom slot. fold.fold-Star Bool tree_step _ _ ∙ neither _ _ (h (one x y e) scope atom slot) (k (other x y e) _ _ _);
    par = λ x y v w h k e scope atom slot. fold.fold-Par Bool tree_step _ _ ∙ neither _ _ (h (one x y e) scope atom slot) (k (other x y e) _ _ _);
    disrupt = λ x y v w h k e scope atom slot. absurd (let t : ◌≡◌ {A = Bool} true false = e in cc);
    test = λ test x v h e scope atom slot. fold.fold-If Bool tree_step _ _ ∙ h e scope atom slot;
    test_else = λ test x y v w h k e scope atom slot. fold.fold-IfElse Bool tree_step _ _ _ ∙ neither _ _ (h (one x y e) scope atom slot) (k (other x y e) _ _ _);
    block = λ vars x v h e scope atom slot. fold.fold-Let Bool tree_step _ _ ∙ h e _ _ _;
  }

  expanded : (depth : ℕ) (p : Proc) → Follows (own.proc_has_disrupt p) (expands script depth p)
  expanded zero p = λ e scope atom slot. fold.fold-At Bool tree_step 0
  expanded (suc depth) p = folds_related Bool Expands own.proc_step (proc_step script (expands script depth)) Follows (related (expands script depth) (expanded depth)) p

  definition : (d : ProcDef) (body : Body) → HasNone d → IsExpansion script d body → tree_has_disrupt body.tree ≡ false
  definition d body none is = ap tree_has_disrupt is.tree ∙ expanded (length script.procs) d.body none _ _ _

  abbrev HasNoTree : Body → Type 0
  HasNoTree body = tree_has_disrupt body.tree ≡ false

  definitions : (ds : List ProcDef) (bodies : List Body) → All HasNone ds → AllZip (IsExpansion script) ds bodies → All HasNoTree bodies
  definitions [] [] h z = All-nil HasNoTree
  definitions [] (body ∷ bodies) h z = absurd z
  definitions (d ∷ ds) [] h z = absurd z
  definitions (d ∷ ds) (body ∷ bodies) h z =
      All-cons HasNoTree body bodies (definition d body (All-head HasNone d ds h) z.0) (definitions ds bodies (All-tail HasNone d ds h) z.1)

pub of_text : (text : List ℕ) (script : Script) → IsTextOf text script → (HasSymbol text → ⊥) → All HasNone script.procs
of_text text script is lacks =
    script-spelt script (kinds_of is.tokens) is.is_script.spells (λ there. lacks (record { tokens = is.tokens; lexes = is.has_tokens.lexes; there = there }))

pub in-script : (text : List ℕ) (script : Script) (d : ProcDef) → IsTextOf text script → (HasSymbol text → ⊥) → Contains script.procs d → own.proc_has_disrupt d.body ≡ false
in-script text script d is lacks c = All-contains HasNone script.procs d (of_text text script is lacks) c

pub in-program : (text : List ℕ) (program : Program) (body : Body) → HasProgram text program → (HasSymbol text → ⊥) → Contains program.bodies body → tree_has_disrupt body.tree ≡ false
in-program text program body has lacks c =
    let script = has.script in
    let all = of_text text script has.is_accepted.is_small.ending.checked.is_text lacks in
    All-contains (λ (body : Body). tree_has_disrupt body.tree ≡ false) program.bodies body (definitions script all script.procs program.bodies all has.meaning.bodies) c
