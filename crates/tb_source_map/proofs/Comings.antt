-- The atoms of an expansion come from its sites, and those of a program's bodies from their places.
use Rattle.std.proofs.Common.{◌≡◌, ℕ, zero, suc, ◌+◌, List, [], ◌∷◌, ◌++◌, map, length, Contains, Option, Some, None, refl, sym, subst, append-nil}
use Rattle.std.specs.List.{AllZip}
use Rattle.tb_body.specs.declared.atom.Atom.{Atom}
use Rattle.tb_body.specs.declared.body.Body.{Body}
use Rattle.tb_body.specs.declared.program.Program.{Program}
use Rattle.tb_body.specs.declared.tree.Tree.{Tree}
use Rattle.tb_body.specs.declared.tree.Tree.TheVariants as tree
use Rattle.tb_lex.specs.declared.token.Token.{Token}
use Rattle.tb_lex.proofs.Runs.{lexes_one}
use Rattle.tb_syntax.specs.Spelling.{Spells, kinds_of}
use Rattle.tb_syntax.specs.declared.proc.AtomDef.{AtomDef}
use Rattle.tb_syntax.specs.declared.proc.Call.{Call}
use Rattle.tb_syntax.specs.declared.proc.Proc.{Proc}
use Rattle.tb_syntax.specs.declared.script.ProcDef.{ProcDef}
use Rattle.tb_syntax.specs.declared.script.Script.{Script}
use Rattle.tb_types.specs.Names.{process_named}
use Rattle.tb_parse.proofs.ReadScripts.{unique}
use Rattle.tb_expand.specs.Exprs.{expr_of}
use Rattle.tb_expand.specs.Expansion.{Expands, Part, both, call_of, declaring, expands, expands_with, expansion_of, formals_of_call, nothing, proc_step, set_formals, sorts_of, tested, value_formals}
use Rattle.tb_expand.specs.Faults.{IsExpansion}
use Rattle.tb_expand.specs.Scopes.{Scope, declared, formals_seen}
use Rattle.tb_expand.proofs.ProcInduction.{Related, folds_related}
use Rattle.tb_expand.proofs.Readings.{contains_here, contains_there}
use Rattle.tb_script.specs.Findings.{HasProgram}
use Rattle.tb_script.specs.Programs.{IsTextOf}
use Rattle.tb_source_map.specs.declared.places.ProcessPlace.{ProcessPlace}
use Rattle.tb_source_map.specs.Places.{ArePlaces, Becomes, IsPlaced, place_of}
use Rattle.tb_source_map.specs.Sites.{sites, sites_called, sites_of, sites_step, sites_with}

zip_append : {A B : Type 0} (R : A → B → Type 0) (xs : List A) (ds : List B) (ys : List A) (es : List B) → AllZip R xs ds → AllZip R ys es → AllZip R (xs ++ ys) (ds ++ es)
zip_append R [] [] ys es p q = q
zip_append R [] (d ∷ ds) ys es p q = absurd p
zip_append R (x ∷ xs) [] ys es p q = absurd p
zip_append R (x ∷ xs) (d ∷ ds) ys es p q = (p.0, zip_append R xs ds ys es p.1 q)

module _ (script : Script) where
  -- for all variables in scope, and for all numbers of the first atom and the first slot
  abbrev pub AreFrom : Expands → List AtomDef → Type 0
  AreFrom x defs = (scope : Scope) (atom slot : ℕ) → AllZip (Becomes script) (x scope atom slot).atoms defs

  two_from : (join : Tree → Tree → Tree) (x y : Expands) (ds es : List AtomDef) → AreFrom x ds → AreFrom y es → AreFrom (both join x y) (ds ++ es)
  two_from join x y ds es p q scope atom slot =
      zip_append (Becomes script) (x scope atom slot).atoms ds
      (y scope (atom + length (x scope atom slot).atoms) (slot + length (x scope atom slot).sorts)).atoms es
      (p scope atom slot) (q scope (atom + length (x scope atom slot).atoms) (slot + length (x scope atom slot).sorts))

  alone_from : (xs : List Atom) (ds : List AtomDef) → AllZip (Becomes script) xs ds → AllZip (Becomes script) xs (ds ++ [])
  alone_from xs ds p = subst (λ (es : List AtomDef). AllZip (Becomes script) xs es) (sym (append-nil ds)) p

  module _ (body : Proc → Expands) (own : Proc → List AtomDef) (known : (q : Proc) → AreFrom (body q) (own q)) where
    abbrev stands : Scope → ℕ → ℕ → Call → Option ProcDef → Part
    stands scope atom slot call None = nothing
    stands scope atom slot call (Some d) =
        declaring (set_formals scope slot d.formals call.actuals) (sorts_of (value_formals d.formals))
        (body d.body (formals_of_call scope slot d.formals call.actuals) atom (slot + length (value_formals d.formals)))

    called_from : (call : Call) → AreFrom (call_of script body call) (sites_called own (process_named script.procs call.name))
    called_from call scope atom slot = found (process_named script.procs call.name) where
      found : (o : Option ProcDef) → AllZip (Becomes script) (stands scope atom slot call o).atoms (sites_called own o)
      found None = tt
      found (Some d) = known d.body (formals_of_call scope slot d.formals call.actuals) atom (slot + length (value_formals d.formals))

    steps_from : Related Expands (List AtomDef) (proc_step script body) (sites_step script own) AreFrom
    steps_from = record {
      atom = λ def scope atom slot. ((scope, refl), tt);
      call = called_from;
      seq = λ x y v w p q. two_from tree.Seq x y v w p q;
      alt = λ x y v w p q. two_from tree.Alt x y v w p q;
      star = λ x y v w p q. two_from tree.Star x y v w p q;
      par = λ x y v w p q. two_from tree.Par x y v w p q;
      disrupt = λ x y v w p q. two_from tree.Disrupt x y v w p q;
      test = λ test x v p scope atom slot. alone_from (x scope atom slot).atoms v (p scope atom slot);
      test_else = λ test x y v w p q scope atom slot. two_from (tested (expr_of scope test)) x y v w p q scope atom slot;
      block = λ vars x v p scope atom slot. p (declared slot vars ++ scope) atom (slot + length vars);
    }

    body_from : (p : Proc) → AreFrom (expands_with script body p) (sites_with script own p)
    body_from p = folds_related Expands (List AtomDef) (proc_step script body) (sites_step script own) AreFrom steps_from p

  expanded_from : (depth : ℕ) (p : Proc) → AreFrom (expands script depth p) (sites script depth p)
  expanded_from zero p scope atom slot = tt
  expanded_from (suc depth) p scope atom slot = body_from (expands script depth) (sites script depth) (expanded_from depth) p scope atom slot

  expansion_from : (d : ProcDef) → AllZip (Becomes script) (expansion_of script d).atoms (sites_of script d)
  expansion_from d = expanded_from (length script.procs) d.body (formals_seen 0 d.formals) 1 (length d.formals)

  module _ (tokens : List Token) where
    placed : (d : ProcDef) (body : Body) → Contains script.procs d → IsExpansion script d body → IsPlaced tokens script body (place_of tokens script d)
    placed d body defined is = record {
      d = d;
      defined = defined;
      is = is;
      named = refl;
      mark = refl;
      atoms = subst (λ (atoms : List Atom). AllZip (Becomes script) atoms (sites_of script d)) (sym is.atoms) (expansion_from d);
      marks = refl;
    }

    -- processes that the script defines, and their bodies
    all_placed : (ds : List ProcDef) (bodies : List Body) → ((d : ProcDef) → Contains ds d → Contains script.procs d) → AllZip (IsExpansion script) ds bodies
        → AllZip (IsPlaced tokens script) bodies (map (place_of tokens script) ds)
    all_placed [] [] defined is = tt
    all_placed [] (b ∷ bodies) defined is = absurd is
    all_placed (d ∷ ds) [] defined is = absurd is
    all_placed (d ∷ ds) (b ∷ bodies) defined is =
        (placed d b (defined d (contains_here d ds)) is.0, all_placed ds bodies (λ e there. defined e (contains_there d ds e there)) is.1)

one_script : (text : List ℕ) (places : List ProcessPlace) (script : Script) → IsTextOf text script → (are : ArePlaces text places) → script ≡ are.script
one_script text places script is are =
    let tokens : is.tokens ≡ are.tokens = lexes_one text is.tokens are.tokens is.has_tokens.lexes are.has_tokens.lexes in
    unique (kinds_of is.tokens) script are.script is.is_script.spells (subst (λ (ts : List Token). Spells are.script (kinds_of ts)) (sym tokens) are.is_script.spells)

pub all_come : (text : List ℕ) (program : Program) (places : List ProcessPlace) → HasProgram text program → (are : ArePlaces text places)
    → AllZip (IsPlaced are.tokens are.script) program.bodies places
all_come text program places has are =
    let same = one_script text places has.script has.is_accepted.is_small.ending.checked.is_text are in
    let bodies : AllZip (IsExpansion are.script) are.script.procs program.bodies
    = subst (λ (s : Script). AllZip (IsExpansion s) s.procs program.bodies) same has.meaning.bodies in
    subst (λ (ps : List ProcessPlace). AllZip (IsPlaced are.tokens are.script) program.bodies ps) (sym are.are)
    (all_placed are.script are.tokens are.script.procs program.bodies (λ d there. there) bodies)
