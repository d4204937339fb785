-- The program of a well-formed script is in range.
use Rattle.std.proofs.Common.{◌≡◌, ℕ, suc, ◌+◌, ◌≤◌, Bool, true, false, ◌&&◌, not, List, [], ◌∷◌, ◌++◌, map, length, Option, Some, None, find, Contains, flat_map, refl, sym, ap, subst, ◌∙◌, arith}
use Rattle.std.specs.Prelude.{if◌then◌else◌, slice_get}
use Rattle.std.specs.List.{AllZip, AllByRecursion, list_all}
use Rattle.std.specs.Option.{IsSome, is_some}
use Rattle.std.specs.Str.{bytes_eq}
use Rattle.std.proofs.lemmas.Bool.{and_from, eq-eqb, le-leb}
use Rattle.std.proofs.lemmas.List.Elements.{All-contains_itself, All-from_recursion, recursion_from_All}
use Rattle.std.proofs.lemmas.List.{length-map}
use Rattle.std.proofs.lemmas.Option.{same_Some, none-some}
use Rattle.tb_terms.specs.declared.term.Term.{Term}
use Rattle.tb_terms.specs.declared.sort.Sort.{Sort}
use Rattle.tb_terms.specs.Sizes.{is_within_limits}
use Rattle.tb_terms.specs.Sorts.{has_sort}
use Rattle.tb_body.specs.declared.atom.Atom.{Atom}
use Rattle.tb_body.specs.declared.body.Body.{Body}
use Rattle.tb_body.specs.declared.program.Root.{Root}
use Rattle.tb_body.specs.declared.program.Tool.{Tool}
use Rattle.tb_body.specs.Programs.{takes, has_command, is_act_in_program, is_body_in_program, have_sorts, are_actuals, starts, is_root_in_range, is_program_in_range}
use Rattle.tb_syntax.specs.declared.ast.Ast.{Ast}
use Rattle.tb_syntax.specs.declared.ast.AstKind.{AstKind, out-AstKind}
use Rattle.tb_syntax.specs.declared.ast.AstKind.TheOpen as layer
use Rattle.tb_syntax.specs.declared.ast.AstKind.TheFolds.{fold_out-AstKind, map-AstKind, fold-Ast}
use Rattle.tb_syntax.specs.declared.proc.Call.{Call}
use Rattle.tb_syntax.specs.declared.script.Formal.{Formal}
use Rattle.tb_syntax.specs.declared.script.ProcDef.{ProcDef}
use Rattle.tb_syntax.specs.declared.script.Script.{Script}
use Rattle.tb_syntax.specs.declared.script.ToolDef.{ToolDef}
use Rattle.tb_types.specs.declared.calls.Manner.TheVariants.{Rooted}
use Rattle.tb_types.specs.declared.violation.Violation.{Violation}
use Rattle.tb_types.specs.declared.violation.Rule.TheVariants.{ResultInSend}
use Rattle.tb_types.specs.declared.positions.Position.{Position}
use Rattle.tb_types.specs.declared.positions.Position.TheVariants.{Sent}
use Rattle.tb_types.specs.Positions.{misplaced, misplaced_step, misplaced_kind, expr_step}
use Rattle.tb_types.specs.Calls.{actuals_faults, actual_position, actual_expected_sort}
use Rattle.tb_types.specs.Conditions.{Proper}
use Rattle.tb_types.specs.ExpectedSorts.{rooted, exact, site_faults, is_result, result_name}
use Rattle.tb_types.specs.Bodies.{root_faults}
use Rattle.tb_types.specs.Names.{process_named, tool_named}
use Rattle.tb_types.specs.Values.{closed, closed_value, is_of_sort, has_value_of}
use Rattle.tb_expand.specs.Acts.{position_of, process_of, tool_of}
use Rattle.tb_expand.specs.Expansion.{expands, expansion_of, sorts_of}
use Rattle.tb_expand.specs.Scopes.{formals_seen}
use Rattle.tb_expand.specs.Faults.{IsExpansion}
use Rattle.tb_expand.proofs.AtomsInProgram.{act_in_program}
use Rattle.tb_expand.proofs.FaultFree.{fault_free, free_call, free_site}
use Rattle.tb_expand.proofs.NoFaults.{append_none, noted_none}
use Rattle.tb_expand.proofs.Ranges.{atoms_of_process}
use Rattle.tb_script.specs.Programs.{IsRootOf, declared_tool}
use Rattle.tb_script.specs.Helpers.Making.{HasValues, HaveValues}
use Rattle.tb_script.proofs.RootValues.{closed_is_limited}

zip_long : {A B : Type 0} (R : A → B → Type 0) (xs : List A) (ys : List B) → AllZip R xs ys → length xs ≡ length ys
zip_long R [] [] zip = refl
zip_long R [] (y ∷ ys) zip = absurd zip
zip_long R (x ∷ xs) [] zip = absurd zip
zip_long R (x ∷ xs) (y ∷ ys) zip = ap suc (zip_long R xs ys zip.1)

-- The body at the position of a name.

abbrev name_of : ProcDef → List ℕ
name_of d = d.name

abbrev is_named : List ℕ → ProcDef → Bool
is_named name d = bytes_eq d.name name

-- the body at this position is that of the process
record HasBodyAt (script : Script) (bodies : List Body) (position : ℕ) (d : ProcDef) : Type 0 where
  body : Body
  at : slice_get bodies position ≡ Some body
  is : IsExpansion script d body

one_further : {A : Type 0} (x : A) (xs : List A) (n : ℕ) → slice_get (x ∷ xs) (n + 1) ≡ slice_get xs n
one_further x xs n = ap (slice_get (x ∷ xs)) next where
  next : n + 1 ≡ suc n
  next = omega arith

body_behind : (script : Script) (name : List ℕ) (e d : ProcDef) (b : Body) (ds : List ProcDef) (bodies : List Body) (same : Bool) (position : ℕ)
    → IsExpansion script e b → (find (is_named name) ds ≡ Some d → HasBodyAt script bodies position d)
    → (if same then Some e else find (is_named name) ds) ≡ Some d → HasBodyAt script (b ∷ bodies) (if same then 0 else position + 1) d
body_behind script name e d b ds bodies true position first rest found =
    record { body = b; at = refl; is = subst (λ (x : ProcDef). IsExpansion script x b) (same_Some e d found) first }
body_behind script name e d b ds bodies false position first rest found =
    let r = rest found in record { body = r.body; at = one_further b bodies position ∙ r.at; is = r.is }

body_at : (script : Script) (name : List ℕ) (ds : List ProcDef) (bodies : List Body) (d : ProcDef)
    → AllZip (IsExpansion script) ds bodies → find (is_named name) ds ≡ Some d → HasBodyAt script bodies (position_of name (map name_of ds)) d
body_at script name [] [] d zip found = absurd (none-some d found)
body_at script name [] (b ∷ bodies) d zip found = absurd zip
body_at script name (e ∷ ds) [] d zip found = absurd zip
body_at script name (e ∷ ds) (b ∷ bodies) d zip found =
    body_behind script name e d b ds bodies (bytes_eq e.name name) (position_of name (map name_of ds)) zip.0 (body_at script name ds bodies d zip.1) found

body_takes : (script : Script) (bodies : List Body) → AllZip (IsExpansion script) script.procs bodies
    → (name : List ℕ) (d : ProcDef) → process_named script.procs name ≡ Some d → takes (slice_get bodies (process_of script name)) (length d.formals) ≡ true
body_takes script bodies zip name d found =
    let b = body_at script name script.procs bodies d zip found in
    ap (λ (o : Option Body). takes o (length d.formals)) b.at ∙ eq-eqb b.body.formals (length d.formals) b.is.formals

-- The tool at the position of a name.

abbrev tool_name : ToolDef → List ℕ
tool_name t = t.name

abbrev is_tool_named : List ℕ → ToolDef → Bool
is_tool_named name t = bytes_eq t.name name

tool_behind : (name : List ℕ) (e t : ToolDef) (ts : List ToolDef) (same : Bool) (position : ℕ)
    → (find (is_tool_named name) ts ≡ Some t → slice_get (map declared_tool ts) position ≡ Some (declared_tool t))
    → (if same then Some e else find (is_tool_named name) ts) ≡ Some t → slice_get (declared_tool e ∷ map declared_tool ts) (if same then 0 else position + 1) ≡ Some (declared_tool t)
tool_behind name e t ts true position rest found = ap (λ (x : ToolDef). Some (declared_tool x)) (same_Some e t found)
tool_behind name e t ts false position rest found = one_further (declared_tool e) (map declared_tool ts) position ∙ rest found

tool_at : (name : List ℕ) (ts : List ToolDef) (t : ToolDef) → find (is_tool_named name) ts ≡ Some t
    → slice_get (map declared_tool ts) (position_of name (map tool_name ts)) ≡ Some (declared_tool t)
tool_at name [] t found = absurd (none-some t found)
tool_at name (e ∷ ts) t found = tool_behind name e t ts (bytes_eq e.name name) (position_of name (map tool_name ts)) (tool_at name ts t) found

tool_has_command : (script : Script) (name : List ℕ) (t : ToolDef) → tool_named script.tools name ≡ Some t → is_some t.command ≡ true
    → has_command (slice_get (map declared_tool script.tools) (tool_of script name)) ≡ true
tool_has_command script name t found commanded = ap has_command (tool_at name script.tools t found) ∙ commanded

-- Bodies in the program.

module _ (script : Script) (proper : Proper script) (bodies : List Body) (zip : AllZip (IsExpansion script) script.procs bodies) where
  abbrev tools : List Tool
  tools = map declared_tool script.tools

  body_in_program : (d : ProcDef) (b : Body) → Contains script.procs d → IsExpansion script d b → is_body_in_program bodies tools b ≡ true
  body_in_program d b there is =
      subst (λ (atoms : List Atom). list_all (λ (atom : Atom). is_act_in_program bodies tools atom.act) atoms ≡ true) (sym is.atoms)
      (atoms_of_process script d proper there (λ atom. is_act_in_program bodies tools atom.act)
      (λ scope known def agrees free.
      act_in_program script (length (expansion_of script d).sorts) scope known def bodies tools (body_takes script bodies zip) (length-map script.tools declared_tool) (tool_has_command script) agrees free))

  bodies_in_program : (ds : List ProcDef) (bs : List Body) → AllByRecursion (Contains script.procs) ds → AllZip (IsExpansion script) ds bs → list_all (is_body_in_program bodies tools) bs ≡ true
  bodies_in_program [] [] there made = refl
  bodies_in_program [] (b ∷ bs) there made = absurd made
  bodies_in_program (d ∷ ds) [] there made = absurd made
  bodies_in_program (d ∷ ds) (b ∷ bs) there made = and_from _ _ (body_in_program d b there.0 made.0) (bodies_in_program ds bs there.1 made.1)

  all_in_program : list_all (is_body_in_program bodies tools) bodies ≡ true
  all_in_program = bodies_in_program script.procs bodies (recursion_from_All (Contains script.procs) script.procs (All-contains_itself script.procs)) zip

-- Roots.

-- an argument with a value of its parameter's type
record IsValued (formal : Formal) (actual : Ast) : Type 0 where
  value : Term
  is : closed_value actual ≡ Some value
  well_sorted : has_sort value formal.sort ≡ true

valued : (formal : Formal) (actual : Ast) (found : Option Term) → closed_value actual ≡ found → is_of_sort found formal.sort ≡ true → IsValued formal actual
valued formal actual None is h = absurd cc
valued formal actual (Some value) is h = record { value = value; is = is; well_sorted = h }

not_false : (b : Bool) → not b ≡ false → b ≡ true
not_false true h = refl
not_false false h = sym h

both_true : (a b : Bool) → a && b ≡ true → b ≡ true
both_true true b h = h
both_true false b h = absurd cc

-- A result variable can't be where a value is sent.

abbrev layer_misplaced : layer.AstKind-F AstKind Ast → ℕ → List Violation
layer_misplaced x token =
    misplaced_step (map-AstKind AstKind Ast (ℕ → Position → List Violation) (Position → List Violation) misplaced_kind (fold-Ast (ℕ → Position → List Violation) (Position → List Violation) misplaced_step expr_step) x) token Sent

misplaced_is : (e : Ast) → misplaced Sent e ≡ layer_misplaced (out-AstKind e.kind) e.token
misplaced_is e = ap (λ (f : ℕ → Position → List Violation). f e.token Sent) (fold_out-AstKind (ℕ → Position → List Violation) (Position → List Violation) misplaced_step expr_step e.kind)

result_misplaced : (x : layer.AstKind-F AstKind Ast) (token : ℕ) → is_some (result_name x) ≡ true → layer_misplaced x token ≡ [] → ⊥
result_misplaced (layer.Int number) token is e = absurd cc
result_misplaced (layer.Str text) token is e = absurd cc
result_misplaced (layer.Appl name parts) token is e = absurd cc
result_misplaced (layer.Var name) token is e = absurd cc
result_misplaced (layer.Result name) token is e = let no : true ≡ false = noted_none true ResultInSend token e in absurd cc
result_misplaced (layer.Hole sort) token is e = absurd cc
result_misplaced (layer.List parts) token is e = absurd cc

-- no root takes a result: a result variable can't be an argument there, and nothing else can be the argument of a result parameter
actual_valued : (script : Script) (formal : Formal) (actual : Ast) (result : Bool)
    → site_faults script [] Sent (if result then exact formal.sort else rooted formal.sort) actual ≡ [] → IsValued formal actual
actual_valued script formal actual true free =
    let site = free_site script [] Sent (exact formal.sort) actual free in
    absurd (result_misplaced (out-AstKind actual.kind) actual.token (not_false (is_result actual) site.result) (sym (misplaced_is actual) ∙ site.positioned))
actual_valued script formal actual false free =
    let site = free_site script [] Sent (rooted formal.sort) actual free in
    valued formal actual (closed_value actual) refl (both_true _ (has_value_of actual formal.sort) (not_false _ site.fits))

-- each argument has a value of its parameter's type
abbrev AreValued : List Formal → List Ast → Type 0
AreValued [] [] = Unit {0}
AreValued [] (actual ∷ actuals) = ⊥
AreValued (formal ∷ formals) [] = ⊥
AreValued (formal ∷ formals) (actual ∷ actuals) = IsValued formal actual × AreValued formals actuals

abbrev asked : Script → Ast → Option Formal → List Violation
asked script actual o = site_faults script [] (actual_position Rooted o) (actual_expected_sort Rooted o) actual

actuals_valued : (script : Script) (all formals : List Formal) (position : ℕ) (actuals : List Ast)
    → ((k : ℕ) → slice_get all (position + k) ≡ slice_get formals k) → length actuals ≡ length formals
    → actuals_faults script [] Rooted all position actuals ≡ [] → AreValued formals actuals
actuals_valued script all [] position [] same count free = tt
actuals_valued script all [] position (actual ∷ actuals) same count free = absurd (omega (arith, count))
actuals_valued script all (formal ∷ formals) position [] same count free = absurd (omega (arith, count))
actuals_valued script all (formal ∷ formals) position (actual ∷ actuals) same count free =
    let parts = append_none (asked script actual (slice_get all position)) (actuals_faults script [] Rooted all (position + 1) actuals) free in
    let start : position ≡ position + 0 = omega arith in
    let here : slice_get all position ≡ Some formal = ap (slice_get all) start ∙ same 0 in
    let behind : (k : ℕ) → slice_get all ((position + 1) + k) ≡ slice_get formals k
    = λ k. let moved : (position + 1) + k ≡ position + suc k = omega arith in ap (slice_get all) moved ∙ same (suc k) in
    (actual_valued script formal actual formal.result (subst (λ o. asked script actual o ≡ []) here parts.0), actuals_valued script all formals (position + 1) actuals behind (omega (arith, count)) parts.1)

-- a root: its process exists and takes the values
record IsRooted (script : Script) (call : Call) : Type 0 where
  called : ProcDef
  is : process_named script.procs call.name ≡ Some called
  values : AreValued called.formals call.actuals

rooted_call : (script : Script) (call : Call) → root_faults script call ≡ [] → IsRooted script call
rooted_call script call free =
    let c = free_call script [] Rooted call free in
    record { called = c.called; is = c.is; values = actuals_valued script c.called.formals c.called.formals 0 call.actuals (λ k. ap (slice_get c.called.formals) (zero_and k)) c.count c.actuals } where
      zero_and : (k : ℕ) → 0 + k ≡ k
      zero_and k = omega arith

rooted_calls : (script : Script) (calls : List Call) → flat_map (root_faults script) calls ≡ [] → AllByRecursion (IsRooted script) calls
rooted_calls script [] free = tt
rooted_calls script (call ∷ calls) free =
    let parts = append_none (root_faults script call) (flat_map (root_faults script) calls) free in
    (rooted_call script call parts.0, rooted_calls script calls parts.1)

roots_rooted : (script : Script) → Proper script → AllByRecursion (IsRooted script) script.roots
roots_rooted script proper = rooted_calls script script.roots (fault_free script proper).roots

values_there : (formals : List Formal) (actuals : List Ast) → AreValued formals actuals → AllByRecursion (λ (e : Ast). IsSome (closed_value e)) actuals
values_there [] [] h = tt
values_there [] (actual ∷ actuals) h = absurd h
values_there (formal ∷ formals) [] h = absurd h
values_there (formal ∷ formals) (actual ∷ actuals) h = (ap is_some h.0.is, values_there formals actuals h.1)

have_values : (script : Script) (calls : List Call) → AllByRecursion (IsRooted script) calls → AllByRecursion HasValues calls
have_values script [] h = tt
have_values script (call ∷ calls) h =
    (All-from_recursion (λ (e : Ast). IsSome (closed_value e)) call.actuals (values_there h.0.called.formals call.actuals h.0.values), have_values script calls h.1)

-- each argument of each root has a value
pub roots_have_values : (script : Script) → Proper script → HaveValues script.roots
roots_have_values script proper = All-from_recursion HasValues script.roots (have_values script script.roots (roots_rooted script proper))

-- Roots in the program.

abbrev there : Term → Option Term
there value = Some value

same_terms : (t u : Term) (ts : List Term) (actual : Ast) (actuals : List Ast) → map there (t ∷ ts) ≡ map closed_value (actual ∷ actuals) → closed_value actual ≡ Some u → (t ≡ u) × (map there ts ≡ map closed_value actuals)
same_terms t u ts actual actuals e is =
    let first : Some t ≡ closed_value actual = cc in
    let rest : map there ts ≡ map closed_value actuals = cc in
    (same_Some t u (first ∙ is), rest)

-- the values of a root: as many as parameters, of their types, and within the limits
record AreTaken (formals : List Formal) (more : List Sort) (values : List Term) : Type 0 where
  count : length values ≡ length formals
  sorts : have_sorts (sorts_of formals ++ more) values ≡ true
  limits : list_all is_within_limits values ≡ true

are_taken : (formals : List Formal) (more : List Sort) (actuals : List Ast) (values : List Term) → AreValued formals actuals → map there values ≡ map closed_value actuals → AreTaken formals more values
are_taken [] more [] [] h e = record { count = refl; sorts = refl; limits = refl }
are_taken [] more [] (t ∷ ts) h e = absurd cc
are_taken [] more (actual ∷ actuals) values h e = absurd h
are_taken (formal ∷ formals) more [] values h e = absurd h
are_taken (formal ∷ formals) more (actual ∷ actuals) [] h e = absurd cc
are_taken (formal ∷ formals) more (actual ∷ actuals) (t ∷ ts) h e =
    let same = same_terms t h.0.value ts actual actuals e h.0.is in
    let rest = are_taken formals more actuals ts h.1 same.1 in
    let well_sorted : has_sort t formal.sort ≡ true = subst (λ (u : Term). has_sort u formal.sort ≡ true) (sym same.0) h.0.well_sorted in
    let limited : is_within_limits t ≡ true = closed_is_limited (closed actual) t (h.0.is ∙ ap there (sym same.0)) in
    record { count = ap suc rest.count; sorts = and_from _ _ well_sorted rest.sorts; limits = and_from _ _ limited rest.limits }

-- the types of the slots after those of the parameters
abbrev more_sorts : Script → ProcDef → List Sort
more_sorts script d = (expands script (length script.procs) d.body (formals_seen 0 d.formals) 1 (length d.formals)).sorts

module _ (script : Script) (bodies : List Body) (zip : AllZip (IsExpansion script) script.procs bodies) where
  taken_by : (d : ProcDef) (b : Body) (values : List Term) (more : List Sort) → IsExpansion script d b → b.sorts ≡ sorts_of d.formals ++ more → AreTaken d.formals more values → are_actuals b values ≡ true
  taken_by d b values more is sorts taken =
      and_from _ _
      (and_from _ _ (eq-eqb (length values) b.formals (taken.count ∙ sym is.formals)) (ap (λ (ss : List Sort). have_sorts ss values) sorts ∙ taken.sorts))
      taken.limits

  root_in_range : (call : Call) (root : Root) → IsRooted script call → IsRootOf script call root → is_root_in_range bodies root ≡ true
  root_in_range call root h is =
      let b = body_at script call.name script.procs bodies h.called zip h.is in
      let more = more_sorts script h.called in
      let at : slice_get bodies root.process ≡ Some b.body = ap (slice_get bodies) is.process ∙ b.at in
      ap (λ (o : Option Body). starts o root.actuals) at
      ∙ taken_by h.called b.body root.actuals more b.is b.is.sorts (are_taken h.called.formals more call.actuals root.actuals h.values is.actuals)

  roots_in_range : (calls : List Call) (roots : List Root) → AllByRecursion (IsRooted script) calls → AllZip (IsRootOf script) calls roots → list_all (is_root_in_range bodies) roots ≡ true
  roots_in_range [] [] h made = refl
  roots_in_range [] (root ∷ roots) h made = absurd made
  roots_in_range (call ∷ calls) [] h made = absurd made
  roots_in_range (call ∷ calls) (root ∷ roots) h made = and_from _ _ (root_in_range call root h.0 made.0) (roots_in_range calls roots h.1 made.1)

in_range : (script : Script) (bodies : List Body) (roots : List Root) → Proper script → AllZip (IsExpansion script) script.procs bodies → AllZip (IsRootOf script) script.roots roots
    → length script.roots ≤ 10000 → is_program_in_range bodies roots (map declared_tool script.tools) ≡ true
unfolding is_program_in_range
in_range script bodies roots proper zip made few =
    and_from _ _
    (and_from _ _ (all_in_program script proper bodies zip) (le-leb (length roots) 10000 (omega (arith, zip_long (IsRootOf script) script.roots roots made, few))))
    (roots_in_range script bodies zip script.roots roots (roots_rooted script proper) made)

-- the program of a well-formed script is in range
pub program_in_range : (script : Script) (bodies : List Body) (roots : List Root) (kinds : List Tool) → Proper script
    → AllZip (IsExpansion script) script.procs bodies → AllZip (IsRootOf script) script.roots roots → kinds ≡ map declared_tool script.tools → length script.roots ≤ 10000
    → is_program_in_range bodies roots kinds ≡ true
program_in_range script bodies roots kinds proper zip made are few =
    subst (λ (ts : List Tool). is_program_in_range bodies roots ts ≡ true) (sym are) (in_range script bodies roots proper zip made few)
