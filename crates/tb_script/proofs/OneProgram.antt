-- A script has at most one program.
use Rattle.std.proofs.Common.{◌≡◌, ℕ, List, [], ◌∷◌, map, Option, Some, IsTrue, refl, sym, ap, subst, ◌∙◌}
use Rattle.std.proofs.Math.Bool.{Bool-set}
use Rattle.std.specs.List.{AllZip}
use Rattle.std.proofs.lemmas.Option.{same_Some}
use Rattle.tb_terms.specs.declared.term.Term.{Term}
use Rattle.tb_terms.specs.declared.sort.Sort.{Sort}
use Rattle.tb_body.specs.declared.atom.Atom.{Atom}
use Rattle.tb_body.specs.declared.tree.Tree.{Tree}
use Rattle.tb_body.specs.declared.body.Body.{Body}
use Rattle.tb_body.specs.declared.program.Root.{Root}
use Rattle.tb_body.specs.declared.program.Tool.{Tool}
use Rattle.tb_body.specs.declared.program.Program.{Program}
use Rattle.tb_body.specs.InRange.{is_body_in_range}
use Rattle.tb_body.specs.Programs.{is_program_in_range}
use Rattle.tb_syntax.specs.declared.proc.Call.{Call}
use Rattle.tb_syntax.specs.declared.script.ProcDef.{ProcDef}
use Rattle.tb_syntax.specs.declared.script.Script.{Script}
use Rattle.tb_expand.specs.Faults.{IsExpansion}
use Rattle.tb_script.specs.Programs.{IsRootOf, IsProgramOf}

-- the bodies of one definition are equal

record Made : Type 0 where
  tree : Tree
  atoms : List Atom
  sorts : List Sort
  formals : ℕ

abbrev made_of : Body → Made
made_of b = record { tree = b.tree; atoms = b.atoms; sorts = b.sorts; formals = b.formals }

abbrev IsAllowed : Made → Type 0
IsAllowed s = IsTrue (is_body_in_range s.tree s.atoms s.sorts s.formals)

abbrev body_of : (s : Made) → IsAllowed s → Body
body_of s allowed = record { tree = s.tree; atoms = s.atoms; sorts = s.sorts; formals = s.formals; in_range = allowed }

body_once : (s t : Made) → s ≡ t → (h : IsAllowed s) (k : IsAllowed t) → body_of s h ≡ body_of t k
body_once s t e h = subst (λ (u : Made). (k : IsAllowed u) → body_of s h ≡ body_of u k) e (λ k. ap (body_of s) (Bool-set _ _ h k))

made_once : (script : Script) (d : ProcDef) (b c : Body) → IsExpansion script d b → IsExpansion script d c → made_of b ≡ made_of c
made_once script d b c p q =
    ap (λ (t : Tree). record { tree = t; atoms = b.atoms; sorts = b.sorts; formals = b.formals }) (p.tree ∙ sym q.tree)
    ∙ ap (λ (xs : List Atom). record { tree = c.tree; atoms = xs; sorts = b.sorts; formals = b.formals }) (p.atoms ∙ sym q.atoms)
    ∙ ap (λ (xs : List Sort). record { tree = c.tree; atoms = c.atoms; sorts = xs; formals = b.formals }) (p.sorts ∙ sym q.sorts)
    ∙ ap (λ (n : ℕ). record { tree = c.tree; atoms = c.atoms; sorts = c.sorts; formals = n }) (p.formals ∙ sym q.formals)

one_body : (script : Script) (d : ProcDef) (b c : Body) → IsExpansion script d b → IsExpansion script d c → b ≡ c
one_body script d b c p q = body_once (made_of b) (made_of c) (made_once script d b c p q) b.in_range c.in_range

one_bodies : (script : Script) (ds : List ProcDef) (bs cs : List Body) → AllZip (IsExpansion script) ds bs → AllZip (IsExpansion script) ds cs → bs ≡ cs
one_bodies script [] [] [] p q = refl
one_bodies script [] [] (c ∷ cs) p q = absurd q
one_bodies script [] (b ∷ bs) cs p q = absurd p
one_bodies script (d ∷ ds) [] cs p q = absurd p
one_bodies script (d ∷ ds) (b ∷ bs) [] p q = absurd q
one_bodies script (d ∷ ds) (b ∷ bs) (c ∷ cs) p q =
    ap (λ (x : Body). x ∷ bs) (one_body script d b c p.0 q.0) ∙ ap (λ (xs : List Body). c ∷ xs) (one_bodies script ds bs cs p.1 q.1)

-- the names and values of the roots determine the roots

abbrev there : Term → Option Term
there value = Some value

same_values : (ts us : List Term) → map there ts ≡ map there us → ts ≡ us
same_values [] [] e = refl
same_values [] (u ∷ us) e = absurd cc
same_values (t ∷ ts) [] e = absurd cc
same_values (t ∷ ts) (u ∷ us) e =
    let first : Some t ≡ Some u = cc in
    let rest : map there ts ≡ map there us = cc in
    ap (λ (x : Term). x ∷ ts) (same_Some t u first) ∙ ap (λ (xs : List Term). u ∷ xs) (same_values ts us rest)

one_root : (script : Script) (call : Call) (root other : Root) → IsRootOf script call root → IsRootOf script call other → root ≡ other
one_root script call root other p q =
    ap (λ (n : ℕ). record { process = n; actuals = root.actuals }) (p.process ∙ sym q.process)
    ∙ ap (λ (ts : List Term). record { process = other.process; actuals = ts }) (same_values root.actuals other.actuals (p.actuals ∙ sym q.actuals))

one_roots : (script : Script) (calls : List Call) (found other : List Root) → AllZip (IsRootOf script) calls found → AllZip (IsRootOf script) calls other → found ≡ other
one_roots script [] [] [] a b = refl
one_roots script [] [] (n ∷ other) a b = absurd b
one_roots script [] (m ∷ found) other a b = absurd a
one_roots script (r ∷ rs) [] other a b = absurd a
one_roots script (r ∷ rs) (m ∷ found) [] a b = absurd b
one_roots script (r ∷ rs) (m ∷ found) (n ∷ other) a b =
    ap (λ (x : Root). x ∷ found) (one_root script r m n a.0 b.0) ∙ ap (λ (xs : List Root). n ∷ xs) (one_roots script rs found other a.1 b.1)

-- the bodies, the roots and the tools determine a program

record Shown : Type 0 where
  bodies : List Body
  roots : List Root
  tools : List Tool

abbrev shown : Program → Shown
shown p = record { bodies = p.bodies; roots = p.roots; tools = p.tools }

abbrev Allowed : Shown → Type 0
Allowed s = IsTrue (is_program_in_range s.bodies s.roots s.tools)

abbrev program_with : (s : Shown) → Allowed s → Program
program_with s allowed = record { bodies = s.bodies; roots = s.roots; tools = s.tools; in_range = allowed }

program_once : (s t : Shown) → s ≡ t → (h : Allowed s) (k : Allowed t) → program_with s h ≡ program_with t k
program_once s t e h = subst (λ (u : Shown). (k : Allowed u) → program_with s h ≡ program_with u k) e (λ k. ap (program_with s) (Bool-set _ _ h k))

shown_once : (p q : Program) → p.bodies ≡ q.bodies → p.roots ≡ q.roots → p.tools ≡ q.tools → shown p ≡ shown q
shown_once p q bodies roots tools =
    ap (λ (xs : List Body). record { bodies = xs; roots = p.roots; tools = p.tools }) bodies
    ∙ ap (λ (xs : List Root). record { bodies = q.bodies; roots = xs; tools = p.tools }) roots
    ∙ ap (λ (xs : List Tool). record { bodies = q.bodies; roots = q.roots; tools = xs }) tools

pub one_program : (script : Script) (p q : Program) → IsProgramOf script p → IsProgramOf script q → p ≡ q
one_program script p q a b =
    let bodies : p.bodies ≡ q.bodies = one_bodies script script.procs p.bodies q.bodies a.bodies b.bodies in
    let roots : p.roots ≡ q.roots = one_roots script script.roots p.roots q.roots a.roots b.roots in
    program_once (shown p) (shown q) (shown_once p q bodies roots (a.tools ∙ sym b.tools)) p.in_range q.in_range
