-- Tokens without the symbol `>>` spell no disrupt.
use Rattle.std.proofs.Common.{◌≡◌, ℕ, Bool, true, false, ◌||◌, List, [], ◌∷◌, ◌++◌, Some, None, Contains, codes, refl, ap, ◌∙◌, subst, arith}
use Rattle.std.specs.List.{All}
use Rattle.std.proofs.lemmas.List.Elements.{All-nil, All-cons, Contains-append_left, Contains-append_right}
use Rattle.tb_lex.specs.declared.kind.TokenKind.{TokenKind}
use Rattle.tb_lex.specs.declared.kind.TokenKind.TheVariants.{Lower, Upper, Symbol as Sign}
use Rattle.tb_lex.specs.declared.symbol.Symbol.TheVariants.{LeftParen, RightParen, Point, Plus, Star, Bars, Angles}
use Rattle.tb_syntax.specs.declared.level.Level.{Level}
use Rattle.tb_syntax.specs.declared.proc.Proc.{Proc, out-Proc}
use Rattle.tb_syntax.specs.declared.proc.Proc.TheVariants.{outs-Atom, outs-Call, outs-Seq, outs-Alt, outs-Star, outs-Par, outs-If, outs-Let}
use Rattle.tb_syntax.specs.declared.proc.Proc.TheOpen.{Proc-F}
use Rattle.tb_syntax.specs.declared.proc.Proc.TheFolds.{fold_out-Proc, map-Proc}
use Rattle.tb_syntax.specs.declared.script.ProcDef.{ProcDef}
use Rattle.tb_syntax.specs.declared.script.ToolDef.{ToolDef}
use Rattle.tb_syntax.specs.declared.script.Script.{Script}
use Rattle.tb_syntax.specs.Spelling.{SpellsProc, one_par, disrupt, one_alt, par, one_seq, choice, one_star, sequence, one_prim, turns, parens, atom, call, block, test, test_else, SpellsProcDef, SpellsDefinitions, none, process, tool, Spells, in_parens}
use Rattle.tb_source_laws.specs.Disrupts.{proc_step, proc_has_disrupt}

abbrev of_layer : Proc-F Proc → Bool
of_layer layer = proc_step (map-Proc Proc Bool proc_has_disrupt layer)

opened : (p : Proc) (layer : Proc-F Proc) → out-Proc p ≡ layer → proc_has_disrupt p ≡ of_layer layer
opened p layer e = fold_out-Proc Bool proc_step p ∙ ap of_layer e

pub neither : (x y : Bool) → x ≡ false → y ≡ false → (x || y) ≡ false
neither true y h k = h
neither false y h k = k

-- lists without the symbol

abbrev pub Lacks : List TokenKind → Type 0
Lacks ks = Contains ks (Sign Angles) → ⊥

lacks-first : (xs ys : List TokenKind) → Lacks (xs ++ ys) → Lacks xs
lacks-first xs ys l c = l (Contains-append_left xs ys (Sign Angles) c)

lacks-rest : (xs ys : List TokenKind) → Lacks (xs ++ ys) → Lacks ys
lacks-rest xs ys l c = l (Contains-append_right xs ys (Sign Angles) c)

lacks-behind : (x : TokenKind) (ys : List TokenKind) → Lacks (x ∷ ys) → Lacks ys
lacks-behind x ys l = lacks-rest (x ∷ []) ys l

lacks-within : (x : TokenKind) (xs ys : List TokenKind) → Lacks (x ∷ (xs ++ ys)) → Lacks xs
lacks-within x xs ys l = lacks-first xs ys (lacks-behind x (xs ++ ys) l)

lacks-after : (xs : List TokenKind) (y : TokenKind) (ys : List TokenKind) → Lacks (xs ++ y ∷ ys) → Lacks ys
lacks-after xs y ys l = lacks-behind y ys (lacks-rest xs (y ∷ ys) l)

pub spelt : {level : Level} {at : ℕ} {p : Proc} {ks : List TokenKind} → SpellsProc level at p ks → Lacks ks → proc_has_disrupt p ≡ false
spelt (one_par h) l = spelt h l
spelt (disrupt {xs = xs} {ys = ys} h k) l = absurd (l (Contains-append_right xs (Sign Angles ∷ ys) (Sign Angles) (0, omega arith, refl)))
spelt (one_alt h) l = spelt h l
spelt (par {x = x} {y = y} {xs = xs} {ys = ys} h k) l =
    opened _ _ (outs-Par x y) ∙ neither (proc_has_disrupt x) (proc_has_disrupt y) (spelt h (lacks-first xs (Sign Bars ∷ ys) l)) (spelt k (lacks-after xs (Sign Bars) ys l))
spelt (one_seq h) l = spelt h l
spelt (choice {x = x} {y = y} {xs = xs} {ys = ys} h k) l =
    opened _ _ (outs-Alt x y) ∙ neither (proc_has_disrupt x) (proc_has_disrupt y) (spelt h (lacks-first xs (Sign Plus ∷ ys) l)) (spelt k (lacks-after xs (Sign Plus) ys l))
spelt (one_star h) l = spelt h l
spelt (sequence {x = x} {y = y} {xs = xs} {ys = ys} h k) l =
    opened _ _ (outs-Seq x y) ∙ neither (proc_has_disrupt x) (proc_has_disrupt y) (spelt h (lacks-first xs (Sign Point ∷ ys) l)) (spelt k (lacks-after xs (Sign Point) ys l))
spelt (one_prim h) l = spelt h l
spelt (turns {x = x} {y = y} {xs = xs} {ys = ys} h k) l =
    opened _ _ (outs-Star x y) ∙ neither (proc_has_disrupt x) (proc_has_disrupt y) (spelt h (lacks-first xs (Sign Star ∷ ys) l)) (spelt k (lacks-after xs (Sign Star) ys l))
spelt (parens {xs = xs} h) l = spelt h (lacks-within (Sign LeftParen) xs (Sign RightParen ∷ []) l)
spelt (atom {a = a} h) l = opened _ _ (outs-Atom a)
spelt (call {c = c} h) l = opened _ _ (outs-Call c)
spelt (block {vars = vars} {vs = vs} {x = x} {xs = xs} v h) l =
    let back = lacks-behind (Lower (codes "let")) (vs ++ Lower (codes "in") ∷ (xs ++ Lower (codes "endlet") ∷ [])) l in
    opened _ _ (outs-Let vars x)
    ∙ spelt h (lacks-first xs (Lower (codes "endlet") ∷ []) (lacks-after vs (Lower (codes "in")) (xs ++ Lower (codes "endlet") ∷ []) back))
spelt (test {e = e} {es = es} {x = x} {xs = xs} s h) l =
    let back = lacks-behind (Lower (codes "if")) (es ++ Lower (codes "then") ∷ (xs ++ Lower (codes "fi") ∷ [])) l in
    opened _ _ (outs-If e x None)
    ∙ spelt h (lacks-first xs (Lower (codes "fi") ∷ []) (lacks-after es (Lower (codes "then")) (xs ++ Lower (codes "fi") ∷ []) back))
spelt (test_else {e = e} {es = es} {x = x} {y = y} {xs = xs} {ys = ys} s h k) l =
    let whole = lacks-behind (Lower (codes "if")) (es ++ Lower (codes "then") ∷ (xs ++ Lower (codes "else") ∷ (ys ++ Lower (codes "fi") ∷ []))) l in
    let back = lacks-after es (Lower (codes "then")) (xs ++ Lower (codes "else") ∷ (ys ++ Lower (codes "fi") ∷ [])) whole in
    let first = lacks-first xs (Lower (codes "else") ∷ (ys ++ Lower (codes "fi") ∷ [])) back in
    let last = lacks-first ys (Lower (codes "fi") ∷ []) (lacks-after xs (Lower (codes "else")) (ys ++ Lower (codes "fi") ∷ []) back) in
    opened _ _ (outs-If e x (Some y)) ∙ neither (proc_has_disrupt x) (proc_has_disrupt y) (spelt h first) (spelt k last)

-- the processes of a script

abbrev pub HasNone : ProcDef → Type 0
HasNone d = proc_has_disrupt d.body ≡ false

definition-spelt : (at : ℕ) (d : ProcDef) (ks : List TokenKind) → SpellsProcDef at d ks → Lacks ks → HasNone d
definition-spelt at d ks h l =
    let whole = subst Lacks h.is l in
    let named = lacks-behind (Lower (codes "process")) (Upper d.name ∷ (h.formals ++ Lower (codes "is") ∷ h.body)) whole in
    let rest = lacks-behind (Upper d.name) (h.formals ++ Lower (codes "is") ∷ h.body) named in
    spelt h.is_body (lacks-after h.formals (Lower (codes "is")) h.body rest)

definitions-spelt : {at : ℕ} {procs : List ProcDef} {tools : List ToolDef} {ks : List TokenKind} → SpellsDefinitions at procs tools ks → Lacks ks → All HasNone procs
definitions-spelt (none at) l = All-nil HasNone
definitions-spelt (process {at = at} {d = d} {ks = ks} {procs = procs} {rest = rest} h k) l =
    All-cons HasNone d procs (definition-spelt at d ks h (lacks-first ks rest l)) (definitions-spelt k (lacks-rest ks rest l))
definitions-spelt (tool {ks = ks} {rest = rest} h k) l = definitions-spelt k (lacks-rest ks rest l)

pub script-spelt : (script : Script) (ks : List TokenKind) → Spells script ks → Lacks ks → All HasNone script.procs
script-spelt script ks h l = definitions-spelt h.are_definitions (lacks-first h.definitions (Lower (codes "toolbus") ∷ in_parens h.roots) (subst Lacks h.is l))
