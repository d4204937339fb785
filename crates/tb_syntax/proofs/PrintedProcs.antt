-- If a process has a spelling, its printed tokens spell it at each position and level, except for token positions.
use Rattle.std.proofs.Common.{◌≡◌, if◌then◌else◌, ℕ, ◌+◌, Bool, true, false, List, [], ◌∷◌, ◌++◌, length, map, Some, None, refl, ap, sym, ◌∙◌, subst, codes, append_assoc}
use Rattle.tb_lex.specs.declared.kind.TokenKind.{TokenKind}
use Rattle.tb_lex.specs.declared.kind.TokenKind.TheVariants.{Lower, Symbol as Sign}
use Rattle.tb_lex.specs.declared.symbol.Symbol.TheVariants.{Point, Plus, Star, Bars, Angles}
use Rattle.tb_syntax.specs.declared.ast.Ast.{Ast}
use Rattle.tb_syntax.specs.declared.level.Level.{Level}
use Rattle.tb_syntax.specs.declared.level.Level.TheVariants as level
use Rattle.tb_syntax.specs.declared.proc.AtomDef.{AtomDef}
use Rattle.tb_syntax.specs.declared.proc.Call.{Call}
use Rattle.tb_syntax.specs.declared.proc.Var.{Var}
use Rattle.tb_syntax.specs.declared.proc.Proc.{Proc}
use Rattle.tb_syntax.specs.declared.proc.Proc.TheVariants as tree
use Rattle.tb_syntax.specs.Spelling.{in_parens, SpellsProc, SpellsAtom, SpellsCall, SpellsVar, Parted}
use Rattle.tb_syntax.specs.Binding.{is_looser}
use Rattle.tb_syntax.specs.Helpers.Canonical.{proc_tokens, placed, expr_tokens, var_tokens, parted, then_tokens, let_tokens}
use Rattle.tb_syntax.specs.Positions.{bare_proc, bare_var}
use Rattle.tb_syntax.proofs.BareProcs.{bare_of_atom, bare_of_call, bare_of_seq, bare_of_alt, bare_of_star, bare_of_par, bare_of_disrupt, bare_of_if, bare_of_let}
use Rattle.tb_syntax.proofs.ProcTokens.{tokens_of_atom, tokens_of_call, tokens_of_seq, tokens_of_alt, tokens_of_star, tokens_of_par, tokens_of_disrupt, tokens_of_if, tokens_of_let}
use Rattle.tb_syntax.proofs.PrintedAtoms.{call_printed, atom_printed, var_printed}
use Rattle.tb_syntax.proofs.PrintedExprs.{ExprPrinted, expr_printed}
use Rattle.tb_syntax.proofs.PrintedLists.{IsPrinted, parted_printed}

-- a construct of level `Prim` can be at a position of each level
from_prim : {at : ℕ} {p : Proc} {ks : List TokenKind} (m : Level) → SpellsProc level.Prim at p ks → SpellsProc m at p ks
from_prim level.Prim d = d
from_prim level.Star d = SpellsProc.one_prim d
from_prim level.Seq d = SpellsProc.one_star (SpellsProc.one_prim d)
from_prim level.Alt d = SpellsProc.one_seq (SpellsProc.one_star (SpellsProc.one_prim d))
from_prim level.Par d = SpellsProc.one_alt (SpellsProc.one_seq (SpellsProc.one_star (SpellsProc.one_prim d)))
from_prim level.Proc d = SpellsProc.one_par (SpellsProc.one_alt (SpellsProc.one_seq (SpellsProc.one_star (SpellsProc.one_prim d))))

-- a construct at a position of a level can be at each level that isn't tighter
loosened : {at : ℕ} {p : Proc} {ks : List TokenKind} (own m : Level) → is_looser own m ≡ false → SpellsProc own at p ks → SpellsProc m at p ks
loosened level.Prim m e d = from_prim m d
loosened level.Star level.Star e d = d
loosened level.Star level.Seq e d = SpellsProc.one_star d
loosened level.Star level.Alt e d = SpellsProc.one_seq (SpellsProc.one_star d)
loosened level.Star level.Par e d = SpellsProc.one_alt (SpellsProc.one_seq (SpellsProc.one_star d))
loosened level.Star level.Proc e d = SpellsProc.one_par (SpellsProc.one_alt (SpellsProc.one_seq (SpellsProc.one_star d)))
loosened level.Seq level.Seq e d = d
loosened level.Seq level.Alt e d = SpellsProc.one_seq d
loosened level.Seq level.Par e d = SpellsProc.one_alt (SpellsProc.one_seq d)
loosened level.Seq level.Proc e d = SpellsProc.one_par (SpellsProc.one_alt (SpellsProc.one_seq d))
loosened level.Alt level.Alt e d = d
loosened level.Alt level.Par e d = SpellsProc.one_alt d
loosened level.Alt level.Proc e d = SpellsProc.one_par (SpellsProc.one_alt d)
loosened level.Par level.Par e d = d
loosened level.Par level.Proc e d = SpellsProc.one_par d
loosened level.Proc level.Proc e d = d
loosened level.Star level.Prim e d = absurd (cc)
loosened level.Seq level.Prim e d = absurd (cc)
loosened level.Seq level.Star e d = absurd (cc)
loosened level.Alt level.Prim e d = absurd (cc)
loosened level.Alt level.Star e d = absurd (cc)
loosened level.Alt level.Seq e d = absurd (cc)
loosened level.Par level.Prim e d = absurd (cc)
loosened level.Par level.Star e d = absurd (cc)
loosened level.Par level.Seq e d = absurd (cc)
loosened level.Par level.Alt e d = absurd (cc)
loosened level.Proc level.Prim e d = absurd (cc)
loosened level.Proc level.Star e d = absurd (cc)
loosened level.Proc level.Seq e d = absurd (cc)
loosened level.Proc level.Alt e d = absurd (cc)
loosened level.Proc level.Par e d = absurd (cc)

whole : {at : ℕ} {p : Proc} {ks : List TokenKind} (own : Level) → SpellsProc own at p ks → SpellsProc level.Proc at p ks
whole level.Prim d = loosened level.Prim level.Proc refl d
whole level.Star d = loosened level.Star level.Proc refl d
whole level.Seq d = loosened level.Seq level.Proc refl d
whole level.Alt d = loosened level.Alt level.Proc refl d
whole level.Par d = loosened level.Par level.Proc refl d
whole level.Proc d = d

abbrev At : Level → Proc → List TokenKind → Type 0
At m p ks = IsPrinted bare_proc (SpellsProc m) p ks

placed_by : (own m : Level) (b : Bool) (p : Proc) (ks : List TokenKind) → is_looser own m ≡ b → At own p ks → At m p (if b then in_parens ks else ks)
placed_by own m true p ks e h to = let r = h (to + 1) in (r.0, r.1, from_prim m (SpellsProc.parens (whole own r.2)))
placed_by own m false p ks e h to = let r = h to in (r.0, r.1, loosened own m e r.2)

placed_printed : (own m : Level) (p : Proc) (ks : List TokenKind) → At own p ks → At m p (placed own m ks)
placed_printed own m p ks h = placed_by own m (is_looser own m) p ks refl h

abbrev pub ProcPrinted : Proc → Type 0
ProcPrinted p = (m : Level) → At m p (proc_tokens p m)

-- two processes with an operator between them, at the operator's level
disrupt_at : (x y : Proc) → ProcPrinted x → ProcPrinted y → At level.Proc (tree.Disrupt x y) (proc_tokens x level.Par ++ Sign Angles ∷ proc_tokens y level.Proc)
disrupt_at x y h k to =
    let r = h level.Par to in
    let s = k level.Proc (to + length (proc_tokens x level.Par) + 1) in
    (tree.Disrupt r.0 s.0, bare_of_disrupt r.0 s.0 ∙ (λ i. tree.Disrupt (r.1 i) (s.1 i)) ∙ sym (bare_of_disrupt x y), SpellsProc.disrupt r.2 s.2)

par_at : (x y : Proc) → ProcPrinted x → ProcPrinted y → At level.Par (tree.Par x y) (proc_tokens x level.Alt ++ Sign Bars ∷ proc_tokens y level.Par)
par_at x y h k to =
    let r = h level.Alt to in
    let s = k level.Par (to + length (proc_tokens x level.Alt) + 1) in
    (tree.Par r.0 s.0, bare_of_par r.0 s.0 ∙ (λ i. tree.Par (r.1 i) (s.1 i)) ∙ sym (bare_of_par x y), SpellsProc.par r.2 s.2)

alt_at : (x y : Proc) → ProcPrinted x → ProcPrinted y → At level.Alt (tree.Alt x y) (proc_tokens x level.Seq ++ Sign Plus ∷ proc_tokens y level.Alt)
alt_at x y h k to =
    let r = h level.Seq to in
    let s = k level.Alt (to + length (proc_tokens x level.Seq) + 1) in
    (tree.Alt r.0 s.0, bare_of_alt r.0 s.0 ∙ (λ i. tree.Alt (r.1 i) (s.1 i)) ∙ sym (bare_of_alt x y), SpellsProc.choice r.2 s.2)

seq_at : (x y : Proc) → ProcPrinted x → ProcPrinted y → At level.Seq (tree.Seq x y) (proc_tokens x level.Star ++ Sign Point ∷ proc_tokens y level.Seq)
seq_at x y h k to =
    let r = h level.Star to in
    let s = k level.Seq (to + length (proc_tokens x level.Star) + 1) in
    (tree.Seq r.0 s.0, bare_of_seq r.0 s.0 ∙ (λ i. tree.Seq (r.1 i) (s.1 i)) ∙ sym (bare_of_seq x y), SpellsProc.sequence r.2 s.2)

star_at : (x y : Proc) → ProcPrinted x → ProcPrinted y → At level.Star (tree.Star x y) (proc_tokens x level.Star ++ Sign Star ∷ proc_tokens y level.Prim)
star_at x y h k to =
    let r = h level.Star to in
    let s = k level.Prim (to + length (proc_tokens x level.Star) + 1) in
    (tree.Star r.0 s.0, bare_of_star r.0 s.0 ∙ (λ i. tree.Star (r.1 i) (s.1 i)) ∙ sym (bare_of_star x y), SpellsProc.turns r.2 s.2)

-- a construct of level `Prim`, printed at a level
prim_at : (m : Level) (p : Proc) (ks : List TokenKind) → proc_tokens p m ≡ ks → At level.Prim p ks → At m p (proc_tokens p m)
prim_at m p ks e h to = let r = h to in (r.0, r.1, subst (SpellsProc m to r.0) (sym e) (from_prim m r.2))

infix_at : (own m : Level) (p : Proc) (ks : List TokenKind) → proc_tokens p m ≡ placed own m ks → At own p ks → At m p (proc_tokens p m)
infix_at own m p ks e h to = let r = placed_printed own m p ks h to in (r.0, r.1, subst (SpellsProc m to r.0) (sym e) r.2)

let_at : (vars : List Var) (x : Proc) → ((to : ℕ) → (others : List Var) × (map bare_var others ≡ map bare_var vars) × Parted SpellsVar to others (parted (map var_tokens vars))) → ProcPrinted x
    → At level.Prim (tree.Let vars x) (let_tokens (parted (map var_tokens vars)) (proc_tokens x level.Proc))
let_at vars x h k to =
    let r = h (to + 1) in
    let s = k level.Proc (to + length (parted (map var_tokens vars)) + 2) in
    (tree.Let r.0 s.0, bare_of_let r.0 s.0 ∙ (λ i. tree.Let (r.1 i) (s.1 i)) ∙ sym (bare_of_let vars x), SpellsProc.block r.2 s.2)

abbrev fi : List TokenKind
fi = Lower (codes "fi") ∷ []

if_at : (e : Ast) (x : Proc) → ExprPrinted e → ProcPrinted x → At level.Prim (tree.If e x None) (then_tokens (expr_tokens e) (proc_tokens x level.Proc) ++ fi)
if_at e x h k to =
    let r = h (to + 1) in
    let s = k level.Proc (to + length (expr_tokens e) + 2) in (
      tree.If r.0 s.0 None,
      bare_of_if r.0 s.0 None ∙ (λ i. tree.If (r.1 i) (s.1 i) None) ∙ sym (bare_of_if e x None),
      subst (SpellsProc level.Prim to (tree.If r.0 s.0 None)) (ap (λ ks. Lower (codes "if") ∷ ks) (sym (append_assoc (expr_tokens e) (Lower (codes "then") ∷ proc_tokens x level.Proc) fi)))
          (SpellsProc.test r.2 s.2),
    )

else_at : (e : Ast) (x y : Proc) → ExprPrinted e → ProcPrinted x → ProcPrinted y
    → At level.Prim (tree.If e x (Some y)) (then_tokens (expr_tokens e) (proc_tokens x level.Proc) ++ Lower (codes "else") ∷ (proc_tokens y level.Proc ++ fi))
else_at e x y h k l to =
    let r = h (to + 1) in
    let s = k level.Proc (to + length (expr_tokens e) + 2) in
    let t = l level.Proc (to + length (expr_tokens e) + length (proc_tokens x level.Proc) + 3) in (
      tree.If r.0 s.0 (Some t.0),
      bare_of_if r.0 s.0 (Some t.0) ∙ (λ i. tree.If (r.1 i) (s.1 i) (Some (t.1 i))) ∙ sym (bare_of_if e x (Some y)),
      subst (SpellsProc level.Prim to (tree.If r.0 s.0 (Some t.0)))
          (ap (λ ks. Lower (codes "if") ∷ ks) (sym (append_assoc (expr_tokens e) (Lower (codes "then") ∷ proc_tokens x level.Proc) (Lower (codes "else") ∷ (proc_tokens y level.Proc ++ fi)))))
          (SpellsProc.test_else r.2 s.2 t.2),
    )

atom_at : (a : AtomDef) {at : ℕ} {ks : List TokenKind} → SpellsAtom at a ks → ProcPrinted (tree.Atom a)
atom_at a d m = prim_at m (tree.Atom a) _ (tokens_of_atom a m) (λ to. let r = atom_printed d to in (tree.Atom r.0, bare_of_atom r.0 ∙ ap (λ b. tree.Atom b) r.1 ∙ sym (bare_of_atom a), SpellsProc.atom r.2))

call_at : (c : Call) {at : ℕ} {ks : List TokenKind} → SpellsCall at c ks → ProcPrinted (tree.Call c)
call_at c d m = prim_at m (tree.Call c) _ (tokens_of_call c m) (λ to. let r = call_printed _ c _ d to in (tree.Call r.0, bare_of_call r.0 ∙ ap (λ b. tree.Call b) r.1 ∙ sym (bare_of_call c), SpellsProc.call r.2))

pub proc_printed : {l : Level} {at : ℕ} {p : Proc} {ks : List TokenKind} → SpellsProc l at p ks → ProcPrinted p
proc_printed (SpellsProc.one_par d) m = proc_printed d m
proc_printed (SpellsProc.one_alt d) m = proc_printed d m
proc_printed (SpellsProc.one_seq d) m = proc_printed d m
proc_printed (SpellsProc.one_star d) m = proc_printed d m
proc_printed (SpellsProc.one_prim d) m = proc_printed d m
proc_printed (SpellsProc.parens d) m = proc_printed d m
proc_printed (SpellsProc.disrupt {x = x} {y = y} d e) m = infix_at level.Proc m (tree.Disrupt x y) _ (tokens_of_disrupt x y m) (disrupt_at x y (proc_printed d) (proc_printed e))
proc_printed (SpellsProc.par {x = x} {y = y} d e) m = infix_at level.Par m (tree.Par x y) _ (tokens_of_par x y m) (par_at x y (proc_printed d) (proc_printed e))
proc_printed (SpellsProc.choice {x = x} {y = y} d e) m = infix_at level.Alt m (tree.Alt x y) _ (tokens_of_alt x y m) (alt_at x y (proc_printed d) (proc_printed e))
proc_printed (SpellsProc.sequence {x = x} {y = y} d e) m = infix_at level.Seq m (tree.Seq x y) _ (tokens_of_seq x y m) (seq_at x y (proc_printed d) (proc_printed e))
proc_printed (SpellsProc.turns {x = x} {y = y} d e) m = infix_at level.Star m (tree.Star x y) _ (tokens_of_star x y m) (star_at x y (proc_printed d) (proc_printed e))
proc_printed (SpellsProc.atom {a = a} d) m = atom_at a d m
proc_printed (SpellsProc.call {c = c} d) m = call_at c d m
proc_printed (SpellsProc.block {vars = vars} {x = x} d e) m =
    prim_at m (tree.Let vars x) _ (tokens_of_let vars x m) (let_at vars x (parted_printed bare_var var_tokens SpellsVar var_printed d) (proc_printed e))
proc_printed (SpellsProc.test {e = e} {x = x} c d) m = prim_at m (tree.If e x None) _ (tokens_of_if e x None m) (if_at e x (expr_printed c) (proc_printed d))
proc_printed (SpellsProc.test_else {e = e} {x = x} {y = y} c d f) m = prim_at m (tree.If e x (Some y)) _ (tokens_of_if e x (Some y) m) (else_at e x y (expr_printed c) (proc_printed d) (proc_printed f))
