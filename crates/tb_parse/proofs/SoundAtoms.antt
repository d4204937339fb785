-- The tokens that are read as an atom with its time conditions, or as a variable, spell it.
use Rattle.std.proofs.Common.{◌≡◌, ℕ, zero, suc, ◌+◌, Bool, true, false, List, [], ◌∷◌, ◌++◌, length, if◌then◌else◌, refl, subst, arith, codes}
use Rattle.tb_lex.specs.declared.kind.TokenKind.{TokenKind}
use Rattle.tb_lex.specs.declared.kind.TokenKind.TheVariants.{Int, Str, Lower, Upper, Symbol as Sign}
use Rattle.tb_lex.specs.declared.symbol.Symbol.TheVariants.{LeftParen, RightParen, Comma, Colon}
use Rattle.tb_syntax.specs.declared.ast.Ast.{Ast}
use Rattle.tb_syntax.specs.declared.level.Level.TheVariants as level
use Rattle.tb_syntax.specs.declared.proc.ActDef.{ActDef}
use Rattle.tb_syntax.specs.declared.proc.ActDef.TheVariants as act
use Rattle.tb_syntax.specs.declared.proc.Call.{Call}
use Rattle.tb_syntax.specs.Spelling.{InRow, SpellsExpr, SpellsCall, SpellsAct, SpellsTime, SpellsVar, SpellsProc}
use Rattle.tb_syntax.specs.AtomWords.{is_time_word}
use Rattle.tb_parse.specs.Helpers.Parsing.{Found, after, mapped, expect, skip, is_sign, expr, call, create, sort, time, times, timed, var}
use Rattle.tb_parse.proofs.Fits.{Fits, found, stops, token, behind, mapping, skip_sign, expect_sign}
use Rattle.tb_parse.proofs.SoundLists.{Sound}
use Rattle.tb_parse.proofs.SoundSorts.{upper_sound, sort_sound, at_sort}
use Rattle.tb_parse.proofs.SoundExprs.{expr_sound, call_sound}

pub at_expr : {at to : ℕ} {x : Ast} {ks : List TokenKind} → at ≡ to → SpellsExpr at x ks → SpellsExpr to x ks
at_expr {x = x} {ks = ks} e d = subst (λ n. SpellsExpr n x ks) e d

at_call : {at to : ℕ} {c : Call} {ks : List TokenKind} → at ≡ to → SpellsCall at c ks → SpellsCall to c ks
at_call {c = c} {ks = ks} e d = subst (λ n. SpellsCall n c ks) e d

-- after the word
pub create_sound : (room position : ℕ) (ks : List TokenKind) → Fits (λ a ns. SpellsAct position a (Lower (codes "create") ∷ ns)) (position + 1) ks (create room (position + 1) ks)
unfolding create
create_sound room position ks =
    skip_sign LeftParen (λ at ks. after (call room at ks) (λ made. skip (is_sign Comma) (λ at ks. after (expr room at ks) (λ variable. expect (is_sign RightParen) (act.Create made variable)))))
    (λ rest. behind _ (call_sound room (position + 1 + 1) rest) (λ c cs rest d.
    skip_sign Comma (λ at ks. after (expr room at ks) (λ variable. expect (is_sign RightParen) (act.Create c variable))) (λ rest. behind _ (expr_sound room (position + 1 + 1 + length cs + 1) rest) (λ v vs rest e.
    expect_sign RightParen _ (SpellsAct.create (at_call (omega arith) d) (at_expr (omega arith) e))))))

time_sound : (room at : ℕ) (name : List ℕ) (ks : List TokenKind) → is_time_word name ≡ true → Fits (SpellsTime at) at (Lower name ∷ ks) (time room at (Lower name ∷ ks))
unfolding time
time_sound room at name ks w =
    token (skip_sign LeftParen (λ behind rest. after (expr room behind rest) (λ value. expect (is_sign RightParen) (record { name = name; value = value; token = at }))) (λ rest. behind _ (expr_sound room (at + 1 + 1) rest) (λ v vs rest d.
    expect_sign RightParen _ (record { position = refl; is_word = w; value = vs; is_value = at_expr (omega arith) d; is = refl }))))

times_by : (inner room at : ℕ) (name : List ℕ) (ks : List TokenKind) → Sound (InRow SpellsTime) (times inner room) → (b : Bool) → is_time_word name ≡ b
    → Fits (InRow SpellsTime at) at (Lower name ∷ ks) (if b then after (time inner at (Lower name ∷ ks)) (λ first at ks. mapped (λ rest. first ∷ rest) (times inner room at ks)) else Found [] at (Lower name ∷ ks))
times_by inner room at name ks h true e = behind _ (time_sound inner at name ks e) (λ t ts rest d. mapping _ (h (at + length ts) rest) (λ xs ns ds. InRow.more d ds))
times_by inner room at name ks h false e = found (InRow.none at)

pub times_sound : (inner room : ℕ) → Sound (InRow SpellsTime) (times inner room)
unfolding times
times_sound inner zero at ks = stops ([], [], InRow.none at)
times_sound inner (suc room) at [] = found (InRow.none at)
times_sound inner (suc room) at (Int n ∷ ks) = found (InRow.none at)
times_sound inner (suc room) at (Str text ∷ ks) = found (InRow.none at)
times_sound inner (suc room) at (Upper name ∷ ks) = found (InRow.none at)
times_sound inner (suc room) at (Sign symbol ∷ ks) = found (InRow.none at)
times_sound inner (suc room) at (Lower name ∷ ks) = times_by inner room at name ks (times_sound inner room) (is_time_word name) refl

-- after the action of an atom
pub timed_sound : (room position : ℕ) (what : ActDef) (bs : List TokenKind) → SpellsAct position what bs → (at : ℕ) → at ≡ position + length bs → (ks : List TokenKind)
    → Fits (λ p ns. SpellsProc level.Prim position p (bs ++ ns)) at ks (timed room position what at ks)
unfolding timed
timed_sound room position what bs a at e ks = mapping _ (times_sound room room at ks) (λ ts ns d.
    SpellsProc.atom (record { position = refl; act = bs; is_act = a; times = ns; are_times = subst (λ n. InRow SpellsTime n ts ns) e d; is = refl }))

pub var_sound : (room : ℕ) → Sound SpellsVar (var room)
unfolding var
var_sound room at ks = behind _ (upper_sound at ks) (λ name xs rest f. rw f
    (skip_sign Colon (λ behind rest. mapped (λ found. record { name = name; sort = found.0; token = at; sort_token = found.1 }) (sort room behind rest)) (λ rest. mapping _ (sort_sound room (at + 1 + 1) rest) (λ s ns d. record { position = refl; sort = ns; is_sort = at_sort (omega arith) d; is = refl }))))
