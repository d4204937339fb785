-- The tokens that are read as an expression spell it.
use Rattle.std.proofs.Common.{◌≡◌, ℕ, zero, suc, ◌+◌, Bool, true, false, List, [], ◌∷◌, ◌++◌, Option, Some, None, if◌then◌else◌, refl, subst, arith, codes}
use Rattle.tb_terms.specs.declared.sort.Sort.{Sort}
use Rattle.tb_terms.specs.declared.sort.Sort.TheVariants as sorts
use Rattle.tb_lex.specs.declared.kind.TokenKind.{TokenKind}
use Rattle.tb_lex.specs.declared.kind.TokenKind.TheVariants.{Int, Str, Lower, Upper, Symbol as Sign}
use Rattle.tb_lex.specs.declared.symbol.Symbol.{Symbol}
use Rattle.tb_lex.specs.declared.symbol.Symbol.TheVariants.{LeftBracket, RightBracket, Question, Less, Greater}
use Rattle.tb_syntax.specs.declared.ast.Ast.{Ast}
use Rattle.tb_syntax.specs.declared.ast.AstKind.{AstKind}
use Rattle.tb_syntax.specs.declared.ast.AstKind.TheVariants as ast
use Rattle.tb_syntax.specs.Spelling.{Parted, InParens, IsSortWord, SpellsKind, SpellsExpr, SpellsArguments, SpellsExprs, SpellsCall}
use Rattle.tb_syntax.specs.Words.{is_free}
use Rattle.tb_parse.specs.Helpers.Parsing.{Parser, Found, Stops, mapped, begins, tail, is_sign, in_parens, word_sort, hole, list, kind, expr, call_of, call}
use Rattle.tb_parse.proofs.Signs.{is_that_sign}
use Rattle.tb_parse.proofs.Fits.{Fits, Opens, found, stops, token, behind, mapping, weaker, with_sign, expect_sign}
use Rattle.tb_parse.proofs.SoundLists.{Sound, parted_sound, in_parens_sound}
use Rattle.tb_parse.proofs.SoundSorts.{upper_sound, NamedAs, word_sort_named}

exprs_of : {at : ℕ} {xs : List Ast} {ks : List TokenKind} → Parted SpellsExpr at xs ks → SpellsExprs at xs ks
exprs_of (Parted.last d) = SpellsExprs.last d
exprs_of (Parted.more d ds) = SpellsExprs.more d (exprs_of ds)

arguments_of : {at : ℕ} {xs : List Ast} {ks : List TokenKind} → InParens SpellsExpr at xs ks → SpellsArguments at xs ks
arguments_of (InParens.none at) = SpellsArguments.none at
arguments_of (InParens.some ds) = SpellsArguments.some (exprs_of ds)

-- Placeholders.

abbrev NamedHole : ℕ → AstKind → List TokenKind → Type 0
NamedHole at k ks = SpellsKind at k (Sign Less ∷ (ks ++ Sign Greater ∷ []))

-- a placeholder can be there
no_hole : (at : ℕ) → Opens (λ k ns. SpellsKind at k (Sign Less ∷ ns)) []
no_hole at = (Lower (codes "int") ∷ Sign Greater ∷ [], ast.Hole sorts.Int, SpellsKind.hole at IsSortWord.int)

hole_by : (at : ℕ) (name : List ℕ) (ks : List TokenKind) (o : Option Sort) → word_sort name ≡ o → NamedAs name o → Fits (λ k ns. SpellsKind at k (Sign Less ∷ ns)) (at + 1) (Lower name ∷ ks) (hole (at + 1) (Lower name ∷ ks))
unfolding hole
hole_by at name ks None e n = rw e (stops (no_hole at))
hole_by at name ks (Some s) e w = rw e (token (expect_sign Greater (ast.Hole s) (SpellsKind.hole at w)))

pub hole_sound : (at : ℕ) (ks : List TokenKind) → Fits (λ k ns. SpellsKind at k (Sign Less ∷ ns)) (at + 1) ks (hole (at + 1) ks)
unfolding hole
hole_sound at [] = stops (no_hole at)
hole_sound at (Int n ∷ ks) = stops (no_hole at)
hole_sound at (Str text ∷ ks) = stops (no_hole at)
hole_sound at (Upper name ∷ ks) = stops (no_hole at)
hole_sound at (Sign symbol ∷ ks) = stops (no_hole at)
hole_sound at (Lower name ∷ ks) = hole_by at name ks (word_sort name) refl (word_sort_named name)

-- Expressions.

-- a variable can be there
no_kind : (at : ℕ) → Opens (SpellsKind at) []
no_kind at = (Upper (codes "A") ∷ [], ast.Var (codes "A"), SpellsKind.variable at (codes "A"))

list_sound : (item : Parser Ast) → Sound SpellsExpr item → (room at : ℕ) (ks : List TokenKind) → Fits (λ k ns. SpellsKind at k (Sign LeftBracket ∷ ns)) (at + 1) ks (list item room (at + 1) ks)
unfolding list
list_sound item h room at ks =
    with_sign RightBracket (λ at ks. Found (ast.List []) at ks) (λ rest. found (SpellsKind.empty at))
    (behind _ (mapping {T = λ k ns. SpellsKind at k (Sign LeftBracket ∷ (ns ++ Sign RightBracket ∷ []))} _ (parted_sound SpellsExpr item h room (at + 1) ks) (λ xs ns d. SpellsKind.list (exprs_of d)))
    (λ k ns rest d. expect_sign RightBracket k d))

appl_sound : (item : Parser Ast) → Sound SpellsExpr item → (room at : ℕ) (name : List ℕ) (ks : List TokenKind) (b : Bool) → is_free name ≡ b
    → Fits (SpellsKind at) at (Lower name ∷ ks) (if b then mapped (λ parts. ast.Appl name parts) (in_parens item room (at + 1) ks) else Stops at)
appl_sound item h room at name ks true e = token (mapping _ (in_parens_sound SpellsExpr item h room (at + 1) ks) (λ xs ns d. SpellsKind.appl name e (arguments_of d)))
appl_sound item h room at name ks false e = stops (no_kind at)

upper_kind_sound : (at : ℕ) (name : List ℕ) (ks : List TokenKind) → Fits (SpellsKind at) at (Upper name ∷ ks) (if begins (is_sign Question) ks then Found (ast.Result name) (at + 2) (tail ks) else Found (ast.Var name) (at + 1) ks)
upper_kind_sound at name ks = token (by (at + 2) (omega arith)) where
  by : (end : ℕ) → at + 1 + 1 ≡ end → Fits (λ k ns. SpellsKind at k (Upper name ∷ ns)) (at + 1) ks (if begins (is_sign Question) ks then Found (ast.Result name) end (tail ks) else Found (ast.Var name) (at + 1) ks)
  by end e =
      subst (λ n. Fits (λ k ns. SpellsKind at k (Upper name ∷ ns)) (at + 1) ks (if begins (is_sign Question) ks then Found (ast.Result name) n (tail ks) else Found (ast.Var name) (at + 1) ks)) e
      (with_sign Question (λ at ks. Found (ast.Result name) at ks) (λ rest. found (SpellsKind.result at name)) (found (SpellsKind.variable at name)))

sign_kind_sound : (item : Parser Ast) → Sound SpellsExpr item → (room at : ℕ) (symbol : Symbol) (ks : List TokenKind) (b c : Bool) → is_sign LeftBracket (Sign symbol) ≡ b → is_sign Less (Sign symbol) ≡ c
    → Fits (SpellsKind at) at (Sign symbol ∷ ks) (if b then list item room (at + 1) ks else (if c then hole (at + 1) ks else Stops at))
sign_kind_sound item h room at symbol ks true c e f = token (rw (is_that_sign LeftBracket (Sign symbol) e) (list_sound item h room at ks))
sign_kind_sound item h room at symbol ks false true e f = token (rw (is_that_sign Less (Sign symbol) f) (hole_sound at ks))
sign_kind_sound item h room at symbol ks false false e f = stops (no_kind at)

kind_sound : (item : Parser Ast) → Sound SpellsExpr item → (room : ℕ) → Sound SpellsKind (kind item room)
unfolding kind
kind_sound item h room at [] = stops (no_kind at)
kind_sound item h room at (Int n ∷ ks) = token (found (SpellsKind.numeral at n))
kind_sound item h room at (Str text ∷ ks) = token (found (SpellsKind.string at text))
kind_sound item h room at (Lower name ∷ ks) = appl_sound item h room at name ks (is_free name) refl
kind_sound item h room at (Upper name ∷ ks) = upper_kind_sound at name ks
kind_sound item h room at (Sign symbol ∷ ks) = sign_kind_sound item h room at symbol ks (is_sign LeftBracket (Sign symbol)) (is_sign Less (Sign symbol)) refl refl

pub expr_sound : (room : ℕ) → Sound SpellsExpr (expr room)
unfolding expr
expr_sound zero at ks = let least = no_kind at in stops (least.0, record { kind = least.1; token = at }, SpellsExpr.expr least.2)
expr_sound (suc room) at ks = mapping _ (kind_sound (expr room) (expr_sound room) room at ks) (λ k ns d. SpellsExpr.expr d)

pub arguments_sound : (room : ℕ) → Sound SpellsArguments (in_parens (expr room) room)
arguments_sound room at ks = weaker (in_parens_sound SpellsExpr (expr room) (expr_sound room) room at ks) (λ xs ns d. arguments_of d)

-- Calls.

call_made : (at : ℕ) (name : List ℕ) (actuals : List Ast) (ks : List TokenKind) → SpellsArguments (at + 1) actuals ks → SpellsCall at (record { name = name; actuals = actuals; token = at }) (Upper name ∷ ks)
call_made at name actuals ks d = record { position = refl; actuals = ks; are_actuals = d; is = refl }

-- after the name
pub call_of_sound : (room at : ℕ) (name : List ℕ) (ks : List TokenKind) → Fits (λ c ns. SpellsCall at c (Upper name ∷ ns)) (at + 1) ks (call_of room name at (at + 1) ks)
unfolding call_of
call_of_sound room at name ks = mapping _ (arguments_sound room (at + 1) ks) (λ xs ns d. call_made at name xs ns d)

pub call_sound : (room : ℕ) → Sound SpellsCall (call room)
unfolding call
call_sound room at ks = behind _ (upper_sound at ks) (λ name xs rest f. rw f (call_of_sound room at name rest))
