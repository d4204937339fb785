-- The parser reads each spelling of an expression or of a call as this construct.
use Rattle.std.proofs.Common.{◌≡◌, ℕ, zero, suc, ◌+◌, ◌≤◌, Bool, true, false, List, [], ◌∷◌, ◌++◌, length, refl, ap, sym, ◌∙◌, subst, arith, append_assoc}
use Rattle.std.proofs.lemmas.List.{length-append}
use Rattle.tb_lex.specs.declared.kind.TokenKind.{TokenKind}
use Rattle.tb_lex.specs.declared.kind.TokenKind.TheVariants.{Lower, Upper, Symbol as Sign}
use Rattle.tb_lex.specs.declared.symbol.Symbol.TheVariants.{LeftParen, LeftBracket, RightBracket, Comma, Question}
use Rattle.tb_syntax.specs.declared.ast.Ast.{Ast}
use Rattle.tb_syntax.specs.declared.ast.AstKind.{AstKind}
use Rattle.tb_syntax.specs.declared.ast.AstKind.TheVariants as ast
use Rattle.tb_syntax.specs.declared.proc.Call.{Call}
use Rattle.tb_syntax.specs.Spelling.{Parted, InParens, SpellsKind, SpellsExpr, SpellsArguments, SpellsExprs, SpellsCall}
use Rattle.tb_syntax.specs.Words.{is_free}
use Rattle.tb_parse.specs.Helpers.Parsing.{Parser, Found, mapped, begins, is_sign, expect, in_parens, parted, list, kind, expr, call_of, call}
use Rattle.tb_parse.proofs.ReadParts.{either, neither, arrives, read, read_mapped, ReadsIn, Reads, parted_reads, in_parens_reads}
use Rattle.tb_parse.proofs.ReadSorts.{hole_reads}

-- the tokens that can continue an expression
abbrev pub on_expr : TokenKind → Bool
on_expr = either (is_sign LeftParen) (is_sign Question)

kind_some : {at : ℕ} {kind : AstKind} {ks : List TokenKind} → SpellsKind at kind ks → 1 ≤ length ks
kind_some (SpellsKind.numeral at n) = omega arith
kind_some (SpellsKind.string at text) = omega arith
kind_some (SpellsKind.appl name free d) = omega arith
kind_some (SpellsKind.variable at name) = omega arith
kind_some (SpellsKind.result at name) = omega arith
kind_some (SpellsKind.empty at) = omega arith
kind_some (SpellsKind.list d) = omega arith
kind_some (SpellsKind.hole at w) = omega arith

-- no expression begins with the bracket that closes a list
kind_opens : {at : ℕ} {kind : AstKind} {ks : List TokenKind} → SpellsKind at kind ks → (more : List TokenKind) → begins (is_sign RightBracket) (ks ++ more) ≡ false
kind_opens (SpellsKind.numeral at n) more = refl
kind_opens (SpellsKind.string at text) more = refl
kind_opens (SpellsKind.appl name free d) more = refl
kind_opens (SpellsKind.variable at name) more = refl
kind_opens (SpellsKind.result at name) more = refl
kind_opens (SpellsKind.empty at) more = refl
kind_opens (SpellsKind.list d) more = refl
kind_opens (SpellsKind.hole at w) more = refl

expr_opens : {at : ℕ} {x : Ast} {ks : List TokenKind} → SpellsExpr at x ks → (more : List TokenKind) → begins (is_sign RightBracket) (ks ++ more) ≡ false
expr_opens (SpellsExpr.expr d) more = kind_opens d more

exprs_open : {at : ℕ} {xs : List Ast} {ks : List TokenKind} → SpellsExprs at xs ks → (more : List TokenKind) → begins (is_sign RightBracket) (ks ++ more) ≡ false
exprs_open (SpellsExprs.last d) more = expr_opens d more
exprs_open (SpellsExprs.more {ks = ks} {rest = rest} d ds) more = ap (begins (is_sign RightBracket)) (append_assoc ks (Sign Comma ∷ rest) more) ∙ expr_opens d (Sign Comma ∷ (rest ++ more))

abbrev ReadsExpr : ℕ → Ast → List TokenKind → Type 0
ReadsExpr = Reads expr on_expr

abbrev KindReads : ℕ → AstKind → List TokenKind → Type 0
KindReads at k ks = (room : ℕ) → length ks ≤ suc room → (more : List TokenKind) → begins on_expr more ≡ false → kind (expr room) room at (ks ++ more) ≡ Found k (at + length ks) more

expr_by : (at : ℕ) (k : AstKind) (ks : List TokenKind) → 1 ≤ length ks → KindReads at k ks → ReadsIn expr on_expr at (record { kind = k; token = at }) ks
unfolding expr
expr_by at k ks s h zero fits more e = absurd (omega arith)
expr_by at k ks s h (suc room) fits more e = ap (λ o. mapped (λ (found : AstKind). record { kind = found; token = at }) o) (h room fits more e)

parts_read : {at : ℕ} {parts : List Ast} {ks : List TokenKind} → InParens ReadsExpr at parts ks → (room : ℕ) → length ks ≤ room → (more : List TokenKind) → begins (is_sign LeftParen) more ≡ false
    → in_parens (expr room) room at (ks ++ more) ≡ Found parts (at + length ks) more
parts_read d room h more e = in_parens_reads expr on_expr refl refl d room room h h more e

appl_reads : (at : ℕ) (name : List ℕ) (parts : List Ast) (ks : List TokenKind) → is_free name ≡ true → InParens ReadsExpr (at + 1) parts ks → KindReads at (ast.Appl name parts) (Lower name ∷ ks)
unfolding kind
appl_reads at name parts ks free d room h more e =
    rw free (read_mapped (in_parens (expr room) room) (λ parts. ast.Appl name parts) ks more refl (parts_read d room (omega arith) more (neither (is_sign LeftParen) (is_sign Question) more e).0) (omega arith))

list_reads : (at : ℕ) (parts : List Ast) (ks : List TokenKind) → ((more : List TokenKind) → begins (is_sign RightBracket) (ks ++ more) ≡ false) → Parted ReadsExpr (at + 1) parts ks
    → KindReads at (ast.List parts) (Sign LeftBracket ∷ (ks ++ Sign RightBracket ∷ []))
unfolding kind list
list_reads at parts ks starts d room h more e =
    let sum = length-append ks (Sign RightBracket ∷ []) in
    let opens : begins (is_sign RightBracket) ((ks ++ Sign RightBracket ∷ []) ++ more) ≡ false = ap (begins (is_sign RightBracket)) (append_assoc ks (Sign RightBracket ∷ []) more) ∙ starts (Sign RightBracket ∷ more) in
    let p : Parser AstKind = λ at ks. mapped (λ parts. ast.List parts) (parted (expr room) room at ks) in
    rw opens (read p (expect (is_sign RightBracket)) ks (Sign RightBracket ∷ []) more refl
    (ap (λ o. mapped (λ parts. ast.List parts) o) (parted_reads expr on_expr refl d room room (omega arith) (omega arith) (Sign RightBracket ∷ more) refl refl)) (arrives (omega arith)))

mutual
  unfolding kind list

  kind_reads : {at : ℕ} {k : AstKind} {ks : List TokenKind} → SpellsKind at k ks → KindReads at k ks
  kind_reads (SpellsKind.numeral at n) room h more e = refl
  kind_reads (SpellsKind.string at text) room h more e = refl
  kind_reads (SpellsKind.appl {at = at} {parts = parts} {ks = ks} name free d) room h more e = appl_reads at name parts ks free (arguments_read d) room h more e
  kind_reads (SpellsKind.variable at name) room h more e = rw (neither (is_sign LeftParen) (is_sign Question) more e).1 refl
  kind_reads (SpellsKind.result at name) room h more e = refl
  kind_reads (SpellsKind.empty at) room h more e = arrives (omega arith)
  kind_reads (SpellsKind.list {at = at} {parts = parts} {ks = ks} d) room h more e = list_reads at parts ks (exprs_open d) (exprs_read d) room h more e
  kind_reads (SpellsKind.hole at w) room h more e = hole_reads w (at + 1) more ∙ arrives (omega arith)

  pub expr_reads : {at : ℕ} {x : Ast} {ks : List TokenKind} → SpellsExpr at x ks → Reads expr on_expr at x ks
  expr_reads (SpellsExpr.expr {at = at} {kind = k} {ks = ks} d) = record { some = kind_some d; reads = expr_by at k ks (kind_some d) (kind_reads d) }

  pub arguments_read : {at : ℕ} {xs : List Ast} {ks : List TokenKind} → SpellsArguments at xs ks → InParens (Reads expr on_expr) at xs ks
  arguments_read (SpellsArguments.none at) = InParens.none at
  arguments_read (SpellsArguments.some ds) = InParens.some (exprs_read ds)

  exprs_read : {at : ℕ} {xs : List Ast} {ks : List TokenKind} → SpellsExprs at xs ks → Parted (Reads expr on_expr) at xs ks
  exprs_read (SpellsExprs.last d) = Parted.last (expr_reads d)
  exprs_read (SpellsExprs.more d ds) = Parted.more (expr_reads d) (exprs_read ds)

-- the arguments of a name
pub actuals_read : {at : ℕ} {parts : List Ast} {ks : List TokenKind} → SpellsArguments at parts ks → (room : ℕ) → length ks ≤ room → (more : List TokenKind) → begins (is_sign LeftParen) more ≡ false
    → in_parens (expr room) room at (ks ++ more) ≡ Found parts (at + length ks) more
actuals_read d room h more e = parts_read (arguments_read d) room h more e

-- Calls.

-- after the name
pub call_of_reads : (c : Call) (at : ℕ) (ks : List TokenKind) → c.token ≡ at → SpellsArguments (at + 1) c.actuals ks → (room : ℕ) → length ks ≤ room → (more : List TokenKind) → begins (is_sign LeftParen) more ≡ false
    → call_of room c.name at (at + 1) (ks ++ more) ≡ Found c (at + length (Upper c.name ∷ ks)) more
unfolding call_of
call_of_reads c at ks position d room h more e =
    let made : List Ast → Call = λ actuals. record { name = c.name; actuals = actuals; token = at } in
    let same : made c.actuals ≡ c = ap (λ n. record { name = c.name; actuals = c.actuals; token = n }) (sym position) in
    read_mapped (in_parens (expr room) room) made ks more refl (actuals_read d room h more e) (omega arith) ∙ ap (λ c'. Found c' (at + length (Upper c.name ∷ ks)) more) same

pub call_reads : {at : ℕ} {c : Call} {ks : List TokenKind} → SpellsCall at c ks → Reads call (is_sign LeftParen) at c ks
unfolding call
call_reads {at = at} {c = c} d = subst (Reads call (is_sign LeftParen) at c) (sym d.is) (record {
  some = omega arith;
  reads = λ room h more e. call_of_reads c at d.actuals d.position d.are_actuals room (omega arith) more e;
})
