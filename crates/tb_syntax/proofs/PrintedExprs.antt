-- If a type or an expression has a spelling, its printed tokens spell it at each position, except for token positions.
use Rattle.std.proofs.Common.{◌≡◌, ℕ, ◌+◌, Bool, true, false, List, [], ◌∷◌, ◌++◌, length, map, refl, ap, sym, ◌∙◌, subst, codes}
use Rattle.tb_terms.specs.declared.sort.Sort.{Sort, out-Sort, roll-Sort, roll-out-Sort}
use Rattle.tb_terms.specs.declared.sort.Sort.TheVariants as sort
use Rattle.tb_terms.specs.declared.sort.Sort.TheVariants.{outs-Bool, outs-Int, outs-Str, outs-List, outs-Any, rolls-Any}
use Rattle.tb_terms.specs.declared.sort.Sort.TheOpen as layer
use Rattle.tb_lex.specs.declared.kind.TokenKind.{TokenKind}
use Rattle.tb_lex.specs.declared.kind.TokenKind.TheVariants.{Lower, Symbol as Sign}
use Rattle.tb_lex.specs.declared.symbol.Symbol.TheVariants.{Comma, Less, Greater}
use Rattle.tb_syntax.specs.declared.ast.Ast.{Ast}
use Rattle.tb_syntax.specs.declared.ast.AstKind.{AstKind}
use Rattle.tb_syntax.specs.declared.ast.AstKind.TheVariants as ast
use Rattle.tb_syntax.specs.Spelling.{word, in_parens, IsSortWord, SpellsSort, SpellsKind, SpellsExpr, SpellsArguments, SpellsExprs}
use Rattle.tb_syntax.specs.Words.{is_free}
use Rattle.tb_syntax.specs.Helpers.Canonical.{sort_tokens, list_tokens, is_any, hole_word, kind_tokens, expr_tokens, parted, optional}
use Rattle.tb_syntax.specs.Positions.{bare_kind, bare_expr}
use Rattle.tb_syntax.proofs.SortTokens.{tokens_of_bool, tokens_of_int, tokens_of_str, tokens_of_any, tokens_of_tool, tokens_of_list}
use Rattle.tb_syntax.proofs.KindTokens.{tokens_of_number, tokens_of_string, tokens_of_appl, tokens_of_var, tokens_of_result, tokens_of_hole}
use Rattle.tb_syntax.proofs.KindTokens as kinds
use Rattle.tb_syntax.proofs.BareKinds.{bare_appl, bare_list}

word_printed : {s : Sort} {name : List ℕ} → IsSortWord s name → sort_tokens s ≡ word name
word_printed IsSortWord.bool = tokens_of_bool
word_printed IsSortWord.int = tokens_of_int
word_printed IsSortWord.str = tokens_of_str
word_printed IsSortWord.list = tokens_of_list sort.Any ∙ ap (λ l. list_tokens (is_any l) (sort_tokens sort.Any)) outs-Any
word_printed IsSortWord.term = tokens_of_any

hole_printed : {s : Sort} {name : List ℕ} → IsSortWord s name → hole_word (out-Sort s) ≡ name
hole_printed IsSortWord.bool = ap hole_word outs-Bool
hole_printed IsSortWord.int = ap hole_word outs-Int
hole_printed IsSortWord.str = ap hole_word outs-Str
hole_printed IsSortWord.list = ap hole_word (outs-List sort.Any)
hole_printed IsSortWord.term = ap hole_word outs-Any

any_rolls : (l : layer.Sort-F Sort) → is_any l ≡ true → roll-Sort l ≡ sort.Any
any_rolls layer.Any e = rolls-Any
any_rolls layer.Bool e = absurd (cc)
any_rolls layer.Int e = absurd (cc)
any_rolls layer.Str e = absurd (cc)
any_rolls (layer.List s) e = absurd (cc)
any_rolls (layer.Tool name) e = absurd (cc)

is_any_sort : (s : Sort) → is_any (out-Sort s) ≡ true → s ≡ sort.Any
is_any_sort s e = sym (roll-out-Sort s) ∙ any_rolls (out-Sort s) e

abbrev SortPrinted : Sort → Type 0
SortPrinted s = (to : ℕ) → (inner : ℕ) × SpellsSort to s inner (sort_tokens s)

list_printed : (s : Sort) (b : Bool) → is_any (out-Sort s) ≡ b → SortPrinted s → (to : ℕ) → (inner : ℕ) × SpellsSort to (sort.List s) inner (list_tokens b (sort_tokens s))
list_printed s true e h to = (to, subst (λ m. SpellsSort to (sort.List m) to (word (codes "list"))) (sym (is_any_sort s e)) (SpellsSort.plain to IsSortWord.list))
list_printed s false e h to = let r = h (to + 2) in (r.0, SpellsSort.list_of r.1)

pub sort_printed : {at : ℕ} {s : Sort} {inner : ℕ} {ks : List TokenKind} → SpellsSort at s inner ks → SortPrinted s
sort_printed {s = s} (SpellsSort.plain at w) to = (to, subst (SpellsSort to s to) (sym (word_printed w)) (SpellsSort.plain to w))
sort_printed (SpellsSort.list_of {s = s} d) to =
    let r = list_printed s (is_any (out-Sort s)) refl (sort_printed d) to in
    (r.0, subst (SpellsSort to (sort.List s) r.0) (sym (tokens_of_list s)) r.1)
sort_printed (SpellsSort.tool at name free other) to = (to, subst (SpellsSort to (sort.Tool name) to) (sym (tokens_of_tool name)) (SpellsSort.tool to name free other))

-- The tokens that are printed for a list of at least one part.
parts_printed : {at : ℕ} {parts : List Ast} {ks : List TokenKind} → SpellsExprs at parts ks → (first : List TokenKind) → parted (first ∷ map expr_tokens parts) ≡ first ++ Sign Comma ∷ parted (map expr_tokens parts)
parts_printed (SpellsExprs.last d) first = refl
parts_printed (SpellsExprs.more d ds) first = refl

arguments_printed : {at : ℕ} {parts : List Ast} {ks : List TokenKind} → SpellsExprs at parts ks → optional (map expr_tokens parts) ≡ in_parens (parted (map expr_tokens parts))
arguments_printed (SpellsExprs.last d) = refl
arguments_printed (SpellsExprs.more d ds) = refl

abbrev KindPrinted : AstKind → Type 0
KindPrinted kind = (to : ℕ) → (other : AstKind) × (bare_kind other ≡ bare_kind kind) × SpellsKind to other (kind_tokens kind)

abbrev pub ExprPrinted : Ast → Type 0
ExprPrinted expr = (to : ℕ) → (other : Ast) × (bare_expr other ≡ bare_expr expr) × SpellsExpr to other (expr_tokens expr)

abbrev pub ArgumentsPrinted : List Ast → Type 0
ArgumentsPrinted parts = (to : ℕ) → (others : List Ast) × (map bare_expr others ≡ map bare_expr parts) × SpellsArguments to others (optional (map expr_tokens parts))

abbrev ExprsPrinted : List Ast → Type 0
ExprsPrinted parts = (to : ℕ) → (others : List Ast) × (map bare_expr others ≡ map bare_expr parts) × SpellsExprs to others (parted (map expr_tokens parts))

appl_printed : (name : List ℕ) (parts : List Ast) → is_free name ≡ true → ArgumentsPrinted parts → KindPrinted (ast.Appl name parts)
appl_printed name parts free h to =
    let r = h (to + 1) in (
      ast.Appl name r.0,
      bare_appl name r.0 ∙ ap (λ ps. ast.Appl name ps) r.1 ∙ sym (bare_appl name parts),
      subst (SpellsKind to (ast.Appl name r.0)) (sym (tokens_of_appl name parts)) (SpellsKind.appl name free r.2),
    )

list_expr_printed : (parts : List Ast) → ExprsPrinted parts → KindPrinted (ast.List parts)
list_expr_printed parts h to =
    let r = h (to + 1) in (
      ast.List r.0,
      bare_list r.0 ∙ ap (λ ps. ast.List ps) r.1 ∙ sym (bare_list parts),
      subst (SpellsKind to (ast.List r.0)) (sym (kinds.tokens_of_list parts)) (SpellsKind.list r.2),
    )

hole_expr_printed : (s : Sort) (name : List ℕ) → IsSortWord s name → KindPrinted (ast.Hole s)
hole_expr_printed s name w to = (
  ast.Hole s,
  refl,
  subst (SpellsKind to (ast.Hole s)) (ap (λ n. Sign Less ∷ Lower n ∷ Sign Greater ∷ []) (sym (hole_printed w)) ∙ sym (tokens_of_hole s)) (SpellsKind.hole to w),
)

more_printed : {at : ℕ} {parts : List Ast} {ks : List TokenKind} (part : Ast) → SpellsExprs at parts ks → ExprPrinted part → ExprsPrinted parts → ExprsPrinted (part ∷ parts)
more_printed {parts = parts} part ds h hs to =
    let r = h to in
    let rs = hs (to + length (expr_tokens part) + 1) in (
      r.0 ∷ rs.0,
      λ i. r.1 i ∷ rs.1 i,
      subst (SpellsExprs to (r.0 ∷ rs.0)) (sym (parts_printed ds (expr_tokens part))) (SpellsExprs.more r.2 rs.2),
    )

mutual
  kind_printed : {at : ℕ} {kind : AstKind} {ks : List TokenKind} → SpellsKind at kind ks → KindPrinted kind
  kind_printed (SpellsKind.numeral at n) to = (ast.Int n, refl, subst (SpellsKind to (ast.Int n)) (sym (tokens_of_number n)) (SpellsKind.numeral to n))
  kind_printed (SpellsKind.string at text) to = (ast.Str text, refl, subst (SpellsKind to (ast.Str text)) (sym (tokens_of_string text)) (SpellsKind.string to text))
  kind_printed (SpellsKind.appl {parts = parts} name free d) to = appl_printed name parts free (arguments_are_printed d) to
  kind_printed (SpellsKind.variable at name) to = (ast.Var name, refl, subst (SpellsKind to (ast.Var name)) (sym (tokens_of_var name)) (SpellsKind.variable to name))
  kind_printed (SpellsKind.result at name) to = (ast.Result name, refl, subst (SpellsKind to (ast.Result name)) (sym (tokens_of_result name)) (SpellsKind.result to name))
  kind_printed (SpellsKind.empty at) to = (ast.List [], refl, subst (SpellsKind to (ast.List [])) (sym (kinds.tokens_of_list [])) (SpellsKind.empty to))
  kind_printed (SpellsKind.list {parts = parts} d) to = list_expr_printed parts (exprs_are_printed d) to
  kind_printed (SpellsKind.hole {s = s} {name = name} at w) to = hole_expr_printed s name w to

  pub expr_printed : {at : ℕ} {expr : Ast} {ks : List TokenKind} → SpellsExpr at expr ks → ExprPrinted expr
  expr_printed (SpellsExpr.expr d) to = let r = kind_printed d to in (record { kind = r.0; token = to }, (λ i. record { kind = r.1 i; token = 0 }), SpellsExpr.expr r.2)

  pub arguments_are_printed : {at : ℕ} {parts : List Ast} {ks : List TokenKind} → SpellsArguments at parts ks → ArgumentsPrinted parts
  arguments_are_printed (SpellsArguments.none at) to = ([], refl, SpellsArguments.none to)
  arguments_are_printed (SpellsArguments.some d) to =
      let r = exprs_are_printed d (to + 1) in (r.0, r.1, subst (SpellsArguments to r.0) (sym (arguments_printed d)) (SpellsArguments.some r.2))

  exprs_are_printed : {at : ℕ} {parts : List Ast} {ks : List TokenKind} → SpellsExprs at parts ks → ExprsPrinted parts
  exprs_are_printed (SpellsExprs.last d) to = let r = expr_printed d to in (r.0 ∷ [], (λ i. r.1 i ∷ []), SpellsExprs.last r.2)
  exprs_are_printed (SpellsExprs.more {part = part} d ds) to = more_printed part ds (expr_printed d) (exprs_are_printed ds) to
