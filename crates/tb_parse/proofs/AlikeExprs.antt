-- Expressions and calls are read alike if tokens begin alike.
use Rattle.std.proofs.Common.{◌≡◌, ℕ, zero, suc, ◌+◌, ◌-◌, ◌≤◌, List, [], ◌∷◌, ◌++◌, length, Option, Some, None, refl, subst, arith, if◌then◌else◌}
use Rattle.tb_terms.specs.declared.sort.Sort.{Sort}
use Rattle.tb_lex.specs.declared.kind.TokenKind.{TokenKind}
use Rattle.tb_lex.specs.declared.kind.TokenKind.TheVariants.{Int, Str, Lower, Upper, Symbol as Sign}
use Rattle.tb_lex.specs.declared.symbol.Symbol.TheVariants.{LeftBracket, RightBracket, Question, Less, Greater}
use Rattle.tb_syntax.specs.declared.ast.Ast.{Ast}
use Rattle.tb_syntax.specs.declared.ast.AstKind.TheVariants as ast
use Rattle.tb_syntax.specs.Words.{is_free}
use Rattle.tb_parse.specs.Helpers.Parsing.{Parser, Found, begins, tail, is_sign, word_sort, hole, list, kind, expr, call_of, call}
use Rattle.tb_parse.proofs.Alike.{Alike, Same, if_alike, mapped_alike, after_alike, finding, branch, expected, roomless, by_token, next_alike, mapping, behind}
use Rattle.tb_parse.proofs.AlikeParts.{stops_there, found_there, upper_alike, parted_alike, in_parens_alike}

hole_by : (name : List ℕ) (o : Option Sort) → word_sort name ≡ o → (at : ℕ) (us vs ws : List TokenKind) → Alike at (at + 1 + length us) vs ws (hole at (Lower name ∷ (us ++ vs))) (hole at (Lower name ∷ (us ++ ws)))
unfolding hole
hole_by name None e at us vs ws = rw e (stops_there at us vs ws)
hole_by name (Some s) e at us vs ws = rw e (next_alike (length us) at us vs ws (omega arith) (expected (is_sign Greater) (ast.Hole s) (length us)))

hole_alike : (count : ℕ) → Same count hole hole
unfolding hole
hole_alike count = by_token count count (omega arith) (λ at. omega arith) by where
  by : (k : TokenKind) (at : ℕ) (us vs ws : List TokenKind) → length us ≤ count → Alike at (at + 1 + length us) vs ws (hole at (k ∷ (us ++ vs))) (hole at (k ∷ (us ++ ws)))
  by (Int n) at us vs ws h = stops_there at us vs ws
  by (Str bytes) at us vs ws h = stops_there at us vs ws
  by (Lower name) at us vs ws h = hole_by name (word_sort name) refl at us vs ws
  by (Upper name) at us vs ws h = stops_there at us vs ws
  by (Sign symbol) at us vs ws h = stops_there at us vs ws

-- an upper name, with its mark or without
upper_kind : (name : List ℕ) (at : ℕ) (us vs ws : List TokenKind) → (position : ℕ) → at + 1 + 1 ≡ position
    → Alike at (at + 1 + length us) vs ws (if begins (is_sign Question) (us ++ vs) then Found (ast.Result name) position (tail (us ++ vs)) else Found (ast.Var name) (at + 1) (us ++ vs))
    (if begins (is_sign Question) (us ++ ws) then Found (ast.Result name) position (tail (us ++ ws)) else Found (ast.Var name) (at + 1) (us ++ ws))
upper_kind name at us vs ws position e =
    subst (λ n. Alike at (at + 1 + length us) vs ws (if begins (is_sign Question) (us ++ vs) then Found (ast.Result name) n (tail (us ++ vs)) else Found (ast.Var name) (at + 1) (us ++ vs))
    (if begins (is_sign Question) (us ++ ws) then Found (ast.Result name) n (tail (us ++ ws)) else Found (ast.Var name) (at + 1) (us ++ ws))) e
    (next_alike (length us) at us vs ws (omega arith) (branch (is_sign Question) (λ at ks. Found (ast.Result name) at ks) (λ at ks. Found (ast.Result name) at ks) (length us) (length us) (omega arith)
    (finding (length us) (ast.Result name)) (finding (length us) (ast.Var name))))

module _ {item same : Parser Ast} (room more count : ℕ) (h : count ≤ room) (i : room ≤ more) (s : Same count item same) where
  list_alike : Same count (list item room) (list same more)
  unfolding list
  list_alike =
      branch (is_sign RightBracket) (λ at ks. Found (ast.List []) at ks) (λ at ks. Found (ast.List []) at ks) count count (omega arith) (finding count (ast.List []))
      (behind _ _ count (mapping count _ (parted_alike room more count h i s)) (λ k. expected (is_sign RightBracket) k count))

  kind_by : (k : TokenKind) (at : ℕ) (us vs ws : List TokenKind) → length us ≤ count → Alike at (at + 1 + length us) vs ws (kind item room at (k ∷ (us ++ vs))) (kind same more at (k ∷ (us ++ ws)))
  unfolding kind
  kind_by (Int n) at us vs ws j = found_there (ast.Int n) at us vs ws
  kind_by (Str bytes) at us vs ws j = found_there (ast.Str bytes) at us vs ws
  kind_by (Lower name) at us vs ws j = if_alike (is_free name) (next_alike count at us vs ws j (mapping count _ (in_parens_alike room more count h i s))) (stops_there at us vs ws)
  kind_by (Upper name) at us vs ws j = upper_kind name at us vs ws (at + 2) (omega arith)
  kind_by (Sign symbol) at us vs ws j =
      if_alike (is_sign LeftBracket (Sign symbol)) (next_alike count at us vs ws j list_alike)
      (if_alike (is_sign Less (Sign symbol)) (next_alike count at us vs ws j (hole_alike count)) (stops_there at us vs ws))

  kind_alike : Same (count + 1) (kind item room) (kind same more)
  unfolding kind
  kind_alike = by_token count (count + 1) (omega arith) (λ at. omega arith) kind_by

pub expr_alike : (room more count : ℕ) → count ≤ room → room ≤ more → Same count (expr room) (expr more)
unfolding expr
expr_alike zero more count h i = roomless (expr more) count h
expr_alike (suc room) zero count h i = absurd (omega arith)
expr_alike (suc room) (suc more) count h i = record {
  alike = λ at us vs ws j.
      mapped_alike _ ((kind_alike room more (count - 1) (omega arith) (omega arith) (expr_alike room more (count - 1) (omega arith) (omega arith))).alike at us vs ws (omega arith));
}

pub call_of_alike : (room more count : ℕ) → count ≤ room → room ≤ more → (name : List ℕ) (position : ℕ) → Same count (call_of room name position) (call_of more name position)
unfolding call_of
call_of_alike room more count h i name position = mapping count _ (in_parens_alike room more count h i (expr_alike room more count h i))

pub call_alike : (room more count : ℕ) → count ≤ room → room ≤ more → Same count (call room) (call more)
unfolding call
call_alike room more count h i = record {
  alike = λ at us vs ws j.
      after_alike _ _ count (omega arith) (λ name. call_of_alike room more count h i name at) ((upper_alike count).alike at us vs ws j);
}
