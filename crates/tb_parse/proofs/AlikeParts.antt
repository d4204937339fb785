-- Names, lists, and types are read alike if tokens begin alike.
use Rattle.std.proofs.Common.{ℕ, zero, suc, ◌+◌, ◌-◌, ◌≤◌, Bool, true, false, List, [], ◌∷◌, ◌++◌, length, refl, arith, codes, if◌then◌else◌}
use Rattle.std.specs.Str.{bytes_eq}
use Rattle.tb_terms.specs.declared.sort.Sort.{Sort}
use Rattle.tb_terms.specs.declared.sort.Sort.TheVariants as sorts
use Rattle.tb_lex.specs.declared.kind.TokenKind.{TokenKind}
use Rattle.tb_lex.specs.declared.kind.TokenKind.TheVariants.{Int, Str, Lower, Upper, Symbol as Sign}
use Rattle.tb_lex.specs.declared.symbol.Symbol.TheVariants.{LeftParen, RightParen, Comma}
use Rattle.tb_syntax.specs.Words.{is_free}
use Rattle.tb_parse.specs.Helpers.Parsing.{Parser, Found, Stops, after, mapped, begins, tail, is_sign, expect, upper, lower, text, free_name, parted, in_parens, word_sort, named_sort, sort}
use Rattle.tb_parse.proofs.Alike.{Alike, Same, fewer, if_alike, branch_alike, after_alike, finding, branch, expected, roomless, by_token, mapping, behind}

-- One token.

pub stops_there : {A : Type 0} (at : ℕ) (us vs ws : List TokenKind) → Alike {A = A} at (at + 1 + length us) vs ws (Stops at) (Stops at)
stops_there at us vs ws = Alike.stops (omega arith)

pub found_there : {A : Type 0} (x : A) (at : ℕ) (us vs ws : List TokenKind) → Alike at (at + 1 + length us) vs ws (Found x (at + 1) (us ++ vs)) (Found x (at + 1) (us ++ ws))
found_there x at us vs ws = Alike.found us (omega arith) refl

pub upper_alike : (count : ℕ) → Same count upper upper
upper_alike count = by_token count count (omega arith) (λ at. omega arith) by where
  by : (k : TokenKind) (at : ℕ) (us vs ws : List TokenKind) → length us ≤ count → Alike at (at + 1 + length us) vs ws (upper at (k ∷ (us ++ vs))) (upper at (k ∷ (us ++ ws)))
  by (Int n) at us vs ws h = stops_there at us vs ws
  by (Str bytes) at us vs ws h = stops_there at us vs ws
  by (Lower name) at us vs ws h = stops_there at us vs ws
  by (Upper name) at us vs ws h = found_there name at us vs ws
  by (Sign symbol) at us vs ws h = stops_there at us vs ws

pub lower_alike : (count : ℕ) → Same count lower lower
lower_alike count = by_token count count (omega arith) (λ at. omega arith) by where
  by : (k : TokenKind) (at : ℕ) (us vs ws : List TokenKind) → length us ≤ count → Alike at (at + 1 + length us) vs ws (lower at (k ∷ (us ++ vs))) (lower at (k ∷ (us ++ ws)))
  by (Int n) at us vs ws h = stops_there at us vs ws
  by (Str bytes) at us vs ws h = stops_there at us vs ws
  by (Lower name) at us vs ws h = found_there name at us vs ws
  by (Upper name) at us vs ws h = stops_there at us vs ws
  by (Sign symbol) at us vs ws h = stops_there at us vs ws

pub text_alike : (count : ℕ) → Same count text text
text_alike count = by_token count count (omega arith) (λ at. omega arith) by where
  by : (k : TokenKind) (at : ℕ) (us vs ws : List TokenKind) → length us ≤ count → Alike at (at + 1 + length us) vs ws (text at (k ∷ (us ++ vs))) (text at (k ∷ (us ++ ws)))
  by (Int n) at us vs ws h = stops_there at us vs ws
  by (Str bytes) at us vs ws h = found_there bytes at us vs ws
  by (Lower name) at us vs ws h = stops_there at us vs ws
  by (Upper name) at us vs ws h = stops_there at us vs ws
  by (Sign symbol) at us vs ws h = stops_there at us vs ws

pub free_name_alike : (count : ℕ) → Same count free_name free_name
unfolding free_name
free_name_alike count = by_token count count (omega arith) (λ at. omega arith) by where
  by : (k : TokenKind) (at : ℕ) (us vs ws : List TokenKind) → length us ≤ count → Alike at (at + 1 + length us) vs ws (free_name at (k ∷ (us ++ vs))) (free_name at (k ∷ (us ++ ws)))
  by (Int n) at us vs ws h = stops_there at us vs ws
  by (Str bytes) at us vs ws h = stops_there at us vs ws
  by (Lower name) at us vs ws h = if_alike (is_free name) (found_there name at us vs ws) (stops_there at us vs ws)
  by (Upper name) at us vs ws h = stops_there at us vs ws
  by (Sign symbol) at us vs ws h = stops_there at us vs ws

-- Lists.

pub parted_alike : {A : Type 0} {item same : Parser A} (room more count : ℕ) → count ≤ room → room ≤ more → Same count item same → Same count (parted item room) (parted same more)
unfolding parted
parted_alike {same = same} zero more count h i s = roomless (parted same more) count h
parted_alike (suc room) zero count h i s = absurd (omega arith)
parted_alike {item = item} {same = same} (suc room) (suc more) count h i s = behind _ _ count s (λ x.
    branch (is_sign Comma) (λ at ks. mapped (λ xs. x ∷ xs) (parted item room at ks)) (λ at ks. mapped (λ xs. x ∷ xs) (parted same more at ks)) (count - 1) count (omega arith)
    (mapping (count - 1) _ (parted_alike room more (count - 1) (omega arith) (omega arith) (fewer (count - 1) (omega arith) s)))
    (finding count (x ∷ [])))

pub in_parens_alike : {A : Type 0} {item same : Parser A} (room more count : ℕ) → count ≤ room → room ≤ more → Same count item same → Same count (in_parens item room) (in_parens same more)
unfolding in_parens
in_parens_alike {item = item} {same = same} room more count h i s =
    branch (is_sign LeftParen) (λ at ks. after (parted item room at ks) (expect (is_sign RightParen))) (λ at ks. after (parted same more at ks) (expect (is_sign RightParen))) count count (omega arith)
    (behind _ _ count (parted_alike room more count h i s) (λ xs. expected (is_sign RightParen) xs count))
    (finding count [])

-- Types.

inside : Parser (Sort × ℕ) → Parser (Sort × ℕ)
inside item at ks = after (mapped (λ found. (sorts.List found.0, found.1)) (item at ks)) (expect (is_sign RightParen))

inside_alike : {item same : Parser (Sort × ℕ)} (count : ℕ) → Same count item same → Same count (inside item) (inside same)
unfolding inside
inside_alike count s = behind _ _ count (mapping count _ s) (λ found. expected (is_sign RightParen) found count)

-- what is read behind a name, where it is that of lists or not
sort_behind : (is : Bool) {item same : Parser (Sort × ℕ)} (found : Sort × ℕ) (less count at : ℕ) (us vs ws : List TokenKind) → length us ≤ count → count ≤ less + 1 → Same less item same
    → Alike at (at + length us) vs ws (if (if is then begins (is_sign LeftParen) (us ++ vs) else false) then inside item (at + 1) (tail (us ++ vs)) else Found found at (us ++ vs))
    (if (if is then begins (is_sign LeftParen) (us ++ ws) else false) then inside same (at + 1) (tail (us ++ ws)) else Found found at (us ++ ws))
sort_behind true {item = item} {same = same} found less count at us vs ws h i s =
    branch_alike (is_sign LeftParen) (inside item) (inside same) less at us vs ws (omega arith) (inside_alike less s) (Alike.found us (omega arith) refl)
sort_behind false found less count at us vs ws h i s = Alike.found us (omega arith) refl

pub sort_alike : (room more count : ℕ) → count ≤ room → room ≤ more → Same count (sort room) (sort more)
unfolding sort inside
sort_alike zero more count h i = roomless (sort more) count h
sort_alike (suc room) zero count h i = absurd (omega arith)
sort_alike (suc room) (suc more) count h i = record {
  alike = λ at us vs ws j.
      after_alike _ _ count (omega arith) (λ name. record {
        alike = λ position us vs ws j.
            sort_behind (bytes_eq name (codes "list")) (named_sort name (word_sort name), at) (count - 1) count position us vs ws j (omega arith) (sort_alike room more (count - 1) (omega arith) (omega arith));
      })
      ((free_name_alike count).alike at us vs ws j);
}
