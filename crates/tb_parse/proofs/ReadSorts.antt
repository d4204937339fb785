-- The parser reads each spelling of a type or of a placeholder as this construct.
use Rattle.std.proofs.Common.{◌≡◌, ℕ, zero, suc, ◌+◌, ◌≤◌, true, false, List, [], ◌∷◌, ◌++◌, length, refl, ap, arith, codes}
use Rattle.std.proofs.lemmas.List.{length-append}
use Rattle.std.proofs.lemmas.Bool.{or_parts}
use Rattle.std.specs.Str.{bytes_eq}
use Rattle.tb_terms.specs.declared.sort.Sort.{Sort}
use Rattle.tb_terms.specs.declared.sort.Sort.TheVariants as sorts
use Rattle.tb_lex.specs.declared.kind.TokenKind.{TokenKind}
use Rattle.tb_lex.specs.declared.kind.TokenKind.TheVariants.{Lower, Symbol as Sign}
use Rattle.tb_lex.specs.declared.symbol.Symbol.TheVariants.{LeftParen, RightParen, Greater}
use Rattle.tb_syntax.specs.declared.ast.AstKind.TheVariants as ast
use Rattle.tb_syntax.specs.Spelling.{IsSortWord, SpellsSort}
use Rattle.tb_syntax.specs.Words.{is_free, is_among, is_sort_word}
use Rattle.tb_parse.specs.Helpers.Parsing.{Parser, Found, mapped, begins, is_sign, expect, free_name, word_sort, sort, hole}
use Rattle.tb_parse.proofs.ReadParts.{arrives, read}

pub sort_some : {at inner : ℕ} {s : Sort} {ks : List TokenKind} → SpellsSort at s inner ks → 1 ≤ length ks
sort_some (SpellsSort.plain at w) = omega arith
sort_some (SpellsSort.list_of d) = omega arith
sort_some (SpellsSort.tool at name free n) = omega arith

-- a name that is none of the words
abbrev NoWord : List ℕ → Type 0
NoWord name = (bytes_eq name (codes "bool") ≡ false) × (bytes_eq name (codes "int") ≡ false) × (bytes_eq name (codes "str") ≡ false) × (bytes_eq name (codes "list") ≡ false) × (bytes_eq name (codes "term") ≡ false)

no_word : (name : List ℕ) → is_sort_word name ≡ false → NoWord name
no_word name e =
    let a = or_parts (bytes_eq name (codes "bool")) (is_among (codes "int" ∷ codes "str" ∷ codes "list" ∷ codes "term" ∷ []) name) e in
    let b = or_parts (bytes_eq name (codes "int")) (is_among (codes "str" ∷ codes "list" ∷ codes "term" ∷ []) name) a.1 in
    let c = or_parts (bytes_eq name (codes "str")) (is_among (codes "list" ∷ codes "term" ∷ []) name) b.1 in
    let d = or_parts (bytes_eq name (codes "list")) (is_among (codes "term" ∷ []) name) c.1 in
    let f = or_parts (bytes_eq name (codes "term")) false d.1 in
    (a.0, b.0, c.0, d.0, f.0)

word_reads : {s : Sort} {name : List ℕ} → IsSortWord s name → (room at : ℕ) (more : List TokenKind) → begins (is_sign LeftParen) more ≡ false → sort (suc room) at (Lower name ∷ more) ≡ Found (s, at) (at + 1) more
unfolding sort free_name word_sort
word_reads IsSortWord.bool room at more e = refl
word_reads IsSortWord.int room at more e = refl
word_reads IsSortWord.str room at more e = refl
word_reads IsSortWord.list room at more e = rw e refl
word_reads IsSortWord.term room at more e = refl

tool_reads : (name : List ℕ) → is_free name ≡ true → NoWord name → (room at : ℕ) (more : List TokenKind) → sort (suc room) at (Lower name ∷ more) ≡ Found (sorts.Tool name, at) (at + 1) more
unfolding sort free_name word_sort
tool_reads name free n room at more = rw (free, n.0, n.1, n.2, n.3, n.4) refl

pub sort_reads : {at inner : ℕ} {s : Sort} {ks : List TokenKind} → SpellsSort at s inner ks → (room : ℕ) → length ks ≤ room → (more : List TokenKind) → begins (is_sign LeftParen) more ≡ false
    → sort room at (ks ++ more) ≡ Found (s, inner) (at + length ks) more
unfolding sort free_name
sort_reads (SpellsSort.plain at w) zero h more e = absurd (omega arith)
sort_reads (SpellsSort.plain at w) (suc room) h more e = word_reads w room at more e
sort_reads (SpellsSort.tool at name free n) zero h more e = absurd (omega arith)
sort_reads (SpellsSort.tool at name free n) (suc room) h more e = tool_reads name free (no_word name n) room at more
sort_reads (SpellsSort.list_of d) zero h more e = absurd (omega arith)
sort_reads (SpellsSort.list_of {at = at} {ks = ks} d) (suc room) h more e =
    let sum = length-append ks (Sign RightParen ∷ []) in
    let inside = sort_reads d room (omega arith) (Sign RightParen ∷ more) refl in
    let p : Parser (Sort × ℕ) = λ at ks. mapped (λ found. (sorts.List found.0, found.1)) (sort room at ks) in
    read p (expect (is_sign RightParen)) {at = at + 2} ks (Sign RightParen ∷ []) more (omega arith) (ap (λ o. mapped (λ found. (sorts.List found.0, found.1)) o) inside) (arrives (omega arith))

pub hole_reads : {s : Sort} {name : List ℕ} → IsSortWord s name → (at : ℕ) (more : List TokenKind) → hole at (Lower name ∷ Sign Greater ∷ more) ≡ Found (ast.Hole s) (at + 1 + 1) more
unfolding hole word_sort
hole_reads IsSortWord.bool at more = refl
hole_reads IsSortWord.int at more = refl
hole_reads IsSortWord.str at more = refl
hole_reads IsSortWord.list at more = refl
hole_reads IsSortWord.term at more = refl
