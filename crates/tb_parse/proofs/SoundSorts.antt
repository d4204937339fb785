-- The tokens that are read as a type or as a placeholder spell it.
use Rattle.std.proofs.Common.{◌≡◌, ℕ, zero, suc, ◌+◌, Bool, true, false, List, [], ◌∷◌, ◌++◌, Option, Some, None, if◌then◌else◌, refl, sym, subst, arith, codes}
use Rattle.std.specs.Str.{bytes_eq}
use Rattle.tb_terms.specs.declared.sort.Sort.{Sort}
use Rattle.tb_terms.specs.declared.sort.Sort.TheVariants as sorts
use Rattle.tb_lex.specs.declared.kind.TokenKind.{TokenKind}
use Rattle.tb_lex.specs.declared.kind.TokenKind.TheVariants.{Int, Str, Lower, Upper, Symbol as Sign}
use Rattle.tb_lex.specs.declared.symbol.Symbol.TheVariants.{LeftParen, RightParen}
use Rattle.tb_syntax.specs.Spelling.{IsSortWord, SpellsSort}
use Rattle.tb_syntax.specs.Words.{is_free, is_sort_word}
use Rattle.tb_parse.specs.Helpers.Parsing.{Parser, Outcome, Found, Stops, after, mapped, begins, tail, is_sign, expect, lower, upper, free_name, word_sort, named_sort, sort}
use Rattle.tb_parse.proofs.Signs.{same_name}
use Rattle.tb_parse.proofs.Fits.{Fits, Opens, found, stops, token, behind, mapping, with_sign, expect_sign}

-- what is said of a name and its token
abbrev pub IsLower : List ℕ → List TokenKind → Type 0
IsLower name ks = ks ≡ Lower name ∷ []

abbrev pub IsUpper : List ℕ → List TokenKind → Type 0
IsUpper name ks = ks ≡ Upper name ∷ []

-- a name can be there
no_lower : Opens IsLower []
no_lower = (Lower (codes "a") ∷ [], codes "a", refl)

no_upper : Opens IsUpper []
no_upper = (Upper (codes "A") ∷ [], codes "A", refl)

pub lower_sound : (at : ℕ) (ks : List TokenKind) → Fits IsLower at ks (lower at ks)
lower_sound at [] = stops no_lower
lower_sound at (Int n ∷ ks) = stops no_lower
lower_sound at (Str text ∷ ks) = stops no_lower
lower_sound at (Lower name ∷ ks) = token (found refl)
lower_sound at (Upper name ∷ ks) = stops no_lower
lower_sound at (Sign symbol ∷ ks) = stops no_lower

pub upper_sound : (at : ℕ) (ks : List TokenKind) → Fits IsUpper at ks (upper at ks)
upper_sound at [] = stops no_upper
upper_sound at (Int n ∷ ks) = stops no_upper
upper_sound at (Str text ∷ ks) = stops no_upper
upper_sound at (Lower name ∷ ks) = stops no_upper
upper_sound at (Upper name ∷ ks) = token (found refl)
upper_sound at (Sign symbol ∷ ks) = stops no_upper

abbrev pub IsFree : List ℕ → List TokenKind → Type 0
IsFree name ks = (is_free name ≡ true) × (ks ≡ Lower name ∷ [])

no_free_name : Opens IsFree []
no_free_name = (Lower (codes "a") ∷ [], codes "a", (refl, refl))

free_by : (at : ℕ) (ks : List TokenKind) (name : List ℕ) (b : Bool) → is_free name ≡ b → Fits IsFree at (Lower name ∷ ks) (if b then Found name (at + 1) ks else Stops at)
free_by at ks name true e = token (found (e, refl))
free_by at ks name false e = stops no_free_name

pub free_name_sound : (at : ℕ) (ks : List TokenKind) → Fits IsFree at ks (free_name at ks)
unfolding free_name
free_name_sound at [] = stops no_free_name
free_name_sound at (Int n ∷ ks) = stops no_free_name
free_name_sound at (Str text ∷ ks) = stops no_free_name
free_name_sound at (Lower name ∷ ks) = free_by at ks name (is_free name) refl
free_name_sound at (Upper name ∷ ks) = stops no_free_name
free_name_sound at (Sign symbol ∷ ks) = stops no_free_name

-- what is said of a name by the sort that its word stands for
abbrev pub NamedAs : List ℕ → Option Sort → Type 0
NamedAs name None = is_sort_word name ≡ false
NamedAs name (Some s) = IsSortWord s name

-- `word_sort` from each of its words on
abbrev term_if : List ℕ → Bool → Option Sort
term_if name b = if b then Some sorts.Any else None

abbrev list_if : List ℕ → Bool → Option Sort
list_if name b = if b then Some (sorts.List sorts.Any) else term_if name (bytes_eq name (codes "term"))

abbrev str_if : List ℕ → Bool → Option Sort
str_if name b = if b then Some sorts.Str else list_if name (bytes_eq name (codes "list"))

abbrev int_if : List ℕ → Bool → Option Sort
int_if name b = if b then Some sorts.Int else str_if name (bytes_eq name (codes "str"))

abbrev bool_if : List ℕ → Bool → Option Sort
bool_if name b = if b then Some sorts.Bool else int_if name (bytes_eq name (codes "int"))

is : {s : Sort} {word : List ℕ} (name : List ℕ) → bytes_eq name word ≡ true → IsSortWord s word → IsSortWord s name
is {s = s} {word = word} name e w = subst (IsSortWord s) (sym (same_name name word e)) w

abbrev IsNot : List ℕ → List ℕ → Type 0
IsNot name word = bytes_eq name word ≡ false

term_named : (name : List ℕ) → IsNot name (codes "bool") → IsNot name (codes "int") → IsNot name (codes "str") → IsNot name (codes "list") → (b : Bool) → bytes_eq name (codes "term") ≡ b → NamedAs name (term_if name b)
term_named name e f g h true i = is name i IsSortWord.term
term_named name e f g h false i = rw (e, f, g, h, i) refl

list_named : (name : List ℕ) → IsNot name (codes "bool") → IsNot name (codes "int") → IsNot name (codes "str") → (b : Bool) → bytes_eq name (codes "list") ≡ b → NamedAs name (list_if name b)
list_named name e f g true h = is name h IsSortWord.list
list_named name e f g false h = term_named name e f g h (bytes_eq name (codes "term")) refl

str_named : (name : List ℕ) → IsNot name (codes "bool") → IsNot name (codes "int") → (b : Bool) → bytes_eq name (codes "str") ≡ b → NamedAs name (str_if name b)
str_named name e f true h = is name h IsSortWord.str
str_named name e f false h = list_named name e f h (bytes_eq name (codes "list")) refl

int_named : (name : List ℕ) → IsNot name (codes "bool") → (b : Bool) → bytes_eq name (codes "int") ≡ b → NamedAs name (int_if name b)
int_named name e true h = is name h IsSortWord.int
int_named name e false h = str_named name e h (bytes_eq name (codes "str")) refl

bool_named : (name : List ℕ) (b : Bool) → bytes_eq name (codes "bool") ≡ b → NamedAs name (bool_if name b)
bool_named name true h = is name h IsSortWord.bool
bool_named name false h = int_named name h (bytes_eq name (codes "int")) refl

pub word_sort_named : (name : List ℕ) → NamedAs name (word_sort name)
unfolding word_sort
word_sort_named name = bool_named name (bytes_eq name (codes "bool")) refl

-- Types.

-- the sort with the position of its innermost name
abbrev pub SpellsPositioned : ℕ → (Sort × ℕ) → List TokenKind → Type 0
SpellsPositioned at found ks = SpellsSort at found.0 found.1 ks

named_spelt : (at : ℕ) (name : List ℕ) → is_free name ≡ true → (o : Option Sort) → NamedAs name o → SpellsSort at (named_sort name o) at (Lower name ∷ [])
named_spelt at name free None n = SpellsSort.tool at name free n
named_spelt at name free (Some s) w = SpellsSort.plain at w

pub at_sort : {at to inner : ℕ} {s : Sort} {ks : List TokenKind} → at ≡ to → SpellsSort at s inner ks → SpellsSort to s inner ks
at_sort {inner = inner} {s = s} {ks = ks} e d = subst (λ n. SpellsSort n s inner ks) e d

inside_of : Parser (Sort × ℕ) → Parser (Sort × ℕ)
inside_of item at ks = after (mapped (λ found. (sorts.List found.0, found.1)) (item at ks)) (expect (is_sign RightParen))

plain : ℕ → List ℕ → ℕ → List TokenKind → Outcome (Sort × ℕ)
plain at name end rest = Found (named_sort name (word_sort name), at) end rest

-- what is read behind a name
abbrev sort_behind : Parser (Sort × ℕ) → ℕ → List ℕ → Bool → ℕ → List TokenKind → Outcome (Sort × ℕ)
sort_behind item at name b end rest = if (if b then begins (is_sign LeftParen) rest else false) then inside_of item (end + 1) (tail rest) else plain at name end rest

plain_sound : (at : ℕ) (name : List ℕ) (end : ℕ) (rest : List TokenKind) → is_free name ≡ true → Fits (λ s zs. SpellsPositioned at s (Lower name ∷ zs)) end rest (plain at name end rest)
unfolding plain
plain_sound at name end rest f = found (named_spelt at name f (word_sort name) (word_sort_named name))

inside_sound : (item : Parser (Sort × ℕ)) → ((at : ℕ) (ks : List TokenKind) → Fits (SpellsPositioned at) at ks (item at ks)) → (at : ℕ) (rest : List TokenKind)
    → Fits (λ s zs. SpellsPositioned at s (Lower (codes "list") ∷ Sign LeftParen ∷ zs)) (at + 2) rest (inside_of item (at + 2) rest)
unfolding inside_of
inside_sound item h at rest =
    behind _ (mapping {T = λ s zs. SpellsPositioned at s (Lower (codes "list") ∷ Sign LeftParen ∷ (zs ++ Sign RightParen ∷ []))} _ (h (at + 2) rest) (λ s zs d. SpellsSort.list_of d)) (λ s zs rest d. expect_sign RightParen s d)

behind_sound : (item : Parser (Sort × ℕ)) → ((at : ℕ) (ks : List TokenKind) → Fits (SpellsPositioned at) at ks (item at ks)) → (at : ℕ) (name : List ℕ) (rest : List TokenKind) → is_free name ≡ true
    → (b : Bool) → bytes_eq name (codes "list") ≡ b → Fits (λ s zs. SpellsPositioned at s (Lower name ∷ zs)) (at + 1) rest (sort_behind item at name b (at + 1) rest)
behind_sound item h at name rest f true e =
    with_sign LeftParen (inside_of item) (λ rest. rw (same_name name (codes "list") e) (moved (at + 2) (at + 1 + 1) (omega arith) rest (inside_sound item h at rest))) (plain_sound at name (at + 1) rest f) where
      moved : (a b : ℕ) → a ≡ b → (rest : List TokenKind) → Fits (λ s zs. SpellsPositioned at s (Lower (codes "list") ∷ Sign LeftParen ∷ zs)) a rest (inside_of item a rest)
          → Fits (λ s zs. SpellsPositioned at s (Lower (codes "list") ∷ Sign LeftParen ∷ zs)) b rest (inside_of item b rest)
      moved a b e rest g = subst (λ n. Fits (λ s zs. SpellsPositioned at s (Lower (codes "list") ∷ Sign LeftParen ∷ zs)) n rest (inside_of item n rest)) e g
behind_sound item h at name rest f false e = plain_sound at name (at + 1) rest f

pub sort_sound : (room at : ℕ) (ks : List TokenKind) → Fits (SpellsPositioned at) at ks (sort room at ks)
unfolding sort inside_of plain
sort_sound zero at ks = stops (Lower (codes "int") ∷ [], (sorts.Int, at), SpellsSort.plain at IsSortWord.int)
sort_sound (suc room) at ks = behind _ (free_name_sound at ks) (λ name xs rest f.
    rw f.1 (behind_sound (sort room) (sort_sound room) at name rest f.0 (bytes_eq name (codes "list")) refl))
