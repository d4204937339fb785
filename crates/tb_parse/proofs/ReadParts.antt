-- How combined parsers read their tokens, whatever follows them.
use Rattle.std.proofs.Common.{◌≡◌, ℕ, zero, suc, ◌+◌, ◌≤◌, Bool, false, ◌||◌, List, [], ◌∷◌, ◌++◌, length, refl, ap, ◌∙◌, arith, append_assoc}
use Rattle.std.proofs.lemmas.List.{length-append}
use Rattle.std.proofs.lemmas.Bool.{or_parts}
use Rattle.tb_lex.specs.declared.kind.TokenKind.{TokenKind}
use Rattle.tb_lex.specs.declared.kind.TokenKind.TheVariants.{Symbol as Sign}
use Rattle.tb_lex.specs.declared.symbol.Symbol.TheVariants.{LeftParen, RightParen, Comma}
use Rattle.tb_syntax.specs.Spelling.{Parted, InParens}
use Rattle.tb_parse.specs.Helpers.Parsing.{Parser, Outcome, Found, after, mapped, begins, is_sign, parted, in_parens}

-- The first token after a construct can be one that continues it.

abbrev pub either : (TokenKind → Bool) → (TokenKind → Bool) → TokenKind → Bool
either f g k = f k || g k

pub neither : (f g : TokenKind → Bool) (ks : List TokenKind) → begins (either f g) ks ≡ false → (begins f ks ≡ false) × (begins g ks ≡ false)
neither f g [] e = (refl, refl)
neither f g (k ∷ ks) e = or_parts (f k) (g k) e

pub arrives : {A : Type 0} {x : A} {a b : ℕ} {more : List TokenKind} → a ≡ b → ◌≡◌ {A = Outcome A} (Found x a more) (Found x b more)
arrives {x = x} {more = more} e = ap (λ n. Found x n more) e

-- Parts that are read one after the other.

pub read : {A B : Type 0} (p : Parser A) (next : A → Parser B) {here at : ℕ} {x : A} {r : Outcome B} (xs rest more : List TokenKind) → here ≡ at → p at (xs ++ (rest ++ more)) ≡ Found x (at + length xs) (rest ++ more)
    → next x (at + length xs) (rest ++ more) ≡ r → after (p here ((xs ++ rest) ++ more)) next ≡ r
read p next {at = at} xs rest more h e f = ap (λ n. after (p n ((xs ++ rest) ++ more)) next) h ∙ ap (λ ks. after (p at ks) next) (append_assoc xs rest more) ∙ ap (λ o. after o next) e ∙ f

pub read_last : {A B : Type 0} (p : Parser A) (next : A → Parser B) {here at : ℕ} {x : A} {r : Outcome B} (xs more : List TokenKind) → here ≡ at → p at (xs ++ more) ≡ Found x (at + length xs) more
    → next x (at + length xs) more ≡ r → after (p here (xs ++ more)) next ≡ r
read_last p next xs more h e f = ap (λ n. after (p n (xs ++ more)) next) h ∙ ap (λ o. after o next) e ∙ f

pub read_mapped : {A B : Type 0} (p : Parser A) (f : A → B) {here at end : ℕ} {x : A} (xs more : List TokenKind) → here ≡ at → p at (xs ++ more) ≡ Found x (at + length xs) more → at + length xs ≡ end
    → mapped f (p here (xs ++ more)) ≡ Found (f x) end more
read_mapped p f xs more h e g = ap (λ n. mapped f (p n (xs ++ more))) h ∙ ap (λ o. mapped f o) e ∙ arrives g

-- with enough room, and no token after it that can continue it, the construct is read
abbrev pub ReadsIn : {A : Type 0} → (ℕ → Parser A) → (TokenKind → Bool) → ℕ → A → List TokenKind → Type 0
ReadsIn p goes at x ks = (room : ℕ) → length ks ≤ room → (more : List TokenKind) → begins goes more ≡ false → p room at (ks ++ more) ≡ Found x (at + length ks) more

-- the same claim for a construct that has a token
pub record Reads {A : Type 0} (p : ℕ → Parser A) (goes : TokenKind → Bool) (at : ℕ) (x : A) (ks : List TokenKind) : Type 0 where
  pub some : 1 ≤ length ks
  pub reads : ReadsIn p goes at x ks

-- Lists.

pub parted_map : {A : Type 0} {S R : ℕ → A → List TokenKind → Type 0} {at : ℕ} {xs : List A} {ks : List TokenKind} → ((at : ℕ) (x : A) (ks : List TokenKind) → S at x ks → R at x ks) → Parted S at xs ks → Parted R at xs ks
parted_map h (Parted.last d) = Parted.last (h _ _ _ d)
parted_map h (Parted.more d ds) = Parted.more (h _ _ _ d) (parted_map h ds)

pub in_parens_map : {A : Type 0} {S R : ℕ → A → List TokenKind → Type 0} {at : ℕ} {xs : List A} {ks : List TokenKind} → ((at : ℕ) (x : A) (ks : List TokenKind) → S at x ks → R at x ks) → InParens S at xs ks → InParens R at xs ks
in_parens_map h (InParens.none at) = InParens.none at
in_parens_map h (InParens.some ds) = InParens.some (parted_map h ds)

pub parted_reads : {A : Type 0} (p : ℕ → Parser A) (goes : TokenKind → Bool) → goes (Sign Comma) ≡ false → {at : ℕ} {xs : List A} {ks : List TokenKind} → Parted (Reads p goes) at xs ks
    → (inner room : ℕ) → length ks ≤ inner → length ks ≤ room → (more : List TokenKind) → begins goes more ≡ false → begins (is_sign Comma) more ≡ false → parted (p inner) room at (ks ++ more) ≡ Found xs (at + length ks) more
unfolding parted
parted_reads p goes c (Parted.last {ks = ks} d) inner zero h i more e f = let some = d.some in absurd (omega arith)
parted_reads p goes c (Parted.last {ks = ks} d) inner (suc room) h i more e f = read_last (p inner) _ ks more refl (d.reads inner h more e) (rw f refl)
parted_reads p goes c (Parted.more {ks = ks} {rest = rest} d ds) inner zero h i more e f = absurd (omega (arith, length-append ks (Sign Comma ∷ rest)))
parted_reads p goes c (Parted.more {x = x} {ks = ks} {rest = rest} d ds) inner (suc room) h i more e f =
    let sum = length-append ks (Sign Comma ∷ rest) in
    read (p inner) _ ks (Sign Comma ∷ rest) more refl (d.reads inner (omega arith) (Sign Comma ∷ (rest ++ more)) c)
    (read_mapped (parted (p inner) room) (λ xs. x ∷ xs) rest more refl (parted_reads p goes c ds inner room (omega arith) (omega arith) more e f) (omega arith))

pub in_parens_reads : {A : Type 0} (p : ℕ → Parser A) (goes : TokenKind → Bool) → goes (Sign Comma) ≡ false → goes (Sign RightParen) ≡ false → {at : ℕ} {xs : List A} {ks : List TokenKind} → InParens (Reads p goes) at xs ks
    → (inner room : ℕ) → length ks ≤ inner → length ks ≤ room → (more : List TokenKind) → begins (is_sign LeftParen) more ≡ false → in_parens (p inner) room at (ks ++ more) ≡ Found xs (at + length ks) more
unfolding in_parens
in_parens_reads p goes c r (InParens.none at) inner room h i more e = rw e (arrives (omega arith))
in_parens_reads p goes c r (InParens.some {at = at} {ks = ks} ds) inner room h i more e =
    let sum = length-append ks (Sign RightParen ∷ []) in
    read (parted (p inner) room) _ ks (Sign RightParen ∷ []) more refl (parted_reads p goes c ds inner room (omega arith) (omega arith) (Sign RightParen ∷ more) r refl) (arrives (omega arith))
