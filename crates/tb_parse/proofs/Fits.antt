-- What an outcome implies for the tokens, for each way to combine parsers.
use Rattle.std.proofs.Common.{◌≡◌, ℕ, ◌+◌, Bool, true, false, List, [], ◌∷◌, ◌++◌, length, refl, ap, sym, ◌∙◌, subst, arith, append_assoc, append-nil, if◌then◌else◌}
use Rattle.std.proofs.lemmas.List.{length-append}
use Rattle.tb_lex.specs.declared.kind.TokenKind.{TokenKind}
use Rattle.tb_lex.specs.declared.kind.TokenKind.TheVariants.{Lower, Symbol as Sign}
use Rattle.tb_lex.specs.declared.symbol.Symbol.{Symbol}
use Rattle.tb_parse.specs.Helpers.Parsing.{Outcome, Found, Stops, Parser, after, mapped, is_sign, is_word, begins, tail, expect, skip}
use Rattle.tb_parse.proofs.Signs.{is_that_sign, is_that_word}

-- a relation between a construct and the tokens that spell it
abbrev pub Spelt : Type 0 → Type 1
Spelt A = A → List TokenKind → Type 0

-- the spelling of some construct begins with these tokens
abbrev pub Opens : {A : Type 0} → Spelt A → List TokenKind → Type 0
Opens {A = A} S xs = (more : List TokenKind) × (x : A) × S x (xs ++ more)

-- some construct's spelling begins with the tokens before this position
abbrev pub StopsAt : {A : Type 0} → Spelt A → ℕ → List TokenKind → ℕ → Type 0
StopsAt S at ks position = (xs rest : List TokenKind) × (ks ≡ xs ++ rest) × (position ≡ at + length xs) × Opens S xs

-- tokens at the start spell the result, and the others are left; or the parser stops
abbrev pub FitsAt : {A : Type 0} → Spelt A → ℕ → List TokenKind → Outcome A → Type 0
FitsAt S at ks (Found x end rest) = (xs : List TokenKind) × (ks ≡ xs ++ rest) × (end ≡ at + length xs) × S x xs
FitsAt S at ks (Stops position) = StopsAt S at ks position

pub record Fits {A : Type 0} (S : Spelt A) (at : ℕ) (ks : List TokenKind) (o : Outcome A) : Type 0 where
  pub fits : FitsAt S at ks o

pub found : {A : Type 0} {S : Spelt A} {at : ℕ} {ks : List TokenKind} {x : A} → S x [] → Fits S at ks (Found x at ks)
found s = record { fits = ([], refl, omega arith, s) }

pub stops : {A : Type 0} {S : Spelt A} {at : ℕ} {ks : List TokenKind} → Opens S [] → Fits S at ks (Stops at)
stops {ks = ks} o = record { fits = ([], ks, refl, omega arith, o) }

-- If a parser is given no tokens, it claims that some spelling continues there.

no_tokens : (xs rest : List TokenKind) → [] ≡ xs ++ rest → xs ≡ []
no_tokens [] rest e = refl
no_tokens (x ∷ xs) rest e = absurd (cc)

opens_at : {A : Type 0} (S : Spelt A) (at : ℕ) (o : Outcome A) → FitsAt S at [] o → Opens S []
opens_at S at (Found x end rest) g = ([], x, subst (λ ks. S x ks) (no_tokens g.0 rest g.1) g.3)
opens_at S at (Stops position) g = subst (λ ks. Opens S ks) (no_tokens g.0 g.1 g.2) g.4

pub opens : {A : Type 0} {S : Spelt A} {at : ℕ} {o : Outcome A} → Fits S at [] o → Opens S []
opens {S = S} {at = at} {o = o} g = opens_at S at o g.fits

-- tokens in front of what some spelling begins with
pub opens_behind : {A : Type 0} (S : Spelt A) (xs ys : List TokenKind) → Opens (λ y zs. S y (xs ++ zs)) ys → Opens S (xs ++ ys)
opens_behind S xs ys o = (o.0, o.1, subst (λ ks. S o.1 ks) (sym (append_assoc xs ys o.0)) o.2)

opens_first : {A : Type 0} (S : Spelt A) (k : TokenKind) → Opens (λ y zs. S y (k ∷ zs)) [] → Opens S []
opens_first S k o = (k ∷ o.0, o.1, o.2)

joined_at : {A : Type 0} (S : Spelt A) (at : ℕ) (xs ks rest : List TokenKind) → ks ≡ xs ++ rest → (o : Outcome A) → FitsAt (λ y ys. S y (xs ++ ys)) (at + length xs) rest o → FitsAt S at ks o
joined_at S at xs ks rest e (Found y end more) g = (
  xs ++ g.0,
  e ∙ ap (λ l. xs ++ l) g.1 ∙ sym (append_assoc xs g.0 more),
  (let l = length-append xs g.0 in omega arith),
  g.3,
)
joined_at S at xs ks rest e (Stops position) g = (
  xs ++ g.0,
  g.1,
  e ∙ ap (λ l. xs ++ l) g.2 ∙ sym (append_assoc xs g.0 g.1),
  (let l = length-append xs g.0 in let here = g.3 in omega arith),
  opens_behind S xs g.0 g.4,
)

-- tokens in front of what fits
pub joined : {A : Type 0} {S : Spelt A} {at : ℕ} (xs rest : List TokenKind) {ks : List TokenKind} {o : Outcome A} → ks ≡ xs ++ rest → Fits (λ y ys. S y (xs ++ ys)) (at + length xs) rest o → Fits S at ks o
joined {S = S} {at = at} xs rest {ks = ks} {o = o} e g = record { fits = joined_at S at xs ks rest e o g.fits }

pub token : {A : Type 0} {S : Spelt A} {at : ℕ} {k : TokenKind} {ks : List TokenKind} {o : Outcome A} → Fits (λ y ys. S y (k ∷ ys)) (at + 1) ks o → Fits S at (k ∷ ks) o
token {k = k} {ks = ks} g = joined (k ∷ []) ks refl g

mapped_at : {A B : Type 0} (S : Spelt A) (T : Spelt B) (f : A → B) (at : ℕ) (ks : List TokenKind) → ((x : A) (xs : List TokenKind) → S x xs → T (f x) xs) → (o : Outcome A) → FitsAt S at ks o → FitsAt T at ks (mapped f o)
mapped_at S T f at ks h (Found x end rest) g = (g.0, g.1, g.2, h x g.0 g.3)
mapped_at S T f at ks h (Stops position) g = (g.0, g.1, g.2, g.3, (g.4.0, f g.4.1, h g.4.1 (g.0 ++ g.4.0) g.4.2))

pub mapping : {A B : Type 0} {S : Spelt A} {T : Spelt B} {at : ℕ} {ks : List TokenKind} {o : Outcome A} (f : A → B) → Fits S at ks o → ((x : A) (xs : List TokenKind) → S x xs → T (f x) xs) → Fits T at ks (mapped f o)
mapping {S = S} {T = T} {at = at} {ks = ks} {o = o} f g h = record { fits = mapped_at S T f at ks h o g.fits }

weaker_at : {A : Type 0} (S T : Spelt A) (at : ℕ) (ks : List TokenKind) → ((x : A) (xs : List TokenKind) → S x xs → T x xs) → (o : Outcome A) → FitsAt S at ks o → FitsAt T at ks o
weaker_at S T at ks h (Found x end rest) g = (g.0, g.1, g.2, h x g.0 g.3)
weaker_at S T at ks h (Stops position) g = (g.0, g.1, g.2, g.3, (g.4.0, g.4.1, h g.4.1 (g.0 ++ g.4.0) g.4.2))

pub weaker : {A : Type 0} {S T : Spelt A} {at : ℕ} {ks : List TokenKind} {o : Outcome A} → Fits S at ks o → ((x : A) (xs : List TokenKind) → S x xs → T x xs) → Fits T at ks o
weaker {S = S} {T = T} {at = at} {ks = ks} {o = o} g h = record { fits = weaker_at S T at ks h o g.fits }

-- what begins a first part begins the whole, since the rest goes on where no tokens are left
opens_after : {A B : Type 0} (S : Spelt A) (T : Spelt B) (next : A → Parser B) (at : ℕ)
    → ((x : A) (xs rest : List TokenKind) → S x xs → Fits (λ y ys. T y (xs ++ ys)) (at + length xs) rest (next x (at + length xs) rest)) → (xs : List TokenKind) → Opens S xs → Opens T xs
opens_after S T next at h xs o =
    let whole : List TokenKind = xs ++ o.0 in
    let rest : Opens T (whole ++ []) = opens_behind T whole [] (opens (h o.1 whole [] o.2)) in
    (o.0 ++ rest.0, rest.1, subst (λ ks. T rest.1 ks) (ap (λ ks. ks ++ rest.0) (append-nil whole) ∙ append_assoc xs o.0 rest.0) rest.2)

after_at : {A B : Type 0} (S : Spelt A) (T : Spelt B) (next : A → Parser B) (at : ℕ) (ks : List TokenKind)
    → ((x : A) (xs rest : List TokenKind) → S x xs → Fits (λ y ys. T y (xs ++ ys)) (at + length xs) rest (next x (at + length xs) rest)) → (o : Outcome A) → FitsAt S at ks o → Fits T at ks (after o next)
after_at S T next at ks h (Found x end rest) g = subst (λ e. Fits T at ks (next x e rest)) (sym g.2) (joined g.0 rest g.1 (h x g.0 rest g.3))
after_at S T next at ks h (Stops position) g = record { fits = (g.0, g.1, g.2, g.3, opens_after S T next at h g.0 g.4) }

pub behind : {A B : Type 0} {S : Spelt A} {T : Spelt B} {at : ℕ} {ks : List TokenKind} {o : Outcome A} (next : A → Parser B) → Fits S at ks o
    → ((x : A) (xs rest : List TokenKind) → S x xs → Fits (λ y ys. T y (xs ++ ys)) (at + length xs) rest (next x (at + length xs) rest)) → Fits T at ks (after o next)
behind {S = S} {T = T} {at = at} {ks = ks} {o = o} next g h = after_at S T next at ks h o g.fits

branch_by : {A : Type 0} (S : Spelt A) (test : TokenKind → Bool) (at : ℕ) (next : Parser A) (other : Outcome A) (k : TokenKind) (ks : List TokenKind)
    → (test k ≡ true → Fits (λ y ys. S y (k ∷ ys)) (at + 1) ks (next (at + 1) ks)) → Fits S at (k ∷ ks) other → (b : Bool) → test k ≡ b → Fits S at (k ∷ ks) (if b then next (at + 1) ks else other)
branch_by S test at next other k ks g h true e = token (g e)
branch_by S test at next other k ks g h false e = h

branch : {A : Type 0} (S : Spelt A) (test : TokenKind → Bool) (at : ℕ) (next : Parser A) (other : Outcome A) (ks : List TokenKind)
    → ((k : TokenKind) (rest : List TokenKind) → test k ≡ true → Fits (λ y ys. S y (k ∷ ys)) (at + 1) rest (next (at + 1) rest)) → Fits S at ks other → Fits S at ks (if begins test ks then next (at + 1) (tail ks) else other)
branch S test at next other [] g h = h
branch S test at next other (k ∷ ks) g h = branch_by S test at next other k ks (g k ks) h (test k) refl

-- one way behind a token, and another where it doesn't stand
pub with_token : {A : Type 0} {S : Spelt A} {at : ℕ} (test : TokenKind → Bool) (k : TokenKind) (next : Parser A) {other : Outcome A} {ks : List TokenKind} → ((k' : TokenKind) → test k' ≡ true → k' ≡ k)
    → ((rest : List TokenKind) → Fits (λ y ys. S y (k ∷ ys)) (at + 1) rest (next (at + 1) rest)) → Fits S at ks other → Fits S at ks (if begins test ks then next (at + 1) (tail ks) else other)
with_token {S = S} {at = at} test k next {other = other} {ks = ks} is g h =
    branch S test at next other ks (λ k' rest e. subst (λ t. Fits (λ y ys. S y (t ∷ ys)) (at + 1) rest (next (at + 1) rest)) (sym (is k' e)) (g rest)) h

pub with_sign : {A : Type 0} {S : Spelt A} {at : ℕ} (s : Symbol) (next : Parser A) {other : Outcome A} {ks : List TokenKind}
    → ((rest : List TokenKind) → Fits (λ y ys. S y (Sign s ∷ ys)) (at + 1) rest (next (at + 1) rest)) → Fits S at ks other → Fits S at ks (if begins (is_sign s) ks then next (at + 1) (tail ks) else other)
with_sign s next g h = with_token (is_sign s) (Sign s) next (is_that_sign s) g h

pub with_word : {A : Type 0} {S : Spelt A} {at : ℕ} (word : List ℕ) (next : Parser A) {other : Outcome A} {ks : List TokenKind}
    → ((rest : List TokenKind) → Fits (λ y ys. S y (Lower word ∷ ys)) (at + 1) rest (next (at + 1) rest)) → Fits S at ks other → Fits S at ks (if begins (is_word word) ks then next (at + 1) (tail ks) else other)
with_word word next g h = with_token (is_word word) (Lower word) next (is_that_word word) g h

pub skip_sign : {A : Type 0} {S : Spelt A} {at : ℕ} {ks : List TokenKind} (s : Symbol) (next : Parser A) → ((rest : List TokenKind) → Fits (λ y ys. S y (Sign s ∷ ys)) (at + 1) rest (next (at + 1) rest)) → Fits S at ks (skip (is_sign s) next at ks)
skip_sign {S = S} s next g = with_sign s next g (stops (opens_first S (Sign s) (opens (g []))))

pub skip_word : {A : Type 0} {S : Spelt A} {at : ℕ} {ks : List TokenKind} (word : List ℕ) (next : Parser A) → ((rest : List TokenKind) → Fits (λ y ys. S y (Lower word ∷ ys)) (at + 1) rest (next (at + 1) rest)) → Fits S at ks (skip (is_word word) next at ks)
skip_word {S = S} word next g = with_word word next g (stops (opens_first S (Lower word) (opens (g []))))

pub expect_sign : {A : Type 0} {S : Spelt A} {at : ℕ} {ks : List TokenKind} (s : Symbol) (x : A) → S x (Sign s ∷ []) → Fits S at ks (expect (is_sign s) x at ks)
expect_sign s x d = with_sign s (λ at ks. Found x at ks) (λ rest. found d) (stops (Sign s ∷ [], x, d))

pub expect_word : {A : Type 0} {S : Spelt A} {at : ℕ} {ks : List TokenKind} (word : List ℕ) (x : A) → S x (Lower word ∷ []) → Fits S at ks (expect (is_word word) x at ks)
expect_word word x d = with_word word (λ at ks. Found x at ks) (λ rest. found d) (stops (Lower word ∷ [], x, d))

-- no token is lost: those that are left stand behind those that were read
pub kept : {A : Type 0} {S : Spelt A} {at end : ℕ} {ks rest : List TokenKind} {x : A} {o : Outcome A} → Fits S at ks o → o ≡ Found x end rest → end + length rest ≡ at + length ks
kept {S = S} {at = at} {end = end} {ks = ks} {rest = rest} {x = x} g e =
    let f : Fits S at ks (Found x end rest) = subst (Fits S at ks) e g in
    let all = ap length f.fits.1 ∙ length-append f.fits.0 rest in
    let here = f.fits.2 in
    omega arith

-- some spelling begins with the tokens in front of the position at which the parser stops
pub stops_begun : {A : Type 0} {S : Spelt A} {at position : ℕ} {ks : List TokenKind} {o : Outcome A} → Fits S at ks o → o ≡ Stops position → StopsAt S at ks position
stops_begun {S = S} {at = at} {position = position} {ks = ks} g e = (subst (Fits S at ks) e g).fits
