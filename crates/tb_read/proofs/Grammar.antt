-- The tokens that a scan takes from the start to the end are those of one term, and each term's tokens are taken.
use Rattle.std.proofs.Common.{◌≡◌, ℕ, Bool, true, false, ◌&&◌, List, [], ◌∷◌, ◌++◌, map, Option, Some, None, refl, ap, sym, ◌∙◌, append_assoc, append-nil}
use Rattle.std.proofs.lemmas.Bool.{false≢true}
use Rattle.std.proofs.lemmas.List.Concat.{flat_map-append}
use Rattle.std.specs.List.{flat_map, AllByRecursion}
use Rattle.tb_terms.specs.declared.term.Term.{Term, out-Term}
use Rattle.tb_terms.specs.declared.term.Term.TheOpen.{Term-F}
use Rattle.tb_terms.specs.declared.term.Term.TheOpen as layer
use Rattle.tb_terms.specs.declared.term.Term.TheVariants as term
use Rattle.tb_terms.specs.declared.term.Term.TheVariants.{outs-Int, outs-Str, outs-Appl, outs-List}
use Rattle.tb_terms.proofs.Induction.{term_induction}
use Rattle.tb_read.specs.declared.token.Token.{Token}
use Rattle.tb_read.specs.declared.token.Token.TheVariants as token
use Rattle.tb_read.specs.declared.kind.Kind.{Kind}
use Rattle.tb_read.specs.declared.kind.Kind.TheVariants as kind
use Rattle.tb_read.specs.declared.shape.Shape.{Shape}
use Rattle.tb_read.specs.declared.shape.Expect.{Expect}
use Rattle.tb_read.specs.declared.shape.Expect.TheVariants as expect
use Rattle.tb_read.specs.declared.shape.Bracket.{Bracket}
use Rattle.tb_read.specs.declared.shape.Bracket.TheVariants.{Paren, Square}
use Rattle.tb_read.specs.declared.build.Builder.{Builder}
use Rattle.tb_read.specs.declared.build.Frame.{Frame}
use Rattle.tb_read.specs.Tokens.{tokens_of, appl_tokens, with_commas, after_comma}
use Rattle.tb_read.specs.Scanning.{allows, after, may_end, start}
use Rattle.tb_read.specs.Helpers.Building.{built_from, holds, opens, whole, nothing, head_of}
use Rattle.tb_read.proofs.Terms.{tokens-Int, tokens-Str, tokens-Appl, tokens-List}

abbrev pub kind_of_token : Token → Kind
kind_of_token (token.Int number) = kind.Int
kind_of_token (token.Str bytes) = kind.Str
kind_of_token (token.Name name) = kind.Name
kind_of_token token.LeftParen = kind.LeftParen
kind_of_token token.RightParen = kind.RightParen
kind_of_token token.LeftBracket = kind.LeftBracket
kind_of_token token.RightBracket = kind.RightBracket
kind_of_token token.Comma = kind.Comma

-- each token can be at its place, and the source can end after the last
abbrev pub accepts : Shape → List Token → Bool
accepts shape [] = may_end shape.expect shape.brackets
accepts shape (k ∷ ks) = allows shape (kind_of_token k) && accepts (after shape k) ks

abbrev pub sh : Expect → List Bracket → Shape
sh e bs = record { expect = e; brackets = bs }

-- Each term's tokens are taken.

abbrev ended_node : Term-F Term → Expect
ended_node (layer.Int n) = expect.Further
ended_node (layer.Str s) = expect.Further
ended_node (layer.Appl n []) = expect.Named
ended_node (layer.Appl n (t ∷ ts)) = expect.Further
ended_node (layer.List ts) = expect.Further

-- what is expected after a term
abbrev ended : Term → Expect
ended t = ended_node (out-Term t)

abbrev pub going : Expect → Bool
going expect.Term = false
going expect.First = false
going expect.Further = true
going expect.Named = true

going-ended : (x : Term-F Term) → going (ended_node x) ≡ true
going-ended (layer.Int n) = refl
going-ended (layer.Str s) = refl
going-ended (layer.Appl n []) = refl
going-ended (layer.Appl n (t ∷ ts)) = refl
going-ended (layer.List ts) = refl

-- a term is accepted as the first of a list if and only if it is accepted as any term
abbrev SameFirst : Term → Type 0
SameFirst t = (bs : List Bracket) (ks : List Token) → accepts (sh expect.First bs) (tokens_of t ++ ks) ≡ accepts (sh expect.Term bs) (tokens_of t ++ ks)

first-Appl : (n : List ℕ) (ts : List Term) → AllByRecursion SameFirst ts → SameFirst (term.Appl n ts)
first-Appl n [] all bs ks = rw (tokens-Appl n []) refl
first-Appl n (t ∷ ts) all bs ks = rw (tokens-Appl n (t ∷ ts)) refl

from_first : (t : Term) → SameFirst t
from_first = term_induction SameFirst
    (λ n bs ks. rw (tokens-Int n) refl)
    (λ s bs ks. rw (tokens-Str s) refl)
    first-Appl
    (λ ts all bs ks. rw (tokens-List ts) refl)

abbrev Taken : Term → Type 0
Taken t = (bs : List Bracket) (ks : List Token) → accepts (sh expect.Term bs) (tokens_of t ++ ks) ≡ accepts (sh (ended t) bs) ks

abbrev not_closing : Kind → Bool
not_closing kind.Comma = false
not_closing kind.RightParen = false
not_closing kind.RightBracket = false
not_closing _ = true

abbrev not_paren : Kind → Bool
not_paren kind.LeftParen = false
not_paren _ = true

abbrev pub Closes : Bracket → Token → Type 0
Closes b c = (e : Expect) → going e ≡ true → (bs : List Bracket) (ks : List Token) → accepts (sh e (b ∷ bs)) (c ∷ ks) ≡ accepts (sh expect.Further bs) ks

pub closes_paren : Closes Paren token.RightParen
closes_paren expect.Term g bs ks = absurd (false≢true g)
closes_paren expect.First g bs ks = absurd (false≢true g)
closes_paren expect.Further g bs ks = refl
closes_paren expect.Named g bs ks = refl

pub closes_square : Closes Square token.RightBracket
closes_square expect.Term g bs ks = absurd (false≢true g)
closes_square expect.First g bs ks = absurd (false≢true g)
closes_square expect.Further g bs ks = refl
closes_square expect.Named g bs ks = refl

goes_comma : (b : Bracket) (e : Expect) → going e ≡ true → (bs : List Bracket) (ks : List Token) → accepts (sh e (b ∷ bs)) (token.Comma ∷ ks) ≡ accepts (sh expect.Term (b ∷ bs)) ks
goes_comma b expect.Term g bs ks = absurd (false≢true g)
goes_comma b expect.First g bs ks = absurd (false≢true g)
goes_comma Paren expect.Further g bs ks = refl
goes_comma Square expect.Further g bs ks = refl
goes_comma Paren expect.Named g bs ks = refl
goes_comma Square expect.Named g bs ks = refl

further : (b : Bracket) (c : Token) → Closes b c → (ts : List Term) → AllByRecursion Taken ts → (e : Expect) → going e ≡ true → (bs : List Bracket) (ks : List Token) → accepts (sh e (b ∷ bs)) (flat_map after_comma (map tokens_of ts) ++ (c ∷ ks)) ≡ accepts (sh expect.Further bs) ks
further b c closes [] all e g bs ks = closes e g bs ks
further b c closes (u ∷ ts) all e g bs ks =
    let rest = flat_map after_comma (map tokens_of ts) in
    goes_comma b e g bs ((tokens_of u ++ rest) ++ (c ∷ ks))
    ∙ ap (λ l. accepts (sh expect.Term (b ∷ bs)) l) (append_assoc (tokens_of u) rest (c ∷ ks))
    ∙ all.0 (b ∷ bs) (rest ++ (c ∷ ks))
    ∙ further b c closes ts all.1 (ended u) (going-ended (out-Term u)) bs ks

-- the parts within brackets, up to the closing one
within : (b : Bracket) (c : Token) → Closes b c → (t : Term) (ts : List Term) → AllByRecursion Taken (t ∷ ts) → (bs : List Bracket) (ks : List Token) → accepts (sh expect.Term (b ∷ bs)) (with_commas (map tokens_of (t ∷ ts)) ++ (c ∷ ks)) ≡ accepts (sh expect.Further bs) ks
within b c closes t ts all bs ks =
    let rest = flat_map after_comma (map tokens_of ts) in
    ap (λ l. accepts (sh expect.Term (b ∷ bs)) l) (append_assoc (tokens_of t) rest (c ∷ ks))
    ∙ all.0 (b ∷ bs) (rest ++ (c ∷ ks))
    ∙ further b c closes ts all.1 (ended t) (going-ended (out-Term t)) bs ks

taken-Appl : (n : List ℕ) (ts : List Term) → AllByRecursion Taken ts → Taken (term.Appl n ts)
taken-Appl n [] all bs ks =
    ap (λ l. accepts (sh expect.Term bs) (l ++ ks)) (tokens-Appl n [])
    ∙ ap (λ x. accepts (sh (ended_node x) bs) ks) (sym (outs-Appl n []))
taken-Appl n (t ∷ ts) all bs ks =
    let inner = with_commas (map tokens_of (t ∷ ts)) in
    ap (λ l. accepts (sh expect.Term bs) (l ++ ks)) (tokens-Appl n (t ∷ ts))
    ∙ ap (λ l. accepts (sh expect.Term (Paren ∷ bs)) l) (append_assoc inner (token.RightParen ∷ []) ks)
    ∙ within Paren token.RightParen closes_paren t ts all bs ks
    ∙ ap (λ x. accepts (sh (ended_node x) bs) ks) (sym (outs-Appl n (t ∷ ts)))

taken-List : (ts : List Term) → AllByRecursion Taken ts → Taken (term.List ts)
taken-List [] all bs ks =
    ap (λ l. accepts (sh expect.Term bs) (l ++ ks)) (tokens-List [])
    ∙ ap (λ x. accepts (sh (ended_node x) bs) ks) (sym (outs-List []))
taken-List (t ∷ ts) all bs ks =
    let rest = flat_map after_comma (map tokens_of ts) in
    let inner = with_commas (map tokens_of (t ∷ ts)) in
    ap (λ l. accepts (sh expect.Term bs) (l ++ ks)) (tokens-List (t ∷ ts))
    ∙ ap (λ l. accepts (sh expect.First (Square ∷ bs)) l) (append_assoc inner (token.RightBracket ∷ []) ks ∙ append_assoc (tokens_of t) rest (token.RightBracket ∷ ks))
    ∙ from_first t (Square ∷ bs) (rest ++ (token.RightBracket ∷ ks))
    ∙ ap (λ l. accepts (sh expect.Term (Square ∷ bs)) l) (sym (append_assoc (tokens_of t) rest (token.RightBracket ∷ ks)))
    ∙ within Square token.RightBracket closes_square t ts all bs ks
    ∙ ap (λ x. accepts (sh (ended_node x) bs) ks) (sym (outs-List (t ∷ ts)))

taken : (t : Term) → Taken t
taken = term_induction Taken
    (λ n bs ks. ap (λ l. accepts (sh expect.Term bs) (l ++ ks)) (tokens-Int n) ∙ ap (λ x. accepts (sh (ended_node x) bs) ks) (sym (outs-Int n)))
    (λ s bs ks. ap (λ l. accepts (sh expect.Term bs) (l ++ ks)) (tokens-Str s) ∙ ap (λ x. accepts (sh (ended_node x) bs) ks) (sym (outs-Str s)))
    taken-Appl taken-List

pub may_end-going : (e : Expect) → going e ≡ true → may_end e [] ≡ true
may_end-going expect.Term g = absurd (false≢true g)
may_end-going expect.First g = absurd (false≢true g)
may_end-going expect.Further g = refl
may_end-going expect.Named g = refl

pub accepts-tokens_of : (t : Term) → accepts start (tokens_of t) ≡ true
accepts-tokens_of t =
    ap (λ l. accepts start l) (sym (append-nil (tokens_of t))) ∙ taken t [] [] ∙ may_end-going (ended t) (going-ended (out-Term t))

-- The taken tokens are those of a term.

abbrev bracket_of : Option (List ℕ) → Bracket
bracket_of None = Square
bracket_of (Some name) = Paren

abbrev brackets_of : List Frame → List Bracket
brackets_of [] = []
brackets_of (f ∷ fs) = bracket_of f.head ∷ brackets_of fs

abbrev head_tokens : Option (List ℕ) → List Token
head_tokens None = token.LeftBracket ∷ []
head_tokens (Some name) = token.Name name ∷ token.LeftParen ∷ []

abbrev before_comma : Term → List Token
before_comma t = tokens_of t ++ (token.Comma ∷ [])

abbrev frame_tokens : Frame → List Token
frame_tokens f = head_tokens f.head ++ flat_map before_comma f.parts

-- the tokens taken so far
abbrev opened : List Frame → List Token
opened [] = []
opened (f ∷ fs) = opened fs ++ frame_tokens f

abbrev done_tokens : Option Term → List Token
done_tokens None = []
done_tokens (Some t) = tokens_of t

abbrev consumed : Builder → List Token
consumed b = opened b.frames ++ done_tokens b.done

-- the tokens complete the taken tokens to those of a term
abbrev Sound : Builder → List Token → Type 0
Sound b ks = (t : Term) × ((built_from b ks).done ≡ Some t) × (consumed b ++ ks ≡ tokens_of t)

onward : (b next : Builder) (k : Token) (ks : List Token) → consumed next ≡ consumed b ++ (k ∷ []) → built_from b (k ∷ ks) ≡ built_from next ks → Sound next ks → Sound b (k ∷ ks)
onward b next k ks e same s =
    (s.0, ap (λ (x : Builder). x.done) same ∙ s.1, sym (append_assoc (consumed b) (k ∷ []) ks) ∙ ap (λ l. l ++ ks) (sym e) ∙ s.2)

-- a comma before each part: a comma, and the parts joined by commas
commas_first : (ts : List Term) (t : Term) → flat_map after_comma (map tokens_of (ts ++ (t ∷ []))) ≡ token.Comma ∷ with_commas (map tokens_of (ts ++ (t ∷ [])))
commas_first [] t = refl
commas_first (u ∷ ts) t = refl

with_commas-push : (ts : List Term) (t : Term) → with_commas (map tokens_of (ts ++ (t ∷ []))) ≡ flat_map before_comma ts ++ tokens_of t
with_commas-push [] t = append-nil (tokens_of t)
with_commas-push (u ∷ ts) t =
    ap (λ l. tokens_of u ++ l) (commas_first ts t ∙ ap (λ l. token.Comma ∷ l) (with_commas-push ts t))
    ∙ sym (append_assoc (tokens_of u) (token.Comma ∷ []) (flat_map before_comma ts ++ tokens_of t))
    ∙ sym (append_assoc (before_comma u) (flat_map before_comma ts) (tokens_of t))

appl-push : (n : List ℕ) (ts : List Term) (t : Term) → appl_tokens n (map tokens_of (ts ++ (t ∷ []))) ≡ (token.Name n ∷ token.LeftParen ∷ with_commas (map tokens_of (ts ++ (t ∷ [])))) ++ (token.RightParen ∷ [])
appl-push n [] t = refl
appl-push n (u ∷ ts) t = refl

abbrev closer : Option (List ℕ) → Token
closer None = token.RightBracket
closer (Some name) = token.RightParen

whole-push : (h : Option (List ℕ)) (ts : List Term) (t : Term) → tokens_of (whole h (ts ++ (t ∷ []))) ≡ ((head_tokens h ++ flat_map before_comma ts) ++ tokens_of t) ++ (closer h ∷ [])
whole-push None ts t =
    tokens-List (ts ++ (t ∷ [])) ∙ ap (λ l. (token.LeftBracket ∷ l) ++ (token.RightBracket ∷ [])) (with_commas-push ts t)
whole-push (Some n) ts t =
    tokens-Appl n (ts ++ (t ∷ [])) ∙ appl-push n ts t ∙ ap (λ l. (token.Name n ∷ token.LeftParen ∷ l) ++ (token.RightParen ∷ [])) (with_commas-push ts t)

consumed-leaf : (fs : List Frame) (t : Term) (k : Token) → tokens_of t ≡ k ∷ [] → opened fs ++ tokens_of t ≡ (opened fs ++ []) ++ (k ∷ [])
consumed-leaf fs t k e = ap (λ l. opened fs ++ l) e ∙ ap (λ l. l ++ (k ∷ [])) (sym (append-nil (opened fs)))

consumed-list : (fs : List Frame) → (opened fs ++ (token.LeftBracket ∷ [])) ++ [] ≡ (opened fs ++ []) ++ (token.LeftBracket ∷ [])
consumed-list fs = append-nil (opened fs ++ (token.LeftBracket ∷ [])) ∙ ap (λ l. l ++ (token.LeftBracket ∷ [])) (sym (append-nil (opened fs)))

consumed-paren : (fs : List Frame) (n : List ℕ) → (opened fs ++ (token.Name n ∷ token.LeftParen ∷ [])) ++ [] ≡ (opened fs ++ tokens_of (term.Appl n [])) ++ (token.LeftParen ∷ [])
consumed-paren fs n =
    append-nil (opened fs ++ (token.Name n ∷ token.LeftParen ∷ []))
    ∙ sym (append_assoc (opened fs) (token.Name n ∷ []) (token.LeftParen ∷ []))
    ∙ ap (λ l. (opened fs ++ l) ++ (token.LeftParen ∷ [])) (sym (tokens-Appl n []))

consumed-comma : (before : List Token) (h : List Token) (ts : List Term) (t : Term) → (before ++ (h ++ flat_map before_comma (ts ++ (t ∷ [])))) ++ [] ≡ ((before ++ (h ++ flat_map before_comma ts)) ++ tokens_of t) ++ (token.Comma ∷ [])
consumed-comma before h ts t =
    let parts = flat_map before_comma ts in
    append-nil (before ++ (h ++ flat_map before_comma (ts ++ (t ∷ []))))
    ∙ ap (λ l. before ++ (h ++ l)) (flat_map-append before_comma ts (t ∷ []) ∙ ap (λ l. parts ++ l) (append-nil (before_comma t)))
    ∙ ap (λ l. before ++ l) (sym (append_assoc h parts (before_comma t)))
    ∙ sym (append_assoc before (h ++ parts) (before_comma t))
    ∙ sym (append_assoc (before ++ (h ++ parts)) (tokens_of t) (token.Comma ∷ []))

consumed-close : (before : List Token) (h : Option (List ℕ)) (ts : List Term) (t : Term) → before ++ tokens_of (whole h (ts ++ (t ∷ []))) ≡ ((before ++ (head_tokens h ++ flat_map before_comma ts)) ++ tokens_of t) ++ (closer h ∷ [])
consumed-close before h ts t =
    let prefix = head_tokens h ++ flat_map before_comma ts in
    ap (λ l. before ++ l) (whole-push h ts t)
    ∙ sym (append_assoc before (prefix ++ tokens_of t) (closer h ∷ []))
    ∙ ap (λ l. l ++ (closer h ∷ [])) (sym (append_assoc before prefix (tokens_of t)))

consumed-empty : (fs : List Frame) → opened fs ++ tokens_of (term.List []) ≡ ((opened fs ++ (token.LeftBracket ∷ [])) ++ []) ++ (token.RightBracket ∷ [])
consumed-empty fs =
    ap (λ l. opened fs ++ l) (tokens-List [])
    ∙ sym (append_assoc (opened fs) (token.LeftBracket ∷ []) (token.RightBracket ∷ []))
    ∙ ap (λ l. l ++ (token.RightBracket ∷ [])) (sym (append-nil (opened fs ++ (token.LeftBracket ∷ []))))

-- the innermost bracket determines the tokens that can follow a term
comma_next : (h : Option (List ℕ)) (bs : List Bracket) (ks : List Token) → accepts (sh expect.Further (bracket_of h ∷ bs)) (token.Comma ∷ ks) ≡ accepts (sh expect.Term (bracket_of h ∷ bs)) ks
comma_next None bs ks = refl
comma_next (Some n) bs ks = refl

paren_next : (h : Option (List ℕ)) (bs : List Bracket) (ks : List Token) → accepts (sh expect.Further (bracket_of h ∷ bs)) (token.RightParen ∷ ks) ≡ true → (closer h ≡ token.RightParen) × (accepts (sh expect.Further bs) ks ≡ true)
paren_next None bs ks e = absurd (false≢true e)
paren_next (Some n) bs ks e = (refl, e)

square_next : (h : Option (List ℕ)) (bs : List Bracket) (ks : List Token) → accepts (sh expect.Further (bracket_of h ∷ bs)) (token.RightBracket ∷ ks) ≡ true → (closer h ≡ token.RightBracket) × (accepts (sh expect.Further bs) ks ≡ true)
square_next None bs ks e = (refl, e)
square_next (Some n) bs ks e = absurd (false≢true e)

not_further : (h : Option (List ℕ)) (bs : List Bracket) (next : Kind) → not_closing next ≡ true → allows (sh expect.Further (bracket_of h ∷ bs)) next ≡ false
not_further None bs kind.Int e = refl
not_further None bs kind.Str e = refl
not_further None bs kind.Name e = refl
not_further None bs kind.LeftParen e = refl
not_further None bs kind.LeftBracket e = refl
not_further None bs kind.Other e = refl
not_further None bs kind.RightParen e = absurd (false≢true e)
not_further None bs kind.RightBracket e = absurd (false≢true e)
not_further None bs kind.Comma e = absurd (false≢true e)
not_further (Some n) bs kind.Int e = refl
not_further (Some n) bs kind.Str e = refl
not_further (Some n) bs kind.Name e = refl
not_further (Some n) bs kind.LeftParen e = refl
not_further (Some n) bs kind.LeftBracket e = refl
not_further (Some n) bs kind.Other e = refl
not_further (Some n) bs kind.RightParen e = absurd (false≢true e)
not_further (Some n) bs kind.RightBracket e = absurd (false≢true e)
not_further (Some n) bs kind.Comma e = absurd (false≢true e)

refused : (h : Option (List ℕ)) (bs : List Bracket) (k : Token) (ks : List Token) → not_closing (kind_of_token k) ≡ true → accepts (sh expect.Further (bracket_of h ∷ bs)) (k ∷ ks) ≡ true → ⊥
refused h bs k ks n e =
    let no : allows (sh expect.Further (bracket_of h ∷ bs)) (kind_of_token k) ≡ false = not_further h bs (kind_of_token k) n in
    false≢true (sym (ap (λ v. v && accepts (after (sh expect.Further (bracket_of h ∷ bs)) k) ks) no) ∙ e)

-- after a name, as after any term, if no parenthesis follows
as_further : (bs : List Bracket) (k : Token) (ks : List Token) → not_paren (kind_of_token k) ≡ true → accepts (sh expect.Named bs) (k ∷ ks) ≡ accepts (sh expect.Further bs) (k ∷ ks)
as_further bs (token.Int n) ks e = refl
as_further bs (token.Str n) ks e = refl
as_further bs (token.Name n) ks e = refl
as_further bs token.LeftParen ks e = absurd (false≢true e)
as_further bs token.LeftBracket ks e = refl
as_further bs token.RightParen ks e = refl
as_further bs token.RightBracket ks e = refl
as_further bs token.Comma ks e = refl

abbrev at : Option Term → List Frame → Builder
at d fs = record { done = d; frames = fs }

abbrev frame : Option (List ℕ) → List Term → Frame
frame h ts = record { head = h; parts = ts }

mutual
  sound_term : (ks : List Token) (fs : List Frame) → accepts (sh expect.Term (brackets_of fs)) ks ≡ true → Sound (at None fs) ks
  sound_term [] fs e = absurd (false≢true e)
  sound_term (token.Int n ∷ ks) fs e = onward (at None fs) (holds (term.Int n) fs) (token.Int n) ks (consumed-leaf fs (term.Int n) (token.Int n) (tokens-Int n)) refl (sound_further ks (term.Int n) fs e)
  sound_term (token.Str s ∷ ks) fs e = onward (at None fs) (holds (term.Str s) fs) (token.Str s) ks (consumed-leaf fs (term.Str s) (token.Str s) (tokens-Str s)) refl (sound_further ks (term.Str s) fs e)
  sound_term (token.Name n ∷ ks) fs e = onward (at None fs) (holds (term.Appl n []) fs) (token.Name n) ks (consumed-leaf fs (term.Appl n []) (token.Name n) (tokens-Appl n [])) refl (sound_named ks n fs e)
  sound_term (token.LeftBracket ∷ ks) fs e = onward (at None fs) (opens None fs) token.LeftBracket ks (consumed-list fs) refl (sound_first ks fs e)
  sound_term (token.LeftParen ∷ ks) fs e = absurd (false≢true e)
  sound_term (token.RightParen ∷ ks) fs e = absurd (false≢true e)
  sound_term (token.RightBracket ∷ ks) fs e = absurd (false≢true e)
  sound_term (token.Comma ∷ ks) fs e = absurd (false≢true e)

  sound_first : (ks : List Token) (fs : List Frame) → accepts (sh expect.First (Square ∷ brackets_of fs)) ks ≡ true → Sound (opens None fs) ks
  sound_first [] fs e = absurd (false≢true e)
  sound_first (token.Int n ∷ ks) fs e = onward (opens None fs) (holds (term.Int n) (frame None [] ∷ fs)) (token.Int n) ks (consumed-leaf (frame None [] ∷ fs) (term.Int n) (token.Int n) (tokens-Int n)) refl (sound_further ks (term.Int n) (frame None [] ∷ fs) e)
  sound_first (token.Str s ∷ ks) fs e = onward (opens None fs) (holds (term.Str s) (frame None [] ∷ fs)) (token.Str s) ks (consumed-leaf (frame None [] ∷ fs) (term.Str s) (token.Str s) (tokens-Str s)) refl (sound_further ks (term.Str s) (frame None [] ∷ fs) e)
  sound_first (token.Name n ∷ ks) fs e = onward (opens None fs) (holds (term.Appl n []) (frame None [] ∷ fs)) (token.Name n) ks (consumed-leaf (frame None [] ∷ fs) (term.Appl n []) (token.Name n) (tokens-Appl n [])) refl (sound_named ks n (frame None [] ∷ fs) e)
  sound_first (token.LeftBracket ∷ ks) fs e = onward (opens None fs) (opens None (frame None [] ∷ fs)) token.LeftBracket ks (consumed-list (frame None [] ∷ fs)) refl (sound_first ks (frame None [] ∷ fs) e)
  sound_first (token.RightBracket ∷ ks) fs e = onward (opens None fs) (holds (term.List []) fs) token.RightBracket ks (consumed-empty fs) refl (sound_further ks (term.List []) fs e)
  sound_first (token.LeftParen ∷ ks) fs e = absurd (false≢true e)
  sound_first (token.RightParen ∷ ks) fs e = absurd (false≢true e)
  sound_first (token.Comma ∷ ks) fs e = absurd (false≢true e)

  sound_further : (ks : List Token) (t : Term) (fs : List Frame) → accepts (sh expect.Further (brackets_of fs)) ks ≡ true → Sound (holds t fs) ks
  sound_further [] t [] e = (t, refl, append-nil (tokens_of t))
  sound_further [] t (f ∷ fs) e = absurd (false≢true e)
  sound_further (k ∷ ks) t [] e = absurd (false≢true e)
  sound_further (token.Comma ∷ ks) t (f ∷ fs) e =
      onward (holds t (f ∷ fs)) (at None (frame f.head (f.parts ++ (t ∷ [])) ∷ fs)) token.Comma ks (consumed-comma (opened fs) (head_tokens f.head) f.parts t) refl
      (sound_term ks (frame f.head (f.parts ++ (t ∷ [])) ∷ fs) (sym (comma_next f.head (brackets_of fs) ks) ∙ e))
  sound_further (token.RightParen ∷ ks) t (f ∷ fs) e =
      let next = paren_next f.head (brackets_of fs) ks e in
      let done = whole f.head (f.parts ++ (t ∷ [])) in
      onward (holds t (f ∷ fs)) (holds done fs) token.RightParen ks (consumed-close (opened fs) f.head f.parts t ∙ ap (λ c. consumed (holds t (f ∷ fs)) ++ (c ∷ [])) next.0) refl (sound_further ks done fs next.1)
  sound_further (token.RightBracket ∷ ks) t (f ∷ fs) e =
      let next = square_next f.head (brackets_of fs) ks e in
      let done = whole f.head (f.parts ++ (t ∷ [])) in
      onward (holds t (f ∷ fs)) (holds done fs) token.RightBracket ks (consumed-close (opened fs) f.head f.parts t ∙ ap (λ c. consumed (holds t (f ∷ fs)) ++ (c ∷ [])) next.0) refl (sound_further ks done fs next.1)
  sound_further (token.Int n ∷ ks) t (f ∷ fs) e = absurd (refused f.head (brackets_of fs) (token.Int n) ks refl e)
  sound_further (token.Str n ∷ ks) t (f ∷ fs) e = absurd (refused f.head (brackets_of fs) (token.Str n) ks refl e)
  sound_further (token.Name n ∷ ks) t (f ∷ fs) e = absurd (refused f.head (brackets_of fs) (token.Name n) ks refl e)
  sound_further (token.LeftParen ∷ ks) t (f ∷ fs) e = absurd (refused f.head (brackets_of fs) token.LeftParen ks refl e)
  sound_further (token.LeftBracket ∷ ks) t (f ∷ fs) e = absurd (refused f.head (brackets_of fs) token.LeftBracket ks refl e)

  sound_named : (ks : List Token) (n : List ℕ) (fs : List Frame) → accepts (sh expect.Named (brackets_of fs)) ks ≡ true → Sound (holds (term.Appl n []) fs) ks
  sound_named [] n [] e = (term.Appl n [], refl, append-nil (tokens_of (term.Appl n [])))
  sound_named [] n (f ∷ fs) e = absurd (false≢true e)
  sound_named (token.LeftParen ∷ ks) n fs e =
      onward (holds (term.Appl n []) fs) (opens (Some n) fs) token.LeftParen ks (consumed-paren fs n) (ap (λ h. built_from (opens (head_of h) fs) ks) (outs-Appl n [])) (sound_term ks (frame (Some n) [] ∷ fs) e)
  sound_named (token.Comma ∷ ks) n (f ∷ fs) e =
      let t = term.Appl n [] in
      onward (holds t (f ∷ fs)) (at None (frame f.head (f.parts ++ (t ∷ [])) ∷ fs)) token.Comma ks (consumed-comma (opened fs) (head_tokens f.head) f.parts t) refl
      (sound_term ks (frame f.head (f.parts ++ (t ∷ [])) ∷ fs) (sym (comma_next f.head (brackets_of fs) ks) ∙ sym (as_further (brackets_of (f ∷ fs)) token.Comma ks refl) ∙ e))
  sound_named (token.RightParen ∷ ks) n (f ∷ fs) e =
      let t = term.Appl n [] in
      let next = paren_next f.head (brackets_of fs) ks (sym (as_further (brackets_of (f ∷ fs)) token.RightParen ks refl) ∙ e) in
      let done = whole f.head (f.parts ++ (t ∷ [])) in
      onward (holds t (f ∷ fs)) (holds done fs) token.RightParen ks (consumed-close (opened fs) f.head f.parts t ∙ ap (λ c. consumed (holds t (f ∷ fs)) ++ (c ∷ [])) next.0) refl (sound_further ks done fs next.1)
  sound_named (token.RightBracket ∷ ks) n (f ∷ fs) e =
      let t = term.Appl n [] in
      let next = square_next f.head (brackets_of fs) ks (sym (as_further (brackets_of (f ∷ fs)) token.RightBracket ks refl) ∙ e) in
      let done = whole f.head (f.parts ++ (t ∷ [])) in
      onward (holds t (f ∷ fs)) (holds done fs) token.RightBracket ks (consumed-close (opened fs) f.head f.parts t ∙ ap (λ c. consumed (holds t (f ∷ fs)) ++ (c ∷ [])) next.0) refl (sound_further ks done fs next.1)
  sound_named (token.Int m ∷ ks) n (f ∷ fs) e = absurd (refused f.head (brackets_of fs) (token.Int m) ks refl (sym (as_further (brackets_of (f ∷ fs)) (token.Int m) ks refl) ∙ e))
  sound_named (token.Str m ∷ ks) n (f ∷ fs) e = absurd (refused f.head (brackets_of fs) (token.Str m) ks refl (sym (as_further (brackets_of (f ∷ fs)) (token.Str m) ks refl) ∙ e))
  sound_named (token.Name m ∷ ks) n (f ∷ fs) e = absurd (refused f.head (brackets_of fs) (token.Name m) ks refl (sym (as_further (brackets_of (f ∷ fs)) (token.Name m) ks refl) ∙ e))
  sound_named (token.LeftBracket ∷ ks) n (f ∷ fs) e = absurd (refused f.head (brackets_of fs) token.LeftBracket ks refl (sym (as_further (brackets_of (f ∷ fs)) token.LeftBracket ks refl) ∙ e))
  sound_named (token.Int m ∷ ks) n [] e = absurd (false≢true e)
  sound_named (token.Str m ∷ ks) n [] e = absurd (false≢true e)
  sound_named (token.Name m ∷ ks) n [] e = absurd (false≢true e)
  sound_named (token.LeftBracket ∷ ks) n [] e = absurd (false≢true e)
  sound_named (token.Comma ∷ ks) n [] e = absurd (false≢true e)
  sound_named (token.RightParen ∷ ks) n [] e = absurd (false≢true e)
  sound_named (token.RightBracket ∷ ks) n [] e = absurd (false≢true e)

pub term-accepts : (ks : List Token) → accepts start ks ≡ true → (t : Term) × ((built_from nothing ks).done ≡ Some t) × (ks ≡ tokens_of t)
term-accepts ks e = sound_term ks [] e
