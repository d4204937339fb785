-- The tokens of a term build that term, and no other term has the same tokens.
use Rattle.std.proofs.Common.{◌≡◌, ℕ, List, [], ◌∷◌, ◌++◌, map, Option, Some, None, refl, ap, sym, ◌∙◌, append_assoc, append-nil}
use Rattle.std.specs.List.{flat_map, AllByRecursion}
use Rattle.tb_terms.specs.declared.term.Term.{Term}
use Rattle.tb_terms.specs.declared.term.Term.TheVariants as term
use Rattle.tb_terms.specs.declared.term.Term.TheVariants.{outs-Appl}
use Rattle.tb_terms.proofs.Induction.{term_induction, fold-Int, fold-Str, fold-Appl, fold-List}
use Rattle.tb_read.specs.declared.token.Token.{Token}
use Rattle.tb_read.specs.declared.token.Token.TheVariants as token
use Rattle.tb_read.specs.declared.build.Builder.{Builder}
use Rattle.tb_read.specs.declared.build.Frame.{Frame}
use Rattle.tb_read.specs.Tokens.{tokens_of, tokens_step, appl_tokens, list_tokens, with_commas, after_comma}
use Rattle.tb_read.specs.Helpers.Building.{built_from, build_step, holds, opens, closed, whole, nothing, head_of}

pub tokens-Int : (n : _) → tokens_of (term.Int n) ≡ token.Int n ∷ []
tokens-Int n = fold-Int (List Token) tokens_step n

pub tokens-Str : (s : List ℕ) → tokens_of (term.Str s) ≡ token.Str s ∷ []
tokens-Str s = fold-Str (List Token) tokens_step s

pub tokens-Appl : (n : List ℕ) (ts : List Term) → tokens_of (term.Appl n ts) ≡ appl_tokens n (map tokens_of ts)
tokens-Appl n ts = fold-Appl (List Token) tokens_step n ts

pub tokens-List : (ts : List Term) → tokens_of (term.List ts) ≡ list_tokens (map tokens_of ts)
tokens-List ts = fold-List (List Token) tokens_step ts

abbrev frame : Option (List ℕ) → List Term → Frame
frame head parts = record { head = head; parts = parts }

-- in any state of the builder, the tokens of a term build it
abbrev Makes : Term → Type 0
Makes t = (b : Builder) (ks : List Token) → built_from b (tokens_of t ++ ks) ≡ built_from (holds t b.frames) ks

abbrev Closes : Token → Type 0
Closes c = (b : Builder) → build_step b c ≡ closed b.done b.frames

-- further parts, each after its comma, up to the closing bracket
further : (c : Token) → Closes c → (ts : List Term) → AllByRecursion Makes ts → (h : Option (List ℕ)) (parts : List Term) (t : Term) (frames : List Frame) (ks : List Token) → built_from (holds t (frame h parts ∷ frames)) (flat_map after_comma (map tokens_of ts) ++ (c ∷ ks)) ≡ built_from (holds (whole h (parts ++ t ∷ ts)) frames) ks
further c closes [] all h parts t frames ks = ap (λ b. built_from b ks) (closes (holds t (frame h parts ∷ frames)))
further c closes (u ∷ ts) all h parts t frames ks =
    let rest = flat_map after_comma (map tokens_of ts) in
    let next : Builder = record { done = None; frames = frame h (parts ++ t ∷ []) ∷ frames } in
    ap (λ l. built_from next l) (append_assoc (tokens_of u) rest (c ∷ ks))
    ∙ all.0 next (rest ++ (c ∷ ks))
    ∙ further c closes ts all.1 h (parts ++ t ∷ []) u frames ks
    ∙ ap (λ l. built_from (holds (whole h l) frames) ks) (append_assoc parts (t ∷ []) (u ∷ ts))

-- the parts between brackets
within : (c : Token) → Closes c → (t : Term) (ts : List Term) → AllByRecursion Makes (t ∷ ts) → (h : Option (List ℕ)) (frames : List Frame) (ks : List Token) → built_from (opens h frames) (with_commas (map tokens_of (t ∷ ts)) ++ (c ∷ ks)) ≡ built_from (holds (whole h (t ∷ ts)) frames) ks
within c closes t ts all h frames ks =
    let rest = flat_map after_comma (map tokens_of ts) in
    ap (λ l. built_from (opens h frames) l) (append_assoc (tokens_of t) rest (c ∷ ks))
    ∙ all.0 (opens h frames) (rest ++ (c ∷ ks))
    ∙ further c closes ts all.1 h [] t frames ks

makes-Appl : (n : List ℕ) (ts : List Term) → AllByRecursion Makes ts → Makes (term.Appl n ts)
makes-Appl n [] all b ks = ap (λ l. built_from b (l ++ ks)) (tokens-Appl n [])
makes-Appl n (t ∷ ts) all b ks =
    let inner = with_commas (map tokens_of (t ∷ ts)) in
    let named : Builder = holds (term.Appl n []) b.frames in
    ap (λ l. built_from b (l ++ ks)) (tokens-Appl n (t ∷ ts))
    ∙ ap (λ l. built_from (build_step named token.LeftParen) l) (append_assoc inner (token.RightParen ∷ []) ks)
    ∙ ap (λ h. built_from (opens h b.frames) (inner ++ (token.RightParen ∷ ks))) (ap head_of (outs-Appl n []))
    ∙ within token.RightParen (λ _. refl) t ts all (Some n) b.frames ks

makes-List : (ts : List Term) → AllByRecursion Makes ts → Makes (term.List ts)
makes-List [] all b ks = ap (λ l. built_from b (l ++ ks)) (tokens-List [])
makes-List (t ∷ ts) all b ks =
    let inner = with_commas (map tokens_of (t ∷ ts)) in
    ap (λ l. built_from b (l ++ ks)) (tokens-List (t ∷ ts))
    ∙ ap (λ l. built_from (opens None b.frames) l) (append_assoc inner (token.RightBracket ∷ []) ks)
    ∙ within token.RightBracket (λ _. refl) t ts all None b.frames ks

pub makes : (t : Term) → Makes t
makes = term_induction Makes (λ n b ks. ap (λ l. built_from b (l ++ ks)) (tokens-Int n)) (λ s b ks. ap (λ l. built_from b (l ++ ks)) (tokens-Str s)) makes-Appl makes-List

-- the tokens of a term alone
pub built-tokens_of : (t : Term) → (built_from nothing (tokens_of t)).done ≡ Some t
built-tokens_of t = ap (λ l. (built_from nothing l).done) (sym (append-nil (tokens_of t))) ∙ ap (λ (b : Builder). b.done) (makes t nothing [])

-- no two terms have the same tokens
pub tokens_of-injective : (t u : Term) → tokens_of t ≡ tokens_of u → t ≡ u
tokens_of-injective t u e =
    let same : ◌≡◌ {A = Option Term} (Some t) (Some u) = sym (built-tokens_of t) ∙ ap (λ l. (built_from nothing l).done) e ∙ built-tokens_of u in
    cc
