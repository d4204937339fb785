-- The number of open brackets after one more token.
use Rattle.std.proofs.Common.{◌≡◌, ℕ, ◌+◌, ◌<◌, ◌≤◌, List, length, take, get_or, refl, sym, ap, ◌∙◌, arith, below_more}
use Rattle.std.proofs.lemmas.List.{get_or-map, length-map}
use Rattle.std.proofs.lemmas.List.Sums.{fold_more}
use Rattle.tb_lex.specs.declared.kind.TokenKind.{TokenKind}
use Rattle.tb_lex.specs.declared.token.Token.{Token}
use Rattle.tb_syntax.specs.Limits.{open_step, open_brackets, IsTooDeep}
use Rattle.tb_syntax.specs.Spelling.{kinds_of}
use Rattle.tb_parse.specs.Faults.{NoneTooDeep}

pub same_length : (tokens : List Token) → length (kinds_of tokens) ≡ length tokens
same_length tokens = length-map tokens (λ (token : Token). token.kind)

open_more : (tokens : List Token) (i : ℕ) (t : Token) → i < length tokens → t ≡ get_or tokens i t
    → open_brackets (take (i + 1) (kinds_of tokens)) ≡ open_step (open_brackets (take i (kinds_of tokens))) t.kind
open_more tokens i t h e =
    let inside : i < length (kinds_of tokens) = omega (arith, same_length tokens) in
    fold_more open_step 0 (kinds_of tokens) i t.kind inside
    ∙ ap (λ (k : TokenKind). open_step (open_brackets (take i (kinds_of tokens))) k) (get_or-map (λ (token : Token). token.kind) tokens i t t.kind h ∙ ap (λ (t : Token). t.kind) (sym e))

-- what is known before a position
pub record Counted (tokens : List Token) (position count : ℕ) : Type 0 where
  pub same : count ≡ open_brackets (take position (kinds_of tokens))
  pub few : count ≤ 128
  pub none_before : (earlier : ℕ) → earlier < position → open_brackets (take (earlier + 1) (kinds_of tokens)) ≤ 128

counted : {tokens : List Token} {position count : ℕ} {t : Token} {behind : ℕ} → Counted tokens position count → position < length tokens → t ≡ get_or tokens position t
    → behind ≡ open_step count t.kind → behind ≡ open_brackets (take (position + 1) (kinds_of tokens))
counted {tokens} {position} {count} {t} {behind} known h e step = step ∙ ap (λ n. open_step n t.kind) known.same ∙ sym (open_more tokens position t h e)

pub counted_more : {tokens : List Token} {position count : ℕ} {t : Token} {behind : ℕ} → Counted tokens position count → position < length tokens → t ≡ get_or tokens position t
    → behind ≡ open_step count t.kind → behind ≤ 128 → Counted tokens (position + 1) behind
counted_more {tokens} {position} {count} {t} {behind} known h e step low =
    let same = counted known h e step in
    let here : open_brackets (take (position + 1) (kinds_of tokens)) ≤ 128 = omega (arith, same) in
    record {
      same = same;
      few = low;
      none_before = below_more (λ earlier. open_brackets (take (earlier + 1) (kinds_of tokens)) ≤ 128) position known.none_before here;
    }

pub counted_over : {tokens : List Token} {position count : ℕ} {t : Token} {behind : ℕ} → Counted tokens position count → position < length tokens → t ≡ get_or tokens position t
    → behind ≡ open_step count t.kind → 128 < behind → IsTooDeep (kinds_of tokens) position
counted_over {tokens} {position} known h e step over =
    let same = counted known h e step in
    record { is_position = omega (arith, same_length tokens); is_over = omega (arith, same); none_before = known.none_before }

pub counted_all : {tokens : List Token} {position count : ℕ} → Counted tokens position count → length tokens ≤ position → NoneTooDeep (kinds_of tokens)
counted_all {tokens} known all = λ position h. known.none_before position (omega (arith, same_length tokens))

pub counted_none : (tokens : List Token) → Counted tokens 0 0
counted_none tokens = record { same = refl; few = omega arith; none_before = λ earlier h. absurd (omega arith) }
