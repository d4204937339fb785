-- The ring's script is within the limits of tokens, open brackets and heights.
use Rattle.std.proofs.Common.{◌≡◌, ℕ, zero, suc, ◌+◌, ◌-◌, ◌*◌, ◌≤◌, ◌<◌, Bool, true, ◌&&◌, List, [], ◌∷◌, ◌++◌, length, take, fold, None, refl, ap, sym, ◌∙◌, subst, arith, rules, add-one, leb}
use Rattle.std.proofs.lemmas.Bool.{and_parts, leb-true}
use Rattle.std.proofs.lemmas.List.{length-map, length-append}
use Rattle.tb_lex.specs.declared.token.Token.{Token}
use Rattle.tb_lex.specs.declared.kind.TokenKind.{TokenKind}
use Rattle.tb_syntax.specs.declared.proc.Proc.{the_lemmas as proc_lemmas}
use Rattle.tb_syntax.specs.Limits.{open_step, open_brackets, height, first_too_high}
use Rattle.tb_syntax.specs.Spelling.{kinds_of}
use Rattle.tb_parse.specs.Faults.{NoneTooDeep, IsScriptOf}
use Rattle.tb_ring_law.specs.Helpers.Pieces.{kinds_in, front_pieces, links, ring_links, links_kinds, ring_kinds, right}
use Rattle.tb_ring_law.specs.Helpers.Trees.{node_body, first_body, ring_script}
use Rattle.tb_ring_law.proofs.Spelt.{ring-spelt}

-- behind each of the tokens no more are open than may be
abbrev are_shallow : ℕ → List TokenKind → Bool
are_shallow count [] = true
are_shallow count (kind ∷ kinds) = leb (open_step count kind) 128 && are_shallow (open_step count kind) kinds

shallow-at : (count : ℕ) (kinds : List TokenKind) (position : ℕ) → are_shallow count kinds ≡ true → position < length kinds → fold open_step count (take (suc position) kinds) ≤ 128
shallow-at count [] position h within = absurd (omega (arith, within))
shallow-at count (kind ∷ kinds) zero h within = leb-true (open_step count kind) 128 (and_parts (leb (open_step count kind) 128) (are_shallow (open_step count kind) kinds) h).0
shallow-at count (kind ∷ kinds) (suc position) h within =
    shallow-at (open_step count kind) kinds position (and_parts (leb (open_step count kind) 128) (are_shallow (open_step count kind) kinds) h).1 (omega (arith, within))

links-shallow : (i count : ℕ) → are_shallow 1 (links_kinds (links i count) ++ kinds_in (right ∷ [])) ≡ true
links-shallow i zero = refl
links-shallow i (suc count) = links-shallow (i + 1) count

ring-shallow : (n messages : ℕ) → are_shallow 0 (ring_kinds n messages) ≡ true
ring-shallow n messages = links-shallow 2 (n - 2)

none-too-deep : (n messages : ℕ) → NoneTooDeep (ring_kinds n messages)
none-too-deep n messages position within =
    subst (λ (p : ℕ). open_brackets (take p (ring_kinds n messages)) ≤ 128) (sym (add-one position)) (shallow-at 0 (ring_kinds n messages) position (ring-shallow n messages) within)

node-height : height node_body ≡ 4
node-height = search (rules, proc_lemmas)

first-height : (messages : ℕ) → height (first_body messages) ≡ 6
first-height messages = search (rules, proc_lemmas)

low : (n messages : ℕ) → first_too_high (ring_script n messages).procs ≡ None
low n messages = rw node-height (rw (first-height messages) refl)

pub ring-parsed : (n messages : ℕ) → IsScriptOf (ring_kinds n messages) (ring_script n messages)
ring-parsed n messages = record { shallow = none-too-deep n messages; spells = ring-spelt n messages; low = low n messages }

links-many : (i count : ℕ) → length (links_kinds (links i count)) ≡ 7 * (count + 1)
links-many i zero = refl
links-many i (suc count) = let behind = links-many (i + 1) count in omega (arith, behind)

-- there are few tokens
pub few-tokens : (n messages : ℕ) (tokens : List Token) → 2 ≤ n → n ≤ 10000 → kinds_of tokens ≡ ring_kinds n messages → length tokens ≤ 200000
few-tokens n messages tokens least most are =
    let same : length (kinds_of tokens) ≡ length tokens = length-map tokens (λ (token : Token). token.kind) in
    let kinds : length (kinds_of tokens) ≡ length (ring_kinds n messages) = ap (λ (ks : List TokenKind). length ks) are in
    let many = links-many 2 (n - 2) in
    let all : length (ring_kinds n messages) ≡ 97 + (length (links_kinds (ring_links n)) + 1) =
    length-append (kinds_in (front_pieces messages)) (links_kinds (ring_links n) ++ kinds_in (right ∷ [])) ∙ ap (λ (l : ℕ). 97 + l) (length-append (links_kinds (ring_links n)) (kinds_in (right ∷ []))) in
    omega (arith, same, kinds, many, all, least, most)
