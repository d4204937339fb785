-- The source's bytes between a token's positions spell the token.
use Rattle.std.proofs.Common.{◌≡◌, ℕ, ◌+◌, ◌-◌, ◌≤◌, ◌<◌, List, [], ◌∷◌, ◌++◌, length, take, drop, refl, ap, sym, ◌∙◌, subst, arith, append_assoc, inr}
use Rattle.std.proofs.Math.Seq.{take-append_seam, drop-append_seam}
use Rattle.std.proofs.lemmas.List.{length-append}
use Rattle.std.specs.List.{slice_range}
use Rattle.tb_lex.specs.declared.token.Token.{Token}
use Rattle.tb_lex.specs.Tokens.{SpellsKind, TokensThen, Lexes, AreSlices}
use Rattle.tb_lex.proofs.Runs.{piece_some}

slice_is : (whole pre text rest : List ℕ) (from to : ℕ) → whole ≡ pre ++ (text ++ rest) → from ≡ length pre → to ≡ from + length text → slice_range whole from to ≡ text
slice_is whole pre text rest from to e f t =
    let len : to - from ≡ length text = omega arith in
    let behind : drop from whole ≡ text ++ rest = ap (λ n. drop n whole) f ∙ ap (drop (length pre)) e ∙ drop-append_seam pre (text ++ rest) in
    ap (λ n. take n (drop from whole)) len ∙ ap (take (length text)) behind ∙ take-append_seam text rest

slices : (P : ℕ → List ℕ → Type 0) (tokens : List Token) (whole pre bytes : List ℕ) (position : ℕ) → whole ≡ pre ++ bytes → position ≡ length pre → TokensThen P position bytes tokens → AreSlices whole position tokens
slices P [] whole pre bytes position e p t =
    let len : length whole ≡ length pre + length bytes = ap (λ (l : List ℕ). length l) e ∙ length-append pre bytes in
    omega arith
slices P (token ∷ tokens) whole pre bytes position e p t =
    let gap = t.0 in
    let text = t.1 in
    let rest = t.2 in
    let prefix = pre ++ gap in
    let at : whole ≡ prefix ++ (text ++ rest) = e ∙ ap (λ (l : List ℕ). pre ++ l) (t.3 ∙ append_assoc gap text rest) ∙ sym (append_assoc pre gap (text ++ rest)) in
    let front_len : length prefix ≡ length pre + length gap = length-append pre gap in
    let from : token.from ≡ length prefix = t.5.from ∙ omega arith in
    let to : token.to ≡ token.from + length text = t.5.to ∙ ap (λ n. n + length text) (sym t.5.from) in
    let some : 1 ≤ length text = piece_some text (inr (token.kind, t.5.spelled)) in
    let slice = slice_is whole prefix text rest token.from token.to at from to in
    let behind_len : length (prefix ++ text) ≡ length prefix + length text = length-append prefix text in
    let next : token.to ≡ length (prefix ++ text) = to ∙ omega arith in
    let more = slices P tokens whole (prefix ++ text) rest token.to (at ∙ sym (append_assoc prefix text rest)) next t.6 in
    let below : position ≤ token.from = omega arith in
    let filled : token.from < token.to = omega arith in
    (below, filled, subst (SpellsKind token.kind) (sym slice) t.5.spelled, more)

pub lexes_slices : (bytes : List ℕ) (tokens : List Token) → Lexes bytes tokens → AreSlices bytes 0 tokens
lexes_slices bytes tokens l = slices _ tokens bytes [] bytes 0 refl refl l
