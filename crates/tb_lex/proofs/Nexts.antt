-- The next token or error, from the bytes after the gap.
use Rattle.std.proofs.Common.{◌≡◌, ℕ, ◌-◌, false, cond, List, [], ◌∷◌, length, Some, Err, ap, sym, ◌∙◌, subst}
use Rattle.std.proofs.lemmas.Bool.{ne_eqb}
use Rattle.std.specs.List.{slice_get}
use Rattle.tb_lex.specs.declared.fault.LexFault.{LexFault}
use Rattle.tb_lex.specs.declared.fault.LexFault.TheVariants as fault
use Rattle.tb_lex.specs.Helpers.Scanning.{skip_gap, head_of, piece_at, Ends, made, next_at, next_of}

pub next_err : (count total : ℕ) (bytes skipped : List ℕ) (byte : ℕ) (f : LexFault) → skipped ≡ skip_gap false bytes → Some byte ≡ slice_get skipped 0 → (count ≡ 200000 → ⊥) → piece_at (head_of byte) total skipped ≡ Err f → next_of 200000 count total bytes ≡ Ends (Some f)
next_err count total bytes [] byte f e s n h = cc
next_err count total bytes (b ∷ l) byte f e s n h =
    let same : byte ≡ b = cc in
    let found : piece_at (head_of b) total (b ∷ l) ≡ Err f = subst (λ m. piece_at (head_of m) total (b ∷ l) ≡ Err f) same h in
    ap (next_at 200000 count total) (sym e)
    ∙ ap (λ v. cond v (Ends (Some fault.TooMany)) (made total (total - length (b ∷ l)) (piece_at (head_of b) total (b ∷ l)))) (ne_eqb count 200000 n)
    ∙ ap (made total (total - length (b ∷ l))) found
