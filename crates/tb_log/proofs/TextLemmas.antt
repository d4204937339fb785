-- The text of a log in pieces.
use Rattle.std.proofs.Common.{◌≡◌, ◌+◌, ℕ, suc, List, [], ◌∷◌, ◌++◌, length, refl, sym, ap, ◌∙◌, append_assoc, arith}
use Rattle.tb_log.specs.declared.entry.Entry.{Entry}
use Rattle.tb_log.specs.LogText.{log_text, log_text_from, entry_text}

-- the text of a log begins with number 1
pub log_text_first : (log : List Entry) → log_text log ≡ log_text_from 1 log
log_text_first log = refl

-- the text of a log in two parts: the numbers of the second part continue those of the first
pub text_append : (number : ℕ) (log more : List Entry) → log_text_from number (log ++ more) ≡ log_text_from number log ++ log_text_from (number + length log) more
text_append number [] more = ap (λ (n : ℕ). log_text_from n more) (let e : number ≡ number + 0 = omega arith in e)
text_append number (entry ∷ log) more =
    ap (λ (t : List ℕ). entry_text number entry ++ t) (text_append (number + 1) log more)
    ∙ (sym (append_assoc (entry_text number entry) (log_text_from (number + 1) log) (log_text_from (number + 1 + length log) more))
    ∙ ap (λ (n : ℕ). (entry_text number entry ++ log_text_from (number + 1) log) ++ log_text_from n more) (let e : number + 1 + length log ≡ number + suc (length log) = omega arith in e))
