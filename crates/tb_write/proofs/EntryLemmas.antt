-- A writer adds the line of each entry to the bytes that it holds, and writes a prefix of these bytes.
use Rattle.std.proofs.Common.{◌≡◌, ℕ, ◌+◌, ◌<◌, ◌≤◌, suc, Option, List, [], ◌∷◌, ◌++◌, ap, sym, ◌∙◌, subst, append_assoc, append-nil, length, get_or, drop, arith}
use Rattle.std.proofs.lemmas.List.{drop_more, drop_all}
use Rattle.tb_edge.specs.Sinks.{Writes, WritesPrefix, Owes}
use Rattle.tb_edge.proofs.Puts.{Owes-takes, Writes-owes, Writes-append, WritesPrefix-owes_more}
use Rattle.tb_log.specs.LogText.{log_text, log_text_from, entry_text}
use Rattle.tb_log.specs.declared.entry.Entry.{Entry}

-- the text of one log after another
pub log_text_from-append : (number : ℕ) (log more : List Entry) → log_text_from number (log ++ more) ≡ log_text_from number log ++ log_text_from (number + length log) more
log_text_from-append number [] more = ap (λ (n : ℕ). log_text_from n more) (let e : number ≡ number + 0 = omega arith in e)
log_text_from-append number (entry ∷ log) more =
    ap (λ (t : List ℕ). entry_text number entry ++ t) (log_text_from-append (number + 1) log more)
    ∙ (sym (append_assoc (entry_text number entry) (log_text_from (number + 1) log) (log_text_from (number + 1 + length log) more))
    ∙ ap (λ (n : ℕ). (entry_text number entry ++ log_text_from (number + 1) log) ++ log_text_from n more) (let e : number + 1 + length log ≡ number + suc (length log) = omega arith in e))

-- a log was written, and then a piece that continues it
pub log-grown : (a b c : Option (List ℕ)) (log piece : List Entry) (written : ℕ) → written ≡ length log → Writes a b (log_text log) → Writes b c (log_text_from (written + 1) piece) → Writes a c (log_text (log ++ piece))
log-grown a b c log piece written counted first second =
    let whole : log_text (log ++ piece) ≡ log_text log ++ log_text_from (written + 1) piece =
    log_text_from-append 1 log piece ∙ ap (λ (n : ℕ). log_text log ++ log_text_from n piece) (let e : 1 + length log ≡ written + 1 = omega (arith, counted) in e) in
    subst (λ (bytes : List ℕ). Writes a c bytes) (sym whole) (Writes-append a b c (log_text log) (log_text_from (written + 1) piece) first second)

-- an element that equals the one at the index is the one at the index
pub lent : {X : Type 0} (xs : List X) (at : ℕ) (x y : X) → y ≡ x → x ≡ get_or xs at x → y ≡ get_or xs at y
lent xs at x y same is = subst (λ (z : _). z ≡ get_or xs at z) (sym same) is

-- the line of the next entry, and the lines of the remaining entries
line-next : (log : List Entry) (held : List ℕ) (number index : ℕ) (entry : Entry) → index < length log → entry ≡ get_or log index entry →
    held ++ log_text_from number (drop index log) ≡ (held ++ entry_text number entry) ++ log_text_from (number + 1) (drop (index + 1) log)
line-next log held number index entry within is =
    ap (λ (es : List Entry). held ++ log_text_from number es) (drop_more log index entry within ∙ ap (λ (e : Entry). e ∷ drop (index + 1) log) (sym is))
    ∙ sym (append_assoc held (entry_text number entry) (log_text_from (number + 1) (drop (index + 1) log)))

-- after the next entry, the bytes that the writer holds and the lines of the remaining entries are still to be written
pub entries-next : (a b c : Option (List ℕ)) (all : List ℕ) (log : List Entry) (held rest : List ℕ) (written after index : ℕ) (entry : Entry) → index < length log → entry ≡ get_or log index entry →
    after ≡ written + 1 → Owes a b all (held ++ log_text_from (written + 1) (drop index log)) → Owes b c (held ++ entry_text (written + 1) entry) rest →
    Owes a c all (rest ++ log_text_from (after + 1) (drop (index + 1) log))
entries-next a b c all log held rest written after index entry within is counted owed put =
    let left = log_text_from (written + 1 + 1) (drop (index + 1) log) in
    let whole : held ++ log_text_from (written + 1) (drop index log) ≡ put.put ++ (rest ++ left) =
    line-next log held (written + 1) index entry within is ∙ (ap (λ (bytes : List ℕ). bytes ++ left) (sym put.is_all) ∙ append_assoc put.put rest left) in
    subst (λ (n : ℕ). Owes a c all (rest ++ log_text_from (n + 1) (drop (index + 1) log))) (sym counted)
    (Owes-takes a b c all put.put (rest ++ left) (subst (λ (bytes : List ℕ). Owes a b all bytes) whole owed) put.takes)

-- a prefix of the held bytes and the next entry's line was written, so a prefix of the whole text was written
pub entries-prefix : (a b c : Option (List ℕ)) (all : List ℕ) (log : List Entry) (held : List ℕ) (written index : ℕ) (entry : Entry) → index < length log → entry ≡ get_or log index entry →
    Owes a b all (held ++ log_text_from (written + 1) (drop index log)) → WritesPrefix b c (held ++ entry_text (written + 1) entry) → WritesPrefix a c all
entries-prefix a b c all log held written index entry within is owed prefix =
    WritesPrefix-owes_more a b c all (held ++ entry_text (written + 1) entry) (log_text_from (written + 1 + 1) (drop (index + 1) log))
    (subst (λ (bytes : List ℕ). Owes a b all bytes) (line-next log held (written + 1) index entry within is) owed) prefix

-- after the last entry, only the held bytes are still to be written
pub entries-all : (a b : Option (List ℕ)) (all : List ℕ) (log : List Entry) (held : List ℕ) (number index : ℕ) → length log ≤ index → Owes a b all (held ++ log_text_from number (drop index log)) → Owes a b all held
entries-all a b all log held number index past owed =
    let none : held ++ log_text_from number (drop index log) ≡ held = ap (λ (es : List Entry). held ++ log_text_from number es) (drop_all index log past) ∙ append-nil held in
    subst (λ (bytes : List ℕ). Owes a b all bytes) none owed

-- the held bytes were written, so the whole text was written
pub flushed : (a b c : Option (List ℕ)) (all held : List ℕ) → Owes a b all held → Writes b c held → Writes a c all
flushed a b c all held owed takes =
    Writes-owes a c all (Owes-takes a b c all held [] (subst (λ (bytes : List ℕ). Owes a b all bytes) (sym (append-nil held)) owed) takes)

-- a prefix of the held bytes was written, so a prefix of the whole text was written
pub flushed-prefix : (a b c : Option (List ℕ)) (all held : List ℕ) → Owes a b all held → WritesPrefix b c held → WritesPrefix a c all
flushed-prefix a b c all held owed prefix =
    WritesPrefix-owes_more a b c all held [] (subst (λ (bytes : List ℕ). Owes a b all bytes) (sym (append-nil held)) owed) prefix
