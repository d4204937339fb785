-- The line of an entry has a newline only at its end.
use Rattle.std.proofs.Common.{◌≡◌, ℕ, ◌^◌, ◌<◌, Bool, true, false, ◌&&◌, cond, eqb, ltb, List, [], ◌∷◌, ◌++◌, Option, Some, None, refl, arith}
use Rattle.std.specs.Prelude.{codes}
use Rattle.std.specs.Fmt.{decimal}
use Rattle.std.specs.List.{list_all, flat_map}
use Rattle.std.proofs.lemmas.Bool.{and_parts, and_from, ltb-true}
use Rattle.tb_terms.specs.Names.{is_name_byte}
use Rattle.tb_terms.specs.Proper.{is_proper}
use Rattle.tb_terms.specs.Texts.{term_text, terms_text, quoted, escaped, escape_letter, with_letter}
use Rattle.tb_terms.specs.declared.term.Term.{Term}
use Rattle.tb_log.specs.LogText.{place_words, term_words, kind_word, label_words, tool_line_words, input_words, why_word, fed_words, out_words, entry_words}
use Rattle.tb_log.specs.Proper.{is_proper_place, is_proper_tool_line, is_proper_input, is_proper_out, is_proper_entry}
use Rattle.tb_log.specs.declared.entry.Place.{Place}
use Rattle.tb_log.specs.declared.entry.LabelKind.{LabelKind}
use Rattle.tb_log.specs.declared.entry.LabelKind.TheVariants as kind
use Rattle.tb_log.specs.declared.entry.ToolLine.{ToolLine}
use Rattle.tb_log.specs.declared.entry.ToolLine.TheVariants as tool
use Rattle.tb_log.specs.declared.entry.Input.{Input}
use Rattle.tb_log.specs.declared.entry.Input.TheVariants as input
use Rattle.tb_log.specs.declared.entry.Out.{Out}
use Rattle.tb_log.specs.declared.entry.Out.TheVariants as out
use Rattle.tb_log.specs.declared.entry.Reply.{Reply}
use Rattle.tb_log.specs.declared.entry.Reply.TheVariants.{Took, Dropped}
use Rattle.tb_log.specs.declared.entry.Why.{Why}
use Rattle.tb_log.specs.declared.entry.Why.TheVariants as why
use Rattle.tb_log.specs.declared.entry.Entry.{Entry}
use Rattle.tb_log.specs.declared.entry.Entry.TheVariants.{Did, Quiet, Fed, Gave}
use Rattle.tb_log_read.proofs.Cuts.{lacks, lacks-append, lacks_by}
use Rattle.tb_log_read.proofs.Decimals.{lacks-decimal}
use Rattle.tb_log_read.proofs.LabelKinds.{HasOnePlace, kinds}
use Rattle.tb_log_read.proofs.Texts.{bytes_of_name, term_texted}

abbrev OneLine : List ℕ → Type 0
OneLine xs = lacks 10 xs ≡ true

both : (xs ys : List ℕ) → OneLine xs → OneLine ys → OneLine (xs ++ ys)
both xs ys p q = lacks-append 10 xs ys p q

byte : (b : ℕ) → eqb b 10 ≡ false → OneLine (b ∷ [])
byte b e = rw e refl

name_line : (xs : List ℕ) → list_all is_name_byte xs ≡ true → OneLine xs
name_line xs h = lacks_by is_name_byte 10 refl xs h

-- a byte of a string
escape_line : (b : ℕ) → OneLine (with_letter b (escape_letter b))
escape_line b = by (eqb b 92) (eqb b 34) (eqb b 10) (eqb b 13) (eqb b 9) refl where
  by : (p q r s t : Bool) → eqb b 10 ≡ r → OneLine (with_letter b (cond {A = Option ℕ} p (Some 92) (cond q (Some 34) (cond r (Some 110) (cond s (Some 114) (cond t (Some 116) None))))))
  by true q r s t er = refl
  by false true r s t er = refl
  by false false true s t er = refl
  by false false false true t er = refl
  by false false false false true er = refl
  by false false false false false er = byte b er

escapes_line : (s : List ℕ) → OneLine (flat_map escaped s)
escapes_line [] = refl
escapes_line (b ∷ s) = both (escaped b) (flat_map escaped s) (escape_line b) (escapes_line s)

quoted_line : (s : List ℕ) → OneLine (quoted s)
quoted_line s = both (34 ∷ flat_map escaped s) (34 ∷ []) (both (34 ∷ []) (flat_map escaped s) refl (escapes_line s)) refl

term_line : (t : Term) → is_proper t ≡ true → OneLine (term_text t)
term_line t h =
    let Q : ℕ → List ℕ → Type 0 = λ d xs. OneLine xs in
    term_texted Q (λ d. refl) (λ d xs ys p q. both xs ys p q) (λ d b e. name_line (b ∷ []) (and_from (is_name_byte b) true e refl)) (λ d s e. quoted_line s) (λ d. refl)
    (λ d xs p. both (40 ∷ xs) (41 ∷ []) (both (40 ∷ []) xs refl p) refl)
    (λ d xs p. both (91 ∷ xs) (93 ∷ []) (both (91 ∷ []) xs refl p) refl) t h 0

terms_line : (ts : List Term) → list_all is_proper ts ≡ true → OneLine (terms_text ts)
terms_line [] h = refl
terms_line (t ∷ []) h = term_line t (and_parts (is_proper t) true h).0
terms_line (t ∷ u ∷ ts) h =
    let p = and_parts (is_proper t) (list_all is_proper (u ∷ ts)) h in
    both (term_text t) (44 ∷ terms_text (u ∷ ts)) (term_line t p.0) (both (44 ∷ []) (terms_text (u ∷ ts)) refl (terms_line (u ∷ ts) p.1))

decimal_line : (n : ℕ) → n < 2 ^ 64 → OneLine (decimal n)
decimal_line n h = lacks-decimal 10 refl n h

place_line : (place : Place) → is_proper_place place ≡ true → OneLine (place_words place)
place_line place h =
    let p = and_parts _ _ h in
    let proc : place.proc < 2 ^ 32 = ltb-true place.proc (2 ^ 32) p.0 in
    let atom : place.atom < 2 ^ 32 = ltb-true place.atom (2 ^ 32) p.1 in
    both (32 ∷ decimal place.proc) (46 ∷ decimal place.atom) (both (32 ∷ []) (decimal place.proc) refl (decimal_line place.proc (omega arith))) (both (46 ∷ []) (decimal place.atom) refl (decimal_line place.atom (omega arith)))

shown_line : (ts : List Term) → list_all is_proper ts ≡ true → OneLine (term_words ts)
shown_line [] h = refl
shown_line (t ∷ ts) h = both (32 ∷ []) (terms_text (t ∷ ts)) refl (terms_line (t ∷ ts) h)

abbrev OfKind : LabelKind → Type 0
OfKind k = (from to : Place) (ts : List Term) → OneLine (place_words from) → OneLine (place_words to) → OneLine (term_words ts) → OneLine (label_words k from to ts)

one_line : (k : LabelKind) → HasOnePlace k → OfKind k
one_line k o from to ts f t s =
    rw (o.words from to ts) (both (kind_word k ++ place_words from) (term_words ts) (both (kind_word k) (place_words from) o.newline f) s)

label_line : (k : LabelKind) → OfKind k
label_line = kinds OfKind
    (λ from to ts f t s. both (kind_word kind.Msg ++ place_words from ++ place_words to) (term_words ts) (both (kind_word kind.Msg ++ place_words from) (place_words to) (both (kind_word kind.Msg) (place_words from) refl f) t) s)
    (λ from to ts f t s. refl) (λ from to ts f t s. refl) one_line

in_parens : (word inner : List ℕ) → OneLine word → OneLine inner → OneLine (word ++ (40 ∷ inner) ++ (41 ∷ []))
in_parens word inner p q = both (word ++ (40 ∷ inner)) (41 ∷ []) (both word (40 ∷ inner) p (both (40 ∷ []) inner refl q)) refl

tool_line_line : (line : ToolLine) → is_proper_tool_line line ≡ true → OneLine (tool_line_words line)
tool_line_line (tool.Value t) h = in_parens (codes "snd-value") (term_text t) refl (term_line t h)
tool_line_line (tool.Event []) h = refl
tool_line_line (tool.Event (t ∷ ts)) h =
    both (codes "snd-event") ((40 ∷ terms_text (t ∷ ts)) ++ (41 ∷ [])) refl (in_parens [] (terms_text (t ∷ ts)) refl (terms_line (t ∷ ts) h))
tool_line_line (tool.Connect name) h = in_parens (codes "snd-connect") name refl (name_line name (bytes_of_name name h))
tool_line_line tool.Disconnect h = refl
tool_line_line tool.Bad h = refl

lane_line : (word : List ℕ) (lane : ℕ) → OneLine word → ltb lane (2 ^ 8) ≡ true → OneLine (word ++ decimal lane)
lane_line word lane p h =
    let below : lane < 2 ^ 8 = ltb-true lane (2 ^ 8) h in
    both word (decimal lane) p (decimal_line lane (omega arith))

input_line : (input : Input) → is_proper_input input ≡ true → OneLine (input_words input)
input_line input.Tick h = refl
input_line input.NoTicks h = refl
input_line (input.Line lane line) h =
    let p = and_parts (ltb lane (2 ^ 8)) (is_proper_tool_line line) h in
    both (codes "line " ++ decimal lane) (32 ∷ tool_line_words line) (lane_line (codes "line ") lane refl p.0) (both (32 ∷ []) (tool_line_words line) refl (tool_line_line line p.1))
input_line (input.Gone lane) h = lane_line (codes "gone ") lane refl h
input_line (input.Cut lane) h = lane_line (codes "cut ") lane refl h

why_line : (why : Why) → OneLine (why_word why)
why_line why.Unasked = refl
why_line why.NotLive = refl
why_line why.Named = refl
why_line why.Stranger = refl
why_line why.Bad = refl
why_line why.Down = refl

fed_line : (reply : Reply) (input : Input) → is_proper_input input ≡ true → OneLine (fed_words reply input)
fed_line Took input h = input_line input h
fed_line (Dropped why) input h =
    both (codes "drop " ++ why_word why) (32 ∷ input_words input) (both (codes "drop ") (why_word why) refl (why_line why)) (both (32 ∷ []) (input_words input) refl (input_line input h))

out_line : (out : Out) → is_proper_out out ≡ true → OneLine (out_words out)
out_line (out.Start command) h = both (codes "start ") (quoted command) refl (quoted_line command)
out_line (out.Line term) h = term_line term h
out_line out.End h = refl

pub words_line : (entry : Entry) → is_proper_entry entry ≡ true → lacks 10 (entry_words entry) ≡ true
words_line (Did label) h =
    let p = and_parts (is_proper_place label.from && is_proper_place label.to) (list_all is_proper label.terms) h in
    let q = and_parts (is_proper_place label.from) (is_proper_place label.to) p.0 in
    label_line label.kind label.from label.to label.terms (place_line label.from q.0) (place_line label.to q.1) (shown_line label.terms p.1)
words_line Quiet h = refl
words_line (Fed input reply) h = fed_line reply input h
words_line (Gave lane out) h =
    let p = and_parts (ltb lane (2 ^ 8)) (is_proper_out out) h in
    both (codes "out " ++ decimal lane) (32 ∷ out_words out) (lane_line (codes "out ") lane refl p.0) (both (32 ∷ []) (out_words out) refl (out_line out p.1))

-- the line of an entry without its newline
pub text_line : (number : ℕ) (entry : Entry) → number < 2 ^ 64 → is_proper_entry entry ≡ true → lacks 10 (decimal number ++ (32 ∷ entry_words entry)) ≡ true
text_line number entry n h = both (decimal number) (32 ∷ entry_words entry) (decimal_line number n) (both (32 ∷ []) (entry_words entry) refl (words_line entry h))
