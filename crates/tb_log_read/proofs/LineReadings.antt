-- The line of an entry states this entry. An entry that a line states is the line's entry if the entry's text is the line.
use Rattle.std.proofs.Common.{◌≡◌, ◌≤◌, ◌<◌, ◌^◌, ℕ, true, List, [], ◌∷◌, ◌++◌, Option, Some, None, refl, ap, sym, ◌∙◌, subst, arith}
use Rattle.std.specs.Fmt.{decimal}
use Rattle.tb_log.specs.LogText.{entry_words, entry_text}
use Rattle.tb_log.specs.Proper.{is_proper_entry}
use Rattle.tb_log.specs.Shapes.{InShape}
use Rattle.tb_log.specs.declared.entry.Entry.{Entry}
use Rattle.tb_log_read.specs.Helpers.Cutting.{prefix, behind}
use Rattle.tb_log_read.specs.Helpers.Numbers.{number64}
use Rattle.tb_log_read.specs.Helpers.Words.{words_of}
use Rattle.tb_log_read.specs.Helpers.Entries.{numbered_by, numbered_of}
use Rattle.tb_log_read.specs.Lines.{IsLine}
use Rattle.tb_log_read.specs.declared.line.Numbered.{Numbered}
use Rattle.tb_log_read.proofs.Cuts.{lacks, prefix-cut, behind-cut}
use Rattle.tb_log_read.proofs.Decimals.{lacks-decimal, number64-decimal}
use Rattle.tb_log_read.proofs.Entries.{words_read}
use Rattle.tb_log_read.proofs.Newlines.{text_line}
use Rattle.tb_log_read.proofs.Propers.{words_proper}

abbrev pub numbered : ℕ → Entry → Numbered
numbered n e = record { number = n; entry = e }

abbrev says : List ℕ → List ℕ → Option Numbered
says digits words = numbered_by (number64 digits) (words_of words)

text_says : (n : ℕ) (e : Entry) → n < 2 ^ 64 → is_proper_entry e ≡ true → InShape e → numbered_of (entry_text n e) ≡ Some (numbered n e)
text_says n e fits proper shape =
    let words = entry_words e in
    let text = decimal n ++ (32 ∷ words) in
    let first : lacks 32 (decimal n) ≡ true = lacks-decimal 32 refl n fits in
    ap (λ (l : List ℕ). says (prefix 32 l) (behind 32 l)) (prefix-cut 10 text [] (text_line n e fits proper))
    ∙ ap (λ (l : List ℕ). says l (behind 32 text)) (prefix-cut 32 (decimal n) words first)
    ∙ ap (λ (l : List ℕ). says (decimal n) l) (behind-cut 32 (decimal n) words first)
    ∙ ap (λ m. numbered_by m (words_of words)) (number64-decimal n fits) ∙ ap (numbered_by n) (words_read e proper shape)

pub line_says : (n : ℕ) (e : Entry) (line : List ℕ) → IsLine n e line → numbered_of line ≡ Some (numbered n e)
line_says n e line l = ap numbered_of l.text ∙ text_says n e l.fits l.proper l.shape

some_same : (x y : Numbered) → Some x ≡ Some y → x ≡ y
some_same x y e = cc

numbered_same : (m n : ℕ) (d e : Entry) → Some (numbered m d) ≡ Some (numbered n e) → (m ≡ n) × (d ≡ e)
numbered_same m n d e same =
    let inner : numbered m d ≡ numbered n e = some_same (numbered m d) (numbered n e) same in
    (ap (λ (x : Numbered). x.number) inner, ap (λ (x : Numbered). x.entry) inner)

pub line_one : (m n : ℕ) (d e : Entry) (line : List ℕ) → IsLine m d line → IsLine n e line → (m ≡ n) × (d ≡ e)
line_one m n d e line k l =
    numbered_same m n d e (sym (line_says m d line k) ∙ line_says n e line l)

found_by : (number : ℕ) (words : List ℕ) (o : Option Entry) (x : Numbered) → number < 2 ^ 64 → words_of words ≡ o → numbered_by number o ≡ Some x → (x.number < 2 ^ 64) × (is_proper_entry x.entry ≡ true)
found_by number words None x fits e f = let none : None ≡ Some x = f in cc
found_by number words (Some entry) x fits e f =
    let same : numbered number entry ≡ x = cc in
    rw (← same) (fits, words_proper words entry e)

-- if the text of the stated entry is the line, the line is that of this entry
pub says_line : (line : List ℕ) (x : Numbered) → numbered_of line ≡ Some x → (1 ≤ x.number) × InShape x.entry × (line ≡ entry_text x.number x.entry) → IsLine x.number x.entry line
says_line line x e h =
    let text = prefix 10 line in
    let p = found_by (number64 (prefix 32 text)) (behind 32 text) (words_of (behind 32 text)) x (omega arith) refl e in
    record { from_one = h.0; fits = p.0; proper = p.1; shape = h.1; text = h.2 }

-- if the line is that of any entry, the text of the stated entry is the line
pub says_other : (line : List ℕ) (x : Numbered) (n : ℕ) (e : Entry) → numbered_of line ≡ Some x → IsLine n e line → (1 ≤ x.number) × InShape x.entry × (line ≡ entry_text x.number x.entry)
says_other line x n e s l = along x (sym (line_says n e line l) ∙ s) where
  along : (x : Numbered) → Some (numbered n e) ≡ Some x → (1 ≤ x.number) × InShape x.entry × (line ≡ entry_text x.number x.entry)
  along x same =
      let inner : numbered n e ≡ x = some_same (numbered n e) x same in
      subst (λ (y : Numbered). (1 ≤ y.number) × InShape y.entry × (line ≡ entry_text y.number y.entry)) inner (l.from_one, l.shape, l.text)
