-- The line of a step in parts, and its terms from the last to the first.
use Rattle.std.proofs.Common.{◌≡◌, ℕ, ℤ, List, [], ◌∷◌, ◌++◌, refl, sym, ap, ◌∙◌, append_assoc, append-nil}
use Rattle.std.specs.Fmt.{decimal}
use Rattle.std.specs.List.{flat_map}
use Rattle.tb_terms.specs.Texts.{term_text, terms_text}
use Rattle.tb_terms.specs.declared.term.Term.{Term}
use Rattle.tb_terms.specs.declared.term.Term.TheVariants.{Int}
use Rattle.tb_log.specs.declared.entry.Place.{Place}
use Rattle.tb_log.specs.declared.entry.LabelKind.{LabelKind}
use Rattle.tb_log.specs.declared.entry.LabelKind.TheVariants as kind
use Rattle.tb_log.specs.Seens.{number_terms}
use Rattle.tb_log.specs.LogText.{kind_word, term_words, label_words}
use Rattle.tb_log.specs.Helpers.StepText.{shown_places, shown_terms}

-- the words of a step are its word, and the places and the terms that it shows
pub words_in_parts : (k : LabelKind) (from to : Place) (terms : List Term) → (kind_word k ++ shown_places k from to) ++ term_words (shown_terms k terms) ≡ label_words k from to terms
words_in_parts kind.Msg from to terms = refl
words_in_parts kind.Set from to terms = refl
words_in_parts kind.Tau from to terms = refl
words_in_parts kind.Printf from to terms = refl
words_in_parts kind.SndNote from to terms = refl
words_in_parts kind.RecNote from to terms = refl
words_in_parts kind.NoNote from to terms = refl
words_in_parts kind.Subscribe from to terms = refl
words_in_parts kind.Unsubscribe from to terms = refl
words_in_parts kind.Create from to terms = refl
words_in_parts kind.Execute from to terms = refl
words_in_parts kind.RecConnect from to terms = refl
words_in_parts kind.RecDisconnect from to terms = refl
words_in_parts kind.SndEval from to terms = refl
words_in_parts kind.RecValue from to terms = refl
words_in_parts kind.SndDo from to terms = refl
words_in_parts kind.RecEvent from to terms = refl
words_in_parts kind.SndAckEvent from to terms = refl
words_in_parts kind.SndTerminate from to terms = refl
words_in_parts kind.Shutdown from to terms = refl
words_in_parts kind.Finish from to terms = refl
words_in_parts kind.Halt from to terms = refl

-- the line of a step is its number and these parts
pub line_in_parts : (number : ℕ) (k : LabelKind) (from to : Place) (terms : List Term)
    → decimal number ++ (32 ∷ ((kind_word k ++ shown_places k from to) ++ (term_words (shown_terms k terms) ++ 10 ∷ []))) ≡ decimal number ++ 32 ∷ label_words k from to terms ++ 10 ∷ []
line_in_parts number k from to terms =
    ap (λ (t : List ℕ). decimal number ++ (32 ∷ t)) (sym (append_assoc (kind_word k ++ shown_places k from to) (term_words (shown_terms k terms)) (10 ∷ [])))
    ∙ (sym (append_assoc (decimal number) (32 ∷ ((kind_word k ++ shown_places k from to) ++ term_words (shown_terms k terms))) (10 ∷ []))
    ∙ ap (λ (t : List ℕ). (decimal number ++ (32 ∷ t)) ++ 10 ∷ []) (words_in_parts k from to terms))

-- a comma and a term
abbrev pub behind_comma : Term → List ℕ
behind_comma term = 44 ∷ term_text term

-- the text of terms is the first term, and a comma and the term for each other term
pub first_and_others : (first : Term) (others : List Term) → term_text first ++ flat_map behind_comma others ≡ terms_text (first ∷ others)
first_and_others first [] = append-nil (term_text first)
first_and_others first (next ∷ others) = ap (λ (rest : List ℕ). term_text first ++ 44 ∷ rest) (first_and_others next others)

-- a space and the terms, with any bytes after them
pub term_words_in_parts : (terms : List Term) (first : Term) (others : List Term) (behind : List ℕ) → terms ≡ first ∷ others
    → 32 ∷ (term_text first ++ (flat_map behind_comma others ++ behind)) ≡ term_words terms ++ behind
term_words_in_parts terms first others behind is =
    ap (λ (t : List ℕ). 32 ∷ t) (sym (append_assoc (term_text first) (flat_map behind_comma others) behind) ∙ ap (λ (t : List ℕ). t ++ behind) (first_and_others first others))
    ∙ ap (λ (ts : List Term). term_words ts ++ behind) (sym is)

-- a space and the terms were appended
pub words_pushed : (old blank one all : List ℕ) (terms : List Term) (first : Term) (others : List Term) → blank ≡ old ++ 32 ∷ [] → one ≡ blank ++ term_text first → terms ≡ first ∷ others
    → all ≡ one ++ flat_map behind_comma others → all ≡ old ++ term_words terms
words_pushed old blank one all terms first others put_blank put_first is put_others =
    let behind = flat_map behind_comma others in
    let words : 32 ∷ (term_text first ++ behind) ≡ term_words terms =
    ap (λ (t : List ℕ). 32 ∷ (term_text first ++ t)) (sym (append-nil behind)) ∙ term_words_in_parts terms first others [] is ∙ append-nil (term_words terms) in
    put_others ∙ ap (λ (t : List ℕ). t ++ behind) (put_first ∙ ap (λ (t : List ℕ). t ++ term_text first) put_blank)
    ∙ append_assoc (old ++ 32 ∷ []) (term_text first) behind ∙ append_assoc old (32 ∷ []) (term_text first ++ behind) ∙ ap (λ (t : List ℕ). old ++ t) words

-- a comma and the number, for each number
pub numbers_behind_comma : (numbers : List ℤ) → flat_map (λ number. 44 ∷ term_text (Int number)) numbers ≡ flat_map behind_comma (number_terms numbers)
numbers_behind_comma [] = refl
numbers_behind_comma (number ∷ numbers) = ap (λ (t : List ℕ). behind_comma (Int number) ++ t) (numbers_behind_comma numbers)

-- a space and the numbers were appended
pub numbers_pushed : (old blank one all : List ℕ) (numbers : List ℤ) (first : ℤ) (others : List ℤ) → blank ≡ old ++ 32 ∷ [] → one ≡ blank ++ term_text (Int first) → numbers ≡ first ∷ others
    → all ≡ one ++ flat_map (λ number. 44 ∷ term_text (Int number)) others → all ≡ old ++ term_words (number_terms numbers)
numbers_pushed old blank one all numbers first others put_blank put_first is put_others =
    words_pushed old blank one all (number_terms numbers) (Int first) (number_terms others) put_blank put_first (ap number_terms is)
    (put_others ∙ ap (λ (t : List ℕ). one ++ t) (numbers_behind_comma others))
