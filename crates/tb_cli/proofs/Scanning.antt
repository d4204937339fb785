-- How arguments are split into parts: the parts from an argument on, and the parts before an argument.
use Rattle.std.proofs.Common.{Bor, Global, String, string_bytes, map, option_map, option_copied, IfSome, ◌≤◌, ◌≡◌, ◌-◌, option_to_list, ℕ, zero, suc, ◌+◌, ◌<◌, Bool, true, false, if◌then◌else◌, List, [], ◌∷◌, ◌++◌, Option, Some, None, Result, Ok, Err, slice_get, get_or, take, drop, length, refl, sym, ap, subst, ◌∙◌, arith}
use Rattle.std.specs.Option.{MatchOption}
use Rattle.std.specs.List.{HoldsAt}
use Rattle.std.proofs.lemmas.Bool.{eqb-true}
use Rattle.std.proofs.lemmas.List.{drop_more, take_more, drop-drop, get_or-map, append_assoc, append-nil}
use Rattle.std.proofs.lemmas.Option.{slice_get_past, slice_get_read, slice_get-map, slice_get_within, get_or_from_slice_get}
use Rattle.tb_cli.specs.Parts.{Part, AnOption, AWord, is_option, parts_of, name_of, len_of, given_by, given}
use Rattle.tb_cli.specs.declared.table.Kind.{Kind}
use Rattle.tb_cli.specs.declared.fault.WordFault.{WordFault}
use Rattle.tb_cli.specs.Table.{Form, option_named}
use Rattle.tb_cli.specs.Words.{Answer, part_answer, parts_answer, checked_value, setting_kind, and_then}
use Rattle.tb_cli.specs.Helpers.Scanning.{part_of, part_len, is_found}

abbrev first_of : List (List ℕ) → Option (List ℕ)
first_of [] = None
first_of (word ∷ words) = Some word

first-drop : (words : List (List ℕ)) (i : ℕ) → slice_get words i ≡ first_of (drop i words)
first-drop [] zero = refl
first-drop [] (suc i) = refl
first-drop (word ∷ words) zero = refl
first-drop (word ∷ words) (suc i) = first-drop words i

-- the item that a look-up finds
pub looked-up : {X : Type 0} (found : Option (Bor X)) (xs : List X) (i : ℕ) → IfSome found (λ x. x.now ≡ get_or xs i x.now) → MatchOption found (length xs ≤ i) (λ x. (i < length xs) × HoldsAt (λ y. x.now ≡ y) xs i) → option_copied found ≡ slice_get xs i
looked-up None xs i same past = sym (slice_get_past xs i past)
looked-up (Some x) xs i same within = sym (slice_get_read xs (length xs) i x.now refl within.0 same)

-- the bytes of the argument that a look-up finds
pub bytes-looked-up : (found : Option (Bor (String Global))) (words : List (String Global)) (i : ℕ) → IfSome found (λ x. x.now ≡ get_or words i x.now) → MatchOption found (length words ≤ i) (λ x. (i < length words) × HoldsAt (λ y. x.now ≡ y) words i) → option_map string_bytes (option_copied found) ≡ slice_get (map string_bytes words) i
bytes-looked-up found words i same matched = ap (option_map string_bytes) (looked-up found words i same matched) ∙ sym (slice_get-map string_bytes words i)

-- the bytes of an argument that was read
pub bytes-read : (words : List (String Global)) (i : ℕ) (word : String Global) (bytes : List ℕ) → i < length words → word ≡ get_or words i word → bytes ≡ string_bytes word → bytes ≡ get_or (map string_bytes words) i []
bytes-read words i word bytes within read same = same ∙ ap string_bytes read ∙ sym (get_or-map string_bytes words i word [] within)

-- the first part of arguments, and the parts after it
parts-prefix : (word : List ℕ) (words : List (List ℕ)) → parts_of (word ∷ words) ≡ part_of word (first_of words) ∷ parts_of (drop (part_len word) (word ∷ words))
parts-prefix word [] = by (is_option word) where
  by : (b : Bool) → (if b then AnOption word None ∷ [] else AWord word ∷ []) ≡ (if b then AnOption word None else AWord word) ∷ parts_of (drop (if b then 2 else 1) (word ∷ []))
  by true = refl
  by false = refl
parts-prefix word (next ∷ words) = by (is_option word) where
  by : (b : Bool) → (if b then AnOption word (Some next) ∷ parts_of words else AWord word ∷ parts_of (next ∷ words)) ≡ (if b then AnOption word (Some next) else AWord word) ∷ parts_of (drop (if b then 2 else 1) (word ∷ next ∷ words))
  by true = refl
  by false = refl

-- the part that begins at an argument, and the parts after it
pub parts-at : (words : List (List ℕ)) (i : ℕ) (word : List ℕ) → i < length words → word ≡ get_or words i [] → parts_of (drop i words) ≡ part_of word (slice_get words (i + 1)) ∷ parts_of (drop (i + part_len word) words)
parts-at words i word within is =
    let prefix : drop i words ≡ word ∷ drop (i + 1) words = drop_more words i [] within ∙ ap (λ (w : List ℕ). w ∷ drop (i + 1) words) (sym is) in
    let rest : drop (part_len word) (word ∷ drop (i + 1) words) ≡ drop (i + part_len word) words = ap (drop (part_len word)) (sym prefix) ∙ drop-drop (part_len word) i words in
    ap parts_of prefix
    ∙ parts-prefix word (drop (i + 1) words)
    ∙ ap (λ (next : Option (List ℕ)). part_of word next ∷ parts_of (drop (part_len word) (word ∷ drop (i + 1) words))) (sym (first-drop words (i + 1)))
    ∙ ap (λ (others : List (List ℕ)). part_of word (slice_get words (i + 1)) ∷ parts_of others) rest

-- the values that the parts from an argument on give under a name
pub given-at : (name : Option (List ℕ)) (words : List (List ℕ)) (i len : ℕ) (word : List ℕ) (next : Option (List ℕ)) → i < length words → word ≡ get_or words i [] → len ≡ part_len word → next ≡ slice_get words (i + 1) →
    given name (parts_of (drop i words)) ≡ given_by name (part_of word next) ++ given name (parts_of (drop (i + len) words))
given-at name words i len word next within is size comes =
    let rest = given name (parts_of (drop (i + part_len word) words)) in
    ap (given name) (parts-at words i word within is)
    ∙ ap (λ (n : Option (List ℕ)). given_by name (part_of word n) ++ rest) (sym comes)
    ∙ ap (λ (n : ℕ). given_by name (part_of word next) ++ given name (parts_of (drop (i + n) words))) (sym size)

-- arguments whose end is the end of a part
abbrev pub IsWhole : List (List ℕ) → Type 0
IsWhole before = (rest : List (List ℕ)) → parts_of (before ++ rest) ≡ parts_of before ++ parts_of rest

-- arguments that make up one part
abbrev IsChunk : List (List ℕ) → Part → Type 0
IsChunk chunk part = (rest : List (List ℕ)) → parts_of (chunk ++ rest) ≡ part ∷ parts_of rest

pub record Advanced (before after : List (List ℕ)) (part : Part) : Type 0 where
  pub whole : IsWhole after
  pub parts : parts_of after ≡ parts_of before ++ part ∷ []

advanced : (before chunk : List (List ℕ)) (part : Part) → IsWhole before → IsChunk chunk part → Advanced before (before ++ chunk) part
advanced before chunk part whole is =
    let alone : parts_of chunk ≡ part ∷ [] = ap parts_of (sym (append-nil chunk)) ∙ is [] in
    let parts : parts_of (before ++ chunk) ≡ parts_of before ++ part ∷ [] = whole chunk ∙ ap (λ (ps : List Part). parts_of before ++ ps) alone in
    record {
      whole = λ rest.
          ap parts_of (append_assoc before chunk rest)
          ∙ whole (chunk ++ rest)
          ∙ ap (λ (ps : List Part). parts_of before ++ ps) (is rest)
          ∙ sym (append_assoc (parts_of before) (part ∷ []) (parts_of rest))
          ∙ ap (λ (ps : List Part). ps ++ parts_of rest) (sym parts);
      parts = parts;
    }

word-chunk : (word : List ℕ) → is_option word ≡ false → IsChunk (word ∷ []) (AWord word)
word-chunk word plain [] = ap (λ (b : Bool). if b then AnOption word None ∷ [] else AWord word ∷ []) plain
word-chunk word plain (next ∷ rest) = ap (λ (b : Bool). if b then AnOption word (Some next) ∷ parts_of rest else AWord word ∷ parts_of (next ∷ rest)) plain

option-chunk : (word value : List ℕ) → is_option word ≡ true → IsChunk (word ∷ value ∷ []) (AnOption word (Some value))
option-chunk word value option rest = ap (λ (b : Bool). if b then AnOption word (Some value) ∷ parts_of rest else AWord word ∷ parts_of (value ∷ rest)) option

-- an option without a value has an error
bare-faulty : (form : Form) (before : List (List ℕ)) (position : ℕ) (name : List ℕ) → part_answer form before position (AnOption name None) ≡ Ok tt → ⊥
bare-faulty form before position name fine = by fine where
  by : checked_value (setting_kind (option_named form.options name) (length before) position) (get_or before 0 []) (position + 1) None ≡ Ok tt → ⊥
  by e = none (setting_kind (option_named form.options name) (length before) position) e where
    none : (r : Result Kind WordFault) → checked_value r (get_or before 0 []) (position + 1) None ≡ Ok tt → ⊥
    none (Ok kind) h = absurd cc
    none (Err f) h = absurd cc

-- the arguments before a part that has no error, and the arguments up to its end
pub part-behind : (form : Form) (values : List (List ℕ)) (words : List (List ℕ)) (i position : ℕ) (word : List ℕ) (next : Option (List ℕ)) → i < length words → word ≡ get_or words i [] → next ≡ slice_get words (i + 1) → IsWhole (take i words) →
    part_answer form values position (part_of word next) ≡ Ok tt → Advanced (take i words) (take (i + part_len word) words) (part_of word next)
part-behind form values words i position word next within is comes whole fine = by (is_option word) refl next comes fine where
  first : take (i + 1) words ≡ take i words ++ word ∷ []
  first = take_more words i [] within ∙ ap (λ (w : List ℕ). take i words ++ w ∷ []) (sym is)

  both : (value : List ℕ) → Some value ≡ slice_get words (i + 1) → take (i + 2) words ≡ take i words ++ word ∷ value ∷ []
  both value there =
      let inside : i + 1 < length words = slice_get_within words (i + 1) value (sym there) in
      let two : i + 2 ≡ i + 1 + 1 = omega arith in
      ap (λ (n : ℕ). take n words) two
      ∙ take_more words (i + 1) [] inside
      ∙ ap (λ (w : List ℕ). take (i + 1) words ++ w ∷ []) (get_or_from_slice_get words (i + 1) value [] (sym there))
      ∙ ap (λ (ws : List (List ℕ)). ws ++ value ∷ []) first
      ∙ append_assoc (take i words) (word ∷ []) (value ∷ [])

  by : (b : Bool) → is_option word ≡ b → (n : Option (List ℕ)) → n ≡ slice_get words (i + 1) → part_answer form values position (if b then AnOption word n else AWord word) ≡ Ok tt →
      Advanced (take i words) (take (i + (if b then 2 else 1)) words) (if b then AnOption word n else AWord word)
  by true option None there ok = absurd (bare-faulty form values position word ok)
  by true option (Some value) there ok = subst (λ (ws : List (List ℕ)). Advanced (take i words) ws (AnOption word (Some value))) (sym (both value there)) (advanced (take i words) (word ∷ value ∷ []) (AnOption word (Some value)) whole (option-chunk word value option))
  by false plain n there ok = subst (λ (ws : List (List ℕ)). Advanced (take i words) ws (AWord word)) (sym first) (advanced (take i words) (word ∷ []) (AWord word) whole (word-chunk word plain))

size-of : (word : List ℕ) (next : Option (List ℕ)) → len_of (part_of word next) ≡ part_len word
size-of word next = by (is_option word) where
  by : (b : Bool) → len_of (if b then AnOption word next else AWord word) ≡ (if b then 2 else 1)
  by true = refl
  by false = refl

-- The answer for all parts from an argument on: the error of the first of these parts, or else the answer for the others.
pub parts-answered : (form : Form) (words : List (List ℕ)) (first i : ℕ) (word : List ℕ) (next : Option (List ℕ)) (whole : Answer) → i < length words → word ≡ get_or words i [] → next ≡ slice_get words (i + 1) →
    parts_answer form (parts_of (take i words)) (i + first) (parts_of (drop i words)) ≡ whole →
    and_then (part_answer form (given (name_of (part_of word next)) (parts_of (take i words))) (i + first) (part_of word next)) (parts_answer form (parts_of (take i words) ++ part_of word next ∷ []) (i + first + part_len word) (parts_of (drop (i + part_len word) words))) ≡ whole
parts-answered form words first i word next whole within is comes all =
    let before = parts_of (take i words) in
    let part = part_of word next in
    let rest = parts_of (drop (i + part_len word) words) in
    ap (λ (n : ℕ). and_then (part_answer form (given (name_of part) before) (i + first) part) (parts_answer form (before ++ part ∷ []) (i + first + n) rest)) (sym (size-of word next))
    ∙ ap (λ (n : Option (List ℕ)). parts_answer form before (i + first) (part_of word n ∷ rest)) comes
    ∙ ap (parts_answer form before (i + first)) (sym (parts-at words i word within is))
    ∙ all

-- the value that a search finds among the values of one part and of the parts after it

pub found-first : (value : Option (List ℕ)) (rest : List (List ℕ)) (left : ℕ) → is_found value left ≡ true → slice_get (option_to_list value ++ rest) left ≡ value
found-first None rest left found = absurd cc
found-first (Some value) rest zero found = refl
found-first (Some value) rest (suc left) found = absurd (omega (arith, eqb-true (suc left) 0 found))

pub found-later : (value : Option (List ℕ)) (rest : List (List ℕ)) (left : ℕ) → is_found value left ≡ false → slice_get (option_to_list value ++ rest) left ≡ slice_get rest (left - length (option_to_list value))
found-later None rest left other = let same : left ≡ left - 0 = omega arith in ap (slice_get rest) same
found-later (Some value) rest zero other = absurd cc
found-later (Some value) rest (suc left) other = let same : left ≡ suc left - 1 = omega arith in ap (slice_get rest) same

-- a part has at least one argument
pub part_len-some : (word : List ℕ) → 1 ≤ part_len word
part_len-some word = by (is_option word) where
  by : (b : Bool) → 1 ≤ (if b then 2 else 1)
  by true = omega arith
  by false = omega arith

-- the bytes of the first arguments
pub bytes-taken : (words : List (String Global)) (i : ℕ) → map string_bytes (take i words) ≡ take i (map string_bytes words)
bytes-taken [] zero = refl
bytes-taken [] (suc i) = refl
bytes-taken (word ∷ words) zero = refl
bytes-taken (word ∷ words) (suc i) = ap (λ (rest : List (List ℕ)). string_bytes word ∷ rest) (bytes-taken words i)

-- if there is no value at this place, the first values up to this place are all
pub taken-all : (values : List (List ℕ)) (place : ℕ) → slice_get values place ≡ None → take place values ≡ values
taken-all [] zero none = refl
taken-all [] (suc place) none = refl
taken-all (value ∷ values) zero none = absurd cc
taken-all (value ∷ values) (suc place) none = ap (λ (rest : List (List ℕ)). value ∷ rest) (taken-all values place none)
