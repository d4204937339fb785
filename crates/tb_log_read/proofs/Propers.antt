-- Each value that is read is well-formed: its numbers fit their types, and its terms, strings and names are well-formed.
use Rattle.std.proofs.Common.{◌≡◌, ◌⊎◌, ◌≤◌, ◌<◌, ◌^◌, ℕ, zero, suc, ℤ, pos, neg_ℤ, Bool, true, false, ◌&&◌, cond, ltb, List, [], ◌∷◌, ◌++◌, map, Option, Some, None, refl, ap, sym, ◌∙◌, subst, inl, inr, arith, append_assoc, append-nil}
use Rattle.std.specs.Prelude.{codes}
use Rattle.std.specs.Str.{bytes_eq}
use Rattle.std.specs.List.{list_all, flat_map, AllByRecursion}
use Rattle.std.proofs.lemmas.Bool.{and_parts, and_from, lt-ltb}
use Rattle.tb_terms.specs.Names.{is_name, is_string}
use Rattle.tb_terms.specs.Proper.{is_proper, proper_step, has_64_bits}
use Rattle.tb_terms.specs.declared.term.Term.{Term}
use Rattle.tb_terms.specs.declared.term.Term.TheVariants as term
use Rattle.tb_terms.proofs.Induction.{term_induction, fold-Int, fold-Str, fold-Appl, fold-List}
use Rattle.tb_read.specs.Tokens.{tokens_of, with_commas, after_comma}
use Rattle.tb_read.specs.Spelling.{digits_value, SpellsNumber, Spaced, Reads}
use Rattle.tb_read.proofs.Terms.{tokens-Int, tokens-Str, tokens-Appl, tokens-List}
use Rattle.tb_log.specs.Shapes.{nowhere}
use Rattle.tb_log.specs.Proper.{is_proper_place, is_proper_tool_line, is_proper_input, is_proper_out, is_proper_entry}
use Rattle.tb_log.specs.declared.entry.Place.{Place}
use Rattle.tb_log.specs.declared.entry.LabelKind.{LabelKind}
use Rattle.tb_log.specs.declared.entry.LabelKind.TheVariants as kind
use Rattle.tb_log.specs.declared.entry.ToolLine.{ToolLine}
use Rattle.tb_log.specs.declared.entry.ToolLine.TheVariants as tool
use Rattle.tb_log.specs.declared.entry.Input.{Input}
use Rattle.tb_log.specs.declared.entry.Input.TheVariants as input
use Rattle.tb_log.specs.declared.entry.Out.{Out}
use Rattle.tb_log.specs.declared.entry.Out.TheVariants as out
use Rattle.tb_log.specs.declared.entry.Reply.{Reply}
use Rattle.tb_log.specs.declared.entry.Reply.TheVariants.{Took, Dropped}
use Rattle.tb_log.specs.declared.entry.Why.{Why}
use Rattle.tb_log.specs.declared.entry.Entry.{Entry}
use Rattle.tb_log.specs.declared.entry.Entry.TheVariants.{Quiet}
use Rattle.tb_log_read.specs.Helpers.Cutting.{prefix, behind, without_last}
use Rattle.tb_log_read.specs.Helpers.Numbers.{number32, number8, place_of}
use Rattle.tb_log_read.specs.Helpers.Parts.{parts}
use Rattle.tb_log_read.specs.Helpers.Terms.{term_of, with_first, all_terms, terms_of, label_terms}
use Rattle.tb_log_read.specs.Helpers.Unescaping.{unescaped_from}
use Rattle.tb_log_read.specs.Helpers.Words.{kind_of, why_of, labelled, step_of, value_line, event_line, named_line, tool_line_of, line_on, input_of, fed_by, dropped_by, drop_of, start_of, line_of, out_of, gave_on, gave_of, other_of, entry_by, words_of}
use Rattle.tb_log_read.proofs.LabelKinds.{HasOnePlace, kinds}
use Rattle.tb_log_read.proofs.Readings.{term_of-is}

-- Terms, by their tokens.

signed_bits : (v : ℕ) → v ≤ 2 ^ 63 → has_64_bits (neg_ℤ (pos v)) ≡ true
signed_bits zero h = refl
signed_bits (suc v) h = lt-ltb v (2 ^ 63) h

number_bits : (z : ℤ) (text : List ℕ) → SpellsNumber z text → has_64_bits z ≡ true
number_bits z text s = by s.signed where
  by : ((text ≡ s.digits) × (z ≡ pos (digits_value s.digits)) × (digits_value s.digits < 2 ^ 63)) ⊎ ((text ≡ 45 ∷ s.digits) × (z ≡ neg_ℤ (pos (digits_value s.digits))) × (digits_value s.digits ≤ 2 ^ 63)) → has_64_bits z ≡ true
  by (inl p) = ap has_64_bits p.1 ∙ lt-ltb (digits_value s.digits) (2 ^ 63) p.2
  by (inr p) = ap has_64_bits p.1 ∙ signed_bits (digits_value s.digits) p.2

abbrev All : List Bool → Bool
All bs = list_all (λ part. part) bs

-- If the tokens of a term come first, the term is well-formed, and the other tokens follow.
abbrev Read : Term → Type 0
Read t = (ks : _) (bytes : List ℕ) → Spaced (tokens_of t ++ ks) bytes → (is_proper t ≡ true) × ((rest : List ℕ) × Spaced ks rest)

later_read : (ts : List Term) → AllByRecursion Read ts → (ks : _) (bytes : List ℕ) → Spaced (flat_map after_comma (map tokens_of ts) ++ ks) bytes → (All (map is_proper ts) ≡ true) × ((rest : List ℕ) × Spaced ks rest)
later_read [] w ks bytes s = (refl, (bytes, s))
later_read (t ∷ ts) w ks bytes s =
    let more = flat_map after_comma (map tokens_of ts) in
    let first = w.0 (more ++ ks) s.2 (rw (append_assoc (tokens_of t) more ks) at s.6) in
    let others = later_read ts w.1 ks first.1.0 first.1.1 in
    (and_from (is_proper t) (All (map is_proper ts)) first.0 others.0, others.1)

parts_read : (t : Term) (ts : List Term) → AllByRecursion Read (t ∷ ts) → (ks : _) (bytes : List ℕ) → Spaced (with_commas (map tokens_of (t ∷ ts)) ++ ks) bytes → (All (map is_proper (t ∷ ts)) ≡ true) × ((rest : List ℕ) × Spaced ks rest)
parts_read t ts w ks bytes s =
    let more = flat_map after_comma (map tokens_of ts) in
    let first = w.0 (more ++ ks) bytes (rw (append_assoc (tokens_of t) more ks) at s) in
    let others = later_read ts w.1 ks first.1.0 first.1.1 in
    (and_from (is_proper t) (All (map is_proper ts)) first.0 others.0, others.1)

int_read : (n : ℤ) → Read (term.Int n)
int_read n ks bytes s =
    let one = rw (tokens-Int n) at s in
    (fold-Int Bool proper_step n ∙ number_bits n one.1 one.5, (one.2, one.6))

str_read : (b : List ℕ) → Read (term.Str b)
str_read b ks bytes s =
    let one = rw (tokens-Str b) at s in
    (fold-Str Bool proper_step b ∙ one.5.is, (one.2, one.6))

appl_read : (n : List ℕ) (ts : List Term) → AllByRecursion Read ts → Read (term.Appl n ts)
appl_read n [] w ks bytes s =
    let one = rw (tokens-Appl n []) at s in
    (fold-Appl Bool proper_step n [] ∙ and_from (is_name n) true one.5.0 refl, (one.2, one.6))
appl_read n (t ∷ ts) w ks bytes s =
    let one = rw (tokens-Appl n (t ∷ ts)) at s in
    let parts = parts_read t ts w _ one.6.2 (rw (append_assoc (with_commas (map tokens_of (t ∷ ts))) _ ks) at one.6.6) in
    let close = parts.1.1 in
    (fold-Appl Bool proper_step n (t ∷ ts) ∙ and_from (is_name n) (All (map is_proper (t ∷ ts))) one.5.0 parts.0, (close.2, close.6))

list_read : (ts : List Term) → AllByRecursion Read ts → Read (term.List ts)
list_read [] w ks bytes s =
    let one = rw (tokens-List []) at s in
    (fold-List Bool proper_step [], (one.6.2, one.6.6))
list_read (t ∷ ts) w ks bytes s =
    let one = rw (tokens-List (t ∷ ts)) at s in
    let parts = parts_read t ts w _ one.2 (rw (append_assoc (with_commas (map tokens_of (t ∷ ts))) _ ks) at one.6) in
    let close = parts.1.1 in
    (fold-List Bool proper_step (t ∷ ts) ∙ parts.0, (close.2, close.6))

term_read : (t : Term) → Read t
term_read = term_induction Read int_read str_read appl_read list_read

reads_proper : (bytes : List ℕ) (t : Term) → Reads bytes t → is_proper t ≡ true
reads_proper bytes t r = (term_read t [] bytes (rw append-nil r)).0

-- If the option has a value, the value passes the test.
abbrev Gives : {X : Type 0} → (X → Bool) → Option X → Type 0
Gives test None = Unit {0}
Gives test (Some x) = test x ≡ true

term_gives : (bytes : List ℕ) → Gives is_proper (term_of bytes)
term_gives bytes = by (term_of bytes) refl where
  by : (o : Option Term) → term_of bytes ≡ o → Gives is_proper o
  by None e = tt
  by (Some t) e = reads_proper bytes t (term_of-is bytes t e).0

abbrev are_proper : List Term → Bool
are_proper ts = list_all is_proper ts

first_gives : (o : Option Term) (rest : Option (List Term)) → Gives is_proper o → Gives are_proper rest → Gives are_proper (with_first o rest)
first_gives None rest p q = tt
first_gives (Some t) None p q = tt
first_gives (Some t) (Some ts) p q = and_from (is_proper t) (are_proper ts) p q

all_give : (ps : List (List ℕ)) → Gives are_proper (all_terms ps)
all_give [] = refl
all_give (p ∷ ps) = first_gives (term_of p) (all_terms ps) (term_gives p) (all_give ps)

terms_give : (bytes : List ℕ) → Gives are_proper (terms_of bytes)
terms_give bytes = all_give (parts bytes)

label_terms_give : (bytes : List ℕ) → Gives are_proper (label_terms bytes)
label_terms_give [] = refl
label_terms_give (b ∷ bytes) = terms_give (b ∷ bytes)

-- Steps.

place_proper : (word : List ℕ) → is_proper_place (place_of word) ≡ true
place_proper word =
    and_from (ltb (number32 (prefix 46 word)) (2 ^ 32)) (ltb (number32 (behind 46 word)) (2 ^ 32)) (lt-ltb (number32 (prefix 46 word)) (2 ^ 32) (omega arith)) (lt-ltb (number32 (behind 46 word)) (2 ^ 32) (omega arith))

labelled_gives : (k : LabelKind) (from to : Place) (o : Option (List Term)) → is_proper_place from ≡ true → is_proper_place to ≡ true → Gives are_proper o → Gives is_proper_entry (labelled k from to o)
labelled_gives k from to None f t p = tt
labelled_gives k from to (Some ts) f t p = and_from (is_proper_place from && is_proper_place to) (are_proper ts) (and_from (is_proper_place from) (is_proper_place to) f t) p

abbrev StepGives : LabelKind → Type 0
StepGives k = (bytes : List ℕ) → Gives is_proper_entry (step_of k bytes)

one_gives : (k : LabelKind) → HasOnePlace k → StepGives k
one_gives k o bytes =
    subst (Gives is_proper_entry) (sym (o.step bytes)) (labelled_gives k (place_of (prefix 32 bytes)) nowhere (label_terms (behind 32 bytes)) (place_proper (prefix 32 bytes)) refl (label_terms_give (behind 32 bytes)))

step_gives : (k : LabelKind) → StepGives k
step_gives = kinds StepGives
    (λ bytes. labelled_gives kind.Msg (place_of (prefix 32 bytes)) (place_of (prefix 32 (behind 32 bytes))) (label_terms (behind 32 (behind 32 bytes))) (place_proper (prefix 32 bytes)) (place_proper (prefix 32 (behind 32 bytes))) (label_terms_give (behind 32 (behind 32 bytes))))
    (λ bytes. labelled_gives kind.Finish nowhere nowhere (Some []) refl refl refl) (λ bytes. labelled_gives kind.Halt nowhere nowhere (Some []) refl refl refl) one_gives

-- Inputs.

either : {X : Type 0} (test : X → Bool) (b : Bool) (x y : Option X) → Gives test x → Gives test y → Gives test (cond b x y)
either test true x y p q = p
either test false x y p q = q

-- if a test decides whether there is a value, each value passes the test
tested : {X : Type 0} (test : X → Bool) (b : Bool) (x : X) → (b ≡ true → test x ≡ true) → Gives test (cond b (Some x) None)
tested test true x p = p refl
tested test false x p = tt

value_gives : (o : Option Term) → Gives is_proper o → Gives is_proper_tool_line (value_line o)
value_gives None p = tt
value_gives (Some t) p = p

event_gives : (o : Option (List Term)) → Gives are_proper o → Gives is_proper_tool_line (event_line o)
event_gives None p = tt
event_gives (Some ts) p = p

named_gives : (name inner : List ℕ) → Gives is_proper_tool_line (named_line name inner)
named_gives name inner =
    let bad = either is_proper_tool_line (bytes_eq name (codes "?")) (Some tool.Bad) None refl tt in
    let disconnect = either is_proper_tool_line (bytes_eq name (codes "snd-disconnect")) (Some tool.Disconnect) _ refl bad in
    let connect = either is_proper_tool_line (bytes_eq name (codes "snd-connect")) _ _ (tested is_proper_tool_line (is_name inner) (tool.Connect inner) (λ e. e)) disconnect in
    let event = either is_proper_tool_line (bytes_eq name (codes "snd-event")) _ _ (event_gives (terms_of inner) (terms_give inner)) connect in
    either is_proper_tool_line (bytes_eq name (codes "snd-value")) _ _ (value_gives (term_of inner) (term_gives inner)) event

lane_proper : (digits : List ℕ) → ltb (number8 digits) (2 ^ 8) ≡ true
lane_proper digits = lt-ltb (number8 digits) (2 ^ 8) (omega arith)

line_gives : (lane : ℕ) (o : Option ToolLine) → ltb lane (2 ^ 8) ≡ true → Gives is_proper_tool_line o → Gives is_proper_input (line_on lane o)
line_gives lane None p q = tt
line_gives lane (Some line) p q = and_from (ltb lane (2 ^ 8)) (is_proper_tool_line line) p q

input_gives : (word rest : List ℕ) → Gives is_proper_input (input_of word rest)
input_gives word rest =
    let lane = prefix 32 rest in
    let text = behind 32 rest in
    let cuts = either is_proper_input (bytes_eq word (codes "cut")) (Some (input.Cut (number8 rest))) None (lane_proper rest) tt in
    let gone = either is_proper_input (bytes_eq word (codes "gone")) (Some (input.Gone (number8 rest))) _ (lane_proper rest) cuts in
    let line = either is_proper_input (bytes_eq word (codes "line")) _ _ (line_gives (number8 lane) (tool_line_of text) (lane_proper lane) (named_gives (prefix 40 text) (without_last (behind 40 text)))) gone in
    let noticks = either is_proper_input (bytes_eq word (codes "noticks")) (Some input.NoTicks) _ refl line in
    either is_proper_input (bytes_eq word (codes "tick")) (Some input.Tick) _ refl noticks

fed_gives : (reply : Reply) (o : Option Input) → Gives is_proper_input o → Gives is_proper_entry (fed_by reply o)
fed_gives reply None p = tt
fed_gives reply (Some input) p = p

dropped_gives : (why : Option Why) (o : Option Input) → Gives is_proper_input o → Gives is_proper_entry (dropped_by why o)
dropped_gives None o p = tt
dropped_gives (Some why) o p = fed_gives (Dropped why) o p

-- Outputs.

handed_gives : (name : List ℕ) (o : Option (List Term)) → Gives are_proper o → Gives is_proper_out (line_of name o)
handed_gives name None p = tt
handed_gives name (Some ts) p = tested is_proper_out (is_name name) (out.Line (term.Appl name ts)) (λ e. fold-Appl Bool proper_step name ts ∙ and_from (is_name name) (All (map is_proper ts)) e (mapped ts p)) where
  mapped : (ts : List Term) → are_proper ts ≡ true → All (map is_proper ts) ≡ true
  mapped [] h = refl
  mapped (t ∷ ts) h = let q = and_parts (is_proper t) (are_proper ts) h in and_from (is_proper t) (All (map is_proper ts)) q.0 (mapped ts q.1)

out_gives : (bytes : List ℕ) → Gives is_proper_out (out_of bytes)
out_gives bytes =
    let command = unescaped_from false (without_last (behind 34 bytes)) in
    let terms = terms_of (without_last (behind 40 bytes)) in
    let line = handed_gives (prefix 40 bytes) terms (terms_give (without_last (behind 40 bytes))) in
    let ended = either is_proper_out (bytes_eq bytes (codes "end")) (Some out.End) _ refl line in
    either is_proper_out (bytes_eq (prefix 32 bytes) (codes "start")) (start_of command) _ (tested is_proper_out (is_string command) (out.Start command) (λ e. e)) ended

gave_gives : (lane : ℕ) (o : Option Out) → ltb lane (2 ^ 8) ≡ true → Gives is_proper_out o → Gives is_proper_entry (gave_on lane o)
gave_gives lane None p q = tt
gave_gives lane (Some out) p q = and_from (ltb lane (2 ^ 8)) (is_proper_out out) p q

-- Entries.

other_gives : (word rest : List ℕ) → Gives is_proper_entry (other_of word rest)
other_gives word rest =
    let words = behind 32 rest in
    let fed = fed_gives Took (input_of word rest) (input_gives word rest) in
    let gave = either is_proper_entry (bytes_eq word (codes "out")) (gave_of rest) _ (gave_gives (number8 (prefix 32 rest)) (out_of words) (lane_proper (prefix 32 rest)) (out_gives words)) fed in
    let drop = either is_proper_entry (bytes_eq word (codes "drop")) (drop_of rest) _ (dropped_gives (why_of (prefix 32 rest)) (input_of (prefix 32 words) (behind 32 words)) (input_gives (prefix 32 words) (behind 32 words))) gave in
    either is_proper_entry (bytes_eq word (codes "quiet")) (Some Quiet) _ refl drop

entry_gives : (k : Option LabelKind) (word rest : List ℕ) → Gives is_proper_entry (entry_by k word rest)
entry_gives None word rest = other_gives word rest
entry_gives (Some k) word rest = step_gives k rest

words_give : (bytes : List ℕ) → Gives is_proper_entry (words_of bytes)
words_give bytes = let word = prefix 32 bytes in entry_gives (kind_of word) word (behind 32 bytes)

pub words_proper : (bytes : List ℕ) (entry : Entry) → words_of bytes ≡ Some entry → is_proper_entry entry ≡ true
words_proper bytes entry e = subst (Gives is_proper_entry) e (words_give bytes)
