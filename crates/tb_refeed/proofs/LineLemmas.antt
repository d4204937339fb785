-- The words of an input in a log, as a line of a feed.
use Rattle.std.proofs.Common.{◌≡◌, ◌≤◌, ◌-◌, ℕ, suc, take, drop, ◌^◌, Bool, true, false, nat_le, nat_lt, if◌then◌else◌, List, [], ◌∷◌, ◌++◌, length, map, Some, refl, ap, sym, ◌∙◌, subst, arith, append_assoc, codes}
use Rattle.std.specs.List.{All, list_all}
use Rattle.std.proofs.lemmas.Bool.{and_parts, and_from, leb-true, le-leb, false≢true}
use Rattle.std.proofs.lemmas.List.{take_all}
use Rattle.std.proofs.lemmas.List.Elements.{All-head, All-tail}
use Rattle.tb_terms.specs.declared.term.Term.{Term}
use Rattle.tb_terms.specs.declared.term.Term.TheVariants as term
use Rattle.tb_terms.specs.declared.term.Term.TheVariants.{outs-Appl}
use Rattle.tb_terms.specs.Names.{is_name}
use Rattle.tb_terms.specs.Proper.{is_proper, proper_step}
use Rattle.tb_terms.specs.Sizes.{term_size, term_levels, most_term_size, most_term_levels, is_within_limits, IsWithinLimits}
use Rattle.tb_terms.specs.Texts.{term_text, text_step}
use Rattle.tb_terms.proofs.Induction.{fold-Appl}
use Rattle.tb_log.specs.Limits.{terms_size}
use Rattle.std.specs.Fmt.{decimal, digits}
use Rattle.tb_log.specs.LogText.{entry_text, input_words, tool_line_words}
use Rattle.tb_log.specs.Proper.{is_proper_input, is_proper_tool_line}
use Rattle.tb_log.specs.Shapes.{AreParts, IsInputInShape, IsToolLineInShape}
use Rattle.tb_log.specs.declared.entry.Input.{Input}
use Rattle.tb_log.specs.declared.entry.Input.TheVariants as input
use Rattle.tb_log.specs.declared.entry.ToolLine.{ToolLine}
use Rattle.tb_log.specs.declared.entry.ToolLine.TheVariants as tool
use Rattle.tb_read.specs.declared.fault.TermFault.TheVariants as fault
use Rattle.tb_read.specs.Spelling.{Reads}
use Rattle.tb_read.proofs.Written.{written_reads}
use Rattle.tb_tool_line.specs.ToolLines.{IsToolLine, are_within, connect_line, event_line, line_by_layer, line_by_name, name_line, named_line, value_line}
use Rattle.tb_tool_line.proofs.Lines.{faulty-line, read-line}
use Rattle.tb_feed.specs.Feeds.{Says}
use Rattle.tb_log.specs.declared.entry.Entry.TheVariants.{Fed}
use Rattle.tb_log.specs.declared.entry.Reply.TheVariants.{Took}
use Rattle.tb_refeed.specs.Feeding.{feed_line}
use Rattle.tb_refeed.specs.Helpers.Writing.{is_short_input}

within-test : (t : Term) → IsWithinLimits t → is_within_limits t ≡ true
unfolding is_within_limits
within-test t h = and_from (nat_le (term_size t) most_term_size) (nat_le (term_levels t) most_term_levels) (le-leb (term_size t) most_term_size h.size) (le-leb (term_levels t) most_term_levels h.levels)

all-within : (ts : List Term) → All IsWithinLimits ts → list_all is_within_limits ts ≡ true
all-within [] h = refl
all-within (t ∷ ts) h =
    and_from (is_within_limits t) (list_all is_within_limits ts) (within-test t (All-head IsWithinLimits t ts h)) (all-within ts (All-tail IsWithinLimits t ts h))

parts-within : (ts : List Term) → AreParts ts → are_within ts ≡ true
parts-within ts h = and_from (list_all is_within_limits ts) (nat_le (terms_size ts) most_term_size) (all-within ts h.each) (le-leb (terms_size ts) most_term_size h.together)

-- the line of a name with parts, by its text
named-line : (name : List ℕ) (ts : List Term) (text : List ℕ) → is_proper (term.Appl name ts) ≡ true → term_text (term.Appl name ts) ≡ text → length text ≤ 65536 → IsToolLine text (line_by_name name ts)
named-line name ts text proper same short =
    let reads : Reads text (term.Appl name ts) = subst (λ (bytes : List ℕ). Reads bytes (term.Appl name ts)) same (written_reads (term.Appl name ts) proper) in
    subst (IsToolLine text) (ap line_by_layer (outs-Appl name ts)) (read-line text (term.Appl name ts) short reads)

all-proper : (ts : List Term) → list_all is_proper ts ≡ true → list_all (λ part. part) (map is_proper ts) ≡ true
all-proper [] h = refl
all-proper (t ∷ ts) h =
    let p = and_parts (is_proper t) (list_all is_proper ts) h in
    and_from (is_proper t) (list_all (λ part. part) (map is_proper ts)) p.0 (all-proper ts p.1)

proper-appl : (name : List ℕ) (ts : List Term) → is_name name ≡ true → list_all is_proper ts ≡ true → is_proper (term.Appl name ts) ≡ true
proper-appl name ts n h = fold-Appl Bool proper_step name ts ∙ and_from (is_name name) (list_all (λ part. part) (map is_proper ts)) n (all-proper ts h)

if-true : {A : Type 0} (b : Bool) (x y : A) → b ≡ true → (if b then x else y) ≡ x
if-true true x y e = refl
if-true false x y e = absurd (false≢true e)

value-said : (t : Term) → IsWithinLimits t → is_proper t ≡ true → length (tool_line_words (tool.Value t)) ≤ 65536 → IsToolLine (tool_line_words (tool.Value t)) (tool.Value t)
value-said t shape proper short =
    let name : List ℕ = codes "snd-value" in
    let is : IsToolLine (tool_line_words (tool.Value t)) (value_line (Some t)) =
    named-line name (t ∷ []) (tool_line_words (tool.Value t)) (proper-appl name (t ∷ []) refl (and_from (is_proper t) true proper refl)) (fold-Appl (List ℕ) text_step name (t ∷ [])) short in
    subst (IsToolLine (tool_line_words (tool.Value t))) (if-true (is_within_limits t) (tool.Value t) tool.Bad (within-test t shape)) is

event-said : (t : Term) (ts : List Term) → AreParts (t ∷ ts) → list_all is_proper (t ∷ ts) ≡ true → length (tool_line_words (tool.Event (t ∷ ts))) ≤ 65536 → IsToolLine (tool_line_words (tool.Event (t ∷ ts))) (tool.Event (t ∷ ts))
event-said t ts shape proper short =
    let name : List ℕ = codes "snd-event" in
    let is : IsToolLine (tool_line_words (tool.Event (t ∷ ts))) (event_line (t ∷ ts)) =
    named-line name (t ∷ ts) (tool_line_words (tool.Event (t ∷ ts))) (proper-appl name (t ∷ ts) refl proper) (fold-Appl (List ℕ) text_step name (t ∷ ts)) short in
    subst (IsToolLine (tool_line_words (tool.Event (t ∷ ts)))) (if-true (are_within (t ∷ ts)) (tool.Event (t ∷ ts)) tool.Bad (parts-within (t ∷ ts) shape)) is

-- a name without parts
plain : List ℕ → Term
plain name = term.Appl name []

plain-text : (name : List ℕ) → term_text (plain name) ≡ name
unfolding plain
plain-text name = fold-Appl (List ℕ) text_step name []

plain-proper : (name : List ℕ) → is_name name ≡ true → is_proper (plain name) ≡ true
unfolding plain
plain-proper name n = proper-appl name [] n refl

connect-said : (name : List ℕ) → length name ≤ 65534 → is_name name ≡ true → length (tool_line_words (tool.Connect name)) ≤ 65536 → IsToolLine (tool_line_words (tool.Connect name)) (tool.Connect name)
unfolding plain
connect-said name long n short =
    let text : List ℕ = tool_line_words (tool.Connect name) in
    let word : List ℕ = codes "snd-connect" in
    let same : term_text (term.Appl word (plain name ∷ [])) ≡ text =
    fold-Appl (List ℕ) text_step word (plain name ∷ []) ∙ ap (λ (inner : List ℕ). word ++ 40 ∷ inner ++ 41 ∷ []) (plain-text name) in
    let is : IsToolLine text (connect_line (Some (plain name))) =
    named-line word (plain name ∷ []) text (proper-appl word (plain name ∷ []) refl (and_from (is_proper (plain name)) true (plain-proper name n) refl)) same short in
    let named : IsToolLine text (name_line name []) = subst (IsToolLine text) (ap named_line (outs-Appl name [])) is in
    subst (IsToolLine text) (if-true (nat_le (length name) 65534) (tool.Connect name) tool.Bad (le-leb (length name) 65534 long)) named

disconnect-said : IsToolLine (codes "snd-disconnect") tool.Disconnect
disconnect-said =
    let word : List ℕ = codes "snd-disconnect" in
    named-line word [] word (proper-appl word [] refl refl) (fold-Appl (List ℕ) text_step word []) (omega arith)

bad-said : IsToolLine (codes "?") tool.Bad
bad-said = faulty-line (codes "?") (fault.Syntax 0) (omega arith) (λ e. cc) ([], refl)

-- The words of a tool's line are that line again, where they are short enough.
pub tool-said : (line : ToolLine) → IsToolLineInShape line → is_proper_tool_line line ≡ true → length (tool_line_words line) ≤ 65536 → IsToolLine (tool_line_words line) line
tool-said (tool.Value t) shape proper short = value-said t shape proper short
tool-said (tool.Event []) shape proper short = absurd (omega (arith, shape.0))
tool-said (tool.Event (t ∷ ts)) shape proper short = event-said t ts shape.1 proper short
tool-said (tool.Connect name) shape proper short = connect-said name shape proper short
tool-said tool.Disconnect shape proper short = disconnect-said
tool-said tool.Bad shape proper short = bad-said

-- So the words of an input are a line of a feed that says it.
pub input-said : (it : Input) → IsInputInShape it → is_proper_input it ≡ true → is_short_input it ≡ true → (it ≡ input.NoTicks → ⊥) → Says (input_words it) it
input-said input.Tick shape proper short ticks = refl
input-said input.NoTicks shape proper short ticks = absurd (ticks refl)
input-said (input.Line lane line) shape proper short ticks =
    let p = and_parts (nat_lt lane (2 ^ 8)) (is_proper_tool_line line) proper in
    (shape.0, (tool_line_words line, sym (append_assoc (codes "line " ++ decimal lane) (codes " ") (tool_line_words line)), tool-said line shape.1 p.1 (leb-true (length (tool_line_words line)) 65536 short)))
input-said (input.Gone lane) shape proper short ticks = (shape, refl)
input-said (input.Cut lane) shape proper short ticks = (shape, refl)

-- what the log writes of an input without a number of its own
pub line-written : (it : Input) → entry_text 0 (Fed it Took) ≡ 48 ∷ 32 ∷ feed_line it
unfolding digits
line-written it = refl

-- what stands behind the first two bytes
pub rest-of : (s f : List ℕ) → s ≡ 48 ∷ 32 ∷ f → take (length s - 2) (drop 2 s) ≡ f
rest-of s f e = let n : length s ≡ suc (suc (length f)) = ap length e in ap (λ (l : List ℕ). take (length s - 2) (drop 2 l)) e ∙ take_all (length s - 2) f (omega arith)
