-- The words of an entry in shape give this entry.
use Rattle.std.proofs.Common.{◌≡◌, ◌⊎◌, ◌≤◌, ◌<◌, ◌^◌, ℕ, Bool, true, false, ◌&&◌, ◌||◌, eqb, ltb, leb, List, [], ◌∷◌, ◌++◌, length, map, Some, None, refl, ap, sym, ◌∙◌, subst, inl, inr, ⊎_elim, arith, append_assoc, append-nil}
use Rattle.std.specs.Prelude.{codes}
use Rattle.std.specs.Fmt.{decimal}
use Rattle.std.specs.Str.{bytes_eq}
use Rattle.std.specs.List.{list_all, flat_map, All}
use Rattle.std.proofs.lemmas.Bool.{and_parts, and_from, ltb-true, leb-true, eqb-true, or_cases}
use Rattle.std.proofs.lemmas.Slice.Eq.{bytes_eq-Decides}
use Rattle.tb_terms.specs.Names.{is_name, is_string}
use Rattle.tb_terms.specs.Proper.{is_proper, proper_step}
use Rattle.tb_terms.specs.Sizes.{IsWithinLimits}
use Rattle.tb_terms.specs.Texts.{term_text, terms_text, text_step, escaped}
use Rattle.tb_terms.specs.declared.term.Term.{Term, out-Term}
use Rattle.tb_terms.specs.declared.term.Term.TheVariants as term
use Rattle.tb_terms.specs.declared.term.Term.TheVariants.{outs-Int, outs-Str, outs-Appl, outs-List}
use Rattle.tb_terms.proofs.Induction.{term_induction, fold-Appl}
use Rattle.tb_read.specs.declared.fault.TermFault.TheVariants.{Syntax}
use Rattle.tb_log.specs.LogText.{place_words, term_words, kind_word, label_words, tool_line_words, input_words, why_word, fed_words, out_words, entry_words}
use Rattle.tb_log.specs.Proper.{is_proper_place, is_proper_tool_line, is_proper_input, is_proper_out, is_proper_entry}
use Rattle.tb_log.specs.Shapes.{nowhere, HasPlaces, has_terms, IsToolLineInShape, has_parts, IsForTool, IsOutInShape, IsLane, IsInputInShape, InShape}
use Rattle.tb_log.specs.declared.entry.Place.{Place}
use Rattle.tb_log.specs.declared.entry.LabelKind.{LabelKind}
use Rattle.tb_log.specs.declared.entry.LabelKind.TheVariants as kind
use Rattle.tb_log.specs.declared.entry.ToolLine.{ToolLine}
use Rattle.tb_log.specs.declared.entry.ToolLine.TheVariants as tool
use Rattle.tb_log.specs.declared.entry.Input.{Input}
use Rattle.tb_log.specs.declared.entry.Input.TheVariants as input
use Rattle.tb_log.specs.declared.entry.Out.{Out}
use Rattle.tb_log.specs.declared.entry.Out.TheVariants as out
use Rattle.tb_log.specs.declared.entry.Reply.{Reply}
use Rattle.tb_log.specs.declared.entry.Reply.TheVariants.{Took, Dropped}
use Rattle.tb_log.specs.declared.entry.Why.{Why}
use Rattle.tb_log.specs.declared.entry.Why.TheVariants as why
use Rattle.tb_log.specs.declared.entry.Entry.{Entry}
use Rattle.tb_log.specs.declared.entry.Entry.TheVariants.{Did, Quiet, Fed, Gave}
use Rattle.tb_log_read.specs.Helpers.Cutting.{prefix, behind, without_last}
use Rattle.tb_log_read.specs.Helpers.Numbers.{number8, place_of}
use Rattle.tb_log_read.specs.Helpers.Terms.{term_of, terms_of, label_terms}
use Rattle.tb_log_read.specs.Helpers.Unescaping.{unescaped_from}
use Rattle.tb_log_read.specs.Helpers.Words.{kind_of, labelled, step_of, value_line, event_line, named_line, tool_line_of, line_on, input_of, fed_by, start_of, line_of, out_of, gave_on, entry_by, words_of}
use Rattle.tb_log_read.proofs.Cuts.{lacks, lacks-append, prefix-cut, behind-cut, prefix-none, behind-none, without_last-push}
use Rattle.tb_log_read.proofs.Decimals.{lacks-decimal, number8-decimal, place_of-decimal}
use Rattle.tb_log_read.proofs.LabelKinds.{HasOnePlace, kinds}
use Rattle.tb_log_read.proofs.Readings.{term_of-fault}
use Rattle.tb_log_read.proofs.Skips.{term_of-text, terms_of-text}
use Rattle.tb_log_read.proofs.Unescapes.{unescaped-escaped}

-- Terms.

no_term : term_of [] ≡ None
no_term = term_of-fault [] (Syntax 0) ([], refl) (λ e. cc)

no_terms : terms_of [] ≡ None
no_terms = rw no_term refl

label_terms-text : (t : Term) (ts : List Term) → list_all is_proper (t ∷ ts) ≡ true → All IsWithinLimits (t ∷ ts) → label_terms (terms_text (t ∷ ts)) ≡ Some (t ∷ ts)
label_terms-text t ts h w = by (terms_text (t ∷ ts)) (terms_of-text t ts h w) where
  by : (l : List ℕ) → terms_of l ≡ Some (t ∷ ts) → label_terms l ≡ Some (t ∷ ts)
  by [] e = let none : None ≡ Some (t ∷ ts) = sym no_terms ∙ e in cc
  by (x ∷ l) e = e

-- Steps.

-- a place, without the space before it
abbrev place_text : Place → List ℕ
place_text place = decimal place.proc ++ (46 ∷ decimal place.atom)

abbrev PlaceRead : Place → Type 0
PlaceRead place = (lacks 32 (place_text place) ≡ true) × (place_of (place_text place) ≡ place)

place_read : (place : Place) → is_proper_place place ≡ true → PlaceRead place
place_read place h =
    let p = and_parts (ltb place.proc (2 ^ 32)) (ltb place.atom (2 ^ 32)) h in
    let proc : place.proc < 2 ^ 32 = ltb-true place.proc (2 ^ 32) p.0 in
    let atom : place.atom < 2 ^ 32 = ltb-true place.atom (2 ^ 32) p.1 in
    let first : lacks 32 (decimal place.proc) ≡ true = lacks-decimal 32 refl place.proc (omega arith) in
    let second : lacks 32 (decimal place.atom) ≡ true = lacks-decimal 32 refl place.atom (omega arith) in
    let point : lacks 32 (46 ∷ decimal place.atom) ≡ true = lacks-append 32 (46 ∷ []) (decimal place.atom) refl second in
    (lacks-append 32 (decimal place.proc) (46 ∷ decimal place.atom) first point, place_of-decimal place.proc place.atom proc atom)

-- a place, and the terms after it
abbrev Behind : Place → List Term → Type 0
Behind place ts = (prefix 32 (place_text place ++ term_words ts) ≡ place_text place) × (label_terms (behind 32 (place_text place ++ term_words ts)) ≡ Some ts)

terms_read : (place : Place) (ts : List Term) → PlaceRead place → list_all is_proper ts ≡ true → All IsWithinLimits ts → Behind place ts
terms_read place [] r h w =
    rw (append-nil (place_text place)) (prefix-none 32 (place_text place) r.0, ap label_terms (behind-none 32 (place_text place) r.0))
terms_read place (t ∷ ts) r h w =
    (prefix-cut 32 (place_text place) (terms_text (t ∷ ts)) r.0, ap label_terms (behind-cut 32 (place_text place) (terms_text (t ∷ ts)) r.0) ∙ label_terms-text t ts h w)

abbrev label : LabelKind → Place → Place → List Term → Entry
label k from to ts = Did (record { kind = k; from = from; to = to; terms = ts })

abbrev OfKind : LabelKind → Type 0
OfKind k = (from to : Place) (ts : List Term) → PlaceRead from → PlaceRead to → list_all is_proper ts ≡ true → All IsWithinLimits ts → HasPlaces k from to → has_terms k (length ts) ≡ true → words_of (label_words k from to ts) ≡ Some (label k from to ts)

words_by : (bytes word rest : List ℕ) → prefix 32 bytes ≡ word → behind 32 bytes ≡ rest → words_of bytes ≡ entry_by (kind_of word) word rest
words_by bytes word rest p q = rw (p, q) refl

one_read : (k : LabelKind) → HasOnePlace k → OfKind k
one_read k o from to ts f t h w places count =
    let more = place_text from ++ term_words ts in
    let parted : label_words k from to ts ≡ kind_word k ++ (32 ∷ more) = o.words from to ts ∙ append_assoc (kind_word k) (place_words from) (term_words ts) in
    let word : prefix 32 (label_words k from to ts) ≡ kind_word k = ap (prefix 32) parted ∙ prefix-cut 32 (kind_word k) more o.blank in
    let rest : behind 32 (label_words k from to ts) ≡ more = ap (behind 32) parted ∙ behind-cut 32 (kind_word k) more o.blank in
    let b = terms_read from ts f h w in
    words_by (label_words k from to ts) (kind_word k) more word rest ∙ ap (λ found. entry_by found (kind_word k) more) o.known ∙ o.step more
    ∙ ap (λ (l : List ℕ). labelled k (place_of l) nowhere (label_terms (behind 32 more))) b.0 ∙ ap (λ found. labelled k (place_of (place_text from)) nowhere found) b.1
    ∙ ap (λ place. Some (label k place nowhere ts)) f.1 ∙ ap (λ place. Some (label k from place ts)) (sym (o.places from to places))

no_more : (ts : List Term) → eqb (length ts) 0 ≡ true → ts ≡ []
no_more [] e = refl
no_more (t ∷ ts) e = let none : length (t ∷ ts) ≡ 0 = eqb-true (length (t ∷ ts)) 0 e in absurd (omega arith)

message_read : OfKind kind.Msg
message_read from to ts f t h w places count =
    let last = place_text to ++ term_words ts in
    let parted : (place_text from ++ (32 ∷ place_text to)) ++ term_words ts ≡ place_text from ++ (32 ∷ last) = append_assoc (place_text from) (32 ∷ place_text to) (term_words ts) in
    let b = terms_read to ts t h w in
    ap (step_of kind.Msg) parted
    ∙ ap (λ (l : List ℕ). labelled kind.Msg (place_of l) (place_of (prefix 32 (behind 32 (place_text from ++ (32 ∷ last))))) (label_terms (behind 32 (behind 32 (place_text from ++ (32 ∷ last)))))) (prefix-cut 32 (place_text from) last f.0)
    ∙ ap (λ (l : List ℕ). labelled kind.Msg (place_of (place_text from)) (place_of (prefix 32 l)) (label_terms (behind 32 l))) (behind-cut 32 (place_text from) last f.0)
    ∙ ap (λ (l : List ℕ). labelled kind.Msg (place_of (place_text from)) (place_of l) (label_terms (behind 32 last))) b.0
    ∙ ap (λ found. labelled kind.Msg (place_of (place_text from)) (place_of (place_text to)) found) b.1
    ∙ ap (λ place. Some (label kind.Msg place (place_of (place_text to)) ts)) f.1 ∙ ap (λ place. Some (label kind.Msg from place ts)) t.1

end_read : (k : LabelKind) → words_of (label_words k nowhere nowhere []) ≡ Some (label k nowhere nowhere []) → (from to : Place) (ts : List Term) → label_words k nowhere nowhere [] ≡ label_words k from to ts → (from ≡ nowhere) × (to ≡ nowhere) → eqb (length ts) 0 ≡ true → words_of (label_words k from to ts) ≡ Some (label k from to ts)
end_read k e from to ts same places count =
    ap words_of (sym same) ∙ e ∙ ap (λ place. Some (label k place nowhere [])) (sym places.0) ∙ ap (λ place. Some (label k from place [])) (sym places.1) ∙ ap (λ ts. Some (label k from to ts)) (sym (no_more ts count))

label_read : (k : LabelKind) → OfKind k
label_read = kinds OfKind message_read
    (λ from to ts f t h w places count. end_read kind.Finish refl from to ts refl places count)
    (λ from to ts f t h w places count. end_read kind.Halt refl from to ts refl places count) one_read

-- Lines from tools.

tool_line_read : (line : ToolLine) → is_proper_tool_line line ≡ true → IsToolLineInShape line → tool_line_of (tool_line_words line) ≡ Some line
tool_line_read (tool.Value t) h w = ap (λ (l : List ℕ). value_line (term_of l)) (without_last-push (term_text t) 41) ∙ ap value_line (term_of-text t h w)
tool_line_read (tool.Event []) h w = let some : 1 ≤ 0 = w.0 in absurd (omega arith)
tool_line_read (tool.Event (t ∷ ts)) h w =
    ap (λ (l : List ℕ). event_line (terms_of l)) (without_last-push (terms_text (t ∷ ts)) 41) ∙ ap event_line (terms_of-text t ts h w.1.each)
tool_line_read (tool.Connect name) h w =
    ap (λ (l : List ℕ). named_line (codes "snd-connect") l) (without_last-push name 41) ∙ rw h refl
tool_line_read tool.Disconnect h w = refl
tool_line_read tool.Bad h w = refl

-- Inputs.

abbrev LaneRead : ℕ → Type 0
LaneRead lane = (lacks 32 (decimal lane) ≡ true) × (number8 (decimal lane) ≡ lane)

lane_read : (lane : ℕ) → IsLane lane → LaneRead lane
lane_read lane h =
    let most : lane ≤ 16 = h.1 in
    (lacks-decimal 32 refl lane (omega arith), number8-decimal lane (omega arith))

abbrev InputRead : Input → Type 0
InputRead input = input_of (prefix 32 (input_words input)) (behind 32 (input_words input)) ≡ Some input

input_read : (input : Input) → is_proper_input input ≡ true → IsInputInShape input → InputRead input
input_read input.Tick h s = refl
input_read input.NoTicks h s = refl
input_read (input.Line lane line) h s =
    let l = lane_read lane s.0 in
    let p = and_parts (ltb lane (2 ^ 8)) (is_proper_tool_line line) h in
    let words = tool_line_words line in
    ap (λ (l : List ℕ). line_on (number8 l) (tool_line_of (behind 32 (decimal lane ++ (32 ∷ words))))) (prefix-cut 32 (decimal lane) words l.0)
    ∙ ap (λ (l : List ℕ). line_on (number8 (decimal lane)) (tool_line_of l)) (behind-cut 32 (decimal lane) words l.0)
    ∙ ap (λ found. line_on (number8 (decimal lane)) found) (tool_line_read line p.1 s.1) ∙ ap (λ n. Some (input.Line n line)) l.1
input_read (input.Gone lane) h s = ap (λ n. Some (input.Gone n)) (lane_read lane s).1
input_read (input.Cut lane) h s = ap (λ n. Some (input.Cut n)) (lane_read lane s).1

took_words : (input : Input) → words_of (input_words input) ≡ fed_by Took (input_of (prefix 32 (input_words input)) (behind 32 (input_words input)))
took_words input.Tick = refl
took_words input.NoTicks = refl
took_words (input.Line lane line) = refl
took_words (input.Gone lane) = refl
took_words (input.Cut lane) = refl

drop_words : (why : Why) (bytes : List ℕ) → words_of (codes "drop " ++ why_word why ++ (32 ∷ bytes)) ≡ fed_by (Dropped why) (input_of (prefix 32 bytes) (behind 32 bytes))
drop_words why.Unasked bytes = refl
drop_words why.NotLive bytes = refl
drop_words why.Named bytes = refl
drop_words why.Stranger bytes = refl
drop_words why.Bad bytes = refl
drop_words why.Down bytes = refl

fed_read : (reply : Reply) (input : Input) → InputRead input → words_of (fed_words reply input) ≡ Some (Fed input reply)
fed_read Took input r = took_words input ∙ ap (fed_by Took) r
fed_read (Dropped why) input r = drop_words why (input_words input) ∙ ap (fed_by (Dropped why)) r

-- Outputs.

start_read : (command : List ℕ) → is_string command ≡ true → out_of (out_words (out.Start command)) ≡ Some (out.Start command)
start_read command h =
    ap (λ (l : List ℕ). start_of (unescaped_from false l)) (without_last-push (flat_map escaped command) 34)
    ∙ ap start_of (unescaped-escaped command) ∙ rw h refl

abbrev IsNamed : List ℕ → Type 0
IsNamed name = (name ≡ codes "rec-eval") ⊎ ((name ≡ codes "rec-do") ⊎ ((name ≡ codes "rec-terminate") ⊎ (name ≡ codes "rec-ack-event")))

same_name : (name word : List ℕ) → bytes_eq name word ≡ true → name ≡ word
same_name name word e = (bytes_eq-Decides name word).0 e

one_part : (count : ℕ) → eqb count 1 ≡ true → 1 ≤ count
one_part count e = let one : count ≡ 1 = eqb-true count 1 e in omega arith

is_named : (name : List ℕ) (count : ℕ) → has_parts name count ≡ true → IsNamed name × (1 ≤ count)
is_named name count h =
    ⊎_elim (λ h. ⊎_elim (λ h. ⊎_elim
    (λ h. let p = and_parts (bytes_eq name (codes "rec-eval")) (eqb count 1) h in (inl (same_name name (codes "rec-eval") p.0), one_part count p.1))
    (λ h. let p = and_parts (bytes_eq name (codes "rec-do")) (eqb count 1) h in (inr (inl (same_name name (codes "rec-do") p.0)), one_part count p.1))
    (or_cases (bytes_eq name (codes "rec-eval") && eqb count 1) (bytes_eq name (codes "rec-do") && eqb count 1) h))
    (λ h. let p = and_parts (bytes_eq name (codes "rec-terminate")) (eqb count 1) h in (inr (inr (inl (same_name name (codes "rec-terminate") p.0))), one_part count p.1))
    (or_cases ((bytes_eq name (codes "rec-eval") && eqb count 1) || (bytes_eq name (codes "rec-do") && eqb count 1)) (bytes_eq name (codes "rec-terminate") && eqb count 1) h))
    (λ h. let p = and_parts (bytes_eq name (codes "rec-ack-event")) (leb 1 count) h in (inr (inr (inr (same_name name (codes "rec-ack-event") p.0))), leb-true 1 count p.1))
    (or_cases (((bytes_eq name (codes "rec-eval") && eqb count 1) || (bytes_eq name (codes "rec-do") && eqb count 1)) || (bytes_eq name (codes "rec-terminate") && eqb count 1)) (bytes_eq name (codes "rec-ack-event") && leb 1 count) h)

abbrev LineRead : List ℕ → Type 0
LineRead name = (inner : List ℕ) → out_of (name ++ (40 ∷ inner) ++ (41 ∷ [])) ≡ line_of name (terms_of (without_last (inner ++ (41 ∷ []))))

line_words : (name : List ℕ) → IsNamed name → LineRead name × (is_name name ≡ true)
line_words name (inl e) = rw e (λ inner. refl, refl)
line_words name (inr (inl e)) = rw e (λ inner. refl, refl)
line_words name (inr (inr (inl e))) = rw e (λ inner. refl, refl)
line_words name (inr (inr (inr e))) = rw e (λ inner. refl, refl)

appl_read : (name : List ℕ) (ts : List Term) → IsNamed name → 1 ≤ length ts → list_all is_proper ts ≡ true → All IsWithinLimits ts → out_of (term_text (term.Appl name ts)) ≡ Some (out.Line (term.Appl name ts))
appl_read name [] n some h w = absurd (omega arith)
appl_read name (t ∷ ts) n some h w =
    let inner = terms_text (t ∷ ts) in
    let l = line_words name n in
    ap out_of (fold-Appl (List ℕ) text_step name (t ∷ ts)) ∙ l.0 inner
    ∙ ap (λ (l : List ℕ). line_of name (terms_of l)) (without_last-push inner 41) ∙ ap (line_of name) (terms_of-text t ts h w) ∙ rw l.1 refl

abbrev ForTool : Term → Type 0
ForTool t = IsForTool (out-Term t) → is_proper t ≡ true → out_of (term_text t) ≡ Some (out.Line t)

all_proper : (ts : List Term) → list_all (λ part. part) (map is_proper ts) ≡ true → list_all is_proper ts ≡ true
all_proper [] h = refl
all_proper (t ∷ ts) h = let p = and_parts (is_proper t) (list_all (λ part. part) (map is_proper ts)) h in and_from (is_proper t) (list_all is_proper ts) p.0 (all_proper ts p.1)

for_tool : (t : Term) → ForTool t
for_tool = term_induction ForTool
    (λ n s h. absurd (subst IsForTool (outs-Int n) s))
    (λ b s h. absurd (subst IsForTool (outs-Str b) s))
    (λ name ts w s h.
    let shape = subst IsForTool (outs-Appl name ts) s in
    let n = is_named name (length ts) shape.0 in
    let valid = and_parts (is_name name) (list_all (λ part. part) (map is_proper ts)) (sym (fold-Appl Bool proper_step name ts) ∙ h) in
    appl_read name ts n.0 n.1 (all_proper ts valid.1) shape.1.each)
    (λ ts w s h. absurd (subst IsForTool (outs-List ts) s))

out_read : (out : Out) → is_proper_out out ≡ true → IsOutInShape out → out_of (out_words out) ≡ Some out
out_read (out.Start command) h s = start_read command h
out_read (out.Line t) h s = for_tool t s h
out_read out.End h s = refl

gave_read : (lane : ℕ) (out : Out) → LaneRead lane → out_of (out_words out) ≡ Some out → words_of (codes "out " ++ decimal lane ++ (32 ∷ out_words out)) ≡ Some (Gave lane out)
gave_read lane out l r =
    let words = out_words out in
    ap (λ (l : List ℕ). gave_on (number8 l) (out_of (behind 32 (decimal lane ++ (32 ∷ words))))) (prefix-cut 32 (decimal lane) words l.0)
    ∙ ap (λ (l : List ℕ). gave_on (number8 (decimal lane)) (out_of l)) (behind-cut 32 (decimal lane) words l.0)
    ∙ ap (gave_on (number8 (decimal lane))) r ∙ ap (λ n. Some (Gave n out)) l.1

-- Entries.

pub words_read : (entry : Entry) → is_proper_entry entry ≡ true → InShape entry → words_of (entry_words entry) ≡ Some entry
words_read (Did label) h s =
    let p = and_parts (is_proper_place label.from && is_proper_place label.to) (list_all is_proper label.terms) h in
    let q = and_parts (is_proper_place label.from) (is_proper_place label.to) p.0 in
    label_read label.kind label.from label.to label.terms (place_read label.from q.0) (place_read label.to q.1) p.1 s.terms s.places s.count
words_read Quiet h s = refl
words_read (Fed input reply) h s = fed_read reply input (input_read input h s)
words_read (Gave lane out) h s =
    let p = and_parts (ltb lane (2 ^ 8)) (is_proper_out out) h in
    gave_read lane out (lane_read lane s.0) (out_read out p.1 s.1)
