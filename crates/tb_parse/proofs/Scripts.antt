-- A whole script, of whose definitions only the kept part is known.
use Rattle.std.proofs.Common.{◌≡◌, ℕ, Bool, true, false, not, List, [], ◌∷◌, Option, Some, None, Result, Err, codes, refl, sym, ap, subst, ◌∙◌, if◌then◌else◌}
use Rattle.std.specs.Prelude.{filter, find, option_map}
use Rattle.std.specs.Result.{IsErrAnd}
use Rattle.std.proofs.lemmas.Result.{err_from_is_err_and}
use Rattle.tb_lex.specs.declared.kind.TokenKind.{TokenKind}
use Rattle.tb_lex.specs.declared.symbol.Symbol.TheVariants.{LeftParen}
use Rattle.tb_syntax.specs.Limits.{is_too_high, first_too_high}
use Rattle.tb_syntax.specs.declared.proc.Call.{Call}
use Rattle.tb_syntax.specs.declared.script.ProcDef.{ProcDef}
use Rattle.tb_syntax.specs.declared.script.Script.{Script}
use Rattle.tb_parse.specs.declared.fault.ParseFault.{ParseFault}
use Rattle.tb_parse.specs.declared.fault.ParseFault.TheVariants as fault
use Rattle.tb_parse.specs.declared.kept.Kept.{Kept}
use Rattle.tb_parse.specs.Helpers.Parsing.{Outcome, Found, Stops, Parser, Defined, after, skip, is_word, is_sign, definitions, roots, at_end, script}
use Rattle.tb_parse.specs.Helpers.Defining.{is_low, kept, definitions_kept, whole_of, Judges}
use Rattle.tb_parse.specs.Helpers.Reading.{Ahead, runs, StopsWith}
use Rattle.tb_parse.proofs.Skips.{came, got, skip_found, skip_stops}
use Rattle.tb_parse.proofs.Trees.{seen, unseen}

abbrev script_of : Defined → List Call → Script
script_of defined calls = record { procs = defined.procs; tools = defined.tools; roots = calls }

-- ---- all are kept where none is too high

module _ (d : ProcDef) (ds : List ProcDef) where
  abbrev first : Bool → Option ℕ
  first over = option_map (λ (d : ProcDef). d.token) (if over then Some d else find is_too_high ds)

  abbrev those : Bool → List ProcDef
  those over = if not over then d ∷ filter is_low ds else filter is_low ds

  kept_when : (over : Bool) → first over ≡ None → (first_too_high ds ≡ None → filter is_low ds ≡ ds) → those over ≡ d ∷ ds
  kept_when true e rest = absurd cc
  kept_when false e rest = ap (λ ds. d ∷ ds) (rest e)

all_kept : (ds : List ProcDef) → first_too_high ds ≡ None → filter is_low ds ≡ ds
all_kept [] e = refl
all_kept (d ∷ ds) e = kept_when d ds (is_too_high d) e (all_kept ds)

-- ---- what stands behind the definitions

module _ (room : ℕ) (start : Ahead) where
  abbrev from_roots : Defined → Parser Script
  from_roots d at ks = after (roots room at ks) (λ calls. at_end (script_of d calls))

  abbrev from_paren : Defined → Parser Script
  from_paren d = skip (is_sign LeftParen) (from_roots d)

  abbrev from_word : Defined → Parser Script
  from_word d = skip (is_word (codes "toolbus")) (from_paren d)

  pub script_undefined : {p : ℕ} → runs (definitions_kept room room) start ≡ Stops p → runs (script room) start ≡ Stops p
  unfolding script
  script_undefined e = ap (λ (o : Outcome Defined). after o from_word) (unseen kept (runs (definitions room room) start) e)

  -- the definitions that were read, with what is known of the rest
  record Begun (k : Kept) (a : Ahead) : Type 0 where
    pub defined : Defined
    pub is_kept : k ≡ kept defined
    pub same : runs (script room) start ≡ runs (from_word defined) a

  begun : {k : Kept} {a : Ahead} → runs (definitions_kept room room) start ≡ Found k a.at a.kinds → Begun k a
  unfolding script
  begun {k} {a} e =
      let one = seen kept (runs (definitions room room) start) e in
      record { defined = one.0; is_kept = one.1; same = ap (λ (o : Outcome Defined). after o from_word) one.2 }

  pub script_no_word : {k : Kept} {a : Ahead} {p : ℕ} → runs (definitions_kept room room) start ≡ Found k a.at a.kinds → came (is_word (codes "toolbus")) a ≡ Stops p
      → runs (script room) start ≡ Stops p
  script_no_word {k} {a} e f = let prefix = begun e in prefix.same ∙ skip_stops (is_word (codes "toolbus")) (from_paren prefix.defined) a f

  pub script_no_paren : {k : Kept} {a b : Ahead} {p : ℕ} → runs (definitions_kept room room) start ≡ Found k a.at a.kinds → came (is_word (codes "toolbus")) a ≡ got b
      → came (is_sign LeftParen) b ≡ Stops p → runs (script room) start ≡ Stops p
  script_no_paren {k} {a} {b} e f g =
      let prefix = begun e in
      prefix.same ∙ skip_found (is_word (codes "toolbus")) (from_paren prefix.defined) a f ∙ skip_stops (is_sign LeftParen) (from_roots prefix.defined) b g

  rooted : {k : Kept} {a b d : Ahead} (prefix : Begun k a) → came (is_word (codes "toolbus")) a ≡ got b
      → came (is_sign LeftParen) b ≡ got d → runs (script room) start ≡ runs (from_roots prefix.defined) d
  rooted {k} {a} {b} prefix f g = prefix.same ∙ skip_found (is_word (codes "toolbus")) (from_paren prefix.defined) a f ∙ skip_found (is_sign LeftParen) (from_roots prefix.defined) b g

  pub script_no_roots : {k : Kept} {a b d : Ahead} {p : ℕ} → runs (definitions_kept room room) start ≡ Found k a.at a.kinds → came (is_word (codes "toolbus")) a ≡ got b
      → came (is_sign LeftParen) b ≡ got d → runs (roots room) d ≡ Stops p → runs (script room) start ≡ Stops p
  script_no_roots e f g h =
      let prefix = begun e in
      rooted prefix f g ∙ ap (λ (o : Outcome (List Call)). after o (λ calls. at_end (script_of prefix.defined calls))) h

  -- with nothing or something behind it
  ended : {k : Kept} {a b d new : Ahead} {calls : List Call} (prefix : Begun k a) → came (is_word (codes "toolbus")) a ≡ got b
      → came (is_sign LeftParen) b ≡ got d → runs (roots room) d ≡ Found calls new.at new.kinds
      → runs (script room) start ≡ at_end (script_of prefix.defined calls) new.at new.kinds
  ended prefix f g h = rooted prefix f g ∙ ap (λ (o : Outcome (List Call)). after o (λ calls. at_end (script_of prefix.defined calls))) h

  may_continue : {A : Type 0} (x : A) (at : ℕ) (ks : List TokenKind) → (ks ≡ [] → ⊥) → at_end x at ks ≡ Stops at
  may_continue x at [] more = absurd (more refl)
  may_continue x at (k ∷ ks) more = refl

  pub script_not_ended : {k : Kept} {a b d new : Ahead} {calls : List Call} {position : ℕ} → runs (definitions_kept room room) start ≡ Found k a.at a.kinds
      → came (is_word (codes "toolbus")) a ≡ got b → came (is_sign LeftParen) b ≡ got d
      → runs (roots room) d ≡ Found calls new.at new.kinds → (new.kinds ≡ [] → ⊥) → position ≡ new.at → runs (script room) start ≡ Stops position
  script_not_ended {k} {a} {b} {d} {new} {calls} e f g h more is_position =
      let prefix = begun e in
      ended prefix f g h ∙ may_continue (script_of prefix.defined calls) new.at new.kinds more ∙ ap (λ p. Stops p) (sym is_position)

  -- what is judged of the definitions where all else is read
  judged : (defined : Defined) (calls : List Call) (at : ℕ) (high : Option ℕ) → first_too_high defined.procs ≡ high → runs (script room) start ≡ Found (script_of defined calls) at []
      → Judges (runs (script room) start) (whole_of high (record { procs = filter is_low defined.procs; tools = defined.tools; too_high = high }) calls)
  judged defined calls at None none e =
      let same = all_kept defined.procs none in
      ((at, e ∙ ap (λ (procs : List ProcDef). Found (record { procs = procs; tools = defined.tools; roots = calls }) at []) (sym same)), ap first_too_high same ∙ none)
  judged defined calls at (Some position) some e = (script_of defined calls, (at, e), some)

  pub script_found : {k : Kept} {a b d new : Ahead} {calls : List Call} {r : Result Script ParseFault} → runs (definitions_kept room room) start ≡ Found k a.at a.kinds
      → came (is_word (codes "toolbus")) a ≡ got b → came (is_sign LeftParen) b ≡ got d
      → runs (roots room) d ≡ Found calls new.at new.kinds → new.kinds ≡ [] → r ≡ whole_of k.too_high k calls → Judges (runs (script room) start) r
  script_found {k} {a} {b} {d} {new} {calls} {r} e f g h nothing is_made =
      let prefix = begun e in
      let found : runs (script room) start ≡ Found (script_of prefix.defined calls) new.at [] = ended prefix f g h ∙ ap (λ ks. at_end (script_of prefix.defined calls) new.at ks) nothing in
      let made : r ≡ whole_of (first_too_high prefix.defined.procs) (kept prefix.defined) calls = is_made ∙ ap (λ (k : Kept). whole_of k.too_high k calls) prefix.is_kept in
      subst (λ (r : Result Script ParseFault). Judges (runs (script room) start) r) (sym made)
      (judged prefix.defined calls new.at (first_too_high prefix.defined.procs) refl found)

-- the exit of a `?`
judge_stop : {A : Type 0} (o : Outcome A) (o' : Outcome Script) (e : ParseFault) → ((position : ℕ) → o ≡ Stops position → o' ≡ Stops position) → StopsWith o e → Judges o' (Err e)
judge_stop o o' (fault.Syntax position) pass s = pass position s
judge_stop o o' (fault.TooDeep position) pass s = absurd s
judge_stop o o' fault.NoMemory pass s = tt

pub judges_err : {A : Type 0} (o : Outcome A) (o' : Outcome Script) (e : ParseFault) (r : Result Script ParseFault)
    → IsErrAnd r (λ made. made ≡ e) → StopsWith o e → ((position : ℕ) → o ≡ Stops position → o' ≡ Stops position) → Judges o' r
judges_err o o' e r exit s pass =
    let p = err_from_is_err_and r exit in
    subst (λ (r : Result Script ParseFault). Judges o' r) (sym p.1) (subst (λ (e : ParseFault). Judges o' (Err e)) (sym p.2) (judge_stop o o' e pass s))
