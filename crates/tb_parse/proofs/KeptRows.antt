-- The definitions that the parser keeps, one after another.
use Rattle.std.proofs.Common.{◌≡◌, ℕ, suc, ◌+◌, ◌-◌, ◌<◌, ◌≤◌, Bool, true, false, not, nat_lt, List, [], ◌∷◌, ◌++◌, Option, Some, None, codes, refl, sym, ap, subst, ◌∙◌, arith, append_assoc, append-nil, Result, Ok, Err, if◌then◌else◌}
use Rattle.std.specs.Prelude.{filter, find, option_map}
use Rattle.std.specs.Result.{IsErrAnd}
use Rattle.std.proofs.lemmas.Result.{err_from_is_err_and}
use Rattle.tb_syntax.specs.Limits.{is_too_high, first_too_high, height}
use Rattle.tb_syntax.specs.declared.proc.Proc.{Proc}
use Rattle.tb_syntax.specs.declared.script.Formal.{Formal}
use Rattle.tb_syntax.specs.declared.script.ProcDef.{ProcDef}
use Rattle.tb_syntax.specs.declared.script.ToolDef.{ToolDef}
use Rattle.tb_parse.specs.declared.built.Built.{Built}
use Rattle.tb_parse.specs.declared.built.Built.TheVariants.{Tree, TooHigh}
use Rattle.tb_parse.specs.declared.fault.ParseFault.{ParseFault}
use Rattle.tb_parse.specs.declared.kept.Kept.{Kept}
use Rattle.tb_parse.specs.declared.kept.Made.{Made}
use Rattle.tb_parse.specs.declared.kept.Made.TheVariants as made
use Rattle.tb_parse.specs.Helpers.Heights.{built}
use Rattle.tb_parse.specs.Helpers.Parsing.{Outcome, Found, Stops, Defined, after, mapped, begins, is_word, tail, process, tool, definitions, with_process, with_tool}
use Rattle.tb_parse.specs.Helpers.Defining.{made_of, is_low, kept, first_position, with_rest, added, process_made, definitions_kept, Defines}
use Rattle.tb_parse.specs.Helpers.Reading.{Ahead, runs, next, eaten, StopsWith}
use Rattle.tb_parse.proofs.Exits.{stops_with}
use Rattle.tb_parse.proofs.Trees.{seen, unseen}
use Rattle.tb_parse.proofs.Turns.{one_more, no_more}

-- ---- one definition

abbrev shown : Proc → Bool → Built
shown p over = if over then TooHigh else Tree p (height p)

is_tree : (p q : Proc) (h : ℕ) (over : Bool) → Tree q h ≡ shown p over → (q ≡ p) × (over ≡ false)
is_tree p q h true e = absurd cc
is_tree p q h false e = (cc, refl)

is_none : (p : Proc) (over : Bool) → TooHigh ≡ shown p over → over ≡ true
is_none p true e = refl
is_none p false e = absurd cc

pub made_low : (name : List ℕ) (formals : List Formal) (position : ℕ) (p q : Proc) (h : ℕ) → Tree q h ≡ built p
    → made.Low (record { name = name; formals = formals; body = q; token = position }) ≡ made_of (record { name = name; formals = formals; body = p; token = position })
unfolding built
made_low name formals position p q h e =
    let known = is_tree p q h (nat_lt 400 (height p)) e in
    let d : ProcDef = record { name = name; formals = formals; body = p; token = position } in
    ap (λ body. made.Low (record { name = name; formals = formals; body = body; token = position })) known.0
    ∙ sym (ap (λ over. if over then made.TooHigh position else made.Low d) known.1)

pub made_high : (name : List ℕ) (formals : List Formal) (position : ℕ) (p : Proc) → TooHigh ≡ built p
    → made.TooHigh position ≡ made_of (record { name = name; formals = formals; body = p; token = position })
unfolding built
made_high name formals position p e =
    let d : ProcDef = record { name = name; formals = formals; body = p; token = position } in
    sym (ap (λ over. if over then made.TooHigh position else made.Low d) (is_none p (nat_lt 400 (height p)) e))

-- ---- definitions in a row

first_again : (so_far : Option ℕ) (position : ℕ) (rest : Option ℕ) → first_position so_far (Some position) ≡ first_position (first_position so_far (Some position)) rest
first_again None position rest = refl
first_again (Some first) position rest = refl

module _ (d : ProcDef) (old : Kept) (x : Defined) where
  -- what is kept, with the new definition in front, where it is too high or not
  abbrev prefixed : Bool → Kept
  prefixed over = with_rest old (record {
    procs = if not over then d ∷ filter is_low x.procs else filter is_low x.procs;
    tools = x.tools;
    too_high = option_map (λ (d : ProcDef). d.token) (if over then Some d else find is_too_high x.procs);
  })

  abbrev at_end : Bool → Kept
  at_end over = with_rest (added (if over then made.TooHigh d.token else made.Low d) old) (kept x)

  same_when : (over : Bool) → prefixed over ≡ at_end over
  same_when true = ap (λ position. record { procs = old.procs ++ filter is_low x.procs; tools = old.tools ++ x.tools; too_high = position }) (first_again old.too_high d.token (first_too_high x.procs))
  same_when false = ap (λ procs. record { procs = procs; tools = old.tools ++ x.tools; too_high = first_position old.too_high (first_too_high x.procs) }) (sym (append_assoc old.procs (d ∷ []) (filter is_low x.procs)))

  kept_process : with_rest old (kept (with_process d x)) ≡ with_rest (added (made_of d) old) (kept x)
  kept_process = same_when (is_too_high d)

kept_tool : (t : ToolDef) (old : Kept) (x : Defined) → with_rest old (kept (with_tool t x)) ≡ with_rest (record old { tools = old.tools ++ t ∷ [] }) (kept x)
kept_tool t old x = ap (λ tools. record { procs = old.procs ++ filter is_low x.procs; tools = tools; too_high = first_position old.too_high (first_too_high x.procs) }) (sym (append_assoc old.tools (t ∷ []) x.tools))

mapped_process : (d : ProcDef) (old : Kept) (o : Outcome Defined) → mapped (with_rest old) (mapped kept (mapped (with_process d) o)) ≡ mapped (with_rest (added (made_of d) old)) (mapped kept o)
mapped_process d old (Found x at ks) = ap (λ k. Found k at ks) (kept_process d old x)
mapped_process d old (Stops position) = refl

mapped_tool : (t : ToolDef) (old : Kept) (o : Outcome Defined) → mapped (with_rest old) (mapped kept (mapped (with_tool t) o)) ≡ mapped (with_rest (record old { tools = old.tools ++ t ∷ [] })) (mapped kept o)
mapped_tool t old (Found x at ks) = ap (λ k. Found k at ks) (kept_tool t old x)
mapped_tool t old (Stops position) = refl

no_later : (so_far : Option ℕ) → first_position so_far None ≡ so_far
no_later None = refl
no_later (Some position) = refl

module _ (inner : ℕ) (start : Ahead) where
  abbrev by_process : ℕ → Outcome ProcDef → Outcome Kept
  by_process n o = mapped kept (after o (λ d at ks. mapped (with_process d) (definitions inner n at ks)))

  abbrev by_tool : ℕ → Outcome ToolDef → Outcome Kept
  by_tool n o = mapped kept (after o (λ d at ks. mapped (with_tool d) (definitions inner n at ks)))

  abbrev step : ℕ → Bool → Bool → Outcome Kept
  step n is_process is_tool = mapped kept (if is_process then after (process inner start.at (start.at + 1) (tail start.kinds)) (λ d at ks. mapped (with_process d) (definitions inner n at ks))
      else (if is_tool then after (tool start.at (start.at + 1) (tail start.kinds)) (λ d at ks. mapped (with_tool d) (definitions inner n at ks))
      else Found (record { procs = []; tools = [] }) start.at start.kinds))

  goes : (n : ℕ) → runs (definitions_kept inner (suc n)) start ≡ step n (begins (is_word (codes "process")) start.kinds) (begins (is_word (codes "tool")) start.kinds)
  unfolding definitions
  goes n = refl

  goes_process : (n : ℕ) {is : Bool} {behind : Ahead} {position : ℕ} → position ≡ start.at → is ≡ begins (is_word (codes "process")) start.kinds → behind ≡ eaten (is_word (codes "process")) start → is ≡ true
      → runs (definitions_kept inner (suc n)) start ≡ by_process n (runs (process inner position) behind)
  goes_process n {is} {behind} {position} is_position e is_behind present =
      let some = sym e ∙ present in
      let same : behind ≡ next start = is_behind ∙ ap (λ b. if b then next start else start) some in
      goes n ∙ ap (λ b. step n b (begins (is_word (codes "tool")) start.kinds)) some
      ∙ ap (λ (r : Ahead). by_process n (runs (process inner start.at) r)) (sym same)
      ∙ ap (λ p. by_process n (runs (process inner p) behind)) (sym is_position)

  goes_tool : (n : ℕ) {is is' : Bool} {old behind : Ahead} {position : ℕ} → position ≡ start.at
      → is ≡ begins (is_word (codes "process")) start.kinds → old ≡ eaten (is_word (codes "process")) start → is ≡ false
      → is' ≡ begins (is_word (codes "tool")) old.kinds → behind ≡ eaten (is_word (codes "tool")) old → is' ≡ true
      → runs (definitions_kept inner (suc n)) start ≡ by_tool n (runs (tool position) behind)
  goes_tool n {is} {is'} {old} {behind} {position} is_position e is_old absent e' is_behind present =
      let none = sym e ∙ absent in
      let here : old ≡ start = is_old ∙ ap (λ b. if b then next start else start) none in
      let some : begins (is_word (codes "tool")) start.kinds ≡ true = ap (λ (r : Ahead). begins (is_word (codes "tool")) r.kinds) (sym here) ∙ sym e' ∙ present in
      let same : behind ≡ next start = is_behind ∙ ap (λ (r : Ahead). eaten (is_word (codes "tool")) r) here ∙ ap (λ b. if b then next start else start) some in
      goes n ∙ ap (λ b. step n b (begins (is_word (codes "tool")) start.kinds)) none ∙ ap (λ b. step n false b) some
      ∙ ap (λ (r : Ahead). by_tool n (runs (tool start.at) r)) (sym same)
      ∙ ap (λ p. by_tool n (runs (tool p) behind)) (sym is_position)

  pub process_more : (found : Kept) {is : Bool} {behind new : Ahead} {position : ℕ} {m : Made} {found' : Kept} → position ≡ start.at
      → is ≡ begins (is_word (codes "process")) start.kinds → behind ≡ eaten (is_word (codes "process")) start → is ≡ true
      → runs (process_made inner position) behind ≡ Found m new.at new.kinds → found' ≡ added m found → Defines inner found start (Ok true) found' new
  process_more found {is} {behind} {new} {position} {m} {found'} is_position e is_behind present is_made is_found n =
      let one = seen made_of (runs (process inner position) behind) is_made in
      ap (mapped (with_rest found)) (goes_process n is_position e is_behind present ∙ ap (by_process n) one.2)
      ∙ mapped_process one.0 found (runs (definitions inner n) new)
      ∙ ap (λ (k : Kept). mapped (with_rest k) (runs (definitions_kept inner n) new)) (ap (λ m. added m found) (sym one.1) ∙ sym is_found)

  pub process_stops : (found found' : Kept) (new : Ahead) {is : Bool} {behind : Ahead} {position : ℕ} (e : ParseFault) → position ≡ start.at
      → is ≡ begins (is_word (codes "process")) start.kinds → behind ≡ eaten (is_word (codes "process")) start → is ≡ true
      → StopsWith (runs (process_made inner position) behind) e → Defines inner found start (Err e) found' new
  process_stops found found' new {is} {behind} {position} fault is_position e is_behind present stops n =
      stops_with (runs (process_made inner position) behind) (runs (definitions_kept inner (suc n)) start) fault
      (λ p s. goes_process n is_position e is_behind present ∙ ap (by_process n) (unseen made_of (runs (process inner position) behind) s)) stops

  pub tool_more : (found : Kept) {is is' : Bool} {old behind new : Ahead} {position : ℕ} {t : ToolDef} {found' : Kept} → position ≡ start.at
      → is ≡ begins (is_word (codes "process")) start.kinds → old ≡ eaten (is_word (codes "process")) start → is ≡ false
      → is' ≡ begins (is_word (codes "tool")) old.kinds → behind ≡ eaten (is_word (codes "tool")) old → is' ≡ true
      → runs (tool position) behind ≡ Found t new.at new.kinds → found' ≡ record found { tools = found.tools ++ t ∷ [] } → Defines inner found start (Ok true) found' new
  tool_more found {is} {is'} {old} {behind} {new} {position} {t} {found'} is_position e is_old absent e' is_behind present is_tool is_found n =
      ap (mapped (with_rest found)) (goes_tool n is_position e is_old absent e' is_behind present ∙ ap (by_tool n) is_tool)
      ∙ mapped_tool t found (runs (definitions inner n) new)
      ∙ ap (λ (k : Kept). mapped (with_rest k) (runs (definitions_kept inner n) new)) (sym is_found)

  pub tool_stops : (found found' : Kept) (new : Ahead) {is is' : Bool} {old behind : Ahead} {position : ℕ} (e : ParseFault) → position ≡ start.at
      → is ≡ begins (is_word (codes "process")) start.kinds → old ≡ eaten (is_word (codes "process")) start → is ≡ false
      → is' ≡ begins (is_word (codes "tool")) old.kinds → behind ≡ eaten (is_word (codes "tool")) old → is' ≡ true
      → StopsWith (runs (tool position) behind) e → Defines inner found start (Err e) found' new
  tool_stops found found' new {is} {is'} {old} {behind} {position} fault is_position e is_old absent e' is_behind present stops n =
      stops_with (runs (tool position) behind) (runs (definitions_kept inner (suc n)) start) fault
      (λ p s. goes_tool n is_position e is_old absent e' is_behind present ∙ ap (by_tool n) s) stops

  ends : (found : Kept) → mapped (with_rest found) (Found (kept (record { procs = []; tools = [] })) start.at start.kinds) ≡ Found found start.at start.kinds
  ends found = let first : first_position found.too_high None ≡ found.too_high = no_later found.too_high in
      ap (λ (k : Kept). Found k start.at start.kinds) (ap (λ procs. record { procs = procs; tools = found.tools ++ []; too_high = first_position found.too_high None }) (append-nil found.procs)
      ∙ ap (λ tools. record { procs = found.procs; tools = tools; too_high = first_position found.too_high None }) (append-nil found.tools)
      ∙ ap (λ position. record { procs = found.procs; tools = found.tools; too_high = position }) first)

  pub none_more : (found : Kept) {is is' : Bool} {old behind : Ahead}
      → is ≡ begins (is_word (codes "process")) start.kinds → old ≡ eaten (is_word (codes "process")) start → is ≡ false
      → is' ≡ begins (is_word (codes "tool")) old.kinds → behind ≡ eaten (is_word (codes "tool")) old → is' ≡ false
      → Defines inner found start (Ok false) found behind
  none_more found {is} {is'} {old} {behind} e is_old absent e' is_behind absent' n =
      let none = sym e ∙ absent in
      let here : old ≡ start = is_old ∙ ap (λ b. if b then next start else start) none in
      let none' : begins (is_word (codes "tool")) start.kinds ≡ false = ap (λ (r : Ahead). begins (is_word (codes "tool")) r.kinds) (sym here) ∙ sym e' ∙ absent' in
      let same : behind ≡ start = is_behind ∙ ap (λ (r : Ahead). eaten (is_word (codes "tool")) r) here ∙ ap (λ b. if b then next start else start) none' in
      ap (mapped (with_rest found)) (goes n ∙ ap (λ b. step n b (begins (is_word (codes "tool")) start.kinds)) none ∙ ap (λ b. step n false b) none')
      ∙ ends found ∙ ap (λ (r : Ahead). Found found r.at r.kinds) (sym same)

-- the exit of a `?`
pub defines_err : (inner : ℕ) (found : Kept) (start : Ahead) (found' : Kept) (new : Ahead) (e : ParseFault) (r : Result Bool ParseFault)
    → IsErrAnd r (λ made. made ≡ e) → Defines inner found start (Err e) found' new → Defines inner found start r found' new
defines_err inner found start found' new e r exit d =
    let p = err_from_is_err_and r exit in
    subst (λ (r : Result Bool ParseFault). Defines inner found start r found' new) (sym p.1)
    (subst (λ (e : ParseFault). Defines inner found start (Err e) found' new) (sym p.2) d)

-- ---- the loop

abbrev pub KeptSoFar : ℕ → ℕ → Ahead → Kept → ℕ → Ahead → Type 0
KeptSoFar inner room start found turn ahead =
    runs (definitions_kept inner room) start ≡ mapped (with_rest found) (runs (definitions_kept inner (room - turn)) ahead)

mapped_none : (o : Outcome Kept) → o ≡ mapped (with_rest (record { procs = []; tools = []; too_high = None })) o
mapped_none (Found k at ks) = refl
mapped_none (Stops at) = refl

pub kept_begin : (inner room : ℕ) (start : Ahead) {none : Kept} → none ≡ record { procs = []; tools = []; too_high = None } → KeptSoFar inner room start none 0 start
kept_begin inner room start {none} is_none =
    let e : room ≡ room - 0 = omega arith in
    let nothing : Kept = record { procs = []; tools = []; too_high = None } in
    let begins : KeptSoFar inner room start nothing 0 start = mapped_none (runs (definitions_kept inner room) start) ∙ ap (λ n. mapped (with_rest nothing) (runs (definitions_kept inner n) start)) e in
    subst (λ (k : Kept). KeptSoFar inner room start k 0 start) (sym is_none) begins

module _ (inner room : ℕ) (start : Ahead) (found : Kept) (turn : ℕ) (ahead : Ahead) where
  abbrev from : ℕ → Outcome Kept
  from n = mapped (with_rest found) (runs (definitions_kept inner n) ahead)

  pub kept_last : {found' : Kept} {new : Ahead} {more : Bool} → turn < room → KeptSoFar inner room start found turn ahead → Defines inner found ahead (Ok more) found' new → more ≡ false
      → runs (definitions_kept inner room) start ≡ Found found' new.at new.kinds
  kept_last {found'} {new} below so_far one none =
      one_more from room turn below so_far ∙ one (room - (turn + 1))
      ∙ ap (λ more. if more then mapped (with_rest found') (runs (definitions_kept inner (room - (turn + 1))) new) else Found found' new.at new.kinds) none

  pub kept_stop : {position : ℕ} → turn < room → KeptSoFar inner room start found turn ahead → runs (definitions_kept inner (suc (room - (turn + 1)))) ahead ≡ Stops position
      → runs (definitions_kept inner room) start ≡ Stops position
  kept_stop below so_far e = one_more from room turn below so_far ∙ ap (mapped (with_rest found)) e

  pub kept_end : {position : ℕ} → room ≤ turn → KeptSoFar inner room start found turn ahead → position ≡ ahead.at → runs (definitions_kept inner room) start ≡ Stops position
  unfolding definitions
  kept_end done so_far is_position = no_more from room turn done so_far ∙ ap (λ p. Stops p) (sym is_position)
