-- What each action sends, shows or says is in shape.
use Rattle.std.proofs.Common.{◌≡◌, ℕ, zero, suc, ◌+◌, ◌-◌, ◌≤◌, Bool, true, false, List, [], ◌∷◌, ◌++◌, map, length, slice_get, Option, Some, None, IfSome, option_map, option_and_then, if◌then◌else◌, refl, ap, sym, subst, arith, nat_le}
use Rattle.std.specs.Prelude.{⊤}
use Rattle.std.specs.List.{All, list_all}
use Rattle.std.proofs.lemmas.Bool.{and_parts, leb-true}
use Rattle.std.proofs.lemmas.List.Elements.{All-nil, All-cons, All-head, All-tail, All-weaker}
use Rattle.std.proofs.lemmas.List.Sums.{sum_by-cons}
use Rattle.tb_terms.specs.declared.term.Term.{Term}
use Rattle.tb_terms.specs.declared.term.Term.TheVariants as term
use Rattle.tb_terms.specs.declared.sort.Sort.{Sort}
use Rattle.tb_terms.specs.declared.expr.Expr.{Expr}
use Rattle.tb_terms.specs.declared.pattern.Pattern.{Pattern}
use Rattle.tb_terms.specs.Sizes.{term_size, IsWithinLimits}
use Rattle.tb_func.specs.declared.slot.Slot.{Slot}
use Rattle.tb_func.specs.Arguments.{of_both}
use Rattle.tb_func.specs.Limits.{limited}
use Rattle.tb_func.specs.Printing.{str_of, printed, format_text, printf_of}
use Rattle.tb_func.specs.Values.{all_of, value_of}
use Rattle.tb_match.specs.declared.bind.Bind.{Bind}
use Rattle.tb_body.specs.Acts.{some_and_all, is_act_in_body, is_atom_in_body}
use Rattle.tb_body.specs.Exprs.{is_value}
use Rattle.tb_body.specs.InRange.{is_body_in_range}
use Rattle.tb_body.specs.declared.act.Act.{Act}
use Rattle.tb_body.specs.declared.act.Act.TheVariants.{Delta, Tau, SndMsg, RecMsg, SndNote, RecNote, NoNote, Subscribe, Unsubscribe, Create, Set, Printf, Execute, RecConnect, RecDisconnectAny, RecDisconnect, SndEval, RecValue, SndDo, RecEvent, SndAckEvent, SndTerminate, Shutdown}
use Rattle.tb_body.specs.declared.atom.Atom.{Atom}
use Rattle.tb_body.specs.declared.atom.Time.{Time}
use Rattle.tb_body.specs.declared.body.Body.{Body}
use Rattle.tb_body.specs.declared.tree.Tree.{Tree}
use Rattle.tb_process_steps.specs.Atoms.{act_of, act_in, times_of, is_ready, limited_together, values_together, patterns_of}
use Rattle.tb_process_steps.specs.Binds.{takes_bind}
use Rattle.tb_process_steps.specs.Offers.{Offered}
use Rattle.tb_log.specs.Limits.{terms_size}
use Rattle.tb_log.specs.Shapes.{AreParts}
use Rattle.tb_bus.specs.Actions.{set_action, print_action, notify_action, take_note_action, no_note_action, subscribe_action, unsubscribe_action, create_action, speak_by, speak_about, shutdown_action, action_in, action_if, action_of}
use Rattle.tb_bus.specs.Buses.{atoms_of, atoms_in}
use Rattle.tb_bus.specs.Waiting.{IsShallow, IsShallowStore, IsNote}
use Rattle.tb_bus.specs.declared.action.Action.{Action}
use Rattle.tb_bus.specs.declared.action.Action.TheVariants as action
use Rattle.tb_bus.specs.declared.action.OwnAction.{OwnAction}
use Rattle.tb_bus.specs.declared.action.OwnAction.TheVariants as own
use Rattle.tb_bus.specs.declared.action.ToolAction.{ToolAction}
use Rattle.tb_bus.specs.declared.action.ToolAction.TheVariants as tool_action
use Rattle.tb_bus.proofs.LevelLemmas.{GivesWithin, GivesShallow, limited-within, then-within, value-shallow}
use Rattle.tb_bus.proofs.ExchangeLemmas.{about-some}

-- values

abbrev GivesAllShallow : ℕ → Option (List Term) → Type 0
GivesAllShallow count found = IfSome found (λ terms. (length terms ≡ count) × All IsShallow terms)

cons-shallow : (count : ℕ) (o : Option Term) (os : Option (List Term)) → GivesShallow o → GivesAllShallow count os → GivesAllShallow (suc count) (of_both (λ x xs. Some (x ∷ xs)) o os)
cons-shallow count None os h k = tt
cons-shallow count (Some t) None h k = tt
cons-shallow count (Some t) (Some ts) h k = (ap suc k.0, All-cons IsShallow t ts h k.1)

all-shallow : (store : List Slot) (exprs : List Expr) → IsShallowStore store → GivesAllShallow (length exprs) (all_of (map (value_of store) exprs))
all-shallow store [] h = (refl, All-nil IsShallow)
all-shallow store (expr ∷ exprs) h = cons-shallow (length exprs) (value_of store expr) (all_of (map (value_of store) exprs)) (value-shallow store expr h) (all-shallow store exprs h)

pub size-cons : (t : Term) (ts : List Term) → terms_size (t ∷ ts) ≡ term_size t + terms_size ts
size-cons t ts = sum_by-cons (λ (n : ℕ). n) (term_size t) (map term_size ts)

pub size-append : (xs ys : List Term) → terms_size (xs ++ ys) ≡ terms_size xs + terms_size ys
size-append [] ys = omega arith
size-append (x ∷ xs) ys = let first = size-cons x (xs ++ ys) in let same = size-cons x xs in let rest = size-append xs ys in omega arith

within-all : (ts : List Term) → All IsShallow ts → terms_size ts ≤ 65536 → All IsWithinLimits ts
within-all [] h l = All-nil IsWithinLimits
within-all (t ∷ ts) h l =
    let e : terms_size (t ∷ ts) ≡ term_size t + terms_size ts = size-cons t ts in
    All-cons IsWithinLimits t ts (record { size = omega arith; levels = All-head IsShallow t ts h }) (within-all ts (All-tail IsShallow t ts h) (omega arith))

-- so many parts of one line
pub record AreSent (count : ℕ) (terms : List Term) : Type 0 where
  pub many : length terms ≡ count
  pub parts : AreParts terms

together-by : (count : ℕ) (ts : List Term) (b : Bool) → nat_le (terms_size ts) 65536 ≡ b → length ts ≡ count → All IsShallow ts → IfSome (if b then Some ts else None) (AreSent count)
together-by count ts true e many h =
    let l = leb-true (terms_size ts) 65536 e in
    record { many = many; parts = record { each = within-all ts h l; together = l } }
together-by count ts false e many h = tt

together-sent : (count : ℕ) (o : Option (List Term)) → GivesAllShallow count o → IfSome (option_and_then limited_together o) (AreSent count)
together-sent count None h = tt
together-sent count (Some ts) h = together-by count ts (nat_le (terms_size ts) 65536) refl h.0 h.1

pub values-sent : (store : List Slot) (exprs : List Expr) → IsShallowStore store → IfSome (values_together store exprs) (AreSent (length exprs))
values-sent store exprs h = together-sent (length exprs) (all_of (map (value_of store) exprs)) (all-shallow store exprs h)

-- actions

-- the tool's own term, and the terms behind it
abbrev pub IsSpeakInShape : ToolAction → Type 0
IsSpeakInShape (tool_action.Execute tool slot) = ⊤
IsSpeakInShape (tool_action.Connect tool slot) = ⊤
IsSpeakInShape (tool_action.DisconnectAny tool slot) = ⊤
IsSpeakInShape (tool_action.Disconnect terms) = AreSent 1 terms
IsSpeakInShape (tool_action.Eval terms) = AreSent 2 terms
IsSpeakInShape (tool_action.TakeValue terms patterns) = AreSent 1 terms
IsSpeakInShape (tool_action.Do terms) = AreSent 2 terms
IsSpeakInShape (tool_action.TakeEvent terms patterns) = AreSent 1 terms
IsSpeakInShape (tool_action.Acknowledge terms) = (2 ≤ length terms) × AreParts terms
IsSpeakInShape (tool_action.Terminate terms) = AreSent 2 terms

abbrev pub IsOwnInShape : OwnAction → Type 0
IsOwnInShape own.Tau = ⊤
IsOwnInShape (own.Set values binds) = (length values ≡ 1) × All IsWithinLimits values × All (λ (bind : Bind). IsShallow bind.value) binds
IsOwnInShape (own.Print text) = IsWithinLimits text
IsOwnInShape (own.Notify terms) = IsNote terms
IsOwnInShape (own.TakeNote patterns) = ⊤
IsOwnInShape (own.NoNote patterns) = ⊤
IsOwnInShape (own.Subscribe patterns) = ⊤
IsOwnInShape (own.Unsubscribe patterns) = ⊤
IsOwnInShape (own.Create process actuals slot) = All IsShallow actuals
IsOwnInShape (own.Speak does) = IsSpeakInShape does
IsOwnInShape (own.Shutdown reason) = IsWithinLimits reason

abbrev pub IsActionInShape : Action → Type 0
IsActionInShape (action.Own own) = IsOwnInShape own
IsActionInShape (action.Send terms) = IsNote terms
IsActionInShape (action.Receive patterns) = ⊤

abbrev GivesInShape : Option Action → Type 0
GivesInShape found = IfSome found IsActionInShape

map-in : {A : Type 0} (does : A → Action) (P : A → Type 0) (found : Option A) → IfSome found P → ((x : A) → P x → IsActionInShape (does x)) → GivesInShape (option_map does found)
map-in does P None h k = tt
map-in does P (Some x) h k = k x h

then-in : {A : Type 0} (does : A → Option Action) (P : A → Type 0) (found : Option A) → IfSome found P → ((x : A) → P x → GivesInShape (does x)) → GivesInShape (option_and_then does found)
then-in does P None h k = tt
then-in does P (Some x) h k = k x h

any-in : {A : Type 0} (does : A → Action) (found : Option A) → ((x : A) → IsActionInShape (does x)) → GivesInShape (option_map does found)
any-in does None h = tt
any-in does (Some x) h = h x

sent-in : (store : List Slot) (exprs : List Expr) (does : List Term → Action) → IsShallowStore store → ((terms : List Term) → AreSent (length exprs) terms → IsActionInShape (does terms)) → GivesInShape (option_map does (values_together store exprs))
sent-in store exprs does h k = map-in does (AreSent (length exprs)) (values_together store exprs) (values-sent store exprs h) k

-- one argument at least
some-there : (may_stand : Expr → Bool) (exprs : List Expr) → some_and_all may_stand exprs ≡ true → 1 ≤ length exprs
some-there may_stand [] e = cc
some-there may_stand (expr ∷ exprs) e = omega arith

note-in : (may_stand : Expr → Bool) (exprs : List Expr) (terms : List Term) → some_and_all may_stand exprs ≡ true → AreSent (length exprs) terms → IsNote terms
note-in may_stand exprs terms e sent = let some = some-there may_stand exprs e in let many = sent.many in (omega arith, sent.parts)

first-in : (terms : List Term) → AreSent 1 terms → (value : Term) × (terms ≡ value ∷ []) × IsWithinLimits value
first-in [] sent = absurd (let many = sent.many in omega arith)
first-in (value ∷ []) sent = (value, refl, All-head IsWithinLimits value [] sent.parts.each)
first-in (value ∷ other ∷ terms) sent = absurd (let many = sent.many in omega arith)

set-by : (b : Bool) (bind : Bind) → IsWithinLimits bind.value → GivesInShape (if b then Some (action.Own (own.Set (bind.value ∷ []) (bind ∷ []))) else None)
set-by true bind h = (
  refl,
  All-cons IsWithinLimits bind.value [] h (All-nil IsWithinLimits),
  All-cons (λ (b : Bind). IsShallow b.value) bind [] h.levels (All-nil (λ (b : Bind). IsShallow b.value)),
)
set-by false bind h = tt

set-in : (store : List Slot) (slot : ℕ) (terms : List Term) → AreSent 1 terms → GivesInShape (set_action store slot terms)
set-in store slot terms sent =
    let it = first-in terms sent in
    let bind : Bind = record { slot = slot; value = it.0 } in
    subst (λ ts. GivesInShape (set_action store slot ts)) (sym it.1) (set-by (takes_bind store bind) bind it.2)

printed-within : (terms : List Term) → GivesWithin (printf_of terms)
printed-within [] = tt
printed-within (first ∷ others) =
    then-within (str_of first) (λ format. format_text format others) (λ format. then-within (printed false format others) (λ bytes. limited (term.Str bytes)) (λ bytes. limited-within (term.Str bytes)))

then-printed : (found : Option (List Term)) → GivesWithin (option_and_then printf_of found)
then-printed found = then-within found printf_of printed-within

shutdown-in : (terms : List Term) → AreSent 1 terms → GivesInShape (shutdown_action terms)
shutdown-in terms sent =
    let it = first-in terms sent in
    subst (λ ts. GivesInShape (shutdown_action ts)) (sym it.1) it.2

about-in : (store : List Slot) (tool : Expr) (does : List Term → List Pattern → ToolAction) (patterns : Option (List Pattern)) → IsShallowStore store → ((terms : List Term) (ps : List Pattern) → AreSent 1 terms → IsSpeakInShape (does terms ps)) →
    GivesInShape (option_and_then (speak_about does patterns) (values_together store (tool ∷ [])))
about-in store tool does patterns h k =
    about-some IsActionInShape does patterns (values_together store (tool ∷ []))
    (λ terms ps e f. k terms ps (subst (λ o. IfSome o (AreSent 1)) e (values-sent store (tool ∷ []) h)))

weaker : (terms : List Term) → AreParts terms → All IsShallow terms
weaker terms parts = All-weaker IsWithinLimits IsShallow (λ t h. h.levels) terms parts.each

-- one line an atom
action_in-in : (slots : ℕ) (store : List Slot) (act : Act) → IsShallowStore store → is_act_in_body slots act ≡ true → GivesInShape (action_in store act)
action_in-in slots store Delta h r = tt
action_in-in slots store Tau h r = tt
action_in-in slots store (SndMsg exprs) h r = sent-in store exprs action.Send h (λ terms sent. note-in (is_value slots) exprs terms r sent)
action_in-in slots store (RecMsg exprs) h r = any-in action.Receive (patterns_of store exprs) (λ x. tt)
action_in-in slots store (SndNote exprs) h r = sent-in store exprs notify_action h (λ terms sent. note-in (is_value slots) exprs terms r sent)
action_in-in slots store (RecNote exprs) h r = any-in take_note_action (patterns_of store exprs) (λ x. tt)
action_in-in slots store (NoNote exprs) h r = any-in no_note_action (patterns_of store exprs) (λ x. tt)
action_in-in slots store (Subscribe exprs) h r = any-in subscribe_action (patterns_of store exprs) (λ x. tt)
action_in-in slots store (Unsubscribe exprs) h r = any-in unsubscribe_action (patterns_of store exprs) (λ x. tt)
action_in-in slots store (Create process actuals slot) h r = sent-in store actuals (create_action process slot) h (λ terms sent. weaker terms sent.parts)
action_in-in slots store (Set slot value) h r = then-in (set_action store slot) (AreSent 1) (values_together store (value ∷ [])) (values-sent store (value ∷ []) h) (set-in store slot)
action_in-in slots store (Printf exprs) h r = map-in print_action IsWithinLimits (option_and_then printf_of (values_together store exprs)) (then-printed (values_together store exprs)) (λ text k. k)
action_in-in slots store (Execute tool slot) h r = tt
action_in-in slots store (RecConnect tool slot) h r = tt
action_in-in slots store (RecDisconnectAny tool slot) h r = tt
action_in-in slots store (RecDisconnect tool) h r = sent-in store (tool ∷ []) (speak_by tool_action.Disconnect) h (λ terms sent. sent)
action_in-in slots store (SndEval tool expr) h r = sent-in store (tool ∷ expr ∷ []) (speak_by tool_action.Eval) h (λ terms sent. sent)
action_in-in slots store (RecValue tool expr) h r = about-in store tool tool_action.TakeValue (patterns_of store (expr ∷ [])) h (λ terms ps sent. sent)
action_in-in slots store (SndDo tool expr) h r = sent-in store (tool ∷ expr ∷ []) (speak_by tool_action.Do) h (λ terms sent. sent)
action_in-in slots store (RecEvent tool exprs) h r = about-in store tool tool_action.TakeEvent (patterns_of store exprs) h (λ terms ps sent. sent)
action_in-in slots store (SndAckEvent tool exprs) h r =
    let some = some-there (is_value slots) exprs (and_parts (is_value slots tool) (some_and_all (is_value slots) exprs) r).1 in
    sent-in store (tool ∷ exprs) (speak_by tool_action.Acknowledge) h (λ terms sent. let many = sent.many in (omega arith, sent.parts))
action_in-in slots store (SndTerminate tool expr) h r = sent-in store (tool ∷ expr ∷ []) (speak_by tool_action.Terminate) h (λ terms sent. sent)
action_in-in slots store (Shutdown reason) h r = then-in shutdown_action (AreSent 1) (values_together store (reason ∷ [])) (values-sent store (reason ∷ []) h) shutdown-in

if-in : (slots : ℕ) (ready : Bool) (store : List Slot) (act : Act) → IsShallowStore store → is_act_in_body slots act ≡ true → GivesInShape (action_if ready store act)
if-in slots true store act h r = action_in-in slots store act h r
if-in slots false store act h r = tt

-- the acts of a body are in its range

act-by : (slots : ℕ) (atoms : List Atom) (at : ℕ) → list_all (is_atom_in_body slots) atoms ≡ true → is_act_in_body slots (act_in (slice_get atoms at)) ≡ true
act-by slots [] at h = refl
act-by slots (first ∷ atoms) zero h =
    (and_parts (is_act_in_body slots first.act) (list_all (λ (time : Time). is_value slots time.value) first.times) (and_parts (is_atom_in_body slots first) (list_all (is_atom_in_body slots) atoms) h).0).0
act-by slots (first ∷ atoms) (suc at) h = act-by slots atoms at (and_parts (is_atom_in_body slots first) (list_all (is_atom_in_body slots) atoms) h).1

body-atoms : (tree : Tree) (atoms : List Atom) (sorts : List Sort) (formals : ℕ) → is_body_in_range tree atoms sorts formals ≡ true → list_all (is_atom_in_body (length sorts)) atoms ≡ true
unfolding is_body_in_range
body-atoms tree atoms sorts formals h = (and_parts _ (list_all (is_atom_in_body (length sorts)) atoms) h).1

-- some number of slots has all acts of it in range
AreInRange : List Atom → Type 0
AreInRange atoms = (slots : ℕ) × (list_all (is_atom_in_body slots) atoms ≡ true)

atoms-by : (found : Option Body) → AreInRange (atoms_in found)
unfolding AreInRange
atoms-by None = (0, refl)
atoms-by (Some body) = (length body.sorts, body-atoms body.tree body.atoms body.sorts body.formals body.in_range)

-- So the action of an offer in a shallow store is in shape.
pub action-in-shape : (bodies : List Body) (number now : ℕ) (offered : Offered) (found : Action) → IsShallowStore offered.store → action_of (atoms_of bodies number) now offered ≡ Some found → IsActionInShape found
unfolding AreInRange
action-in-shape bodies number now offered found h e =
    let atoms = atoms_of bodies number in
    let range = atoms-by (slice_get bodies number) in
    subst (λ (o : Option Action). GivesInShape o) e
    (if-in range.0 (is_ready offered.store offered.age now (times_of atoms offered.atom)) offered.store (act_of atoms offered.atom) h (act-by range.0 atoms (offered.atom - 1) range.1))
