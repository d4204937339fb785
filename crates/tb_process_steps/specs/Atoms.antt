-- The values that an atom sends, the patterns of an atom, and when an atom is ready.
use Rattle.std.specs.Prelude.{ℕ, ℤ, pos, negsuc, Bool, true, false, nat_le, List, [], ◌∷◌, map, sum, Option, Some, None, option_and_then, if◌then◌else◌, ◌-◌, slice_get}
use Rattle.std.specs.List.{list_all}
use Rattle.tb_terms.specs.declared.term.Term.{Term}
use Rattle.tb_terms.specs.declared.expr.Expr.{Expr}
use Rattle.tb_terms.specs.declared.pattern.Pattern.{Pattern}
use Rattle.tb_terms.specs.Sizes.{term_size, most_term_size}
use Rattle.tb_func.specs.declared.slot.Slot.{Slot}
use Rattle.tb_func.specs.Arguments.{int_of}
use Rattle.tb_func.specs.Values.{value_of, all_of}
use Rattle.tb_func.specs.Patterns.{pattern_of}
use Rattle.tb_match.specs.declared.bind.Bind.{Bind}
use Rattle.tb_match.specs.Matches.{match_list}
use Rattle.tb_body.specs.declared.act.Act.{Act}
use Rattle.tb_body.specs.declared.act.Act.TheVariants.{Delta, Tau, SndMsg, RecMsg, SndNote, RecNote, NoNote, Subscribe, Unsubscribe, Create, Set, Printf, Execute, RecConnect, RecDisconnectAny, RecDisconnect, SndEval, RecValue, SndDo, RecEvent, SndAckEvent, SndTerminate, Shutdown}
use Rattle.tb_body.specs.declared.atom.Atom.{Atom}
use Rattle.tb_body.specs.declared.atom.Time.{Time}
use Rattle.tb_body.specs.declared.atom.TimeKind.{TimeKind}
use Rattle.tb_body.specs.declared.atom.TimeKind.TheVariants.{Delay, Timeout, AbsDelay, AbsTimeout}

-- The expressions whose values an atom sends or looks at. For a new process, these are its arguments. If the act has an expression for its
-- tool, this expression is first.
abbrev pub sent_exprs : Act → List Expr
sent_exprs Delta = []
sent_exprs Tau = []
sent_exprs (SndMsg exprs) = exprs
sent_exprs (RecMsg exprs) = []
sent_exprs (SndNote exprs) = exprs
sent_exprs (RecNote exprs) = []
sent_exprs (NoNote exprs) = []
sent_exprs (Subscribe exprs) = []
sent_exprs (Unsubscribe exprs) = []
sent_exprs (Create process actuals slot) = actuals
sent_exprs (Set slot value) = value ∷ []
sent_exprs (Printf exprs) = exprs
sent_exprs (Execute tool slot) = []
sent_exprs (RecConnect tool slot) = []
sent_exprs (RecDisconnectAny tool slot) = []
sent_exprs (RecDisconnect tool) = tool ∷ []
sent_exprs (SndEval tool expr) = tool ∷ expr ∷ []
sent_exprs (RecValue tool expr) = tool ∷ []
sent_exprs (SndDo tool expr) = tool ∷ expr ∷ []
sent_exprs (RecEvent tool exprs) = tool ∷ []
sent_exprs (SndAckEvent tool exprs) = tool ∷ exprs
sent_exprs (SndTerminate tool expr) = tool ∷ expr ∷ []
sent_exprs (Shutdown reason) = reason ∷ []

-- the expressions that are patterns: for received terms, or for notes
abbrev pub matched_exprs : Act → List Expr
matched_exprs Delta = []
matched_exprs Tau = []
matched_exprs (SndMsg exprs) = []
matched_exprs (RecMsg exprs) = exprs
matched_exprs (SndNote exprs) = []
matched_exprs (RecNote exprs) = exprs
matched_exprs (NoNote exprs) = exprs
matched_exprs (Subscribe exprs) = exprs
matched_exprs (Unsubscribe exprs) = exprs
matched_exprs (Create process actuals slot) = []
matched_exprs (Set slot value) = []
matched_exprs (Printf exprs) = []
matched_exprs (Execute tool slot) = []
matched_exprs (RecConnect tool slot) = []
matched_exprs (RecDisconnectAny tool slot) = []
matched_exprs (RecDisconnect tool) = []
matched_exprs (SndEval tool expr) = []
matched_exprs (RecValue tool expr) = expr ∷ []
matched_exprs (SndDo tool expr) = []
matched_exprs (RecEvent tool exprs) = exprs
matched_exprs (SndAckEvent tool exprs) = []
matched_exprs (SndTerminate tool expr) = []
matched_exprs (Shutdown reason) = []

-- the terms, if their total size is within the limit of a term
abbrev pub limited_together : List Term → Option (List Term)
limited_together terms = if nat_le (sum (map term_size terms)) most_term_size then Some terms else None

-- the values, if each expression has one and their total size is within the limit of a term
abbrev pub values_together : List Slot → List Expr → Option (List Term)
values_together store exprs = option_and_then limited_together (all_of (map (value_of store) exprs))

-- the patterns, if each expression has one
abbrev pub patterns_of : List Slot → List Expr → Option (List Pattern)
patterns_of store exprs = all_of (map (pattern_of store) exprs)

-- the binds of matching the terms; nothing if an expression has no pattern or the terms don't match
abbrev pub accepted : List Slot → List Expr → List Term → Option (List Bind)
accepted store exprs terms = option_and_then (λ patterns. match_list patterns terms) (patterns_of store exprs)

-- the number is at most this bound
abbrev pub is_at_most : ℤ → ℕ → Bool
is_at_most (pos n) most = nat_le n most
is_at_most (negsuc n) most = true

-- the number is at least this bound
abbrev pub is_at_least : ℤ → ℕ → Bool
is_at_least (pos n) least = nat_le least n
is_at_least (negsuc n) least = false

-- whether a time of this kind and value holds for an atom of this age, at this number of ticks of the bus
abbrev pub holds_for : TimeKind → ℤ → ℕ → ℕ → Bool
holds_for Delay value age now = is_at_most value age
holds_for Timeout value age now = is_at_least value age
holds_for AbsDelay value age now = is_at_most value now
holds_for AbsTimeout value age now = is_at_least value now

-- a time doesn't hold if it has no value or its value is no number
abbrev pub holds_by : TimeKind → Option ℤ → ℕ → ℕ → Bool
holds_by kind None age now = false
holds_by kind (Some value) age now = holds_for kind value age now

abbrev pub holds : List Slot → ℕ → ℕ → Time → Bool
holds store age now time = holds_by time.kind (option_and_then int_of (value_of store time.value)) age now

-- all times of the atom hold
abbrev pub is_ready : List Slot → ℕ → ℕ → List Time → Bool
is_ready store age now times = list_all (holds store age now) times

-- the act of an atom; without an atom, `delta`, which never happens
abbrev pub act_in : Option Atom → Act
act_in None = Delta
act_in (Some atom) = atom.act

abbrev pub times_in : Option Atom → List Time
times_in None = []
times_in (Some atom) = atom.times

-- the act of the atom with this number, from 1
abbrev pub act_of : List Atom → ℕ → Act
act_of atoms number = act_in (slice_get atoms (number - 1))

-- the times of the atom with this number, from 1
abbrev pub times_of : List Atom → ℕ → List Time
times_of atoms number = times_in (slice_get atoms (number - 1))
