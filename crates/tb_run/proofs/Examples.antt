-- The common parts of the example runs, which are computed from the definitions alone.
use Rattle.std.proofs.Common.{length-append, ◌≡◌, ℕ, ◌≤◌, ◌<◌, IsAscii, lit<, List, [], ◌∷◌, replicate, inl, map, refl, ap, sym, ◌∙◌, subst, arith, false, true, Option, Some, None, Bool, not, ◌&&◌, ◌+◌, ◌-◌, ◌++◌, suc, zero, length, Contains, inr, slice_get}
use Rattle.std.specs.Prelude.{nat_eq, slice_index_or, filter, ◌⊎◌}
use Rattle.std.specs.Str.{is_utf8}
use Rattle.std.proofs.lemmas.Bool.{and_from, and_parts, and_right, eqb-true}
use Rattle.std.proofs.lemmas.Str.{IsUtf8-from_ascii, is_utf8-from_IsUtf8}
use Rattle.tb_terms.specs.Names.{is_string, is_text, is_text_byte}
use Rattle.tb_terms.specs.declared.term.Term.{Term}
use Rattle.tb_terms.specs.declared.sort.Sort.TheVariants as sort
use Rattle.tb_func.specs.declared.slot.Slot.{Slot}
use Rattle.tb_body.specs.declared.tree.Setting.{Setting}
use Rattle.tb_body.specs.declared.act.Act.{Act}
use Rattle.tb_body.specs.declared.atom.Atom.{Atom}
use Rattle.tb_body.specs.declared.program.Root.{Root}
use Rattle.tb_log.specs.Shapes.{IsInputInShape, IsLane}
use Rattle.tb_log.specs.declared.entry.Input.{Input}
use Rattle.tb_log.specs.declared.entry.Input.TheVariants as input_of
use Rattle.tb_log.specs.declared.entry.Reply.{Reply}
use Rattle.tb_log.specs.declared.entry.Reply.TheVariants.{Took, Dropped}
use Rattle.tb_log.specs.declared.entry.Why.{Why}
use Rattle.tb_log.specs.declared.entry.Why.TheVariants as why
use Rattle.tb_log.specs.declared.entry.Out.{Out}
use Rattle.tb_log.specs.declared.entry.Entry.{Entry}
use Rattle.tb_log.specs.declared.entry.Entry.TheVariants.{Did, Quiet, Fed, Gave}
use Rattle.tb_log.specs.declared.entry.Label.{Label}
use Rattle.tb_log.specs.declared.entry.LabelKind.{LabelKind}
use Rattle.tb_log.specs.declared.entry.LabelKind.TheVariants as kind
use Rattle.tb_tools.specs.Lanes.{Lane, BenchState, unused, tool_term, is_empty}
use Rattle.tb_tools.specs.Finding.{next_out}
use Rattle.tb_bus.specs.declared.origin.Origin.{Origin}
use Rattle.tb_bus.specs.Buses.{Bus}
use Rattle.tb_bus.specs.Steps.{Step, steps, first}
use Rattle.tb_bus.specs.Traces.{IsTrace, after, replay, fed, taken_out}
use Rattle.tb_bus.proofs.TraceLemmas.{after-first, legal-first, legal-quiet, legal-fed, legal-gave}
use Rattle.tb_edge.specs.declared.given.Given.{Given}
use Rattle.tb_edge.specs.declared.given.Taken.{Taken}
use Rattle.tb_edge.specs.Ends.{InletView, ClockView}
use Rattle.tb_tool_line.specs.Sending.{taken_of}
use Rattle.tb_log.specs.Lanes.{inputs, sent}
use Rattle.tb_core.specs.Cores.{CoreState, says_quiet}
use Rattle.tb_lock.specs.Histories.{IsSparse}
use Rattle.tb_run.specs.Workers.{AreLines, AreTicks, IsNoTicks, cut_count}
use Rattle.tb_run.specs.Clocks.{is_time, TimeIs}
use Rattle.tb_run.specs.Dropping.{HasDropped}
use Rattle.tb_run.specs.Outcomes.{LaneRan, LaneStopped, is_of}
use Rattle.tb_run.specs.Views.{LaneView, EachLane, OutsideView, outside_of}

-- an atom that has no times
abbrev pub plain : Act → Atom
plain a = record { act = a; times = [] }

-- a process that starts without actuals
abbrev pub root : ℕ → Root
root process = record { process = process; actuals = [] }

-- a letter is a string
one-byte : (byte : ℕ) → byte < 128 → IsAscii (byte ∷ [])
one-byte byte small zero = small
one-byte byte small (suc index) = lit< tt

pub letter-string : (byte : ℕ) → byte < 128 → is_text_byte byte ≡ true → is_string (byte ∷ []) ≡ true
letter-string byte small text =
    and_from (is_utf8 (byte ∷ [])) (is_text (byte ∷ [])) (is_utf8-from_IsUtf8 (byte ∷ []) (IsUtf8-from_ascii (byte ∷ []) (one-byte byte small))) (and_from (is_text_byte byte) true text refl)

-- a step by itself, seen as this
abbrev pub seen : LabelKind → ℕ → ℕ → List Term → Label
seen kind proc atom terms = record { kind = kind; from = record { proc = proc; atom = atom }; to = record { proc = 0; atom = 0 }; terms = terms }

abbrev pub finish : Label
finish = seen kind.Finish 0 0 []

-- the tool of this name with this number, and a variable with it
abbrev pub tool : List ℕ → ℕ → Term
tool name number = tool_term name number

abbrev pub holding : List ℕ → ℕ → Slot
holding name number = record { sort = sort.Tool name; value = tool name number }

-- a log that is a trace, and leads from one bus to another
pub record Leads (bus : Bus) (log : List Entry) (last : Bus) : Type 0 where
  pub trace : IsTrace bus log
  pub is : replay bus log ≡ last

pub stays : (bus : Bus) → Leads bus [] bus
stays bus = record { trace = tt; is = refl }

behind : (bus next last : Bus) (entry : Entry) (log : List Entry) → IsTrace bus (entry ∷ []) → after bus entry ≡ next → Leads next log last → Leads bus (entry ∷ log) last
behind bus next last entry log t e l = record {
  trace = (t.0, subst (λ b. IsTrace b log) (sym e) l.trace);
  is = ap (λ b. replay b log) e ∙ l.is;
}

first-of : (all : List Step) (step : Step) → first all ≡ Some step → (rest : List Step) × (all ≡ step ∷ rest)
first-of [] step e = absurd (let none : ◌≡◌ {A = Option Step} None (Some step) = e in cc)
first-of (other ∷ rest) step e = let same : other ≡ step = cc in (rest, ap (λ (it : Step). it ∷ rest) same)

-- the first of the steps is made
pub did : (bus next last : Bus) (label : Label) (log : List Entry) → first (steps bus) ≡ Some (record { label = label; bus = next }) → Leads next log last → Leads bus (Did label ∷ log) last
did bus next last label log e l =
    let step : Step = record { label = label; bus = next } in
    let all = first-of (steps bus) step e in
    behind bus next last (Did label) log (legal-first bus step all.0 all.1) (after-first bus step all.0 all.1) l

-- nothing is possible
pub quiet : (bus last : Bus) (log : List Entry) → steps bus ≡ [] → bus.down ≡ false → Leads bus log last → Leads bus (Quiet ∷ log) last
quiet bus last log e up l = behind bus bus last Quiet log (legal-quiet bus e up) refl l

-- an input comes
pub came : (bus next last : Bus) (input : Input) (reply : Reply) (log : List Entry) → IsInputInShape input → reply ≡ (fed bus input).reply → (fed bus input).bus ≡ next → Leads next log last →
    Leads bus (Fed input reply ∷ log) last
came bus next last input reply log shape r e l = behind bus next last (Fed input reply) log (legal-fed bus input reply shape r) e l

-- something is sent
pub gave : (bus next last : Bus) (lane : ℕ) (out : Out) (log : List Entry) → IsLane lane → next_out lane bus.bench ≡ Some out → taken_out lane bus ≡ next → Leads next log last → Leads bus (Gave lane out ∷ log) last
gave bus next last lane out log on o e l = behind bus next last (Gave lane out) log (legal-gave bus lane out on o) e l

-- no two neighbours say quiet
abbrev pub are_apart : List Entry → Bool
are_apart [] = true
are_apart (entry ∷ log) = not (says_quiet (Some entry) && says_quiet (slice_get log 0)) && are_apart log

other-silent : (one other rest : Bool) → (not (one && other) && rest) ≡ true → one ≡ true → other ≡ false
other-silent true true rest e f = cc
other-silent true false rest e f = refl
other-silent false other rest e f = cc

rest-apart : (both rest : Bool) → (not both && rest) ≡ true → rest ≡ true
rest-apart true rest e = cc
rest-apart false rest e = e

pub sparse : (log : List Entry) → are_apart log ≡ true → IsSparse log
sparse [] apart index e = cc
sparse (entry ∷ log) apart zero e = other-silent (says_quiet (Some entry)) (says_quiet (slice_get log 0)) (are_apart log) apart e
sparse (entry ∷ log) apart (suc index) e = sparse log (rest-apart (says_quiet (Some entry) && says_quiet (slice_get log 0)) (are_apart log) apart) index e

-- a variable that begins as its sort does
abbrev pub from_start : List Setting
from_start = record { slot = 0; start = None } ∷ []

-- an end that has given and taken nothing, and has not failed
abbrev pub idle : LaneView
idle = record { gave = Some (record { gave = []; over = false }); inlet_faults = 0; took = Some []; outlet_faults = 0 }

abbrev pub at_end : List Given → List Taken → ℕ → LaneView
at_end gives takes faults = record { gave = Some (record { gave = gives; over = true }); inlet_faults = 0; took = Some takes; outlet_faults = faults }

-- a lane of which a log says nothing
untouched : (log : List Entry) (lane : ℕ) → inputs log lane ≡ [] → sent log lane ≡ [] → cut_count lane log ≡ 0 → LaneRan log lane idle (at_end [] [] 0)
untouched log lane none nothing never = record {
  given = [];
  over = true;
  gave = refl;
  lines = subst (AreLines lane []) (sym none) tt;
  end = inl refl;
  took = ap (λ (outs : List Out). Some (map taken_of outs)) (sym nothing);
  cuts = inl (omega (arith, never));
}

-- one lane of which it does, and fifteen others
abbrev pub one_lane : LaneView → LaneView → List LaneView
one_lane lane other = lane ∷ replicate 15 other

-- as a test
abbrev pub is_silent : List Entry → ℕ → Bool
is_silent log lane = is_empty (inputs log lane) && (is_empty (sent log lane) && nat_eq (cut_count lane log) 0)

-- this lane and those after it
abbrev pub are_silent : List Entry → ℕ → ℕ → Bool
are_silent log lane zero = true
are_silent log lane (suc count) = is_silent log lane && are_silent log (lane + 1) count

none-of : {A : Type 0} (xs : List A) → is_empty xs ≡ true → xs ≡ []
none-of [] e = refl
none-of (x ∷ xs) e = cc

silent-lane : (log : List Entry) (lane : ℕ) → is_silent log lane ≡ true → LaneRan log lane idle (at_end [] [] 0)
silent-lane log lane e =
    let first = and_parts (is_empty (inputs log lane)) (is_empty (sent log lane) && nat_eq (cut_count lane log) 0) e in
    let second = and_parts (is_empty (sent log lane)) (nat_eq (cut_count lane log) 0) first.1 in
    untouched log lane (none-of (inputs log lane) first.0) (none-of (sent log lane) second.0) (eqb-true (cut_count lane log) 0 second.1)

pub silent-lanes : (log : List Entry) (lane count : ℕ) → are_silent log lane count ≡ true → EachLane (LaneRan log) lane (replicate count idle) (replicate count (at_end [] [] 0))
silent-lanes log lane zero e = tt
silent-lanes log lane (suc count) e =
    let both = and_parts (is_silent log lane) (are_silent log (lane + 1) count) e in
    (silent-lane log lane both.0, silent-lanes log (lane + 1) count both.1)

-- nothing has happened on it when a run is stopped
unmoved : (log : List Entry) (lane : ℕ) → inputs log lane ≡ [] → sent log lane ≡ [] → cut_count lane log ≡ 0 → LaneStopped log lane idle idle
unmoved log lane none nothing never = record {
  fed = [];
  last = [];
  over = false;
  gave = refl;
  lines = subst (AreLines lane []) (sym none) tt;
  one = omega arith;
  whole = λ over. refl;
  put = [];
  lost = [];
  handed = nothing;
  took = refl;
  one_lost = omega arith;
  failed = inl refl;
  cuts = inl (omega (arith, never));
}

silent-stopped : (log : List Entry) (lane : ℕ) → is_silent log lane ≡ true → LaneStopped log lane idle idle
silent-stopped log lane e =
    let first = and_parts (is_empty (inputs log lane)) (is_empty (sent log lane) && nat_eq (cut_count lane log) 0) e in
    let second = and_parts (is_empty (sent log lane)) (nat_eq (cut_count lane log) 0) first.1 in
    unmoved log lane (none-of (inputs log lane) first.0) (none-of (sent log lane) second.0) (eqb-true (cut_count lane log) 0 second.1)

pub unmoved-lanes : (log : List Entry) (lane count : ℕ) → are_silent log lane count ≡ true → EachLane (LaneStopped log) lane (replicate count idle) (replicate count idle)
unmoved-lanes log lane zero e = tt
unmoved-lanes log lane (suc count) e =
    let both = and_parts (is_silent log lane) (are_silent log (lane + 1) count) e in
    (silent-stopped log lane both.0, unmoved-lanes log (lane + 1) count both.1)

-- a clock that gave no tick, before and after
abbrev pub clock_of : Bool → Option ClockView
clock_of ended = Some (record { ticks = 0; ended = ended })

-- where no lane has anything to send, the lane with this number hasn't
abbrev pub are_empty : List Lane → Bool
are_empty [] = true
are_empty (lane ∷ lanes) = is_empty lane.outs && are_empty lanes

empty-first : (outs : List Out) → is_empty outs ≡ true → slice_get outs 0 ≡ None
empty-first [] e = refl
empty-first (out ∷ outs) e = cc

empty-at : (lanes : List Lane) (index : ℕ) → are_empty lanes ≡ true → slice_get (slice_index_or lanes index unused).outs 0 ≡ None
empty-at [] index e = refl
empty-at (lane ∷ lanes) zero e = empty-first lane.outs (and_parts (is_empty lane.outs) (are_empty lanes) e).0
empty-at (lane ∷ lanes) (suc index) e = empty-at lanes index (and_parts (is_empty lane.outs) (are_empty lanes) e).1

pub empty-lane : (bench : BenchState) (lane : ℕ) → are_empty bench.lanes ≡ true → next_out lane bench ≡ None
empty-lane bench lane e = empty-at bench.lanes (lane - 1) e

-- the environment before a run, and after one that this lane's ends came to, and the other lanes', with this text written
abbrev pub before : OutsideView
before = outside_of (replicate 16 idle) (clock_of false) 0 0 (Some []) 0

abbrev pub afterwards : List LaneView → List ℕ → OutsideView
afterwards lanes text = outside_of lanes (clock_of true) 0 0 (Some text) 0

-- the core that is returned
abbrev pub core_of : Origin → List Entry → CoreState
core_of origin log = record { origin = origin; log = log; stopped = false; spare = 0 }

-- the one entry of time says that no more ticks come
abbrev pub no-ticks : (log : List Entry) (reply : Reply) → filter is_time log ≡ Fed input_of.NoTicks reply ∷ [] → TimeIs log
no-ticks log reply e = record {
  first = [];
  tail = Fed input_of.NoTicks reply ∷ [];
  is = e;
  ticks = tt;
  last = inr (reply, refl);
}

-- it isn't said twice
said-twice : (one two : Reply) (first tail : List Entry) → Fed input_of.NoTicks one ∷ Fed input_of.NoTicks two ∷ [] ≡ first ++ tail → AreTicks first → (tail ≡ []) ⊎ IsNoTicks tail → ⊥
said-twice one two [] tail e ticks (inl none) = let both : ◌≡◌ {A = List Entry} (Fed input_of.NoTicks one ∷ Fed input_of.NoTicks two ∷ []) [] = e ∙ none in cc
said-twice one two [] tail e ticks (inr last) =
    let both : ◌≡◌ {A = List Entry} (Fed input_of.NoTicks one ∷ Fed input_of.NoTicks two ∷ []) (Fed input_of.NoTicks last.0 ∷ []) = e ∙ last.1 in cc
said-twice one two (entry ∷ first) tail e ticks last =
    let same : ◌≡◌ {A = Entry} (Fed input_of.NoTicks one) entry = cc in
    subst (λ (it : Entry). AreTicks (it ∷ first)) (sym same) ticks

pub not-twice : (log : List Entry) (one two : Reply) → filter is_time log ≡ Fed input_of.NoTicks one ∷ Fed input_of.NoTicks two ∷ [] → TimeIs log → ⊥
not-twice log one two e time = said-twice one two time.first time.tail (sym e ∙ time.is) time.ticks time.last

-- no tick comes after it
tick-behind : (one two : Reply) (first tail : List Entry) → Fed input_of.NoTicks one ∷ Fed input_of.Tick two ∷ [] ≡ first ++ tail → AreTicks first → (tail ≡ []) ⊎ IsNoTicks tail → ⊥
tick-behind one two [] tail e ticks (inl none) = let both : ◌≡◌ {A = List Entry} (Fed input_of.NoTicks one ∷ Fed input_of.Tick two ∷ []) [] = e ∙ none in cc
tick-behind one two [] tail e ticks (inr last) =
    let both : ◌≡◌ {A = List Entry} (Fed input_of.NoTicks one ∷ Fed input_of.Tick two ∷ []) (Fed input_of.NoTicks last.0 ∷ []) = e ∙ last.1 in cc
tick-behind one two (entry ∷ first) tail e ticks last =
    let same : ◌≡◌ {A = Entry} (Fed input_of.NoTicks one) entry = cc in
    subst (λ (it : Entry). AreTicks (it ∷ first)) (sym same) ticks

pub not-behind : (log : List Entry) (one two : Reply) → filter is_time log ≡ Fed input_of.NoTicks one ∷ Fed input_of.Tick two ∷ [] → TimeIs log → ⊥
not-behind log one two e time = tick-behind one two time.first time.tail (sym e ∙ time.is) time.ticks time.last

-- where a step is possible, nothing says quiet
pub not-quiet : (bus : Bus) (step : Step) (log : List Entry) → first (steps bus) ≡ Some step → IsTrace bus (Quiet ∷ log) → ⊥
not-quiet bus step log e trace = let none : ◌≡◌ {A = Option Step} None (Some step) = sym (ap first trace.0.0) ∙ e in cc

-- and where none is, none is made
pub not-made : (bus : Bus) (label : Label) (log : List Entry) → steps bus ≡ [] → IsTrace bus (Did label ∷ log) → ⊥
not-made bus label log e trace =
    let there = subst (λ (all : List Step). Contains all (record { label = label; bus = after bus (Did label) })) e trace.0 in
    absurd (omega (arith, there.1))

-- as many inputs as were given
lines-length : (lane : ℕ) (gives : List Given) (ins : List Input) → AreLines lane gives ins → length gives ≡ length ins
lines-length lane [] [] lines = refl
lines-length lane [] (i ∷ ins) lines = absurd lines
lines-length lane (g ∷ gives) [] lines = absurd lines
lines-length lane (g ∷ gives) (i ∷ ins) lines = ap suc (lines-length lane gives ins lines.1)

-- the items that an inlet gave in a call that began with nothing
abbrev gave_of : Option InletView → List Given
gave_of None = []
gave_of (Some view) = view.gave

-- a run went to its end: it gave just what the log has
pub gave-all : (log : List Entry) (lane : ℕ) (gives : List Given) (takes : List Taken) (faults : ℕ) → LaneRan log lane idle (at_end gives takes faults) → AreLines lane gives (inputs log lane)
gave-all log lane gives takes faults ran =
    let same : gives ≡ ran.given = ap gave_of ran.gave in
    subst (λ (those : List Given). AreLines lane those (inputs log lane)) (sym same) ran.lines

-- it was stopped: it gave one more at most
pub gave-most : (log : List Entry) (lane : ℕ) (gives : List Given) (takes : List Taken) (faults : ℕ) → LaneStopped log lane idle (at_end gives takes faults) → length gives ≤ length (inputs log lane) + 1
gave-most log lane gives takes faults ran =
    let same : gives ≡ ran.fed ++ ran.last = ap gave_of ran.gave in
    let heard : length ran.fed ≡ length (inputs log lane) = lines-length lane ran.fed (inputs log lane) ran.lines in
    let all : length gives ≡ length ran.fed + length ran.last = ap length same ∙ length-append ran.fed ran.last in
    omega (arith, heard, all, ran.one)

-- an input that was dropped because the bus had shut down
abbrev drops_by : Why → Bool
drops_by why.Unasked = false
drops_by why.NotLive = false
drops_by why.Named = false
drops_by why.Stranger = false
drops_by why.Bad = false
drops_by why.Down = true

abbrev drops_so : Reply → Bool
drops_so Took = false
drops_so (Dropped why) = drops_by why

abbrev is_dropped : Entry → Bool
is_dropped (Did label) = false
is_dropped Quiet = false
is_dropped (Fed input reply) = drops_so reply
is_dropped (Gave lane out) = false

abbrev pub none_dropped : List Entry → Bool
none_dropped [] = true
none_dropped (entry ∷ log) = not (is_dropped entry) && none_dropped log

one-dropped : (front : List Entry) (it : Input) (rest : List Entry) → none_dropped (front ++ Fed it (Dropped why.Down) ∷ rest) ≡ false
one-dropped [] it rest = refl
one-dropped (entry ∷ front) it rest = and_right (not (is_dropped entry)) (none_dropped (front ++ Fed it (Dropped why.Down) ∷ rest)) (one-dropped front it rest)

pub not-dropped : (test : Input → Bool) (log : List Entry) → none_dropped log ≡ true → HasDropped test log → ⊥
not-dropped test log none h = let e : ◌≡◌ {A = Bool} true false = sym none ∙ ap none_dropped h.4 ∙ one-dropped h.0 h.1 h.2 in cc

abbrev is_over : Option InletView → Bool
is_over None = false
is_over (Some view) = view.over

-- an inlet isn't over, and nothing of it was dropped because the bus had shut down
pub not-over : (log : List Entry) (lane : ℕ) (gives : List Given) (takes : List Taken) (faults : ℕ) → none_dropped log ≡ true →
    LaneRan log lane idle (record { gave = Some (record { gave = gives; over = false }); inlet_faults = 0; took = Some takes; outlet_faults = faults }) → ⊥
not-over log lane gives takes faults none ran = elim ran.end [
  | inl over ↦ let same : ◌≡◌ {A = Bool} false true = ap is_over ran.gave ∙ over in cc
  | inr dropped ↦ not-dropped (is_of lane) log none dropped
]
