-- Each term that the tool receives by a trace, and each that the trace takes from it, matches the tool's interface.
use Rattle.std.proofs.Common.{◌≡◌, ℕ, Bool, true, false, List, [], ◌∷◌, ◌++◌, slice_get, codes, ◌-◌, Option, Some, None, Contains, refl, ap, sym, subst}
use Rattle.std.proofs.lemmas.List.Elements.{All-nil, All-append, All-weaker, All-contains, Contains-append_left, Contains-append_right}
use Rattle.tb_terms.specs.declared.term.Term.{Term}
use Rattle.tb_terms.specs.declared.term.Term.TheVariants as term
use Rattle.tb_terms.specs.declared.sort.Sort.{Sort}
use Rattle.tb_terms.specs.declared.pattern.Pattern.{Pattern}
use Rattle.tb_terms.specs.declared.pattern.Pattern.TheVariants as pattern
use Rattle.tb_func.specs.declared.slot.Slot.{Slot}
use Rattle.tb_body.specs.declared.act.Act.{Act}
use Rattle.tb_body.specs.declared.atom.Atom.{Atom}
use Rattle.tb_body.specs.declared.body.Body.{Body}
use Rattle.tb_body.specs.declared.program.Program.{Program}
use Rattle.tb_process_steps.specs.Atoms.{act_in, act_of, times_of, is_ready}
use Rattle.tb_process_steps.specs.Offers.{Offered}
use Rattle.tb_process_steps.specs.Walks.{sorts_of}
use Rattle.tb_process_steps.proofs.Offering.{contains-at}
use Rattle.tb_log.specs.declared.entry.Entry.{Entry}
use Rattle.tb_log.specs.declared.entry.Entry.TheVariants.{Did, Quiet, Fed, Gave}
use Rattle.tb_log.specs.declared.entry.Label.{Label}
use Rattle.tb_bus.specs.Actions.{action_in, action_if}
use Rattle.tb_bus.specs.Buses.{Bus, Proc, start, atoms_in, atoms_of}
use Rattle.tb_bus.specs.Effects.{Effect, effect_of}
use Rattle.tb_bus.specs.Steps.{Move, Own, Handshake, Finish, Halt, Step, action_by, label_of}
use Rattle.tb_bus.specs.Traces.{IsLegal, IsTrace, after}
use Rattle.tb_bus.specs.declared.action.Action.{Action}
use Rattle.tb_bus.specs.declared.origin.Origin.{Origin}
use Rattle.tb_bus.proofs.ReachedLemmas.{IsReadyFor, IsMoveOf, step-made}
use Rattle.tb_iface.specs.Hearing.{MatchesOne, told_as, heard_as, told_by, heard_by, told, heard}
use Rattle.tb_iface.specs.Interfaces.{line, tells, hears, of_atoms, last_lines, to_of, from_of}
use Rattle.tb_iface.proofs.EffectLines.{AreHeard, effect-heard}
use Rattle.tb_iface.proofs.LineLemmas.{AreMatched, Gives, MatchesAct, name-matched, act-matches}
use Rattle.tb_iface.proofs.OnceLemmas.{once-has, of_atoms-has}
use Rattle.tb_iface.proofs.SortedBuses.{IsSorted, offered-store, sorted-next, sorted-start}
use Rattle.tb_iface.proofs.StoreSorts.{IsStoreOf}

-- more patterns match as well
matched-more : (few many : List Pattern) (terms : List Term) → ((p : Pattern) → Contains few p → Contains many p) → AreMatched few terms → AreMatched many terms
matched-more few many terms more h = All-weaker (MatchesOne few) (MatchesOne many) (λ t m. record { pattern = m.pattern; among = more m.pattern m.among; matches = m.matches }) terms h

-- an atom of a body of the program
record IsAtomOf (bodies : List Body) (body : Body) (atom : Atom) : Type 0 where
  defined : Contains bodies body
  among : Contains body.atoms atom

tells-listed : (program : Program) (tool : List ℕ) (body : Body) (atom : Atom) (p : Pattern) → IsAtomOf program.bodies body atom → Contains (tells tool body.sorts atom.act) p → Contains (to_of program tool) p
tells-listed program tool body atom p is c =
    let atoms = of_atoms (tells tool) program.bodies in
    once-has (atoms ++ last_lines) p (Contains-append_left atoms last_lines p (of_atoms-has (tells tool) program.bodies body atom p is.defined is.among c))

hears-listed : (program : Program) (tool : List ℕ) (body : Body) (atom : Atom) (p : Pattern) → IsAtomOf program.bodies body atom → Contains (hears program.tools tool body.sorts atom.act) p → Contains (from_of program tool) p
hears-listed program tool body atom p is c = once-has (of_atoms (hears program.tools tool) program.bodies) p (of_atoms-has (hears program.tools tool) program.bodies body atom p is.defined is.among c)

last-listed : (program : Program) (tool : List ℕ) (p : Pattern) → Contains last_lines p → Contains (to_of program tool) p
last-listed program tool p c =
    let atoms = of_atoms (tells tool) program.bodies in
    once-has (atoms ++ last_lines) p (Contains-append_right atoms last_lines p c)

-- the atom of an offer

record DoesAtom (bodies : List Body) (body : Body) (store : List Slot) (does : Action) : Type 0 where
  atom : Atom
  is : IsAtomOf bodies body atom
  acts : action_in store atom.act ≡ Some does

if-acts : (ready : Bool) (store : List Slot) (act : Act) (does : Action) → action_if ready store act ≡ Some does → action_in store act ≡ Some does
if-acts true store act does e = e
if-acts false store act does e = cc

atom-by : (bodies : List Body) (body : Body) (store : List Slot) (does : Action) (at : ℕ) (found : Option Atom) → Contains bodies body → slice_get body.atoms at ≡ found → action_in store (act_in found) ≡ Some does → DoesAtom bodies body store does
atom-by bodies body store does at None defined there e = absurd (let t : ◌≡◌ {A = Option Action} None (Some does) = e in cc)
atom-by bodies body store does at (Some atom) defined there e = record { atom = atom; is = record { defined = defined; among = contains-at body.atoms at atom there }; acts = e }

offer-atom : (bus : Bus) (proc : Proc) (offered : Offered) (does : Action) (body : Body) → slice_get bus.program.bodies proc.body ≡ Some body → action_by bus proc offered ≡ Some does → DoesAtom bus.program.bodies body offered.store does
offer-atom bus proc offered does body there e =
    let bodies = bus.program.bodies in
    let atoms : atoms_of bodies proc.body ≡ body.atoms = ap atoms_in there in
    let ready = is_ready offered.store offered.age bus.now (times_of (atoms_of bodies proc.body) offered.atom) in
    let acts = if-acts ready offered.store (act_of (atoms_of bodies proc.body) offered.atom) does e in
    let its : action_in offered.store (act_of body.atoms offered.atom) ≡ Some does = subst (λ (all : List Atom). action_in offered.store (act_of all offered.atom) ≡ Some does) atoms acts in
    atom-by bodies body offered.store does (offered.atom - 1) (slice_get body.atoms (offered.atom - 1)) (contains-at bodies proc.body body there) refl its

-- steps

-- what is seen of a step matches the interface
abbrev LabelMatches : Program → List ℕ → Label → Type 0
LabelMatches program tool label = AreHeard tool (to_of program tool) (from_of program tool) label.kind label.terms

own-matches : (bus : Bus) (tool : List ℕ) (proc : Proc) (offered : Offered) (effect : Effect) (does : Action) → IsStoreOf bus.program.bodies proc.body offered.store → IsReadyFor bus proc offered does → effect_of bus proc does ≡ Some effect →
    LabelMatches bus.program tool (label_of (Own proc offered effect))
own-matches bus tool proc offered effect does store ready e =
    let program = bus.program in
    let at = offer-atom bus proc offered does store.body store.there ready.1 in
    let act = at.atom.act in
    let gives : MatchesAct program.tools tool (sorts_of offered.store) act does = subst (Gives program.tools tool offered.store act) at.acts (act-matches program.tools tool offered.store act store.values) in
    let its : MatchesAct program.tools tool store.body.sorts act does = subst (λ (sorts : List Sort). MatchesAct program.tools tool sorts act does) store.sorts gives in
    let it = effect-heard tool (tells tool store.body.sorts act) (hears program.tools tool store.body.sorts act) bus proc does effect its e in
    record {
      told = matched-more (tells tool store.body.sorts act) (to_of program tool) (told_as tool effect.kind effect.shown) (λ p. tells-listed program tool store.body at.atom p at.is) it.told;
      heard = matched-more (hears program.tools tool store.body.sorts act) (from_of program tool) (heard_as tool effect.kind effect.shown) (λ p. hears-listed program tool store.body at.atom p at.is) it.heard;
    }

-- the reason if a bus shuts down by itself
reason-listed : (program : Program) (tool name : List ℕ) → ((p : Pattern) → Contains (line (codes "rec-terminate") (pattern.Appl name [] ∷ [])) p → Contains last_lines p) →
    AreMatched (to_of program tool) (term.Appl (codes "rec-terminate") (term.Appl name [] ∷ []) ∷ [])
reason-listed program tool name c =
    matched-more (line (codes "rec-terminate") (pattern.Appl name [] ∷ [])) (to_of program tool) (term.Appl (codes "rec-terminate") (term.Appl name [] ∷ []) ∷ [])
    (λ p d. last-listed program tool p (c p d)) (name-matched (codes "rec-terminate") name)

abbrev reason_line : List ℕ → List Pattern
reason_line name = line (codes "rec-terminate") (pattern.Appl name [] ∷ [])

move-matches : (origin : Origin) (bus : Bus) (tool : List ℕ) (move : Move) → IsSorted origin bus → IsMoveOf bus move → LabelMatches bus.program tool (label_of move)
move-matches origin bus tool (Own proc offered effect) h is = own-matches bus tool proc offered effect is.0 (offered-store bus proc offered h.stores is.1.0) is.1 is.2
move-matches origin bus tool (Handshake sender sent receiver received terms binds) h is = record { told = All-nil (MatchesOne (to_of bus.program tool)); heard = All-nil (MatchesOne (from_of bus.program tool)) }
move-matches origin bus tool Finish h is = record {
  told = reason-listed bus.program tool (codes "finish") (λ p c. Contains-append_left (reason_line (codes "finish")) (reason_line (codes "halt")) p c);
  heard = All-nil (MatchesOne (from_of bus.program tool));
}
move-matches origin bus tool Halt h is = record {
  told = reason-listed bus.program tool (codes "halt") (λ p c. Contains-append_right (reason_line (codes "finish")) (reason_line (codes "halt")) p c);
  heard = All-nil (MatchesOne (from_of bus.program tool));
}

-- traces

-- what these entries say matches the interface
record EntriesMatch (program : Program) (tool : List ℕ) (told heard : List Term) : Type 0 where
  to : AreMatched (to_of program tool) told
  from : AreMatched (from_of program tool) heard

entry-matches : (origin : Origin) (bus : Bus) (tool : List ℕ) (entry : Entry) → IsSorted origin bus → IsLegal bus entry (after bus entry) → EntriesMatch bus.program tool (told_by tool entry) (heard_by tool entry)
entry-matches origin bus tool (Did label) h legal =
    let made = step-made bus (record { label = label; bus = after bus (Did label) }) legal in
    let it = subst (LabelMatches bus.program tool) (sym (ap (λ (s : Step). s.label) made.2)) (move-matches origin bus tool made.0 h made.1) in
    record { to = it.told; from = it.heard }
entry-matches origin bus tool Quiet h legal = record { to = All-nil (MatchesOne (to_of bus.program tool)); from = All-nil (MatchesOne (from_of bus.program tool)) }
entry-matches origin bus tool (Fed input reply) h legal = record { to = All-nil (MatchesOne (to_of bus.program tool)); from = All-nil (MatchesOne (from_of bus.program tool)) }
entry-matches origin bus tool (Gave lane out) h legal = record { to = All-nil (MatchesOne (to_of bus.program tool)); from = All-nil (MatchesOne (from_of bus.program tool)) }

trace-matches : (origin : Origin) (bus : Bus) (tool : List ℕ) (log : List Entry) → IsSorted origin bus → IsTrace bus log → EntriesMatch origin.program tool (told tool log) (heard tool log)
trace-matches origin bus tool [] h trace = record { to = All-nil (MatchesOne (to_of origin.program tool)); from = All-nil (MatchesOne (from_of origin.program tool)) }
trace-matches origin bus tool (entry ∷ log) h trace =
    let first = subst (λ (program : Program). EntriesMatch program tool (told_by tool entry) (heard_by tool entry)) h.program (entry-matches origin bus tool entry h trace.0) in
    let rest = trace-matches origin (after bus entry) tool log (sorted-next origin bus entry h trace.0) trace.1 in
    record {
      to = All-append (MatchesOne (to_of origin.program tool)) (told_by tool entry) (told tool log) first.to rest.to;
      from = All-append (MatchesOne (from_of origin.program tool)) (heard_by tool entry) (heard tool log) first.from rest.from;
    }

-- Each term that the tool receives by a trace matches a line that the tool may receive,
pub told-matches : (origin : Origin) (log : List Entry) (tool : List ℕ) (term : Term) → IsTrace (start origin) log → Contains (told tool log) term → MatchesOne (to_of origin.program tool) term
told-matches origin log tool term trace c = All-contains (MatchesOne (to_of origin.program tool)) (told tool log) term (trace-matches origin (start origin) tool log (sorted-start origin) trace).to c

-- and each term that the trace takes from it matches a line that a process may take.
pub heard-matches : (origin : Origin) (log : List Entry) (tool : List ℕ) (term : Term) → IsTrace (start origin) log → Contains (heard tool log) term → MatchesOne (from_of origin.program tool) term
heard-matches origin log tool term trace c = All-contains (MatchesOne (from_of origin.program tool)) (heard tool log) term (trace-matches origin (start origin) tool log (sorted-start origin) trace).from c
