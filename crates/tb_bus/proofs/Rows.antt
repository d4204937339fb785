-- Worked scripts, computed from the definitions alone.
use Rattle.std.proofs.Common.{◌≡◌, ℕ, List, [], ◌∷◌, map, refl, ap, sym, ◌∙◌, subst, arith, codes, false, true, rules, Option, Some, None, Bool, Contains, if◌then◌else◌}
use Rattle.std.specs.Prelude.{◌≢◌, ⊤}
use Rattle.std.proofs.lemmas.Bool.{false_from_ne_true}
use Rattle.tb_terms.specs.declared.expr.Expr.{Expr, the_lemmas as expr_lemmas}
use Rattle.tb_terms.specs.declared.expr.Expr.TheVariants as expr
use Rattle.tb_terms.specs.declared.term.Term.{Term, the_lemmas as term_lemmas}
use Rattle.tb_terms.specs.declared.term.Term.TheVariants as term
use Rattle.tb_terms.specs.contracts.term.Term as term_row
use Rattle.tb_terms.specs.declared.pattern.Pattern.{Pattern, the_lemmas as pattern_lemmas}
use Rattle.tb_terms.specs.declared.pattern.Pattern.TheVariants as pattern
use Rattle.tb_terms.specs.declared.sort.Sort.{the_lemmas as sort_lemmas}
use Rattle.tb_terms.specs.declared.sort.Sort.TheVariants as sort
use Rattle.tb_terms.specs.Same.{is_same, is_same_term}
use Rattle.tb_terms.specs.Sizes.{is_within_limits}
use Rattle.tb_body.specs.declared.tree.Tree.{the_lemmas as tree_lemmas}
use Rattle.tb_body.specs.declared.tree.Tree.TheVariants as tree
use Rattle.tb_body.specs.declared.act.Act.{Act}
use Rattle.tb_body.specs.declared.act.Act.TheVariants as act
use Rattle.tb_body.specs.declared.atom.Atom.{Atom}
use Rattle.tb_body.specs.declared.body.Body.{Body}
use Rattle.tb_body.specs.declared.program.Program.{Program}
use Rattle.tb_body.specs.declared.program.Root.{Root}
use Rattle.tb_body.specs.InRange.{is_body_in_range}
use Rattle.tb_body.specs.Programs.{is_program_in_range}
use Rattle.tb_process_steps.specs.Processes.{Process, At, Seq, Alt, fresh}
use Rattle.tb_process_steps.specs.Atoms.{values_together, patterns_of}
use Rattle.tb_match.specs.Matches.{match_list}
use Rattle.tb_notes.specs.Inboxes.{Held, nothing}
use Rattle.tb_tools.specs.Lanes.{opening}
use Rattle.tb_bus.specs.declared.origin.Origin.{Origin}
use Rattle.tb_bus.specs.Buses.{Bus, Proc, start}
use Rattle.tb_bus.specs.Steps.{Step, steps, moves, moves_of_all, moves_of, handshakes, handshakes_with, advance, first}
use Rattle.tb_bus.specs.Traces.{IsTrace, after, after_step}
use Rattle.tb_log.specs.declared.entry.Entry.{Entry}
use Rattle.tb_log.specs.declared.entry.Entry.TheVariants.{Did}
use Rattle.tb_log.specs.declared.entry.Label.{Label}
use Rattle.tb_log.specs.declared.entry.LabelKind.{LabelKind}
use Rattle.tb_log.specs.declared.entry.LabelKind.TheVariants as kind
use Rattle.tb_log.specs.contracts.entry.Label as label_row
use Rattle.tb_bus.proofs.TraceLemmas.{after-first, legal-first}
use Rattle.tb_terms.proofs.SameLemmas.{is_same-refl, is_same-sound}

-- a step by itself, seen as this
abbrev pub seen : LabelKind → ℕ → ℕ → List Term → Label
seen kind proc atom terms = record { kind = kind; from = record { proc = proc; atom = atom }; to = record { proc = 0; atom = 0 }; terms = terms }

abbrev pub finish : Label
finish = seen kind.Finish 0 0 []

-- from this bus the first step, again and again, makes these labels
abbrev pub FirstSteps : Bus → List Label → Type 0
FirstSteps bus [] = ⊤
FirstSteps bus (label ∷ labels) = (next : Bus) × (first (steps bus) ≡ Some (record { label = label; bus = next })) × FirstSteps next labels

first-cons : {A : Type 0} (xs : List A) (x : A) → first xs ≡ Some x → (rest : List A) × (xs ≡ x ∷ rest)
first-cons {A = A} [] x e = absurd (let t : ◌≡◌ {A = Option A} None (Some x) = e in cc)
first-cons (y ∷ xs) x e = let same : y ≡ x = cc in (xs, ap (λ z. z ∷ xs) same)

-- such labels are a trace
pub first-steps-trace : (bus : Bus) (labels : List Label) → FirstSteps bus labels → IsTrace bus (map Did labels)
first-steps-trace bus [] h = tt
first-steps-trace bus (label ∷ labels) h =
    let step : Step = record { label = label; bus = h.0 } in
    let c = first-cons (steps bus) step h.1 in
    ((legal-first bus step c.0 c.1).0, subst (λ b. IsTrace b (map Did labels)) (sym (after-first bus step c.0 c.1)) (first-steps-trace h.0 labels h.2))

skipped : (bus : Bus) (label : Label) (one two : Step) (rest : List Step) (b : Bool) → b ≡ false → after_step bus label (two ∷ rest) ≡ two.bus →
    (if b then one.bus else after_step bus label (two ∷ rest)) ≡ two.bus
skipped bus label one two rest true e f = cc
skipped bus label one two rest false e f = f

chosen : (bus : Bus) (two : Step) (rest : List Step) (b : Bool) → b ≡ true → (if b then two.bus else after_step bus two.label rest) ≡ two.bus
chosen bus two rest true e = refl
chosen bus two rest false e = cc

-- where two steps are seen apart, the second may be made as well
pub second-step-trace : (bus : Bus) (one two : Step) (rest : List Step) (log : List Entry) → steps bus ≡ one ∷ two ∷ rest → one.label ≢ two.label → IsTrace two.bus log → IsTrace bus (Did two.label ∷ log)
second-step-trace bus one two rest log e differ t =
    let apart : is_same label_row.the_row.coded two.label one.label ≡ false = false_from_ne_true _ (λ s. differ (sym (is_same-sound label_row.the_row.coded two.label one.label s))) in
    let next : after bus (Did two.label) ≡ two.bus =
    ap (after_step bus two.label) e
    ∙ skipped bus two.label one two rest (is_same label_row.the_row.coded two.label one.label) apart
    (chosen bus two rest (is_same label_row.the_row.coded two.label two.label) (is_same-refl label_row.the_row.coded two.label)) in
    let there : Contains (one ∷ two ∷ rest) two = (1, omega arith, refl) in (
      subst (λ (ss : List Step). Contains ss (record { label = two.label; bus = after bus (Did two.label) })) (sym e)
          (subst (λ (b : Bus). Contains (one ∷ two ∷ rest) (record { label = two.label; bus = b })) (sym next) there),
      subst (λ b. IsTrace b log) (sym next) t,
    )

-- an atom that has no times
abbrev pub plain : Act → Atom
plain a = record { act = a; times = [] }

-- a process that starts without actuals
abbrev pub root : ℕ → Root
root process = record { process = process; actuals = [] }

-- it stands at this term, has no variables, and holds these
abbrev pub at : ℕ → ℕ → Process → Held → Proc
at number body term held = record { number = number; body = body; term = term; store = []; inbox = held }

-- a bus that is up, and has created nobody
abbrev pub bus_of : Program → List Proc → ℕ → ℕ → Bus
bus_of program procs last next = record { program = program; procs = procs; now = 0; last_starter = last; next_number = next; no_ticks = false; down = false; bench = opening [] }

-- `tau + tau`
pub choice-in_range : is_body_in_range (tree.Alt (tree.At 1) (tree.At 2)) (plain act.Tau ∷ plain act.Tau ∷ []) [] 0 ≡ true
unfolding is_body_in_range
choice-in_range = search (rules, tree_lemmas)

abbrev pub choice : Body
choice = record { tree = tree.Alt (tree.At 1) (tree.At 2); atoms = plain act.Tau ∷ plain act.Tau ∷ []; sorts = []; formals = 0; in_range = choice-in_range }

pub either-in_range : is_program_in_range (choice ∷ []) (root 0 ∷ []) [] ≡ true
unfolding is_program_in_range
either-in_range = refl

-- `process P is tau + tau toolbus(P)`
abbrev pub either : Origin
either = record { program = record { bodies = choice ∷ []; roots = root 0 ∷ []; tools = []; in_range = either-in_range }; connects = []; limit = 1000000 }

fresh-choice : fresh (tree.Alt (tree.At 1) (tree.At 2)) ≡ Alt (At 1 0) (At 2 0)
fresh-choice = search (rules, tree_lemmas)

-- what is left once a tau was made
abbrev gone : Bus
gone = bus_of either.program [] 1 2

finishes : FirstSteps gone (finish ∷ [])
unfolding steps moves moves_of_all moves_of handshakes handshakes_with advance
finishes = (_, refl, tt)

either-steps : steps (bus_of either.program (at 1 0 (Alt (At 1 0) (At 2 0)) nothing ∷ []) 0 2) ≡
    record { label = seen kind.Tau 1 1 []; bus = gone } ∷ record { label = seen kind.Tau 1 2 []; bus = gone } ∷ []
unfolding steps moves moves_of_all moves_of handshakes handshakes_with advance
either-steps = refl

-- a trace needn't make the first of the steps
pub second_of_two : IsTrace (start either) (Did (seen kind.Tau 1 2 []) ∷ Did finish ∷ [])
second_of_two =
    subst (λ (term : Process). IsTrace (bus_of either.program (at 1 0 term nothing ∷ []) 0 2) (Did (seen kind.Tau 1 2 []) ∷ Did finish ∷ [])) (sym fresh-choice)
    (second-step-trace (bus_of either.program (at 1 0 (Alt (At 1 0) (At 2 0)) nothing ∷ []) 0 2)
    (record { label = seen kind.Tau 1 1 []; bus = gone }) (record { label = seen kind.Tau 1 2 []; bus = gone }) [] (Did finish ∷ [])
    either-steps
    (λ e. let atoms : ◌≡◌ {A = ℕ} 1 2 = ap (λ (label : Label). label.from.atom) e in absurd (omega arith))
    (first-steps-trace gone (finish ∷ []) finishes))

-- a name without arguments: as an expression, as a term, and as a pattern; and any term
abbrev pub word : List ℕ → List Expr
word name = expr.Appl name [] ∷ []

abbrev pub words : List ℕ → List Term
words name = term.Appl name [] ∷ []

abbrev pub fixed : List ℕ → List Pattern
fixed name = pattern.Fixed (term.Appl name []) ∷ []

abbrev pub any : List Expr
any = expr.Hole sort.Any ∷ []

abbrev pub all : List Pattern
all = pattern.Hole sort.Any ∷ []

a-sent : values_together [] (word (codes "a")) ≡ Some (words (codes "a"))
unfolding is_within_limits
a-sent = search (rules, expr_lemmas, term_lemmas)

b-sent : values_together [] (word (codes "b")) ≡ Some (words (codes "b"))
unfolding is_within_limits
b-sent = search (rules, expr_lemmas, term_lemmas)

a-wanted : patterns_of [] (word (codes "a")) ≡ Some (fixed (codes "a"))
unfolding is_within_limits
a-wanted = search (rules, expr_lemmas, term_lemmas, pattern_lemmas)

b-wanted : patterns_of [] (word (codes "b")) ≡ Some (fixed (codes "b"))
unfolding is_within_limits
b-wanted = search (rules, expr_lemmas, term_lemmas, pattern_lemmas)

all-wanted : patterns_of [] any ≡ Some all
all-wanted = search (rules, expr_lemmas, pattern_lemmas)

same-term : (t : Term) → is_same_term t t ≡ true
same-term t = is_same-refl term_row.the_row.coded t

fixed-matches : (name : List ℕ) → match_list (fixed name) (words name) ≡ Some []
fixed-matches name = search (rules, pattern_lemmas, same-term)

one-code : (n m : ℕ) → term.Appl (n ∷ []) [] ≡ term.Appl (m ∷ []) [] → n ≡ m
one-code n m e = search (rules, term_lemmas)

apart : is_same_term (term.Appl (codes "b") []) (term.Appl (codes "a") []) ≡ false
apart = false_from_ne_true (is_same_term (term.Appl (codes "b") []) (term.Appl (codes "a") []))
    (λ e. let same = is_same-sound term_row.the_row.coded (term.Appl (codes "b") []) (term.Appl (codes "a") []) e in
    let code : ◌≡◌ {A = ℕ} 98 97 = one-code 98 97 same in absurd (omega arith))

b-misses : match_list (fixed (codes "b")) (words (codes "a")) ≡ None
b-misses = search (rules, pattern_lemmas, apart)

-- any term matches
all-matches : (name : List ℕ) → match_list all (words name) ≡ Some []
all-matches name = search (rules, pattern_lemmas, sort_lemmas, term_lemmas)

-- `subscribe(<term>) . rec-note(b) . rec-note(a) . no-note(<term>)`
abbrev pub taking : List Atom
taking = plain (act.Subscribe any) ∷ plain (act.RecNote (word (codes "b"))) ∷ plain (act.RecNote (word (codes "a"))) ∷ plain (act.NoNote any) ∷ []

-- `snd-note(a) . snd-note(b)`
abbrev pub giving : List Atom
giving = plain (act.SndNote (word (codes "a"))) ∷ plain (act.SndNote (word (codes "b"))) ∷ []

pub taker-in_range : is_body_in_range (tree.Seq (tree.At 1) (tree.Seq (tree.At 2) (tree.Seq (tree.At 3) (tree.At 4)))) taking [] 0 ≡ true
unfolding is_body_in_range
taker-in_range = search (rules, tree_lemmas, expr_lemmas)

pub giver-in_range : is_body_in_range (tree.Seq (tree.At 1) (tree.At 2)) giving [] 0 ≡ true
unfolding is_body_in_range
giver-in_range = search (rules, tree_lemmas, expr_lemmas)

abbrev pub taker : Body
taker = record { tree = tree.Seq (tree.At 1) (tree.Seq (tree.At 2) (tree.Seq (tree.At 3) (tree.At 4))); atoms = taking; sorts = []; formals = 0; in_range = taker-in_range }

abbrev pub giver : Body
giver = record { tree = tree.Seq (tree.At 1) (tree.At 2); atoms = giving; sorts = []; formals = 0; in_range = giver-in_range }

pub noted-in_range : is_program_in_range (taker ∷ giver ∷ []) (root 0 ∷ root 1 ∷ []) [] ≡ true
unfolding is_program_in_range
noted-in_range = refl

-- `process A is subscribe(<term>) . rec-note(b) . rec-note(a) . no-note(<term>) process D is snd-note(a) . snd-note(b) toolbus(A, D)`
abbrev pub noted : Origin
noted = record { program = record { bodies = taker ∷ giver ∷ []; roots = root 0 ∷ root 1 ∷ []; tools = []; in_range = noted-in_range }; connects = []; limit = 1000000 }

fresh-taker : fresh taker.tree ≡ Seq (At 1 0) (Seq (At 2 0) (Seq (At 3 0) (At 4 0)))
fresh-taker = search (rules, tree_lemmas)

fresh-giver : fresh giver.tree ≡ Seq (At 1 0) (At 2 0)
fresh-giver = search (rules, tree_lemmas)

-- what the taker holds: it wants all, and these wait
abbrev waiting : List (List Term) → Held
waiting notes = record { subscriptions = all ∷ []; notes = notes }

abbrev noted_of : List Proc → ℕ → Bus
noted_of procs last = bus_of noted.program procs last 3

abbrev pub noted_labels : List Label
noted_labels =
    seen kind.Subscribe 1 1 []
    ∷ seen kind.SndNote 2 1 (words (codes "a"))
    ∷ seen kind.SndNote 2 2 (words (codes "b"))
    ∷ seen kind.RecNote 1 2 (words (codes "b"))
    ∷ seen kind.RecNote 1 3 (words (codes "a"))
    ∷ seen kind.NoNote 1 4 []
    ∷ finish ∷ []

noted-runs : FirstSteps (noted_of (at 1 0 (Seq (At 1 0) (Seq (At 2 0) (Seq (At 3 0) (At 4 0)))) nothing ∷ at 2 1 (Seq (At 1 0) (At 2 0)) nothing ∷ []) 0) noted_labels
unfolding steps moves moves_of_all moves_of handshakes handshakes_with advance
noted-runs = (
  noted_of (at 1 0 (Seq (At 2 0) (Seq (At 3 0) (At 4 0))) (waiting []) ∷ at 2 1 (Seq (At 1 0) (At 2 0)) nothing ∷ []) 1,
  simp (all-wanted, a-sent),
  (
    noted_of (at 1 0 (Seq (At 2 0) (Seq (At 3 0) (At 4 0))) (waiting (words (codes "a") ∷ [])) ∷ at 2 1 (At 2 0) nothing ∷ []) 2,
    simp (b-wanted, a-sent, all-matches),
    (
      noted_of (at 1 0 (Seq (At 2 0) (Seq (At 3 0) (At 4 0))) (waiting (words (codes "a") ∷ words (codes "b") ∷ [])) ∷ []) 2,
      simp (b-wanted, b-misses, b-sent, all-matches),
      (
        noted_of (at 1 0 (Seq (At 3 0) (At 4 0)) (waiting (words (codes "a") ∷ [])) ∷ []) 1,
        simp (b-wanted, b-misses, fixed-matches),
        (
          noted_of (at 1 0 (At 4 0) (waiting []) ∷ []) 1,
          simp (a-wanted, fixed-matches),
          (noted_of [] 1, simp all-wanted, (_, refl, tt)),
        ),
      ),
    ),
  ),
)

-- notes may be taken in another order than they came
pub notes_are_taken : IsTrace (start noted) (map Did noted_labels)
notes_are_taken =
    subst (λ (term : Process). IsTrace (noted_of (at 1 0 term nothing ∷ at 2 1 (fresh giver.tree) nothing ∷ []) 0) (map Did noted_labels)) (sym fresh-taker)
    (subst (λ (term : Process). IsTrace (noted_of (at 1 0 (Seq (At 1 0) (Seq (At 2 0) (Seq (At 3 0) (At 4 0)))) nothing ∷ at 2 1 term nothing ∷ []) 0) (map Did noted_labels)) (sym fresh-giver)
    (first-steps-trace (noted_of (at 1 0 (Seq (At 1 0) (Seq (At 2 0) (Seq (At 3 0) (At 4 0)))) nothing ∷ at 2 1 (Seq (At 1 0) (At 2 0)) nothing ∷ []) 0) noted_labels noted-runs))
