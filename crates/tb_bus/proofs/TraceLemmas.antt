-- Traces and the buses to which they lead: one part after another, and the first of the steps.
use Rattle.std.proofs.Common.{◌≡◌, ℕ, List, [], ◌∷◌, ◌++◌, map, refl, ap, sym, ◌∙◌, subst, arith, Some, None, Bool, true, false, Contains, if◌then◌else◌}
use Rattle.tb_terms.specs.Same.{is_same}
use Rattle.tb_bus.specs.Buses.{Bus}
use Rattle.tb_bus.specs.Steps.{Move, Own, Handshake, Finish, Halt, Step, moves, steps, step_of, apply, first}
use Rattle.tb_log.specs.Shapes.{IsInputInShape, IsLane}
use Rattle.tb_log.specs.declared.entry.Out.{Out}
use Rattle.tb_tools.specs.Finding.{next_out}
use Rattle.tb_bus.specs.Traces.{IsTrace, after, after_step, replay, fed, took, taken_out, Answer}
use Rattle.tb_log.specs.contracts.entry.Label as label_row
use Rattle.tb_log.specs.declared.entry.Input.{Input}
use Rattle.tb_log.specs.declared.entry.Input.TheVariants.{Tick, NoTicks, Line, Gone, Cut}
use Rattle.tb_log.specs.declared.entry.Reply.{Reply}
use Rattle.tb_log.specs.declared.entry.Reply.TheVariants.{Dropped}
use Rattle.tb_log.specs.declared.entry.Why.TheVariants.{Down}
use Rattle.tb_log.specs.declared.entry.Entry.{Entry}
use Rattle.tb_log.specs.declared.entry.Entry.TheVariants.{Did, Quiet, Fed, Gave}
use Rattle.tb_terms.proofs.SameLemmas.{is_same-refl}
use Rattle.tb_bus.proofs.ChangeLemmas.{changed-program}

-- a log leads on from where its first part leads
pub replay-append : (bus : Bus) (xs ys : List Entry) → replay bus (xs ++ ys) ≡ replay (replay bus xs) ys
replay-append bus [] ys = refl
replay-append bus (x ∷ xs) ys = replay-append (after bus x) xs ys

-- and is a trace where its parts are
pub trace-append : (bus : Bus) (xs ys : List Entry) → IsTrace bus xs → IsTrace (replay bus xs) ys → IsTrace bus (xs ++ ys)
trace-append bus [] ys p q = q
trace-append bus (x ∷ xs) ys p q = (p.0, trace-append (after bus x) xs ys p.1 q)

-- each prefix of a trace is a trace
pub trace-prefix : (bus : Bus) (xs ys : List Entry) → IsTrace bus (xs ++ ys) → IsTrace bus xs
trace-prefix bus [] ys p = tt
trace-prefix bus (x ∷ xs) ys p = (p.0, trace-prefix (after bus x) xs ys p.1)

-- and what is left of it is one, from where the prefix leads
pub trace-rest : (bus : Bus) (xs ys : List Entry) → IsTrace bus (xs ++ ys) → IsTrace (replay bus xs) ys
trace-rest bus [] ys p = p
trace-rest bus (x ∷ xs) ys p = trace-rest (after bus x) xs ys p.1

steps-of : (bus : Bus) (ms : List Move) (move : Move) → first ms ≡ Some move → (rest : List Step) × (map (step_of bus) ms ≡ step_of bus move ∷ rest)
steps-of bus [] move e = absurd (let t : None ≡ Some move = e in cc)
steps-of bus (m ∷ ms) move e = let same : m ≡ move = cc in (map (step_of bus) ms, ap (λ n. step_of bus n ∷ map (step_of bus) ms) same)

steps-empty : (bus : Bus) (ms : List Move) → first ms ≡ None → map (step_of bus) ms ≡ []
steps-empty bus [] e = refl
steps-empty bus (m ∷ ms) e = cc

-- the first of the moves gives the first of the steps
pub steps-first : (bus : Bus) (move : Move) → first (moves bus) ≡ Some move → (rest : List Step) × (steps bus ≡ step_of bus move ∷ rest)
unfolding steps
steps-first bus move e = steps-of bus (moves bus) move e

pub steps-none : (bus : Bus) → first (moves bus) ≡ None → steps bus ≡ []
unfolding steps
steps-none bus e = steps-empty bus (moves bus) e

first-chosen : (bus : Bus) (step : Step) (rest : List Step) (b : Bool) → b ≡ true → (if b then step.bus else after_step bus step.label rest) ≡ step.bus
first-chosen bus step rest true e = refl
first-chosen bus step rest false e = cc

contains-first : {A : Type 0} (x : A) (xs : List A) → Contains (x ∷ xs) x
contains-first x xs = (0, omega arith, refl)

contains-by : {A : Type 0} (ys : List A) (x y : A) (xs : List A) → ys ≡ x ∷ xs → x ≡ y → Contains ys y
contains-by {A = A} ys x y xs e f = subst (λ (zs : List A). Contains zs y) (sym e) (subst (λ (z : A). Contains (x ∷ xs) z) f (contains-first x xs))

-- what the first step is seen as leads to its bus
pub after-first : (bus : Bus) (step : Step) (rest : List Step) → steps bus ≡ step ∷ rest → after bus (Did step.label) ≡ step.bus
after-first bus step rest e = ap (after_step bus step.label) e ∙ first-chosen bus step rest (is_same label_row.the_row.coded step.label step.label) (is_same-refl label_row.the_row.coded step.label)

pub legal-first : (bus : Bus) (step : Step) (rest : List Step) → steps bus ≡ step ∷ rest → IsTrace bus (Did step.label ∷ [])
legal-first bus step rest e = (
  contains-by (steps bus) step (record { label = step.label; bus = after_step bus step.label (steps bus) }) rest e
      (ap (λ (b : Bus). let s : Step = record { label = step.label; bus = b } in s) (sym (after-first bus step rest e))),
  tt,
)

-- that nothing was possible
pub legal-quiet : (bus : Bus) → steps bus ≡ [] → bus.down ≡ false → IsTrace bus (Quiet ∷ [])
legal-quiet bus e f = ((e, f, refl), tt)

-- an input in shape, with what became of it
pub legal-fed : (bus : Bus) (input : Input) (reply : Reply) → IsInputInShape input → reply ≡ (fed bus input).reply → IsTrace bus (Fed input reply ∷ [])
legal-fed bus input reply h e = ((h, ap (λ (r : Reply). let a : Answer = record { reply = r; bus = (fed bus input).bus } in a) e), tt)

-- the first that was to be handed out on a lane
pub legal-gave : (bus : Bus) (lane : ℕ) (out : Out) → IsLane lane → next_out lane bus.bench ≡ Some out → IsTrace bus (Gave lane out ∷ [])
legal-gave bus lane out l e = ((l, e, refl), tt)

-- and then it was
pub after-gave : (bus : Bus) (lane : ℕ) (out : Out) → after bus (Gave lane out) ≡ taken_out lane bus
after-gave bus lane out = refl

-- no move changes the program
pub apply-program : (bus : Bus) (move : Move) → (apply bus move).program ≡ bus.program
apply-program bus (Own proc offered effect) = changed-program effect.change proc.number bus
apply-program bus (Handshake sender sent receiver received terms binds) = refl
apply-program bus Finish = refl
apply-program bus Halt = refl

-- no input changes the program
fed-by : (bus : Bus) (input : Input) (down : Bool) → (let a : Answer = if down then record { reply = Dropped Down; bus = bus } else took bus input in a.bus.program) ≡ bus.program
fed-by bus input true = refl
fed-by bus Tick false = refl
fed-by bus NoTicks false = refl
fed-by bus (Line lane line) false = refl
fed-by bus (Gone lane) false = refl
fed-by bus (Cut lane) false = refl

pub fed-program : (bus : Bus) (input : Input) → (fed bus input).bus.program ≡ bus.program
fed-program bus input = fed-by bus input bus.down
