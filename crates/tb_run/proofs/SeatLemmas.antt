-- How seats change over consecutive calls.
use Rattle.std.proofs.Common.{◌≡◌, ◌==◌, ℕ, List, [], ◌∷◌, ◌++◌, Bool, true, false, true≢false, ◌||◌, Some, Result, Ok, Err, refl, sym, ap, ◌∙◌, subst, append_assoc, append-nil, arith}
use Rattle.std.specs.Prelude.{is_ok}
use Rattle.std.proofs.lemmas.Bool.Decides.{nat_tests}
use Rattle.tb_log.specs.declared.entry.Input.{Input}
use Rattle.tb_log.specs.declared.entry.Reply.{Reply}
use Rattle.tb_log.specs.declared.entry.Reply.TheVariants.{Took, Dropped}
use Rattle.tb_log.specs.declared.entry.Why.TheVariants as why
use Rattle.tb_log.specs.declared.entry.Entry.{Entry}
use Rattle.tb_log.specs.declared.entry.Entry.TheVariants.{Fed}
use Rattle.tb_bus.specs.Buses.{start}
use Rattle.tb_bus.specs.Traces.{IsTrace}
use Rattle.tb_core.specs.declared.answers.CoreFault.{CoreFault}
use Rattle.tb_core.specs.declared.answers.CoreFault.TheVariants as fault
use Rattle.tb_core.specs.Cores.{CoreState, Call, HandIn, entries_of}
use Rattle.tb_core.specs.Full.{MayCall}
use Rattle.tb_lock.specs.declared.rights.Rights.{Rights}
use Rattle.tb_lock.specs.Rights.{AreAmong, has, own, right_to}
use Rattle.tb_lock.proofs.OwnLemmas.{not_false}
use Rattle.tb_lock.specs.Seats.{SeatView}
use Rattle.tb_lock.specs.Histories.{IsSparse}
use Rattle.tb_lock.specs.Calls.{Meets, Called, StopsBus, IsReply, noted, added}
use Rattle.tb_run.specs.declared.ends.WorkEnd.{WorkEnd}
use Rattle.tb_run.specs.declared.ends.WorkEnd.TheVariants as end
use Rattle.tb_run.specs.Dropping.{AreLetIn}
use Rattle.tb_run.specs.Workers.{LetIn}
use Rattle.tb_run.specs.Seats.{Adds, FoundFull, Marks, SameMarks, Stops, EndsWith, Ends, Hands}
use Rattle.tb_run.specs.Helpers.Working.{end_of}

-- the laws of the shared bus
abbrev pub SeenLaw : Type 0
SeenLaw = (old : SeatView) (core : CoreState) (entries : List Entry) (some : Rights) → Meets old core → AreAmong some old.rights → own some (noted old core entries).seen ≡ own some old.seen ++ own some entries

abbrev pub AddedLaw : Type 0
AddedLaw = (rights : Rights) (core : CoreState) (call : Call) → has rights (right_to call) ≡ true → own rights (entries_of core call) ≡ entries_of core call

pub same_number : (n : ℕ) → (n == n) ≡ true
same_number n = grind (arith, nat_tests)

pub adds_none : (seat : SeatView) → Adds seat seat []
adds_none seat = record {
  bus = refl;
  origin = refl;
  rights = refl;
  room = refl;
  rest = [];
  seen = sym (append-nil seat.seen);
  adds = sym (append-nil (own seat.rights seat.seen));
  trace = λ t. t;
  told = λ t. t;
}

pub adds_on : (a b c : SeatView) (xs ys : List Entry) → Adds a b xs → Adds b c ys → Adds a c (xs ++ ys)
adds_on a b c xs ys one two =
    let e : own a.rights c.seen ≡ own a.rights b.seen ++ ys = subst (λ (r : Rights). own r c.seen ≡ own r b.seen ++ ys) one.rights two.adds in
    record {
      bus = two.bus ∙ one.bus;
      origin = two.origin ∙ one.origin;
      rights = two.rights ∙ one.rights;
      room = two.room ∙ one.room;
      rest = one.rest ++ two.rest;
      seen = two.seen ∙ (ap (λ (s : List Entry). s ++ two.rest) one.seen ∙ append_assoc a.seen one.rest two.rest);
      adds = e ∙ (ap (λ (s : List Entry). s ++ ys) one.adds ∙ append_assoc (own a.rights a.seen) xs ys);
      trace = λ t. two.trace (one.trace t);
      told = λ t. two.told (one.told t);
    }

own_added : AddedLaw → (rights : Rights) (core : CoreState) (call : Call) → has rights (right_to call) ≡ true → {A : Type 0} (result : Result A CoreFault) → own rights (added result (entries_of core call)) ≡ added result (entries_of core call)
own_added law rights core call right (Ok answer) = law rights core call right
own_added law rights core call right (Err refused) = refl

pub adds_call : SeenLaw → AddedLaw → {A : Type 0} (finds : CoreState → A → Type 0) (call : Call) (old new : SeatView) (result : Result A CoreFault) → has old.rights (right_to call) ≡ true → (c : Called finds call old new result) → Adds old new (added result (entries_of c.core call))
adds_call seen_law added_law finds call old new result right c =
    let es : List Entry = added result (entries_of c.core call) in
    let origin : new.origin ≡ old.origin = ap (λ (s : SeatView). s.origin) c.seat in
    record {
      bus = ap (λ (s : SeatView). s.bus) c.seat;
      origin = origin;
      rights = ap (λ (s : SeatView). s.rights) c.seat;
      room = ap (λ (s : SeatView). s.room) c.seat;
      rest = c.meets.grows.rest ++ es;
      seen = ap (λ (s : SeatView). s.seen) c.seat ∙ (ap (λ (s : List Entry). s ++ es) c.meets.grows.is ∙ append_assoc old.seen c.meets.grows.rest es);
      adds = ap (λ (s : SeatView). own old.rights s.seen) c.seat
          ∙ (seen_law old c.core es old.rights c.meets (λ r h. h) ∙ ap (λ (s : List Entry). own old.rights old.seen ++ s) (own_added added_law old.rights c.core call right result));
      trace = λ _. record { trace = subst (λ o. IsTrace (start o) new.seen) (sym origin) c.trace; sparse = c.sparse };
      told = λ t. ap (λ (s : SeatView). s.told) c.seat ∙ ap (λ (b : Bool). b || c.core.stopped) t;
    }

adds_stop : SeenLaw → (old new : SeatView) → StopsBus old new → Adds old new []
adds_stop seen_law old new c =
    let origin : new.origin ≡ old.origin = ap (λ (s : SeatView). s.origin) c.seat in
    let seen : new.seen ≡ c.core.log = ap (λ (s : SeatView). s.seen) c.seat in
    record {
      bus = ap (λ (s : SeatView). s.bus) c.seat;
      origin = origin;
      rights = ap (λ (s : SeatView). s.rights) c.seat;
      room = ap (λ (s : SeatView). s.room) c.seat;
      rest = c.meets.grows.rest;
      seen = seen ∙ c.meets.grows.is;
      adds = ap (own old.rights) (seen ∙ sym (append-nil c.core.log)) ∙ seen_law old c.core [] old.rights c.meets (λ r h. h);
      trace = λ _. record {
        trace = subst (λ o. IsTrace (start o) new.seen) (sym origin) (subst (IsTrace (start old.origin)) (sym seen) c.meets.trace);
        sparse = subst (λ (s : List Entry). IsSparse s) (sym seen) c.meets.sparse;
      };
      told = λ t. ap (λ (s : SeatView). s.told) c.seat;
    }

pub stops_by : SeenLaw → (old new : SeatView) → StopsBus old new → Stops old new
stops_by seen_law old new c = record { adds = adds_stop seen_law old new c; called = ap (λ (s : SeatView). s.called) c.seat; told = ap (λ (s : SeatView). s.told) c.seat }

pub stops_on : (a b c : SeatView) → Adds a b [] → Stops b c → Stops a c
stops_on a b c adds stops = record { adds = adds_on a b c [] [] adds stops.adds; called = stops.called; told = stops.told }

pub marks_none : (seat : SeatView) → SameMarks seat seat
marks_none seat = (refl, refl)

pub marks_both : (a b c : SeatView) → SameMarks a b → SameMarks b c → SameMarks a c
marks_both a b c one two = (two.0 ∙ one.0, two.1 ∙ one.1)

pub marks_on : (a b c : SeatView) (it : WorkEnd) → SameMarks a b → Marks b c it → Marks a c it
marks_on a b c end.Over e m = (m.0 ∙ e.0, m.1 ∙ e.1)
marks_on a b c end.Down e m = (m.0 ∙ e.0, m.1 ∙ e.1)
marks_on a b c end.Stopped e m = (m.0 ∙ e.0, m.1)
marks_on a b c end.Full e m = m
marks_on a b c end.Failed e m = (m.0 ∙ e.0, m.1 ∙ e.1)
marks_on a b c end.NoMemory e m = m

-- a call that was answered meets a core that isn't stopped
or_not : (a b : Bool) → (b ≡ true → ⊥) → (a || b) ≡ a
or_not true b never = refl
or_not false b never = not_false b never

pub same_marks : {A : Type 0} (finds : CoreState → A → Type 0) (call : Call) (old new : SeatView) (answer : A) → Called finds call old new (Ok answer) → SameMarks old new
same_marks finds call old new answer c = (ap (λ (s : SeatView). s.called) c.seat, ap (λ (s : SeatView). s.told) c.seat ∙ or_not old.told c.core.stopped (λ e. true≢false (ap is_ok (c.stopped.1 e))))

pub both_marks : (old new : SeatView) → Stops old new → (new.called ≡ true) × (new.told ≡ true)
both_marks old new stops = (stops.called, stops.told)

pub let_in_both : (xs ys : List Entry) → AreLetIn xs → AreLetIn ys → AreLetIn (xs ++ ys)
let_in_both [] ys a b = b
let_in_both (x ∷ xs) ys a b = (a.0, let_in_both xs ys a.1 b)

pub let_in_on : (it : WorkEnd) (xs ys : List Entry) → AreLetIn xs → LetIn it ys → LetIn it (xs ++ ys)
let_in_on end.Over xs ys a b = let_in_both xs ys a b
let_in_on end.Down xs ys a b = (xs ++ b.0, b.1, ap (λ (s : List Entry). xs ++ s) b.2 ∙ sym (append_assoc xs b.0 (b.1 ∷ [])), let_in_both xs b.0 a b.3)
let_in_on end.Stopped xs ys a b = let_in_both xs ys a b
let_in_on end.Full xs ys a b = let_in_both xs ys a b
let_in_on end.Failed xs ys a b = let_in_both xs ys a b
let_in_on end.NoMemory xs ys a b = let_in_both xs ys a b

-- an input that was delivered
module _ (seen_law : SeenLaw) (added_law : AddedLaw) (input : Input) (old new : SeatView) where
  pub hands_ok : (reply : Reply) → has old.rights (right_to (HandIn input)) ≡ true → Called (IsReply input) (HandIn input) old new (Ok reply) → Hands input old new (end_of reply)
  hands_ok reply right c = go reply all last
    where
      all : Adds old new (Fed input reply ∷ [])
      all = subst (λ (r : Reply). Adds old new (Fed input r ∷ [])) (sym c.finds) (adds_call seen_law added_law (IsReply input) (HandIn input) old new (Ok reply) right c)

      called : SameMarks old new
      called = same_marks (IsReply input) (HandIn input) old new reply c

      last : EndsWith new (Fed input reply)
      last = (c.core.log, ap (λ (s : SeatView). s.seen) c.seat ∙ ap (λ (r : Reply). c.core.log ++ Fed input r ∷ []) (sym c.finds))

      go : (r : Reply) → Adds old new (Fed input r ∷ []) → EndsWith new (Fed input r) → Hands input old new (end_of r)
      go Took a l = (Took, a, called, refl)
      go (Dropped why.Unasked) a l = (Dropped why.Unasked, a, called, refl)
      go (Dropped why.NotLive) a l = (Dropped why.NotLive, a, called, refl)
      go (Dropped why.Named) a l = (Dropped why.Named, a, called, refl)
      go (Dropped why.Stranger) a l = (Dropped why.Stranger, a, called, refl)
      go (Dropped why.Bad) a l = (Dropped why.Bad, a, called, refl)
      go (Dropped why.Down) a l = (a, called, l)

-- what was seen before is no more than before other calls
pub found_on : (call : Call) (a b c : SeatView) (xs : List Entry) → Adds a b xs → FoundFull call b c → FoundFull call a c
found_on call a b c xs adds full = record {
  core = full.core;
  may = full.may;
  right = full.right;
  origin = full.origin;
  more = adds.rest ++ full.more;
  behind = full.behind ∙ (ap (λ (s : List Entry). s ++ full.more) adds.seen ∙ append_assoc a.seen adds.rest full.more);
  rest = full.rest;
  seen = full.seen;
  full = full.full;
}

-- what is left of a worker after a call that was refused, and after it stopped the bus
abbrev pub Refused : Call → SeatView → SeatView → WorkEnd → Type 0
Refused call old new end.Stopped = Adds old new [] × (new.called ≡ old.called) × (new.told ≡ true)
Refused call old new end.Full = Stops old new × FoundFull call old new
Refused call old new end.NoMemory = Stops old new
Refused call old new end.Over = ⊥
Refused call old new end.Down = ⊥
Refused call old new end.Failed = ⊥

or_true : (b : Bool) → (b || true) ≡ true
or_true true = refl
or_true false = refl

pub refused_by : SeenLaw → AddedLaw → {A : Type 0} (finds : CoreState → A → Type 0) (call : Call) (old mid new : SeatView) (f : CoreFault) (it : WorkEnd) → MayCall call → has old.rights (right_to call) ≡ true → Called finds call old mid (Err f) → Ends f mid new it → Refused call old new it
refused_by seen_law added_law finds call old mid new fault.Stopped it may right c e =
    let called : mid.called ≡ old.called = ap (λ (s : SeatView). s.called) c.seat in
    let told : mid.told ≡ true = ap (λ (s : SeatView). s.told) c.seat ∙ (ap (λ (b : Bool). old.told || b) (c.stopped.0 refl) ∙ or_true old.told) in
    subst (Refused call old new) (sym e.0) (subst (λ (n : SeatView). Refused call old n end.Stopped) (sym e.1) (adds_call seen_law added_law finds call old mid (Err fault.Stopped) right c, called, told))
refused_by seen_law added_law finds call old mid new fault.Full it may right c e =
    let full : FoundFull call old new = record {
      core = c.core;
      may = may;
      origin = c.meets.origin ∙ sym (e.1.adds.origin ∙ ap (λ (s : SeatView). s.origin) c.seat);
      more = c.meets.grows.rest;
      behind = c.meets.grows.is;
      rest = e.1.adds.rest;
      seen = e.1.adds.seen ∙ ap (λ (s : List Entry). s ++ e.1.adds.rest) (ap (λ (s : SeatView). s.seen) c.seat ∙ append-nil c.core.log);
      full = c.full refl;
      right = subst (λ (r : Rights). has r (right_to call) ≡ true) (sym (e.1.adds.rights ∙ ap (λ (s : SeatView). s.rights) c.seat)) right;
    } in
    subst (Refused call old new) (sym e.0) (stops_on old mid new (adds_call seen_law added_law finds call old mid (Err fault.Full) right c) e.1, full)
refused_by seen_law added_law finds call old mid new fault.NoMemory it may right c e =
    subst (Refused call old new) (sym e.0) (stops_on old mid new (adds_call seen_law added_law finds call old mid (Err fault.NoMemory) right c) e.1)

-- a worker after a refused call, as one that delivered an input
pub hands_err : (input : Input) (old new : SeatView) (it : WorkEnd) → Refused (HandIn input) old new it → Hands input old new (Some it)
hands_err input old new end.Stopped r = r
hands_err input old new end.Full r = r
hands_err input old new end.NoMemory r = r
hands_err input old new end.Over r = r
hands_err input old new end.Down r = absurd r
hands_err input old new end.Failed r = r
