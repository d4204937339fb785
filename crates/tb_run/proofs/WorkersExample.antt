-- The claims about each of the four workers, computed on the logs of two runs.
use Rattle.std.proofs.Common.{◌≡◌, ℕ, List, [], ◌∷◌, ◌++◌, inl, inr, refl, ap, sym, ◌∙◌, subst, arith, codes, false, true, Option, Some, None, Bool}
use Rattle.tb_edge.specs.declared.given.Given.{Given}
use Rattle.tb_edge.specs.declared.given.Taken.{Taken}
use Rattle.tb_edge.specs.Ends.{InletView}
use Rattle.tb_log.specs.declared.entry.Input.{Input}
use Rattle.tb_log.specs.declared.entry.Input.TheVariants as input
use Rattle.tb_log.specs.declared.entry.Reply.TheVariants.{Took, Dropped}
use Rattle.tb_log.specs.declared.entry.Why.TheVariants as why
use Rattle.tb_log.specs.declared.entry.Out.TheVariants as out
use Rattle.tb_log.specs.declared.entry.Entry.{Entry}
use Rattle.tb_log.specs.declared.entry.Entry.TheVariants.{Fed, Gave}
use Rattle.tb_log.specs.Lanes.{given_on}
use Rattle.tb_bus.specs.declared.origin.Origin.{Origin}
use Rattle.tb_bus.specs.Buses.{Bus}
use Rattle.tb_lock.specs.declared.rights.Rights.{Rights}
use Rattle.tb_lock.specs.Rights.{own, reader_rights, writer_rights, ticker_rights, stepper_rights}
use Rattle.tb_lock.specs.Seats.{SeatView, Idle, no_bus}
use Rattle.tb_run.specs.declared.ends.WorkEnd.{WorkEnd}
use Rattle.tb_run.specs.declared.ends.WorkEnd.TheVariants as end
use Rattle.tb_run.specs.Seats.{Adds}
use Rattle.tb_run.specs.Workers.{ReadsLane, WritesLane, TicksBus, StepsBus}
use Rattle.tb_run.proofs.BadLinesExample.{bad, departing, departing_log, departing-leads, departing-sparse, put_by_tool, put-lines}
use Rattle.tb_run.proofs.CutOffExample.{t, do_line, cutting, cutting_log, cutting-leads, cutting-sparse, cutting-done, taken_by_tool, taken-all}

-- a seat that has seen this, and has these marks
abbrev seat_of : Origin → Rights → List Entry → Bool → Bool → SeatView
seat_of origin rights log called told = record { bus = no_bus; origin = origin; seen = log; mine = []; rights = rights; room = 1; called = called; told = told; stage = Idle }

abbrev new_seat : Origin → Rights → SeatView
new_seat origin rights = seat_of origin rights [] false false

-- the seat of a worker of the one run and of the other, at its end
abbrev departed : Rights → SeatView
departed rights = seat_of departing rights departing_log false false

abbrev cut_off : Rights → SeatView
cut_off rights = seat_of cutting rights cutting_log false false

departed-adds : (rights : Rights) (more : List Entry) → own rights departing_log ≡ more → Adds (new_seat departing rights) (departed rights) more
departed-adds rights more e = record {
  bus = refl;
  origin = refl;
  rights = refl;
  room = refl;
  rest = departing_log;
  seen = refl;
  adds = e;
  trace = λ begun. record { trace = departing-leads.trace; sparse = departing-sparse };
  told = λ never. never;
}

cut-adds : (rights : Rights) (more : List Entry) → own rights cutting_log ≡ more → Adds (new_seat cutting rights) (cut_off rights) more
cut-adds rights more e = record {
  bus = refl;
  origin = refl;
  rights = refl;
  room = refl;
  rest = cutting_log;
  seen = refl;
  adds = e;
  trace = λ begun. record { trace = cutting-leads.trace; sparse = cutting-sparse };
  told = λ never. never;
}

abbrev told_of : List Given → Bool → Option InletView
told_of gives over = Some (record { gave = gives; over = over })

-- the reader of the lane
abbrev Read : List Given → Bool → WorkEnd → Type 0
Read gives over it = ReadsLane 1 (new_seat departing (reader_rights 1)) (departed (reader_rights 1)) (told_of [] false) (told_of gives over) it

read : Read put_by_tool true end.Over
read = record {
  more = bad ∷ bad ∷ bad ∷ Fed (input.Gone 1) Took ∷ [];
  adds = departed-adds (reader_rights 1) (bad ∷ bad ∷ bad ∷ Fed (input.Gone 1) Took ∷ []) refl;
  fed = put_by_tool;
  last = [];
  told = refl;
  lines = put-lines;
  lacks = refl;
  none = λ e. cc;
  let_in = (refl, (refl, (refl, (refl, tt))));
  marks = (refl, refl);
  ends = tt;
}

abbrev over_of : Option InletView → Bool
over_of None = false
over_of (Some view) = view.over

-- it ends before its inlet is over
none-read_early : (gives : List Given) → Read gives false end.Over → ⊥
none-read_early gives reads = let e : ◌≡◌ {A = Bool} false true = ap over_of reads.told in cc

-- the last entry
abbrev last_of : List Entry → Option Entry
last_of [] = None
last_of (entry ∷ []) = Some entry
last_of (entry ∷ other ∷ log) = last_of (other ∷ log)

last-is : (front : List Entry) (entry : Entry) → last_of (front ++ entry ∷ []) ≡ Some entry
last-is [] entry = refl
last-is (one ∷ []) entry = refl
last-is (one ∷ other ∷ front) entry = last-is (other ∷ front) entry

-- it says that the bus has shut down, and the last entry is no input of its lane
none-down : (gives : List Given) (over : Bool) → Read gives over end.Down → ⊥
none-down gives over reads =
    let it : Input = reads.ends.0 in
    let e : ◌≡◌ {A = Option Entry} (Some (Fed input.NoTicks (Dropped why.Down))) (Some (Fed it (Dropped why.Down))) = ap last_of reads.ends.2.1 ∙ last-is reads.ends.2.0 (Fed it (Dropped why.Down)) in
    let same : input.NoTicks ≡ it = cc in
    let on : ◌≡◌ {A = Option Input} None (Some input.NoTicks) = subst (λ (i : Input). given_on 1 i ≡ Some i) (sym same) reads.ends.1 in cc

-- it says that its clock failed, and it has none
none-failed : (gives : List Given) (over : Bool) → Read gives over end.Failed → ⊥
none-failed gives over reads = reads.ends

-- it says that the log was full or that there was no memory, and hasn't stopped the bus; or that the bus was stopped, though no call was
-- answered `Stopped`
none-full : (gives : List Given) (over : Bool) → Read gives over end.Full → ⊥
none-full gives over reads = let e : ◌≡◌ {A = Bool} false true = reads.marks.0 in cc

none-lost : (gives : List Given) (over : Bool) → Read gives over end.NoMemory → ⊥
none-lost gives over reads = let e : ◌≡◌ {A = Bool} false true = reads.marks.0 in cc

none-stopped : (gives : List Given) (over : Bool) → Read gives over end.Stopped → ⊥
none-stopped gives over reads = let e : ◌≡◌ {A = Bool} false true = reads.marks.1 in cc

-- it stopped the bus, though its inlet was over
none-stops : ReadsLane 1 (new_seat departing (reader_rights 1)) (seat_of departing (reader_rights 1) departing_log true true) (told_of [] false) (told_of put_by_tool true) end.Over → ⊥
none-stops reads = let e : ◌≡◌ {A = Bool} true false = reads.marks.0 in cc

-- the writer of the lane
abbrev Write : List Taken → ℕ → WorkEnd → Type 0
Write takes faults it = WritesLane 1 (new_seat cutting (writer_rights 1)) (cut_off (writer_rights 1)) (Some []) (Some takes) 0 faults it

abbrev handed_entries : List Entry
handed_entries =
    Gave 1 (out.Start t) ∷ Gave 1 (do_line (codes "a")) ∷ Gave 1 (do_line (codes "b")) ∷ Fed (input.Cut 1) Took ∷ Gave 1 out.End ∷ []

written : Write taken_by_tool 1 end.Down
written = record {
  more = handed_entries;
  adds = cut-adds (writer_rights 1) handed_entries refl;
  put = out.Start t ∷ do_line (codes "a") ∷ out.End ∷ [];
  last = [];
  handed = refl;
  told = ap (λ (takes : List Taken). Some takes) (sym taken-all);
  starts = refl;
  lacks = refl;
  rose = inl refl;
  counts = record { cuts = inl (omega arith); never_falls = omega arith; fits = λ less. omega arith };
  marks = (refl, refl);
  ends = (cutting-done.empty 1 (omega arith, omega arith), cutting-done.down);
}

-- it never says that its outlet is over, or that its clock failed
none-over : (takes : List Taken) (faults : ℕ) → Write takes faults end.Over → ⊥
none-over takes faults writes = writes.ends

-- the ticker
abbrev Tick : ℕ → Bool → ℕ → WorkEnd → Type 0
Tick count ended faults it =
    TicksBus (λ n. n ≡ 5) 5 (new_seat departing ticker_rights) (departed ticker_rights) (Some (record { ticks = 0; ended = false })) (Some (record { ticks = count; ended = ended })) 0 faults it

abbrev no_more : List Entry
no_more = Fed input.NoTicks (Dropped why.Down) ∷ []

ticked : Tick 0 true 0 end.Over
ticked = record {
  first = [];
  tail = no_more;
  adds = departed-adds ticker_rights no_more refl;
  ticks = tt;
  let_in = tt;
  last = 0;
  ended = true;
  told = refl;
  within = omega arith;
  lacks = refl;
  whole = λ e. refl;
  none = λ e. refl;
  marks = (refl, refl);
  never_falls = omega arith;
  faults = refl;
  ends = ((Dropped why.Down, refl), inl refl);
}

-- the clock failed, and its count of faults says so
ticked-failed : Tick 0 false 1 end.Failed
ticked-failed = record {
  first = [];
  tail = no_more;
  adds = departed-adds ticker_rights no_more refl;
  ticks = tt;
  let_in = tt;
  last = 0;
  ended = false;
  told = refl;
  within = omega arith;
  lacks = refl;
  whole = λ e. refl;
  none = λ e. refl;
  marks = (refl, refl);
  never_falls = omega arith;
  faults = inl (omega arith);
  ends = ((Dropped why.Down, refl), inl (omega arith));
}

none-unfailed : (count : ℕ) (ended : Bool) → Tick count ended 0 end.Failed → ⊥
none-unfailed count ended does = elim does.ends.1 [ inl less ↦ absurd (omega (arith, less)) | inr last ↦ absurd (omega (arith, last)) ]

-- the clock failed, and it says that it has ended
none-hidden : (count : ℕ) (ended : Bool) → Tick count ended 1 end.Over → ⊥
none-hidden count ended does = absurd (omega (arith, does.faults))

-- the stepper
stepped : StepsBus (new_seat departing stepper_rights) (departed stepper_rights) end.Down
stepped = record {
  more = own stepper_rights departing_log;
  adds = departed-adds stepper_rights (own stepper_rights departing_log) refl;
  marks = (refl, refl);
  ends = subst (λ (bus : Bus). bus.down ≡ true) (sym departing-leads.is) refl;
}
