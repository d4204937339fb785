-- The result of a writer, item by item.
use Rattle.std.proofs.Common.{◌≡◌, ◌==◌, ◌≤◌, ◌<◌, ◌+◌, ◌^◌, ℕ, zero, suc, List, [], ◌∷◌, ◌++◌, map, Bool, true, false, not, ◌&&◌, Option, Some, None, Ok, MatchOption, if◌then◌else◌, refl, sym, ap, ◌∙◌, subst, inl, inr, ⊎_elim, append_assoc, append-nil, arith}
use Rattle.std.specs.Prelude.{option_to_list, Result, Err, OnOk, OnErr}
use Rattle.std.specs.List.{All}
use Rattle.std.proofs.lemmas.List.{map-append}
use Rattle.tb_edge.specs.Faults.{Rose}
use Rattle.tb_edge.specs.Ends.{and_taken}
use Rattle.tb_edge.specs.declared.given.Taken.{Taken}
use Rattle.tb_log.specs.declared.entry.Input.TheVariants as input
use Rattle.tb_log.specs.declared.entry.Reply.{Reply}
use Rattle.tb_log.specs.declared.entry.Out.{Out}
use Rattle.tb_log.specs.declared.entry.Entry.{Entry}
use Rattle.tb_log.specs.declared.entry.Entry.TheVariants.{Did, Quiet, Fed, Gave}
use Rattle.tb_log.specs.Lanes.{sent, cuts, is_cut_off}
use Rattle.tb_log.specs.Shapes.{InShape, IsOutInShape}
use Rattle.tb_tool_line.specs.Sending.{taken_of}
use Rattle.tb_tool_line.specs.declared.send.SendFault.{SendFault}
use Rattle.tb_bus.specs.Buses.{Bus, start}
use Rattle.tb_bus.specs.Traces.{IsTrace, replay}
use Rattle.tb_bus.specs.declared.origin.Origin.{Origin}
use Rattle.tb_tools.specs.Finding.{next_out}
use Rattle.tb_core.specs.declared.answers.TakeOut.{TakeOut}
use Rattle.tb_core.specs.declared.answers.TakeOut.TheVariants as taken
use Rattle.tb_core.specs.Cores.{CoreState, HandIn, HandOut, bus_now, entries_of, out_entry}
use Rattle.tb_core.specs.Cores as cores
use Rattle.tb_lock.specs.Seats.{SeatView}
use Rattle.tb_lock.specs.Rights.{has, right_to}
use Rattle.tb_lock.specs.Calls.{Called, IsTaken}
use Rattle.tb_run.specs.declared.ends.WorkEnd.{WorkEnd}
use Rattle.tb_run.specs.declared.ends.WorkEnd.TheVariants as end
use Rattle.tb_run.specs.Seats.{Adds, Marks, SameMarks}
use Rattle.tb_run.specs.Workers.{WritesLane, Counts, CountsTo, cut_count, MayLack, WriterEnds, bus_of}
use Rattle.tb_run.specs.Helpers.Working.{Writes, CutsOff, Fails, PutsIt, Puts}
use Rattle.tb_run.proofs.SeatLemmas.{SeenLaw, AddedLaw, Refused, marks_both, marks_on, both_marks, same_marks, adds_on, adds_call, found_on, same_number}

-- what was taken in two parts
pub and_taken_on : (told : Option (List Taken)) (xs ys : List Taken) → and_taken (and_taken told xs) ys ≡ and_taken told (xs ++ ys)
and_taken_on None xs ys = refl
and_taken_on (Some taken) xs ys = ap (λ (t : List Taken). Some t) (append_assoc taken xs ys)

pub and_taken_none : (told : Option (List Taken)) → and_taken told [] ≡ told
and_taken_none None = refl
and_taken_none (Some taken) = ap (λ (t : List Taken). Some t) (append-nil taken)

-- what is cut off in two parts of a log, of which the second begins with no cut
pub cut_off_append : (lane : ℕ) (log more : List Entry) → is_cut_off more lane ≡ false → is_cut_off (log ++ more) lane ≡ is_cut_off log lane
cut_off_append lane [] more e = e
cut_off_append lane (Did label ∷ log) more e = cut_off_append lane log more e
cut_off_append lane (Quiet ∷ log) more e = cut_off_append lane log more e
cut_off_append lane (Fed it reply ∷ log) more e = ap (λ (b : Bool). if cuts lane it then true else b) (cut_off_append lane log more e)
cut_off_append lane (Gave at out ∷ log) more e = ap (λ (b : Bool). if at == lane then false else b) (cut_off_append lane log more e)

put_before : (b : Bool) (out : Out) (xs ys : List Out) → (if b then out ∷ (xs ++ ys) else (xs ++ ys)) ≡ (if b then out ∷ xs else xs) ++ ys
put_before true out xs ys = refl
put_before false out xs ys = refl

pub sent_append : (lane : ℕ) (log more : List Entry) → is_cut_off more lane ≡ false → sent (log ++ more) lane ≡ sent log lane ++ sent more lane
sent_append lane [] more e = refl
sent_append lane (Did label ∷ log) more e = sent_append lane log more e
sent_append lane (Quiet ∷ log) more e = sent_append lane log more e
sent_append lane (Fed it reply ∷ log) more e = sent_append lane log more e
sent_append lane (Gave at out ∷ log) more e =
    ap (λ (b : Bool). if (at == lane) && not b then out ∷ sent (log ++ more) lane else sent (log ++ more) lane) (cut_off_append lane log more e)
    ∙ (ap (λ (s : List Out). if (at == lane) && not (is_cut_off log lane) then out ∷ s else s) (sent_append lane log more e)
    ∙ put_before ((at == lane) && not (is_cut_off log lane)) out (sent log lane) (sent more lane))

count_on : (b : Bool) (m n : ℕ) → (if b then m + n + 1 else m + n) ≡ (if b then m + 1 else m) + n
count_on true m n = omega arith
count_on false m n = refl

pub cut_count_append : (lane : ℕ) (log more : List Entry) → cut_count lane (log ++ more) ≡ cut_count lane log + cut_count lane more
cut_count_append lane log more = search (Rattle.std.proofs.lemmas.Grind.common_steps)

pub counts_none : (faults : ℕ) → Counts faults faults 0
counts_none faults = record { cuts = inl (omega arith); never_falls = omega arith; fits = λ h. h }

pub counts_on : (a b c m n : ℕ) → Counts a b m → Counts b c n → Counts a c (m + n)
counts_on a b c m n one two = record {
  cuts = go one.cuts two.cuts;
  never_falls = let p = one.never_falls in let q = two.never_falls in omega arith;
  fits = λ h. two.fits (one.fits h);
}
  where
    go : CountsTo a b m → CountsTo b c n → CountsTo a c (m + n)
    go (inl p) (inl q) = inl (omega arith)
    go (inl p) (inr q) = inr q
    go (inr p) q = inr (let low = two.never_falls in let high = two.fits (omega arith) in omega arith)

-- one item: written, or sent and cut off
module _ (lane : ℕ) (out : Out) where
  pub sent_one : sent (Gave lane out ∷ []) lane ≡ out ∷ []
  sent_one = ap (λ (b : Bool). if b && true then out ∷ [] else []) (same_number lane)

  pub one_starts : is_cut_off (Gave lane out ∷ []) lane ≡ false
  one_starts = ap (λ (b : Bool). if b then false else false) (same_number lane)

  cut_here : (reply : Reply) → is_cut_off (Fed (input.Cut lane) reply ∷ []) lane ≡ true
  cut_here reply = ap (λ (b : Bool). if b then true else false) (same_number lane)

  pub sent_cut : (reply : Reply) → sent (Gave lane out ∷ Fed (input.Cut lane) reply ∷ []) lane ≡ []
  sent_cut reply =
      ap (λ (b : Bool). if (lane == lane) && not b then out ∷ [] else []) (cut_here reply)
      ∙ ap (λ (b : Bool). if b && false then out ∷ [] else []) (same_number lane)

  pub cut_starts : (reply : Reply) → is_cut_off (Gave lane out ∷ Fed (input.Cut lane) reply ∷ []) lane ≡ false
  cut_starts reply = ap (λ (b : Bool). if b then false else is_cut_off (Fed (input.Cut lane) reply ∷ []) lane) (same_number lane)

  pub one_cut : (reply : Reply) → cut_count lane (Gave lane out ∷ Fed (input.Cut lane) reply ∷ []) ≤ 1
  one_cut reply = let h = go (lane == lane) in omega (arith, h)
    where
      go : (b : Bool) → (if b then 1 else 0) ≤ 1
      go true = omega arith
      go false = omega arith

pub writes_none : (lane : ℕ) (old new : SeatView) (told : Option (List Taken)) (faults : ℕ) → Adds old new [] → SameMarks old new → Writes lane old new told told faults faults
writes_none lane old new told faults adds marks = record { more = []; adds = adds; told = sym (and_taken_none told); starts = refl; counts = counts_none faults; marks = marks }

module _ (lane : ℕ) (a b c : SeatView) (told_a told_b told_c : Option (List Taken)) (faults_a faults_b faults_c : ℕ) where
  pub writes_on : Writes lane a b told_a told_b faults_a faults_b → Writes lane b c told_b told_c faults_b faults_c → Writes lane a c told_a told_c faults_a faults_c
  writes_on one two = record {
    more = one.more ++ two.more;
    adds = adds_on a b c one.more two.more one.adds two.adds;
    told = two.told
        ∙ (ap (λ (t : Option (List Taken)). and_taken t (map taken_of (sent two.more lane))) one.told
        ∙ (and_taken_on told_a (map taken_of (sent one.more lane)) (map taken_of (sent two.more lane))
        ∙ ap (and_taken told_a) (sym (map-append taken_of (sent one.more lane) (sent two.more lane)) ∙ ap (map taken_of) (sym (sent_append lane one.more two.more two.starts)))));
    starts = cut_off_append lane one.more two.more two.starts ∙ one.starts;
    counts = subst (Counts faults_a faults_c) (sym (cut_count_append lane one.more two.more)) (counts_on faults_a faults_b faults_c (cut_count lane one.more) (cut_count lane two.more) one.counts two.counts);
    marks = marks_both a b c one.marks two.marks;
  }

  rose_on : faults_a ≤ faults_b → Rose faults_b faults_c → Rose faults_a faults_c
  rose_on low (inl up) = inl (omega arith)
  rose_on low (inr top) = inr top

  ends_on : (it : WorkEnd) (last : List Out) (xs : List Entry) → Adds a b xs → WriterEnds lane last b c it → WriterEnds lane last a c it
  ends_on end.Over last xs adds e = e
  ends_on end.Down last xs adds e = e
  ends_on end.Stopped last xs adds e = e
  ends_on end.Full last xs adds (inl e) = inl (e.0, found_on (HandOut lane) a b c xs adds e.1)
  ends_on end.Full last xs adds (inr e) = inr (e.0, e.1, found_on (HandIn (input.Cut lane)) a b c xs adds e.2)
  ends_on end.Failed last xs adds e = e
  ends_on end.NoMemory last xs adds e = e

  pub writes_end : (it : WorkEnd) → Writes lane a b told_a told_b faults_a faults_b → WritesLane lane b c told_b told_c faults_b faults_c it → WritesLane lane a c told_a told_c faults_a faults_c it
  writes_end it one two = record {
    more = one.more ++ two.more;
    adds = adds_on a b c one.more two.more one.adds two.adds;
    put = sent one.more lane ++ two.put;
    last = two.last;
    handed = sent_append lane one.more two.more two.starts ∙ (ap (λ (s : List Out). sent one.more lane ++ s) two.handed ∙ sym (append_assoc (sent one.more lane) two.put two.last));
    told = two.told
        ∙ (ap (λ (t : Option (List Taken)). and_taken t (map taken_of two.put)) one.told
        ∙ (and_taken_on told_a (map taken_of (sent one.more lane)) (map taken_of two.put)
        ∙ ap (and_taken told_a) (sym (map-append taken_of (sent one.more lane) two.put))));
    starts = cut_off_append lane one.more two.more two.starts ∙ one.starts;
    lacks = two.lacks;
    rose = ⊎_elim (λ e. inl e) (λ r. inr (rose_on one.counts.never_falls r)) two.rose;
    counts = subst (Counts faults_a faults_c) (sym (cut_count_append lane one.more two.more)) (counts_on faults_a faults_b faults_c (cut_count lane one.more) (cut_count lane two.more) one.counts two.counts);
    marks = marks_on a b c it one.marks two.marks;
    ends = ends_on it two.last one.more one.adds two.ends;
  }

-- what a call that takes from a lane has logged
abbrev pub gave : ℕ → TakeOut → List Entry
gave lane (taken.Out out) = Gave lane out ∷ []
gave lane taken.Nothing = []
gave lane taken.Closed = []

gave_by : (lane : ℕ) (core : CoreState) (answer : TakeOut) → IsTaken lane core answer → entries_of core (HandOut lane) ≡ gave lane answer
gave_by lane core (taken.Out out) f = ap (λ (o : Option Out). option_to_list (out_entry lane o)) f
gave_by lane core taken.Nothing f = ap (λ (o : Option Out). option_to_list (out_entry lane o)) f.0
gave_by lane core taken.Closed f = ap (λ (o : Option Out). option_to_list (out_entry lane o)) f.0

pub takes_out : SeenLaw → AddedLaw → (lane : ℕ) (old new : SeatView) (answer : TakeOut) → has old.rights (right_to (HandOut lane)) ≡ true → Called (IsTaken lane) (HandOut lane) old new (Ok answer) → Adds old new (gave lane answer)
takes_out seen_law added_law lane old new answer right c =
    subst (Adds old new) (gave_by lane c.core answer c.finds) (adds_call seen_law added_law (IsTaken lane) (HandOut lane) old new (Ok answer) right c)

pub called_same : (lane : ℕ) (old new : SeatView) (answer : TakeOut) → Called (IsTaken lane) (HandOut lane) old new (Ok answer) → SameMarks old new
called_same lane old new answer c = same_marks (IsTaken lane) (HandOut lane) old new answer c

-- what was sent is in shape, as all entries of a trace are
abbrev pub ShapeLaw : Type 0
ShapeLaw = (origin : Origin) (log : List Entry) → IsTrace (start origin) log → All InShape log

last_of : {X : Type 0} (P : X → Type 0) (x : X) (xs : List X) → All P (xs ++ x ∷ []) → P x
last_of P x [] a = a zero x (omega arith)
last_of P x (y ∷ xs) a = last_of P x xs (λ k d h. a (suc k) d (omega (arith, h)))

pub out_in_shape : ShapeLaw → (lane : ℕ) (old new : SeatView) (out : Out) → Called (IsTaken lane) (HandOut lane) old new (Ok (taken.Out out)) → IsOutInShape out
out_in_shape law lane old new out c =
    let seen : new.seen ≡ c.core.log ++ Gave lane out ∷ [] = ap (λ (s : SeatView). s.seen) c.seat ∙ ap (λ (e : List Entry). c.core.log ++ e) (gave_by lane c.core (taken.Out out) c.finds) in
    let shape : InShape (Gave lane out) = last_of InShape (Gave lane out) c.core.log (subst (All InShape) seen (law old.origin new.seen c.trace)) in
    shape.1

-- the bus of a core is that of a seat that has seen its log
pub bus_is : (core : CoreState) (seat : SeatView) → seat.origin ≡ core.origin → seat.seen ≡ core.log → bus_now core ≡ bus_of seat
unfolding cores.bus_now
bus_is core seat o s = ap (λ t. replay (start t) core.log) (sym o) ∙ ap (replay (start seat.origin)) (sym s)

module _ (lane : ℕ) (old new : SeatView) (told : Option (List Taken)) (faults : ℕ) where
  pub closes : SeenLaw → AddedLaw → has old.rights (right_to (HandOut lane)) ≡ true → Called (IsTaken lane) (HandOut lane) old new (Ok taken.Closed) → WritesLane lane old new told told faults faults end.Down
  closes seen_law added_law right c =
      let seen : new.seen ≡ c.core.log = ap (λ (s : SeatView). s.seen) c.seat ∙ (ap (λ (e : List Entry). c.core.log ++ e) (gave_by lane c.core taken.Closed c.finds) ∙ append-nil c.core.log) in
      let origin : new.origin ≡ c.core.origin = ap (λ (s : SeatView). s.origin) c.seat ∙ sym c.meets.origin in
      let is : bus_now c.core ≡ bus_of new = bus_is c.core new origin seen in
      record {
        more = [];
        adds = takes_out seen_law added_law lane old new taken.Closed right c;
        put = [];
        last = [];
        handed = refl;
        told = sym (and_taken_none told);
        starts = refl;
        lacks = refl;
        rose = inl refl;
        counts = counts_none faults;
        marks = called_same lane old new taken.Closed c;
        ends = (ap (λ (b : Bus). next_out lane b.bench) (sym is) ∙ c.finds.0, ap (λ (b : Bus). b.down) (sym is) ∙ c.finds.1);
      }

  pub writes_refused : (it : WorkEnd) → Refused (HandOut lane) old new it → WritesLane lane old new told told faults faults it
  writes_refused end.Stopped r = record { more = []; adds = r.0; put = []; last = []; handed = refl; told = sym (and_taken_none told); starts = refl; lacks = omega arith; rose = inl refl; counts = counts_none faults; marks = (r.1, r.2); ends = tt }
  writes_refused end.Full r = record { more = []; adds = r.0.adds; put = []; last = []; handed = refl; told = sym (and_taken_none told); starts = refl; lacks = omega arith; rose = inl refl; counts = counts_none faults; marks = both_marks old new r.0; ends = inl (refl, r.1) }
  writes_refused end.NoMemory r = record { more = []; adds = r.adds; put = []; last = []; handed = refl; told = sym (and_taken_none told); starts = refl; lacks = omega arith; rose = inl refl; counts = counts_none faults; marks = both_marks old new r; ends = tt }
  writes_refused end.Over r = absurd r
  writes_refused end.Down r = absurd r
  writes_refused end.Failed r = absurd r

rose_counts : (old new : ℕ) → Rose old new → CountsTo old new 1
rose_counts old new (inl up) = inl (omega arith)
rose_counts old new (inr top) = inr top

counts_less : (old new m n : ℕ) → m ≤ n → CountsTo old new n → CountsTo old new m
counts_less old new m n low (inl c) = inl (omega arith)
counts_less old new m n low (inr top) = inr top

-- an item that was sent is written, or fails to be
module _ (lane : ℕ) (out : Out) (old mid new : SeatView) (told_old told_new : Option (List Taken)) (faults_old faults_new : ℕ) (taken_out : Adds old mid (Gave lane out ∷ [])) (same : SameMarks old mid) where
  abbrev Answers : Option WorkEnd → Type 0
  Answers answer = MatchOption answer (Writes lane old new told_old told_new faults_old faults_new) (WritesLane lane old new told_old told_new faults_old faults_new)

  puts_it : (answer : Option WorkEnd) → PutsIt out mid new told_old told_new faults_old faults_new answer → Answers answer
  puts_it answer p = subst Answers (sym p.goes_on) (record {
    more = Gave lane out ∷ [];
    adds = subst (λ (s : SeatView). Adds old s (Gave lane out ∷ [])) (sym p.same) taken_out;
    told = p.told ∙ ap (λ (s : List Out). and_taken told_old (map taken_of s)) (sym (sent_one lane out));
    starts = one_starts lane out;
    counts = record { cuts = inl (let low = p.never_falls in omega arith); never_falls = p.never_falls; fits = p.fits };
    marks = subst (SameMarks old) (sym p.same) same;
  })

  -- the item is lost, and that wasn't reported
  lost : (it : WorkEnd) (answer : Option WorkEnd) → Fails lane mid new told_old told_new faults_old faults_new answer → Adds mid new [] → MayLack it 1 → Marks old new it → WriterEnds lane (out ∷ []) old new it → WritesLane lane old new told_old told_new faults_old faults_new it
  lost it answer f adds may marks ends = record {
    more = Gave lane out ∷ [];
    adds = adds_on old mid new (Gave lane out ∷ []) [] taken_out adds;
    put = [];
    last = out ∷ [];
    handed = sent_one lane out;
    told = f.told ∙ sym (and_taken_none told_old);
    starts = one_starts lane out;
    lacks = may;
    rose = inr f.rose;
    counts = record { cuts = inl (let low = f.never_falls in omega arith); never_falls = f.never_falls; fits = f.fits };
    marks = marks;
    ends = ends;
  }

  fails : (answer : Option WorkEnd) → (f : Fails lane mid new told_old told_new faults_old faults_new answer) → CutsOff lane mid new answer → Answers answer
  fails None f h = record {
    more = Gave lane out ∷ Fed (input.Cut lane) h.0 ∷ [];
    adds = adds_on old mid new (Gave lane out ∷ []) (Fed (input.Cut lane) h.0 ∷ []) taken_out h.1;
    told = f.told ∙ (sym (and_taken_none told_old) ∙ ap (λ (s : List Out). and_taken told_old (map taken_of s)) (sym (sent_cut lane out h.0)));
    starts = cut_starts lane out h.0;
    counts = record { cuts = counts_less faults_old faults_new (cut_count lane (Gave lane out ∷ Fed (input.Cut lane) h.0 ∷ [])) 1 (one_cut lane out h.0) (rose_counts faults_old faults_new f.rose); never_falls = f.never_falls; fits = f.fits };
    marks = marks_both old mid new same h.2;
  }
  fails (Some end.Stopped) f h = lost end.Stopped (Some end.Stopped) f h.0 (omega arith) (h.1 ∙ same.0, h.2) tt
  fails (Some end.Full) f h = lost end.Full (Some end.Full) f h.0.adds (omega arith) (both_marks mid new h.0) (inr (out, refl, found_on (HandIn (input.Cut lane)) old mid new (Gave lane out ∷ []) taken_out h.1))
  fails (Some end.NoMemory) f h = lost end.NoMemory (Some end.NoMemory) f h.adds (omega arith) (both_marks mid new h) tt
  fails (Some end.Over) f h = absurd h
  fails (Some end.Down) f h = absurd h
  fails (Some end.Failed) f h = absurd h

  pub writes_item : (answer : Option WorkEnd) → Puts lane out mid new told_old told_new faults_old faults_new answer → Answers answer
  writes_item answer (inl p) = puts_it answer p
  writes_item answer (inr f) = fails answer f f.cuts_off

-- what was written, or failed to be written and was cut off
pub puts_by : (lane : ℕ) (out : Out) (old new : SeatView) (took_old took_new : Option (List Taken)) (faults_old faults_new : ℕ) (put : Result (Unit {0}) SendFault) (answer : Option WorkEnd)
    → OnOk put (took_new ≡ and_taken took_old (taken_of out ∷ [])) → OnErr put (took_new ≡ took_old) → OnErr put (Rose faults_old faults_new) → faults_old ≤ faults_new → (faults_old < 2 ^ 64 → faults_new < 2 ^ 64)
    → OnOk put ((answer ≡ None) × (new ≡ old)) → OnErr put (CutsOff lane old new answer) → Puts lane out old new took_old took_new faults_old faults_new answer
puts_by lane out old new took_old took_new faults_old faults_new (Ok done) answer took same rose low fits goes cuts = inl (record { told = took; never_falls = low; fits = fits; same = goes.1; goes_on = goes.0 })
puts_by lane out old new took_old took_new faults_old faults_new (Err fault) answer took same rose low fits goes cuts = inr (record { told = same; rose = rose; never_falls = low; fits = fits; cuts_off = cuts })
