-- How the seat of a worker of a pipe goes on.
use Rattle.std.proofs.Common.{◌≡◌, List, [], ◌∷◌, ◌++◌, Bool, true, false, true≢false, Option, Some, None, Ok, Err, refl, sym, ap, ◌∙◌, subst, append_assoc, append-nil, arith, inl, inr, ◌⊎◌, ⊎_elim}
use Rattle.std.specs.Prelude.{option_to_list}
use Rattle.std.specs.List.{filter_map, cons_option}
use Rattle.std.proofs.lemmas.List.Elements.{filter_map-append}
use Rattle.tb_log.specs.declared.entry.Input.{Input}
use Rattle.tb_log.specs.declared.entry.Reply.{Reply}
use Rattle.tb_log.specs.declared.entry.Reply.TheVariants.{Dropped}
use Rattle.tb_log.specs.declared.entry.Why.TheVariants as why
use Rattle.tb_log.specs.declared.entry.Out.{Out}
use Rattle.tb_log.specs.declared.entry.Entry.{Entry}
use Rattle.tb_log.specs.declared.entry.Entry.TheVariants.{Fed, Gave}
use Rattle.tb_log.specs.Lanes.{handed, handed_by, inputs, given_on}
use Rattle.tb_bus.specs.Buses.{Bus}
use Rattle.tb_tools.specs.Finding.{next_out}
use Rattle.tb_core.specs.declared.answers.TakeOut.TheVariants as taken
use Rattle.tb_core.specs.Cores.{Call, HandOut, bus_now, entries_of, out_entry}
use Rattle.tb_lock.specs.Rights.{has, right_to}
use Rattle.tb_lock.specs.Seats.{SeatView}
use Rattle.tb_lock.specs.Calls.{Called, IsTaken}
use Rattle.tb_run.specs.declared.ends.WorkEnd.{WorkEnd}
use Rattle.tb_run.specs.declared.ends.WorkEnd.TheVariants as end
use Rattle.tb_run.specs.Dropping.{HasDropped, is_down}
use Rattle.tb_run.specs.Seats.{Adds, FoundFull, Hands, SameMarks, Stops}
use Rattle.tb_run.specs.Workers.{bus_of, cut_count}
use Rattle.tb_run.proofs.ReadLemmas.{inputs_append}
use Rattle.tb_run.proofs.SeatLemmas.{SeenLaw, AddedLaw, Refused, adds_none, adds_on, both_marks, marks_on, same_marks}
use Rattle.tb_run.proofs.WriteLemmas.{bus_is, cut_count_append, takes_out}
use Rattle.tb_pair.specs.Piping.{told_by, does}
use Rattle.tb_pair.specs.Workers.{IsEarly, PipeEnds, FullAfter, Goes}
use Rattle.tb_pair.specs.Helpers.Settling.{EndsAs, Settles, settled}

pub does_append : (log more : List Entry) → does (log ++ more) ≡ does log ++ does more
does_append log more = ap (filter_map told_by) (filter_map-append (handed_by 1) log more) ∙ filter_map-append told_by (handed log 1) (handed more 1)

pub goes_none : (seat : SeatView) → Goes seat seat [] []
goes_none seat = record { adds = adds_none seat; given_are = refl; cuts = refl }

pub goes_on : (a b c : SeatView) (xs ys : List Entry) (given others : List Input) → Goes a b xs given → Goes b c ys others → Goes a c (xs ++ ys) (given ++ others)
goes_on a b c xs ys given others one two = record {
  adds = adds_on a b c xs ys one.adds two.adds;
  given_are = inputs_append 1 xs ys ∙ (ap (λ (s : List Input). s ++ inputs ys 1) one.given_are ∙ ap (λ (s : List Input). given ++ s) two.given_are);
  cuts = cut_count_append 1 xs ys ∙ (let p = one.cuts in let q = two.cuts in omega arith);
}

-- nothing of its own comes after it
pub goes_end : (a b c : SeatView) (xs : List Entry) (given : List Input) → Goes a b xs given → Adds b c [] → Goes a c xs given
goes_end a b c xs given one adds = record { adds = subst (Adds a c) (append-nil xs) (adds_on a b c xs [] one.adds adds); given_are = one.given_are; cuts = one.cuts }

-- nor before it
pub goes_after : (a b c : SeatView) (xs : List Entry) (given : List Input) → Adds a b [] → Goes b c xs given → Goes a c xs given
goes_after a b c xs given adds two = record { adds = adds_on a b c [] xs adds two.adds; given_are = two.given_are; cuts = two.cuts }

pub goes_out : (old new : SeatView) (out : Out) → Adds old new (Gave 1 out ∷ []) → Goes old new (Gave 1 out ∷ []) []
goes_out old new out adds = record { adds = adds; given_are = refl; cuts = refl }

-- a line of lane 1
pub goes_in : (old new : SeatView) (it : Input) (reply : Reply) → given_on 1 it ≡ Some it → Adds old new (Fed it reply ∷ []) → cut_count 1 (Fed it reply ∷ []) ≡ 0 → Goes old new (Fed it reply ∷ []) (it ∷ [])
goes_in old new it reply on adds cuts = record { adds = adds; given_are = ap (λ (o : Option Input). cons_option o []) on; cuts = cuts }

pub ends_by : (Refused Other : Type 0) (seat : SeatView) (it : WorkEnd) → (Refused → Other) → PipeEnds Refused seat it → PipeEnds Other seat it
ends_by Refused Other seat end.Over so e = e
ends_by Refused Other seat end.Down so e = e
ends_by Refused Other seat end.Stopped so e = e
ends_by Refused Other seat end.Full so e = so e
ends_by Refused Other seat end.Failed so e = e
ends_by Refused Other seat end.NoMemory so e = e

-- a call for which the log had no capacity, after these entries
pub full_after : (call : Call) (a b c : SeatView) (xs : List Entry) → Adds a b xs → FoundFull call b c → FullAfter call a c xs
full_after call a b c xs adds full = record { mid = b; adds = adds; full = full }

-- a worker that ends after nothing of its own
pub ends_after : (Refused Other : Type 0) (a b c : SeatView) (it : WorkEnd) → (Refused → Other) → Adds a b [] → SameMarks a b → EndsAs Refused b c it → EndsAs Other a c it
ends_after Refused Other a b c it so adds same e = record { adds = adds_on a b c [] [] adds e.adds; marks = marks_on a b c it same e.marks; ends = ends_by Refused Other c it so e.ends }

-- the bus has shut down, and nothing is left in the queue
pub closes_as : SeenLaw → AddedLaw → (old new : SeatView) → has old.rights (right_to (HandOut 1)) ≡ true → Called (IsTaken 1) (HandOut 1) old new (Ok taken.Closed) → EndsAs (FoundFull (HandOut 1) old new) old new end.Down
closes_as seen_law added_law old new right c =
    let none : entries_of c.core (HandOut 1) ≡ [] = ap (λ (o : Option Out). option_to_list (out_entry 1 o)) c.finds.0 in
    let seen : new.seen ≡ c.core.log = ap (λ (s : SeatView). s.seen) c.seat ∙ (ap (λ (e : List Entry). c.core.log ++ e) none ∙ append-nil c.core.log) in
    let origin : new.origin ≡ c.core.origin = ap (λ (s : SeatView). s.origin) c.seat ∙ sym c.meets.origin in
    let is : bus_now c.core ≡ bus_of new = bus_is c.core new origin seen in
    record {
      adds = takes_out seen_law added_law 1 old new taken.Closed right c;
      marks = same_marks (IsTaken 1) (HandOut 1) old new taken.Closed c;
      ends = (ap (λ (b : Bus). next_out 1 b.bench) (sym is) ∙ c.finds.0, ap (λ (b : Bus). b.down) (sym is) ∙ c.finds.1);
    }

-- a call that takes an item was refused
pub refused_as : (old new : SeatView) (it : WorkEnd) → Refused (HandOut 1) old new it → EndsAs (FoundFull (HandOut 1) old new) old new it × IsEarly it
refused_as old new end.Stopped r = (record { adds = r.0; marks = (r.1, r.2); ends = tt }, tt)
refused_as old new end.Full r = (record { adds = r.0.adds; marks = both_marks old new r.0; ends = r.1 }, tt)
refused_as old new end.NoMemory r = (record { adds = r.adds; marks = both_marks old new r; ends = tt }, tt)
refused_as old new end.Over r = absurd r
refused_as old new end.Down r = absurd r
refused_as old new end.Failed r = absurd r

-- the effect of an input
pub settles : (it : Input) (old new : SeatView) (answer : Option WorkEnd) → Hands it old new answer → Settles it old new (settled answer)
settles it old new None h = (h.0, h.1, h.2, λ e. absurd (true≢false e), λ e. h.3)
settles it old new (Some end.Down) h = (Dropped why.Down, h.0, h.1, λ e. refl, λ e. absurd (true≢false (sym e)))
settles it old new (Some end.Stopped) h = (record { adds = h.0; marks = (h.1, h.2); ends = tt }, tt)
settles it old new (Some end.Full) h = (record { adds = h.0.adds; marks = both_marks old new h.0; ends = h.1 }, tt)
settles it old new (Some end.NoMemory) h = (record { adds = h.adds; marks = both_marks old new h; ends = tt }, tt)
settles it old new (Some end.Over) h = absurd h
settles it old new (Some end.Failed) h = absurd h

-- memory ran out before anything was delivered
pub settles_none : (it : Input) (old new : SeatView) → Stops old new → Settles it old new (Err end.NoMemory)
settles_none it old new h = (record { adds = h.adds; marks = both_marks old new h; ends = tt }, tt)

-- of two lists, one has it
pub dropped_in : (test : Input → Bool) (xs ys : List Entry) → HasDropped test (xs ++ ys) → HasDropped test xs ⊎ HasDropped test ys
dropped_in test [] ys d = inr d
dropped_in test (x ∷ xs) ys d = at (dropped_in test xs ys) d.0 d.1 d.2 d.3 d.4
  where
    at : (HasDropped test (xs ++ ys) → HasDropped test xs ⊎ HasDropped test ys) → (before : List Entry) (it : Input) (after : List Entry) → test it ≡ true → x ∷ (xs ++ ys) ≡ before ++ Fed it (Dropped why.Down) ∷ after → HasDropped test (x ∷ xs) ⊎ HasDropped test ys
    at hyp [] it after t e = let head : x ≡ Fed it (Dropped why.Down) = cc in inl ([], it, xs, t, ap (λ (y : Entry). y ∷ xs) head)
    at hyp (y ∷ before) it after t e =
        let tail : xs ++ ys ≡ before ++ Fed it (Dropped why.Down) ∷ after = cc in
        ⊎_elim (λ h. inl (x ∷ h.0, h.1, h.2, h.3, ap (λ (l : List Entry). x ∷ l) h.4)) (λ h. inr h) (hyp (before, it, after, t, tail))

pub dropped_none : (test : Input → Bool) → HasDropped test [] → ⊥
dropped_none test d = at d.0 d.4
  where
    at : (before : List Entry) → [] ≡ before ++ Fed d.1 (Dropped why.Down) ∷ d.2 → ⊥
    at [] e = absurd cc
    at (x ∷ before) e = absurd cc

-- a sent item isn't dropped
pub dropped_out : (test : Input → Bool) (out : Out) → HasDropped test (Gave 1 out ∷ []) → ⊥
dropped_out test out d = at d.0 d.1 d.2 d.3 d.4
  where
    at : (before : List Entry) (it : Input) (after : List Entry) → test it ≡ true → Gave 1 out ∷ [] ≡ before ++ Fed it (Dropped why.Down) ∷ after → ⊥
    at [] it after t e = absurd cc
    at (x ∷ before) it after t e = let tail : [] ≡ before ++ Fed it (Dropped why.Down) ∷ after = cc in dropped_none test (before, it, after, t, tail)

-- nor is an input that was let in
pub dropped_not : (test : Input → Bool) (input : Input) (reply : Reply) → is_down reply ≡ false → HasDropped test (Fed input reply ∷ []) → ⊥
dropped_not test input reply low d = at d.0 d.1 d.2 d.3 d.4
  where
    at : (before : List Entry) (it : Input) (after : List Entry) → test it ≡ true → Fed input reply ∷ [] ≡ before ++ Fed it (Dropped why.Down) ∷ after → ⊥
    at [] it after t e = let so : reply ≡ Dropped why.Down = cc in true≢false (sym (ap is_down so) ∙ low)
    at (x ∷ before) it after t e = let tail : [] ≡ before ++ Fed it (Dropped why.Down) ∷ after = cc in dropped_none test (before, it, after, t, tail)

pub dropped_before : (test : Input → Bool) (xs ys : List Entry) → HasDropped test xs → HasDropped test (xs ++ ys)
dropped_before test xs ys d = (d.0, d.1, d.2 ++ ys, d.3, ap (λ (s : List Entry). s ++ ys) d.4 ∙ append_assoc d.0 (Fed d.1 (Dropped why.Down) ∷ d.2) ys)

pub dropped_after : (test : Input → Bool) (xs ys : List Entry) → HasDropped test ys → HasDropped test (xs ++ ys)
dropped_after test xs ys d = (xs ++ d.0, d.1, d.2, d.3, ap (λ (s : List Entry). xs ++ s) d.4 ∙ sym (append_assoc xs d.0 (Fed d.1 (Dropped why.Down) ∷ d.2)))
