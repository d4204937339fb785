-- The result of a tick worker, tick by tick.
use Rattle.std.proofs.Common.{◌≡◌, ◌≤◌, ◌+◌, ◌⊎◌, ℕ, List, [], ◌∷◌, ◌++◌, length, Bool, true, false, true≢false, not, ◌||◌, Option, Some, None, MatchOption, refl, sym, ap, ◌∙◌, subst, inl, inr, append_assoc, length-append, arith}
use Rattle.std.proofs.Math.Bool.{or-false}
use Rattle.tb_edge.specs.Faults.{Rose}
use Rattle.tb_edge.specs.Ends.{ClockView, and_ticked, has_ended}
use Rattle.tb_log.specs.declared.entry.Input.TheVariants as input
use Rattle.tb_log.specs.declared.entry.Reply.TheVariants.{Dropped}
use Rattle.tb_log.specs.declared.entry.Why.TheVariants as why
use Rattle.tb_log.specs.declared.entry.Entry.{Entry}
use Rattle.tb_log.specs.declared.entry.Entry.TheVariants.{Did, Quiet, Fed, Gave}
use Rattle.tb_core.specs.Cores.{HandIn}
use Rattle.tb_lock.specs.Seats.{SeatView}
use Rattle.tb_run.specs.declared.ends.WorkEnd.{WorkEnd}
use Rattle.tb_run.specs.declared.ends.WorkEnd.TheVariants as end
use Rattle.tb_run.specs.Seats.{Adds, Hands}
use Rattle.tb_run.specs.Workers.{AreTicks, ClockFaults, TicksBus, TickerEnds}
use Rattle.tb_run.specs.Helpers.Working.{Ticks}
use Rattle.tb_run.specs.Helpers.Ticking.{EndsAll, IsRefused}
use Rattle.tb_run.proofs.SeatLemmas.{let_in_both, let_in_on, marks_none, marks_both, marks_on, both_marks, adds_none, adds_on, found_on}

pub ticked_on : (told : Option ClockView) (m n : ℕ) (ended : Bool) → and_ticked (and_ticked told m false) n ended ≡ and_ticked told (m + n) ended
ticked_on None m n ended = refl
ticked_on (Some view) m n ended =
    let sum : view.ticks + m + n ≡ view.ticks + (m + n) = omega arith in
    ap (λ (t : ℕ). Some (record { ticks = t; ended = (view.ended || false) || ended })) sum
    ∙ ap (λ (b : Bool). Some (record { ticks = view.ticks + (m + n); ended = b || ended })) (or-false view.ended)

pub ticked_none : (told : Option ClockView) → and_ticked told 0 false ≡ told
ticked_none None = refl
ticked_none (Some view) =
    let sum : view.ticks + 0 ≡ view.ticks = omega arith in
    ap (λ (t : ℕ). Some (record { ticks = t; ended = view.ended || false })) sum ∙ ap (λ (b : Bool). Some (record { ticks = view.ticks; ended = b })) (or-false view.ended)

-- a clock that has ended has ended after each call
ended_stays : (told : Option ClockView) (n : ℕ) (ended : Bool) → has_ended told → has_ended (and_ticked told n ended)
ended_stays None n ended h = absurd h
ended_stays (Some view) n ended h = ap (λ (b : Bool). b || ended) h

pub ticks_append : (xs ys : List Entry) → AreTicks xs → AreTicks ys → AreTicks (xs ++ ys)
ticks_append [] ys a b = b
ticks_append (Fed input.Tick reply ∷ xs) ys a b = ticks_append xs ys a b
ticks_append (Fed input.NoTicks reply ∷ xs) ys a b = absurd a
ticks_append (Fed (input.Line at line) reply ∷ xs) ys a b = absurd a
ticks_append (Fed (input.Gone at) reply ∷ xs) ys a b = absurd a
ticks_append (Fed (input.Cut at) reply ∷ xs) ys a b = absurd a
ticks_append (Did label ∷ xs) ys a b = absurd a
ticks_append (Quiet ∷ xs) ys a b = absurd a
ticks_append (Gave at out ∷ xs) ys a b = absurd a

pub ticks_none : (seat : SeatView) (told : Option ClockView) (faults : ℕ) → Ticks seat seat told told faults faults 0
ticks_none seat told faults = record { more = []; adds = adds_none seat; ticks = tt; let_in = tt; count = refl; told = sym (ticked_none told); none = λ over. refl; calm = refl; marks = marks_none seat }

module _ (a b c : SeatView) (told_a told_b told_c : Option ClockView) (faults_a faults_b faults_c : ℕ) (m : ℕ) where
  still : (n : ℕ) → told_b ≡ and_ticked told_a n false → has_ended told_a → has_ended told_b
  still n told over = subst has_ended (sym told) (ended_stays told_a n false over)

  pub ticks_on : (n : ℕ) → Ticks a b told_a told_b faults_a faults_b m → Ticks b c told_b told_c faults_b faults_c n → Ticks a c told_a told_c faults_a faults_c (m + n)
  ticks_on n one two = record {
    more = one.more ++ two.more;
    adds = adds_on a b c one.more two.more one.adds two.adds;
    ticks = ticks_append one.more two.more one.ticks two.ticks;
    let_in = let_in_both one.more two.more one.let_in two.let_in;
    count = let p = one.count in let q = two.count in omega (arith, length-append one.more two.more);
    told = two.told ∙ (ap (λ (t : Option ClockView). and_ticked t n false) one.told ∙ ticked_on told_a m n false);
    none = λ over. let p = one.none over in let q = two.none (still m one.told over) in omega arith;
    calm = two.calm ∙ one.calm;
    marks = marks_both a b c one.marks two.marks;
  }

  rose_on : faults_a ≤ faults_b → Rose faults_b faults_c → Rose faults_a faults_c
  rose_on low (inl up) = inl (omega arith)
  rose_on low (inr top) = inr top

  faults_on : (it : WorkEnd) → faults_b ≡ faults_a → ClockFaults faults_b faults_c it → ClockFaults faults_a faults_c it
  faults_on end.Over same f = f ∙ same
  faults_on end.Down same f = f ∙ same
  faults_on end.Failed same f = rose_on (omega (arith, same)) f
  faults_on end.Stopped same f = tt
  faults_on end.Full same f = tt
  faults_on end.NoMemory same f = tt

  cause_on : (Enough Enough' : ℕ → Type 0) → ((k : ℕ) → Enough k → Enough' (m + k)) → (k : ℕ) (ended : Bool) → faults_a ≤ faults_b → (ended ≡ true) ⊎ (Rose faults_b faults_c ⊎ Enough k) → (ended ≡ true) ⊎ (Rose faults_a faults_c ⊎ Enough' (m + k))
  cause_on Enough Enough' f k ended low (inl e) = inl e
  cause_on Enough Enough' f k ended low (inr (inl rose)) = inr (inl (rose_on low rose))
  cause_on Enough Enough' f k ended low (inr (inr enough)) = inr (inr (f k enough))

  ends_on : (Enough Enough' : ℕ → Type 0) → ((k : ℕ) → Enough k → Enough' (m + k)) → (tail : List Entry) (last : ℕ) (xs : List Entry) → Adds a b xs → (k : ℕ) (ended : Bool) (it : WorkEnd) → faults_a ≤ faults_b → TickerEnds Enough (record { old = b; new = c; faults_old = faults_b; faults_new = faults_c; count = k; last = last; tail = tail; ended = ended }) it → TickerEnds Enough' (record { old = a; new = c; faults_old = faults_a; faults_new = faults_c; count = m + k; last = last; tail = tail; ended = ended }) it
  ends_on Enough Enough' f tail last xs adds k ended end.Over low (w, inl e) = (w, inl e)
  ends_on Enough Enough' f tail last xs adds k ended end.Over low (w, inr e) = (w, inr (f k e))
  ends_on Enough Enough' f tail last xs adds k ended end.Failed low e = (e.0, rose_on low e.1)
  ends_on Enough Enough' f tail last xs adds k ended end.Down low e = e
  ends_on Enough Enough' f tail last xs adds k ended end.Full low (w, inl e) = (w, inl (e.0, found_on (HandIn input.Tick) a b c xs adds e.1))
  ends_on Enough Enough' f tail last xs adds k ended end.Full low (w, inr e) = (w, inr (e.0, cause_on Enough Enough' f k ended low e.1, found_on (HandIn input.NoTicks) a b c xs adds e.2))
  ends_on Enough Enough' f tail last xs adds k ended end.Stopped low e = e
  ends_on Enough Enough' f tail last xs adds k ended end.NoMemory low e = e

  pub ticks_end : (Enough Enough' : ℕ → Type 0) (room most : ℕ) → ((k : ℕ) → Enough k → Enough' (m + k)) → m + room ≤ most → (it : WorkEnd) → Ticks a b told_a told_b faults_a faults_b m → TicksBus Enough room b c told_b told_c faults_b faults_c it → TicksBus Enough' most a c told_a told_c faults_a faults_c it
  ticks_end Enough Enough' room most f low it one two =
      let len : m + length two.first ≡ length (one.more ++ two.first) = let p = one.count in omega (arith, length-append one.more two.first) in
      let all : m + (length two.first + two.last) ≡ length (one.more ++ two.first) + two.last = omega (arith, len) in
      record {
        first = one.more ++ two.first;
        tail = two.tail;
        adds = subst (Adds a c) (sym (append_assoc one.more two.first two.tail)) (adds_on a b c one.more (two.first ++ two.tail) one.adds two.adds);
        ticks = ticks_append one.more two.first one.ticks two.ticks;
        let_in = let_in_on it one.more two.first one.let_in two.let_in;
        last = two.last;
        ended = two.ended;
        told = two.told ∙ (ap (λ (t : Option ClockView). and_ticked t (length two.first + two.last) two.ended) one.told ∙ (ticked_on told_a m (length two.first + two.last) two.ended ∙ ap (λ (n : ℕ). and_ticked told_a n two.ended) all));
        within = let q = two.within in omega (arith, all);
        lacks = two.lacks;
        whole = two.whole;
        none = λ over. let p = one.none over in let q = two.none (still m one.told over) in omega (arith, all);
        marks = marks_on a b c it one.marks two.marks;
        never_falls = let p = one.calm in let q = two.never_falls in omega arith;
        faults = faults_on it one.calm two.faults;
        ends = subst (λ (n : ℕ). TickerEnds Enough' (record { old = a; new = c; faults_old = faults_a; faults_new = faults_c; count = n; last = two.last; tail = two.tail; ended = two.ended }) it) len (ends_on Enough Enough' f two.tail two.last one.more one.adds (length two.first) two.ended it (let p = one.calm in omega arith) two.ends);
      }

module _ (old new : SeatView) (told_old told_new : Option ClockView) (faults_old faults_new : ℕ) (low : faults_old ≤ faults_new) where
  -- a tick that was given
  pub ticks_hands : (answer : Option WorkEnd) → (has_ended told_old → ⊥) → faults_new ≡ faults_old → told_new ≡ and_ticked told_old 1 false → Hands input.Tick old new answer
      → MatchOption answer (Ticks old new told_old told_new faults_old faults_new 1) (TicksBus (λ count. ⊥) 1 old new told_old told_new faults_old faults_new)
  ticks_hands None fresh calm told h = record { more = Fed input.Tick h.0 ∷ []; adds = h.1; ticks = tt; let_in = (ap not h.3, tt); count = refl; told = told; none = λ over. absurd (fresh over); calm = calm; marks = h.2 }
  ticks_hands (Some end.Down) fresh calm told h = record { first = Fed input.Tick (Dropped why.Down) ∷ []; tail = []; adds = h.0; ticks = tt; let_in = ([], Fed input.Tick (Dropped why.Down), refl, tt); last = 0; ended = false; told = told; within = omega arith; lacks = refl; whole = λ e. refl; marks = h.1; none = λ over. absurd (fresh over); never_falls = low; faults = calm; ends = (refl, h.2) }
  ticks_hands (Some end.Stopped) fresh calm told h = record { first = []; tail = []; adds = h.0; ticks = tt; let_in = tt; last = 1; ended = false; told = told; within = omega arith; lacks = omega arith; whole = λ e. absurd (true≢false (sym e)); marks = (h.1, h.2); none = λ over. absurd (fresh over); never_falls = low; faults = tt; ends = refl }
  ticks_hands (Some end.Full) fresh calm told h = record { first = []; tail = []; adds = h.0.adds; ticks = tt; let_in = tt; last = 1; ended = false; told = told; within = omega arith; lacks = omega arith; whole = λ e. absurd (true≢false (sym e)); marks = both_marks old new h.0; none = λ over. absurd (fresh over); never_falls = low; faults = tt; ends = (refl, inl (refl, h.1)) }
  ticks_hands (Some end.NoMemory) fresh calm told h = record { first = []; tail = []; adds = h.adds; ticks = tt; let_in = tt; last = 1; ended = false; told = told; within = omega arith; lacks = omega arith; whole = λ e. absurd (true≢false (sym e)); marks = both_marks old new h; none = λ over. absurd (fresh over); never_falls = low; faults = tt; ends = refl }
  ticks_hands (Some end.Over) fresh calm told h = absurd h
  ticks_hands (Some end.Failed) fresh calm told h = absurd h

  -- no more come: the clock has ended, or failed, or there were enough
  module _ (Enough : ℕ → Type 0) (most : ℕ) (ended : Bool) (told : told_new ≡ and_ticked told_old 0 ended) where
    ended_or : (ended ≡ true) ⊎ Enough 0 → (ended ≡ true) ⊎ (Rose faults_old faults_new ⊎ Enough 0)
    ended_or (inl e) = inl e
    ended_or (inr e) = inr (inr e)

    refused_all : (it : WorkEnd) → (ended ≡ true) ⊎ (Rose faults_old faults_new ⊎ Enough 0) → IsRefused old new it → TicksBus Enough most old new told_old told_new faults_old faults_new it
    refused_all end.Stopped why r = record { first = []; tail = []; adds = r.0; ticks = tt; let_in = tt; last = 0; ended = ended; told = told; within = omega arith; lacks = omega arith; whole = λ e. refl; marks = (r.1, r.2); none = λ over. refl; never_falls = low; faults = tt; ends = refl }
    refused_all end.Full why r = record { first = []; tail = []; adds = r.0.adds; ticks = tt; let_in = tt; last = 0; ended = ended; told = told; within = omega arith; lacks = omega arith; whole = λ e. refl; marks = both_marks old new r.0; none = λ over. refl; never_falls = low; faults = tt; ends = (refl, inr (refl, why, r.1)) }
    refused_all end.NoMemory why r = record { first = []; tail = []; adds = r.adds; ticks = tt; let_in = tt; last = 0; ended = ended; told = told; within = omega arith; lacks = omega arith; whole = λ e. refl; marks = both_marks old new r; none = λ over. refl; never_falls = low; faults = tt; ends = refl }
    refused_all end.Over why r = absurd r
    refused_all end.Down why r = absurd r
    refused_all end.Failed why r = absurd r

    pub ticks_over : (it : WorkEnd) → faults_new ≡ faults_old → (ended ≡ true) ⊎ Enough 0 → EndsAll old new end.Over it → TicksBus Enough most old new told_old told_new faults_old faults_new it
    ticks_over it calm why (inl e) = subst (TicksBus Enough most old new told_old told_new faults_old faults_new) (sym e.0) (record {
      first = [];
      tail = Fed input.NoTicks e.1.0 ∷ [];
      adds = e.1.1;
      ticks = tt;
      let_in = tt;
      last = 0;
      ended = ended;
      told = told;
      within = omega arith;
      lacks = refl;
      whole = λ e. refl;
      marks = e.1.2;
      none = λ over. refl;
      never_falls = low;
      faults = calm;
      ends = ((e.1.0, refl), why);
    })
    ticks_over it calm why (inr r) = refused_all it (ended_or why) r

    pub ticks_failed : (it : WorkEnd) → Rose faults_old faults_new → EndsAll old new end.Failed it → TicksBus Enough most old new told_old told_new faults_old faults_new it
    ticks_failed it rose (inl e) = subst (TicksBus Enough most old new told_old told_new faults_old faults_new) (sym e.0) (record {
      first = [];
      tail = Fed input.NoTicks e.1.0 ∷ [];
      adds = e.1.1;
      ticks = tt;
      let_in = tt;
      last = 0;
      ended = ended;
      told = told;
      within = omega arith;
      lacks = refl;
      whole = λ e. refl;
      marks = e.1.2;
      none = λ over. refl;
      never_falls = low;
      faults = rose;
      ends = ((e.1.0, refl), rose);
    })
    ticks_failed it rose (inr r) = refused_all it (inr (inl rose)) r
