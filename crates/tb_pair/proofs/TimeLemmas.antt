-- What the logs of two buses say of the clock, from what its tick worker has done.
use Rattle.std.proofs.Common.{◌≡◌, ◌+◌, ◌⊎◌, ℕ, List, [], ◌∷◌, ◌++◌, length, Bool, Option, refl, sym, ap, ◌∙◌, inl, inr, ⊎_elim, append_assoc, arith}
use Rattle.std.specs.Prelude.{filter}
use Rattle.atomic_table.specs.Seated.{TableId}
use Rattle.tb_edge.specs.Faults.{Rose}
use Rattle.tb_edge.specs.Ends.{ClockView}
use Rattle.tb_log.specs.declared.entry.Input.TheVariants as input
use Rattle.tb_log.specs.declared.entry.Reply.TheVariants.{Dropped}
use Rattle.tb_log.specs.declared.entry.Why.TheVariants as why
use Rattle.tb_log.specs.declared.entry.Entry.{Entry}
use Rattle.tb_log.specs.declared.entry.Entry.TheVariants.{Fed}
use Rattle.tb_log.specs.Lanes.{ticks, is_tick, is_tick_input}
use Rattle.tb_lock.specs.Rights.{own}
use Rattle.tb_lock.specs.Seats.{SeatView}
use Rattle.tb_run.specs.declared.ends.WorkEnd.{WorkEnd}
use Rattle.tb_run.specs.declared.ends.WorkEnd.TheVariants as end
use Rattle.tb_run.specs.Clocks.{is_time, TimeIs, WhyNoTicks, WhyOver}
use Rattle.tb_run.specs.Dropping.{AreLetIn, HasDropped}
use Rattle.tb_run.specs.Seats.{EndsWith}
use Rattle.tb_run.specs.Workers.{IsNoTicks, LetIn}
use Rattle.tb_run.proofs.ClockLemmas.{Tail, count_first, tail_count, tail_time, ticks_own, time_own, time_ticks}
use Rattle.tb_pair.specs.Clocks.{ClockPasses, HasAll, TimePasses}
use Rattle.tb_pair.specs.Passing.{IsPartOf}
use Rattle.tb_pair.specs.Ticking.{CanTick, GotAll, IsCut, TicksEnd, TicksPair, TicksSeat, WhyEnds, WhyNoMore}
use Rattle.tb_pair.specs.Workers.{IsEarly}
use Rattle.tb_pair.proofs.PassLemmas.{own_is}

module _ (Cause : Type 0) (bus : TableId) (begun done last : SeatView) (given : ℕ) (it : WorkEnd) (t : TicksSeat Cause begun done given it) (can : CanTick bus begun) (part : IsPartOf begun done last) where
  tail_of : (w : WorkEnd) → TicksEnd Cause t.tail begun done (length t.first) given w → Tail t.tail
  tail_of end.Over e = inr e.0
  tail_of end.Failed e = inr e.0
  tail_of end.Down e = inl e.0
  tail_of end.Full e = inl e.0
  tail_of end.Stopped e = inl e
  tail_of end.NoMemory e = inl e

  tail : Tail t.tail
  tail = tail_of it t.ends

  owns : own begun.rights last.seen ≡ t.first ++ t.tail
  owns = own_is begun done last (t.first ++ t.tail) part t.adds

  pub count_is : ticks last.seen ≡ length t.first
  count_is = sym (ticks_own begun.rights can.right last.seen) ∙ (ap ticks owns ∙ (count_first is_tick (λ reply. refl) t.first t.tail 0 t.ticks (tail_count t.tail tail) ∙ (let z : 0 + length t.first ≡ length t.first = omega arith in z)))

  pub time : filter is_time last.seen ≡ t.first ++ t.tail
  time = sym (time_own begun.rights can.right last.seen) ∙ (ap (filter is_time) owns ∙ time_ticks t.first t.tail t.ticks (tail_time t.tail tail))

  abbrev time_is : TimeIs last.seen
  time_is = record { first = t.first; tail = t.tail; is = time; ticks = t.ticks; last = tail }

  -- the last that its seat has seen is in the log
  dropped : EndsWith done (Fed input.Tick (Dropped why.Down)) → HasDropped is_tick_input last.seen
  dropped e = (e.0, input.Tick, part.rest, refl, part.begins ∙ (ap (λ (s : List Entry). s ++ part.rest) e.1 ∙ append_assoc e.0 (Fed input.Tick (Dropped why.Down) ∷ []) part.rest))

  -- how the bus ended
  record Ended (w : WorkEnd) : Type 0 where
    pub all : (ticks last.seen ≡ given) ⊎ (HasDropped is_tick_input last.seen ⊎ IsEarly w)
    pub said : (t.tail ≡ []) ⊎ ((ticks last.seen ≡ given) × (IsCut w → ⊥))
    pub word : IsNoTicks t.tail ⊎ (HasDropped is_tick_input last.seen ⊎ IsEarly w)
    pub read : ((ticks last.seen ≡ given) × (IsCut w → ⊥)) ⊎ (HasDropped is_tick_input last.seen ⊎ IsEarly w)

  ended : (w : WorkEnd) → TicksEnd Cause t.tail begun done (length t.first) given w → Ended w
  ended end.Over e = record { all = inl (count_is ∙ e.1); said = inr (count_is ∙ e.1, λ cut. cut); word = inl e.0; read = inl (count_is ∙ e.1, λ cut. cut) }
  ended end.Failed e = record { all = inl (count_is ∙ e.1); said = inr (count_is ∙ e.1, λ cut. cut); word = inl e.0; read = inl (count_is ∙ e.1, λ cut. cut) }
  ended end.Down e = record { all = inr (inl (dropped e.1)); said = inl e.0; word = inr (inl (dropped e.1)); read = inr (inl (dropped e.1)) }
  ended end.Stopped e = record { all = inr (inr tt); said = inl e; word = inr (inr tt); read = inr (inr tt) }
  ended end.Full e = record { all = inr (inr tt); said = inl e.0; word = inr (inr tt); read = inr (inr tt) }
  ended end.NoMemory e = record { all = inr (inr tt); said = inl e; word = inr (inr tt); read = inr (inr tt) }

  once_of : (w : WorkEnd) → LetIn w t.first → TicksEnd Cause t.tail begun done (length t.first) given w → AreLetIn t.first ⊎ ((t.tail ≡ []) × LetIn end.Down t.first)
  once_of end.Over l e = inl l
  once_of end.Failed l e = inl l
  once_of end.Down l e = inr (e.0, l)
  once_of end.Stopped l e = inl l
  once_of end.Full l e = inl l
  once_of end.NoMemory l e = inl l

  module _ (most : ℕ) (over : Bool) (faults_old faults_new : ℕ) (Failed : Type 0) (wanted one other : WorkEnd)
      (whys : WhyEnds wanted most given over faults_old faults_new one other) (cuts : wanted ≡ end.Down → IsCut it) (fails : wanted ≡ end.Failed → Failed) where
    cause : (w : WorkEnd) → wanted ≡ w → WhyEnds w most given over faults_old faults_new one other → ticks last.seen ≡ given → (IsCut it → ⊥) → WhyNoTicks last.seen most Failed over
    cause end.Over is (same, inl e) all uncut = inl e.0
    cause end.Over is (same, inr e) all uncut = inr (inr (all ∙ e))
    cause end.Failed is e all uncut = inr (inl (fails is))
    cause end.Down is e all uncut = absurd (uncut (cuts is))
    cause end.Stopped is e all uncut = absurd e
    cause end.Full is e all uncut = absurd e
    cause end.NoMemory is e all uncut = absurd e

    why_of : (t.tail ≡ []) ⊎ ((ticks last.seen ≡ given) × (IsCut it → ⊥)) → (t.tail ≡ []) ⊎ WhyNoTicks last.seen most Failed over
    why_of (inl e) = inl e
    why_of (inr e) = inr (cause wanted refl whys e.0 e.1)

    end_of : ((ticks last.seen ≡ given) × (IsCut it → ⊥)) ⊎ (HasDropped is_tick_input last.seen ⊎ IsEarly it) → WhyOver last.seen most Failed over ⊎ IsEarly it
    end_of (inl e) = inl (inl (cause wanted refl whys e.0 e.1))
    end_of (inr (inl e)) = inl (inr e)
    end_of (inr (inr e)) = inr e

    pub time_passes : TimePasses last.seen most given over Failed (IsEarly it)
    time_passes =
        let so : Ended it = ended it t.ends in
        record { within = (let c = count_is in let w = t.within in omega (arith, c, w)); all = so.all; time = time_is; once = once_of it t.let_in t.ends; why = why_of so.said; read = end_of so.read; word = so.word }

  has_all : GotAll (length t.first) given it → HasAll last.seen given (IsEarly it)
  has_all (inl e) = inl (count_is ∙ e)
  has_all (inr e) = inr (let c = count_is in let n = e.0 in omega (arith, c, n), e.1)

-- where neither bus got ticks any more, both were cut
cut_one : (wanted : WorkEnd) (most given : ℕ) (ended : Bool) (fa fb : ℕ) (one other : WorkEnd) → WhyEnds wanted most given ended fa fb one other → wanted ≡ end.Down → IsCut one × IsCut other
cut_one end.Over most given ended fa fb one other w e = absurd cc
cut_one end.Failed most given ended fa fb one other w e = absurd cc
cut_one end.Down most given ended fa fb one other w e = (w.1, w.2)
cut_one end.Stopped most given ended fa fb one other w e = absurd w
cut_one end.Full most given ended fa fb one other w e = absurd w
cut_one end.NoMemory most given ended fa fb one other w e = absurd w

-- a clock that failed shows it
pub rose_of : (wanted : WorkEnd) (most given : ℕ) (ended : Bool) (fa fb : ℕ) (one other : WorkEnd) → WhyEnds wanted most given ended fa fb one other → wanted ≡ end.Failed → Rose fa fb
rose_of end.Over most given ended fa fb one other w e = absurd cc
rose_of end.Failed most given ended fa fb one other w e = w.0
rose_of end.Down most given ended fa fb one other w e = absurd cc
rose_of end.Stopped most given ended fa fb one other w e = absurd w
rose_of end.Full most given ended fa fb one other w e = absurd w
rose_of end.NoMemory most given ended fa fb one other w e = absurd w

pub times : (most : ℕ) (told_old told_new : Option ClockView) (faults_old faults_new : ℕ) (Failed : Type 0) (bus others_bus : TableId) (begun done last others_begun others_done others_last : SeatView) (it others : WorkEnd)
    → (t : TicksPair most begun done others_begun others_done told_old told_new faults_old faults_new it others) → (t.wanted ≡ end.Failed → Failed)
    → CanTick bus begun → IsPartOf begun done last → CanTick others_bus others_begun → IsPartOf others_begun others_done others_last
    → ClockPasses most last.seen others_last.seen told_old told_new Failed (IsEarly it) (IsEarly others)
times most told_old told_new faults_old faults_new Failed bus others_bus begun done last others_begun others_done others_last it others t fails can part others_can others_part =
    let cuts = cut_one t.wanted most t.given t.ended faults_old faults_new it others t.why in
    let Cause : Type 0 = WhyNoMore most t.given t.ended faults_old faults_new in
    record {
      given = t.given;
      ended = t.ended;
      told = t.told;
      within = t.within;
      first = time_passes Cause bus begun done last t.given it t.first can part most t.ended faults_old faults_new Failed t.wanted it others t.why (λ e. (cuts e).0) fails;
      second = time_passes Cause others_bus others_begun others_done others_last t.given others t.second others_can others_part most t.ended faults_old faults_new Failed t.wanted it others t.why (λ e. (cuts e).1) fails;
      fully = ⊎_elim (λ e. inl (has_all Cause bus begun done last t.given it t.first can part e)) (λ e. inr (has_all Cause others_bus others_begun others_done others_last t.given others t.second others_can others_part e)) t.fully;
    }
