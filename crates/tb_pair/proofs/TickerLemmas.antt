-- The result of a tick worker of two buses, tick by tick, of one bus.
use Rattle.std.proofs.Common.{◌≡◌, ◌≤◌, ◌<◌, ◌+◌, ◌⊎◌, ⊎_elim, ◌&&◌, ℕ, List, [], ◌∷◌, ◌++◌, length, Bool, true, false, not, true≢false, Option, Some, None, is_some, refl, sym, ap, ◌∙◌, subst, inl, inr, append-nil, length-append, arith}
use Rattle.atomic_table.specs.Seated.{TableId}
use Rattle.tb_edge.specs.Faults.{Rose}
use Rattle.tb_edge.specs.Ends.{ClockView, and_ticked}
use Rattle.tb_log.specs.declared.entry.Input.TheVariants as input
use Rattle.tb_log.specs.declared.entry.Reply.{Reply}
use Rattle.tb_log.specs.declared.entry.Reply.TheVariants.{Dropped}
use Rattle.tb_log.specs.declared.entry.Why.TheVariants as why
use Rattle.tb_log.specs.declared.entry.Entry.{Entry}
use Rattle.tb_log.specs.declared.entry.Entry.TheVariants.{Fed}
use Rattle.tb_core.specs.Cores.{HandIn}
use Rattle.tb_lock.specs.declared.rights.Rights.{Rights}
use Rattle.tb_lock.specs.Rights.{Ticks as ToTick, has}
use Rattle.tb_lock.specs.Seats.{SeatView}
use Rattle.tb_run.specs.declared.ends.WorkEnd.{WorkEnd}
use Rattle.tb_run.specs.declared.ends.WorkEnd.TheVariants as end
use Rattle.tb_run.specs.Seats.{Adds, Hands, Marks}
use Rattle.tb_run.specs.Helpers.Ticking.{EndsAll, IsRefused, IsHandedIn}
use Rattle.tb_run.specs.Workers.{LetIn}
use Rattle.tb_run.proofs.SeatLemmas.{adds_none, adds_on, both_marks, found_on, marks_none, marks_both, marks_on, let_in_both}
use Rattle.tb_run.proofs.TickLemmas.{ticked_none, ticked_on, ticks_append}
use Rattle.tb_pair.specs.Helpers.Ticking.{Ticked, TickedMore, CutBy, GotBy, SomeGets, TickedAll, TicksOne, NoTick, MayEnd, SaysSo, WhyOver}
use Rattle.tb_pair.specs.Ticking.{CanTick, GetsTicks, GotAll, TicksSeat, TicksEnd, WhyEnds, WhyNoMore, TicksPair, IsCut}
use Rattle.tb_pair.specs.Workers.{IsEarly}

-- the seat that delivers keeps its bus and its right
kept : (bus : TableId) (old new : SeatView) (more : List Entry) → CanTick bus old → Adds old new more → CanTick bus new
kept bus old new more can adds = record { own = adds.bus ∙ can.own; right = ap (λ (r : Rights). has r ToTick) adds.rights ∙ can.right }

pub can_still : (bus : TableId) (old new : SeatView) (answer : Option WorkEnd) → CanTick bus old → Hands input.Tick old new answer → CanTick bus new
can_still bus old new None can h = kept bus old new (Fed input.Tick h.0 ∷ []) can h.1
can_still bus old new (Some end.Down) can h = kept bus old new (Fed input.Tick (Dropped why.Down) ∷ []) can h.0
can_still bus old new (Some end.Stopped) can h = kept bus old new [] can h.0
can_still bus old new (Some end.Full) can h = kept bus old new [] can h.0.adds
can_still bus old new (Some end.NoMemory) can h = kept bus old new [] can h.adds
can_still bus old new (Some end.Over) can h = absurd h
can_still bus old new (Some end.Failed) can h = absurd h

abbrev pub tick_none : (seat : SeatView) → Ticked seat seat 0 None
tick_none seat = record { first = []; adds = adds_none seat; ticks = tt; by = (refl, marks_none seat, tt) }

module _ (a b c : SeatView) (given : ℕ) (t : Ticked a b given None) where
  -- with a tick
  one_more : (reply : Reply) → Adds b c (Fed input.Tick reply ∷ []) → Adds a c (t.first ++ Fed input.Tick reply ∷ [])
  one_more reply adds = adds_on a b c t.first (Fed input.Tick reply ∷ []) t.adds adds

  long : (reply : Reply) → length (t.first ++ Fed input.Tick reply ∷ []) ≡ given + 1
  long reply = let e = t.by.0 in omega (arith, e, length-append t.first (Fed input.Tick reply ∷ []))

  -- without
  no_more : Adds b c [] → Adds a c t.first
  no_more adds = subst (Adds a c) (append-nil t.first) (adds_on a b c t.first [] t.adds adds)

  short : length t.first ≤ given + 1
  short = let e = t.by.0 in omega (arith, e)

  one_less : length t.first + 1 ≡ given + 1
  one_less = let e = t.by.0 in omega (arith, e)

  lower : length t.first < given + 1
  lower = let e = t.by.0 in omega (arith, e)

  pub hands_tick : (answer : Option WorkEnd) → Hands input.Tick b c answer → TickedMore a c (given + 1) None answer
  hands_tick None h = record {
    is = record { first = t.first ++ Fed input.Tick h.0 ∷ []; adds = one_more h.0 h.1; ticks = ticks_append t.first (Fed input.Tick h.0 ∷ []) t.ticks tt; by = (long h.0, marks_both a b c t.by.1 h.2, let_in_both t.first (Fed input.Tick h.0 ∷ []) t.by.2 (ap not h.3, tt)) };
    got = λ e. long h.0;
  }
  hands_tick (Some end.Down) h = record {
    is = record {
      first = t.first ++ Fed input.Tick (Dropped why.Down) ∷ [];
      adds = one_more (Dropped why.Down) h.0;
      ticks = ticks_append t.first (Fed input.Tick (Dropped why.Down) ∷ []) t.ticks tt;
      by = (let e = long (Dropped why.Down) in omega (arith, e), marks_on a b c end.Down t.by.1 h.1, (t.first, Fed input.Tick (Dropped why.Down), refl, t.by.2), h.2);
    };
    got = λ e. inl (long (Dropped why.Down));
  }
  hands_tick (Some end.Stopped) h = record {
    is = record { first = t.first; adds = no_more h.0; ticks = t.ticks; by = (short, marks_on a b c end.Stopped t.by.1 (h.1, h.2), t.by.2, tt) };
    got = λ e. inr (one_less, tt);
  }
  hands_tick (Some end.Full) h = record {
    is = record { first = t.first; adds = no_more h.0.adds; ticks = t.ticks; by = (short, marks_on a b c end.Full t.by.1 (both_marks b c h.0), t.by.2, (lower, found_on (HandIn input.Tick) a b c t.first t.adds h.1)) };
    got = λ e. inr (one_less, tt);
  }
  hands_tick (Some end.NoMemory) h = record {
    is = record { first = t.first; adds = no_more h.adds; ticks = t.ticks; by = (short, marks_on a b c end.NoMemory t.by.1 (both_marks b c h), t.by.2, tt) };
    got = λ e. inr (one_less, tt);
  }
  hands_tick (Some end.Over) h = absurd h
  hands_tick (Some end.Failed) h = absurd h

-- a bus after the notice that no more ticks come, or one that receives none any more
pub record EndsSeat (Cause : Type 0) (begun new : SeatView) (given : ℕ) (state : Option WorkEnd) (count : ℕ) (wanted it : WorkEnd) : Type 0 where
  pub seat : TicksSeat Cause begun new given it
  pub by : (it ≡ wanted) ⊎ IsCut it
  pub gets : state ≡ None → GetsTicks wanted it
  pub got : GotBy state count given → GotAll (length seat.first) given it

module _ (a b c : SeatView) (given : ℕ) (Cause : Type 0) (t : Ticked a b given None) where
  -- no more come
  at_last : (w : WorkEnd) (h : IsHandedIn b c) → LetIn w t.first → Marks b c w → TicksEnd Cause (Fed input.NoTicks h.0 ∷ []) a c (length t.first) given w → EndsSeat Cause a c given None (length t.first) w w
  at_last w h l m e = record {
    seat = record { first = t.first; tail = Fed input.NoTicks h.0 ∷ []; adds = adds_on a b c t.first (Fed input.NoTicks h.0 ∷ []) t.adds h.1; ticks = t.ticks; let_in = l; within = let n = t.by.0 in omega (arith, n); marks = marks_on a b c w t.by.1 m; ends = e };
    by = inl refl;
    gets = λ n. inl refl;
    got = λ n. inl n;
  }

  says : (w : WorkEnd) → MayEnd None w → IsHandedIn b c → EndsSeat Cause a c given None (length t.first) w w
  says end.Over m h = at_last end.Over h t.by.2 h.2 ((h.0, refl), t.by.0)
  says end.Failed m h = at_last end.Failed h t.by.2 h.2 ((h.0, refl), t.by.0)
  says end.Down m h = absurd m
  says end.Stopped m h = absurd m
  says end.Full m h = absurd m
  says end.NoMemory m h = absurd m

  early : (w wanted : WorkEnd) → IsCut w → IsEarly w → LetIn w t.first → Adds b c [] → Marks b c w → TicksEnd Cause [] a c (length t.first) given w → EndsSeat Cause a c given None (length t.first) wanted w
  early w wanted cut is l adds m e = record {
    seat = record { first = t.first; tail = []; adds = adds_on a b c t.first [] t.adds adds; ticks = t.ticks; let_in = l; within = let n = t.by.0 in omega (arith, n); marks = marks_on a b c w t.by.1 m; ends = e };
    by = inr cut;
    gets = λ n. inr is;
    got = λ n. inl n;
  }

  refuses : (wanted it : WorkEnd) → Cause → IsRefused b c it → EndsSeat Cause a c given None (length t.first) wanted it
  refuses wanted end.Stopped why r = early end.Stopped wanted tt tt t.by.2 r.0 (r.1, r.2) refl
  refuses wanted end.Full why r = early end.Full wanted tt tt t.by.2 r.0.adds (both_marks b c r.0) (refl, inr (t.by.0, why, found_on (HandIn input.NoTicks) a b c t.first t.adds r.1))
  refuses wanted end.NoMemory why r = early end.NoMemory wanted tt tt t.by.2 r.adds (both_marks b c r) refl
  refuses wanted end.Over why r = absurd r
  refuses wanted end.Down why r = absurd r
  refuses wanted end.Failed why r = absurd r

  says_so : (wanted it : WorkEnd) → MayEnd None wanted → Cause → EndsAll b c wanted it → EndsSeat Cause a c given None (length t.first) wanted it
  says_so wanted it may why (inl e) = subst (EndsSeat Cause a c given None (length t.first) wanted) (sym e.0) (says wanted may e.1)
  says_so wanted it may why (inr r) = refuses wanted it why r

cut_is : (a b : SeatView) (count given : ℕ) (it : WorkEnd) → CutBy a b count given it → IsCut it
cut_is a b count given end.Over e = absurd e
cut_is a b count given end.Down e = tt
cut_is a b count given end.Stopped e = tt
cut_is a b count given end.Full e = tt
cut_is a b count given end.Failed e = absurd e
cut_is a b count given end.NoMemory e = tt

cut_end : (Cause : Type 0) (a b : SeatView) (count given : ℕ) (it : WorkEnd) → CutBy a b count given it → TicksEnd Cause [] a b count given it
cut_end Cause a b count given end.Over e = absurd e
cut_end Cause a b count given end.Down e = (refl, e)
cut_end Cause a b count given end.Stopped e = refl
cut_end Cause a b count given end.Full e = (refl, inl e)
cut_end Cause a b count given end.Failed e = absurd e
cut_end Cause a b count given end.NoMemory e = refl

-- a bus that gets none any more
cut_before : (Cause : Type 0) (a b : SeatView) (given : ℕ) (it wanted : WorkEnd) → (t : Ticked a b given (Some it)) → EndsSeat Cause a b given (Some it) (length t.first) wanted it
cut_before Cause a b given it wanted t = record {
  seat = record { first = t.first; tail = []; adds = subst (Adds a b) (sym (append-nil t.first)) t.adds; ticks = t.ticks; let_in = t.by.2; within = t.by.0; marks = t.by.1; ends = cut_end Cause a b (length t.first) given it t.by.3 };
  by = inr (cut_is a b (length t.first) given it t.by.3);
  gets = λ n. absurd cc;
  got = λ n. n;
}

pub ends_seat : (state : Option WorkEnd) (Cause : Type 0) (a b c : SeatView) (given : ℕ) (wanted it : WorkEnd) → (t : Ticked a b given state) → MayEnd state wanted → (state ≡ None → Cause) → SaysSo state b c wanted it → EndsSeat Cause a c given state (length t.first) wanted it
ends_seat None Cause a b c given wanted it t may why s = says_so a b c given Cause t wanted it may (why refl) s
ends_seat (Some was) Cause a b c given wanted it t may why s =
    subst (λ (x : SeatView). EndsSeat Cause a x given (Some was) (length t.first) wanted it) (sym s.0)
    (subst (EndsSeat Cause a b given (Some was) (length t.first) wanted) (sym s.1) (cut_before Cause a b given was wanted t))

cut_on : (a b : SeatView) (count given : ℕ) (it : WorkEnd) → CutBy a b count given it → CutBy a b count (given + 1) it
cut_on a b count given end.Over e = absurd e
cut_on a b count given end.Down e = e
cut_on a b count given end.Stopped e = tt
cut_on a b count given end.Full e = (let n = e.0 in omega (arith, n), e.1)
cut_on a b count given end.Failed e = absurd e
cut_on a b count given end.NoMemory e = tt

-- one more was given, which it doesn't get
tick_past : (a b : SeatView) (given : ℕ) (it : WorkEnd) → Ticked a b given (Some it) → Ticked a b (given + 1) (Some it)
tick_past a b given it t = record { first = t.first; adds = t.adds; ticks = t.ticks; by = (let n = t.by.0 in omega (arith, n), t.by.1, t.by.2, cut_on a b (length t.first) given it t.by.3) }

pub past_more : (a b : SeatView) (given : ℕ) (it : WorkEnd) → Ticked a b given (Some it) → TickedMore a b (given + 1) (Some it) (Some it)
past_more a b given it t = record { is = tick_past a b given it t; got = λ n. absurd cc }

pub past_all : (s : Option WorkEnd) (a b : SeatView) (given : ℕ) (it : WorkEnd) → s ≡ Some it → Ticked a b given s → TickedMore a b (given + 1) s s
past_all None a b given it e t = absurd cc
past_all (Some x) a b given it e t = past_more a b given x t

-- which of two buses gets ticks still
pub gets_one : (s o : Option WorkEnd) → SomeGets s o → (s ≡ None) ⊎ (o ≡ None)
gets_one None o e = inl refl
gets_one (Some x) None e = inr refl
gets_one (Some x) (Some y) e = absurd (true≢false e)

-- the clock, from tick to tick
pub record TicksOn (one one_new : SeatView) (state : Option WorkEnd) (other other_new : SeatView) (others : Option WorkEnd) (told_old told_new : Option ClockView) (faults_old faults_new : ℕ) (given : ℕ) : Type 0 where
  pub first : Ticked one one_new given state
  pub second : Ticked other other_new given others
  pub fully : GotBy state (length first.first) given ⊎ GotBy others (length second.first) given
  pub told : told_new ≡ and_ticked told_old given false
  pub calm : faults_new ≡ faults_old

-- both buses, of which one at least got all ticks
record TicksTwo (one other : SeatView) (given : ℕ) (one_new other_new : SeatView) (state others : Option WorkEnd) : Type 0 where
  pub first : Ticked one one_new given state
  pub second : Ticked other other_new given others
  pub fully : GotBy state (length first.first) given ⊎ GotBy others (length second.first) given

pub on_none : (one other : SeatView) (state others : Option WorkEnd) (told : Option ClockView) (faults : ℕ) → state ≡ None → others ≡ None → TicksOn one one state other other others told told faults faults 0
on_none one other None None told faults e f = record { first = tick_none one; second = tick_none other; fully = inl refl; told = sym (ticked_none told); calm = refl }
on_none one other None (Some y) told faults e f = absurd cc
on_none one other (Some x) others told faults e f = absurd cc

module _ (one b c other d e : SeatView) (s1 s2 o1 o2 : Option WorkEnd) (told_a told_b told_c : Option ClockView) (fa fb fc : ℕ) (given : ℕ) (t : TicksOn one b s1 other d o1 told_a told_b fa fb given) where
  pub on_one : TicksOne b c s1 s2 d e o1 o2 told_b told_c fb fc → TicksOn one c s2 other e o2 told_a told_c fa fc (given + 1)
  on_one x = record {
    first = (x.first one given t.first).is;
    second = (x.second other given t.second).is;
    fully = ⊎_elim (λ n. inl ((x.first one given t.first).got n)) (λ n. inr ((x.second other given t.second).got n)) (gets_one s1 o1 x.gets);
    told = x.told ∙ (ap (λ (k : Option ClockView). and_ticked k 1 false) t.told ∙ ticked_on told_a given 1 false);
    calm = x.calm ∙ t.calm;
  }

  rose_since : Rose fb fc → Rose fa fc
  rose_since (inl up) = inl (let same = t.calm in omega (arith, same, up))
  rose_since (inr top) = inr top

  same_count : (n : ℕ) (ended : Bool) → told_c ≡ and_ticked told_b n ended → told_c ≡ and_ticked told_a (given + n) ended
  same_count n ended k = k ∙ (ap (λ (x : Option ClockView). and_ticked x n ended) t.told ∙ ticked_on told_a given n ended)

  none_more : (ended : Bool) → told_c ≡ and_ticked told_a (given + 0) ended → told_c ≡ and_ticked told_a given ended
  none_more ended k = let sum : given + 0 ≡ given = omega arith in k ∙ ap (λ (n : ℕ). and_ticked told_a n ended) sum

  pub on_end : (most : ℕ) (wanted : WorkEnd) → given ≤ most → c ≡ b → e ≡ d → s2 ≡ s1 → o2 ≡ o1 → NoTick s1 o1 told_b told_c fb fc wanted → TickedAll most one c s2 other e o2 told_a told_c fa fc wanted
  on_end most wanted low cb ed ss oo n = go wanted n
    where
      seats : TicksTwo one other given c e s2 o2
      seats =
          subst (λ (x : Option WorkEnd). TicksTwo one other given c e s2 x) (sym oo)
          (subst (λ (x : Option WorkEnd). TicksTwo one other given c e x o1) (sym ss)
          (subst (λ (x : SeatView). TicksTwo one other given c x s1 o1) (sym ed)
          (subst (λ (x : SeatView). TicksTwo one other given x d s1 o1) (sym cb) (record { first = t.first; second = t.second; fully = t.fully }))))

      gets : SomeGets s1 o1 → SomeGets s2 o2
      gets g = subst (λ (s : Option WorkEnd). SomeGets s o2) (sym ss) (subst (SomeGets s1) (sym oo) g)

      cut : (is_some s1 && is_some o1) ≡ true → (is_some s2 && is_some o2) ≡ true
      cut g = ap (λ (s : Option WorkEnd). is_some s && is_some o2) ss ∙ (ap (λ (s : Option WorkEnd). is_some s1 && is_some s) oo ∙ g)

      go : (w : WorkEnd) → NoTick s1 o1 told_b told_c fb fc w → TickedAll most one c s2 other e o2 told_a told_c fa fc w
      go end.Over k = record { given = given; first = seats.first; second = seats.second; fully = seats.fully; ended = true; told = none_more true (same_count 0 true k.0); within = low; why = (k.1 ∙ t.calm, inl (refl, gets k.2)) }
      go end.Failed k = record { given = given; first = seats.first; second = seats.second; fully = seats.fully; ended = false; told = k.0 ∙ t.told; within = low; why = (rose_since k.1, gets k.2) }
      go end.Down k = record { given = given; first = seats.first; second = seats.second; fully = seats.fully; ended = false; told = k.0 ∙ t.told; within = low; why = (k.1 ∙ t.calm, cut k.2) }
      go end.Stopped k = absurd k
      go end.Full k = absurd k
      go end.NoMemory k = absurd k

-- as many were given as there may be
pub on_all : (most : ℕ) (one b other d : SeatView) (s o : Option WorkEnd) (told_a told_b : Option ClockView) (fa fb given : ℕ) → given ≡ most → TicksOn one b s other d o told_a told_b fa fb given → TickedAll most one b s other d o told_a told_b fa fb end.Over
on_all most one b other d s o told_a told_b fa fb given all t =
    record { given = given; first = t.first; second = t.second; fully = t.fully; ended = false; told = t.told; within = omega (arith, all); why = (t.calm, inr all) }

-- in the end
may_all : (wanted : WorkEnd) (most given : ℕ) (ended : Bool) (fa fb : ℕ) (s o : Option WorkEnd) → WhyOver wanted most given ended fa fb s o → MayEnd s wanted × MayEnd o wanted
may_all end.Over most given ended fa fb (Some x) (Some y) w = (tt, tt)
may_all end.Over most given ended fa fb (Some x) None w = (tt, tt)
may_all end.Over most given ended fa fb None (Some y) w = (tt, tt)
may_all end.Over most given ended fa fb None None w = (tt, tt)
may_all end.Failed most given ended fa fb (Some x) (Some y) w = (tt, tt)
may_all end.Failed most given ended fa fb (Some x) None w = (tt, tt)
may_all end.Failed most given ended fa fb None (Some y) w = (tt, tt)
may_all end.Failed most given ended fa fb None None w = (tt, tt)
may_all end.Down most given ended fa fb (Some x) (Some y) w = (tt, tt)
may_all end.Down most given ended fa fb (Some x) None w = absurd (true≢false (sym w.1))
may_all end.Down most given ended fa fb None o w = absurd (true≢false (sym w.1))
may_all end.Stopped most given ended fa fb s o w = absurd w
may_all end.Full most given ended fa fb s o w = absurd w
may_all end.NoMemory most given ended fa fb s o w = absurd w

and_false : (b : Bool) → (b && false) ≡ false
and_false true = refl
and_false false = refl

gets_end : (wanted : WorkEnd) (most given : ℕ) (ended : Bool) (fa fb : ℕ) (s o : Option WorkEnd) → WhyOver wanted most given ended fa fb s o → (s ≡ None) ⊎ (o ≡ None) → WhyNoMore most given ended fa fb
gets_end end.Over most given ended fa fb s o w n = ⊎_elim (λ e. inl e.0) (λ e. inr (inr e)) w.1
gets_end end.Failed most given ended fa fb s o w n = inr (inl w.0)
gets_end end.Down most given ended fa fb s o w (inl n) = absurd (true≢false (sym w.1 ∙ ap (λ (x : Option WorkEnd). is_some x && is_some o) n))
gets_end end.Down most given ended fa fb s o w (inr n) = absurd (true≢false (sym w.1 ∙ (ap (λ (x : Option WorkEnd). is_some s && is_some x) n ∙ and_false (is_some s))))
gets_end end.Stopped most given ended fa fb s o w n = absurd w
gets_end end.Full most given ended fa fb s o w n = absurd w
gets_end end.NoMemory most given ended fa fb s o w n = absurd w

down_cut : (it wanted : WorkEnd) → wanted ≡ end.Down → (it ≡ wanted) ⊎ IsCut it → IsCut it
down_cut it wanted e (inl x) = subst IsCut (sym (x ∙ e)) tt
down_cut it wanted e (inr x) = x

pub all_ends : (most : ℕ) (a b c d e f : SeatView) (s o : Option WorkEnd) (told_old told_new : Option ClockView) (fa fb : ℕ) (wanted x y : WorkEnd) → TickedAll most a b s d e o told_old told_new fa fb wanted → SaysSo s b c wanted x → SaysSo o e f wanted y
    → TicksPair most a c d f told_old told_new fa fb x y
all_ends most a b c d e f s o told_old told_new fa fb wanted x y t says others_says =
    let may = may_all wanted most t.given t.ended fa fb s o t.why in
    let one : EndsSeat (WhyNoMore most t.given t.ended fa fb) a c t.given s (length t.first.first) wanted x = ends_seat s (WhyNoMore most t.given t.ended fa fb) a b c t.given wanted x t.first may.0 (λ n. gets_end wanted most t.given t.ended fa fb s o t.why (inl n)) says in
    let other : EndsSeat (WhyNoMore most t.given t.ended fa fb) d f t.given o (length t.second.first) wanted y = ends_seat o (WhyNoMore most t.given t.ended fa fb) d e f t.given wanted y t.second may.1 (λ n. gets_end wanted most t.given t.ended fa fb s o t.why (inr n)) others_says in
    record {
      given = t.given;
      ended = t.ended;
      told = t.told;
      within = t.within;
      first = one.seat;
      second = other.seat;
      fully = ⊎_elim (λ n. inl (one.got n)) (λ n. inr (other.got n)) t.fully;
      wanted = wanted;
      first_by = one.by;
      second_by = other.by;
      why = go wanted (λ g. ⊎_elim (λ n. inl (one.gets n)) (λ n. inr (other.gets n)) (gets_one s o g)) one.by other.by t.why;
    }
  where
    go : (w : WorkEnd) → (SomeGets s o → GetsTicks w x ⊎ GetsTicks w y) → (x ≡ w) ⊎ IsCut x → (y ≡ w) ⊎ IsCut y → WhyOver w most t.given t.ended fa fb s o → WhyEnds w most t.given t.ended fa fb x y
    go end.Over g p q k = (k.0, ⊎_elim (λ n. inl (n.0, g n.1)) (λ n. inr n) k.1)
    go end.Failed g p q k = (k.0, g k.1)
    go end.Down g p q k = (k.0, down_cut x end.Down refl p, down_cut y end.Down refl q)
    go end.Stopped g p q k = absurd k
    go end.Full g p q k = absurd k
    go end.NoMemory g p q k = absurd k
