-- The claims of a run about time, computed for small logs.
use Rattle.std.proofs.Common.{◌≡◌, ℕ, List, [], ◌∷◌, ◌++◌, inl, inr, refl, ap, sym, ◌∙◌, subst, arith, false, true, Option, Some, None, Bool, ◌+◌}
use Rattle.tb_edge.specs.Ends.{ClockView}
use Rattle.tb_log.specs.declared.entry.Input.TheVariants.{Tick, NoTicks}
use Rattle.tb_log.specs.declared.entry.Reply.{Reply}
use Rattle.tb_log.specs.declared.entry.Reply.TheVariants.{Took, Dropped}
use Rattle.tb_log.specs.declared.entry.Why.TheVariants.{Down}
use Rattle.tb_log.specs.declared.entry.Entry.{Entry}
use Rattle.tb_log.specs.declared.entry.Entry.TheVariants.{Fed}
use Rattle.tb_log.specs.Lanes.{ticks, is_tick_input}
use Rattle.tb_run.specs.Workers.{AreTicks}
use Rattle.tb_run.specs.Clocks.{WhyNoTicks, ClockRan, ClockStopped}
use Rattle.tb_run.proofs.Examples.{no-ticks, not-dropped}

-- a clock that gave so many ticks, and has ended or not
abbrev gave : ℕ → Bool → Option ClockView
gave count ended = Some (record { ticks = count; ended = ended })

abbrev tick : Entry
tick = Fed Tick Took

abbrev last_tick : Entry
last_tick = Fed Tick (Dropped Down)

abbrev no_more : Entry
no_more = Fed NoTicks Took

abbrev ticks_of : Option ClockView → ℕ
ticks_of None = 0
ticks_of (Some view) = view.ticks

abbrev ended_of : Option ClockView → Bool
ended_of None = false
ended_of (Some view) = view.ended

-- there may be one tick: it came, and then it is said that no more come, though the clock goes on
counted : ClockRan (tick ∷ no_more ∷ []) 1 (gave 0 false) (gave 1 false) ⊥
counted = record {
  ended = false;
  told = refl;
  within = omega arith;
  time = record { first = tick ∷ []; tail = no_more ∷ []; is = refl; ticks = tt; last = inr (Took, refl) };
  why = inr (inr (inr refl));
  end = inl (inr (inr refl));
  word = inl (Took, refl);
}

-- there may be none: that is said at once
none-asked : ClockRan (no_more ∷ []) 0 (gave 0 false) (gave 0 false) ⊥
none-asked = record { ended = false; told = refl; within = omega arith; time = no-ticks (no_more ∷ []) Took refl; why = inr (inr (inr refl)); end = inl (inr (inr refl)); word = inl (Took, refl) }

-- a tick was dropped because the bus had shut down: nothing more is said
dropped : ClockRan (tick ∷ last_tick ∷ []) 5 (gave 0 false) (gave 2 false) ⊥
dropped = record {
  ended = false;
  told = refl;
  within = omega arith;
  time = record { first = tick ∷ last_tick ∷ []; tail = []; is = refl; ticks = tt; last = inl refl };
  why = inl refl;
  end = inr (tick ∷ [], Tick, [], refl, refl);
  word = inr (tick ∷ [], Tick, [], refl, refl);
}

-- the tail is said, where it is all
tail-said : (one : Reply) (first tail : List Entry) → Fed NoTicks one ∷ [] ≡ first ++ tail → AreTicks first → tail ≡ [] → ⊥
tail-said one [] tail e are none = let said : ◌≡◌ {A = List Entry} (Fed NoTicks one ∷ []) [] = e ∙ none in cc
tail-said one (entry ∷ first) tail e are none =
    let same : ◌≡◌ {A = Entry} (Fed NoTicks one) entry = cc in
    subst (λ (it : Entry). AreTicks (it ∷ first)) (sym same) are

-- nothing says why no more ticks come: the clock hasn't ended or failed, and there were fewer than there may be
no-cause : (log : List Entry) (most count : ℕ) (ended : Bool) → ticks log ≡ count → (count ≡ most → ⊥) → ended ≡ false → WhyNoTicks log most ⊥ ended → ⊥
no-cause log most count ended e fewer up (inl down) = let both : ◌≡◌ {A = Bool} false true = sym up ∙ down in cc
no-cause log most count ended e fewer up (inr (inl failed)) = failed
no-cause log most count ended e fewer up (inr (inr all)) = fewer (sym e ∙ all)

-- it is said too early
none-early : ClockRan (no_more ∷ []) 1 (gave 0 false) (gave 0 false) ⊥ → ⊥
none-early ran = elim ran.why [
  | inl none ↦ tail-said Took ran.time.first ran.time.tail ran.time.is ran.time.ticks none
  | inr why ↦ no-cause (no_more ∷ []) 1 0 ran.ended refl (λ e. absurd (omega (arith, e))) (sym (ap ended_of ran.told)) why
]

-- a clock isn't read to its end, and the bus didn't shut down
none-unread : ClockRan [] 5 (gave 0 false) (gave 0 false) ⊥ → ⊥
none-unread ran = elim ran.end [
  | inl why ↦ no-cause [] 5 0 ran.ended refl (λ e. absurd (omega (arith, e))) (sym (ap ended_of ran.told)) why
  | inr lost ↦ not-dropped is_tick_input [] refl lost
]

-- there are more ticks than there may be
none-more : ClockRan (tick ∷ tick ∷ no_more ∷ []) 1 (gave 0 false) (gave 2 false) ⊥ → ⊥
none-more ran = absurd (omega (arith, ran.within))

-- two ticks of the clock were made one
none-merged : ClockRan (tick ∷ no_more ∷ []) 5 (gave 0 false) (gave 2 true) ⊥ → ⊥
none-merged ran =
    let same : ◌≡◌ {A = ℕ} 2 1 = ap ticks_of ran.told in
    absurd (omega (arith, same))

-- a run that was stopped may lack the last tick
lacking : ClockStopped [] 1 (gave 0 false) (gave 1 false) ⊥
lacking = record {
  last = 1;
  ended = false;
  told = refl;
  one = omega arith;
  whole = λ e. elim e [ inl up ↦ cc | inr up ↦ cc ];
  within = omega arith;
  time = record { first = []; tail = []; is = refl; ticks = tt; last = inl refl };
  why = inl refl;
}

-- but not two, and none beyond those that there may be
none-two : ClockStopped [] 5 (gave 0 false) (gave 2 false) ⊥ → ⊥
none-two ran =
    let same : ◌≡◌ {A = ℕ} 2 (0 + (ticks [] + ran.last)) = ap ticks_of ran.told in
    absurd (omega (arith, same, ran.one))

none-beyond : ClockStopped [] 0 (gave 0 false) (gave 1 false) ⊥ → ⊥
none-beyond ran =
    let same : ◌≡◌ {A = ℕ} 1 (0 + (ticks [] + ran.last)) = ap ticks_of ran.told in
    absurd (omega (arith, same, ran.within))

-- nor any of a clock that had ended before
none-after_end : (ended : Bool) → ClockStopped [] 5 (gave 0 true) (gave 1 ended) ⊥ → ⊥
none-after_end ended ran =
    let same : ◌≡◌ {A = ℕ} 1 (0 + (ticks [] + ran.last)) = ap ticks_of ran.told in
    absurd (omega (arith, same, ran.whole (inr refl)))
