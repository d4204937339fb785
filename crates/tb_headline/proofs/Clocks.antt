-- What a log states about the clock after a complete run, and after an interrupted one.
use Rattle.std.proofs.Common.{◌≡◌, ◌+◌, ◌⊎◌, ℕ, List, [], Bool, ◌||◌, Option, Some, None, refl, sym, ap, ◌∙◌, subst, inl, inr, arith}
use Rattle.std.specs.Prelude.{IfSome}
use Rattle.tb_edge.specs.Ends.{ClockView, and_ticked}
use Rattle.tb_headline.specs.Words.{EndsTicks, IsTickedToEnd, Ticked}
use Rattle.tb_headline.proofs.Lanes.{or-right}
use Rattle.tb_log.specs.Lanes.{is_tick_input, ticks}
use Rattle.tb_log.specs.declared.entry.Entry.{Entry}
use Rattle.tb_run.specs.Clocks.{ClockRan, ClockStopped, TimeIs, WhyNoTicks}
use Rattle.tb_run.specs.Dropping.{HasDropped}

-- what a clock reports of its end
pub end-told : (P : Bool → Type 0) (old new : Option ClockView) (count : ℕ) (ended : Bool) → new ≡ and_ticked old count ended → ((b : Bool) → P (b || ended)) → IfSome new (λ view. P view.ended)
end-told P old new count ended is holds = subst (λ (told : Option ClockView). IfSome told (λ view. P view.ended)) (sym is) (by old) where
  by : (it : Option ClockView) → IfSome (and_ticked it count ended) (λ view. P view.ended)
  by None = tt
  by (Some view) = holds view.ended

pub why-told : (log : List Entry) (most : ℕ) (Failed : Type 0) (ended b : Bool) → WhyNoTicks log most Failed ended → WhyNoTicks log most Failed (b || ended)
why-told log most Failed ended b (inl e) = inl (or-right b ended e)
why-told log most Failed ended b (inr more) = inr more

module _ (log : List Entry) (most : ℕ) (Failed : Type 0) (old new : Option ClockView) where
  pub ends-ticks : (time : TimeIs log) (count : ℕ) (ended : Bool) → new ≡ and_ticked old count ended → (time.tail ≡ []) ⊎ WhyNoTicks log most Failed ended → EndsTicks most Failed log new
  ends-ticks time count ended told (inl none) = record { time = time; why = inl none }
  ends-ticks time count ended told (inr why) =
      record { time = time; why = inr (end-told (λ b. WhyNoTicks log most Failed b) old new count ended told (λ b. why-told log most Failed ended b why)) }

  pub ran-ticked : ClockRan log most old new Failed → Ticked 0 most log old new
  ran-ticked clock =
      let none : ticks log ≡ ticks log + 0 = omega arith in
      record {
        last = 0;
        ended = clock.ended;
        gave = clock.told ∙ ap (λ (n : ℕ). and_ticked old n clock.ended) none;
        few = omega arith;
        whole = λ h. refl;
        within = let within = clock.within in omega (arith, within);
      }

  pub ran-ends : ClockRan log most old new Failed → EndsTicks most Failed log new
  ran-ends clock = ends-ticks clock.time (ticks log) clock.ended clock.told clock.why

  over-told : (ended b : Bool) → WhyNoTicks log most Failed ended ⊎ HasDropped is_tick_input log → WhyNoTicks log most Failed (b || ended) ⊎ HasDropped is_tick_input log
  over-told ended b (inl why) = inl (why-told log most Failed ended b why)
  over-told ended b (inr dropped) = inr dropped

  pub ran-over : ClockRan log most old new Failed → IsTickedToEnd most Failed log new
  ran-over clock =
      end-told (λ b. WhyNoTicks log most Failed b ⊎ HasDropped is_tick_input log) old new (ticks log) clock.ended clock.told (λ b. over-told clock.ended b clock.end)

  pub stopped-ticked : ClockStopped log most old new Failed → Ticked 1 most log old new
  stopped-ticked clock =
      record { last = clock.last; ended = clock.ended; gave = clock.told; few = clock.one; whole = clock.whole; within = clock.within }

  pub stopped-ends : ClockStopped log most old new Failed → EndsTicks most Failed log new
  stopped-ends clock = ends-ticks clock.time (ticks log + clock.last) clock.ended clock.told clock.why
