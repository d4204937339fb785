-- A bus stays sound when a tool's value or event comes or is taken, when a tool receives a question or an order, and when an item is sent.
use Rattle.std.proofs.Common.{◌≡◌, ◌-◌, ℕ, List, [], ◌∷◌, length, sym, subst, ◌∙◌, arith, Option, Some, None, Bool, false, IsTrue, codes}
use Rattle.std.proofs.lemmas.List.{length-set}
use Rattle.tb_terms.specs.declared.term.Term.{Term}
use Rattle.tb_process_steps.specs.WalkerViews.{View}
use Rattle.tb_log.specs.Shapes.{IsLane}
use Rattle.tb_log.specs.declared.entry.Out.{Out}
use Rattle.tb_log.specs.declared.entry.ToolLine.TheVariants.{Value, Event, Bad}
use Rattle.tb_log.specs.declared.entry.Why.{Why}
use Rattle.tb_tools.specs.Lanes.{BenchState, Lane, is_free, lane_at, on_lane, tool_at, with_out}
use Rattle.tb_tools.specs.Acts.{acknowledged, asked, can_ack, can_eval, event_taken, handed_out, told, tool_line, value_taken, with_acknowledged, with_question, with_received, without_answer, without_out}
use Rattle.tb_tools.specs.Finding.{next_out}
use Rattle.tb_tools.specs.Inputs.{answered, dropped, line_by, put_line, with_event}
use Rattle.tb_bus.specs.Exchanges.{with_told}
use Rattle.tb_living.proofs.LaneLemmas.{acknowledged-less, asked-less, bad-same, event-apart, event_taken-apart, handed-less, told-less, value-apart, value_taken-apart}
use Rattle.tb_core.specs.Helpers.LiveBuses.{AreRoused, IsSound}
use Rattle.tb_core.specs.declared.bus.LiveBus.{LiveBus}
use Rattle.tb_core.proofs.RouseLemmas.{sound-apart, sound-still}

-- all lanes stay there where one changes
on-long : (change : Lane → Lane) (lane : ℕ) (bench : BenchState) → length bench.lanes ≡ 16 → length (on_lane change lane bench).lanes ≡ 16
on-long change lane bench long = length-set bench.lanes (lane - 1) (change (lane_at lane bench)) ∙ long

told-long : (change : Term → ℕ → BenchState → BenchState) → ((term : Term) (lane : ℕ) (bench : BenchState) → length bench.lanes ≡ 16 → length (change term lane bench).lanes ≡ 16) →
    (terms : List Term) (lane : ℕ) (bench : BenchState) → length bench.lanes ≡ 16 → length (with_told change terms lane bench).lanes ≡ 16
told-long change h [] lane bench long = long
told-long change h (term ∷ terms) lane bench long = h term lane bench long

value-long : (declared : Bool) (value : Term) (lane : ℕ) (bench : BenchState) → length bench.lanes ≡ 16 → length (put_line declared (Value value) lane bench).bench.lanes ≡ 16
value-long declared value lane bench long = by (dropped declared (Value value) (lane_at lane bench))
  where
    by : (why : Option Why) → length (line_by why (Value value) lane bench).bench.lanes ≡ 16
    by None = on-long (answered value) lane bench long
    by (Some why) = long

event-long : (declared : Bool) (terms : List Term) (lane : ℕ) (bench : BenchState) → length bench.lanes ≡ 16 → length (put_line declared (Event terms) lane bench).bench.lanes ≡ 16
event-long declared terms lane bench long = by (dropped declared (Event terms) (lane_at lane bench))
  where
    by : (why : Option Why) → length (line_by why (Event terms) lane bench).bench.lanes ≡ 16
    by None = on-long (with_event terms) lane bench long
    by (Some why) = long

acknowledged-long : (place lane : ℕ) (bench : BenchState) → length bench.lanes ≡ 16 → length (acknowledged place lane bench).lanes ≡ 16
acknowledged-long place lane bench long = on-long (with_acknowledged place) lane bench long

-- who was roused is so in the bus that follows
pub roused-since : {W P T : Type 0} (old mid : LiveBus W P T) (lane : ℕ) → mid ≡ record old { index = mid.index; roused = mid.roused } → AreRoused (tool_at lane old.bench) mid.index old.living.items →
    AreRoused (tool_at lane mid.bench) mid.index mid.living.items
roused-since {W = W} {P = P} {T = T} old mid lane alone roused = subst (λ (b : LiveBus W P T). AreRoused (tool_at lane b.bench) mid.index b.living.items) (sym alone) roused

module _ {W P T : Type 0} (view : View P W T) (bus : LiveBus W P T) (sound : IsSound view bus) where
  -- who speaks with the tool of a lane is awake
  module _ (lane : ℕ) (roused : AreRoused (tool_at lane bus.bench) bus.index bus.living.items) where
    pub quiet-value_taken : IsSound view (record bus { bench = value_taken lane bus.bench })
    quiet-value_taken =
        sound-apart view bus (value_taken lane bus.bench) sound (on-long without_answer lane bus.bench sound.lanes) (tool_at lane bus.bench) roused
        (λ body does apart. value_taken-apart body bus.origin.program.tools lane bus.bench does apart)

    pub quiet-event_taken : (place : ℕ) → IsSound view (record bus { bench = event_taken place lane bus.bench })
    quiet-event_taken place =
        sound-apart view bus (event_taken place lane bus.bench) sound (on-long (with_received place) lane bus.bench sound.lanes) (tool_at lane bus.bench) roused
        (λ body does apart. event_taken-apart body bus.origin.program.tools place lane bus.bench does apart)

    pub quiet-value : (declared : Bool) (value : Term) → IsSound view (record bus { bench = (put_line declared (Value value) lane bus.bench).bench })
    quiet-value declared value =
        sound-apart view bus (put_line declared (Value value) lane bus.bench).bench sound (value-long declared value lane bus.bench sound.lanes) (tool_at lane bus.bench) roused
        (λ body does apart. value-apart body bus.origin.program.tools declared value lane bus.bench does apart)

    pub quiet-event : (declared : Bool) (terms : List Term) → IsSound view (record bus { bench = (put_line declared (Event terms) lane bus.bench).bench })
    quiet-event declared terms =
        sound-apart view bus (put_line declared (Event terms) lane bus.bench).bench sound (event-long declared terms lane bus.bench sound.lanes) (tool_at lane bus.bench) roused
        (λ body does apart. event-apart body bus.origin.program.tools declared terms lane bus.bench does apart)

  -- nobody may begin more

  pub quiet-asked : (terms : List Term) (lane : ℕ) → IsTrue (can_eval lane bus.bench) → IsSound view (record bus { bench = with_told asked terms lane bus.bench })
  quiet-asked terms lane can =
      sound-still view bus (with_told asked terms lane bus.bench) sound (told-long asked (λ term lane bench long. on-long (with_question term) lane bench long) terms lane bus.bench sound.lanes)
      (λ body does. asked-less body bus.origin.program.tools terms lane bus.bench does can)

  pub quiet-told : (terms : List Term) (lane : ℕ) → IsTrue (can_eval lane bus.bench) → IsSound view (record bus { bench = with_told told terms lane bus.bench })
  quiet-told terms lane can =
      sound-still view bus (with_told told terms lane bus.bench) sound (told-long told (λ term lane bench long. on-long (with_out (tool_line (codes "rec-do") (term ∷ []))) lane bench long) terms lane bus.bench sound.lanes)
      (λ body does. told-less body bus.origin.program.tools terms lane bus.bench does can)

  pub quiet-acknowledged : (place lane : ℕ) → IsTrue (can_ack place lane bus.bench) → IsSound view (record bus { bench = acknowledged place lane bus.bench })
  quiet-acknowledged place lane can =
      sound-still view bus (acknowledged place lane bus.bench) sound (acknowledged-long place lane bus.bench sound.lanes)
      (λ body does. acknowledged-less body bus.origin.program.tools place lane bus.bench does can)

  pub quiet-bad : (declared : Bool) (lane : ℕ) → IsSound view (record bus { bench = (put_line declared Bad lane bus.bench).bench })
  quiet-bad declared lane = subst (λ (bench : BenchState). IsSound view (record bus { bench = bench })) (sym (bad-same declared lane bus.bench)) sound

  pub quiet-handed : (lane : ℕ) (out : Out) → IsLane lane → next_out lane bus.bench ≡ Some out → is_free (lane_at lane (handed_out lane bus.bench)) ≡ false → IsSound view (record bus { bench = handed_out lane bus.bench })
  quiet-handed lane out here next busy =
      let long = sound.lanes in
      sound-still view bus (handed_out lane bus.bench) sound (on-long without_out lane bus.bench long)
      (λ body does. handed-less body bus.origin.program.tools lane bus.bench out does (omega (arith, here.0, here.1, long)) next busy)
