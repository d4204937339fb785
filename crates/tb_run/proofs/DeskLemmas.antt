-- How the workers at their desks go on.
use Rattle.std.proofs.Common.{◌≡◌, ◌≤◌, ◌<◌, ◌^◌, ℕ, List, [], ◌∷◌, map, true, false, true≢false, Option, Some, None, MatchOption, refl, sym, ap, ◌∙◌, subst, inl, inr, ⊎_elim, arith}
use Rattle.std.specs.Prelude.{slice_get}
use Rattle.std.specs.Option.{is_some}
use Rattle.atomic_table.specs.Seated.{TableId}
use Rattle.tb_edge.specs.Faults.{Rose}
use Rattle.tb_edge.specs.declared.given.Taken.{Taken}
use Rattle.tb_log.specs.declared.entry.Out.{Out}
use Rattle.tb_log.specs.Shapes.{IsLane, IsOutInShape}
use Rattle.tb_lock.specs.declared.rights.Rights.{Rights}
use Rattle.tb_lock.specs.Rights.{Steps as ToStep, Out as Outs, has}
use Rattle.tb_lock.specs.Seats.{SeatView}
use Rattle.tb_run.specs.declared.ends.WorkEnd.{WorkEnd}
use Rattle.tb_run.specs.declared.writer_stage.WriterStage.{WriterStage}
use Rattle.tb_run.specs.declared.writer_stage.WriterStage.TheVariants as stage
use Rattle.tb_run.specs.declared.worker.Work.{Work}
use Rattle.tb_run.specs.Workers.{StepsBus, WritesLane, CountsTo, cut_count}
use Rattle.tb_run.specs.Helpers.Working.{Steps, Writes, Puts}
use Rattle.tb_run.specs.Helpers.Desks.{Begun, begun, all_begun, IsStepping, IsWriting, WentTo, TakesOne, HasStepped, HasWritten, stage_after}
use Rattle.tb_run.proofs.SeatLemmas.{adds_none}
use Rattle.tb_run.proofs.StepLemmas.{steps_none, steps_on, steps_end}
use Rattle.tb_run.proofs.WriteLemmas.{writes_none, writes_on, writes_end, writes_item}

pub not_some : {X : Type 0} (o : Option X) → is_some o ≡ false → o ≡ None
not_some None e = refl
not_some (Some x) e = absurd (true≢false e)

module _ (bus : TableId) (starts : List Begun) (at : ℕ) where
  pub stepper_begins : (seat : SeatView) (start : Begun) → slice_get starts at ≡ Some start → start.seat ≡ seat → seat.bus ≡ bus → has seat.rights ToStep ≡ true → IsStepping bus starts at seat None
  stepper_begins seat start is same own right = record {
    start = start;
    is = is;
    own = ap (λ (s : SeatView). s.bus) same ∙ own;
    right = ap (λ (s : SeatView). has s.rights ToStep) same ∙ right;
    went = subst (λ (s : SeatView). Steps s seat) (sym same) (steps_none seat);
  }

  pub stepper_bus : (seat : SeatView) → IsStepping bus starts at seat None → seat.bus ≡ bus
  stepper_bus seat s = s.went.adds.bus ∙ s.own

  pub stepper_right : (seat : SeatView) → IsStepping bus starts at seat None → has seat.rights ToStep ≡ true
  stepper_right seat s = ap (λ (r : Rights). has r ToStep) s.went.adds.rights ∙ s.right

  pub stepper_goes : (old new : SeatView) (end : Option WorkEnd) → IsStepping bus starts at old None → MatchOption end (Steps old new) (StepsBus old new) → IsStepping bus starts at new end
  stepper_goes old new None s t = record { start = s.start; is = s.is; own = s.own; right = s.right; went = steps_on s.start.seat old new s.went t }
  stepper_goes old new (Some it) s t = record { start = s.start; is = s.is; own = s.own; right = s.right; went = steps_end s.start.seat old new it s.went t }

  pub stepper_ends : (seat : SeatView) (it : WorkEnd) → IsStepping bus starts at seat (Some it) → HasStepped bus starts at seat it
  stepper_ends seat it s = record { start = s.start; is = s.is; went = s.went }

  -- the worker with an index begins in one way
  pub one_start : (a b : Begun) → slice_get starts at ≡ Some a → slice_get starts at ≡ Some b → a ≡ b
  one_start a b one two = cc

  pub stepper_ended : (seat new : SeatView) (start : Begun) (it : WorkEnd) → slice_get starts at ≡ Some start → start.seat ≡ seat → HasStepped bus starts at new it → StepsBus seat new it
  stepper_ended seat new start it is same s = subst (λ (b : SeatView). StepsBus b new it) (ap (λ (b : Begun). b.seat) (one_start s.start start s.is is) ∙ same) s.went

  module _ (lane : ℕ) where
    pub writer_begins : (seat : SeatView) (told : Option (List Taken)) (faults : ℕ) → slice_get starts at ≡ Some (record { seat = seat; lane = lane; told = told; faults = faults }) → seat.bus ≡ bus → IsLane lane → has seat.rights (Outs lane) ≡ true
        → IsWriting bus starts at lane seat told faults stage.Free
    writer_begins seat told faults is own range right = record {
      start = record { seat = seat; lane = lane; told = told; faults = faults };
      is = is;
      own = own;
      lane_is = refl;
      range = range;
      right = right;
      went = writes_none lane seat seat told faults (adds_none seat) (refl, refl);
    }

    pub free_bus : (seat : SeatView) (told : Option (List Taken)) (faults : ℕ) → IsWriting bus starts at lane seat told faults stage.Free → seat.bus ≡ bus
    free_bus seat told faults w = w.went.adds.bus ∙ w.own

    pub free_right : (seat : SeatView) (told : Option (List Taken)) (faults : ℕ) → IsWriting bus starts at lane seat told faults stage.Free → has seat.rights (Outs lane) ≡ true
    free_right seat told faults w = ap (λ (r : Rights). has r (Outs lane)) w.went.adds.rights ∙ w.right

    pub holder_bus : (seat : SeatView) (told : Option (List Taken)) (faults : ℕ) (out : Out) → IsWriting bus starts at lane seat told faults (stage.Holds out) → seat.bus ≡ bus
    holder_bus seat told faults out w = w.went.2.bus ∙ (w.went.1.adds.bus ∙ w.own)

    pub holder_right : (seat : SeatView) (told : Option (List Taken)) (faults : ℕ) (out : Out) → IsWriting bus starts at lane seat told faults (stage.Holds out) → has seat.rights (Outs lane) ≡ true
    holder_right seat told faults out w = ap (λ (r : Rights). has r (Outs lane)) (w.went.2.rights ∙ w.went.1.adds.rights) ∙ w.right

    pub holder_shape : (seat : SeatView) (told : Option (List Taken)) (faults : ℕ) (out : Out) → IsWriting bus starts at lane seat told faults (stage.Holds out) → IsOutInShape out
    holder_shape seat told faults out w = w.went.4

    took : (start : Begun) (old new : SeatView) (told : Option (List Taken)) (faults : ℕ) (it : WriterStage) → WentTo lane start old told faults stage.Free → TakesOne lane old new it → WentTo lane start new told faults it
    took start old new told faults stage.Free w t = writes_on lane start.seat old new start.told told told start.faults faults faults w (writes_none lane old new told faults t.0 t.1)
    took start old new told faults (stage.Holds out) w t = (old, w, t.0, t.1, t.2)
    took start old new told faults (stage.Ended it) w t = writes_end lane start.seat old new start.told told told start.faults faults faults it w (t told faults)

    pub writer_takes : (old new : SeatView) (told : Option (List Taken)) (faults : ℕ) (it : WriterStage) → IsWriting bus starts at lane old told faults stage.Free → TakesOne lane old new it → IsWriting bus starts at lane new told faults it
    writer_takes old new told faults it w t = record { start = w.start; is = w.is; own = w.own; lane_is = w.lane_is; range = w.range; right = w.right; went = took w.start old new told faults it w.went t }

    module _ (out : Out) (old new : SeatView) (told_old told_new : Option (List Taken)) (faults_old faults_new : ℕ) where
      put : (start : Begun) (mid : SeatView) (answer : Option WorkEnd) → Writes lane start.seat mid start.told told_old start.faults faults_old
          → MatchOption answer (Writes lane mid new told_old told_new faults_old faults_new) (WritesLane lane mid new told_old told_new faults_old faults_new) → WentTo lane start new told_new faults_new (stage_after answer)
      put start mid None w t = writes_on lane start.seat mid new start.told told_old told_new start.faults faults_old faults_new w t
      put start mid (Some it) w t = writes_end lane start.seat mid new start.told told_old told_new start.faults faults_old faults_new it w t

      pub writer_puts : (answer : Option WorkEnd) → IsWriting bus starts at lane old told_old faults_old (stage.Holds out) → Puts lane out old new told_old told_new faults_old faults_new answer → IsWriting bus starts at lane new told_new faults_new (stage_after answer)
      writer_puts answer w t = record {
        start = w.start;
        is = w.is;
        own = w.own;
        lane_is = w.lane_is;
        range = w.range;
        right = w.right;
        went = put w.start w.went.0 answer w.went.1 (writes_item lane out w.went.0 old new told_old told_new faults_old faults_new w.went.2 w.went.3 answer t);
      }

      pub writer_put : (was after : WriterStage) (answer : Option WorkEnd) → stage.Holds out ≡ was → after ≡ stage_after answer → IsWriting bus starts at lane old told_old faults_old was → Puts lane out old new told_old told_new faults_old faults_new answer
          → IsWriting bus starts at lane new told_new faults_new after
      writer_put was after answer held goes w t =
          subst (λ (s : WriterStage). IsWriting bus starts at lane new told_new faults_new s) (sym goes)
          (writer_puts answer (subst (λ (s : WriterStage). IsWriting bus starts at lane old told_old faults_old s) (sym held) w) t)

    pub writer_ends : (seat : SeatView) (told : Option (List Taken)) (faults : ℕ) (it : WorkEnd) → IsWriting bus starts at lane seat told faults (stage.Ended it) → HasWritten bus starts at seat told faults it
    writer_ends seat told faults it w = record { start = w.start; is = w.is; went = subst (λ (n : ℕ). WritesLane n w.start.seat seat w.start.told told w.start.faults faults it) (sym w.lane_is) w.went }

  pub writer_ended : (new : SeatView) (told : Option (List Taken)) (faults : ℕ) (start : Begun) (it : WorkEnd) → slice_get starts at ≡ Some start → HasWritten bus starts at new told faults it → WritesLane start.lane start.seat new start.told told start.faults faults it
  writer_ended new told faults start it is w = subst (λ (b : Begun). WritesLane b.lane b.seat new b.told told b.faults faults it) (one_start w.start start w.is is) w.went

-- an outlet that is closed may fail more often
later_counts : (a b c n : ℕ) → b ≤ c → (b < 2 ^ 64 → c < 2 ^ 64) → CountsTo a b n → CountsTo a c n
later_counts a b c n low high (inl p) = inl (omega arith)
later_counts a b c n low high (inr top) = inr (let h = high (omega arith) in omega arith)

later_rose : (a b c : ℕ) → b ≤ c → (b < 2 ^ 64 → c < 2 ^ 64) → Rose a b → Rose a c
later_rose a b c low high (inl up) = inl (omega arith)
later_rose a b c low high (inr top) = inr (let h = high (omega arith) in omega arith)

module _ (lane : ℕ) (old a b : SeatView) (told_old told_a told_b : Option (List Taken)) (faults_old faults_a faults_b : ℕ) where
  pub writes_closed : (it end : WorkEnd) → WritesLane lane old a told_old told_a faults_old faults_a it → b ≡ a → end ≡ it → told_b ≡ told_a → faults_a ≤ faults_b → (faults_a < 2 ^ 64 → faults_b < 2 ^ 64) → WritesLane lane old b told_old told_b faults_old faults_b end
  writes_closed it end w seat same told low high =
      subst (λ (e : WorkEnd). WritesLane lane old b told_old told_b faults_old faults_b e) (sym same)
      (subst (λ (s : SeatView). WritesLane lane old s told_old told_b faults_old faults_b it) (sym seat) (record {
        more = w.more;
        adds = w.adds;
        put = w.put;
        last = w.last;
        handed = w.handed;
        told = told ∙ w.told;
        starts = w.starts;
        lacks = w.lacks;
        rose = ⊎_elim (λ e. inl e) (λ r. inr (later_rose faults_old faults_a faults_b low high r)) w.rose;
        counts = record {
          cuts = later_counts faults_old faults_a faults_b (cut_count lane w.more) low high w.counts.cuts;
          never_falls = let n = w.counts.never_falls in omega arith;
          fits = λ h. high (w.counts.fits h);
        };
        marks = w.marks;
        ends = w.ends;
      }))

-- how the workers begin, by their seats and works
pub all_begun_is : {I O X : Type 0} (told : O → Option (List Taken)) (faults : O → ℕ) (seat : X → SeatView) (work : X → Work I O) (xs : List X)
    → map (λ x. begun told faults (seat x) (work x)) xs ≡ all_begun told faults (map seat xs) (map work xs)
all_begun_is told faults seat work [] = refl
all_begun_is told faults seat work (x ∷ xs) = ap (λ (bs : List Begun). begun told faults (seat x) (work x) ∷ bs) (all_begun_is told faults seat work xs)
