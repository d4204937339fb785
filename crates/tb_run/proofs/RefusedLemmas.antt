-- The claims of a run about a worker of a lane whose call was rejected because the log was full.
use Rattle.std.proofs.Common.{◌≡◌, ◌⊎◌, ℕ, List, [], ◌∷◌, ◌++◌, true, false, sym, ap, ◌∙◌, subst, inl, inr, append_assoc}
use Rattle.tb_edge.specs.Ends.{and_given}
use Rattle.tb_edge.specs.Faults.{Rose}
use Rattle.tb_edge.specs.declared.given.Given.{Given}
use Rattle.tb_log.specs.declared.entry.Input.TheVariants as input
use Rattle.tb_log.specs.declared.entry.Out.{Out}
use Rattle.tb_log.specs.declared.entry.Entry.{Entry}
use Rattle.tb_log.specs.Lanes.{inputs, sent}
use Rattle.tb_core.specs.Cores.{Call, HandIn, HandOut, MakeStep}
use Rattle.tb_lock.specs.Rights.{In, Out as Outs, has}
use Rattle.tb_lock.specs.Seats.{SeatView}
use Rattle.tb_run.specs.declared.ends.WorkEnd.{WorkEnd}
use Rattle.tb_run.specs.declared.ends.WorkEnd.TheVariants as end
use Rattle.tb_run.specs.Reasons.{is_full_end}
use Rattle.tb_run.specs.Refusals.{CutRefused, HadNoRoom, LaneRefused}
use Rattle.tb_run.specs.Seats.{FoundFull}
use Rattle.tb_run.specs.Views.{LaneView}
use Rattle.tb_run.specs.Workers.{AreLines, ReadsLane, StepsBus, WriterEnds, WritesLane}
use Rattle.tb_run.proofs.JoinLemmas.{Kept}
use Rattle.tb_run.proofs.LaneLemmas.{own_is}
use Rattle.tb_run.proofs.Projections.{inputs_own, sent_own}

-- the last seat has seen the place at which the log had no capacity for a call of another
pub no_room : (call : Call) (begun done last : SeatView) → done.origin ≡ last.origin → Kept last done → FoundFull call begun done → HadNoRoom call last.origin last.seen
no_room call begun done last same kept full = record {
  core = full.core;
  may = full.may;
  origin_is = full.origin ∙ same;
  rest = full.rest ++ kept.rest;
  is = kept.begins ∙ (ap (λ (s : List Entry). s ++ kept.rest) full.seen ∙ append_assoc full.core.log full.rest kept.rest);
  full = full.full;
}

pub reader_refused : (lane : ℕ) (last begun done : SeatView) (old new : LaneView) (it : WorkEnd) → ReadsLane lane begun done old.gave new.gave it → is_full_end it ≡ true →
    has begun.rights (In lane) ≡ true → begun.seen ≡ [] → done.origin ≡ last.origin → Kept last done → LaneRefused last.origin last.seen lane old new
reader_refused lane last begun done old new end.Full r full right fresh same kept =
    let e = r.ends in
    let gave : inputs last.seen lane ≡ inputs r.more lane = sym (inputs_own begun.rights lane right last.seen) ∙ ap (λ (s : List Entry). inputs s lane) (own_is begun done last r.more fresh r.adds kept) in
    inl (record {
      fed = r.fed;
      last = e.0;
      gave = r.told ∙ ap (λ (g : List Given). and_given old.gave (r.fed ++ g) false) e.2;
      lines = subst (AreLines lane r.fed) (sym gave) r.lines;
      input = e.1;
      stands = e.3;
      no_room = no_room (HandIn e.1) begun done last same kept e.4;
    })
reader_refused lane last begun done old new end.Over r full right fresh same kept = absurd cc
reader_refused lane last begun done old new end.Down r full right fresh same kept = absurd cc
reader_refused lane last begun done old new end.Stopped r full right fresh same kept = absurd cc
reader_refused lane last begun done old new end.Failed r full right fresh same kept = absurd cc
reader_refused lane last begun done old new end.NoMemory r full right fresh same kept = absurd cc

rose_of : (lost : List Out) (out : Out) (faults_old faults_new : ℕ) → (lost ≡ []) ⊎ Rose faults_old faults_new → lost ≡ out ∷ [] → Rose faults_old faults_new
rose_of lost out faults_old faults_new (inr rose) is = rose
rose_of lost out faults_old faults_new (inl none) is = absurd (let both : ◌≡◌ {A = List Out} [] (out ∷ []) = sym none ∙ is in cc)

pub writer_refused : (lane : ℕ) (last begun done : SeatView) (old new : LaneView) (it : WorkEnd) → WritesLane lane begun done old.took new.took old.outlet_faults new.outlet_faults it → is_full_end it ≡ true →
    has begun.rights (Outs lane) ≡ true → begun.seen ≡ [] → done.origin ≡ last.origin → Kept last done → LaneRefused last.origin last.seen lane old new
writer_refused lane last begun done old new end.Full w full right fresh same kept = inr (by w.ends)
  where
    went : sent last.seen lane ≡ w.put ++ w.last
    went = sym (sent_own begun.rights lane right last.seen) ∙ (ap (λ (s : List Entry). sent s lane) (own_is begun done last w.more fresh w.adds kept) ∙ w.handed)

    by : WriterEnds lane w.last begun done end.Full → HadNoRoom (HandOut lane) last.origin last.seen ⊎ CutRefused last.origin last.seen lane old new
    by (inl e) = inl (no_room (HandOut lane) begun done last same kept e.1)
    by (inr e) = inr (record {
      put = w.put;
      last = e.0;
      handed = went ∙ ap (λ (s : List Out). w.put ++ s) e.1;
      took = w.told;
      failed = rose_of w.last e.0 old.outlet_faults new.outlet_faults w.rose e.1;
      no_room = no_room (HandIn (input.Cut lane)) begun done last same kept e.2;
    })
writer_refused lane last begun done old new end.Over w full right fresh same kept = absurd cc
writer_refused lane last begun done old new end.Down w full right fresh same kept = absurd cc
writer_refused lane last begun done old new end.Stopped w full right fresh same kept = absurd cc
writer_refused lane last begun done old new end.Failed w full right fresh same kept = absurd cc
writer_refused lane last begun done old new end.NoMemory w full right fresh same kept = absurd cc

pub stepper_refused : (last begun done : SeatView) (it : WorkEnd) → StepsBus begun done it → is_full_end it ≡ true → done.origin ≡ last.origin → Kept last done → HadNoRoom MakeStep last.origin last.seen
stepper_refused last begun done end.Full s full same kept = no_room MakeStep begun done last same kept s.ends
stepper_refused last begun done end.Over s full same kept = absurd cc
stepper_refused last begun done end.Down s full same kept = absurd cc
stepper_refused last begun done end.Stopped s full same kept = absurd cc
stepper_refused last begun done end.Failed s full same kept = absurd cc
stepper_refused last begun done end.NoMemory s full same kept = absurd cc
