-- The claims of a run about a lane, from the effects of its two workers and from how their seats were joined.
use Rattle.std.proofs.Common.{◌≡◌, ◌≤◌, ◌⊎◌, ℕ, List, [], ◌∷◌, ◌++◌, map, length, Bool, true, false, ◌||◌, is_some, refl, sym, ap, ◌∙◌, subst, inl, inr, ⊎_elim, append_assoc, append-nil, arith}
use Rattle.std.proofs.lemmas.List.{nil_from_length}
use Rattle.tb_edge.specs.Ends.{and_given, and_taken}
use Rattle.tb_edge.specs.declared.given.Given.{Given}
use Rattle.tb_log.specs.declared.entry.Reply.TheVariants.{Dropped}
use Rattle.tb_log.specs.declared.entry.Why.TheVariants as why
use Rattle.tb_log.specs.declared.entry.Out.{Out}
use Rattle.tb_log.specs.declared.entry.Entry.{Entry}
use Rattle.tb_log.specs.declared.entry.Entry.TheVariants.{Fed}
use Rattle.tb_log.specs.Lanes.{inputs, sent}
use Rattle.tb_tool_line.specs.Sending.{taken_of}
use Rattle.tb_lock.specs.declared.rights.Rights.{Rights}
use Rattle.tb_lock.specs.Rights.{In, Out as Outs, has, own}
use Rattle.tb_lock.specs.Seats.{SeatView}
use Rattle.tb_run.specs.declared.ends.WorkEnd.{WorkEnd}
use Rattle.tb_run.specs.declared.ends.WorkEnd.TheVariants as end
use Rattle.tb_run.specs.Seats.{Adds}
use Rattle.tb_run.specs.Workers.{ReadsLane, WritesLane, AreLines, CountsTo, cut_count, ends_over, was_over, MayLack, ReaderEnds}
use Rattle.tb_run.specs.Outcomes.{LaneRan, LaneStopped, is_of}
use Rattle.tb_run.specs.Views.{LaneView}
use Rattle.tb_run.specs.Dropping.{HasDropped}
use Rattle.tb_run.proofs.JoinLemmas.{Kept}
use Rattle.tb_run.proofs.Projections.{inputs_own, sent_own, cut_count_own}

-- the log has, of the rights of a worker, just the entries that it has added
pub own_is : (begun done last : SeatView) (more : List Entry) → begun.seen ≡ [] → Adds begun done more → Kept last done → own begun.rights last.seen ≡ more
own_is begun done last more fresh adds kept =
    kept.keeps begun.rights (λ right h. subst (λ (r : Rights). has r right ≡ true) (sym adds.rights) h)
    ∙ (adds.adds ∙ ap (λ (s : List Entry). own begun.rights s ++ more) fresh)

or_cases : (a b : Bool) → (a || b) ≡ true → (a ≡ true) ⊎ (b ≡ true)
or_cases true b e = inl refl
or_cases false b e = inr e

second_none : {A : Type 0} (xs ys : List A) → xs ++ ys ≡ [] → ys ≡ []
second_none [] ys e = e
second_none (x ∷ xs) ys e = absurd cc

-- a worker that has come to the end of its work
abbrev pub IsWhole : WorkEnd → Type 0
IsWhole end.Over = Unit {0}
IsWhole end.Down = Unit {0}
IsWhole end.Stopped = ⊥
IsWhole end.Full = ⊥
IsWhole end.Failed = ⊥
IsWhole end.NoMemory = ⊥

module _ (lane : ℕ) (last : SeatView) (old new : LaneView) (read_begun read_done write_begun write_done : SeatView) (read_end write_end : WorkEnd)
    (read : ReadsLane lane read_begun read_done old.gave new.gave read_end)
    (write : WritesLane lane write_begun write_done old.took new.took old.outlet_faults new.outlet_faults write_end) where
  nothing_lacks : {A : Type 0} (it : WorkEnd) (xs : List A) → IsWhole it → MayLack it (length xs) → xs ≡ []
  nothing_lacks end.Over xs w e = nil_from_length xs e
  nothing_lacks end.Down xs w e = nil_from_length xs e
  nothing_lacks end.Stopped xs w e = absurd w
  nothing_lacks end.Full xs w e = absurd w
  nothing_lacks end.Failed xs w e = absurd w
  nothing_lacks end.NoMemory xs w e = absurd w

  read_to_end : (it : WorkEnd) → IsWhole it → ReaderEnds lane read.last read_begun read_done it → Kept last read_done → (ends_over it ≡ true) ⊎ HasDropped (is_of lane) last.seen
  read_to_end end.Over w e kept = inl refl
  read_to_end end.Down w e kept =
      inr (e.2.0, e.0, kept.rest, ap is_some e.1, kept.begins ∙ (ap (λ (s : List Entry). s ++ kept.rest) e.2.1 ∙ append_assoc e.2.0 (Fed e.0 (Dropped why.Down) ∷ []) kept.rest))
  read_to_end end.Stopped w e kept = absurd w
  read_to_end end.Full w e kept = absurd w
  read_to_end end.Failed w e kept = absurd w
  read_to_end end.NoMemory w e kept = absurd w

  pub lane_ran : has read_begun.rights (In lane) ≡ true → has write_begun.rights (Outs lane) ≡ true → read_begun.seen ≡ [] → write_begun.seen ≡ [] → Kept last read_done → Kept last write_done → IsWhole read_end → IsWhole write_end → LaneRan last.seen lane old new
  lane_ran in_right out_right read_fresh write_fresh read_kept write_kept read_whole write_whole =
      let reads : own read_begun.rights last.seen ≡ read.more = own_is read_begun read_done last read.more read_fresh read.adds read_kept in
      let writes : own write_begun.rights last.seen ≡ write.more = own_is write_begun write_done last write.more write_fresh write.adds write_kept in
      let no_rest : read.last ≡ [] = nothing_lacks read_end read.last read_whole read.lacks in
      let no_lost : write.last ≡ [] = nothing_lacks write_end write.last write_whole write.lacks in
      let gave : inputs last.seen lane ≡ inputs read.more lane = sym (inputs_own read_begun.rights lane in_right last.seen) ∙ ap (λ (s : List Entry). inputs s lane) reads in
      let went : sent last.seen lane ≡ write.put =
      sym (sent_own write_begun.rights lane out_right last.seen) ∙ (ap (λ (s : List Entry). sent s lane) writes ∙ (write.handed ∙ (ap (λ (s : List Out). write.put ++ s) no_lost ∙ append-nil write.put))) in
      let cut : cut_count lane last.seen ≡ cut_count lane write.more = sym (cut_count_own write_begun.rights lane out_right last.seen) ∙ ap (cut_count lane) writes in
      record {
        given = read.fed;
        over = ends_over read_end;
        gave = read.told ∙ ap (λ (g : List Given). and_given old.gave g (ends_over read_end)) (ap (λ (g : List Given). read.fed ++ g) no_rest ∙ append-nil read.fed);
        lines = subst (AreLines lane read.fed) (sym gave) read.lines;
        end = read_to_end read_end read_whole read.ends read_kept;
        took = write.told ∙ ap (λ (s : List Out). and_taken old.took (map taken_of s)) (sym went);
        cuts = subst (CountsTo old.outlet_faults new.outlet_faults) (sym cut) write.counts.cuts;
      }

  at_most_one : {A : Type 0} (it : WorkEnd) (xs : List A) → MayLack it (length xs) → length xs ≤ 1
  at_most_one end.Over xs m = omega arith
  at_most_one end.Down xs m = omega arith
  at_most_one end.Failed xs m = omega arith
  at_most_one end.Stopped xs m = m
  at_most_one end.Full xs m = m
  at_most_one end.NoMemory xs m = m

  whole_where_over : {A : Type 0} (it : WorkEnd) (xs : List A) → MayLack it (length xs) → ends_over it ≡ true → xs ≡ []
  whole_where_over end.Over xs m e = nil_from_length xs m
  whole_where_over end.Down xs m e = nil_from_length xs m
  whole_where_over end.Failed xs m e = nil_from_length xs m
  whole_where_over end.Stopped xs m e = cc
  whole_where_over end.Full xs m e = cc
  whole_where_over end.NoMemory xs m e = cc

  pub lane_stopped : has read_begun.rights (In lane) ≡ true → has write_begun.rights (Outs lane) ≡ true → read_begun.seen ≡ [] → write_begun.seen ≡ [] → Kept last read_done → Kept last write_done → LaneStopped last.seen lane old new
  lane_stopped in_right out_right read_fresh write_fresh read_kept write_kept =
      let reads : own read_begun.rights last.seen ≡ read.more = own_is read_begun read_done last read.more read_fresh read.adds read_kept in
      let writes : own write_begun.rights last.seen ≡ write.more = own_is write_begun write_done last write.more write_fresh write.adds write_kept in
      let gave : inputs last.seen lane ≡ inputs read.more lane = sym (inputs_own read_begun.rights lane in_right last.seen) ∙ ap (λ (s : List Entry). inputs s lane) reads in
      let went : sent last.seen lane ≡ write.put ++ write.last = sym (sent_own write_begun.rights lane out_right last.seen) ∙ (ap (λ (s : List Entry). sent s lane) writes ∙ write.handed) in
      let cut : cut_count lane last.seen ≡ cut_count lane write.more = sym (cut_count_own write_begun.rights lane out_right last.seen) ∙ ap (cut_count lane) writes in
      record {
        fed = read.fed;
        last = read.last;
        over = ends_over read_end;
        gave = read.told;
        lines = subst (AreLines lane read.fed) (sym gave) read.lines;
        one = at_most_one read_end read.last read.lacks;
        whole = λ e. ⊎_elim (whole_where_over read_end read.last read.lacks) (λ was. second_none read.fed read.last (read.none was)) (or_cases (ends_over read_end) (was_over old.gave) e);
        put = write.put;
        lost = write.last;
        handed = went;
        took = write.told;
        one_lost = at_most_one write_end write.last write.lacks;
        failed = write.rose;
        cuts = subst (CountsTo old.outlet_faults new.outlet_faults) (sym cut) write.counts.cuts;
      }
