-- What the logs of both workers show, once their seats have joined all others of their bus, and the two ends of the ring have met.
use Rattle.std.proofs.Common.{◌≡◌, ◌⊎◌, List, [], ◌∷◌, ◌++◌, Bool, true, false, cond, sym, ap, ◌∙◌, subst, append_assoc, append-nil, inl, inr, ⊎_elim}
use Rattle.std.specs.List.{filter_map}
use Rattle.std.specs.Prelude.{filter}
use Rattle.atomic_table.specs.Seated.{TableId}
use Rattle.tb_terms.specs.declared.term.Term.{Term}
use Rattle.tb_log.specs.declared.entry.Input.{Input}
use Rattle.tb_log.specs.declared.entry.Entry.{Entry}
use Rattle.tb_log.specs.declared.entry.Entry.TheVariants.{Fed}
use Rattle.tb_log.specs.declared.entry.Reply.TheVariants.{Dropped}
use Rattle.tb_log.specs.declared.entry.Why.TheVariants as why
use Rattle.tb_log.specs.Lanes.{inputs}
use Rattle.tb_lock.specs.declared.rights.Rights.{Rights}
use Rattle.tb_lock.specs.Rights.{Out as Outs, has, own, right_of}
use Rattle.tb_lock.specs.Seats.{SeatView}
use Rattle.tb_run.specs.declared.ends.WorkEnd.{WorkEnd}
use Rattle.tb_run.specs.declared.ends.WorkEnd.TheVariants as end
use Rattle.tb_run.specs.Dropping.{HasDropped}
use Rattle.tb_run.specs.Outcomes.{is_of}
use Rattle.tb_run.specs.Workers.{cut_count}
use Rattle.tb_run.specs.Seats.{Adds}
use Rattle.tb_run.proofs.JoinLemmas.{Kept}
use Rattle.tb_run.proofs.Projections.{handed_own, inputs_own, cut_count_own}
use Rattle.tb_pair.specs.declared.piece.Piece.{Piece}
use Rattle.tb_pair.proofs.OnceLemmas.{awaits, once_own}
use Rattle.tb_pair.proofs.PieceLemmas.{stand_first}
use Rattle.tb_pair.specs.Piping.{does, told_by, events, event_in, connect, lines_of}
use Rattle.tb_pair.specs.Jobs.{CanServe}
use Rattle.tb_pair.specs.Passing.{IsPartOf, Passes}
use Rattle.tb_pair.specs.Workers.{IsEarly, WritesPipe, ReadsPipe, WhyDown}

why_so : (it : WorkEnd) (leaves : Bool) (more : List Entry) → WhyDown it leaves more → (leaves ≡ true) ⊎ (HasDropped (is_of 1) more ⊎ IsEarly it)
why_so end.Over leaves more w = absurd w
why_so end.Down leaves more w = ⊎_elim (λ l. inl l) (λ d. inr (inl d)) w
why_so end.Stopped leaves more w = inr (inr tt)
why_so end.Full leaves more w = inr (inr tt)
why_so end.Failed leaves more w = absurd w
why_so end.NoMemory leaves more w = inr (inr tt)

-- if the tool of the other bus has left, the events are all terms
exact_by : (one other : List Entry) (Others_early : Type 0) (leaves : Bool) → (leaves ≡ true → events other ≡ does one) → (leaves ≡ true) ⊎ (HasDropped (is_of 1) other ⊎ Others_early)
    → (events other ≡ does one) ⊎ (HasDropped (is_of 1) other ⊎ Others_early)
exact_by one other Others_early leaves whole because = ⊎_elim (λ l. inl (whole l)) (λ d. inr d) because

-- an entry among one's own is one of the log
dropped_own : (test : Input → Bool) (p : Entry → Bool) (log : List Entry) → HasDropped test (filter p log) → HasDropped test log
dropped_own test p [] d = absurd (nowhere d.0 d.4)
  where
    nowhere : (before : List Entry) → [] ≡ before ++ Fed d.1 (Dropped why.Down) ∷ d.2 → ⊥
    nowhere [] e = absurd cc
    nowhere (x ∷ before) e = absurd cc
dropped_own test p (x ∷ log) d = step (dropped_own test p log) (p x) d
  where
    more : HasDropped test log → HasDropped test (x ∷ log)
    more h = (x ∷ h.0, h.1, h.2, h.3, ap (λ (l : List Entry). x ∷ l) h.4)

    here : (HasDropped test (filter p log) → HasDropped test log) → (before : List Entry) (it : Input) (after : List Entry) → test it ≡ true → x ∷ filter p log ≡ before ++ Fed it (Dropped why.Down) ∷ after → HasDropped test (x ∷ log)
    here hyp [] it after t e = let head : x ≡ Fed it (Dropped why.Down) = cc in ([], it, log, t, ap (λ (y : Entry). y ∷ log) head)
    here hyp (y ∷ before) it after t e = let tail : filter p log ≡ before ++ Fed it (Dropped why.Down) ∷ after = cc in more (hyp (before, it, after, t, tail))

    step : (HasDropped test (filter p log) → HasDropped test log) → (b : Bool) → HasDropped test (cond b (x ∷ filter p log) (filter p log)) → HasDropped test (x ∷ log)
    step hyp true h = here hyp h.0 h.1 h.2 h.3 h.4
    step hyp false h = more (hyp h)

-- the entries of the right for lane 1 alone show the `rec-do` lines of its tool
pub does_own : (rights : Rights) → has rights (Outs 1) ≡ true → (log : List Entry) → does (own rights log) ≡ does log
does_own rights there log = ap (filter_map told_by) (handed_own rights 1 there log)

-- the log has, of the rights of the worker, just the entries that it has added
pub own_is : (begun done last : SeatView) (more : List Entry) → IsPartOf begun done last → Adds begun done more → own begun.rights last.seen ≡ more
own_is begun done last more part adds = part.owns ∙ (adds.adds ∙ ap (λ (s : List Entry). own begun.rights s ++ more) part.fresh)

-- so it is after all joins
pub part_of : (begun done last : SeatView) → begun.seen ≡ [] → done.rights ≡ begun.rights → Kept last done → IsPartOf begun done last
part_of begun done last fresh same kept =
    record { fresh = fresh; rest = kept.rest; begins = kept.begins; owns = kept.keeps begun.rights (λ right h. subst (λ (r : Rights). has r right ≡ true) (sym same) h) }

pub passes : (bus others_bus : TableId) (begun done last others_begun others_done others_last : SeatView) (sent got known : List Piece) (writer reader : WorkEnd)
    → WritesPipe begun done [] sent writer → ReadsPipe others_begun others_done [] got reader → got ++ known ≡ sent
    → CanServe bus begun → IsPartOf begun done last → CanServe others_bus others_begun → IsPartOf others_begun others_done others_last
    → Passes last.seen others_last.seen (IsEarly writer) (IsEarly reader)
passes bus others_bus begun done last others_begun others_done others_last sent got known writer reader w r met can part others_can others_part =
    let one : own begun.rights last.seen ≡ w.more = own_is begun done last w.more part w.goes.adds in
    let other : own others_begun.rights others_last.seen ≡ r.more = own_is others_begun others_done others_last r.more others_part r.goes.adds in
    let did : does last.seen ≡ w.front ++ w.rest = sym (does_own begun.rights can.writes last.seen) ∙ (ap does one ∙ w.told) in
    let ins : inputs last.seen 1 ≡ w.given = sym (inputs_own begun.rights 1 can.reads last.seen) ∙ (ap (λ (l : List Entry). inputs l 1) one ∙ w.goes.given_are) in
    let others_ins : inputs others_last.seen 1 ≡ inputs r.more 1 = sym (inputs_own others_begun.rights 1 others_can.reads others_last.seen) ∙ ap (λ (l : List Entry). inputs l 1) other in
    let came : events others_last.seen ≡ r.told = ap (filter_map event_in) others_ins ∙ r.events_are in
    let cuts : cut_count 1 last.seen ≡ 0 = sym (cut_count_own begun.rights 1 can.writes last.seen) ∙ (ap (cut_count 1) one ∙ w.goes.cuts) in
    let others_cuts : cut_count 1 others_last.seen ≡ 0 = sym (cut_count_own others_begun.rights 1 others_can.writes others_last.seen) ∙ (ap (cut_count 1) other ∙ r.goes.cuts) in
    let s = stand_first (r.told ++ r.lost) w.front r.last w.last known (ap (λ (x : List Piece). x ++ known) (sym r.got) ∙ (met ∙ w.sent)) in
    let all : does last.seen ≡ r.told ++ (r.lost ++ (s.more ++ w.rest)) =
    did ∙ (ap (λ (x : List Term). x ++ w.rest) s.is ∙ (append_assoc (r.told ++ r.lost) s.more w.rest ∙ append_assoc r.told r.lost (s.more ++ w.rest))) in
    let whole : r.leaves ≡ true → events others_last.seen ≡ does last.seen =
    (λ left.
    let said = r.said left in
    let rest : w.rest ≡ [] = w.whole (s.said said.0) in
    came ∙ sym (all ∙ (ap (λ (x : List Term). r.told ++ (x ++ (s.more ++ w.rest))) said.1 ∙ (ap (λ (x : List Term). r.told ++ (x ++ w.rest)) (s.whole said.0) ∙ (ap (λ (x : List Term). r.told ++ x) rest ∙ append-nil r.told))))) in
    let because : (r.leaves ≡ true) ⊎ (HasDropped (is_of 1) others_last.seen ⊎ IsEarly reader) =
    ⊎_elim (λ l. inl l)
    (λ w. inr (⊎_elim (λ d. inl (dropped_own (is_of 1) (λ (entry : Entry). has others_begun.rights (right_of entry)) others_last.seen (subst (HasDropped (is_of 1)) (sym other) d))) (λ e. inr e) w))
    (why_so reader r.leaves r.more r.why) in
    record {
      rest = r.lost ++ (s.more ++ w.rest);
      prefix = all ∙ ap (λ (x : List Term). x ++ (r.lost ++ (s.more ++ w.rest))) (sym came);
      no_cut = cuts;
      others_no_cut = others_cuts;
      first = awaits begun.rights can.reads can.writes last.seen w.more one w.first;
      others_first = awaits others_begun.rights others_can.reads others_can.writes others_last.seen r.more other r.first;
      others_once = once_own others_begun.rights others_can.reads others_last.seen r.more other r.once;
      leaves = r.leaves;
      names = ⊎_elim (λ e. inl (ins ∙ e)) (λ e. inr (ins ∙ e.0, e.1)) w.names;
      others_names = ⊎_elim
          (λ e. inl (others_ins ∙ (r.goes.given_are ∙ (e ∙ ap (λ (ts : List Term). connect ∷ lines_of ts r.leaves) (sym came)))))
          (λ e. inr (others_ins ∙ (r.goes.given_are ∙ e.0), e.3, e.4)) r.names;
      whole = whole;
      why = because;
      exact = exact_by last.seen others_last.seen (IsEarly reader) r.leaves whole because;
    }
