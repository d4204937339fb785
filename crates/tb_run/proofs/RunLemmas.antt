-- The claims of a run about all its lanes, from the effects of each worker and from how all seats were joined.
use Rattle.std.proofs.Common.{◌≡◌, ◌≤◌, ◌<◌, ◌+◌, ◌⊎◌, ℕ, zero, suc, List, [], ◌∷◌, ◌++◌, map, length, Bool, true, false, ◌||◌, Option, Some, refl, sym, ap, ◌∙◌, subst, inl, inr, ⊎_elim, append-nil, arith}
use Rattle.std.specs.List.{All, AllZip, list_any, cons_option}
use Rattle.std.specs.Prelude.{⊤}
use Rattle.std.proofs.lemmas.Bool.{cases_lt}
use Rattle.tb_edge.specs.Ends.{InletView}
use Rattle.tb_edge.specs.declared.given.Given.{Given}
use Rattle.tb_edge.specs.declared.given.Taken.{Taken}
use Rattle.tb_log.specs.declared.entry.Out.{Out}
use Rattle.tb_log.specs.declared.entry.Entry.{Entry}
use Rattle.tb_log.specs.Shapes.{IsLane}
use Rattle.tb_core.specs.Cores.{MakeStep}
use Rattle.tb_lock.specs.declared.rights.Rights.{Rights}
use Rattle.tb_lock.specs.Rights.{In, Out as Outs, has}
use Rattle.tb_lock.specs.Seats.{SeatView}
use Rattle.tb_run.specs.declared.ends.WorkEnd.{WorkEnd}
use Rattle.tb_run.specs.declared.ends.WorkEnd.TheVariants as end
use Rattle.tb_run.specs.declared.worker.Work.{Work}
use Rattle.tb_run.specs.declared.worker.Work.TheVariants.{Reads, Writes, Steps}
use Rattle.tb_run.specs.Seats.{Adds, Marks}
use Rattle.tb_run.specs.Workers.{ReadsLane, WritesLane, StepsBus, ReaderEnds, WriterEnds}
use Rattle.tb_run.specs.Jobs.{HasRight, WorkDone}
use Rattle.tb_run.specs.Moving.{readers, writers, inlets_of, outlets_of, inlet_of, outlet_of}
use Rattle.tb_run.specs.Outcomes.{LaneRan, LaneStopped}
use Rattle.tb_run.specs.Refusals.{HadNoRoom, LaneRefused}
use Rattle.tb_run.specs.Views.{EachLane, LaneView, SomeLane, views}
use Rattle.tb_run.specs.Reasons.{is_full_end}
use Rattle.tb_run.proofs.JoinLemmas.{Kept, AllKept}
use Rattle.tb_run.proofs.MarkLemmas.{AreQuiet}
use Rattle.tb_run.proofs.EndLemmas.{ends_of, CameToEnd, AllCameToEnd}
use Rattle.tb_run.proofs.LaneLemmas.{IsWhole, lane_ran, lane_stopped}
use Rattle.tb_run.proofs.RefusedLemmas.{reader_refused, stepper_refused, writer_refused}
use Rattle.tb_run.proofs.WentLemmas.{OfInlet, OfOutlet, View, after_readers, after_writers, each_view, some_reader, some_writer}
use Rattle.tb_run.proofs.WorkedLemmas.{EachNew, Worked, rights_of, seats_of}

or_none : (b : Bool) → (b || false) ≡ true → b ≡ true
or_none true e = refl
or_none false e = e

-- this holds of why each has ended
abbrev pub EachEnd : (WorkEnd → Type 0) → List WorkEnd → Type 0
EachEnd P [] = ⊤
EachEnd P (it ∷ ends) = P it × EachEnd P ends

pub any_end : (ends : List WorkEnd) → EachEnd (λ _. ⊤) ends
any_end [] = tt
any_end (it ∷ ends) = (tt, any_end ends)

first_of : {X : Type 0} (P : X → Type 0) (x : X) (xs : List X) → All P (x ∷ xs) → P x
first_of P x xs a = a zero x (omega arith)

rest_of : {X : Type 0} (P : X → Type 0) (x : X) (xs : List X) → All P (x ∷ xs) → All P xs
rest_of P x xs a = λ k d h. a (suc k) d (omega (arith, h))

module _ {X I O : Type 0} (seat : X → SeatView) (ended : X → WorkEnd) (work : X → Work I O) (gave : I → Option InletView) (fails : I → ℕ) (took : O → Option (List Taken)) (faults : O → ℕ) where
  -- what was done, of one worker
  abbrev pub Does : SeatView → SeatView → WorkEnd → Work I O → Work I O → Type 0
  Does = WorkDone gave took faults

  abbrev pub Done : X → X → Type 0
  Done x y = Does (seat x) (seat y) (ended y) (work x) (work y)

  pub adds_of : (old new : SeatView) (it : WorkEnd) (w w' : Work I O) → Does old new it w w' → (more : List Entry) × Adds old new more
  adds_of old new it (Reads lane i) (Reads lane' i') d = (d.1.more, d.1.adds)
  adds_of old new it (Writes lane o) (Writes lane' o') d = (d.1.more, d.1.adds)
  adds_of old new it Steps Steps d = (d.more, d.adds)
  adds_of old new it (Reads lane i) (Writes lane' o') d = absurd d
  adds_of old new it (Reads lane i) Steps d = absurd d
  adds_of old new it (Writes lane o) (Reads lane' i') d = absurd d
  adds_of old new it (Writes lane o) Steps d = absurd d
  adds_of old new it Steps (Reads lane' i') d = absurd d
  adds_of old new it Steps (Writes lane' o') d = absurd d

  pub marks_of : (old new : SeatView) (it : WorkEnd) (w w' : Work I O) → Does old new it w w' → Marks old new it
  marks_of old new it (Reads lane i) (Reads lane' i') d = d.1.marks
  marks_of old new it (Writes lane o) (Writes lane' o') d = d.1.marks
  marks_of old new it Steps Steps d = d.marks
  marks_of old new it (Reads lane i) (Writes lane' o') d = absurd d
  marks_of old new it (Reads lane i) Steps d = absurd d
  marks_of old new it (Writes lane o) (Reads lane' i') d = absurd d
  marks_of old new it (Writes lane o) Steps d = absurd d
  marks_of old new it Steps (Reads lane' i') d = absurd d
  marks_of old new it Steps (Writes lane' o') d = absurd d

  -- all workers
  abbrev pub worked_of : (first : SeatView) (xs ys : List X) → AllZip Done xs ys → EachNew first (map seat xs) → List (Worked first)
  worked_of first [] [] z n = []
  worked_of first [] (y ∷ ys) z n = absurd z
  worked_of first (x ∷ xs) [] z n = absurd z
  worked_of first (x ∷ xs) (y ∷ ys) z n =
      record {
        begun = seat x;
        done = seat y;
        new = n.0;
        more = (adds_of (seat x) (seat y) (ended y) (work x) (work y) z.0).0;
        adds = (adds_of (seat x) (seat y) (ended y) (work x) (work y) z.0).1;
        end = Some (ended y);
        marks = marks_of (seat x) (seat y) (ended y) (work x) (work y) z.0;
      }
      ∷ worked_of first xs ys z.1 n.1

  pub seats_worked : (first : SeatView) (xs ys : List X) (z : AllZip Done xs ys) (n : EachNew first (map seat xs)) → seats_of (worked_of first xs ys z n) ≡ map seat ys
  seats_worked first [] [] z n = refl
  seats_worked first [] (y ∷ ys) z n = absurd z
  seats_worked first (x ∷ xs) [] z n = absurd z
  seats_worked first (x ∷ xs) (y ∷ ys) z n = ap (λ (ss : List SeatView). seat y ∷ ss) (seats_worked first xs ys z.1 n.1)

  pub rights_worked : (first : SeatView) (xs ys : List X) (z : AllZip Done xs ys) (n : EachNew first (map seat xs)) → rights_of (worked_of first xs ys z n) ≡ map (λ (s : SeatView). s.rights) (map seat xs)
  rights_worked first [] [] z n = refl
  rights_worked first [] (y ∷ ys) z n = absurd z
  rights_worked first (x ∷ xs) [] z n = absurd z
  rights_worked first (x ∷ xs) (y ∷ ys) z n = ap (λ (rs : List Rights). (seat x).rights ∷ rs) (rights_worked first xs ys z.1 n.1)

  pub count_worked : (first : SeatView) (xs ys : List X) (z : AllZip Done xs ys) (n : EachNew first (map seat xs)) → length (worked_of first xs ys z n) ≡ length (map seat xs)
  count_worked first [] [] z n = refl
  count_worked first [] (y ∷ ys) z n = absurd z
  count_worked first (x ∷ xs) [] z n = absurd z
  count_worked first (x ∷ xs) (y ∷ ys) z n = ap suc (count_worked first xs ys z.1 n.1)

  pub ends_worked : (first : SeatView) (xs ys : List X) (z : AllZip Done xs ys) (n : EachNew first (map seat xs)) → ends_of (worked_of first xs ys z n) ≡ map ended ys
  ends_worked first [] [] z n = refl
  ends_worked first [] (y ∷ ys) z n = absurd z
  ends_worked first (x ∷ xs) [] z n = absurd z
  ends_worked first (x ∷ xs) (y ∷ ys) z n = ap (λ (es : List WorkEnd). ended y ∷ es) (ends_worked first xs ys z.1 n.1)

  -- each of them reports why it ended
  pub quiet_worked : (first : SeatView) (xs ys : List X) (z : AllZip Done xs ys) (n : EachNew first (map seat xs)) → AreQuiet (worked_of first xs ys z n)
  quiet_worked first [] [] z n = tt
  quiet_worked first [] (y ∷ ys) z n = absurd z
  quiet_worked first (x ∷ xs) [] z n = absurd z
  quiet_worked first (x ∷ xs) (y ∷ ys) z n = (tt, quiet_worked first xs ys z.1 n.1)

  pub came_each : (first : SeatView) (xs ys : List X) (z : AllZip Done xs ys) (n : EachNew first (map seat xs)) → AllCameToEnd (worked_of first xs ys z n) → EachEnd CameToEnd (map ended ys)
  came_each first [] [] z n c = tt
  came_each first [] (y ∷ ys) z n c = absurd z
  came_each first (x ∷ xs) [] z n c = absurd z
  came_each first (x ∷ xs) (y ∷ ys) z n c = (c.0, came_each first xs ys z.1 n.1 c.1)

  module _ (last first : SeatView) (P : WorkEnd → Type 0) where
    -- one worker, from its new seat to the seat that it left
    pub record Went (x y : X) : Type 0 where
      pub done : Done x y
      pub origin : (seat x).origin ≡ first.origin
      pub right : HasRight (seat x) (work x)
      pub fresh : (seat x).seen ≡ []
      pub kept : Kept last (seat y)
      pub meets : P (ended y)

    pub zip_went : (xs ys : List X) → AllZip Done xs ys → All (λ (x : X). HasRight (seat x) (work x)) xs → EachNew first (map seat xs) → AllKept last (map seat ys) → EachEnd P (map ended ys) → AllZip Went xs ys
    zip_went [] [] z r n k p = tt
    zip_went [] (y ∷ ys) z r n k p = absurd z
    zip_went (x ∷ xs) [] z r n k p = absurd z
    zip_went (x ∷ xs) (y ∷ ys) z r n k p = (
      record { done = z.0; right = first_of (λ (x : X). HasRight (seat x) (work x)) x xs r; fresh = n.0.seen; origin = n.0.origin; kept = k.0; meets = p.0 },
      zip_went xs ys z.1 (rest_of (λ (x : X). HasRight (seat x) (work x)) x xs r) n.1 k.1 p.1,
    )

    pub record ReaderWent (lane : ℕ) (i i' : I) : Type 0 where
      pub begun : SeatView
      pub done : SeatView
      pub it : WorkEnd
      pub reads : ReadsLane lane begun done (gave i) (gave i') it
      pub right : has begun.rights (In lane) ≡ true
      pub fresh : begun.seen ≡ []
      pub kept : Kept last done
      pub meets : P it

    pub record WriterWent (lane : ℕ) (o o' : O) : Type 0 where
      pub begun : SeatView
      pub done : SeatView
      pub it : WorkEnd
      pub writes : WritesLane lane begun done (took o) (took o') (faults o) (faults o') it
      pub is_lane : IsLane lane
      pub origin : done.origin ≡ first.origin
      pub right : has begun.rights (Outs lane) ≡ true
      pub fresh : begun.seen ≡ []
      pub kept : Kept last done
      pub meets : P it

    pub record StepperWent : Type 0 where
      pub begun : SeatView
      pub done : SeatView
      pub it : WorkEnd
      pub steps : StepsBus begun done it
      pub origin : done.origin ≡ first.origin
      pub kept : Kept last done
      pub meets : P it

    went_reads : (x y : X) (lane : ℕ) (i : I) → Went x y → work x ≡ Reads lane i → (i' : I) × (work y ≡ Reads lane i') × ReaderWent lane i i'
    went_reads x y lane i w e = go (work y) refl (subst (λ (t : Work I O). Does (seat x) (seat y) (ended y) t (work y)) e w.done)
      where
        right : let t : Work I O = Reads lane i in HasRight (seat x) t
        right = subst (HasRight (seat x)) e w.right

        go : (t : Work I O) → work y ≡ t → Does (seat x) (seat y) (ended y) (Reads lane i) t → (i' : I) × (work y ≡ Reads lane i') × ReaderWent lane i i'
        go (Reads lane' i') is d = (i', is ∙ ap (λ (l : ℕ). let r : Work I O = Reads l i' in r) d.0, record { begun = seat x; done = seat y; it = ended y; reads = d.1; right = right.1; fresh = w.fresh; kept = w.kept; meets = w.meets })
        go (Writes lane' o') is d = absurd d
        go Steps is d = absurd d

    went_writes : (x y : X) (lane : ℕ) (o : O) → Went x y → work x ≡ Writes lane o → (o' : O) × (work y ≡ Writes lane o') × WriterWent lane o o'
    went_writes x y lane o w e = go (work y) refl (subst (λ (t : Work I O). Does (seat x) (seat y) (ended y) t (work y)) e w.done)
      where
        right : let t : Work I O = Writes lane o in HasRight (seat x) t
        right = subst (HasRight (seat x)) e w.right

        go : (t : Work I O) → work y ≡ t → Does (seat x) (seat y) (ended y) (Writes lane o) t → (o' : O) × (work y ≡ Writes lane o') × WriterWent lane o o'
        go (Writes lane' o') is d = (o', is ∙ ap (λ (l : ℕ). let r : Work I O = Writes l o' in r) d.0, record { begun = seat x; done = seat y; it = ended y; writes = d.1; is_lane = right.0; origin = d.1.adds.origin ∙ w.origin; right = right.1; fresh = w.fresh; kept = w.kept; meets = w.meets })
        go (Reads lane' i') is d = absurd d
        go Steps is d = absurd d

    went_steps : (x y : X) → Went x y → work x ≡ Steps → work y ≡ Steps
    went_steps x y w e = go (work y) refl (subst (λ (t : Work I O). Does (seat x) (seat y) (ended y) t (work y)) e w.done)
      where
        go : (t : Work I O) → work y ≡ t → Does (seat x) (seat y) (ended y) Steps t → work y ≡ Steps
        go Steps is d = is
        go (Reads lane' i') is d = absurd d
        go (Writes lane' o') is d = absurd d

    stepper_of : (x y : X) → Went x y → work x ≡ Steps → StepperWent
    stepper_of x y w e = go (work y) (subst (λ (t : Work I O). Does (seat x) (seat y) (ended y) t (work y)) e w.done)
      where
        go : (t : Work I O) → Does (seat x) (seat y) (ended y) Steps t → StepperWent
        go Steps d = record { begun = seat x; done = seat y; it = ended y; steps = d; origin = d.adds.origin ∙ w.origin; kept = w.kept; meets = w.meets }
        go (Reads lane' i') d = absurd d
        go (Writes lane' o') d = absurd d

    -- the readers of lanes from a number on, the writers and the stepper
    pub record AllWent (from : ℕ) (is : List I) (os : List O) (ys : List X) : Type 0 where
      pub is_new : List I
      pub reads : EachLane ReaderWent from is is_new
      pub inlets : inlets_of (map work ys) ≡ is_new
      pub os_new : List O
      pub writes : EachLane WriterWent from os os_new
      pub outlets : outlets_of (map work ys) ≡ os_new
      pub stepper : StepperWent

    last_one : (xs ys : List X) → map work xs ≡ Steps ∷ [] → AllZip Went xs ys → StepperWent × (inlets_of (map work ys) ≡ []) × (outlets_of (map work ys) ≡ [])
    last_one [] ys e z = absurd cc
    last_one (x ∷ xs) [] e z = absurd z
    last_one (x ∷ []) (y ∷ []) e z =
        let first : work x ≡ Steps = cc in
        let is = went_steps x y z.0 first in (
          stepper_of x y z.0 first,
          ap (λ (w : Work I O). cons_option (inlet_of w) []) is,
          ap (λ (w : Work I O). cons_option (outlet_of w) []) is,
        )
    last_one (x ∷ []) (y ∷ y' ∷ ys) e z = absurd z.1
    last_one (x ∷ x' ∷ xs) (y ∷ ys) e z = absurd cc

    pub all_went : (from : ℕ) (is : List I) (os : List O) (xs ys : List X) → map work xs ≡ readers from is ++ (writers from os ++ Steps ∷ []) → AllZip Went xs ys → AllWent from is os ys
    all_went from is os xs ys e z =
        let a = after_readers work Went ReaderWent WriterWent went_reads went_writes went_steps from is (writers from os ++ Steps ∷ []) xs ys e z in
        let b = after_writers work Went ReaderWent WriterWent went_reads went_writes went_steps from os (Steps ∷ []) a.xs a.others a.works a.zip in
        let c = last_one b.xs b.others b.works b.zip in
        record {
          is_new = a.is_new;
          reads = a.each;
          inlets = a.inlets ∙ (ap (λ (s : List I). a.is_new ++ s) (b.inlets ∙ c.1) ∙ append-nil a.is_new);
          os_new = b.os_new;
          writes = b.each;
          outlets = a.outlets ∙ (b.outlets ∙ (ap (λ (s : List O). b.os_new ++ s) c.2 ∙ append-nil b.os_new));
          stepper = c.0;
        }

    -- if a call of one was refused because the log was full
    module _ (at : first.origin ≡ last.origin) where
      abbrev pub Refused : ℕ → LaneView → LaneView → Type 0
      Refused = LaneRefused last.origin last.seen

      refused_reads : (x y : X) (lane : ℕ) (i : I) → Went x y → work x ≡ Reads lane i → (i' : I) × (work y ≡ Reads lane i') × (is_full_end (ended y) ≡ true → OfInlet gave fails took faults Refused lane i i')
      refused_reads x y lane i w e = go (work y) refl (subst (λ (t : Work I O). Does (seat x) (seat y) (ended y) t (work y)) e w.done)
        where
          right : let t : Work I O = Reads lane i in HasRight (seat x) t
          right = subst (HasRight (seat x)) e w.right

          go : (t : Work I O) → work y ≡ t → Does (seat x) (seat y) (ended y) (Reads lane i) t → (i' : I) × (work y ≡ Reads lane i') × (is_full_end (ended y) ≡ true → OfInlet gave fails took faults Refused lane i i')
          go (Reads lane' i') is d = (
            i',
            is ∙ ap (λ (l : ℕ). let r : Work I O = Reads l i' in r) d.0,
            λ full o o'. reader_refused lane last (seat x) (seat y) (View gave fails took faults Refused i o) (View gave fails took faults Refused i' o') (ended y) d.1 full right.1 w.fresh (d.1.adds.origin ∙ (w.origin ∙ at)) w.kept,
          )
          go (Writes lane' o') is d = absurd d
          go Steps is d = absurd d

      refused_writes : (x y : X) (lane : ℕ) (o : O) → Went x y → work x ≡ Writes lane o → (o' : O) × (work y ≡ Writes lane o') × (is_full_end (ended y) ≡ true → OfOutlet gave fails took faults Refused lane o o')
      refused_writes x y lane o w e = go (work y) refl (subst (λ (t : Work I O). Does (seat x) (seat y) (ended y) t (work y)) e w.done)
        where
          right : let t : Work I O = Writes lane o in HasRight (seat x) t
          right = subst (HasRight (seat x)) e w.right

          go : (t : Work I O) → work y ≡ t → Does (seat x) (seat y) (ended y) (Writes lane o) t → (o' : O) × (work y ≡ Writes lane o') × (is_full_end (ended y) ≡ true → OfOutlet gave fails took faults Refused lane o o')
          go (Writes lane' o') is d = (
            o',
            is ∙ ap (λ (l : ℕ). let r : Work I O = Writes l o' in r) d.0,
            λ full i i'. writer_refused lane last (seat x) (seat y) (View gave fails took faults Refused i o) (View gave fails took faults Refused i' o') (ended y) d.1 full right.1 w.fresh (d.1.adds.origin ∙ (w.origin ∙ at)) w.kept,
          )
          go (Reads lane' i') is d = absurd d
          go Steps is d = absurd d

      refused_steps : (x y : X) → Went x y → work x ≡ Steps → is_full_end (ended y) ≡ true → HadNoRoom MakeStep last.origin last.seen
      refused_steps x y w e full = go (work y) (subst (λ (t : Work I O). Does (seat x) (seat y) (ended y) t (work y)) e w.done)
        where
          go : (t : Work I O) → Does (seat x) (seat y) (ended y) Steps t → HadNoRoom MakeStep last.origin last.seen
          go Steps d = stepper_refused last (seat x) (seat y) (ended y) d full (d.adds.origin ∙ (w.origin ∙ at)) w.kept
          go (Reads lane' i') d = absurd d
          go (Writes lane' o') d = absurd d

      refused_last : (xs ys : List X) → map work xs ≡ Steps ∷ [] → AllZip Went xs ys → list_any is_full_end (map ended ys) ≡ true → HadNoRoom MakeStep last.origin last.seen
      refused_last [] ys e z h = absurd cc
      refused_last (x ∷ xs) [] e z h = absurd z
      refused_last (x ∷ []) (y ∷ []) e z h = let first : work x ≡ Steps = cc in refused_steps x y z.0 first (or_none (is_full_end (ended y)) h)
      refused_last (x ∷ []) (y ∷ y' ∷ ys) e z h = absurd z.1
      refused_last (x ∷ x' ∷ xs) (y ∷ ys) e z h = absurd cc

      -- the reader, the writer or the stepper that was
      pub record SomeRefused (from : ℕ) (is : List I) (os : List O) (ys : List X) : Type 0 where
        pub is_new : List I
        pub inlets : inlets_of (map work ys) ≡ is_new
        pub os_new : List O
        pub outlets : outlets_of (map work ys) ≡ os_new
        pub some : SomeLane (OfInlet gave fails took faults Refused) from is is_new ⊎ (SomeLane (OfOutlet gave fails took faults Refused) from os os_new ⊎ HadNoRoom MakeStep last.origin last.seen)

      pub some_refused : (from : ℕ) (is : List I) (os : List O) (xs ys : List X) → map work xs ≡ readers from is ++ (writers from os ++ Steps ∷ []) → AllZip Went xs ys → list_any is_full_end (map ended ys) ≡ true → SomeRefused from is os ys
      some_refused from is os xs ys e z h =
          let a = some_reader work Went ended is_full_end (OfInlet gave fails took faults Refused) (OfOutlet gave fails took faults Refused) refused_reads refused_writes from is (writers from os ++ Steps ∷ []) xs ys e z in
          let b = some_writer work Went ended is_full_end (OfInlet gave fails took faults Refused) (OfOutlet gave fails took faults Refused) refused_reads refused_writes from os (Steps ∷ []) a.xs a.others a.works a.zip in
          let c = last_one b.xs b.others b.works b.zip in
          record {
            is_new = a.is_new;
            inlets = a.inlets ∙ (ap (λ (s : List I). a.is_new ++ s) (b.inlets ∙ c.1) ∙ append-nil a.is_new);
            os_new = b.os_new;
            outlets = a.outlets ∙ (b.outlets ∙ (ap (λ (s : List O). b.os_new ++ s) c.2 ∙ append-nil b.os_new));
            some = ⊎_elim (λ s. inl s) (λ more. inr (⊎_elim (λ s. inl s) (λ rest. inr (refused_last b.xs b.others b.works b.zip rest)) (b.found more))) (a.found h);
          }

    -- the lanes, from both their ends
    stopped : (lane : ℕ) (i i' : I) (o o' : O) → ReaderWent lane i i' → WriterWent lane o o' → LaneStopped last.seen lane (record { gave = gave i; inlet_faults = fails i; took = took o; outlet_faults = faults o }) (record { gave = gave i'; inlet_faults = fails i'; took = took o'; outlet_faults = faults o' })
    stopped lane i i' o o' q s =
        lane_stopped lane last (record { gave = gave i; inlet_faults = fails i; took = took o; outlet_faults = faults o }) (record { gave = gave i'; inlet_faults = fails i'; took = took o'; outlet_faults = faults o' }) q.begun q.done s.begun s.done q.it s.it q.reads s.writes
        q.right s.right q.fresh s.fresh q.kept s.kept

    pub each_stopped : (from : ℕ) (is is' : List I) (os os' : List O) → EachLane ReaderWent from is is' → EachLane WriterWent from os os' → EachLane (LaneStopped last.seen) from (views gave fails took faults is os) (views gave fails took faults is' os')
    each_stopped from is is' os os' q s = each_view gave fails took faults ReaderWent WriterWent (LaneStopped last.seen) stopped from is is' os os' q s

    module _ (whole : (it : WorkEnd) → P it → CameToEnd it) where
      reader_whole : (lane : ℕ) (lost : List Given) (begun done : SeatView) (it : WorkEnd) → CameToEnd it → ReaderEnds lane lost begun done it → IsWhole it
      reader_whole lane lost begun done end.Over c e = tt
      reader_whole lane lost begun done end.Down c e = tt
      reader_whole lane lost begun done end.Failed c e = absurd e
      reader_whole lane lost begun done end.Stopped c e = absurd c
      reader_whole lane lost begun done end.Full c e = absurd c
      reader_whole lane lost begun done end.NoMemory c e = absurd c

      writer_whole : (lane : ℕ) (lost : List Out) (begun done : SeatView) (it : WorkEnd) → CameToEnd it → WriterEnds lane lost begun done it → IsWhole it
      writer_whole lane lost begun done end.Over c e = tt
      writer_whole lane lost begun done end.Down c e = tt
      writer_whole lane lost begun done end.Failed c e = absurd e
      writer_whole lane lost begun done end.Stopped c e = absurd c
      writer_whole lane lost begun done end.Full c e = absurd c
      writer_whole lane lost begun done end.NoMemory c e = absurd c

      ran : (lane : ℕ) (i i' : I) (o o' : O) → ReaderWent lane i i' → WriterWent lane o o' → LaneRan last.seen lane (record { gave = gave i; inlet_faults = fails i; took = took o; outlet_faults = faults o }) (record { gave = gave i'; inlet_faults = fails i'; took = took o'; outlet_faults = faults o' })
      ran lane i i' o o' q s =
          lane_ran lane last (record { gave = gave i; inlet_faults = fails i; took = took o; outlet_faults = faults o }) (record { gave = gave i'; inlet_faults = fails i'; took = took o'; outlet_faults = faults o' }) q.begun q.done s.begun s.done q.it s.it q.reads s.writes
          q.right s.right q.fresh s.fresh q.kept s.kept (reader_whole lane q.reads.last q.begun q.done q.it (whole q.it q.meets) q.reads.ends) (writer_whole lane s.writes.last s.begun s.done s.it (whole s.it s.meets) s.writes.ends)

      pub each_ran : (from : ℕ) (is is' : List I) (os os' : List O) → EachLane ReaderWent from is is' → EachLane WriterWent from os os' → EachLane (LaneRan last.seen) from (views gave fails took faults is os) (views gave fails took faults is' os')
      each_ran from is is' os os' q s = each_view gave fails took faults ReaderWent WriterWent (LaneRan last.seen) ran from is is' os os' q s

-- one of the lanes
pub lane_in : {A : Type 0} (P : ℕ → A → A → Type 0) (from : ℕ) (old new : List A) → EachLane P from old new → (lane : ℕ) → from ≤ lane → lane + 1 ≤ from + length old → (a : A) × (a' : A) × P lane a a'
lane_in P from [] new e lane low high = absurd (omega arith)
lane_in P from (a ∷ old) [] e lane low high = absurd e
lane_in {A} P from (a ∷ old) (a' ∷ new) e lane low high = go (lane_in P (from + 1) old new e.1 lane) (find (cases_lt from lane))
  where
    find : (from < lane) ⊎ (lane ≤ from) → (lane ≡ from) ⊎ (from + 1 ≤ lane)
    find (inl later) = inr (omega arith)
    find (inr here) = inl (omega arith)

    go : (from + 1 ≤ lane → lane + 1 ≤ from + 1 + length old → (b : A) × (b' : A) × P lane b b') → (lane ≡ from) ⊎ (from + 1 ≤ lane) → (b : A) × (b' : A) × P lane b b'
    go more (inl here) = (a, a', subst (λ (n : ℕ). P n a a') (sym here) e.0)
    go more (inr later) = more later (omega arith)
