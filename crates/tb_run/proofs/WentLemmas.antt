-- The jobs lane by lane: the effects of the readers and the writers, as two lists of ends.
use Rattle.std.proofs.Common.{◌≡◌, ◌+◌, ◌⊎◌, ℕ, suc, List, [], ◌∷◌, ◌++◌, map, length, Bool, true, false, ◌||◌, Option, refl, ap, ◌∙◌, inl, inr, ⊎_elim, arith}
use Rattle.std.specs.List.{AllZip, list_any, cons_option}
use Rattle.tb_edge.specs.Jobs.{AllDone}
use Rattle.tb_run.specs.declared.worker.Work.{Work}
use Rattle.tb_run.specs.declared.worker.Work.TheVariants.{Reads, Writes, Steps}
use Rattle.tb_run.specs.Moving.{readers, writers, inlet_of, outlet_of, inlets_of, outlets_of}
use Rattle.tb_edge.specs.Ends.{InletView}
use Rattle.tb_edge.specs.declared.given.Taken.{Taken}
use Rattle.tb_run.specs.Views.{EachLane, LaneView, SomeLane, views}

-- by index, as one list beside the other
pub zip_done : {J : Type 0} (done : J → J → Type 0) (old new : List J) → AllDone done old new → AllZip done old new
zip_done {J} done [] [] d = tt
zip_done {J} done [] (y ∷ ys) d = absurd (let e = d.0 in omega arith)
zip_done {J} done (x ∷ xs) [] d = absurd (let e = d.0 in omega arith)
zip_done {J} done (x ∷ xs) (y ∷ ys) d = ((d.1 0 x (omega arith)).1, zip_done done xs ys (let e = d.0 in omega arith, λ i z h. (refl, (d.1 (suc i) z (omega (arith, h))).1)))

module _ {X I O : Type 0} (work : X → Work I O) (R : X → X → Type 0) (Q : ℕ → I → I → Type 0) (S : ℕ → O → O → Type 0)
    (read : (x y : X) (lane : ℕ) (i : I) → R x y → work x ≡ Reads lane i → (i' : I) × (work y ≡ Reads lane i') × Q lane i i')
    (write : (x y : X) (lane : ℕ) (o : O) → R x y → work x ≡ Writes lane o → (o' : O) × (work y ≡ Writes lane o') × S lane o o')
    (step : (x y : X) → R x y → work x ≡ Steps → work y ≡ Steps) where
  -- what is left after some readers
  pub record AfterReaders (lane : ℕ) (is : List I) (rest : List (Work I O)) (ys : List X) : Type 0 where
    pub is_new : List I
    pub each : EachLane Q lane is is_new
    pub xs : List X
    pub others : List X
    pub works : map work xs ≡ rest
    pub zip : AllZip R xs others
    pub inlets : inlets_of (map work ys) ≡ is_new ++ inlets_of (map work others)
    pub outlets : outlets_of (map work ys) ≡ outlets_of (map work others)

  pub after_readers : (lane : ℕ) (is : List I) (rest : List (Work I O)) (xs ys : List X) → map work xs ≡ readers lane is ++ rest → AllZip R xs ys → AfterReaders lane is rest ys
  after_readers lane [] rest xs ys e z = record { is_new = []; each = tt; xs = xs; others = ys; works = e; zip = z; inlets = refl; outlets = refl }
  after_readers lane (i ∷ is) rest [] ys e z = absurd (cc)
  after_readers lane (i ∷ is) rest (x ∷ xs) [] e z = absurd z
  after_readers lane (i ∷ is) rest (x ∷ xs) (y ∷ ys) e z =
      let first : work x ≡ Reads lane i = cc in
      let others : map work xs ≡ readers (lane + 1) is ++ rest = cc in
      let t = read x y lane i z.0 first in
      let a = after_readers (lane + 1) is rest xs ys others z.1 in
      record {
        is_new = t.0 ∷ a.is_new;
        each = (t.2, a.each);
        xs = a.xs;
        others = a.others;
        works = a.works;
        zip = a.zip;
        inlets = ap (λ (w : Work I O). cons_option (inlet_of w) (inlets_of (map work ys))) t.1 ∙ ap (λ (s : List I). t.0 ∷ s) a.inlets;
        outlets = ap (λ (w : Work I O). cons_option (outlet_of w) (outlets_of (map work ys))) t.1 ∙ a.outlets;
      }

  pub record AfterWriters (lane : ℕ) (os : List O) (rest : List (Work I O)) (ys : List X) : Type 0 where
    pub os_new : List O
    pub each : EachLane S lane os os_new
    pub xs : List X
    pub others : List X
    pub works : map work xs ≡ rest
    pub zip : AllZip R xs others
    pub inlets : inlets_of (map work ys) ≡ inlets_of (map work others)
    pub outlets : outlets_of (map work ys) ≡ os_new ++ outlets_of (map work others)

  pub after_writers : (lane : ℕ) (os : List O) (rest : List (Work I O)) (xs ys : List X) → map work xs ≡ writers lane os ++ rest → AllZip R xs ys → AfterWriters lane os rest ys
  after_writers lane [] rest xs ys e z = record { os_new = []; each = tt; xs = xs; others = ys; works = e; zip = z; inlets = refl; outlets = refl }
  after_writers lane (o ∷ os) rest [] ys e z = absurd (cc)
  after_writers lane (o ∷ os) rest (x ∷ xs) [] e z = absurd z
  after_writers lane (o ∷ os) rest (x ∷ xs) (y ∷ ys) e z =
      let first : work x ≡ Writes lane o = cc in
      let others : map work xs ≡ writers (lane + 1) os ++ rest = cc in
      let t = write x y lane o z.0 first in
      let a = after_writers (lane + 1) os rest xs ys others z.1 in
      record {
        os_new = t.0 ∷ a.os_new;
        each = (t.2, a.each);
        xs = a.xs;
        others = a.others;
        works = a.works;
        zip = a.zip;
        inlets = ap (λ (w : Work I O). cons_option (inlet_of w) (inlets_of (map work ys))) t.1 ∙ a.inlets;
        outlets = ap (λ (w : Work I O). cons_option (outlet_of w) (outlets_of (map work ys))) t.1 ∙ ap (λ (s : List O). t.0 ∷ s) a.outlets;
      }

-- the same where one of the workers meets a test: a reader that does, a writer, or one of those that are left
either : (a b : Bool) → (a || b) ≡ true → (a ≡ true) ⊎ (b ≡ true)
either true b e = inl refl
either false b e = inr e

module _ {X I O E : Type 0} (work : X → Work I O) (R : X → X → Type 0) (ended : X → E) (test : E → Bool) (F : ℕ → I → I → Type 0) (G : ℕ → O → O → Type 0)
    (read : (x y : X) (lane : ℕ) (i : I) → R x y → work x ≡ Reads lane i → (i' : I) × (work y ≡ Reads lane i') × (test (ended y) ≡ true → F lane i i'))
    (write : (x y : X) (lane : ℕ) (o : O) → R x y → work x ≡ Writes lane o → (o' : O) × (work y ≡ Writes lane o') × (test (ended y) ≡ true → G lane o o')) where
  pub record SomeReader (lane : ℕ) (is : List I) (rest : List (Work I O)) (ys : List X) : Type 0 where
    pub is_new : List I
    pub xs : List X
    pub others : List X
    pub works : map work xs ≡ rest
    pub zip : AllZip R xs others
    pub inlets : inlets_of (map work ys) ≡ is_new ++ inlets_of (map work others)
    pub outlets : outlets_of (map work ys) ≡ outlets_of (map work others)
    pub found : list_any test (map ended ys) ≡ true → SomeLane F lane is is_new ⊎ (list_any test (map ended others) ≡ true)

  pub some_reader : (lane : ℕ) (is : List I) (rest : List (Work I O)) (xs ys : List X) → map work xs ≡ readers lane is ++ rest → AllZip R xs ys → SomeReader lane is rest ys
  some_reader lane [] rest xs ys e z = record { is_new = []; xs = xs; others = ys; works = e; zip = z; inlets = refl; outlets = refl; found = λ h. inr h }
  some_reader lane (i ∷ is) rest [] ys e z = absurd (cc)
  some_reader lane (i ∷ is) rest (x ∷ xs) [] e z = absurd z
  some_reader lane (i ∷ is) rest (x ∷ xs) (y ∷ ys) e z =
      let first : work x ≡ Reads lane i = cc in
      let others : map work xs ≡ readers (lane + 1) is ++ rest = cc in
      let t = read x y lane i z.0 first in
      let a = some_reader (lane + 1) is rest xs ys others z.1 in
      record {
        is_new = t.0 ∷ a.is_new;
        xs = a.xs;
        others = a.others;
        works = a.works;
        zip = a.zip;
        inlets = ap (λ (w : Work I O). cons_option (inlet_of w) (inlets_of (map work ys))) t.1 ∙ ap (λ (s : List I). t.0 ∷ s) a.inlets;
        outlets = ap (λ (w : Work I O). cons_option (outlet_of w) (outlets_of (map work ys))) t.1 ∙ a.outlets;
        found = λ h. ⊎_elim (λ here. inl (inl (t.2 here))) (λ later. ⊎_elim (λ s. inl (inr s)) (λ more. inr more) (a.found later)) (either (test (ended y)) (list_any test (map ended ys)) h);
      }

  pub record SomeWriter (lane : ℕ) (os : List O) (rest : List (Work I O)) (ys : List X) : Type 0 where
    pub os_new : List O
    pub xs : List X
    pub others : List X
    pub works : map work xs ≡ rest
    pub zip : AllZip R xs others
    pub inlets : inlets_of (map work ys) ≡ inlets_of (map work others)
    pub outlets : outlets_of (map work ys) ≡ os_new ++ outlets_of (map work others)
    pub found : list_any test (map ended ys) ≡ true → SomeLane G lane os os_new ⊎ (list_any test (map ended others) ≡ true)

  pub some_writer : (lane : ℕ) (os : List O) (rest : List (Work I O)) (xs ys : List X) → map work xs ≡ writers lane os ++ rest → AllZip R xs ys → SomeWriter lane os rest ys
  some_writer lane [] rest xs ys e z = record { os_new = []; xs = xs; others = ys; works = e; zip = z; inlets = refl; outlets = refl; found = λ h. inr h }
  some_writer lane (o ∷ os) rest [] ys e z = absurd (cc)
  some_writer lane (o ∷ os) rest (x ∷ xs) [] e z = absurd z
  some_writer lane (o ∷ os) rest (x ∷ xs) (y ∷ ys) e z =
      let first : work x ≡ Writes lane o = cc in
      let others : map work xs ≡ writers (lane + 1) os ++ rest = cc in
      let t = write x y lane o z.0 first in
      let a = some_writer (lane + 1) os rest xs ys others z.1 in
      record {
        os_new = t.0 ∷ a.os_new;
        xs = a.xs;
        others = a.others;
        works = a.works;
        zip = a.zip;
        inlets = ap (λ (w : Work I O). cons_option (inlet_of w) (inlets_of (map work ys))) t.1 ∙ a.inlets;
        outlets = ap (λ (w : Work I O). cons_option (outlet_of w) (outlets_of (map work ys))) t.1 ∙ ap (λ (s : List O). t.0 ∷ s) a.outlets;
        found = λ h. ⊎_elim (λ here. inl (inl (t.2 here))) (λ later. ⊎_elim (λ s. inl (inr s)) (λ more. inr more) (a.found later)) (either (test (ended y)) (list_any test (map ended ys)) h);
      }

-- as many ends come back
pub each_length : {A : Type 0} (P : ℕ → A → A → Type 0) (lane : ℕ) (olds news : List A) → EachLane P lane olds news → length olds ≡ length news
each_length P lane [] [] e = refl
each_length P lane [] (new ∷ news) e = absurd e
each_length P lane (old ∷ olds) [] e = absurd e
each_length P lane (old ∷ olds) (new ∷ news) e = ap suc (each_length P (lane + 1) olds news e.1)

-- some lane, from some of its readers or of its writers
module _ {I O : Type 0} (gave : I → Option InletView) (fails : I → ℕ) (took : O → Option (List Taken)) (faults : O → ℕ) (P : ℕ → LaneView → LaneView → Type 0) where
  abbrev pub View : I → O → LaneView
  View i o = record { gave = gave i; inlet_faults = fails i; took = took o; outlet_faults = faults o }

  abbrev pub OfInlet : ℕ → I → I → Type 0
  OfInlet lane i i' = (o o' : O) → P lane (View i o) (View i' o')

  abbrev pub OfOutlet : ℕ → O → O → Type 0
  OfOutlet lane o o' = (i i' : I) → P lane (View i o) (View i' o')

  pub reader_view : (lane : ℕ) (is is' : List I) (os os' : List O) → length is ≡ length os → length is' ≡ length os' → SomeLane OfInlet lane is is' → SomeLane P lane (views gave fails took faults is os) (views gave fails took faults is' os')
  reader_view lane [] is' os os' n m s = absurd s
  reader_view lane (i ∷ is) [] os os' n m s = absurd s
  reader_view lane (i ∷ is) (i' ∷ is') [] os' n m s = absurd (omega (arith, n))
  reader_view lane (i ∷ is) (i' ∷ is') (o ∷ os) [] n m s = absurd (omega (arith, m))
  reader_view lane (i ∷ is) (i' ∷ is') (o ∷ os) (o' ∷ os') n m (inl f) = inl (f o o')
  reader_view lane (i ∷ is) (i' ∷ is') (o ∷ os) (o' ∷ os') n m (inr s) = inr (reader_view (lane + 1) is is' os os' (omega (arith, n)) (omega (arith, m)) s)

  pub writer_view : (lane : ℕ) (is is' : List I) (os os' : List O) → length is ≡ length os → length is' ≡ length os' → SomeLane OfOutlet lane os os' → SomeLane P lane (views gave fails took faults is os) (views gave fails took faults is' os')
  writer_view lane is is' [] os' n m s = absurd s
  writer_view lane is is' (o ∷ os) [] n m s = absurd s
  writer_view lane [] is' (o ∷ os) (o' ∷ os') n m s = absurd (omega (arith, n))
  writer_view lane (i ∷ is) [] (o ∷ os) (o' ∷ os') n m s = absurd (omega (arith, m))
  writer_view lane (i ∷ is) (i' ∷ is') (o ∷ os) (o' ∷ os') n m (inl g) = inl (g i i')
  writer_view lane (i ∷ is) (i' ∷ is') (o ∷ os) (o' ∷ os') n m (inr s) = inr (writer_view (lane + 1) is is' os os' (omega (arith, n)) (omega (arith, m)) s)

-- the two ends of each lane, from those of all readers and of all writers
module _ {I O : Type 0} (gave : I → Option InletView) (fails : I → ℕ) (took : O → Option (List Taken)) (faults : O → ℕ) (Q : ℕ → I → I → Type 0) (S : ℕ → O → O → Type 0) (P : ℕ → LaneView → LaneView → Type 0)
    (both : (lane : ℕ) (i i' : I) (o o' : O) → Q lane i i' → S lane o o' → P lane (record { gave = gave i; inlet_faults = fails i; took = took o; outlet_faults = faults o }) (record { gave = gave i'; inlet_faults = fails i'; took = took o'; outlet_faults = faults o' })) where
  pub each_view : (lane : ℕ) (is is' : List I) (os os' : List O) → EachLane Q lane is is' → EachLane S lane os os' → EachLane P lane (views gave fails took faults is os) (views gave fails took faults is' os')
  each_view lane [] [] os os' q s = tt
  each_view lane [] (i' ∷ is') os os' q s = absurd q
  each_view lane (i ∷ is) [] os os' q s = absurd q
  each_view lane (i ∷ is) (i' ∷ is') [] [] q s = tt
  each_view lane (i ∷ is) (i' ∷ is') [] (o' ∷ os') q s = absurd s
  each_view lane (i ∷ is) (i' ∷ is') (o ∷ os) [] q s = absurd s
  each_view lane (i ∷ is) (i' ∷ is') (o ∷ os) (o' ∷ os') q s = (both lane i i' o o' q.0 s.0, each_view (lane + 1) is is' os os' q.1 s.1)

-- lanes are seen alike as pairs and as two lists of ends
pub pair_views : {I O T : Type 0} (gave : I → Option InletView) (fails : I → ℕ) (took : O → Option (List Taken)) (faults : O → ℕ) (inlet : T → I) (outlet : T → O) (pairs : List T) →
    views gave fails took faults (map inlet pairs) (map outlet pairs) ≡ map (λ (t : T). let v : LaneView = record { gave = gave (inlet t); inlet_faults = fails (inlet t); took = took (outlet t); outlet_faults = faults (outlet t) } in v) pairs
pair_views gave fails took faults inlet outlet [] = refl
pair_views gave fails took faults inlet outlet (t ∷ pairs) =
    ap (λ (vs : List LaneView). record { gave = gave (inlet t); inlet_faults = fails (inlet t); took = took (outlet t); outlet_faults = faults (outlet t) } ∷ vs) (pair_views gave fails took faults inlet outlet pairs)
