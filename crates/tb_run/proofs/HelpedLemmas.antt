-- Workers and their jobs: the jobs of some workers, and the workers of jobs that a crew gives back.
use Rattle.std.proofs.Common.{◌≡◌, ◌<◌, ℕ, zero, suc, List, [], ◌∷◌, map, length, drop, Option, Some, None, MatchOption, Result, Ok, Err, IfOk, IfErr, refl, sym, ap, ◌∙◌, subst, arith}
use Rattle.std.specs.Prelude.{slice_get, slice_index_or, ⊤}
use Rattle.std.specs.List.{All, AllZip, filter_map, cons_option}
use Rattle.tb_edge.specs.Faults.{Rose}
use Rattle.tb_edge.specs.Jobs.{AllDone, FailsOnly, jobs_of}
use Rattle.tb_edge.specs.declared.crew.CrewFault.{CrewFault}
use Rattle.tb_run.specs.declared.ends.RunWhy.{RunWhy}
use Rattle.tb_run.specs.Running.{FailsFor, why_by}
use Rattle.tb_run.proofs.BackLemmas.{back_by, match_map}
use Rattle.tb_run.proofs.WentLemmas.{zip_done}

-- two lists beside each other, by index
pub done_zip : {J : Type 0} (done : J → J → Type 0) (old new : List J) → AllZip done old new → AllDone done old new
done_zip {J} done [] [] z = (refl, λ i d h. absurd (omega (arith, h)))
done_zip {J} done [] (y ∷ ys) z = absurd z
done_zip {J} done (x ∷ xs) [] z = absurd z
done_zip {J} done (x ∷ xs) (y ∷ ys) z = let rest = done_zip done xs ys z.1 in (ap suc rest.0, go rest.1)
  where
    go : ((i : ℕ) (d : J) → i < length xs → (slice_index_or ys i d ≡ slice_index_or ys i d) × done (slice_index_or xs i d) (slice_index_or ys i d)) → (i : ℕ) (d : J) → i < length (x ∷ xs)
        → (slice_index_or (y ∷ ys) i d ≡ slice_index_or (y ∷ ys) i d) × done (slice_index_or (x ∷ xs) i d) (slice_index_or (y ∷ ys) i d)
    go rest zero d h = (refl, z.0)
    go rest (suc i) d h = rest i d (omega (arith, h))

module _ {H X : Type 0} (worker : H → Option X) (R : X → X → Type 0) where
  -- a job, by its worker
  abbrev pub JobDone : H → H → Type 0
  JobDone old new = MatchOption (worker old) ⊤ (λ before. MatchOption (worker new) ⊥ (λ after. R before after))

  one_done : (x : X) (a b : Option X) → a ≡ Some x → MatchOption a ⊤ (λ before. MatchOption b ⊥ (λ after. R before after)) → (y : X) × (b ≡ Some y) × R x y
  one_done x None b e m = absurd (cc)
  one_done x (Some z) None e m = absurd m
  one_done x (Some z) (Some y) e m = let same : z ≡ x = cc in (y, refl, subst (λ (w : X). R w y) same m)

  zipped : (olds news : List H) (xs : List X) → map worker olds ≡ map (λ (x : X). Some x) xs → AllZip JobDone olds news → AllZip R xs (filter_map worker news)
  zipped [] [] [] e z = tt
  zipped [] [] (x ∷ xs) e z = absurd (cc)
  zipped [] (n ∷ news) xs e z = absurd z
  zipped (o ∷ olds) [] xs e z = absurd z
  zipped (o ∷ olds) (n ∷ news) [] e z = absurd (cc)
  zipped (o ∷ olds) (n ∷ news) (x ∷ xs) e z =
      let first : worker o ≡ Some x = cc in
      let rest : map worker olds ≡ map (λ (y : X). Some y) xs = cc in
      let t = one_done x (worker o) (worker n) first z.0 in
      subst (λ (l : List X). AllZip R (x ∷ xs) l) (sym (ap (λ (w : Option X). cons_option w (filter_map worker news)) t.1)) (t.2, zipped olds news xs rest z.1)

  pub jobs_done : (olds news : List H) (xs : List X) → map worker olds ≡ map (λ (x : X). Some x) xs → AllDone JobDone olds news → AllDone R xs (filter_map worker news)
  jobs_done olds news xs e d = done_zip R xs (filter_map worker news) (zipped olds news xs e (zip_done JobDone olds news d))

pub jobs_same : {H X : Type 0} (worker : H → Option X) (jobs : List H) (xs : List X) → map worker jobs ≡ map (λ (x : X). Some x) xs → filter_map worker jobs ≡ xs
jobs_same worker [] [] e = refl
jobs_same worker [] (x ∷ xs) e = absurd (cc)
jobs_same worker (h ∷ jobs) [] e = absurd (cc)
jobs_same {H} {X} worker (h ∷ jobs) (x ∷ xs) e =
    let first : worker h ≡ Some x = cc in
    let rest : map worker jobs ≡ map (λ (y : X). Some y) xs = cc in
    ap (λ (w : Option X). cons_option w (filter_map worker jobs)) first ∙ ap (λ (l : List X). x ∷ l) (jobs_same worker jobs xs rest)

pub given_length : {H X : Type 0} (worker : H → Option X) (jobs : List H) (xs : List X) → map worker jobs ≡ map (λ (x : X). Some x) xs → length jobs ≡ length xs
given_length worker [] [] e = refl
given_length worker [] (x ∷ xs) e = absurd (cc)
given_length worker (h ∷ jobs) [] e = absurd (cc)
given_length {H} {X} worker (h ∷ jobs) (x ∷ xs) e = let rest : map worker jobs ≡ map (λ (y : X). Some y) xs = cc in ap suc (given_length worker jobs xs rest)

pub none_left : {X : Type 0} (xs : List X) → length xs ≡ 0 → xs ≡ []
none_left [] e = refl
none_left (x ∷ xs) e = absurd (omega (arith, e))

-- what begins a rest of a list, and what is left after it
pub drop_first : {X : Type 0} (n : ℕ) (xs ys : List X) (y : X) → drop n xs ≡ y ∷ ys → slice_get xs n ≡ Some y
drop_first zero [] ys y e = absurd (cc)
drop_first zero (x ∷ xs) ys y e = let same : x ≡ y = cc in ap (λ z. Some z) same
drop_first (suc n) [] ys y e = absurd (cc)
drop_first (suc n) (x ∷ xs) ys y e = drop_first n xs ys y e

pub drop_rest : {X : Type 0} (n : ℕ) (xs ys : List X) (y : X) → drop n xs ≡ y ∷ ys → drop (suc n) xs ≡ ys
drop_rest zero [] ys y e = absurd (cc)
drop_rest zero (x ∷ xs) ys y e = cc
drop_rest (suc n) [] ys y e = absurd (cc)
drop_rest (suc n) (x ∷ xs) ys y e = drop_rest n xs ys y e

pub all_first : {X : Type 0} (P : X → Type 0) (x : X) (xs : List X) → All P (x ∷ xs) → P x
all_first P x xs a = a zero x (omega arith)

pub all_rest : {X : Type 0} (P : X → Type 0) (x : X) (xs : List X) → All P (x ∷ xs) → All P xs
all_rest P x xs a k d h = a (suc k) d (omega (arith, h))

-- the next worker is fit for a job with this index
pub is_fit : {X B S : Type 0} (bus : X → B) (its : B) (Ready : B → X → Type 0) (start : X → S) (starts : List S) (x : X) (rest : List X) (n : ℕ)
    → All (λ y. bus y ≡ its) (x ∷ rest) → All (λ y. Ready (bus y) y) (x ∷ rest) → drop n starts ≡ map start (x ∷ rest) → (bus x ≡ its) × Ready its x × (slice_get starts n ≡ Some (start x))
is_fit bus its Ready start starts x rest n posts ready e =
    let same = all_first (λ y. bus y ≡ its) x rest posts in
    (same, subst (λ b. Ready b x) same (all_first (λ y. Ready (bus y) y) x rest ready), drop_first n starts (map start rest) (start x) e)

-- the answer of a crew, and the workers of the jobs that it gives back
pub worked_by : {H X U : Type 0} (worker : H → Option X) (R : X → X → Type 0) (items : U → List H) (r : Result U (CrewFault H)) (failed : Option RunWhy) (jobs news : List H) (workers back : List X) (A1 A2 B1 B2 : Type 0) (f f' : ℕ)
    → map worker jobs ≡ map (λ (x : X). Some x) workers → back ≡ filter_map worker news
    → IfOk r (λ u. (failed ≡ None) × (news ≡ items u)) → IfErr r (λ it. (failed ≡ Some (why_by it)) × (news ≡ jobs_of it))
    → IfOk r (λ u. AllDone (JobDone worker R) jobs (items u) × A1 × A2) → IfErr r (λ it. (jobs_of it ≡ jobs) × B1 × B2) → IfErr r (λ it. FailsOnly it (Rose f f'))
    → MatchOption failed (AllDone R workers back × A1 × A2) (λ w. FailsFor w f f' × (back ≡ workers) × B1 × B2)
worked_by {H} {X} worker R items r failed jobs news workers back A1 A2 B1 B2 f f' given kept ok err done same rose =
    match_map failed (AllDone (JobDone worker R) jobs news × A1 × A2) (AllDone R workers back × A1 × A2) (λ w. FailsFor w f f' × (news ≡ jobs) × B1 × B2) (λ w. FailsFor w f f' × (back ≡ workers) × B1 × B2)
    (λ d. (subst (λ (l : List X). AllDone R workers l) (sym kept) (jobs_done worker R jobs news workers given d.0), d.1, d.2))
    (λ w n. (n.0, kept ∙ (ap (λ (l : List H). filter_map worker l) n.1 ∙ jobs_same worker jobs workers given), n.2, n.3))
    (back_by items r failed news jobs (λ js. AllDone (JobDone worker R) jobs js × A1 × A2) B1 B2 f f' ok err done same rose)

-- as many jobs come back
pub back_length : {H U : Type 0} (items : U → List H) (r : Result U (CrewFault H)) (failed : Option RunWhy) (jobs news : List H) (A : U → Type 0) (B : CrewFault H → Type 0)
    → ((u : U) → A u → length (items u) ≡ length jobs) → ((it : CrewFault H) → B it → jobs_of it ≡ jobs)
    → IfOk r (λ u. (failed ≡ None) × (news ≡ items u)) → IfErr r (λ it. (failed ≡ Some (why_by it)) × (news ≡ jobs_of it)) → IfOk r A → IfErr r B → length news ≡ length jobs
back_length items (Ok u) failed jobs news A B many same ok err done back = ap length ok.1 ∙ many u done
back_length items (Err it) failed jobs news A B many same ok err done back = ap length err.1 ∙ ap length (same it back)
