-- The jobs of a pair stand as they stood, and what was done with each is known.
use Rattle.std.proofs.Common.{◌≡◌, ◌<◌, ◌+◌, ℕ, zero, suc, List, [], ◌∷◌, ◌++◌, length, Option, Some, None, MatchOption, refl, ap, subst, sym, ◌∙◌, append-nil, length-append, arith}
use Rattle.std.specs.List.{All, AllZip}
use Rattle.std.specs.Prelude.{slice_index_or}
use Rattle.std.proofs.lemmas.List.{map-append}
use Rattle.std.proofs.lemmas.List.Elements.{All-map}
use Rattle.tb_edge.specs.Jobs.{AllDone}
use Rattle.tb_run.specs.declared.ends.RunWhy.{RunWhy}
use Rattle.tb_run.proofs.WentLemmas.{zip_done}
use Rattle.tb_pair.specs.declared.job.PipeWriting.{PipeWriting}
use Rattle.tb_pair.specs.declared.job.PipeReading.{PipeReading}
use Rattle.tb_pair.specs.declared.job.PairJob.{PairJob}
use Rattle.tb_pair.specs.declared.job.PairJob.TheVariants.{Other, Writes, Reads}
use Rattle.tb_pair.specs.Jobs.{CanServe, IsReady, JobDone}
use Rattle.tb_pair_run.specs.Helpers.Teams.{AreOthers, IsTeam, TeamDone, TeamSame, jobs_of, others_of}

-- a list beside another, in two parts
zip_first : {X : Type 0} (P : X → X → Type 0) (xs ys xs' ys' : List X) → length xs ≡ length xs' → AllZip P (xs ++ ys) (xs' ++ ys') → AllZip P xs xs' × AllZip P ys ys'
zip_first P [] ys [] ys' e z = (tt, z)
zip_first P [] ys (x' ∷ xs') ys' e z = absurd (omega (arith, e))
zip_first P (x ∷ xs) ys [] ys' e z = absurd (omega (arith, e))
zip_first P (x ∷ xs) ys (x' ∷ xs') ys' e z = let both = zip_first P xs ys xs' ys' (omega (arith, e)) z.1 in ((z.0, both.0), both.1)

-- beside each other, as by index
done_zip : {J : Type 0} (done : J → J → Type 0) (old new : List J) → AllZip done old new → AllDone done old new
done_zip {J} done [] [] z = (refl, λ i d h. absurd (omega (arith, h)))
done_zip {J} done [] (y ∷ ys) z = absurd z
done_zip {J} done (x ∷ xs) [] z = absurd z
done_zip {J} done (x ∷ xs) (y ∷ ys) z = let rest = done_zip done xs ys z.1 in (ap suc rest.0, at rest)
  where
    at : AllDone done xs ys → (i : ℕ) (d : J) → i < length (x ∷ xs) → (slice_index_or (y ∷ ys) i d ≡ slice_index_or (y ∷ ys) i d) × done (slice_index_or (x ∷ xs) i d) (slice_index_or (y ∷ ys) i d)
    at rest zero d h = (refl, z.0)
    at rest (suc i) d h = (refl, (rest.1 i d (omega (arith, h))).1)

parts_same : {J : Type 0} (xs ys xs' ys' : List J) → length xs ≡ length xs' → xs ++ ys ≡ xs' ++ ys' → (xs ≡ xs') × (ys ≡ ys')
parts_same {J} [] ys [] ys' n e = (refl, e)
parts_same {J} [] ys (x' ∷ xs') ys' n e = absurd (omega (arith, n))
parts_same {J} (x ∷ xs) ys [] ys' n e = absurd (omega (arith, n))
parts_same {J} (x ∷ xs) ys (x' ∷ xs') ys' n e =
    let head : x ≡ x' = cc in
    let tail : xs ++ ys ≡ xs' ++ ys' = cc in
    let both = parts_same xs ys xs' ys' (omega (arith, n)) tail in
    (ap (λ (j : J). j ∷ xs) head ∙ ap (λ (js : List J). x' ∷ js) both.0, both.1)

-- all are ready
all_first : {X : Type 0} (P : X → Type 0) (x : X) (xs : List X) → P x → All P xs → All P (x ∷ xs)
all_first P x xs p a zero d h = p
all_first P x xs p a (suc k) d h = a k d (omega (arith, h))

all_both : {X : Type 0} (P : X → Type 0) (xs ys : List X) → All P xs → All P ys → All P (xs ++ ys)
all_both P [] ys a b = b
all_both P (x ∷ xs) ys a b = all_first P x (xs ++ ys) (a zero x (omega arith)) (all_both P xs ys (λ k d h. a (suc k) d (omega (arith, h))) b)

are_others : (W J Plan Taken : Type 0) (old : List J) → let others : List (PairJob W J Plan Taken) = others_of old in AreOthers others
are_others W J Plan Taken [] = tt
are_others W J Plan Taken (o ∷ old) = are_others W J Plan Taken old

others_count : (W J Plan Taken : Type 0) (old : List J) → let others : List (PairJob W J Plan Taken) = others_of old in length others ≡ length old
others_count W J Plan Taken [] = refl
others_count W J Plan Taken (o ∷ old) = ap suc (others_count W J Plan Taken old)

others_done : (W J Plan Taken : Type 0) (done : J → J → Type 0) (old new : List J) → (let one : List (PairJob W J Plan Taken) = others_of old in let other : List (PairJob W J Plan Taken) = others_of new in AllZip (JobDone done) one other) → AllZip done old new
others_done W J Plan Taken done [] [] z = tt
others_done W J Plan Taken done [] (y ∷ ys) z = absurd z
others_done W J Plan Taken done (x ∷ xs) [] z = absurd z
others_done W J Plan Taken done (x ∷ xs) (y ∷ ys) z = (z.0, others_done W J Plan Taken done xs ys z.1)

module _ {W J Plan Taken : Type 0} where
  -- others are others
  others_back : (done : J → J → Type 0) (old : List J) (back : List (PairJob W J Plan Taken)) → AllZip (JobDone done) (others_of old) back → AreOthers back
  others_back done [] [] z = tt
  others_back done [] (b ∷ back) z = absurd z
  others_back done (o ∷ old) [] z = absurd z
  others_back done (o ∷ old) (Other o' ∷ back) z = others_back done old back z.1
  others_back done (o ∷ old) (Writes w ∷ back) z = absurd z.0
  others_back done (o ∷ old) (Reads r ∷ back) z = absurd z.0

  zip_team : (done : J → J → Type 0) (writing : PipeWriting W Plan Taken) (reading : PipeReading W Plan Taken) (old : List J) (back : List (PairJob W J Plan Taken)) → AllZip (JobDone done) (jobs_of writing reading old) back → IsTeam back
  zip_team done writing reading old [] z = absurd z
  zip_team done writing reading old (Other o ∷ back) z = absurd z.0
  zip_team done writing reading old (Reads r ∷ back) z = absurd z.0
  zip_team done writing reading old (Writes w ∷ []) z = absurd z.1
  zip_team done writing reading old (Writes w ∷ Other o ∷ back) z = absurd z.1.0
  zip_team done writing reading old (Writes w ∷ Writes w' ∷ back) z = absurd z.1.0
  zip_team done writing reading old (Writes w ∷ Reads r ∷ back) z = others_back done old back z.1.1

  pub count_of : (writing : PipeWriting W Plan Taken) (reading : PipeReading W Plan Taken) (old : List J) → length (jobs_of writing reading old) ≡ length old + 2
  count_of writing reading old = let m = others_count W J Plan Taken old in let e : length (jobs_of writing reading old) ≡ suc (suc (length (let others : List (PairJob W J Plan Taken) = others_of old in others))) = refl in omega (arith, e, m)

  -- the jobs that come back, done or as they were
  pub team_done : (done : J → J → Type 0) (writing : PipeWriting W Plan Taken) (reading : PipeReading W Plan Taken) (old : List J) (back : List (PairJob W J Plan Taken)) → AllDone (JobDone done) (jobs_of writing reading old) back → IsTeam back
  team_done done writing reading old back d = zip_team done writing reading old back (zip_done (JobDone done) (jobs_of writing reading old) back d)

  pub team_same : (writing : PipeWriting W Plan Taken) (reading : PipeReading W Plan Taken) (old : List J) (back : List (PairJob W J Plan Taken)) → back ≡ jobs_of writing reading old → IsTeam back
  team_same writing reading old back e = subst IsTeam (sym e) (are_others W J Plan Taken old)

  pub team_back : (done : J → J → Type 0) (writing : PipeWriting W Plan Taken) (reading : PipeReading W Plan Taken) (old : List J) (jobs back : List (PairJob W J Plan Taken)) (o : Option RunWhy) (X : Type 0) (F : RunWhy → Type 0) (B : Type 0)
      → jobs ≡ jobs_of writing reading old → MatchOption o (AllDone (JobDone done) jobs back × X) (λ w. F w × (back ≡ jobs) × B) → IsTeam back × (length back ≡ length old + 2)
  team_back done writing reading old jobs back None X F B is m =
      (team_done done writing reading old back (subst (λ (l : List (PairJob W J Plan Taken)). AllDone (JobDone done) l back) is m.0), m.0.0 ∙ (ap length is ∙ count_of writing reading old))
  team_back done writing reading old jobs back (Some w) X F B is m = (team_same writing reading old back (m.1 ∙ is), ap length (m.1 ∙ is) ∙ count_of writing reading old)

  -- what was done with each
  pub team_did : (done : J → J → Type 0) (writing writing' : PipeWriting W Plan Taken) (reading reading' : PipeReading W Plan Taken) (ws ws' os os' : List J) (back : List (PairJob W J Plan Taken)) → AllDone (JobDone done) (jobs_of writing reading (ws ++ os)) back
      → back ≡ jobs_of writing' reading' (ws' ++ os') → length ws ≡ length ws' → TeamDone done writing writing' reading reading' ws ws' os os'
  team_did done writing writing' reading reading' ws ws' os os' back d is same =
      let z : AllZip (JobDone done) (jobs_of writing reading (ws ++ os)) (jobs_of writing' reading' (ws' ++ os')) =
      zip_done (JobDone done) (jobs_of writing reading (ws ++ os)) (jobs_of writing' reading' (ws' ++ os')) (subst (λ (l : List (PairJob W J Plan Taken)). AllDone (JobDone done) (jobs_of writing reading (ws ++ os)) l) is d) in
      let both = zip_first done ws os ws' os' same (others_done W J Plan Taken done (ws ++ os) (ws' ++ os') z.1.1) in
      record { wrote = z.0; read = z.1.0; worked = done_zip done ws ws' both.0; others_worked = done_zip done os os' both.1 }

  same_others : (old new : List J) → ◌≡◌ {A = List (PairJob W J Plan Taken)} (others_of old) (others_of new) → old ≡ new
  same_others [] [] e = refl
  same_others [] (y ∷ ys) e = absurd cc
  same_others (x ∷ xs) [] e = absurd cc
  same_others (x ∷ xs) (y ∷ ys) e =
      let head : ◌≡◌ {A = PairJob W J Plan Taken} (Other x) (Other y) = cc in
      let tail : ◌≡◌ {A = List (PairJob W J Plan Taken)} (others_of xs) (others_of ys) = cc in
      let one : x ≡ y = cc in
      ap (λ (j : J). j ∷ xs) one ∙ ap (λ (js : List J). y ∷ js) (same_others xs ys tail)

  -- nothing was done with any
  pub team_left : (writing writing' : PipeWriting W Plan Taken) (reading reading' : PipeReading W Plan Taken) (ws ws' os os' : List J) (back : List (PairJob W J Plan Taken)) → back ≡ jobs_of writing reading (ws ++ os) → back ≡ jobs_of writing' reading' (ws' ++ os')
      → length ws ≡ length ws' → TeamSame writing writing' reading reading' ws ws' os os'
  team_left writing writing' reading reading' ws ws' os os' back old new same =
      let all : ◌≡◌ {A = List (PairJob W J Plan Taken)} (jobs_of writing' reading' (ws' ++ os')) (jobs_of writing reading (ws ++ os)) = sym new ∙ old in
      let w : ◌≡◌ {A = PairJob W J Plan Taken} (Writes writing') (Writes writing) = cc in
      let r : ◌≡◌ {A = PairJob W J Plan Taken} (Reads reading') (Reads reading) = cc in
      let w' : writing' ≡ writing = cc in
      let r' : reading' ≡ reading = cc in
      let tail : ◌≡◌ {A = List (PairJob W J Plan Taken)} (others_of (ws' ++ os')) (others_of (ws ++ os)) = cc in
      let both = parts_same ws' os' ws os (sym same) (same_others (ws' ++ os') (ws ++ os) tail) in
      record { writes_same = w'; reads_same = r'; workers_same = both.0; others_same = both.1 }

  -- either, as the crew has it
  pub team_jobs : (done : J → J → Type 0) (writing writing' : PipeWriting W Plan Taken) (reading reading' : PipeReading W Plan Taken) (ws ws' os os' : List J) (jobs back : List (PairJob W J Plan Taken)) (o : Option RunWhy) (X : Type 0) (F : RunWhy → Type 0) (B : Type 0)
      → jobs ≡ jobs_of writing reading (ws ++ os) → back ≡ jobs_of writing' reading' (ws' ++ os') → length ws ≡ length ws' → MatchOption o (AllDone (JobDone done) jobs back × X) (λ w. F w × (back ≡ jobs) × B)
      → MatchOption o (TeamDone done writing writing' reading reading' ws ws' os os' × X) (λ w. F w × TeamSame writing writing' reading reading' ws ws' os os' × B)
  team_jobs done writing writing' reading reading' ws ws' os os' jobs back None X F B is apart same m =
      (team_did done writing writing' reading reading' ws ws' os os' back (subst (λ (l : List (PairJob W J Plan Taken)). AllDone (JobDone done) l back) is m.0) apart same, m.1)
  team_jobs done writing writing' reading reading' ws ws' os os' jobs back (Some w) X F B is apart same m =
      (m.0, team_left writing writing' reading reading' ws ws' os os' back (m.1 ∙ is) apart same, m.2)

  pub team_ready : (ready : J → Type 0) (writing : PipeWriting W Plan Taken) (reading : PipeReading W Plan Taken) (ws os : List J) → CanServe writing.post.now.shared writing.seat → CanServe reading.post.now.shared reading.seat → All ready ws → All ready os
      → All (IsReady ready) (jobs_of writing reading (ws ++ os))
  team_ready ready writing reading ws os w r a b =
      let others : List (PairJob W J Plan Taken) = others_of (ws ++ os) in
      all_first (IsReady ready) (Writes writing) (Reads reading ∷ others) w (all_first (IsReady ready) (Reads reading) others r (All-map (IsReady ready) (λ job. Other job) (ws ++ os) (all_both ready ws os a b)))

  nothing_left : (d : List (PairJob W J Plan Taken)) → length d ≡ 0 → d ≡ []
  nothing_left [] e = refl
  nothing_left (x ∷ d) e = absurd (omega (arith, e))

  -- the jobs as they were taken apart
  pub team_taken : (writing : PipeWriting W Plan Taken) (reading : PipeReading W Plan Taken) (all a b c d : List (PairJob W J Plan Taken)) (ws os : List J) → all ≡ Writes writing ∷ a → a ≡ Reads reading ∷ b → others_of ws ++ c ≡ b → others_of os ++ d ≡ c
      → length all ≡ 64 → length ws ≡ 31 → length os ≡ 31 → all ≡ jobs_of writing reading (ws ++ os)
  team_taken writing reading all a b c d ws os one two three four count n m =
      let first : List (PairJob W J Plan Taken) = others_of ws in
      let second : List (PairJob W J Plan Taken) = others_of os in
      let i : length all ≡ suc (length a) = ap length one in
      let j : length a ≡ suc (length b) = ap length two in
      let k : length (first ++ c) ≡ length b = ap length three in
      let l : length (second ++ d) ≡ length c = ap length four in
      let x : length (first ++ c) ≡ length first + length c = length-append first c in
      let y : length (second ++ d) ≡ length second + length d = length-append second d in
      let u : length first ≡ length ws = others_count W J Plan Taken ws in
      let v : length second ≡ length os = others_count W J Plan Taken os in
      let none : d ≡ [] = nothing_left d (omega (arith, i, j, k, l, x, y, u, v, count, n, m)) in
      let rest : c ≡ second = sym four ∙ (ap (λ (s : List (PairJob W J Plan Taken)). second ++ s) none ∙ append-nil second) in
      let both : b ≡ first ++ second = sym three ∙ ap (λ (s : List (PairJob W J Plan Taken)). first ++ s) rest in
      one ∙ (ap (λ (s : List (PairJob W J Plan Taken)). Writes writing ∷ s) (two ∙ ap (λ (s : List (PairJob W J Plan Taken)). Reads reading ∷ s) (both ∙ sym (map-append (λ (job : J). Other job) ws os))))
