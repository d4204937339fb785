-- The answer of a crew, and the result of a run by this answer.
use Rattle.std.proofs.Common.{◌≡◌, ℕ, List, [], ◌∷◌, ◌++◌, map, length, Option, Some, None, MatchOption, Result, Ok, Err, IfOk, IfErr, OnOk, sym, ap, ◌∙◌, subst}
use Rattle.std.specs.List.{All}
use Rattle.tb_edge.specs.Ends.{InletView, ClockView}
use Rattle.tb_edge.specs.Faults.{Rose}
use Rattle.tb_edge.specs.Jobs.{AllDone, jobs_of, FailsOnly}
use Rattle.tb_edge.specs.declared.crew.CrewFault.{CrewFault}
use Rattle.tb_edge.specs.declared.crew.CrewFault.TheVariants as fault
use Rattle.tb_edge.specs.declared.given.Taken.{Taken}
use Rattle.tb_lock.specs.Rights.{no_rights, ticker_rights}
use Rattle.tb_lock.specs.Seats.{SeatView, first_seat, kept_of, handed_on}
use Rattle.tb_write.specs.Writers.{WriterView}
use Rattle.tb_run.specs.declared.ends.WorkEnd.{WorkEnd}
use Rattle.tb_run.specs.declared.ends.LogEnd.{LogEnd}
use Rattle.tb_run.specs.declared.ends.RunWhy.{RunWhy}
use Rattle.tb_run.specs.declared.worker.Work.{Work}
use Rattle.tb_run.specs.declared.worker.Work.TheVariants.{Steps}
use Rattle.tb_run.specs.Jobs.{HasRight}
use Rattle.tb_run.specs.Joining.{JoinsAll}
use Rattle.tb_run.specs.Logging.{LogDone}
use Rattle.tb_run.specs.Moving.{readers, writers, inlets_of, outlets_of}
use Rattle.tb_run.specs.Views.{OutsideView, views}
use Rattle.tb_run.specs.Parting.{parted, left_after}
use Rattle.tb_run.specs.Parts.{job_rights}
use Rattle.tb_run.specs.Reasons.{reason_of}
use Rattle.tb_run.specs.Running.{FailsFor, HasCome, why_by}
use Rattle.tb_run.specs.Workers.{TicksBus}
use Rattle.tb_run.proofs.ComeLemmas.{come, logs_add}
use Rattle.tb_run.proofs.JoinLemmas.{FirstLaw, SecondLaw}
use Rattle.tb_run.proofs.NothingLemmas.{uncrewed}
use Rattle.tb_run.proofs.RunLemmas.{Done}
use Rattle.tb_run.proofs.TraceLemmas.{DownLaw, EmptyLaw}
use Rattle.tb_run.proofs.WorkLemmas.{CanGather, gather_done, gather_same, inlets_works, outlets_works}

pub fails_for : {J : Type 0} (it : CrewFault J) (f f' : ℕ) → FailsOnly it (Rose f f') → FailsFor (why_by it) f f'
fails_for (fault.Failed jobs) f f' h = h
fails_for (fault.NoMemory jobs) f f' h = tt

-- what follows from either answer
pub either_way : {U V : Type 0} (r : Result U V) (A : U → Type 0) (B : V → Type 0) (P : Type 0) → ((u : U) → A u → P) → ((v : V) → B v → P) → IfOk r A → IfErr r B → P
either_way (Ok u) A B P f h a b = f u a
either_way (Err v) A B P f h a b = h v b

pub back_by : {J U : Type 0} (items : U → List J) (r : Result U (CrewFault J)) (failed : Option RunWhy) (workers old : List J) (A : List J → Type 0) (B D : Type 0) (f f' : ℕ) →
    IfOk r (λ jobs. (failed ≡ None) × (workers ≡ items jobs)) → IfErr r (λ it. (failed ≡ Some (why_by it)) × (workers ≡ jobs_of it)) → IfOk r (λ jobs. A (items jobs)) →
    IfErr r (λ it. (jobs_of it ≡ old) × B × D) → IfErr r (λ it. FailsOnly it (Rose f f')) → MatchOption failed (A workers) (λ w. FailsFor w f f' × (workers ≡ old) × B × D)
back_by items (Ok jobs) failed workers old A B D f f' ok err a b rose =
    subst (λ (o : Option RunWhy). MatchOption o (A workers) (λ w. FailsFor w f f' × (workers ≡ old) × B × D)) (sym ok.0) (subst A (sym ok.1) a)
back_by items (Err it) failed workers old A B D f f' ok err a b rose =
    subst (λ (o : Option RunWhy). MatchOption o (A workers) (λ w. FailsFor w f f' × (workers ≡ old) × B × D)) (sym err.0) (fails_for it f f' rose, err.1 ∙ b.0, b.1, b.2)

-- the counts of what had nothing to do with how the crew fared
pub counts_by : {J U : Type 0} (items : U → List J) (r : Result U (CrewFault J)) (failed : Option RunWhy) (workers old : List J) (C B D : Type 0) →
    IfOk r (λ jobs. (failed ≡ None) × (workers ≡ items jobs)) → IfErr r (λ it. (failed ≡ Some (why_by it)) × (workers ≡ jobs_of it)) → OnOk r C →
    IfErr r (λ it. (jobs_of it ≡ old) × B × D) → MatchOption failed C (λ w. B × D)
counts_by items (Ok jobs) failed workers old C B D ok err calm same = subst (λ (o : Option RunWhy). MatchOption o C (λ w. B × D)) (sym ok.0) calm
counts_by items (Err it) failed workers old C B D ok err calm same = subst (λ (o : Option RunWhy). MatchOption o C (λ w. B × D)) (sym err.0) (same.1, same.2)

pub match_map : {Y : Type 0} (o : Option Y) (A C : Type 0) (B D : Y → Type 0) → (A → C) → ((y : Y) → B y → D y) → MatchOption o A B → MatchOption o C D
match_map None A C B D f h m = f m
match_map (Some y) A C B D f h m = h y m

-- what was done, said of what is the same
pub moved : {K S : Type 0} (A : Type 0) (T : SeatView → K → WorkEnd → Type 0) (L : SeatView → WriterView → S → LogEnd → Type 0) (s s' : SeatView) (k k' : K) (e e' : WorkEnd) (l l' : SeatView) (w w' : WriterView) (o o' : S) (f f' : LogEnd) →
    s' ≡ s → k' ≡ k → e' ≡ e → l' ≡ l → w' ≡ w → o' ≡ o → f' ≡ f → A × T s k e × L l w o f → A × T s' k' e' × L l' w' o' f'
moved {K} {S} A T L s s' k k' e e' l l' w w' o o' f f' ps pk pe pl pw po pf (a, t, d) = (
  a,
  subst (λ (x : WorkEnd). T s' k' x) (sym pe) (subst (λ (x : K). T s' x e) (sym pk) (subst (λ (x : SeatView). T x k e) (sym ps) t)),
  subst (λ (x : LogEnd). L l' w' o' x) (sym pf) (subst (λ (x : S). L l' w' x f) (sym po) (subst (λ (x : WriterView). L l' x o f) (sym pw) (subst (λ (x : SeatView). L x w o f) (sym pl) d))),
)

module _ {X I O : Type 0} (seat : X → SeatView) (ended : X → WorkEnd) (work : X → Work I O) (gave : I → Option InletView) (fails : I → ℕ) (took : O → Option (List Taken)) (faults : O → ℕ)
    (most : ℕ) (begun : SeatView) (is : List I) (os : List O) (xs ys : List X) (tick_begun tick_done log_begun log_done : SeatView) (tick_end : WorkEnd) (log_end : LogEnd)
    (clock_old clock_new : Option ClockView) (clock_faults_old clock_faults_new : ℕ) (put_old put_new : Option (List ℕ)) (out_faults_old out_faults_new : ℕ) (writer : WriterView)
    (crew_faults_old crew_faults_new : ℕ)
    (first : begun ≡ first_seat begun.bus begun.origin) (seats : map seat xs ≡ parted begun job_rights) (works : map work xs ≡ readers 1 is ++ (writers 1 os ++ Steps ∷ []))
    (tick_is : tick_begun ≡ handed_on ticker_rights (left_after begun job_rights)) (log_is : log_begun ≡ handed_on no_rights (kept_of ticker_rights (left_after begun job_rights)))
    (sixteen_in : length is ≡ 16) (sixteen_out : length os ≡ 16) (failed : Option RunWhy) where
  -- what was done
  abbrev pub Worked : Type 0
  Worked =
      AllDone (Done seat ended work gave fails took faults) xs ys
      × TicksBus (λ count. count ≡ most) most tick_begun tick_done clock_old clock_new clock_faults_old clock_faults_new tick_end
      × LogDone log_begun log_done writer put_old put_new out_faults_old out_faults_new log_end

  -- nothing was done
  abbrev pub Idle : RunWhy → Type 0
  Idle w = FailsFor w crew_faults_old crew_faults_new × (ys ≡ xs) × (tick_done ≡ tick_begun) × (log_done ≡ log_begun) × (clock_new ≡ clock_old) × (put_new ≡ put_old)

  pub can_gather : MatchOption failed Worked Idle → CanGather seat ended work gave fails took faults begun.bus ys tick_done log_done
  can_gather m = go failed m
    where
      go : (o : Option RunWhy) → MatchOption o Worked Idle → CanGather seat ended work gave fails took faults begun.bus ys tick_done log_done
      go None w =
          gather_done seat ended work gave fails took faults begun is os xs ys tick_begun tick_done log_begun log_done first seats works tick_is log_is sixteen_in sixteen_out w.0 w.1.adds.bus
          (logs_add log_begun log_done writer put_old put_new out_faults_old out_faults_new log_end w.2).bus
      go (Some y) w = gather_same seat ended work gave fails took faults begun is os xs ys tick_begun tick_done log_begun log_done first seats works tick_is log_is sixteen_in sixteen_out w.1 w.2 w.3

  -- the counts of faults
  abbrev pub Calm : Type 0
  Calm = crew_faults_new ≡ crew_faults_old

  abbrev pub Uncalled : RunWhy → Type 0
  Uncalled w = (clock_faults_new ≡ clock_faults_old) × (out_faults_new ≡ out_faults_old)

  module _ (first_law : FirstLaw) (second_law : SecondLaw) (down_law : DownLaw) (empty_law : EmptyLaw) (last : SeatView) (is_new : List I) (os_new : List O) (it : RunWhy)
      (rights : All (λ (x : X). HasRight (seat x) (work x)) xs)
      (joins : JoinsAll (kept_of no_rights (kept_of ticker_rights (left_after begun job_rights))) (log_done ∷ tick_done ∷ map seat ys) last)
      (inlets : is_new ≡ inlets_of (map work ys)) (outlets : os_new ≡ outlets_of (map work ys)) where
    abbrev pub Before : OutsideView
    Before = record { lanes = views gave fails took faults is os; clock = clock_old; clock_faults = clock_faults_old; crew_faults = crew_faults_old; put = put_old; out_faults = out_faults_old }

    abbrev pub After : OutsideView
    After = record { lanes = views gave fails took faults is_new os_new; clock = clock_new; clock_faults = clock_faults_new; crew_faults = crew_faults_new; put = put_new; out_faults = out_faults_new }

    pub has_come : MatchOption failed Worked Idle → MatchOption failed (it ≡ reason_of tick_end (map ended ys) log_end) (λ w. it ≡ w) → MatchOption failed Calm Uncalled → HasCome most Before After begun last writer it
    has_come m r counts = go failed m r counts
      where
        go : (o : Option RunWhy) → MatchOption o Worked Idle → MatchOption o (it ≡ reason_of tick_end (map ended ys) log_end) (λ w. it ≡ w) → MatchOption o Calm Uncalled → HasCome most Before After begun last writer it
        go None w e k =
            subst (HasCome most Before After begun last writer) (sym e)
            (come first_law second_law down_law empty_law seat ended work gave fails took faults most begun last is is_new os os_new xs ys tick_begun tick_done log_begun log_done tick_end log_end
            clock_old clock_new clock_faults_old clock_faults_new put_old put_new out_faults_old out_faults_new writer crew_faults_old crew_faults_new
            (record { first = first; seats = seats; works = works; rights = rights; done = w.0; tick_is = tick_is; log_is = log_is; ticks = w.1; logs = w.2; joins = joins; inlets = inlets; outlets = outlets; lanes = sixteen_out; count = sixteen_in ∙ sym sixteen_out }) k)
        go (Some y) w e k =
            let same_in : is_new ≡ is = inlets ∙ (ap (λ (zs : List X). inlets_of (map work zs)) w.1 ∙ (ap (λ (ws : List (Work I O)). inlets_of ws) works ∙ inlets_works 1 is os)) in
            let same_out : os_new ≡ os = outlets ∙ (ap (λ (zs : List X). outlets_of (map work zs)) w.1 ∙ (ap (λ (ws : List (Work I O)). outlets_of ws) works ∙ outlets_works 1 is os)) in
            let lanes : views gave fails took faults is_new os_new ≡ views gave fails took faults is os =
            ap (λ (s : List I). views gave fails took faults s os_new) same_in ∙ ap (λ (s : List O). views gave fails took faults is s) same_out in
            let seats' : map seat ys ≡ parted begun job_rights = ap (λ (zs : List X). map seat zs) w.1 ∙ seats in
            subst (HasCome most Before After begun last writer) (sym e)
            (uncrewed most Before After begun last tick_done log_done (map seat ys) writer y first seats' (w.2 ∙ tick_is) (w.3 ∙ log_is) joins lanes w.4 w.5 w.0 k.0 k.1)
