-- What comes back of the crew of a pair.
use Rattle.std.proofs.Common.{◌≡◌, ℕ, List, Option, Some, None, MatchOption, Result, Ok, Err, IfOk, IfErr, OnOk, sym, ap, subst, ◌∙◌}
use Rattle.tb_edge.specs.Faults.{Rose}
use Rattle.tb_edge.specs.Jobs.{FailsOnly, jobs_of}
use Rattle.tb_edge.specs.declared.crew.CrewFault.{CrewFault}
use Rattle.tb_run.specs.declared.ends.RunWhy.{RunWhy}
use Rattle.tb_run.specs.Running.{FailsFor, why_by}
use Rattle.tb_edge.specs.Ends.{ClockView}
use Rattle.tb_lock.specs.Seats.{SeatView}
use Rattle.tb_run.specs.declared.ends.WorkEnd.{WorkEnd}
use Rattle.tb_run.proofs.BackLemmas.{fails_for}

pub back_by : {J U : Type 0} (items : U → List J) (r : Result U (CrewFault J)) (failed : Option RunWhy) (back old : List J) (A : List J → Type 0) (B : Type 0) (f f' : ℕ) →
    IfOk r (λ jobs. (failed ≡ None) × (back ≡ items jobs)) → IfErr r (λ it. (failed ≡ Some (why_by it)) × (back ≡ jobs_of it)) → IfOk r (λ jobs. A (items jobs)) →
    IfErr r (λ it. (jobs_of it ≡ old) × B) → IfErr r (λ it. FailsOnly it (Rose f f')) → MatchOption failed (A back) (λ w. FailsFor w f f' × (back ≡ old) × B)
back_by items (Ok jobs) failed back old A B f f' ok err a b rose =
    subst (λ (o : Option RunWhy). MatchOption o (A back) (λ w. FailsFor w f f' × (back ≡ old) × B)) (sym ok.0) (subst A (sym ok.1) a)
back_by items (Err it) failed back old A B f f' ok err a b rose =
    subst (λ (o : Option RunWhy). MatchOption o (A back) (λ w. FailsFor w f f' × (back ≡ old) × B)) (sym err.0) (fails_for it f f' rose, err.1 ∙ b.0, b.1)

pub counts_by : {J U : Type 0} (items : U → List J) (r : Result U (CrewFault J)) (failed : Option RunWhy) (back old : List J) (C B : Type 0) →
    IfOk r (λ jobs. (failed ≡ None) × (back ≡ items jobs)) → IfErr r (λ it. (failed ≡ Some (why_by it)) × (back ≡ jobs_of it)) → OnOk r C →
    IfErr r (λ it. (jobs_of it ≡ old) × B) → MatchOption failed C (λ w. B)
counts_by items (Ok jobs) failed back old C B ok err calm same = subst (λ (o : Option RunWhy). MatchOption o C (λ w. B)) (sym ok.0) calm
counts_by items (Err it) failed back old C B ok err calm same = subst (λ (o : Option RunWhy). MatchOption o C (λ w. B)) (sym err.0) same.1

-- what was done, said of what is the same
pub moved : {K : Type 0} (T : SeatView → SeatView → K → WorkEnd → WorkEnd → Type 0) (s s' o o' : SeatView) (k k' : K) (e e' f f' : WorkEnd) → s' ≡ s → o' ≡ o → k' ≡ k → e' ≡ e → f' ≡ f → T s o k e f → T s' o' k' e' f'
moved {K} T s s' o o' k k' e e' f f' ps po pk pe pf t =
    subst (λ (x : WorkEnd). T s' o' k' e' x) (sym pf)
    (subst (λ (x : WorkEnd). T s' o' k' x f) (sym pe)
    (subst (λ (x : K). T s' o' x e f) (sym pk)
    (subst (λ (x : SeatView). T s' x k e f) (sym po)
    (subst (λ (x : SeatView). T x o k e f) (sym ps) t))))

-- what a job comes to that was lent, said of what it leaves
pub worked_so : {K J : Type 0} (o : Option RunWhy) (A : Type 0) (T : SeatView → SeatView → K → WorkEnd → WorkEnd → Type 0) (F : RunWhy → Type 0) (S : Type 0) (old new : J) (one other : J → SeatView) (clock : J → K) (one_end other_end : J → WorkEnd) (told : K → Option ClockView)
    (s p : SeatView) (k : K) (e f : WorkEnd) → s ≡ one new → p ≡ other new → k ≡ clock new → e ≡ one_end new → f ≡ other_end new
    → MatchOption o (A × T (one new) (other new) (clock new) (one_end new) (other_end new)) (λ w. F w × S × (new ≡ old)) → MatchOption o (A × T s p k e f) (λ w. F w × S × ((s ≡ one old) × (p ≡ other old) × (told k ≡ told (clock old))))
worked_so None A T F S old new one other clock one_end other_end told s p k e f hs hp hk he hf m =
    (m.0, moved T (one new) s (other new) p (clock new) k (one_end new) e (other_end new) f hs hp hk he hf m.1)
worked_so {K} {J} (Some w) A T F S old new one other clock one_end other_end told s p k e f hs hp hk he hf m =
    (m.0, m.1, (hs ∙ ap one m.2, hp ∙ ap other m.2, ap told hk ∙ ap (λ (j : J). told (clock j)) m.2))

pub calm_so : {K J : Type 0} (o : Option RunWhy) (A : Type 0) (old new : J) (clock : J → K) (faults : K → ℕ) (k : K) → k ≡ clock new → MatchOption o A (λ w. new ≡ old) → MatchOption o A (λ w. faults k ≡ faults (clock old))
calm_so None A old new clock faults k e m = m
calm_so {K} {J} (Some w) A old new clock faults k e m = ap faults e ∙ ap (λ (j : J). faults (clock j)) m
