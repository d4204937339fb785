-- What a log states about each lane after a complete run, and after an interrupted one.
use Rattle.std.proofs.Common.{◌≡◌, ◌+◌, ◌⊎◌, ℕ, List, [], ◌∷◌, Bool, true, false, ◌||◌, Option, Some, None, refl, sym, ap, ◌∙◌, subst, inl, inr, ⊎_elim, append-nil, arith}
use Rattle.std.specs.Prelude.{IfSome}
use Rattle.tb_edge.specs.Ends.{InletView, and_given}
use Rattle.tb_edge.specs.declared.given.Given.{Given}
use Rattle.tb_headline.specs.Words.{HasCutCause, Heard, IsReadToEnd, Took}
use Rattle.tb_log.specs.Lanes.{sent}
use Rattle.tb_log.specs.declared.entry.Entry.{Entry}
use Rattle.tb_run.specs.Outcomes.{LaneRan, LaneStopped}
use Rattle.tb_run.specs.Views.{EachLane, LaneView}

pub or-right : (b other : Bool) → other ≡ true → (b || other) ≡ true
or-right true other e = refl
or-right false other e = e

-- each lane, by a claim that follows
pub each-weaker : {A : Type 0} (P Q : ℕ → A → A → Type 0) → ((lane : ℕ) (old new : A) → P lane old new → Q lane old new) → (lane : ℕ) (olds news : List A) → EachLane P lane olds news → EachLane Q lane olds news
each-weaker P Q weaker lane [] [] e = tt
each-weaker P Q weaker lane [] (new ∷ news) e = absurd e
each-weaker P Q weaker lane (old ∷ olds) [] e = absurd e
each-weaker P Q weaker lane (old ∷ olds) (new ∷ news) e =
    (weaker lane old new e.0, each-weaker P Q weaker (lane + 1) olds news e.1)

-- an inlet that is over reports it
over-told : (old new : Option InletView) (given : List Given) (over : Bool) (Dropped : Type 0) → new ≡ and_given old given over → (over ≡ true) ⊎ Dropped → IfSome new (λ inlet. (inlet.over ≡ true) ⊎ Dropped)
over-told old new given over Dropped is end =
    subst (λ (told : Option InletView). IfSome told (λ inlet. (inlet.over ≡ true) ⊎ Dropped)) (sym is) (by old) where
      by : (it : Option InletView) → IfSome (and_given it given over) (λ inlet. (inlet.over ≡ true) ⊎ Dropped)
      by None = tt
      by (Some view) = ⊎_elim (λ e. inl (or-right view.over over e)) (λ d. inr d) end

module _ (log : List Entry) where
  pub ran-heard : (lane : ℕ) (old new : LaneView) → LaneRan log lane old new → Heard 0 log lane old new
  ran-heard lane old new ran = record {
    given = ran.given;
    last = [];
    over = ran.over;
    gave = ran.gave ∙ ap (λ (given : List Given). and_given old.gave given ran.over) (sym (append-nil ran.given));
    lines = ran.lines;
    few = omega arith;
    whole = λ e. refl;
  }

  pub ran-took : (lane : ℕ) (old new : LaneView) → LaneRan log lane old new → Took 0 log lane old new
  ran-took lane old new ran = record {
    put = sent log lane;
    lost = [];
    sends = sym (append-nil (sent log lane));
    took = ran.took;
    few = omega arith;
    failed = inl refl;
  }

  pub ran-cuts : (lane : ℕ) (old new : LaneView) → LaneRan log lane old new → HasCutCause log lane old new
  ran-cuts lane old new ran = ran.cuts

  pub ran-read : (lane : ℕ) (old new : LaneView) → LaneRan log lane old new → IsReadToEnd log lane old new
  ran-read lane old new ran = over-told old.gave new.gave ran.given ran.over _ ran.gave ran.end

  pub stopped-heard : (lane : ℕ) (old new : LaneView) → LaneStopped log lane old new → Heard 1 log lane old new
  stopped-heard lane old new it =
      record { given = it.fed; last = it.last; over = it.over; gave = it.gave; lines = it.lines; few = it.one; whole = it.whole }

  pub stopped-took : (lane : ℕ) (old new : LaneView) → LaneStopped log lane old new → Took 1 log lane old new
  stopped-took lane old new it =
      record { put = it.put; lost = it.lost; sends = it.handed; took = it.took; few = it.one_lost; failed = it.failed }

  pub stopped-cuts : (lane : ℕ) (old new : LaneView) → LaneStopped log lane old new → HasCutCause log lane old new
  stopped-cuts lane old new it = it.cuts
