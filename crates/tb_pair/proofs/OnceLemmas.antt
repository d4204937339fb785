-- Where an entry stands in two lists, and what stands behind an input that was dropped, or before the first that is handed out.
use Rattle.std.proofs.Common.{◌≡◌, List, [], ◌∷◌, ◌++◌, Bool, true, false, true≢false, cond, is_some, Option, Some, None, refl, sym, ap, ◌∙◌, inl, inr, ◌⊎◌, ⊎_elim}
use Rattle.std.specs.List.{cons_option}
use Rattle.tb_log.specs.declared.entry.Input.{Input}
use Rattle.tb_log.specs.declared.entry.Reply.{Reply}
use Rattle.tb_log.specs.declared.entry.Reply.TheVariants.{Dropped}
use Rattle.tb_log.specs.declared.entry.Why.TheVariants as why
use Rattle.tb_log.specs.declared.entry.Out.{Out}
use Rattle.tb_log.specs.declared.entry.Entry.{Entry}
use Rattle.tb_log.specs.declared.entry.Entry.TheVariants.{Fed, Gave}
use Rattle.tb_log.specs.Lanes.{inputs, given_on}
use Rattle.tb_lock.specs.declared.rights.Rights.{Rights}
use Rattle.tb_lock.specs.Rights.{In, Out as Outs, has, own, right_of}
use Rattle.tb_lock.proofs.OwnLemmas.{own-append}
use Rattle.tb_run.specs.Dropping.{HasDropped, is_down}
use Rattle.tb_run.specs.Outcomes.{is_of}
use Rattle.tb_run.proofs.Projections.{inputs_own}
use Rattle.tb_run.proofs.ReadLemmas.{inputs_append}
use Rattle.tb_pair.specs.Piping.{connect}
use Rattle.tb_pair.specs.Passing.{AwaitsName}
use Rattle.tb_pair.specs.Workers.{NamesFirst, StopsWhereDropped}
use Rattle.tb_pair.proofs.PipeLemmas.{dropped_not}

-- an entry of two lists stands in the one or in the other
stands_in : (xs ys before : List Entry) (entry : Entry) (after : List Entry) → xs ++ ys ≡ before ++ entry ∷ after
    → ((rest : List Entry) × (xs ≡ before ++ entry ∷ rest) × (after ≡ rest ++ ys)) ⊎ ((front : List Entry) × (ys ≡ front ++ entry ∷ after))
stands_in [] ys before entry after e = inr (before, e)
stands_in (x ∷ xs) ys [] entry after e =
    let whole : x ∷ (xs ++ ys) ≡ entry ∷ after = e in
    let head : x ≡ entry = cc in
    let tail : xs ++ ys ≡ after = cc in
    inl (xs, ap (λ (y : Entry). y ∷ xs) head, sym tail)
stands_in (x ∷ xs) ys (y ∷ before) entry after e =
    let whole : x ∷ (xs ++ ys) ≡ y ∷ (before ++ entry ∷ after) = e in
    let head : x ≡ y = cc in
    let tail : xs ++ ys ≡ before ++ entry ∷ after = cc in
    ⊎_elim (λ h. inl (h.0, ap (λ (l : List Entry). x ∷ l) h.1 ∙ ap (λ (z : Entry). z ∷ (before ++ entry ∷ h.0)) head, h.2)) (λ h. inr h) (stands_in xs ys before entry after tail)

nowhere : (front : List Entry) (entry : Entry) (back : List Entry) → [] ≡ front ++ entry ∷ back → ⊥
nowhere [] entry back e = absurd cc
nowhere (x ∷ front) entry back e = absurd cc

-- nothing was dropped
pub once_none : (log : List Entry) → (HasDropped (is_of 1) log → ⊥) → StopsWhereDropped log
once_none log none = λ before it after t e. absurd (none (before, it, after, t, e))

pub once_one : (entry : Entry) → StopsWhereDropped (entry ∷ [])
once_one entry = λ before it after t e. at before it after e
  where
    at : (before : List Entry) (it : Input) (after : List Entry) → entry ∷ [] ≡ before ++ Fed it (Dropped why.Down) ∷ after → inputs after 1 ≡ []
    at [] it after e = let tail : after ≡ [] = cc in ap (λ (l : List Entry). inputs l 1) tail
    at (x ∷ before) it after e = let tail : [] ≡ before ++ Fed it (Dropped why.Down) ∷ after = cc in absurd (nowhere before (Fed it (Dropped why.Down)) after tail)

pub once_behind : (xs ys : List Entry) → (HasDropped (is_of 1) xs → ⊥) → StopsWhereDropped ys → StopsWhereDropped (xs ++ ys)
once_behind xs ys none once = λ before it after t e.
    ⊎_elim (λ h. absurd (none (before, it, h.0, t, h.1))) (λ h. once h.0 it after t h.1) (stands_in xs ys before (Fed it (Dropped why.Down)) after e)

not_empty : (x : Input) (xs : List Input) → x ∷ xs ≡ [] → ⊥
not_empty x xs e = absurd cc

back_none : (xs ys : List Input) → xs ++ ys ≡ [] → ys ≡ []
back_none [] ys e = e
back_none (x ∷ xs) ys e = absurd (not_empty x (xs ++ ys) e)

option_none : (found : Option Input) (ys : List Input) → cons_option found ys ≡ [] → ys ≡ []
option_none None ys e = e
option_none (Some x) ys e = absurd (not_empty x ys e)

pub once_before : (xs ys : List Entry) → StopsWhereDropped xs → inputs ys 1 ≡ [] → StopsWhereDropped (xs ++ ys)
once_before xs ys once none = λ before it after t e.
    ⊎_elim
    (λ h. ap (λ (l : List Entry). inputs l 1) h.2 ∙ (inputs_append 1 h.0 ys ∙ (ap (λ (s : List Input). s ++ inputs ys 1) (once before it h.0 t h.1) ∙ none)))
    (λ h. option_none (given_on 1 it) (inputs after 1)
    (back_none (inputs h.0 1) (inputs (Fed it (Dropped why.Down) ∷ after) 1)
    (sym (inputs_append 1 h.0 (Fed it (Dropped why.Down) ∷ after)) ∙ (ap (λ (l : List Entry). inputs l 1) (sym h.1) ∙ none))))
    (stands_in xs ys before (Fed it (Dropped why.Down)) after e)

-- behind the line by which the tool names itself
pub once_named : (reads : Bool) (reply : Reply) (more : List Entry) → StopsWhereDropped more → (reads ≡ true → is_down reply ≡ false) → (reads ≡ false → inputs more 1 ≡ []) → StopsWhereDropped (Fed connect reply ∷ more)
once_named true reply more once low none = once_behind (Fed connect reply ∷ []) more (dropped_not (is_of 1) connect reply (low refl)) once
once_named false reply more once low none = once_before (Fed connect reply ∷ []) more (once_one (Fed connect reply)) (none refl)

-- the right for an input of lane 1 is there
right_there : (rights : Rights) → has rights (In 1) ≡ true → (it : Input) (reply : Reply) → is_of 1 it ≡ true → has rights (right_of (Fed it reply)) ≡ true
right_there rights ins it reply t = by (has rights (right_of (Fed it reply))) (inputs_own rights 1 ins (Fed it reply ∷ []))
  where
    given : (found : Option Input) → is_some found ≡ true → [] ≡ cons_option found [] → ⊥
    given None h e = absurd (true≢false (sym h))
    given (Some x) h e = not_empty x [] (sym e)

    by : (b : Bool) → inputs (cond b (Fed it reply ∷ []) []) 1 ≡ inputs (Fed it reply ∷ []) 1 → b ≡ true
    by true e = refl
    by false e = absurd (given (given_on 1 it) t e)

-- where an entry stands among one's own
own_stands : (rights : Rights) (before : List Entry) (entry : Entry) (after : List Entry) → has rights (right_of entry) ≡ true → own rights (before ++ entry ∷ after) ≡ own rights before ++ entry ∷ own rights after
own_stands rights before entry after there =
    own-append rights before (entry ∷ after) ∙ ap (λ (l : List Entry). own rights before ++ l) (ap (λ (b : Bool). cond b (entry ∷ own rights after) (own rights after)) there)

-- what one's own entries say of inputs that were dropped, the log says
pub once_own : (rights : Rights) → has rights (In 1) ≡ true → (log more : List Entry) → own rights log ≡ more → StopsWhereDropped more → StopsWhereDropped log
once_own rights ins log more is once = λ before it after t e.
    sym (inputs_own rights 1 ins after)
    ∙ once (own rights before) it (own rights after) t (sym is ∙ (ap (λ (l : List Entry). own rights l) e ∙ own_stands rights before (Fed it (Dropped why.Down)) after (right_there rights ins it (Dropped why.Down) t)))

no_gave : (front back : List Entry) (out : Out) (more : List Entry) → NamesFirst more → more ≡ front ++ Gave 1 out ∷ back → inputs front 1 ≡ [] → ⊥
no_gave front back out more first is none = ⊎_elim (λ e. nowhere front (Gave 1 out) back (sym e ∙ is)) (λ h. at front h.0 h.1 (sym h.2 ∙ is) none) first
  where
    at : (front : List Entry) (reply : Reply) (rest : List Entry) → Fed connect reply ∷ rest ≡ front ++ Gave 1 out ∷ back → inputs front 1 ≡ [] → ⊥
    at [] reply rest e none = absurd cc
    at (x ∷ front) reply rest e none =
        let head : Fed connect reply ≡ x = cc in
        not_empty connect (inputs front 1) (ap (λ (y : Entry). inputs (y ∷ front) 1) head ∙ none)

-- nothing is handed out before the tool has named itself
pub awaits : (rights : Rights) → has rights (In 1) ≡ true → has rights (Outs 1) ≡ true → (log more : List Entry) → own rights log ≡ more → NamesFirst more → AwaitsName log
awaits rights ins outs log more is first = λ before out after e none.
    no_gave (own rights before) (own rights after) out more first (sym is ∙ (ap (λ (l : List Entry). own rights l) e ∙ own_stands rights before (Gave 1 out) after outs)) (inputs_own rights 1 ins before ∙ none)

pub awaits_none : AwaitsName []
awaits_none = λ before out after e none. nowhere before (Gave 1 out) after e
