use Rattle.std.proofs.Common.{◌<◌, ℕ, [], ◌∷◌, length, set, slice_get, ap, sym, subst, ◌∙◌}
use Rattle.std.proofs.lemmas.Option.{slice_get_within}
use Rattle.tb_process_steps.specs.Processes.{fresh}
use Rattle.tb_walk.specs.Helpers.Reads.{branch}
use Rattle.tb_walk.specs.Helpers.Takings.{EndsTo}
use Rattle.tb_walk.specs.WalkViews.{IsLeft}
use Rattle.tb_walk.specs.declared.taken.Taken.{Taken}
use Rattle.tb_walk.proofs.EndingLemmas.{end_settles, put_settles}
use Rattle.tb_walk.proofs.SettleLemmas.{here_found}
use Rattle.tb_walk.proofs.taken.settle.Goals as goal

pub set_found-at-requires : goal.set_found-at-requires
set_found-at-requires c =
    let walk = c.args.walk.now in
    let left = subst (λ (t : Taken). IsLeft c.args.code.now walk t c.requires.taken.0) c.in-Ended.is c.requires.taken.1 in
    let h = here_found c.args.code.now walk c.in-Ended.k [] c.requires.taken.0 c.requires.on left in
    slice_get_within walk.found c.in-Ended.k h.one h.found

pub end_at-requires-clause-within : goal.end_at-requires-clause-within
end_at-requires-clause-within c =
    let walk = c.args.walk.now in
    let left = subst (λ (t : Taken). IsLeft c.args.code.now walk t c.requires.taken.0) c.in-Ended.is c.requires.taken.1 in
    let h = here_found c.args.code.now walk c.in-Ended.k [] c.requires.taken.0 c.requires.on left in
    subst (λ (n : ℕ). n < length walk.row) (sym (c.set_found-at.ensures.branch h.one h.found)) h.in_row.0

pub end_at-requires-clause-there : goal.end_at-requires-clause-there
end_at-requires-clause-there c =
    let walk = c.args.walk.now in
    let left = subst (λ (t : Taken). IsLeft c.args.code.now walk t c.requires.taken.0) c.in-Ended.is c.requires.taken.1 in
    let h = here_found c.args.code.now walk c.in-Ended.k [] c.requires.taken.0 c.requires.on left in
    λ b i. (h.in_row.1 b (ap (slice_get walk.row) (sym (c.set_found-at.ensures.branch h.one h.found)) ∙ i)).0

pub set_found-at-requires-in-Entered : goal.set_found-at-requires-in-Entered
set_found-at-requires-in-Entered c =
    let walk = c.args.walk.now in
    let left = subst (λ (t : Taken). IsLeft c.args.code.now walk t c.requires.taken.0) c.in-Entered.is c.requires.taken.1 in
    let h = here_found c.args.code.now walk c.in-Entered.k (branch c.in-Entered.position walk.ticks ∷ []) c.requires.taken.0 c.requires.on left in
    slice_get_within walk.found c.in-Entered.k h.one h.found

pub enter_at-requires : goal.enter_at-requires
enter_at-requires c =
    let walk = c.args.walk.now in
    let left = subst (λ (t : Taken). IsLeft c.args.code.now walk t c.requires.taken.0) c.in-Entered.is c.requires.taken.1 in
    let h = here_found c.args.code.now walk c.in-Entered.k (branch c.in-Entered.position walk.ticks ∷ []) c.requires.taken.0 c.requires.on left in
    subst (λ (n : ℕ). n < length walk.row) (sym (c.set_found-at-in-Entered.ensures.branch h.one h.found)) h.in_row.0

pub returns-in-Ended-clause-gone : goal.returns-in-Ended-clause-gone
returns-in-Ended-clause-gone c = λ offered is.
    (let walk = c.args.walk.now in
    let whole = fresh c.args.code.now.body.tree in
    let left = subst (λ (t : Taken). IsLeft c.args.code.now walk t offered) c.in-Ended.is is in
    let h = here_found c.args.code.now walk c.in-Ended.k [] offered c.requires.on left in
    let at = c.set_found-at.ensures.branch h.one h.found in
    let ends = subst (λ (n : ℕ). EndsTo whole walk.ticks walk.row n c.end_at.new.row) at c.end_at.ensures in
    let goes = h.goes c.end_at.new.row (end_settles whole walk.ticks walk.row h.one.branch c.end_at.new.row h.begun ends) in
    record { reads = goes.reads; term = goes.term; store = c.set_found-at.ensures.store h.one h.found ∙ goes.store })

pub returns-in-Entered-clause-gone : goal.returns-in-Entered-clause-gone
returns-in-Entered-clause-gone c = λ offered is.
    (let walk = c.args.walk.now in
    let whole = fresh c.args.code.now.body.tree in
    let next = branch c.in-Entered.position walk.ticks in
    let left = subst (λ (t : Taken). IsLeft c.args.code.now walk t offered) c.in-Entered.is is in
    let h = here_found c.args.code.now walk c.in-Entered.k (next ∷ []) offered c.requires.on left in
    let at = c.set_found-at-in-Entered.ensures.branch h.one h.found in
    let put = c.enter_at.ensures ∙ ap (λ (n : ℕ). set walk.row n next) at in
    let goes = h.goes c.enter_at.new.row (put_settles whole walk.ticks walk.row h.one.branch next c.enter_at.new.row h.begun h.in_row.0 put) in
    record { reads = goes.reads; term = goes.term; store = c.set_found-at-in-Entered.ensures.store h.one h.found ∙ goes.store })
