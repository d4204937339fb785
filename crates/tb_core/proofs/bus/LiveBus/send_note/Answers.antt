use Rattle.std.proofs.Common.{◌≡◌, ◌<◌, ◌∙◌, List, ap, length, subst, sym}
use Rattle.std.specs.List.{All}
use Rattle.tb_search.specs.Candidates.{all_take, rows_of, wanting}
use Rattle.tb_search.specs.FoundEffects.{noting}
use Rattle.tb_search.specs.declared.living.Living.{Living}
use Rattle.tb_living.specs.Holdings.{HoldTheSame}
use Rattle.tb_living.specs.Indexes.{IsAwakeAt}
use Rattle.tb_living.proofs.NoteLemmas.{wanting-within}
use Rattle.tb_living.proofs.ReadLemmas.{on-err, some-at}
use Rattle.tb_living.proofs.RestLemmas.{wanting-awake}
use Rattle.tb_core.specs.declared.bus.LiveBus.{LiveBus}
use Rattle.tb_core.proofs.HoldLemmas.{changed-since, noted-changed, stands-held}
use Rattle.tb_core.proofs.SetLemmas.{stands-then}
use Rattle.tb_core.proofs.bus.LiveBus.send_note.Goals as goal

pub rouse-requires-clause-within : goal.rouse-requires-clause-within
rouse-requires-clause-within g c = wanting-within c.args.terms c.args.self.now.living.items c.as_slice.result.now (c.as_slice.ensures ∙ c.requires.wanting)

pub hand_out-requires-clause-wanting : goal.hand_out-requires-clause-wanting
hand_out-requires-clause-wanting g c =
    let old = c.args.self.now in
    let roused = c.rouse.new.self in
    let terms = c.args.terms in
    let living : roused.living.items ≡ old.living.items = ap (λ (b : LiveBus _ _ _). b.living.items) c.rouse.ensures.alone in
    c.as_slice-2.ensures ∙ c.requires.wanting ∙ ap (λ (all : List (Living _)). wanting terms 0 (rows_of all)) (sym living)

pub hand_out-requires-clause-room : goal.hand_out-requires-clause-room
hand_out-requires-clause-room g c =
    let old = c.args.self.now in
    let roused = c.rouse.new.self in
    let terms = c.args.terms in
    let living : roused.living.items ≡ old.living.items = ap (λ (b : LiveBus _ _ _). b.living.items) c.rouse.ensures.alone in
    ap (λ (all : List (Living _)). all_take terms (rows_of all)) living ∙ c.requires.room

pub returns-in_err-hand_out-clause-err : goal.returns-in_err-hand_out-clause-err
returns-in_err-hand_out-clause-err g c =
    let view = g.W.Walker.view in
    let old = c.args.self.now in
    let roused = c.rouse.new.self in
    let same = c.rouse.ensures.same in
    let unheld : HoldTheSame roused.living.items c.hand_out.new.all.items = record { bares = c.hand_out.ensures.bares; helds = c.in_err-hand_out.ensures.err } in
    on-err c.from_residual-in_err-hand_out.result (stands-then view old roused (record roused { living = c.hand_out.new.all }) same (stands-held view roused c.hand_out.new.all same.sound unheld))

pub returns-clause-changed : goal.returns-clause-changed
returns-clause-changed g c at within =
    let old = c.args.self.now in
    let roused = c.rouse.new.self in
    let terms = c.args.terms in
    let living : roused.living.items ≡ old.living.items = ap (λ (b : LiveBus _ _ _). b.living.items) c.rouse.ensures.alone in
    let view = g.W.Walker.view in
    let same = c.rouse.ensures.same in
    let before = some-at roused.living.items at (subst (λ (all : List (Living _)). at < length all) (sym living) within) in
    let wanted = c.requires.wanting ∙ ap (λ (all : List (Living _)). wanting terms 0 (rows_of all)) (sym living) in
    let awake = wanting-awake roused.index terms roused.living.items c.args.indices.now wanted
    (subst (λ (all : List (Living _)). All (IsAwakeAt roused.index all) c.args.indices.now) (sym living) (subst (All (IsAwakeAt roused.index old.living.items)) c.as_slice.ensures c.in_ok-rouse.ensures.awake)) in
    changed-since view old roused (record roused { living = c.hand_out.new.all }) at (noting terms) same
    (ap (λ (b : LiveBus _ _ _). b.living) c.rouse.ensures.alone) (ap (λ (b : LiveBus _ _ _). b.stale) c.rouse.ensures.alone)
    (noted-changed view roused at before.0 terms c.hand_out.new.all same.sound before.1 c.hand_out.ensures.bares c.in_ok-hand_out.ensures.ok awake)
