use Rattle.std.proofs.Common.{◌≡◌, List, slice_get, Some, subst, sym}
use Rattle.tb_expand.specs.declared.walk.Visit.{Visit}
use Rattle.tb_expand.specs.declared.walk.Visit.TheVariants.{Open}
use Rattle.tb_expand.specs.Helpers.Walks.{Continues}
use Rattle.tb_expand.proofs.Walking.{last_looked, last_within, next_within, open_continues, advance_continues, close_continues, open_closes_cycle, leads_on}
use Rattle.tb_expand.proofs.walk.step.Goals as goal

pub looked_at-looked-requires : goal.looked_at-looked-requires
looked_at-looked-requires c = last_within c.args.graph.now c.args.walk.now c.requires.walk c.requires.last.0 c.args.position c.requires.last.1

pub close-requires : goal.close-requires
close-requires c = last_within c.args.graph.now c.args.walk.now c.requires.walk c.requires.last.0 c.args.position c.requires.last.1

pub returns-in_default : goal.returns-in_default
returns-in_default c =
    let graph = c.args.graph.now in
    let walk = c.args.walk.now in
    let w = c.requires.walk in
    let prefix = c.requires.last.0 in
    let way = c.requires.last.1 in
    let position = c.args.position in
    let looked = c.looked_at-looked.result in
    subst (Continues graph walk) (sym (c.in_ok-close.ensures prefix way))
    (close_continues graph walk w position looked prefix (last_looked graph walk w prefix position looked way c.looked_at-looked.ensures) (sym c.in_default.ensures.value) way)

pub visit_of-requires : goal.visit_of-requires
visit_of-requires c = next_within c.args.graph.now c.args.walk.now c.requires.walk c.requires.graph c.args.position c.looked_at-looked.result c.in-Some.next (sym c.in-Some.ensures.value)

pub open-requires : goal.open-requires
open-requires c = next_within c.args.graph.now c.args.walk.now c.requires.walk c.requires.graph c.args.position c.looked_at-looked.result c.in-Some.next (sym c.in-Some.ensures.value)

pub set-requires : goal.set-requires
set-requires c = last_within c.args.graph.now c.args.walk.now c.requires.walk c.requires.last.0 c.args.position c.requires.last.1

pub returns-in_ok-open-in-New : goal.returns-in_ok-open-in-New
returns-in_ok-open-in-New c =
    let graph = c.args.graph.now in
    let walk = c.args.walk.now in
    let w = c.requires.walk in
    let next = c.in-Some.next in
    subst (Continues graph walk) (sym c.in_ok-open-in-New.ensures)
    (open_continues graph walk w next c.in-New.ensures
    (leads_on graph walk w c.args.position c.looked_at-looked.result next c.requires.last.0 (sym c.in-Some.ensures.value) c.requires.last.1))

pub returns-in-Open : goal.returns-in-Open
returns-in-Open c =
    open_closes_cycle c.args.graph.now c.args.walk.now c.requires.walk c.args.position c.looked_at-looked.result c.in-Some.next c.in-Open.field-0 c.requires.last.0
    (sym c.in-Some.ensures.value) c.in-Open.ensures c.requires.last.1

pub returns-in-Done : goal.returns-in-Done
returns-in-Done c =
    let graph = c.args.graph.now in
    let walk = c.args.walk.now in
    let w = c.requires.walk in
    let position = c.args.position in
    let looked = c.looked_at-looked.result in
    let here : slice_get walk.visits position ≡ Some (Open looked) = last_looked graph walk w c.requires.last.0 position looked c.requires.last.1 c.looked_at-looked.ensures in
    subst (λ (visits : List Visit). Continues graph walk (record { visits = visits; way = walk.way; order = walk.order })) (sym c.set.ensures)
    (advance_continues graph walk w position looked c.in-Some.next here (sym c.in-Some.ensures.value) c.in-Done.ensures)
