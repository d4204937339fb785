use Rattle.std.proofs.Common.{◌≡◌, List, [], ◌∷◌, ◌++◌, OnOk, ap, sym, subst, ◌∙◌, append_assoc}
use Rattle.tb_process_steps.specs.Processes.{fresh}
use Rattle.tb_code.specs.Positions.{HasParts, part}
use Rattle.tb_code.specs.declared.node.Op.TheVariants as op
use Rattle.tb_walk.specs.Helpers.Partings.{row_by}
use Rattle.tb_walk.specs.Helpers.Places.{root_at}
use Rattle.tb_walk.specs.Helpers.Reads.{branch}
use Rattle.tb_walk.specs.declared.branch.Branch.{Branch}
use Rattle.tb_walk.proofs.TakeLemmas.{here_by, by_seq, by_alt, by_par, by_star, by_wait, by_if, by_when, by_let, of_side, on_first_side, on_second_side}
use Rattle.tb_walk.proofs.take.+part_at.Goals as goal

pub part_at-returns-in-Seq : goal.part_at-returns-in-Seq
part_at-returns-in-Seq t c =
    let e = here_by (fresh c.args.code.now.body.tree) c.args.at c.first-first.result c.first-first.ensures c.args.atom c.args.since.ticks c.args.since.entered (op.Seq c.in-Seq.right) (c.node.ensures.op ∙ c.in-Seq.is) ∙ by_seq (fresh c.args.code.now.body.tree) c.args.at c.first-first.result c.first-first.ensures c.args.atom c.args.since.ticks c.args.since.entered c.in-Seq.right (subst (HasParts (fresh c.args.code.now.body.tree) c.args.at) c.in-Seq.is c.node.ensures.parts) in
    subst (λ (l : List Branch). OnOk c.part_first.result (c.part_first.new.row ≡ c.args.row.now ++ l)) (sym e) c.part_first.ensures

pub part_at-returns-in-Alt : goal.part_at-returns-in-Alt
part_at-returns-in-Alt t c =
    let e = here_by (fresh c.args.code.now.body.tree) c.args.at c.first-first.result c.first-first.ensures c.args.atom c.args.since.ticks c.args.since.entered (op.Alt c.in-Alt.right) (c.node.ensures.op ∙ c.in-Alt.is) ∙ by_alt (fresh c.args.code.now.body.tree) c.args.at c.first-first.result c.first-first.ensures c.args.atom c.args.since.ticks c.args.since.entered c.in-Alt.right (subst (HasParts (fresh c.args.code.now.body.tree) c.args.at) c.in-Alt.is c.node.ensures.parts) ∙ of_side (fresh c.args.code.now.body.tree) c.args.at c.first-first.result c.first-first.ensures c.args.atom c.args.since.ticks c.args.since.entered c.in-Alt.right c.side.result c.side.ensures in
    subst (λ (l : List Branch). OnOk c.part_at.result (c.part_at.new.row ≡ c.args.row.now ++ l)) (sym e) c.part_at.ensures

pub part_at-returns-then-atom-right : goal.part_at-returns-then-atom-right
part_at-returns-then-atom-right t c =
    let e = here_by (fresh c.args.code.now.body.tree) c.args.at c.first-first.result c.first-first.ensures c.args.atom c.args.since.ticks c.args.since.entered (op.Star c.in-Star.right) (c.node.ensures.op ∙ c.in-Star.is) ∙ by_star (fresh c.args.code.now.body.tree) c.args.at c.first-first.result c.first-first.ensures c.args.atom c.args.since.ticks c.args.since.entered c.in-Star.right (subst (HasParts (fresh c.args.code.now.body.tree) c.args.at) c.in-Star.is c.node.ensures.parts) ∙ on_first_side c.args.atom c.in-Star.right _ _ c.if-atom-right.true in
    subst (λ (l : List Branch). OnOk c.part_first-then-atom-right.result (c.part_first-then-atom-right.new.row ≡ c.args.row.now ++ l)) (sym e) c.part_first-then-atom-right.ensures

pub part_at-returns-else-atom-right : goal.part_at-returns-else-atom-right
part_at-returns-else-atom-right t c =
    let e = here_by (fresh c.args.code.now.body.tree) c.args.at c.first-first.result c.first-first.ensures c.args.atom c.args.since.ticks c.args.since.entered (op.Star c.in-Star.right) (c.node.ensures.op ∙ c.in-Star.is) ∙ by_star (fresh c.args.code.now.body.tree) c.args.at c.first-first.result c.first-first.ensures c.args.atom c.args.since.ticks c.args.since.entered c.in-Star.right (subst (HasParts (fresh c.args.code.now.body.tree) c.args.at) c.in-Star.is c.node.ensures.parts) ∙ on_second_side c.args.atom c.in-Star.right _ _ c.if-atom-right.false in
    subst (λ (l : List Branch). OnOk c.part_at-else-atom-right.result (c.part_at-else-atom-right.new.row ≡ c.args.row.now ++ l)) (sym e) c.part_at-else-atom-right.ensures

pub part_at-returns-in-If : goal.part_at-returns-in-If
part_at-returns-in-If t c =
    let e = here_by (fresh c.args.code.now.body.tree) c.args.at c.first-first.result c.first-first.ensures c.args.atom c.args.since.ticks c.args.since.entered (op.If c.in-If.field-0 c.in-If.right) (c.node.ensures.op ∙ c.in-If.is) ∙ by_if (fresh c.args.code.now.body.tree) c.args.at c.first-first.result c.first-first.ensures c.args.atom c.args.since.ticks c.args.since.entered c.in-If.field-0 c.in-If.right (subst (HasParts (fresh c.args.code.now.body.tree) c.args.at) c.in-If.is c.node.ensures.parts) ∙ of_side (fresh c.args.code.now.body.tree) c.args.at c.first-first.result c.first-first.ensures c.args.atom c.args.since.ticks c.args.since.entered c.in-If.right c.side-in-If.result c.side-in-If.ensures in
    subst (λ (l : List Branch). OnOk c.part_at-in-If.result (c.part_at-in-If.new.row ≡ c.args.row.now ++ l)) (sym e) c.part_at-in-If.ensures

pub part_at-returns-in-When : goal.part_at-returns-in-When
part_at-returns-in-When t c =
    let e = here_by (fresh c.args.code.now.body.tree) c.args.at c.first-first.result c.first-first.ensures c.args.atom c.args.since.ticks c.args.since.entered (op.When c.in-When.field-0) (c.node.ensures.op ∙ c.in-When.is) ∙ by_when (fresh c.args.code.now.body.tree) c.args.at c.first-first.result c.first-first.ensures c.args.atom c.args.since.ticks c.args.since.entered c.in-When.field-0 (subst (HasParts (fresh c.args.code.now.body.tree) c.args.at) c.in-When.is c.node.ensures.parts) in
    subst (λ (l : List Branch). OnOk c.part_at-in-When.result (c.part_at-in-When.new.row ≡ c.args.row.now ++ l)) (sym e) c.part_at-in-When.ensures

pub part_at-returns-in-Let : goal.part_at-returns-in-Let
part_at-returns-in-Let t c =
    let e = here_by (fresh c.args.code.now.body.tree) c.args.at c.first-first.result c.first-first.ensures c.args.atom c.args.since.ticks c.args.since.entered (op.Let c.in-Let.field-0) (c.node.ensures.op ∙ c.in-Let.is) ∙ by_let (fresh c.args.code.now.body.tree) c.args.at c.first-first.result c.first-first.ensures c.args.atom c.args.since.ticks c.args.since.entered c.in-Let.field-0 (subst (HasParts (fresh c.args.code.now.body.tree) c.args.at) c.in-Let.is c.node.ensures.parts) in
    subst (λ (l : List Branch). OnOk c.part_at-in-Let.result (c.part_at-in-Let.new.row ≡ c.args.row.now ++ l)) (sym e) c.part_at-in-Let.ensures

pub part_at-returns-in-Waits : goal.part_at-returns-in-Waits
part_at-returns-in-Waits t c =
    let e = here_by (fresh c.args.code.now.body.tree) c.args.at c.first-first.result c.first-first.ensures c.args.atom c.args.since.ticks c.args.since.entered (op.Waits c.in-Waits.field-0) (c.node.ensures.op ∙ c.in-Waits.is) ∙ by_wait (fresh c.args.code.now.body.tree) c.args.at c.first-first.result c.first-first.ensures c.args.atom c.args.since.ticks c.args.since.entered c.in-Waits.field-0 (subst (HasParts (fresh c.args.code.now.body.tree) c.args.at) c.in-Waits.is c.node.ensures.parts) in
    subst (λ (l : List Branch). OnOk c.part_at-in-Waits.result (c.part_at-in-Waits.new.row ≡ c.args.row.now ++ l)) (sym e) c.part_at-in-Waits.ensures

pub part_merge-returns-in_ok-push_waiting : goal.part_merge-returns-in_ok-push_waiting
part_merge-returns-in_ok-push_waiting t c =
    let whole = fresh c.args.code.now.body.tree in
    let row = c.args.row.now in
    let first = c.first-first.result in
    let waits = branch first c.args.since.entered ∷ [] in
    let other = row_by c.args.since.ticks c.args.since.entered (root_at whole c.args.right) (part whole c.args.right) c.args.atom in
    let e = by_par whole c.args.at first c.first-first.ensures c.args.atom c.args.since.ticks c.args.since.entered c.args.right c.requires ∙ on_second_side c.args.atom c.args.right _ _ c.if-atom-right.false in
    subst (λ (l : List Branch). OnOk c.part_at-else-atom-right.result (c.part_at-else-atom-right.new.row ≡ l))
    (ap (λ (l : List Branch). l ++ other) c.in_ok-push_waiting.ensures ∙ append_assoc row waits other ∙ ap (λ (l : List Branch). row ++ l) (sym e))
    c.part_at-else-atom-right.ensures
