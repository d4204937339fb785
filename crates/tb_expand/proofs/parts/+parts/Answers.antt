use Rattle.tb_body.specs.declared.tree.Tree.TheVariants as tree
use Rattle.tb_syntax.specs.declared.proc.Proc.TheVariants as proc
use Rattle.tb_expand.specs.Expansion.{expands, expands_with, both, tested}
use Rattle.tb_expand.proofs.ProcParts.{part_of_seq, part_of_alt, part_of_star, part_of_par, part_of_disrupt, sides_of, adds_as, adds_test}
use Rattle.tb_expand.proofs.parts.+parts.Goals as goal

pub if_part-returns-in_ok-x-in-Some : goal.if_part-returns-in_ok-x-in-Some
if_part-returns-in_ok-x-in-Some t c =
    adds_test (expands_with c.args.names.now.script.now (expands c.args.names.now.script.now c.args.depth)) c.args.blocks.now c.args.built.now _ _
    c.args.test.now c.in_ok-test.test (expands_with c.args.names.now.script.now (expands c.args.names.now.script.now c.args.depth) c.args.x.now) c.args.y.now c.in-Some.y c.get.result.now c.in_ok-x-in-Some.x c.in_ok-x-in-Some.y
    c.in_ok-test.ensures c.in-Some.is c.get.ensures (c.in_ok-x-in-Some.ensures (tested c.in_ok-test.test))

pub part_of-returns-in_ok-x-in-Seq : goal.part_of-returns-in_ok-x-in-Seq
part_of-returns-in_ok-x-in-Seq t c =
    let script = c.args.names.now.script.now in
    let body = expands c.args.names.now.script.now c.args.depth in
    let is = sides_of script body proc.Seq tree.Seq (part_of_seq script body) c.args.p.now c.in-Seq.x c.in-Seq.y c.get.result.now c.get-in-Seq.result.now c.in-Seq.is c.get.ensures c.get-in-Seq.ensures in
    adds_as (expands_with script body c.args.p.now) (both tree.Seq (expands_with script body c.get.result.now) (expands_with script body c.get-in-Seq.result.now))
    c.args.blocks.now c.args.built.now (tree.Seq c.in_ok-x-in-Seq.x c.in_ok-x-in-Seq.y) _ _ is (c.in_ok-x-in-Seq.ensures tree.Seq)

pub part_of-returns-in_ok-x-in-Alt : goal.part_of-returns-in_ok-x-in-Alt
part_of-returns-in_ok-x-in-Alt t c =
    let script = c.args.names.now.script.now in
    let body = expands c.args.names.now.script.now c.args.depth in
    let is = sides_of script body proc.Alt tree.Alt (part_of_alt script body) c.args.p.now c.in-Alt.x c.in-Alt.y c.get-in-Alt.result.now c.get-in-Alt-2.result.now c.in-Alt.is c.get-in-Alt.ensures c.get-in-Alt-2.ensures in
    adds_as (expands_with script body c.args.p.now) (both tree.Alt (expands_with script body c.get-in-Alt.result.now) (expands_with script body c.get-in-Alt-2.result.now))
    c.args.blocks.now c.args.built.now (tree.Alt c.in_ok-x-in-Alt.x c.in_ok-x-in-Alt.y) _ _ is (c.in_ok-x-in-Alt.ensures tree.Alt)

pub part_of-returns-in_ok-x-in-Star : goal.part_of-returns-in_ok-x-in-Star
part_of-returns-in_ok-x-in-Star t c =
    let script = c.args.names.now.script.now in
    let body = expands c.args.names.now.script.now c.args.depth in
    let is = sides_of script body proc.Star tree.Star (part_of_star script body) c.args.p.now c.in-Star.x c.in-Star.y c.get-in-Star.result.now c.get-in-Star-2.result.now c.in-Star.is c.get-in-Star.ensures c.get-in-Star-2.ensures in
    adds_as (expands_with script body c.args.p.now) (both tree.Star (expands_with script body c.get-in-Star.result.now) (expands_with script body c.get-in-Star-2.result.now))
    c.args.blocks.now c.args.built.now (tree.Star c.in_ok-x-in-Star.x c.in_ok-x-in-Star.y) _ _ is (c.in_ok-x-in-Star.ensures tree.Star)

pub part_of-returns-in_ok-x-in-Par : goal.part_of-returns-in_ok-x-in-Par
part_of-returns-in_ok-x-in-Par t c =
    let script = c.args.names.now.script.now in
    let body = expands c.args.names.now.script.now c.args.depth in
    let is = sides_of script body proc.Par tree.Par (part_of_par script body) c.args.p.now c.in-Par.x c.in-Par.y c.get-in-Par.result.now c.get-in-Par-2.result.now c.in-Par.is c.get-in-Par.ensures c.get-in-Par-2.ensures in
    adds_as (expands_with script body c.args.p.now) (both tree.Par (expands_with script body c.get-in-Par.result.now) (expands_with script body c.get-in-Par-2.result.now))
    c.args.blocks.now c.args.built.now (tree.Par c.in_ok-x-in-Par.x c.in_ok-x-in-Par.y) _ _ is (c.in_ok-x-in-Par.ensures tree.Par)

pub part_of-returns-in_ok-x-in-Disrupt : goal.part_of-returns-in_ok-x-in-Disrupt
part_of-returns-in_ok-x-in-Disrupt t c =
    let script = c.args.names.now.script.now in
    let body = expands c.args.names.now.script.now c.args.depth in
    let is = sides_of script body proc.Disrupt tree.Disrupt (part_of_disrupt script body) c.args.p.now c.in-Disrupt.x c.in-Disrupt.y c.get-in-Disrupt.result.now c.get-in-Disrupt-2.result.now c.in-Disrupt.is c.get-in-Disrupt.ensures c.get-in-Disrupt-2.ensures in
    adds_as (expands_with script body c.args.p.now) (both tree.Disrupt (expands_with script body c.get-in-Disrupt.result.now) (expands_with script body c.get-in-Disrupt-2.result.now))
    c.args.blocks.now c.args.built.now (tree.Disrupt c.in_ok-x-in-Disrupt.x c.in_ok-x-in-Disrupt.y) _ _ is (c.in_ok-x-in-Disrupt.ensures tree.Disrupt)
