use Rattle.std.proofs.Common.{◌≡◌, [], drop, rules, arith}
use Rattle.std.proofs.lemmas.List.{drop_all}
use Rattle.tb_log.specs.Seens.{terms_seen}
use Rattle.tb_log.proofs.StepLemmas.{line_in_parts}
use Rattle.tb_log.proofs.step_line.put_line.Goals as goal

pub returns : goal.returns
returns c =
    let none : drop 192 c.args.line.now ≡ [] = drop_all 192 c.args.line.now (search rules) in
    let label = c.args.label.now in (
      omega (arith, c.put_number.ensures.room, c.put_byte-end-2.ensures.room, c.put_head-end.ensures.room, c.in_ok-end.ensures.1, c.put_byte-end.ensures.room),
      rw (c.put_number.ensures.written, c.put_byte-end-2.ensures.written, c.put_head-end.ensures.written, c.in_ok-end.ensures.2, c.put_byte-end.ensures.written, c.shown_terms.ensures, none)
          (line_in_parts c.args.number label.kind label.from label.to (terms_seen label.terms)),
    )
