use Rattle.std.proofs.Common.{◌≡◌, ◌+◌, [], ◌∷◌, length, ap, ◌∙◌, arith, length-append}
use Rattle.tb_log.specs.declared.entry.Entry.{Entry}
use Rattle.std.specs.Prelude.{List}
use Rattle.tb_log_read.proofs.Logs.{log-push, text-push}
use Rattle.tb_log_read.proofs.log.read.Goals as goal

pub lines-preserved : goal.lines-preserved
lines-preserved c =
    let entry = c.in_ok-read_line.field-0 in
    let line = c.split_line.result.0.now in
    let is = c.in_ok-read_line.ensures.found in
    let count : c.len.result + 1 ≡ length c.lines.entries + 1 = ap (λ n. n + 1) c.len.ensures in
    let new = c.in_ok-push.ensures.ok in
    let long : length c.push.new.self ≡ length c.lines.entries + 1 = ap (λ (l : List Entry). length l) new ∙ length-append c.lines.entries (entry ∷ []) in
    let shorter = c.split_line.ensures.shorter in
    record {
      is_log = log-push c.lines.entries c.push.new.self entry _ line c.lines.invariant.is_log is count new;
      so_far = text-push c.args.bytes.now c.lines.rest.now line c.split_line.result.1.now c.lines.entries c.push.new.self entry _ c.lines.invariant.so_far c.split_line.ensures.parts is count new;
      counted = omega arith;
    }
