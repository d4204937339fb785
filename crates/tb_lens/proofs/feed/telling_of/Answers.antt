use Rattle.std.proofs.Common.{subst}
use Rattle.tb_refeed.specs.Feeding.{HasFault}
use Rattle.tb_lens.specs.Fed.{no_line, long_line}
use Rattle.tb_lens.proofs.feed.telling_of.Goals as goal

pub returns-in_ok-line_text-in-Err-Line : goal.returns-in_ok-line_text-in-Err-Line
returns-in_ok-line_text-in-Err-Line c =
    no_line c.in-Err-Line.number (subst (HasFault c.args.bytes.now) c.in-Err-Line.field-0-is c.in-Err-Line.ensures.fault) c.in_ok-line_text-in-Err-Line.ensures

pub returns-in_ok-line_text-in-Err-TooLong : goal.returns-in_ok-line_text-in-Err-TooLong
returns-in_ok-line_text-in-Err-TooLong c =
    long_line c.in-Err-TooLong.number (subst (HasFault c.args.bytes.now) c.in-Err-TooLong.field-0-is c.in-Err-TooLong.ensures.fault)
    c.in_ok-line_text-in-Err-TooLong.ensures
