use Rattle.std.proofs.Common.{◌≡◌, drop}
use Rattle.tb_read.specs.declared.quoted.Within.TheVariants.{Between}
use Rattle.tb_lex.specs.Helpers.Scanning.{string_rest, with_prefix}
use Rattle.tb_lex.proofs.quote.string_rest.Given as goal

-- the content so far, and the content that the remaining bytes spell, are the whole string
abbrev pub invariant-loop-position : goal.invariant-loop-position
invariant-loop-position l =
    with_prefix l.put.items (string_rest l.quote l.total l.within (drop l.position l.bytes)) ≡ string_rest l.quote l.total Between l.bytes
