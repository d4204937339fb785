use Rattle.std.proofs.Common.{◌≡◌, drop}
use Rattle.tb_read.specs.Lexing.{string_rest, with_prefix}
use Rattle.tb_read.specs.declared.quoted.Within.TheVariants.{Between}
use Rattle.tb_read.proofs.quoted.string_rest.Given as goal

-- the bytes added so far, and those that the remaining bytes add, are the whole string
abbrev pub invariant-loop-position : goal.invariant-loop-position
invariant-loop-position l =
    with_prefix l.put.items (string_rest l.total l.within (drop l.position l.bytes)) ≡ string_rest l.total Between l.bytes
