use Rattle.std.proofs.Common.{map, string_bytes}
use Rattle.tb_cli.specs.Parts.{parts_of}
use Rattle.tb_cli.proofs.Built.{pair-read-built}
use Rattle.tb_cli.proofs.reading.read_pair_words.Goals as goal

-- An error is the arguments' own, and so never this one.
pub returns-clause-built : goal.returns-clause-built
returns-clause-built c = pair-read-built (parts_of (map string_bytes c.as_slice-words.result.now)) c.read_pair.result c.read_pair.ensures.fault
