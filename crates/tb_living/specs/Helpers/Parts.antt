-- The side of an atom in a handshake.
use Rattle.std.specs.Prelude.{List, Option, option_map}
use Rattle.tb_body.specs.declared.atom.Atom.{Atom}
use Rattle.tb_process_steps.specs.Offers.{Offered}
use Rattle.tb_process_steps.specs.Walks.{patterns_by, sent_by}
use Rattle.tb_bus.specs.declared.action.Action.{Action}
use Rattle.tb_bus.specs.declared.action.Action.TheVariants.{Send, Receive}
use Rattle.tb_living.specs.declared.looking.Part.{Part}
use Rattle.tb_living.specs.declared.looking.Part.TheVariants.{Sends, Receives}

-- the message that an offered atom sends or receives, if its terms or patterns have values
abbrev pub message_by : Part → List Atom → Offered → Option Action
message_by Sends atoms offered = option_map Send (sent_by atoms offered)
message_by Receives atoms offered = option_map Receive (patterns_by atoms offered)
