-- The text of a message: its words, followed by the text of its suffix.
use Rattle.std.specs.Prelude.{ℕ, List, [], ◌++◌}
use Rattle.std.specs.Fmt.{decimal}
use Rattle.std.specs.List.{join_with_byte}
use Rattle.tb_message.specs.declared.message.Message.{Message}
use Rattle.tb_message.specs.declared.message.Rest.{Rest}
use Rattle.tb_message.specs.declared.message.Rest.TheVariants.{Nothing, Number, Names}

abbrev pub rest_text : Rest → List ℕ
rest_text Nothing = []
rest_text (Number number) = decimal number
rest_text (Names names) = join_with_byte 44 names.now

abbrev pub message_text : Message → List ℕ
message_text message = message.words.now ++ rest_text message.rest
