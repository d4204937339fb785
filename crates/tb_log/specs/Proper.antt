-- Well-formed entries: their numbers fit their types, and their terms, strings and names are well-formed. Each entry in a program is
-- well-formed.
use Rattle.std.specs.Prelude.{◌^◌, Bool, true, ◌&&◌, nat_lt}
use Rattle.std.specs.List.{list_all}
use Rattle.tb_terms.specs.Names.{is_name, is_string}
use Rattle.tb_terms.specs.Proper.{is_proper}
use Rattle.tb_log.specs.declared.entry.Place.{Place}
use Rattle.tb_log.specs.declared.entry.ToolLine.{ToolLine}
use Rattle.tb_log.specs.declared.entry.ToolLine.TheVariants as tool
use Rattle.tb_log.specs.declared.entry.Input.{Input}
use Rattle.tb_log.specs.declared.entry.Input.TheVariants as input
use Rattle.tb_log.specs.declared.entry.Out.{Out}
use Rattle.tb_log.specs.declared.entry.Out.TheVariants as out
use Rattle.tb_log.specs.declared.entry.Entry.{Entry}
use Rattle.tb_log.specs.declared.entry.Entry.TheVariants.{Did, Quiet, Fed, Gave}

abbrev pub is_proper_place : Place → Bool
is_proper_place place = nat_lt place.proc (2 ^ 32) && nat_lt place.atom (2 ^ 32)

abbrev pub is_proper_tool_line : ToolLine → Bool
is_proper_tool_line (tool.Value term) = is_proper term
is_proper_tool_line (tool.Event terms) = list_all is_proper terms
is_proper_tool_line (tool.Connect name) = is_name name
is_proper_tool_line tool.Disconnect = true
is_proper_tool_line tool.Bad = true

abbrev pub is_proper_input : Input → Bool
is_proper_input input.Tick = true
is_proper_input input.NoTicks = true
is_proper_input (input.Line lane line) = nat_lt lane (2 ^ 8) && is_proper_tool_line line
is_proper_input (input.Gone lane) = nat_lt lane (2 ^ 8)
is_proper_input (input.Cut lane) = nat_lt lane (2 ^ 8)

abbrev pub is_proper_out : Out → Bool
is_proper_out (out.Start command) = is_string command
is_proper_out (out.Line term) = is_proper term
is_proper_out out.End = true

abbrev pub is_proper_entry : Entry → Bool
is_proper_entry (Did label) = is_proper_place label.from && is_proper_place label.to && list_all is_proper label.terms
is_proper_entry Quiet = true
is_proper_entry (Fed input reply) = is_proper_input input
is_proper_entry (Gave lane out) = nat_lt lane (2 ^ 8) && is_proper_out out
