-- The options, forms and rows of the code, as the definitions have them.
use Rattle.std.specs.Prelude.{map}
use Rattle.tb_cli.specs.declared.table.Setting.{Setting as CodeSetting}
use Rattle.tb_cli.specs.declared.table.Form.{Form as CodeForm}
use Rattle.tb_cli.specs.declared.table.Row.{Row as CodeRow}
use Rattle.tb_cli.specs.Table.{Setting, Form, Row}

abbrev pub setting_of : CodeSetting → Setting
setting_of option = record { name = option.name.now; kind = option.kind; usual = option.usual }

abbrev pub form_of : CodeForm → Form
form_of form = record { operands = form.operands.now; options = map setting_of form.options.now }

abbrev pub row_of : CodeRow → Row
row_of row = record { verb = row.verb; word = row.word.now; form = form_of row.form }
