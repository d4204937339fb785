use Rattle.std.proofs.Common.{◌≡◌, ap, ◌∙◌}
use Rattle.tb_terms.specs.contracts.term.Term as term
use Rattle.tb_terms.specs.Same.{is_same_term}
use Rattle.tb_terms.specs.declared.term.Term.{Term}
use Rattle.tb_terms.proofs.SameLemmas.{is_same-decided}
use Rattle.tb_tools.specs.Lanes.{term_of, tool_term}
use Rattle.tb_tools.proofs.tool.LaneTool.is_named.Goals as goal

pub returns : goal.returns
returns c =
    let own = tool_term c.self.inside.name c.self.inside.number in
    let e : own ≡ term_of c.args.self.now = cc in
    is_same-decided term.the_row.coded c.args.term.now own c.is_tool_term.result c.is_tool_term.ensures
    ∙ ap (λ (t : Term). is_same_term c.args.term.now t) e
