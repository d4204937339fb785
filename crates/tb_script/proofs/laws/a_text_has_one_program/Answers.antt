use Rattle.std.proofs.Common.{◌≡◌, ℕ, List, sym, subst}
use Rattle.tb_body.specs.declared.program.Program.{Program}
use Rattle.tb_lex.specs.declared.token.Token.{Token}
use Rattle.tb_lex.proofs.Runs.{lexes_one}
use Rattle.tb_syntax.specs.Spelling.{Spells, kinds_of}
use Rattle.tb_syntax.specs.declared.script.Script.{Script}
use Rattle.tb_parse.proofs.ReadScripts.{unique}
use Rattle.tb_script.specs.Programs.{IsTextOf, IsProgramOf}
use Rattle.tb_script.specs.Findings.{HasProgram}
use Rattle.tb_script.proofs.OneProgram.{one_program}
use Rattle.tb_script.proofs.laws.a_text_has_one_program.Goals as goal

one_script : (text : List ℕ) (s t : Script) → IsTextOf text s → IsTextOf text t → s ≡ t
one_script text s t h g =
    let tokens : h.tokens ≡ g.tokens = lexes_one text h.tokens g.tokens h.has_tokens.lexes g.has_tokens.lexes in
    unique (kinds_of h.tokens) s t h.is_script.spells (subst (λ (ts : List Token). Spells t (kinds_of ts)) (sym tokens) g.is_script.spells)

one : (text : List ℕ) (p q : Program) → HasProgram text p → HasProgram text q → p ≡ q
one text p q h g =
    let script = one_script text h.script g.script h.is_accepted.is_small.ending.checked.is_text g.is_accepted.is_small.ending.checked.is_text in
    one_program g.script p q (subst (λ (s : Script). IsProgramOf s p) script h.meaning) g.meaning

pub returns : goal.returns
returns c = one
