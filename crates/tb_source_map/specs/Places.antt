-- The places of the processes of a script and of their atoms, and the atom of the script from which an atom of a body comes.
use Rattle.std.specs.Prelude.{◌≡◌, ℕ, List, map, Contains}
use Rattle.std.specs.List.{AllZip}
use Rattle.tb_body.specs.declared.atom.Atom.{Atom}
use Rattle.tb_body.specs.declared.body.Body.{Body}
use Rattle.tb_body.specs.declared.program.Program.{Program}
use Rattle.tb_lex.specs.declared.token.Token.{Token}
use Rattle.tb_syntax.specs.declared.proc.AtomDef.{AtomDef}
use Rattle.tb_syntax.specs.declared.script.ProcDef.{ProcDef}
use Rattle.tb_syntax.specs.declared.script.Script.{Script}
use Rattle.tb_syntax.specs.Spelling.{kinds_of}
use Rattle.tb_parse.specs.Faults.{IsScriptOf}
use Rattle.tb_expand.specs.Acts.{atom_of}
use Rattle.tb_expand.specs.Faults.{IsExpansion}
use Rattle.tb_expand.specs.Scopes.{Scope}
use Rattle.tb_script.specs.Findings.{IsFound, Program'}
use Rattle.tb_script.specs.Programs.{HasTokens}
use Rattle.tb_source_map.specs.Marks.{mark_at}
use Rattle.tb_source_map.specs.Sites.{marks_of, own_atoms, sites_of}
use Rattle.tb_source_map.specs.declared.places.ProcessPlace.{ProcessPlace}

-- the place of a process: its name, the first token of its definition, and the first tokens of the atoms of its expansion
abbrev pub place_of : List Token → Script → ProcDef → ProcessPlace
place_of tokens script d = record { name = d.name; mark = mark_at tokens d.token; atoms = marks_of tokens (sites_of script d) }

-- the source has tokens, the tokens parse as a script, and these are the places of its processes, in order of definition
pub record ArePlaces (text : List ℕ) (places : List ProcessPlace) : Type 0 where
  pub tokens : List Token
  pub script : Script
  pub has_tokens : HasTokens text tokens
  pub is_script : IsScriptOf (kinds_of tokens) script
  pub are : places ≡ map (place_of tokens script) script.procs

-- the source is accepted: its finding is a program, and not an error
abbrev pub IsAcceptedText : List ℕ → Type 0
IsAcceptedText text = (program : Program) × IsFound text (Program' program)

-- the atom is in the body of a process that the script defines
abbrev pub IsAtomOf : Script → AtomDef → Type 0
IsAtomOf script def = (d : ProcDef) × Contains script.procs d × Contains (own_atoms d.body) def

-- the atom of a body is the one that this atom of the script becomes, with some variables in scope
abbrev pub Becomes : Script → Atom → AtomDef → Type 0
Becomes script atom def = (scope : Scope) × (atom ≡ atom_of script scope def)

-- The body is the expansion of a process that the script defines, and the place is that of this process. Each atom of the script that
-- is in the expansion becomes the body's atom at the same position. The mark of the body's atom is the first token of the script's
-- atom.
pub record IsPlaced (tokens : List Token) (script : Script) (body : Body) (place : ProcessPlace) : Type 0 where
  pub d : ProcDef
  pub defined : Contains script.procs d
  pub is : IsExpansion script d body
  pub named : place.name ≡ d.name
  pub mark : place.mark ≡ mark_at tokens d.token
  pub atoms : AllZip (Becomes script) body.atoms (sites_of script d)
  pub marks : place.atoms ≡ marks_of tokens (sites_of script d)
