-- The cast of a program whose processes have these places: its roots, a role for each process, and its tools.
use Rattle.std.specs.Prelude.{◌≡◌, ℕ, ◌+◌, List, [], ◌∷◌, map, slice_get, Option, Some, None}
use Rattle.tb_body.specs.declared.act.Act.{Act}
use Rattle.tb_body.specs.declared.act.Act.TheVariants.{Create}
use Rattle.tb_body.specs.declared.atom.Atom.{Atom}
use Rattle.tb_body.specs.declared.body.Body.{Body}
use Rattle.tb_body.specs.declared.program.Program.{Program}
use Rattle.tb_body.specs.declared.program.Root.{Root}
use Rattle.tb_body.specs.declared.program.Tool.{Tool}
use Rattle.tb_chart.specs.declared.cast.Cast.{Cast}
use Rattle.tb_chart.specs.declared.cast.Role.{Role}
use Rattle.tb_chart.specs.declared.cast.Site.{Site}
use Rattle.tb_source_map.specs.declared.mark.Mark.{Mark}
use Rattle.tb_source_map.specs.declared.places.ProcessPlace.{ProcessPlace}
use Rattle.tb_source_map.specs.Places.{ArePlaces}
use Rattle.tb_script.specs.Findings.{IsFound, Program'}

-- the process definition that an act instantiates, by its position in the program
abbrev pub created_by_act : Act → Option ℕ
created_by_act (Create process actuals slot) = Some process
created_by_act _ = None

-- the process definition that an atom instantiates
abbrev pub created_by : Option Atom → Option ℕ
created_by None = None
created_by (Some atom) = created_by_act atom.act

-- Each item, combined with the item of the other list at the same position, if there is one. The first item has this position.
abbrev pub beside : {A B C : Type 0} → (Option A → B → C) → List A → ℕ → List B → List C
beside with others position [] = []
beside with others position (item ∷ items) = with (slice_get others position) item ∷ beside with others (position + 1) items

-- the site of an atom: its begin and end are those of its mark
abbrev pub site_of : Option Atom → Mark → Site
site_of atom mark = record { from = mark.from; to = mark.to; creates = created_by atom }

-- the atoms of a body
abbrev pub atoms_of : Option Body → List Atom
atoms_of None = []
atoms_of (Some body) = body.atoms

-- a role: its name, and its sites
pub record SeenRole : Type 0 where
  pub name : List ℕ
  pub sites : List Site

-- a role of the code, as the definitions have it
abbrev pub seen_role : Role → SeenRole
seen_role role = record { name = role.name; sites = role.sites.items }

-- the role of a process: it has a site for each mark of its place
abbrev pub role_of : Option Body → ProcessPlace → SeenRole
role_of body place = record { name = place.name; sites = beside site_of (atoms_of body) 0 place.atoms }

-- the cast of a program whose processes have these places
pub record IsCast (program : Program) (places : List ProcessPlace) (cast : Cast) : Type 0 where
  pub roots : cast.roots.items ≡ map (λ (root : Root). root.process) program.roots
  pub roles : map seen_role cast.roles.items ≡ beside role_of program.bodies 0 places
  pub tools : cast.tools.items ≡ map (λ (tool : Tool). tool.name) program.tools

-- the text has this program and these places, and this is their cast
pub record IsCastOf (text : List ℕ) (cast : Cast) : Type 0 where
  pub program : Program
  pub places : List ProcessPlace
  pub found : IsFound text (Program' program)
  pub are : ArePlaces text places
  pub is : IsCast program places cast
