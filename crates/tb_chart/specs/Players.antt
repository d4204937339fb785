-- Of which definition each process is as a log goes on, and which of them make a step.
use Rattle.std.specs.Prelude.{ℕ, List, [], ◌∷◌, ◌++◌, slice_get, Option, Some, None, option_and_then}
use Rattle.std.specs.List.{fold}
use Rattle.tb_log.specs.declared.entry.LabelKind.{LabelKind}
use Rattle.tb_log.specs.declared.entry.LabelKind.TheVariants as kind
use Rattle.tb_log.specs.declared.entry.Label.{Label}
use Rattle.tb_log.specs.declared.entry.Entry.{Entry}
use Rattle.tb_log.specs.declared.entry.Entry.TheVariants.{Did, Quiet, Fed, Gave}
use Rattle.tb_chart.specs.declared.cast.Cast.{Cast}
use Rattle.tb_chart.specs.declared.cast.Role.{Role}
use Rattle.tb_chart.specs.declared.cast.Site.{Site}
use Rattle.tb_chart.specs.Numbers.{numbered}

-- the definition of which the atom with this number creates a process
abbrev pub created_in : Role → ℕ → Option ℕ
created_in role atom = option_and_then (λ (site : Site). site.creates) (numbered role.sites.items atom)

-- the same of an atom of a definition, by its position
abbrev pub created : Cast → ℕ → ℕ → Option ℕ
created cast body atom = option_and_then (λ (role : Role). created_in role atom) (slice_get cast.roles.items body)

-- `players` are the definitions of the processes, by their numbers. This is the one of a process that a step creates.
abbrev pub created_by : Cast → List ℕ → Label → Option ℕ
created_by cast players label = option_and_then (λ body. created cast body label.from.atom) (numbered players label.from.proc)

abbrev pub with_created : List ℕ → Option ℕ → List ℕ
with_created players None = players
with_created players (Some body) = players ++ body ∷ []

-- those after a step
abbrev pub players_by : LabelKind → Cast → List ℕ → Label → List ℕ
players_by kind.Create cast players label = with_created players (created_by cast players label)
players_by _ cast players label = players

-- those after an entry
abbrev pub players_after : Cast → List ℕ → Entry → List ℕ
players_after cast players (Did label) = players_by label.kind cast players label
players_after cast players Quiet = players
players_after cast players (Fed input reply) = players
players_after cast players (Gave lane out) = players

-- those after all these entries, where a script begins with its roots
abbrev pub players_of : Cast → List Entry → List ℕ
players_of cast entries = fold (players_after cast) cast.roots.items entries

-- the definitions of the processes that make a step: of the only one or the sender, and of the receiver
abbrev pub bodies_of : List ℕ → Entry → Option ℕ × Option ℕ
bodies_of players (Did label) = (numbered players label.from.proc, numbered players label.to.proc)
bodies_of players Quiet = (None, None)
bodies_of players (Fed input reply) = (None, None)
bodies_of players (Gave lane out) = (None, None)
