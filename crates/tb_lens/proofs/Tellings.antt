-- Lemmas about what `at` writes about one file, and about several.
use Rattle.std.proofs.Common.{◌≡◌, ◌∙◌, ℕ, ◌≤◌, ◌-◌, List, [], ◌∷◌, ◌++◌, map, length, take, drop, slice_index_or, Option, None, ap, subst, arith}
use Rattle.std.proofs.lemmas.List.{take_all}
use Rattle.tb_edge.specs.Sinks.{Writes}
use Rattle.tb_edge.specs.FilesHeld.{IsOf, IsWithin}
use Rattle.tb_edge.specs.declared.files.Loaded.TheVariants.{TooLong}
use Rattle.tb_fault_place.specs.Points.{IsPoint, IsAnswer, TellsFault}
use Rattle.tb_fault_place.specs.declared.point.Point.{Point}
use Rattle.tb_lens.specs.Told.{AtOutcome, IsLoaded, Says, TellsOf, TellsOfAll, accepted, refused, long, long_point}
use Rattle.tb_lens.specs.declared.status.Status.{Status}

pub tells_none : (told : Option (List ℕ)) (name text bytes : List ℕ) → IsAnswer bytes None → text ≡ [] → IsLoaded told bytes → TellsOf told name text
tells_none told name text bytes said empty loaded = accepted bytes said.0 loaded said.1 empty

pub tells_point : (told : Option (List ℕ)) (name text bytes : List ℕ) (point : Point) → IsPoint bytes point
    → TellsFault name bytes point text → IsLoaded told bytes → TellsOf told name text
tells_point told name text bytes point said begins loaded = refused bytes point loaded said begins

pub tells_long : (told : Option (List ℕ)) (name text : List ℕ) (len : ℕ) → IsWithin 1048576 (TooLong len) → IsOf told (TooLong len)
    → TellsFault name [] (long_point len) text → TellsOf told name text
tells_long told name text len within held begins = long len (within, held) begins

pub tells_more : (held : List ℕ → Option (List ℕ)) (name : List ℕ) (names : List (List ℕ)) (first rest text : List ℕ) → TellsOf (held name) name first
    → TellsOfAll held names rest → text ≡ first ++ rest → TellsOfAll held (name ∷ names) text
tells_more held name names first rest text one all is = (first, rest, one, all, is)

-- the first file of a list that isn't empty, and all others
pub tells_slice : {B : Type 0} (held held' : List ℕ → Option (List ℕ)) (value : B → List ℕ) (scripts : List B) (d : B) (first rest more text : List ℕ)
    → 1 ≤ length scripts → held' ≡ held → TellsOf (held (value (slice_index_or scripts 0 d))) (value (slice_index_or scripts 0 d)) first
    → TellsOfAll held' (map value (take (length scripts - 1) (drop 1 scripts))) rest → more ≡ rest → text ≡ first ++ more → TellsOfAll held (map value scripts) text
tells_slice held held' value [] d first rest more text some stays one all same is = absurd (omega (arith, some))
tells_slice held held' value (script ∷ scripts) d first rest more text some stays one all same is =
    let others : take (length (script ∷ scripts) - 1) scripts ≡ scripts = take_all (length (script ∷ scripts) - 1) scripts (omega arith) in
    let told = subst (λ names. TellsOfAll held' (map value names) rest) others all in
    tells_more held (value script) (map value scripts) first rest text one (subst (λ files. TellsOfAll files (map value scripts) rest) stays told) (is ∙ ap (λ it. first ++ it) same)

pub outcome : (held : List ℕ → Option (List ℕ)) (names : List (List ℕ)) (old new : Option (List ℕ)) (text : List ℕ) (status : Status) → TellsOfAll held names text
    → Says text status → Writes old new text → AtOutcome held names old new status
outcome held names old new text status tells says written = record { text = text; tells = tells; says = says; written = written }
