-- Whether a name is among the names that the program has seen so far.
use Rattle.std.specs.Prelude.{ℕ, Bool, List, is_some}
use Rattle.std.specs.Borrow.{Bor}
use Rattle.std.specs.Str.{bytes_eq}
use Rattle.indexmap.specs.IndexMap.{IndexMap, get_by}

abbrev pub was_seen : {V S : Type 0} → IndexMap (Bor (List ℕ)) V S → List ℕ → Bool
was_seen names name = is_some (get_by (λ key. bytes_eq name key.now) names)
