-- The seen names after one more name is added.
use Rattle.std.proofs.Common.{◌≡◌, ℕ, Bool, true, false, cond, List, Option, Some, ap, ◌∙◌, refl}
use Rattle.std.proofs.lemmas.Map.Text.{hash_map_updates_str}
use Rattle.std.specs.Borrow.{Bor}
use Rattle.std.specs.Str.{bytes_eq}
use Rattle.std.specs.HashMap.{HashMap, get_by, UpdatesBy}
use Rattle.std.specs.Prelude.{is_some}
use Rattle.tb_types.specs.Definitions.{or_seen}
use Rattle.tb_types.specs.Helpers.Seen.{was_seen}

some-after : {V : Type 0} (b : Bool) (v : V) (old : Option V) → is_some (cond b (Some v) old) ≡ cond b true (is_some old)
some-after true v old = refl
some-after false v old = refl

pub seen_after : {V S : Type 0} (name : List ℕ) (old new : HashMap (Bor (List ℕ)) V S) (v : V)
    → UpdatesBy (λ x y. bytes_eq x.now y.now) (λ key. bytes_eq name key.now) old new (Some v) → was_seen new ≡ or_seen name (was_seen old)
seen_after name old new v updates =
    λ i other. (ap is_some (hash_map_updates_str name old new (Some v) updates other) ∙ some-after (bytes_eq name other) v (get_by (λ key. bytes_eq other key.now) old)) i
