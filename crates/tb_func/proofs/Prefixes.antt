-- Values that are found in order, and the values that are still to be found after them.
use Rattle.std.proofs.Common.{List, ◌++◌, Option, option_map}

abbrev pub with_prefix : {A : Type 0} → List A → Option (List A) → Option (List A)
with_prefix prefix rest = option_map (λ xs. prefix ++ xs) rest
