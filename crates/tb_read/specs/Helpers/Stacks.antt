-- The item on top of a stack.
use Rattle.std.specs.Prelude.{List, [], ◌∷◌, Option, Some, None}

abbrev pub top_of : {X : Type 0} → List X → Option X
top_of [] = None
top_of (item ∷ items) = Some item
