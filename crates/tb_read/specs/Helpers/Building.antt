-- How a term is built from its tokens.
use Rattle.std.specs.Prelude.{ℕ, List, [], ◌∷◌, ◌++◌, Option, Some, None}
use Rattle.std.specs.Option.{option_to_list}
use Rattle.tb_terms.specs.declared.term.Term.{Term, out-Term}
use Rattle.tb_terms.specs.declared.term.Term.TheOpen.{Term-F}
use Rattle.tb_terms.specs.declared.term.Term.TheOpen as layer
use Rattle.tb_terms.specs.declared.term.Term.TheVariants as term
use Rattle.tb_read.specs.declared.token.Token.{Token}
use Rattle.tb_read.specs.declared.token.Token.TheVariants as token
use Rattle.tb_read.specs.declared.build.Frame.{Frame}
use Rattle.tb_read.specs.declared.build.Builder.{Builder}

abbrev pub head_of : Term-F Term → Option (List ℕ)
head_of (layer.Int number) = None
head_of (layer.Str bytes) = None
head_of (layer.Appl name parts) = Some name
head_of (layer.List parts) = None

abbrev pub name_of : Option Term → Option (List ℕ)
name_of None = None
name_of (Some done) = head_of (out-Term done)

-- the innermost open bracket with one more part
abbrev pub with_part : Option Term → List Frame → List Frame
with_part part [] = []
with_part part (frame ∷ frames) = record { head = frame.head; parts = frame.parts ++ option_to_list part } ∷ frames

abbrev pub whole : Option (List ℕ) → List Term → Term
whole None parts = term.List parts
whole (Some name) parts = term.Appl name parts

abbrev pub closed : Option Term → List Frame → Builder
closed part [] = record { done = part; frames = [] }
closed part (frame ∷ frames) = record { done = Some (whole frame.head (frame.parts ++ option_to_list part)); frames = frames }

abbrev pub holds : Term → List Frame → Builder
holds done frames = record { done = Some done; frames = frames }

abbrev pub opens : Option (List ℕ) → List Frame → Builder
opens head frames = record { done = None; frames = record { head = head; parts = [] } ∷ frames }

abbrev pub build_step : Builder → Token → Builder
build_step builder (token.Int number) = holds (term.Int number) builder.frames
build_step builder (token.Str bytes) = holds (term.Str bytes) builder.frames
build_step builder (token.Name name) = holds (term.Appl name []) builder.frames
build_step builder token.LeftBracket = opens None builder.frames
build_step builder token.LeftParen = opens (name_of builder.done) builder.frames
build_step builder token.Comma = record { done = None; frames = with_part builder.done builder.frames }
build_step builder token.RightParen = closed builder.done builder.frames
build_step builder token.RightBracket = closed builder.done builder.frames

abbrev pub built_from : Builder → List Token → Builder
built_from builder [] = builder
built_from builder (token ∷ tokens) = built_from (build_step builder token) tokens

abbrev pub nothing : Builder
nothing = record { done = None; frames = [] }
