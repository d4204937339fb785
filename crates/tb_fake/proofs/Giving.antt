-- The report of an inlet after an answer.
use Rattle.std.proofs.Common.{◌≡◌, ℕ, ◌+◌, ◌≤◌, Bool, true, false, ◌||◌, Some, List, [], ◌∷◌, ◌++◌, map, take, length, slice_get, refl, ap, sym, ◌∙◌, append-nil}
use Rattle.std.proofs.lemmas.List.{map_more}
use Rattle.std.proofs.lemmas.Option.{slice_get_within, get_or_from_slice_get}
use Rattle.tb_edge.specs.Ends.{InletView, given_by, is_over, inlet_after, MayGive}
use Rattle.tb_edge.specs.declared.given.Given.{Given}
use Rattle.tb_edge.specs.declared.given.Given.TheVariants as given
use Rattle.tb_edge.specs.declared.inlet.Got.{Got}
use Rattle.tb_edge.specs.declared.inlet.Got.TheVariants as got
use Rattle.tb_fake.specs.declared.cue.Cue.{Cue}
use Rattle.tb_fake.specs.Fakes.{given_of, FakeInletView, gave_by, IsNext, inlet_next}

-- if one more cue is given, its item is appended to the given items
gave_more : (cues : List Cue) (i : ℕ) (cue : Cue) (gives : Given) → slice_get cues i ≡ Some cue → given_of cue.gives ≡ gives
    → map (λ (c : Cue). given_of c.gives) (take (i + 1) cues) ≡ map (λ (c : Cue). given_of c.gives) (take i cues) ++ gives ∷ []
gave_more cues i cue gives at is =
    let f : Cue → Given = λ c. given_of c.gives in
    map_more f cues i cue (slice_get_within cues i cue at)
    ∙ (ap (λ (c : Cue). map f (take i cues) ++ f c ∷ []) (get_or_from_slice_get cues i cue cue at) ∙ ap (λ (g : Given). map f (take i cues) ++ g ∷ []) is)

or_false : (b : Bool) → b ≡ (b || false)
or_false true = refl
or_false false = refl

or_true : (b : Bool) → true ≡ (b || true)
or_true true = refl
or_true false = refl

view_is : (gave gave' : List Given) (over over' : Bool) → gave ≡ gave' → over ≡ over' → ◌≡◌ {A = InletView} (record { gave = gave; over = over }) (record { gave = gave'; over = over' })
view_is gave gave' over over' g o = cc

next_tells : (old : FakeInletView) (answer : Got) (line : List ℕ) → IsNext old answer line → gave_by (inlet_next answer old) ≡ record {
  gave = map (λ (c : Cue). given_of c.gives) (take old.given old.cues) ++ given_by answer line;
  over = old.over || is_over answer;
}
next_tells old got.Line line n = view_is _ _ _ _ (gave_more old.cues old.given n.0 (given.Line line) n.1.1 n.2.0) (or_false old.over)
next_tells old got.Long line n = view_is _ _ _ _ (gave_more old.cues old.given n.0 given.Long n.1.1 n.2) (or_false old.over)
next_tells old got.End line n = view_is _ _ _ _ (gave_more old.cues old.given n.0 given.End n.1.1 n.2) (or_false old.over)
next_tells old got.Over line n = view_is _ _ _ _ (sym (append-nil (map (λ (c : Cue). given_of c.gives) (take old.given old.cues)))) (or_true old.over)
next_tells old got.Failed line n = absurd n
next_tells old got.NoMemory line n = view_is _ _ _ _ (sym (append-nil (map (λ (c : Cue). given_of c.gives) (take old.given old.cues)))) (or_false old.over)

-- the report of the inlet grows by the answer
pub tells : (old new : FakeInletView) (answer : Got) (line : List ℕ) → IsNext old answer line → new ≡ inlet_next answer old → Some (gave_by new) ≡ inlet_after (Some (gave_by old)) answer line
tells old new answer line n after = ap (λ (inlet : FakeInletView). Some (gave_by inlet)) after ∙ ap (λ (view : InletView). Some view) (next_tells old answer line n)

-- an inlet that is over has no other answer
pub may_give : (old : FakeInletView) (answer : Got) (line : List ℕ) → IsNext old answer line → MayGive (Some (gave_by old)) answer
may_give old got.Line line n = λ over. absurd (let e : true ≡ false = sym over ∙ n.1.0 in cc)
may_give old got.Long line n = λ over. absurd (let e : true ≡ false = sym over ∙ n.1.0 in cc)
may_give old got.End line n = λ over. absurd (let e : true ≡ false = sym over ∙ n.1.0 in cc)
may_give old got.Over line n = λ over. refl
may_give old got.Failed line n = absurd n
may_give old got.NoMemory line n = λ over. absurd (let e : true ≡ false = sym over ∙ n in cc)

-- a given line has at most 65,536 bytes
pub gives_short : (old : FakeInletView) (answer : Got) (line : List ℕ) → IsNext old answer line → answer ≡ got.Line → length line ≤ 65536
gives_short old got.Line line n is = n.2.1
gives_short old got.Long line n is = cc
gives_short old got.End line n is = cc
gives_short old got.Over line n is = cc
gives_short old got.Failed line n is = absurd n
gives_short old got.NoMemory line n is = cc
