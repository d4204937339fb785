-- What holds of the marks of one side, mark by mark.
use Rattle.std.proofs.Common.{◌≡◌, ℕ, ◌<◌, ◌+◌, Bool, true, false, List, [], ◌∷◌, length, take, refl, ap, sym, ◌∙◌, subst, get_or, arith}
use Rattle.tb_index.specs.declared.mark.Mark.{Mark}
use Rattle.tb_index.specs.declared.pairs.Pairs.{Pairs}
use Rattle.tb_index.specs.declared.active.Side.{Side}
use Rattle.tb_index.specs.declared.active.Side.TheVariants.{Sends, Receives}
use Rattle.tb_index.specs.Marks.{has_mark, open_head}
use Rattle.tb_index.specs.Helpers.Pairs.{AreKept, SentAreHeard, ReceivedAreHeard}
use Rattle.tb_index.specs.Helpers.Sides.{AreTold, AreHeardOn, AreKeptOn}
use Rattle.tb_index.proofs.ActiveLemmas as active

pub none-heard : (side : Side) (across : Pairs) (but a : List Mark) → AreHeardOn side [] but across a
none-heard Sends across but a = active.sent-none across but a
none-heard Receives across but a = active.received-none across but a

pub more-heard : (side : Side) (across : Pairs) (but marks : List Mark) (i : ℕ) (d : Mark) (a a2 : List Mark) → i < length marks → AreHeardOn side (take i marks) but across a → AreKept a a2 →
    AreHeardOn side (get_or marks i d ∷ []) but across a2 → AreHeardOn side (take (i + 1) marks) but across a2
more-heard Sends across but marks i d a a2 less before kept here = active.sent-more across but marks i d a a2 less before kept here
more-heard Receives across but marks i d a a2 less before kept here = active.received-more across but marks i d a a2 less before kept here

pub told-at : (side : Side) (opened : Bool) (across counted : Pairs) (marks : List Mark) (i : ℕ) (d : Mark) → i < length marks → AreTold side opened across counted marks →
    AreTold side opened across counted (get_or marks i d ∷ [])
told-at Sends opened across counted marks i d less told = told
told-at Receives opened across counted marks i d less told = (
  told.0,
  λ mark e is_open.
      let same : mark ≡ get_or marks i d = active.only-mark (get_or marks i d) mark e in
      told.1 (get_or marks i d) (active.mark-at marks i d less) (ap (λ (m : Mark). m.head) (sym same) ∙ is_open),
)

pub told-open : (side : Side) (opened : Bool) (across counted : Pairs) (x : Mark) → side ≡ Receives → AreTold side opened across counted (x ∷ []) → x.head ≡ open_head → opened ≡ true
told-open side opened across counted x is told is_open =
    let here : AreTold Receives opened across counted (x ∷ []) = subst (λ s. AreTold s opened across counted (x ∷ [])) is told in
    here.1 x (active.mark-at (x ∷ []) 0 x (omega arith)) is_open

pub skipped-heard : (side : Side) (across : Pairs) (but : List Mark) (x : Mark) (a : List Mark) → has_mark but x ≡ true → AreHeardOn side (x ∷ []) but across a
skipped-heard Sends across but x a there = active.sent-skipped across but x a there
skipped-heard Receives across but x a there = active.received-skipped across but x a there

-- a claim about a mark also holds if some marks are excepted
pub sent-but : (across : Pairs) (but : List Mark) (x : Mark) (a : List Mark) → SentAreHeard (x ∷ []) [] across a → SentAreHeard (x ∷ []) but across a
sent-but across but x a heard = λ received sent other e f h m. heard received sent other e refl h m

pub received-but : (across : Pairs) (but : List Mark) (x : Mark) (a : List Mark) → ReceivedAreHeard (x ∷ []) [] across a → ReceivedAreHeard (x ∷ []) but across a
received-but across but x a heard = λ received sent proc e f h m. heard received sent proc e refl h m

pub all-kept : (side : Side) (a : List Mark) (pairs : Pairs) → AreKeptOn side a a pairs
all-kept Sends a pairs = λ received sent proc e h m. e
all-kept Receives a pairs = λ received other e h. e

pub still-kept : (side : Side) (a a2 a3 : List Mark) (pairs : Pairs) → AreKeptOn side a a2 pairs → AreKeptOn side a2 a3 pairs → AreKeptOn side a a3 pairs
still-kept Sends a a2 a3 pairs before here = λ received sent proc e h m. here received sent proc (before received sent proc e h m) h m
still-kept Receives a a2 a3 pairs before here = λ received other e h. here received other (before received other e h) h
