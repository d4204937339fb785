-- A created process becomes the last one.
use Rattle.std.proofs.Common.{◌≡◌, ℕ, ◌+◌, ◌<◌, zero, suc, List, [], ◌∷◌, ◌++◌, length, refl, ap, sym, subst, ◌∙◌, arith, Some, true, slice_get, get_or, inl, inr, Contains}
use Rattle.tb_living.proofs.RestLemmas.{rested-kept, rested-stale}
use Rattle.std.specs.Global.{Vec}
use Rattle.std.specs.List.{All}
use Rattle.std.proofs.lemmas.Bool.{lt-ltb}
use Rattle.std.proofs.lemmas.List.{map-append}
use Rattle.std.proofs.lemmas.List.Elements.{All-head, All-push, All-same, All-tail, Contains-append_left, Contains-push, All-weaker}
use Rattle.tb_terms.specs.declared.term.Term.{Term}
use Rattle.tb_process_steps.specs.WalkerViews.{View}
use Rattle.tb_index.specs.Indexes.{HasRoom, IndexState}
use Rattle.tb_bus.specs.Buses.{Bus, Proc, opened_one}
use Rattle.tb_bus.specs.Effects.{creation}
use Rattle.tb_search.specs.Candidates.{ascend, row_of, rows_of}
use Rattle.tb_search.specs.declared.living.Living.{Living}
use Rattle.tb_search.proofs.TurnLemmas.{ascend-first}
use Rattle.tb_living.specs.Indexes.{IsUnmarked, KeepsOf, IsRested}
use Rattle.tb_living.specs.Lives.{IsBelow, IsLive, proc_in, procs_of, IsFreshOr}
use Rattle.tb_core.specs.Helpers.LiveBuses.{IsChanged, IsSound, bus_of, procs_in, settings_in}
use Rattle.tb_core.specs.declared.bus.LiveBus.{LiveBus}
use Rattle.tb_living.proofs.ReadLemmas.{above-there, all-there, some-at}
use Rattle.tb_living.proofs.IndexLemmas.{all-kept, right-pushed}

ascend-push : {W : Type 0} (below : ℕ) (all : List (Living W)) (living : Living W) → ascend below (rows_of all) ≡ true → All (IsBelow living.number) all → below < living.number → ascend below (rows_of (all ++ living ∷ [])) ≡ true
ascend-push below [] living h k l = rw (lt-ltb below living.number l) refl
ascend-push below (first ∷ all) living h k l =
    let t = ascend-first below (row_of first) (rows_of all) h in
    rw (lt-ltb below first.number t.0) (ascend-push first.number all living t.1 (All-tail (IsBelow living.number) first all k) (All-head (IsBelow living.number) first all k))

append-there : {A : Type 0} (xs ys : List A) (at : ℕ) (x : A) → slice_get xs at ≡ Some x → slice_get (xs ++ ys) at ≡ Some x
append-there [] ys at x e = cc
append-there (y ∷ xs) ys zero x e = e
append-there (y ∷ xs) ys (suc at) x e = append-there xs ys at x e

below-more : {W : Type 0} (next : ℕ) (all : List (Living W)) → All (IsBelow next) all → All (IsBelow (next + 1)) all
below-more next all h k d l = let less = h k d l in omega arith

fresh-by : {W : Type 0} (stale more : List ℕ) (living : Living W) → IsFreshOr stale living → IsFreshOr (stale ++ more) living
fresh-by stale more living (inl fresh) = inl fresh
fresh-by stale more living (inr named) = inr (Contains-append_left stale more living.number named)

fresh-more : {W : Type 0} (stale more : List ℕ) (all : List (Living W)) → All (IsFreshOr stale) all → All (IsFreshOr (stale ++ more)) all
fresh-more stale more all h k d l = fresh-by stale more (get_or all k d) (h k d l)

-- the bus with one more process, whose number is noted
module _ {W P T : Type 0} (view : View P W T) (bus : LiveBus W P T) (at : ℕ) (process : ℕ) (actuals : List Term) (slot : ℕ) (living : Living W) (all : Vec (Living W)) (stale : Vec ℕ) (index : IndexState) where
  pub created-changed : IsSound view bus → at < length bus.living.items → all.items ≡ bus.living.items ++ living ∷ [] → stale.items ≡ bus.stale.items ++ bus.marks.next_number ∷ [] → living.number ≡ bus.marks.next_number →
      ((now : ℕ) → IsLive view bus.plans now living) → procs_of view bus.plans (living ∷ []) ≡ opened_one bus.marks.next_number process actuals (slice_get bus.origin.program.bodies process) →
      IsUnmarked living → ((other : ℕ) → KeepsOf bus.index index other) → HasRoom index bus.marks.next_number →
      IsChanged view bus at (creation bus.marks.next_number process actuals slot) (record bus { living = all; stale = stale; index = index; marks = record bus.marks { next_number = bus.marks.next_number + 1 } })
  created-changed sound within e f number live procs unmarked kept room =
      let next : ℕ = bus.marks.next_number in
      let before = some-at bus.living.items at within in
      let above = above-there 0 bus.living.items at before.0 sound.in_order before.1 in
      let under = all-there (IsBelow next) bus.living.items at before.0 sound.below before.1 in
      let below_it : All (IsBelow living.number) bus.living.items = subst (λ n. All (IsBelow n) bus.living.items) (sym number) sound.below in
      let here : IsBelow (next + 1) living = omega (arith, number) in
      record {
        sound = record {
          in_order = ap (λ xs. ascend 0 (rows_of xs)) e ∙ ascend-push 0 bus.living.items living sound.in_order below_it (omega (arith, number));
          below = All-same (IsBelow (next + 1)) all.items (bus.living.items ++ living ∷ []) e (All-push (IsBelow (next + 1)) bus.living.items living (below-more next bus.living.items sound.below) here);
          planned = sound.planned;
          lanes = sound.lanes;
          live = All-same (IsLive view bus.plans bus.ticks) all.items (bus.living.items ++ living ∷ []) e (All-push (IsLive view bus.plans bus.ticks) bus.living.items living sound.live (live bus.ticks));
          fresh = λ young. subst (λ (numbers : List ℕ). All (IsFreshOr numbers) all.items) (sym f)
              (All-same (IsFreshOr (bus.stale.items ++ next ∷ [])) all.items (bus.living.items ++ living ∷ []) e
              (All-push (IsFreshOr (bus.stale.items ++ next ∷ [])) bus.living.items living (fresh-more bus.stale.items (next ∷ []) bus.living.items (sound.fresh young))
              (inr (subst (Contains (bus.stale.items ++ next ∷ [])) (sym number) (Contains-push bus.stale.items next)))));
          indexed = right-pushed index bus.living.items all.items living e below_it unmarked (subst (HasRoom index) (sym number) room) (all-kept bus.index index bus.living.items kept sound.indexed);
          rested = All-same (IsRested (settings_in bus) bus.stirred index) all.items (bus.living.items ++ living ∷ []) e
              (All-push (IsRested (settings_in bus) bus.stirred index) bus.living.items living
              (All-weaker (IsRested (settings_in bus) bus.stirred bus.index) (IsRested (settings_in bus) bus.stirred index)
              (λ l it. rested-kept (settings_in bus) bus.stirred bus.index index l (kept l.number) it) bus.living.items sound.rested)
              (rested-stale (settings_in bus) bus.stirred index living unmarked.stale));
        };
        bus = ap (λ (ps : List Proc). let b : Bus = record (bus_of view bus) { procs = ps; next_number = next + 1 } in b)
            (ap (procs_of view bus.plans) e ∙ map-append (proc_in view bus.plans) bus.living.items (living ∷ []) ∙ ap (λ ps. procs_in view bus ++ ps) procs);
        origin = refl;
        plans = refl;
        kept = record {
          before = before.0;
          after = before.0;
          here = before.1;
          there = ap (λ xs. slice_get xs at) e ∙ append-there bus.living.items (living ∷ []) at before.0 before.1;
          number = refl;
          body = refl;
          walker = refl;
        };
        named = λ n h. subst (λ (numbers : List ℕ). Contains numbers n) (sym f) (Contains-append_left bus.stale.items (next ∷ []) n h);
      }
