-- The effects of found actions on the bus.
use Rattle.std.proofs.Common.{◌≡◌, ℕ, ◌<◌, ◌&&◌, zero, suc, List, [], ◌∷◌, length, refl, ap, sym, subst, ◌∙◌, arith, Option, Some, None, is_some, option_map, Bool, true, false, not, if◌then◌else◌}
use Rattle.std.specs.List.{list_all}
use Rattle.std.proofs.lemmas.Option.{same_Some}
use Rattle.tb_terms.specs.declared.term.Term.{Term}
use Rattle.tb_body.specs.declared.body.Body.{Body}
use Rattle.tb_notes.specs.Inboxes.{Held, oldest_match}
use Rattle.tb_notes.specs.declared.queue.Found.{Found}
use Rattle.tb_bus.specs.Buses.{Bus, Proc}
use Rattle.tb_bus.specs.Exchanges.{Setting, setting_by, exchange_for}
use Rattle.tb_bus.specs.Effects.{takes_note, may_create, taking, own_effect, setting_of, speaking, effect_of}
use Rattle.tb_search.specs.Candidates.{Row, Scene, row_at, all_take, wanting, plain_if, finding_of, setting_in}
use Rattle.tb_search.specs.FoundEffects.{note_found, exchange_found, effect_by}
use Rattle.tb_search.specs.Views.{IsRowOf, AreRowsOf, proc_at, ready_at, own_in, IsCandidateIn, IsSearchedFor}
use Rattle.tb_search.specs.declared.marks.Marks.{Marks}
use Rattle.tb_bus.specs.declared.action.Action.TheVariants as action
use Rattle.tb_bus.specs.declared.action.OwnAction.{OwnAction}
use Rattle.tb_bus.specs.declared.action.OwnAction.TheVariants as own
use Rattle.tb_bus.specs.declared.action.ToolAction.{ToolAction}
use Rattle.tb_bus.specs.declared.exchange.Exchange.{Exchange}
use Rattle.tb_search.specs.declared.candidate.Finding.{Finding}
use Rattle.tb_search.specs.declared.candidate.Finding.TheVariants as finding
use Rattle.tb_search.specs.declared.candidate.Candidate.TheVariants as candidate

-- the scene represents the bus, as far as an action needs it
pub record IsSceneOf (bus : Bus) (scene : Scene) : Type 0 where
  pub bodies_are : bus.program.bodies ≡ scene.bodies
  pub kinds_are : bus.program.tools ≡ scene.kinds
  pub bench_is : bus.bench ≡ scene.bench
  pub next_is : bus.next_number ≡ scene.next_number
  pub rows_are : AreRowsOf bus.program.bodies bus.now scene.rows bus.procs

pub scene-is : (bus : Bus) (scene : Scene) (marks : Marks) → IsSearchedFor bus scene marks → IsSceneOf bus scene
scene-is bus scene marks h = record {
  bodies_are = h.bodies_are;
  kinds_are = h.kinds_are;
  bench_is = h.bench_is;
  next_is = h.next_is;
  rows_are = subst (λ bodies. AreRowsOf bodies bus.now scene.rows bus.procs) (sym h.bodies_are) h.rows_are;
}

module _ (bodies : List Body) (now : ℕ) where
  -- there are as many rows as processes
  pub rows-length : (rows : List Row) (procs : List Proc) → AreRowsOf bodies now rows procs → length rows ≡ length procs
  rows-length [] [] h = refl
  rows-length [] (proc ∷ procs) h = absurd h
  rows-length (row ∷ rows) [] h = absurd h
  rows-length (row ∷ rows) (proc ∷ procs) h = ap suc (rows-length rows procs h.1)

  -- the row at an index represents the process at this index
  pub row-at : (rows : List Row) (procs : List Proc) (at : ℕ) → AreRowsOf bodies now rows procs → at < length rows → IsRowOf bodies now (row_at rows at) (proc_at procs at)
  row-at [] procs at h l = absurd (omega arith)
  row-at (row ∷ rows) [] at h l = absurd h
  row-at (row ∷ rows) (proc ∷ procs) zero h l = h.0
  row-at (row ∷ rows) (proc ∷ procs) (suc at) h l = row-at rows procs at h.1 (omega arith)

  -- the queues are the same
  pub all_take-is : (terms : List Term) (rows : List Row) (procs : List Proc) → AreRowsOf bodies now rows procs → all_take terms rows ≡ list_all (λ (other : Proc). takes_note terms other.inbox) procs
  all_take-is terms [] [] h = refl
  all_take-is terms [] (proc ∷ procs) h = absurd h
  all_take-is terms (row ∷ rows) [] h = absurd h
  all_take-is terms (row ∷ rows) (proc ∷ procs) h =
      ap (λ inbox. takes_note terms inbox && all_take terms rows) h.0.inbox
      ∙ ap (λ rest. takes_note terms proc.inbox && rest) (all_take-is terms rows procs h.1)

-- an action has a finding if and only if it has an effect, and the finding determines the effect

if-same : {A B : Type 0} (b : Bool) (x : A) (y : B) → is_some (if b then Some x else None) ≡ is_some (if b then Some y else None)
if-same true x y = refl
if-same false x y = refl

unless-same : {A B : Type 0} (b : Bool) (x : A) (y : B) → is_some (if not b then Some x else None) ≡ is_some (if b then None else Some y)
unless-same true x y = refl
unless-same false x y = refl

room-same : {A B C : Type 0} (f : A → B) (b : Bool) (x : A) (y : C) → is_some (option_map f (if b then Some x else None)) ≡ is_some (if b then Some y else None)
room-same f true x y = refl
room-same f false x y = refl

map-same : {A B C : Type 0} (f : A → B) (g : A → C) (found : Option A) → is_some (option_map f found) ≡ is_some (option_map g found)
map-same f g None = refl
map-same f g (Some x) = refl

the-then : {A B : Type 0} (b : Bool) (x : A) (y : B) (found : A) → (if b then Some x else None) ≡ Some found → (if b then Some y else None) ≡ Some y
the-then true x y found e = refl
the-then false x y found e = cc

the-else : {A B : Type 0} (b : Bool) (x : A) (y : B) (found : A) → (if not b then Some x else None) ≡ Some found → (if b then None else Some y) ≡ Some y
the-else true x y found e = cc
the-else false x y found e = refl

the-room : {A B C : Type 0} (f : A → B) (b : Bool) (x : A) (y : C) (found : B) → option_map f (if b then Some x else None) ≡ Some found → (if b then Some y else None) ≡ Some y
the-room f true x y found e = refl
the-room f false x y found e = cc

the-note : (held : Held) (o : Option Found) (found : Finding) → option_map finding.TakeNote o ≡ Some found → option_map (taking held) o ≡ Some (taking held (note_found found))
the-note held None found e = cc
the-note held (Some note) found e = ap (λ f. Some (taking held (note_found f))) (same_Some (finding.TakeNote note) found e)

the-exchange : (setting : Setting) (does : ToolAction) (o : Option Exchange) (found : Finding) → option_map finding.Speak o ≡ Some found →
    option_map (speaking setting does) o ≡ Some (speaking setting does (exchange_found found))
the-exchange setting does None found e = cc
the-exchange setting does (Some exchange) found e = ap (λ f. Some (speaking setting does (exchange_found f))) (same_Some (finding.Speak exchange) found e)

module _ (bus : Bus) (scene : Scene) (is : IsSceneOf bus scene) where
  may_create-is : (row : Row) (proc : Proc) → row.body ≡ proc.body → (process : ℕ) (actuals : List Term) (slot : ℕ) →
      may_create scene.bodies (length scene.rows) scene.next_number row.body process actuals slot
      ≡ may_create bus.program.bodies (length bus.procs) bus.next_number proc.body process actuals slot
  may_create-is row proc e process actuals slot =
      ap (λ bodies. may_create bodies (length scene.rows) scene.next_number row.body process actuals slot) (sym is.bodies_are)
      ∙ ap (λ alive. may_create bus.program.bodies alive scene.next_number row.body process actuals slot) (rows-length bus.program.bodies bus.now scene.rows bus.procs is.rows_are)
      ∙ ap (λ number. may_create bus.program.bodies (length bus.procs) number row.body process actuals slot) (sym is.next_is)
      ∙ ap (λ body. may_create bus.program.bodies (length bus.procs) bus.next_number body process actuals slot) e

  -- a process speaks with the same tools
  pub setting-is : (row : Row) (proc : Proc) → row.body ≡ proc.body → setting_in scene row ≡ setting_of bus proc
  setting-is row proc e =
      ap (λ bodies. setting_by bodies scene.kinds scene.bench row.body) (sym is.bodies_are)
      ∙ ap (λ kinds. setting_by bus.program.bodies kinds scene.bench row.body) (sym is.kinds_are)
      ∙ ap (λ bench. setting_by bus.program.bodies bus.program.tools bench row.body) (sym is.bench_is)
      ∙ ap (setting_by bus.program.bodies bus.program.tools bus.bench) e

  -- an action that a process does by itself has a finding if and only if it has an effect
  pub happens-is : (row : Row) (proc : Proc) → row.inbox ≡ proc.inbox → row.body ≡ proc.body → (own : OwnAction) → is_some (finding_of scene row own) ≡ is_some (own_effect bus proc own)
  happens-is row proc inbox body own.Tau = refl
  happens-is row proc inbox body (own.Set values binds) = refl
  happens-is row proc inbox body (own.Print text) = refl
  happens-is row proc inbox body (own.Notify terms) =
      ap (λ b. is_some (option_map finding.Notify (if b then Some (wanting terms 0 scene.rows) else None))) (all_take-is bus.program.bodies bus.now terms scene.rows bus.procs is.rows_are)
      ∙ room-same finding.Notify _ _ _
  happens-is row proc inbox body (own.TakeNote patterns) =
      ap (λ inbox. is_some (option_map finding.TakeNote (oldest_match patterns inbox))) inbox ∙ map-same finding.TakeNote (taking proc.inbox) (oldest_match patterns proc.inbox)
  happens-is row proc inbox body (own.NoNote patterns) =
      ap (λ inbox. is_some (plain_if (not (is_some (oldest_match patterns inbox))))) inbox ∙ unless-same (is_some (oldest_match patterns proc.inbox)) _ _
  happens-is row proc inbox body (own.Subscribe patterns) = refl
  happens-is row proc inbox body (own.Unsubscribe patterns) = refl
  happens-is row proc inbox body (own.Create process actuals slot) = ap (λ b. is_some (plain_if b)) (may_create-is row proc body process actuals slot) ∙ if-same _ _ _
  happens-is row proc inbox body (own.Speak does) =
      ap (λ setting. is_some (option_map finding.Speak (exchange_for setting does))) (setting-is row proc body)
      ∙ map-same finding.Speak (speaking (setting_of bus proc) does) (exchange_for (setting_of bus proc) does)
  happens-is row proc inbox body (own.Shutdown reason) = refl

  -- an action with this finding has this effect
  own-happens : (row : Row) (proc : Proc) → row.inbox ≡ proc.inbox → row.body ≡ proc.body → (own : OwnAction) (found : Finding) → finding_of scene row own ≡ Some found →
      own_effect bus proc own ≡ Some (effect_by bus.next_number proc.inbox (setting_of bus proc) own found)
  own-happens row proc inbox body own.Tau found h = refl
  own-happens row proc inbox body (own.Set values binds) found h = refl
  own-happens row proc inbox body (own.Print text) found h = refl
  own-happens row proc inbox body (own.Notify terms) found h =
      the-room finding.Notify (list_all (λ (other : Proc). takes_note terms other.inbox) bus.procs) (wanting terms 0 scene.rows) _ found
      (sym (ap (λ b. option_map finding.Notify (if b then Some (wanting terms 0 scene.rows) else None)) (all_take-is bus.program.bodies bus.now terms scene.rows bus.procs is.rows_are)) ∙ h)
  own-happens row proc inbox body (own.TakeNote patterns) found h =
      the-note proc.inbox (oldest_match patterns proc.inbox) found (sym (ap (λ inbox. option_map finding.TakeNote (oldest_match patterns inbox)) inbox) ∙ h)
  own-happens row proc inbox body (own.NoNote patterns) found h =
      the-else (is_some (oldest_match patterns proc.inbox)) finding.Plain _ found (sym (ap (λ inbox. plain_if (not (is_some (oldest_match patterns inbox)))) inbox) ∙ h)
  own-happens row proc inbox body (own.Subscribe patterns) found h = refl
  own-happens row proc inbox body (own.Unsubscribe patterns) found h = refl
  own-happens row proc inbox body (own.Create process actuals slot) found h =
      the-then (may_create bus.program.bodies (length bus.procs) bus.next_number proc.body process actuals slot) finding.Plain _ found (sym (ap plain_if (may_create-is row proc body process actuals slot)) ∙ h)
  own-happens row proc inbox body (own.Speak does) found h =
      the-exchange (setting_of bus proc) does (exchange_for (setting_of bus proc) does) found (sym (ap (λ setting. option_map finding.Speak (exchange_for setting does)) (setting-is row proc body)) ∙ h)
  own-happens row proc inbox body (own.Shutdown reason) found h = refl

module _ (bus : Bus) (scene : Scene) (marks : Marks) (is : IsSearchedFor bus scene marks) where
  -- the row at an index represents the process at this index
  pub found-row : (at : ℕ) → at < length scene.rows → IsRowOf scene.bodies bus.now (row_at scene.rows at) (proc_at bus.procs at)
  found-row at l = row-at scene.bodies bus.now scene.rows bus.procs at is.rows_are l

  -- The action at an index has the effect of its finding.
  pub own-effect-is : (at index : ℕ) (found : Finding) → IsCandidateIn scene (candidate.Own at index found) → (own : OwnAction) → (ready_at scene.rows at index).action ≡ action.Own own →
      effect_of bus (proc_at bus.procs at) (ready_at scene.rows at index).action ≡ Some (effect_by scene.next_number (row_at scene.rows at).inbox (setting_in scene (row_at scene.rows at)) own found)
  own-effect-is at index found h own e =
      let proc = proc_at bus.procs at in
      let row = found-row at h.0.0 in
      let scene_is = scene-is bus scene marks is in
      let same : h.1.0 ≡ own = ap own_in (sym h.1.1 ∙ e) in
      let happens : finding_of scene (row_at scene.rows at) own ≡ Some found = subst (λ o. finding_of scene (row_at scene.rows at) o ≡ Some found) same h.1.2 in
      ap (effect_of bus proc) e
      ∙ own-happens bus scene scene_is (row_at scene.rows at) proc row.inbox row.body own found happens
      ∙ ap (λ number. Some (effect_by number proc.inbox (setting_of bus proc) own found)) is.next_is
      ∙ ap (λ inbox. Some (effect_by scene.next_number inbox (setting_of bus proc) own found)) (sym row.inbox)
      ∙ ap (λ setting. Some (effect_by scene.next_number (row_at scene.rows at).inbox setting own found)) (sym (setting-is bus scene scene_is (row_at scene.rows at) proc row.body))
