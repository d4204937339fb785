-- Another process sends or receives by the listed offers if and only if it does by the actions of the bus.
use Rattle.std.proofs.Common.{◌≡◌, ℕ, ◌==◌, ◌&&◌, ◌||◌, Bool, true, false, not, List, [], ◌∷◌, ◌++◌, map, filter, Option, Some, None, is_some, option_map, option_and_then, if◌then◌else◌, refl, ap, sym, ◌∙◌, subst}
use Rattle.std.specs.Bool.{⊤}
use Rattle.std.specs.List.{list_any, flat_map}
use Rattle.tb_terms.specs.declared.term.Term.{Term}
use Rattle.tb_terms.specs.declared.pattern.Pattern.{Pattern}
use Rattle.tb_func.specs.Printing.{printf_of}
use Rattle.tb_func.specs.declared.slot.Slot.{Slot}
use Rattle.tb_match.specs.declared.bind.Bind.{Bind}
use Rattle.tb_match.specs.Matches.{match_list}
use Rattle.tb_body.specs.declared.act.Act.{Act}
use Rattle.tb_body.specs.declared.act.Act.TheVariants.{Delta, Tau, SndMsg, RecMsg, SndNote, RecNote, NoNote, Subscribe, Unsubscribe, Create, Set, Printf, Execute, RecConnect, RecDisconnectAny, RecDisconnect, SndEval, RecValue, SndDo, RecEvent, SndAckEvent, SndTerminate, Shutdown}
use Rattle.tb_body.specs.declared.atom.Atom.{Atom}
use Rattle.tb_body.specs.declared.body.Body.{Body}
use Rattle.tb_process_steps.specs.Atoms.{act_of, is_ready, matched_exprs, patterns_of, sent_exprs, times_of, values_together}
use Rattle.tb_process_steps.specs.Binds.{takes_bind}
use Rattle.tb_process_steps.specs.Offers.{Offered, offers}
use Rattle.tb_bus.specs.Actions.{action_if, action_in, action_of, set_action, set_bind, shutdown_action, speak_about}
use Rattle.tb_bus.specs.Buses.{Bus, Proc, atoms_of}
use Rattle.tb_bus.specs.Steps.{Move, action_by, handshake_if, handshake_of, handshakes, handshakes_with, others}
use Rattle.tb_bus.specs.declared.action.Action.{Action}
use Rattle.tb_bus.specs.declared.action.Action.TheVariants as action
use Rattle.tb_bus.specs.declared.action.OwnAction.{OwnAction}
use Rattle.tb_bus.specs.declared.action.OwnAction.TheVariants as own
use Rattle.tb_bus.specs.declared.action.ToolAction.{ToolAction}
use Rattle.tb_bus.specs.declared.action.ToolAction.TheVariants as tool_action
use Rattle.tb_why.specs.declared.standing.Offering.{Offering}
use Rattle.tb_why.specs.declared.standing.Standing.{Standing}
use Rattle.tb_why.specs.Possible.{any_sends, is_full, sends_match}
use Rattle.tb_why.specs.Reasons.{has_receiver, has_sender, if_so, matches, received_now, receives, receives_from, sends, sends_to, sent_now}
use Rattle.tb_why.specs.Standing.{offering_of, standing_of}

-- no action, or one that needs no other process
abbrev IsOwnOr : Option Action → Type 0
IsOwnOr None = ⊤
IsOwnOr (Some (action.Own does)) = ⊤
IsOwnOr (Some (action.Send terms)) = ⊥
IsOwnOr (Some (action.Receive patterns)) = ⊥

own-map : {X : Type 0} (g : X → OwnAction) (o : Option X) → IsOwnOr (option_map (λ x. action.Own (g x)) o)
own-map g None = tt
own-map g (Some x) = tt

own-if : (store : List Slot) (bind : Bind) (b : Bool) → IsOwnOr (if b then Some (action.Own (own.Set (bind.value ∷ []) (bind ∷ []))) else None)
own-if store bind true = tt
own-if store bind false = tt

own-set : (store : List Slot) (slot : ℕ) (o : Option (List Term)) → IsOwnOr (option_and_then (set_action store slot) o)
own-set store slot None = tt
own-set store slot (Some []) = tt
own-set store slot (Some (v ∷ [])) = own-if store (record { slot = slot; value = v }) (takes_bind store (record { slot = slot; value = v }))
own-set store slot (Some (v ∷ w ∷ vs)) = tt

own-end : (o : Option (List Term)) → IsOwnOr (option_and_then shutdown_action o)
own-end None = tt
own-end (Some []) = tt
own-end (Some (v ∷ [])) = tt
own-end (Some (v ∷ w ∷ vs)) = tt

own-about : (does : List Term → List Pattern → ToolAction) (ps : Option (List Pattern)) (o : Option (List Term)) → IsOwnOr (option_and_then (speak_about does ps) o)
own-about does ps None = tt
own-about does None (Some ts) = tt
own-about does (Some p) (Some ts) = tt

-- what an offer sends, by its action
sent-none : (ps : List Pattern) (o : Option Action) → IsOwnOr o → false ≡ sends_match ps o
sent-none ps None h = refl
sent-none ps (Some (action.Own does)) h = refl
sent-none ps (Some (action.Send terms)) h = absurd h
sent-none ps (Some (action.Receive patterns)) h = absurd h

sent-some : (ps : List Pattern) (o : Option (List Term)) → matches (Some ps) o ≡ sends_match ps (option_map action.Send o)
sent-some ps None = refl
sent-some ps (Some ts) = refl

sent-received : (ps : List Pattern) (o : Option (List Pattern)) → false ≡ sends_match ps (option_map action.Receive o)
sent-received ps None = refl
sent-received ps (Some qs) = refl

sent-act : (ps : List Pattern) (store : List Slot) (act : Act) → matches (Some ps) (if_so (sends act) (values_together store (sent_exprs act))) ≡ sends_match ps (action_in store act)
sent-act ps store Delta = refl
sent-act ps store Tau = refl
sent-act ps store (SndMsg exprs) = sent-some ps (values_together store exprs)
sent-act ps store (RecMsg exprs) = sent-received ps (patterns_of store exprs)
sent-act ps store (SndNote exprs) = sent-none ps _ (own-map own.Notify (values_together store exprs))
sent-act ps store (RecNote exprs) = sent-none ps _ (own-map own.TakeNote (patterns_of store exprs))
sent-act ps store (NoNote exprs) = sent-none ps _ (own-map own.NoNote (patterns_of store exprs))
sent-act ps store (Subscribe exprs) = sent-none ps _ (own-map own.Subscribe (patterns_of store exprs))
sent-act ps store (Unsubscribe exprs) = sent-none ps _ (own-map own.Unsubscribe (patterns_of store exprs))
sent-act ps store (Create process actuals slot) = sent-none ps _ (own-map (λ terms. own.Create process terms slot) (values_together store actuals))
sent-act ps store (Set slot value) = sent-none ps _ (own-set store slot (values_together store (value ∷ [])))
sent-act ps store (Printf exprs) = sent-none ps _ (own-map own.Print (option_and_then printf_of (values_together store exprs)))
sent-act ps store (Execute tool slot) = refl
sent-act ps store (RecConnect tool slot) = refl
sent-act ps store (RecDisconnectAny tool slot) = refl
sent-act ps store (RecDisconnect tool) = sent-none ps _ (own-map (λ terms. own.Speak (tool_action.Disconnect terms)) (values_together store (tool ∷ [])))
sent-act ps store (SndEval tool expr) = sent-none ps _ (own-map (λ terms. own.Speak (tool_action.Eval terms)) (values_together store (tool ∷ expr ∷ [])))
sent-act ps store (RecValue tool expr) = sent-none ps _ (own-about tool_action.TakeValue (patterns_of store (expr ∷ [])) (values_together store (tool ∷ [])))
sent-act ps store (SndDo tool expr) = sent-none ps _ (own-map (λ terms. own.Speak (tool_action.Do terms)) (values_together store (tool ∷ expr ∷ [])))
sent-act ps store (RecEvent tool exprs) = sent-none ps _ (own-about tool_action.TakeEvent (patterns_of store exprs) (values_together store (tool ∷ [])))
sent-act ps store (SndAckEvent tool exprs) = sent-none ps _ (own-map (λ terms. own.Speak (tool_action.Acknowledge terms)) (values_together store (tool ∷ exprs)))
sent-act ps store (SndTerminate tool expr) = sent-none ps _ (own-map (λ terms. own.Speak (tool_action.Terminate terms)) (values_together store (tool ∷ expr ∷ [])))
sent-act ps store (Shutdown reason) = sent-none ps _ (own-end (values_together store (reason ∷ [])))

sent-if : (ps : List Pattern) (store : List Slot) (act : Act) (ready : Bool) → matches (Some ps) (if_so (ready && sends act) (values_together store (sent_exprs act))) ≡ sends_match ps (action_if ready store act)
sent-if ps store act true = sent-act ps store act
sent-if ps store act false = refl

sent-one : (ps : List Pattern) (atoms : List Atom) (now : ℕ) (o : Offered) → matches (Some ps) (sent_now atoms (offering_of atoms now o)) ≡ sends_match ps (action_of atoms now o)
sent-one ps atoms now o = sent-if ps o.store (act_of atoms o.atom) (is_ready o.store o.age now (times_of atoms o.atom))

sent-any : (ps : List Pattern) (atoms : List Atom) (now : ℕ) (os : List Offered) →
    list_any (λ (offer : Offering). matches (Some ps) (sent_now atoms offer)) (map (offering_of atoms now) os) ≡ list_any (λ sent. sends_match ps (action_of atoms now sent)) os
sent-any ps atoms now [] = refl
sent-any ps atoms now (o ∷ os) = ap (λ (b : Bool). b || list_any (λ (offer : Offering). matches (Some ps) (sent_now atoms offer)) (map (offering_of atoms now) os)) (sent-one ps atoms now o)
    ∙ ap (λ (b : Bool). sends_match ps (action_of atoms now o) || b) (sent-any ps atoms now os)

-- some pass and are kept
any-kept : {A : Type 0} (p q : A → Bool) (x : A) (xs : List A) (b : Bool) → ((b && p x) || list_any p (filter q xs)) ≡ list_any p (if b then x ∷ filter q xs else filter q xs)
any-kept p q x xs true = refl
any-kept p q x xs false = refl

-- Another process sends what matches.
pub sender-is : (bus : Bus) (number : ℕ) (ps : List Pattern) (procs : List Proc) →
    has_sender bus.program.bodies number (Some ps) (map (standing_of bus.program.bodies bus.now) procs) ≡ list_any (any_sends bus ps) (filter (λ (other : Proc). not (other.number == number)) procs)
sender-is bus number ps [] = refl
sender-is bus number ps (proc ∷ procs) =
    let bodies = bus.program.bodies in
    let apart : Bool = not (proc.number == number) in
    let here : list_any (λ (offer : Offering). matches (Some ps) (sent_now (atoms_of bodies proc.body) offer)) (standing_of bodies bus.now proc).offers ≡ any_sends bus ps proc = sent-any ps (atoms_of bodies proc.body) bus.now (offers proc.term proc.store) in
    ap (λ (b : Bool). (apart && b) || has_sender bodies number (Some ps) (map (standing_of bodies bus.now) procs)) here
    ∙ ap (λ (b : Bool). (apart && any_sends bus ps proc) || b) (sender-is bus number ps procs)
    ∙ any-kept (any_sends bus ps) (λ (other : Proc). not (other.number == number)) proc procs apart

-- what an offer receives, by its action
module _ (s : Proc) (so : Offered) (ts : List Term) (r : Proc) where
  abbrev shaken : Offered → Option Action → Bool
  shaken o does = is_full (handshake_of s so ts r o does)

  got-none : (o : Offered) (does : Option Action) → IsOwnOr does → false ≡ shaken o does
  got-none o None h = refl
  got-none o (Some (action.Own does)) h = refl
  got-none o (Some (action.Send terms)) h = absurd h
  got-none o (Some (action.Receive patterns)) h = absurd h

  got-by : (o : Offered) (binds : Option (List Bind)) → is_some binds ≡ is_full (handshake_if s so ts r o binds)
  got-by o None = refl
  got-by o (Some binds) = refl

  got-some : (o : Offered) (ps : Option (List Pattern)) → matches ps (Some ts) ≡ shaken o (option_map action.Receive ps)
  got-some o None = refl
  got-some o (Some ps) = got-by o (match_list ps ts)

  got-sent : (o : Offered) (terms : Option (List Term)) → false ≡ shaken o (option_map action.Send terms)
  got-sent o None = refl
  got-sent o (Some terms) = refl

  got-act : (o : Offered) (store : List Slot) (act : Act) → matches (if_so (receives act) (patterns_of store (matched_exprs act))) (Some ts) ≡ shaken o (action_in store act)
  got-act o store Delta = refl
  got-act o store Tau = refl
  got-act o store (SndMsg exprs) = got-sent o (values_together store exprs)
  got-act o store (RecMsg exprs) = got-some o (patterns_of store exprs)
  got-act o store (SndNote exprs) = got-none o _ (own-map own.Notify (values_together store exprs))
  got-act o store (RecNote exprs) = got-none o _ (own-map own.TakeNote (patterns_of store exprs))
  got-act o store (NoNote exprs) = got-none o _ (own-map own.NoNote (patterns_of store exprs))
  got-act o store (Subscribe exprs) = got-none o _ (own-map own.Subscribe (patterns_of store exprs))
  got-act o store (Unsubscribe exprs) = got-none o _ (own-map own.Unsubscribe (patterns_of store exprs))
  got-act o store (Create process actuals slot) = got-none o _ (own-map (λ terms. own.Create process terms slot) (values_together store actuals))
  got-act o store (Set slot value) = got-none o _ (own-set store slot (values_together store (value ∷ [])))
  got-act o store (Printf exprs) = got-none o _ (own-map own.Print (option_and_then printf_of (values_together store exprs)))
  got-act o store (Execute tool slot) = refl
  got-act o store (RecConnect tool slot) = refl
  got-act o store (RecDisconnectAny tool slot) = refl
  got-act o store (RecDisconnect tool) = got-none o _ (own-map (λ terms. own.Speak (tool_action.Disconnect terms)) (values_together store (tool ∷ [])))
  got-act o store (SndEval tool expr) = got-none o _ (own-map (λ terms. own.Speak (tool_action.Eval terms)) (values_together store (tool ∷ expr ∷ [])))
  got-act o store (RecValue tool expr) = got-none o _ (own-about tool_action.TakeValue (patterns_of store (expr ∷ [])) (values_together store (tool ∷ [])))
  got-act o store (SndDo tool expr) = got-none o _ (own-map (λ terms. own.Speak (tool_action.Do terms)) (values_together store (tool ∷ expr ∷ [])))
  got-act o store (RecEvent tool exprs) = got-none o _ (own-about tool_action.TakeEvent (patterns_of store exprs) (values_together store (tool ∷ [])))
  got-act o store (SndAckEvent tool exprs) = got-none o _ (own-map (λ terms. own.Speak (tool_action.Acknowledge terms)) (values_together store (tool ∷ exprs)))
  got-act o store (SndTerminate tool expr) = got-none o _ (own-map (λ terms. own.Speak (tool_action.Terminate terms)) (values_together store (tool ∷ expr ∷ [])))
  got-act o store (Shutdown reason) = got-none o _ (own-end (values_together store (reason ∷ [])))

  got-if : (o : Offered) (store : List Slot) (act : Act) (ready : Bool) → matches (if_so (ready && receives act) (patterns_of store (matched_exprs act))) (Some ts) ≡ shaken o (action_if ready store act)
  got-if o store act true = got-act o store act
  got-if o store act false = refl

  got-one : (atoms : List Atom) (now : ℕ) (o : Offered) → matches (received_now atoms (offering_of atoms now o)) (Some ts) ≡ shaken o (action_of atoms now o)
  got-one atoms now o = got-if o o.store (act_of atoms o.atom) (is_ready o.store o.age now (times_of atoms o.atom))

full-append : {A : Type 0} (xs ys : List A) → is_full (xs ++ ys) ≡ (is_full xs || is_full ys)
full-append [] ys = refl
full-append (x ∷ xs) ys = refl

got-any : (bus : Bus) (s : Proc) (so : Offered) (ts : List Term) (r : Proc) (os : List Offered) →
    list_any (λ (offer : Offering). matches (received_now (atoms_of bus.program.bodies r.body) offer) (Some ts)) (map (offering_of (atoms_of bus.program.bodies r.body) bus.now) os)
    ≡ is_full (flat_map (λ received. handshake_of s so ts r received (action_by bus r received)) os)
got-any bus s so ts r [] = refl
got-any bus s so ts r (o ∷ os) =
    let atoms = atoms_of bus.program.bodies r.body in
    let rest : List Move = flat_map (λ received. handshake_of s so ts r received (action_by bus r received)) os in
    ap (λ (b : Bool). b || list_any (λ (offer : Offering). matches (received_now atoms offer) (Some ts)) (map (offering_of atoms bus.now) os)) (got-one s so ts r atoms bus.now o)
    ∙ ap (λ (b : Bool). is_full (handshake_of s so ts r o (action_by bus r o)) || b) (got-any bus s so ts r os)
    ∙ sym (full-append (handshake_of s so ts r o (action_by bus r o)) rest)

full-kept : {A B : Type 0} (f : A → List B) (q : A → Bool) (x : A) (xs : List A) (b : Bool) → ((b && is_full (f x)) || is_full (flat_map f (filter q xs))) ≡ is_full (flat_map f (if b then x ∷ filter q xs else filter q xs))
full-kept f q x xs true = sym (full-append (f x) (flat_map f (filter q xs)))
full-kept f q x xs false = refl

receiver-by : (bus : Bus) (s : Proc) (so : Offered) (ts : List Term) (procs : List Proc) →
    has_receiver bus.program.bodies s.number (Some ts) (map (standing_of bus.program.bodies bus.now) procs) ≡ is_full (flat_map (handshakes_with bus s so ts) (filter (λ (other : Proc). not (other.number == s.number)) procs))
unfolding handshakes_with
receiver-by bus s so ts [] = refl
receiver-by bus s so ts (proc ∷ procs) =
    let bodies = bus.program.bodies in
    let apart : Bool = not (proc.number == s.number) in
    let here : list_any (λ (offer : Offering). matches (received_now (atoms_of bodies proc.body) offer) (Some ts)) (standing_of bodies bus.now proc).offers ≡ is_full (handshakes_with bus s so ts proc) = got-any bus s so ts proc (offers proc.term proc.store) in
    ap (λ (b : Bool). (apart && b) || has_receiver bodies s.number (Some ts) (map (standing_of bodies bus.now) procs)) here
    ∙ ap (λ (b : Bool). (apart && is_full (handshakes_with bus s so ts proc)) || b) (receiver-by bus s so ts procs)
    ∙ full-kept (handshakes_with bus s so ts) (λ (other : Proc). not (other.number == s.number)) proc procs apart

-- Another process receives the terms.
pub receiver-is : (bus : Bus) (s : Proc) (so : Offered) (ts : List Term) → has_receiver bus.program.bodies s.number (Some ts) (map (standing_of bus.program.bodies bus.now) bus.procs) ≡ is_full (handshakes bus s so ts)
unfolding handshakes
receiver-is bus s so ts = receiver-by bus s so ts bus.procs
