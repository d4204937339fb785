-- The reason of an offer is the first condition of its atom that fails.
use Rattle.std.proofs.Common.{◌≡◌, Bool, true, false, List, Option, Some, None, is_some, if◌then◌else◌, refl, ap, subst}
use Rattle.tb_terms.specs.declared.term.Term.{Term}
use Rattle.tb_terms.specs.declared.pattern.Pattern.{Pattern}
use Rattle.tb_func.specs.declared.slot.Slot.{Slot}
use Rattle.tb_body.specs.declared.act.Act.{Act}
use Rattle.tb_body.specs.declared.act.Act.TheVariants.{Delta, Tau, SndMsg, RecMsg, SndNote, RecNote, NoNote, Subscribe, Unsubscribe, Create, Set, Printf, Execute, RecConnect, RecDisconnectAny, RecDisconnect, SndEval, RecValue, SndDo, RecEvent, SndAckEvent, SndTerminate, Shutdown}
use Rattle.tb_process_steps.specs.Atoms.{matched_exprs, patterns_of, sent_exprs, values_together}
use Rattle.tb_process_steps.specs.Offers.{Offered}
use Rattle.tb_bus.specs.Buses.{Bus, Proc, atoms_of}
use Rattle.tb_why.specs.Failing.{Fails, FailsBy, HoldsBefore, act_by, is_ready_by}
use Rattle.tb_why.specs.Reasons.{reason_by, reason_now, scene_of, with_patterns, with_terms}
use Rattle.tb_why.specs.Standing.{offering_of}
use Rattle.tb_why.specs.declared.reason.Reason.{Reason}
use Rattle.tb_why.specs.declared.reason.Reason.TheVariants as reason
use Rattle.tb_why.proofs.FailLemmas.{Explains, act-so, offer_with}

module _ (bus : Bus) (proc : Proc) (offered : Offered) where
  abbrev store : List Slot
  store = offered.store

  -- the values of an atom are there, and its patterns
  abbrev HasAllValues : Act → Type 0
  HasAllValues act = is_some (values_together offered.store (sent_exprs act)) ≡ true

  abbrev HasAllPatterns : Act → Type 0
  HasAllPatterns act = is_some (patterns_of offered.store (matched_exprs act)) ≡ true

  all-before : (act : Act) (r : Reason) → bus.down ≡ false → is_ready_by bus proc offered ≡ true → HasAllValues act → HasAllPatterns act → HoldsBefore bus proc offered act r
  all-before act reason.Down d e v p = tt
  all-before act reason.Times d e v p = d
  all-before act reason.NoValue d e v p = (d, e)
  all-before act reason.NoPattern d e v p = (d, e, v)
  all-before act r d e v p = (d, e, v, p)

  -- what comes before each reason holds, on a bus that is up, where the times hold
  abbrev Before : Act → Option Reason → Type 0
  Before act found = bus.down ≡ false → is_ready_by bus proc offered ≡ true → (r : Reason) → found ≡ Some r → HoldsBefore bus proc offered act r

  any-before : (act : Act) (found : Option Reason) → HasAllValues act → HasAllPatterns act → Before act found
  any-before act found v p d e r is = all-before act r d e v p

  value-before : (act : Act) (by : List Term → Option Reason) (found : Option (List Term)) → values_together offered.store (sent_exprs act) ≡ found → ((terms : List Term) → HasAllValues act → Before act (by terms)) → Before act (with_terms by found)
  value-before act by None there h = λ d e r is. let same : reason.NoValue ≡ r = cc in subst (HoldsBefore bus proc offered act) same (d, e)
  value-before act by (Some terms) there h = h terms (ap is_some there)

  pattern-before : (act : Act) (by : List Pattern → Option Reason) (found : Option (List Pattern)) → patterns_of offered.store (matched_exprs act) ≡ found → HasAllValues act →
      ((patterns : List Pattern) → HasAllPatterns act → Before act (by patterns)) → Before act (with_patterns by found)
  pattern-before act by None there v h = λ d e r is. let same : reason.NoPattern ≡ r = cc in subst (HoldsBefore bus proc offered act) same (d, e, v)
  pattern-before act by (Some patterns) there v h = h patterns (ap is_some there)

  -- an atom with values alone, and one with patterns alone
  values-before : (act : Act) (by : List Term → Option Reason) → HasAllPatterns act → Before act (with_terms by (values_together offered.store (sent_exprs act)))
  values-before act by p = value-before act by (values_together offered.store (sent_exprs act)) refl (λ terms v. any-before act (by terms) v p)

  patterns-before : (act : Act) (by : List Pattern → Option Reason) → HasAllValues act → Before act (with_patterns by (patterns_of offered.store (matched_exprs act)))
  patterns-before act by v = pattern-before act by (patterns_of offered.store (matched_exprs act)) refl v (λ patterns p. any-before act (by patterns) v p)

  -- one with both
  both-before : (act : Act) (by : List Term → List Pattern → Option Reason) →
      Before act (with_terms (λ terms. with_patterns (by terms) (patterns_of offered.store (matched_exprs act))) (values_together offered.store (sent_exprs act)))
  both-before act by =
      value-before act (λ terms. with_patterns (by terms) (patterns_of offered.store (matched_exprs act))) (values_together offered.store (sent_exprs act)) refl
      (λ terms v. patterns-before act (by terms) v)

  act-before : (ready : Bool) (act : Act) → Before act (reason_by (scene_of bus) proc.number proc.body proc.inbox (offer_with bus proc offered ready act) act)
  act-before ready Delta = any-before Delta _ refl refl
  act-before ready Tau = any-before Tau _ refl refl
  act-before ready (Set slot expr) = values-before (Set slot expr) _ refl
  act-before ready (Printf exprs) = values-before (Printf exprs) _ refl
  act-before ready (SndMsg exprs) = values-before (SndMsg exprs) _ refl
  act-before ready (RecMsg exprs) = patterns-before (RecMsg exprs) _ refl
  act-before ready (SndNote exprs) = values-before (SndNote exprs) _ refl
  act-before ready (RecNote exprs) = patterns-before (RecNote exprs) _ refl
  act-before ready (NoNote exprs) = patterns-before (NoNote exprs) _ refl
  act-before ready (Subscribe exprs) = patterns-before (Subscribe exprs) _ refl
  act-before ready (Unsubscribe exprs) = patterns-before (Unsubscribe exprs) _ refl
  act-before ready (Create process exprs slot) = values-before (Create process exprs slot) _ refl
  act-before ready (Execute tool slot) = any-before (Execute tool slot) _ refl refl
  act-before ready (RecConnect tool slot) = any-before (RecConnect tool slot) _ refl refl
  act-before ready (RecDisconnectAny tool slot) = any-before (RecDisconnectAny tool slot) _ refl refl
  act-before ready (RecDisconnect tool) = values-before (RecDisconnect tool) _ refl
  act-before ready (SndEval tool expr) = values-before (SndEval tool expr) _ refl
  act-before ready (RecValue tool expr) = both-before (RecValue tool expr) _
  act-before ready (SndDo tool expr) = values-before (SndDo tool expr) _ refl
  act-before ready (RecEvent tool exprs) = both-before (RecEvent tool exprs) _
  act-before ready (SndAckEvent tool exprs) = values-before (SndAckEvent tool exprs) _ refl
  act-before ready (SndTerminate tool expr) = values-before (SndTerminate tool expr) _ refl
  act-before ready (Shutdown expr) = values-before (Shutdown expr) _ refl

  abbrev FailsFirst : Act → Reason → Type 0
  FailsFirst act r = HoldsBefore bus proc offered act r × FailsBy bus proc offered act r

  first-so : (act : Act) (down ready : Bool) → bus.down ≡ down → is_ready_by bus proc offered ≡ ready → (found : Option Reason) → Explains bus proc offered act found → Before act found →
      (r : Reason) → (if down then Some reason.Down else (if ready then found else Some reason.Times)) ≡ Some r → FailsFirst act r
  first-so act true ready d e found h before r is = let same : reason.Down ≡ r = cc in subst (FailsFirst act) same (tt, d)
  first-so act false true d e found h before r is = (before d e r is, h r is)
  first-so act false false d e found h before r is = let same : reason.Times ≡ r = cc in subst (FailsFirst act) same (d, e)

  pub fails-so : (r : Reason) → reason_now bus.down (scene_of bus) proc.number proc.body proc.inbox (offering_of (atoms_of bus.program.bodies proc.body) bus.now offered) ≡ Some r → Fails bus proc offered r
  fails-so =
      let act = act_by bus proc offered in
      let ready = is_ready_by bus proc offered in
      first-so act bus.down ready refl refl (reason_by (scene_of bus) proc.number proc.body proc.inbox (offer_with bus proc offered ready act) act) (act-so bus proc offered ready act) (act-before ready act)
