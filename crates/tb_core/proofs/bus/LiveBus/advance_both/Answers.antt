use Rattle.std.proofs.Common.{◌∙◌, [], refl, subst}
use Rattle.tb_search.specs.Candidates.{rows_of}
use Rattle.tb_core.specs.Helpers.LiveBuses.{IsAdvanced}
use Rattle.tb_core.proofs.AdvanceLemmas.{named-kept, leaves-kept, advance-kept, one-after, behind-from, both-advanced}
use Rattle.tb_core.proofs.bus.LiveBus.advance_both.Goals as goal

pub advance_at-requires-then-at-other-clause-sound : goal.advance_at-requires-then-at-other-clause-sound
advance_at-requires-then-at-other-clause-sound g c =
    let can = c.requires.received in
    (c.advance_at.ensures.advanced can.0 can.1).sound

pub advance_at-requires-then-at-other-clause-named : goal.advance_at-requires-then-at-other-clause-named
advance_at-requires-then-at-other-clause-named g c =
    named-kept c.args.self.now c.advance_at.new.self c.args.at (c.advance_at.ensures.before c.args.at c.if-at-other.true) c.advance_at.ensures.stale c.requires.named

pub advance_at-requires-then-at-other-clause-taken : goal.advance_at-requires-then-at-other-clause-taken
advance_at-requires-then-at-other-clause-taken g c =
    let can = c.requires.received in
    let plans = (c.advance_at.ensures.advanced can.0 can.1).plans in
    advance-kept g.W.Walker.view c.args.self.now c.advance_at.new.self c.args.at c.args.sent [] c.new-none.result (c.advance_at.ensures.before c.args.at c.if-at-other.true) plans c.new-none.ensures c.requires.sent

pub advance_at-requires-else-at-other-2-clause-sound : goal.advance_at-requires-else-at-other-2-clause-sound
advance_at-requires-else-at-other-2-clause-sound g c =
    let can = c.requires.sent in
    (c.advance_at-else-at-other.ensures.advanced can.0 can.1).sound

pub advance_at-requires-else-at-other-2-clause-named : goal.advance_at-requires-else-at-other-2-clause-named
advance_at-requires-else-at-other-2-clause-named g c =
    let old = c.args.self.now in
    let order = behind-from (rows_of old.living.items) c.args.at c.args.other c.requires.apart c.if-at-other.false in
    named-kept old c.advance_at-else-at-other.new.self c.args.other (c.advance_at-else-at-other.ensures.before c.args.other order) c.advance_at-else-at-other.ensures.stale c.requires.other_named

pub advance_at-requires-else-at-other-2-clause-taken : goal.advance_at-requires-else-at-other-2-clause-taken
advance_at-requires-else-at-other-2-clause-taken g c =
    let old = c.args.self.now in
    let can = c.requires.sent in
    let plans = (c.advance_at-else-at-other.ensures.advanced can.0 can.1).plans in
    let order = behind-from (rows_of old.living.items) c.args.at c.args.other c.requires.apart c.if-at-other.false in
    advance-kept g.W.Walker.view old c.advance_at-else-at-other.new.self c.args.other c.args.received c.args.binds.now c.args.binds.now (c.advance_at-else-at-other.ensures.before c.args.other order) plans refl c.requires.received

pub returns-then-at-other : goal.returns-then-at-other
returns-then-at-other g c offered its leaves leaves_its =
    let old = c.args.self.now in
    let middle = c.advance_at.new.self in
    let new = c.advance_at-then-at-other.new.self in
    let kept = c.advance_at.ensures.before c.args.at c.if-at-other.true in
    let first = c.advance_at.ensures.advanced its leaves_its in
    let second = c.advance_at-then-at-other.ensures.advanced offered (leaves-kept g.W.Walker.view old middle c.args.at c.args.sent offered kept first.plans leaves) in
    both-advanced g.W.Walker.view old middle new c.args.at offered c.args.other its c.args.binds.now c.requires.apart kept first
    (subst (λ binds. IsAdvanced g.W.Walker.view middle c.args.at offered binds new) c.new-none.ensures second)

pub returns : goal.returns
returns g c offered its leaves leaves_its =
    let old = c.args.self.now in
    let middle = c.advance_at-else-at-other.new.self in
    let new = c.advance_at-else-at-other-2.new.self in
    let kept = c.advance_at-else-at-other.ensures.before c.args.other (behind-from (rows_of old.living.items) c.args.at c.args.other c.requires.apart c.if-at-other.false) in
    let first = c.advance_at-else-at-other.ensures.advanced offered leaves in
    let second = c.advance_at-else-at-other-2.ensures.advanced its (leaves-kept g.W.Walker.view old middle c.args.other c.args.received its kept first.plans leaves_its) in
    record {
      sound = second.sound;
      bus = one-after g.W.Walker.view old middle new c.args.at offered [] c.args.other its c.args.binds.now kept
          (subst (λ binds. IsAdvanced g.W.Walker.view old c.args.at offered binds middle) c.new-none.ensures first) second;
      origin = second.origin ∙ first.origin;
    }
