use Rattle.std.proofs.Common.{◌≡◌, ◌∙◌, [], ◌∷◌, ◌++◌, ap, sym, true, length, arith}
use Rattle.tb_log.specs.Limits.{has_room}
use Rattle.tb_log.specs.Seens.{number_terms}
use Rattle.tb_log.specs.Logs.{LogState}
use Rattle.tb_log.specs.Helpers.KeptLogs.{entries_kept, other_entry}
use Rattle.tb_log.proofs.KeptLemmas.{other_pushed, room_inside, stands_with_other}
use Rattle.tb_log.proofs.log.Log.push_other.Goals as goal

pub invariant_of-self : goal.invariant_of-self
invariant_of-self c =
    let log = c.self.inside in
    let was = entries_kept log.terms.items (number_terms log.numbers.items) log.others.items log.entries.items in
    let it = other_entry c.args.other in
    let room : has_room log.limit was it ≡ true =
    room_inside log.limit was c.args.self.now it (ap (λ (s : LogState). s.limit) (sym c.self.view_is)) (ap (λ (s : LogState). s.entries) (sym c.self.view_is)) c.requires.room in
    let at : c.len-index.result ≡ length log.others.items = omega (arith, c.len-index.ensures, log.others.ok.0) in (
      rw (c.push_reserved.ensures.items, c.push_reserved-2.ensures.items)
          (stands_with_other log.limit log.size c.args.size log.terms.items (number_terms log.numbers.items) log.others.items log.entries.items c.args.other c.len-index.result at c.self.invariant.0 room c.requires.sized),
      c.self.invariant.1,
      c.self.invariant.2,
    )

pub returns-clause-entries : goal.returns-clause-entries
returns-clause-entries c =
    let log = c.self.inside in
    let at : c.len-index.result ≡ length log.others.items = omega (arith, c.len-index.ensures, log.others.ok.0) in
    rw (c.push_reserved.ensures.items, c.push_reserved-2.ensures.items)
    (other_pushed log.terms.items (number_terms log.numbers.items) log.others.items log.entries.items c.args.other c.len-index.result at c.self.invariant.0.named ∙ ap (λ (s : LogState). s.entries ++ other_entry c.args.other ∷ []) c.self.view_is)
