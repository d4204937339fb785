use Rattle.std.proofs.Common.{◌≡◌, ◌∙◌, [], ◌∷◌, ◌++◌, ap, sym, true}
use Rattle.tb_log.specs.declared.entry.Entry.TheVariants.{Quiet}
use Rattle.tb_log.specs.Limits.{has_room}
use Rattle.tb_log.specs.Seens.{number_terms}
use Rattle.tb_log.specs.Logs.{LogState}
use Rattle.tb_log.specs.Helpers.KeptLogs.{entries_kept}
use Rattle.tb_log.proofs.KeptLemmas.{quiet_pushed, room_inside, stands_with_quiet}
use Rattle.tb_log.proofs.log.Log.push_quiet.Goals as goal

pub invariant_of-self : goal.invariant_of-self
invariant_of-self c =
    let log = c.self.inside in
    let was = entries_kept log.terms.items (number_terms log.numbers.items) log.others.items log.entries.items in
    let room : has_room log.limit was Quiet ≡ true =
    room_inside log.limit was c.args.self.now Quiet (ap (λ (s : LogState). s.limit) (sym c.self.view_is)) (ap (λ (s : LogState). s.entries) (sym c.self.view_is)) c.requires.room in
    (rw c.push_reserved.ensures.items (stands_with_quiet log.limit log.size log.terms.items (number_terms log.numbers.items) log.others.items log.entries.items c.self.invariant.0 room), c.self.invariant.1, c.self.invariant.2)

pub returns-clause-entries : goal.returns-clause-entries
returns-clause-entries c =
    let log = c.self.inside in
    rw c.push_reserved.ensures.items (quiet_pushed log.terms.items (number_terms log.numbers.items) log.others.items log.entries.items ∙ ap (λ (s : LogState). s.entries ++ Quiet ∷ []) c.self.view_is)
