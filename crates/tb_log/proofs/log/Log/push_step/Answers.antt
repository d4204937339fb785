use Rattle.std.proofs.Common.{◌≡◌, ◌≤◌, ◌∙◌, [], ◌∷◌, ◌++◌, ap, sym, true, length, min, arith}
use Rattle.std.proofs.lemmas.List.{length-map}
use Rattle.tb_terms.specs.declared.term.Term.TheVariants.{Int}
use Rattle.tb_log.specs.declared.entry.Label.{Label}
use Rattle.tb_log.specs.declared.entry.Entry.TheVariants.{Did}
use Rattle.tb_log.specs.Limits.{has_room, terms_size}
use Rattle.tb_log.specs.Logs.{LogState}
use Rattle.tb_log.specs.Seens.{number_terms}
use Rattle.tb_log.specs.Helpers.KeptLogs.{entries_kept}
use Rattle.tb_log.proofs.KeptLemmas.{numbers_pushed, room_inside, stands_with_numbers, stands_with_step, step_pushed}
use Rattle.tb_log.proofs.SizeLemmas.{measured, room_parts, terms_sized}
use Rattle.tb_log.proofs.log.Log.push_step.Goals as goal

pub invariant_of-self : goal.invariant_of-self
invariant_of-self c =
    let log = c.self.inside in
    let old = number_terms log.numbers.items in
    let was = entries_kept log.terms.items old log.others.items log.entries.items in
    let label : Label = record { kind = c.args.kind; from = c.args.from; to = c.args.to; terms = c.args.terms.now } in
    let room : has_room log.limit was (Did label) ≡ true =
    room_inside log.limit was c.args.self.now (Did label) (ap (λ (s : LogState). s.limit) (sym c.self.view_is)) (ap (λ (s : LogState). s.entries) (sym c.self.view_is)) c.requires.room in
    let first : c.len-first.result ≡ length old = omega (arith, c.len-first.ensures, log.numbers.ok.0, length-map log.numbers.items Int) in
    let count : c.len-count.result ≡ length label.terms = c.len-count.ensures in
    let size : log.reserved ≡ min (terms_size label.terms) 18446744073709551615 = ap (λ (s : LogState). s.reserved) c.self.view_is ∙ c.requires.reserved in
    let pushed : number_terms c.push_numbers.new.into.items ≡ old ++ label.terms = c.push_numbers.ensures.pushed c.if-push_numbers.true ∙ ap (λ ts. old ++ ts) c.as_slice.ensures in (
      rw (c.push_reserved.ensures.items, pushed)
          (stands_with_numbers log.limit log.size log.reserved log.terms.items old log.others.items log.entries.items label c.len-first.result c.len-count.result first count c.self.invariant.0 room size),
      omega arith,
      omega arith,
    )

pub returns-then-push_numbers-clause-entries : goal.returns-then-push_numbers-clause-entries
returns-then-push_numbers-clause-entries c =
    let log = c.self.inside in
    let old = number_terms log.numbers.items in
    let label : Label = record { kind = c.args.kind; from = c.args.from; to = c.args.to; terms = c.args.terms.now } in
    let first : c.len-first.result ≡ length old = omega (arith, c.len-first.ensures, log.numbers.ok.0, length-map log.numbers.items Int) in
    let count : c.len-count.result ≡ length label.terms = c.len-count.ensures in
    let pushed : number_terms c.push_numbers.new.into.items ≡ old ++ label.terms = c.push_numbers.ensures.pushed c.if-push_numbers.true ∙ ap (λ ts. old ++ ts) c.as_slice.ensures in
    rw (c.push_reserved.ensures.items, pushed)
    (numbers_pushed log.terms.items old log.others.items log.entries.items label c.len-first.result c.len-count.result first count c.self.invariant.0.named ∙ ap (λ (s : LogState). s.entries ++ Did label ∷ []) c.self.view_is)

pub invariant_of-self-2 : goal.invariant_of-self-2
invariant_of-self-2 c =
    let log = c.self.inside in
    let old = number_terms log.numbers.items in
    let was = entries_kept log.terms.items old log.others.items log.entries.items in
    let label : Label = record { kind = c.args.kind; from = c.args.from; to = c.args.to; terms = c.args.terms.now } in
    let room : has_room log.limit was (Did label) ≡ true =
    room_inside log.limit was c.args.self.now (Did label) (ap (λ (s : LogState). s.limit) (sym c.self.view_is)) (ap (λ (s : LogState). s.entries) (sym c.self.view_is)) c.requires.room in
    let first : c.len-first-2.result ≡ length log.terms.items = omega (arith, c.len-first-2.ensures, log.terms.ok.0) in
    let count : c.len-count.result ≡ length label.terms = c.len-count.ensures in
    let size : log.reserved ≡ min (terms_size label.terms) 18446744073709551615 = ap (λ (s : LogState). s.reserved) c.self.view_is ∙ c.requires.reserved in (
      rw (c.move_terms.ensures.moved, c.push_reserved-2.ensures.items, c.push_numbers.ensures.same c.if-push_numbers.false)
          (stands_with_step log.limit log.size log.reserved log.terms.items old log.others.items log.entries.items label c.len-first-2.result c.len-count.result first count c.self.invariant.0 room size),
      omega arith,
      omega arith,
    )

pub returns-clause-entries : goal.returns-clause-entries
returns-clause-entries c =
    let log = c.self.inside in
    let old = number_terms log.numbers.items in
    let label : Label = record { kind = c.args.kind; from = c.args.from; to = c.args.to; terms = c.args.terms.now } in
    let first : c.len-first-2.result ≡ length log.terms.items = omega (arith, c.len-first-2.ensures, log.terms.ok.0) in
    let count : c.len-count.result ≡ length label.terms = c.len-count.ensures in
    rw (c.move_terms.ensures.moved, c.push_reserved-2.ensures.items, c.push_numbers.ensures.same c.if-push_numbers.false)
    (step_pushed log.terms.items old log.others.items log.entries.items label c.len-first-2.result c.len-count.result first count c.self.invariant.0.named ∙ ap (λ (s : LogState). s.entries ++ Did label ∷ []) c.self.view_is)

pub push_numbers-requires : goal.push_numbers-requires
push_numbers-requires c =
    let log = c.self.inside in
    let was = entries_kept log.terms.items (number_terms log.numbers.items) log.others.items log.entries.items in
    let label : Label = record { kind = c.args.kind; from = c.args.from; to = c.args.to; terms = c.args.terms.now } in
    let room : has_room log.limit was (Did label) ≡ true =
    room_inside log.limit was c.args.self.now (Did label) (ap (λ (s : LogState). s.limit) (sym c.self.view_is)) (ap (λ (s : LogState). s.entries) (sym c.self.view_is)) c.requires.room in
    let size : log.reserved ≡ min (terms_size label.terms) 18446744073709551615 = ap (λ (s : LogState). s.reserved) c.self.view_is ∙ c.requires.reserved in
    let exact : log.reserved ≡ terms_size label.terms = measured log.limit was (Did label) log.reserved room size in
    let few : length label.terms ≤ terms_size label.terms = terms_sized label.terms in
    let long : length c.as_slice.result.now ≡ length label.terms = ap length c.as_slice.ensures in
    omega (arith, exact, few, long, c.self.invariant.2)

pub move_terms-requires : goal.move_terms-requires
move_terms-requires c =
    let log = c.self.inside in
    let was = entries_kept log.terms.items (number_terms log.numbers.items) log.others.items log.entries.items in
    let label : Label = record { kind = c.args.kind; from = c.args.from; to = c.args.to; terms = c.args.terms.now } in
    let room : has_room log.limit was (Did label) ≡ true =
    room_inside log.limit was c.args.self.now (Did label) (ap (λ (s : LogState). s.limit) (sym c.self.view_is)) (ap (λ (s : LogState). s.entries) (sym c.self.view_is)) c.requires.room in
    let size : log.reserved ≡ min (terms_size label.terms) 18446744073709551615 = ap (λ (s : LogState). s.reserved) c.self.view_is ∙ c.requires.reserved in
    let exact : log.reserved ≡ terms_size label.terms = measured log.limit was (Did label) log.reserved room size in
    let few : length label.terms ≤ terms_size label.terms = terms_sized label.terms in
    omega (arith, exact, few, c.self.invariant.1)

pub overflow_cast-count : goal.overflow_cast-count
overflow_cast-count c =
    let label : Label = record { kind = c.args.kind; from = c.args.from; to = c.args.to; terms = c.args.terms.now } in
    let parts = room_parts c.args.self.now.limit c.args.self.now.entries (Did label) c.requires.room in
    let few : length label.terms ≤ terms_size label.terms = terms_sized label.terms in
    let long : c.len-count.result ≡ length label.terms = c.len-count.ensures in
    omega (arith, long, few, parts.1)
