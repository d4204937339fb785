use Rattle.std.proofs.Common.{◌≡◌, ◌||◌, ◌∙◌, true, ap, sym, refl, subst}
use Rattle.tb_index.specs.Helpers.Pairs.{in_few, is_pair}
use Rattle.tb_index.proofs.SlotLemmas as slots
use Rattle.tb_index.proofs.pairs.Pairs.add.Goals as goal

pub returns-in-Err-clause-err : goal.returns-in-Err-clause-err
returns-in-Err-clause-err c = slots.same-has c.args.self.now (record { few = c.make_slots.new.few; many = c.args.self.now.many }) c.make_slots.ensures.same (λ o i. refl)

pub returns-then-has_few-clause-added : goal.returns-then-has_few-clause-added
returns-then-has_few-clause-added c = slots.few-added c.args.self.now (record { few = c.make_slots.new.few; many = c.args.self.now.many }) c.args.mark c.args.proc
    (λ o i. slots.had-already (in_few c.make_slots.new.few.items) c.args.mark c.args.proc
    (subst (λ few. in_few few c.args.mark c.args.proc ≡ true) c.as_slice.ensures.value (sym c.has_few.ensures ∙ c.if-has_few.true)) o i
    ∙ ap (λ b. b || is_pair c.args.mark c.args.proc o i) (c.make_slots.ensures.same o i))
    (λ o i. refl)

pub returns-in-Ok-add_many-clause-added : goal.returns-in-Ok-add_many-clause-added
returns-in-Ok-add_many-clause-added c = slots.many-added c.args.self.now (record { few = c.make_slots.new.few; many = c.add_many.new.many }) c.args.mark c.args.proc
    c.make_slots.ensures.same c.in-Ok-add_many.ensures.added

pub returns-in-Err-add_many-clause-err : goal.returns-in-Err-add_many-clause-err
returns-in-Err-add_many-clause-err c = slots.same-has c.args.self.now (record { few = c.make_slots.new.few; many = c.add_many.new.many }) c.make_slots.ensures.same c.in-Err-add_many.ensures.err

pub returns-in-Ok-add_few-clause-added : goal.returns-in-Ok-add_few-clause-added
returns-in-Ok-add_few-clause-added c = slots.few-added c.args.self.now (record { few = c.add_few.new.few; many = c.args.self.now.many }) c.args.mark c.args.proc
    (λ o i. c.in-Ok-add_few.ensures.added o i ∙ ap (λ b. b || is_pair c.args.mark c.args.proc o i) (c.make_slots.ensures.same o i))
    (λ o i. refl)

pub returns-in-Err-add_few-clause-err : goal.returns-in-Err-add_few-clause-err
returns-in-Err-add_few-clause-err c = slots.same-has c.args.self.now (record { few = c.add_few.new.few; many = c.args.self.now.many })
    (λ o i. ap (λ few. in_few few o i) c.in-Err-add_few.ensures.err ∙ c.make_slots.ensures.same o i)
    (λ o i. refl)
