use Rattle.std.proofs.Common.{◌≡◌, true, ⊎_elim, subst, sym}
use Rattle.tb_index.specs.Marks.{wide}
use Rattle.tb_index.specs.Helpers.Pairs.{in_few, in_many}
use Rattle.tb_index.proofs.SlotLemmas as slots
use Rattle.tb_index.proofs.counts.count_all.Goals as goal

pub returns : goal.returns
returns c = λ mark its e. ⊎_elim
    (λ (there : in_few c.args.sending.now.few.items mark its ≡ true). c.count_many.ensures.kept (wide mark) its
    (c.in_ok-count_few.ensures mark its (subst (λ few. in_few few mark its ≡ true) (sym c.as_slice.ensures.value) there)))
    (λ (there : in_many c.args.sending.now.many mark its ≡ true). c.in_ok-count_many.ensures.all mark its there)
    (slots.has-cases c.args.sending.now mark its e)
