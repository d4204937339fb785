use Rattle.std.proofs.Common.{◌<◌, ◌∙◌, Some, length, slice_get, ap, sym, subst, arith}
use Rattle.tb_log.specs.declared.entry.Entry.{Entry}
use Rattle.tb_log.specs.declared.entry.Entry.TheVariants.{Did}
use Rattle.tb_log.specs.declared.entry.Label.{Label}
use Rattle.tb_log.specs.declared.kept.Kept.{Kept}
use Rattle.tb_log.specs.Seens.{number_terms}
use Rattle.tb_log.specs.Logs.{LogState}
use Rattle.tb_log.specs.Helpers.KeptLogs.{NamesWithin, entry_kept, label_kept}
use Rattle.tb_log.proofs.KeptLemmas.{kept_there, names_within, other_read, within_inside}
use Rattle.tb_log.proofs.log.Log.at.Goals as goal

pub index-requires : goal.index-requires
index-requires c =
    let log = c.self.inside in
    let within = within_inside log.terms.items (number_terms log.numbers.items) log.others.items log.entries.items c.args.self.now.entries c.args.at (ap (λ (s : LogState). s.entries) (sym c.self.view_is)) c.requires in
    omega (arith, within, log.entries.ok.0)

pub lend-requires : goal.lend-requires
lend-requires c =
    let log = c.self.inside in
    let within = within_inside log.terms.items (number_terms log.numbers.items) log.others.items log.entries.items c.args.self.now.entries c.args.at (ap (λ (s : LogState). s.entries) (sym c.self.view_is)) c.requires in
    let names = names_within (length log.terms.items) (length (number_terms log.numbers.items)) (length log.others.items) log.entries.items c.args.at c.index.result.now c.self.invariant.0.named within c.index.ensures in
    let fits = subst (NamesWithin (length log.terms.items) (length (number_terms log.numbers.items)) (length log.others.items)) c.in-Did.is names in
    rw c.as_slice.ensures.value fits

pub lend-requires-in-Numbers : goal.lend-requires-in-Numbers
lend-requires-in-Numbers c =
    let log = c.self.inside in
    let within = within_inside log.terms.items (number_terms log.numbers.items) log.others.items log.entries.items c.args.self.now.entries c.args.at (ap (λ (s : LogState). s.entries) (sym c.self.view_is)) c.requires in
    let names = names_within (length log.terms.items) (length (number_terms log.numbers.items)) (length log.others.items) log.entries.items c.args.at c.index.result.now c.self.invariant.0.named within c.index.ensures in
    let fits = subst (NamesWithin (length log.terms.items) (length (number_terms log.numbers.items)) (length log.others.items)) c.in-Numbers.is names in
    rw c.as_slice-in-Numbers.ensures.value fits

pub index-requires-in-Other : goal.index-requires-in-Other
index-requires-in-Other c =
    let log = c.self.inside in
    let within = within_inside log.terms.items (number_terms log.numbers.items) log.others.items log.entries.items c.args.self.now.entries c.args.at (ap (λ (s : LogState). s.entries) (sym c.self.view_is)) c.requires in
    let names = names_within (length log.terms.items) (length (number_terms log.numbers.items)) (length log.others.items) log.entries.items c.args.at c.index.result.now c.self.invariant.0.named within c.index.ensures in
    let there : c.in-Other.index < length log.others.items = subst (NamesWithin (length log.terms.items) (length (number_terms log.numbers.items)) (length log.others.items)) c.in-Other.is names in
    omega (arith, there, log.others.ok.0)

pub returns-in-Did : goal.returns-in-Did
returns-in-Did c =
    let log = c.self.inside in
    let within = within_inside log.terms.items (number_terms log.numbers.items) log.others.items log.entries.items c.args.self.now.entries c.args.at (ap (λ (s : LogState). s.entries) (sym c.self.view_is)) c.requires in
    ap (λ (s : LogState). slice_get s.entries c.args.at) (sym c.self.view_is)
    ∙ kept_there log.terms.items (number_terms log.numbers.items) log.others.items log.entries.items c.args.at c.index.result.now within c.index.ensures
    ∙ ap (λ (k : Kept). Some (entry_kept log.terms.items (number_terms log.numbers.items) log.others.items k)) c.in-Did.is
    ∙ ap (λ (l : Label). Some (Did l)) (sym (c.lend.ensures ∙ ap (λ ts. label_kept ts c.in-Did.step) c.as_slice.ensures.value))

pub returns-in-Numbers : goal.returns-in-Numbers
returns-in-Numbers c =
    let log = c.self.inside in
    let within = within_inside log.terms.items (number_terms log.numbers.items) log.others.items log.entries.items c.args.self.now.entries c.args.at (ap (λ (s : LogState). s.entries) (sym c.self.view_is)) c.requires in
    ap (λ (s : LogState). slice_get s.entries c.args.at) (sym c.self.view_is)
    ∙ kept_there log.terms.items (number_terms log.numbers.items) log.others.items log.entries.items c.args.at c.index.result.now within c.index.ensures
    ∙ ap (λ (k : Kept). Some (entry_kept log.terms.items (number_terms log.numbers.items) log.others.items k)) c.in-Numbers.is
    ∙ ap (λ (l : Label). Some (Did l)) (sym (c.lend-in-Numbers.ensures ∙ ap (λ ns. label_kept (number_terms ns) c.in-Numbers.step) c.as_slice-in-Numbers.ensures.value))

pub returns-in-Quiet : goal.returns-in-Quiet
returns-in-Quiet c =
    let log = c.self.inside in
    let within = within_inside log.terms.items (number_terms log.numbers.items) log.others.items log.entries.items c.args.self.now.entries c.args.at (ap (λ (s : LogState). s.entries) (sym c.self.view_is)) c.requires in
    ap (λ (s : LogState). slice_get s.entries c.args.at) (sym c.self.view_is)
    ∙ kept_there log.terms.items (number_terms log.numbers.items) log.others.items log.entries.items c.args.at c.index.result.now within c.index.ensures
    ∙ ap (λ (k : Kept). Some (entry_kept log.terms.items (number_terms log.numbers.items) log.others.items k)) c.in-Quiet.is

pub returns-in-Other : goal.returns-in-Other
returns-in-Other c =
    let log = c.self.inside in
    let within = within_inside log.terms.items (number_terms log.numbers.items) log.others.items log.entries.items c.args.self.now.entries c.args.at (ap (λ (s : LogState). s.entries) (sym c.self.view_is)) c.requires in
    let names = names_within (length log.terms.items) (length (number_terms log.numbers.items)) (length log.others.items) log.entries.items c.args.at c.index.result.now c.self.invariant.0.named within c.index.ensures in
    let there = subst (NamesWithin (length log.terms.items) (length (number_terms log.numbers.items)) (length log.others.items)) c.in-Other.is names in
    ap (λ (s : LogState). slice_get s.entries c.args.at) (sym c.self.view_is)
    ∙ kept_there log.terms.items (number_terms log.numbers.items) log.others.items log.entries.items c.args.at c.index.result.now within c.index.ensures
    ∙ ap (λ (k : Kept). Some (entry_kept log.terms.items (number_terms log.numbers.items) log.others.items k)) c.in-Other.is
    ∙ ap (λ (e : Entry). Some e) (other_read log.others.items c.in-Other.index c.index-in-Other.result.now there c.index-in-Other.ensures ∙ sym c.lend-in-Other.ensures)
