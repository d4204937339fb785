use Rattle.std.proofs.Common.{◌≡◌, ◌+◌, ◌<◌, ◌≤◌, List, Some, length, slice_get, ap, sym, subst, ◌∙◌, arith}
use Rattle.tb_process_steps.specs.Processes.{fresh}
use Rattle.tb_code.specs.Entries.{HasList, in_span, list_of}
use Rattle.tb_code.specs.declared.entry.Entry.{Entry}
use Rattle.tb_code.specs.declared.entry.Span.{Span}
use Rattle.tb_code.proofs.EntryLemmas.{some_count}
use Rattle.tb_code.proofs.code.Code.list.Goals as goal

pub span_at-span-requires : goal.span_at-span-requires
span_at-span-requires c =
    let long = c.args.self.now.listed.0 in
    let there = c.requires in
    subst (λ (l : List Span). c.args.at < length l) (sym c.as_slice.ensures) (omega arith)

pub in_span-requires : goal.in_span-requires
in_span-requires c =
    let here : slice_get c.args.self.now.spans c.args.at ≡ Some c.span_at-span.result = subst (λ (l : List Span). slice_get l c.args.at ≡ Some c.span_at-span.result) c.as_slice.ensures c.span_at-span.ensures in
    subst (λ (l : List Entry). c.span_at-span.result.first + c.span_at-span.result.count ≤ length l) (sym c.as_slice-2.ensures) (c.args.self.now.listed.1 c.args.at c.span_at-span.result here).0

pub returns : goal.returns
returns c = λ some.
    (let code = c.args.self.now in
    let s = c.span_at-span.result in
    let here : slice_get code.spans c.args.at ≡ Some s = subst (λ (l : List Span). slice_get l c.args.at ≡ Some s) c.as_slice.ensures c.span_at-span.ensures in
    let has : HasList code.entries s (list_of code.body.atoms (fresh code.body.tree) c.args.at) = code.listed.1 c.args.at s here in
    let given : c.in_span.result.now ≡ in_span code.entries s = c.in_span.ensures ∙ ap (λ (l : List Entry). in_span l s) c.as_slice-2.ensures in
    let more : 0 < length (in_span code.entries s) = subst (λ (l : List Entry). 0 < length l) given some in
    has.1 (some_count code.entries s more) ∙ sym given)
