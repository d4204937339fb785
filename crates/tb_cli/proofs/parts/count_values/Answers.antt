use Rattle.std.proofs.Common.{◌≡◌, ◌+◌, ◌<◌, ◌∙◌, sym, ap, length, map, [], ℕ, drop, slice_get, get_or, string_bytes, option_map, option_copied, arith}
use Rattle.std.proofs.lemmas.List.{length-map, length-append}
use Rattle.tb_cli.specs.Parts.{parts_of, given, given_by}
use Rattle.tb_cli.specs.Helpers.Scanning.{part_of}
use Rattle.tb_cli.proofs.Scanning.{bytes-looked-up, bytes-read, given-at, part_len-some}
use Rattle.tb_cli.proofs.parts.count_values.Goals as goal

pub loop-index-preserved : goal.loop-index-preserved
loop-index-preserved c =
    let words = map string_bytes c.args.words.now in
    let index = c.loop-index.index in
    let name = option_copied c.args.name in
    let len = c.part_len-index.result in
    let word = c.as_str-word.result.now in
    let next = option_map string_bytes (option_copied c.get.result) in
    let within : index < length words = simp length-map (omega arith) in
    let is : word ≡ get_or words index [] = bytes-read c.args.words.now index c.index-words-index.result word c.loop-index-test.true c.index-words-index.is c.as_str-word.ensures.value in
    let comes : next ≡ slice_get words (index + 1) = bytes-looked-up c.get.result c.args.words.now (index + 1) c.get.ensures.lookup.1 c.get.ensures.lookup.3 in
    let first = given_by name (part_of word next) in
    let rest = given name (parts_of (drop (index + len) words)) in
    let count = c.count_value-count.result in
    let one : length first ≡ count = sym (c.count_value-count.ensures.is ∙ ap length c.value_under.ensures) in
    let sizes : length (given name (parts_of (drop index words))) ≡ count + length rest =
    ap length (given-at name words index len word next within is c.part_len-index.ensures comes) ∙ length-append first rest ∙ ap (λ (n : ℕ). n + length rest) one in
    record {
      values = omega (arith, sizes, c.loop-index.invariant.values);
      few = omega (arith, c.loop-index.invariant.few, c.count_value-count.ensures.few, c.part_len-index.ensures, part_len-some word);
    }
