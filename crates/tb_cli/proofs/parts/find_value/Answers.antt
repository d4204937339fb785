use Rattle.std.proofs.Common.{◌≡◌, ◌+◌, ◌-◌, ◌<◌, ◌++◌, ◌∙◌, refl, sym, ap, length, map, [], List, ℕ, drop, slice_get, get_or, string_bytes, option_map, option_copied, arith}
use Rattle.std.proofs.lemmas.List.{length-map}
use Rattle.tb_cli.specs.Parts.{parts_of, given}
use Rattle.tb_cli.specs.Helpers.Scanning.{part_len}
use Rattle.tb_cli.proofs.Scanning.{bytes-looked-up, bytes-read, given-at, found-first, found-later}
use Rattle.tb_cli.proofs.parts.find_value.Goals as goal

pub returns-then-is_found : goal.returns-then-is_found
returns-then-is_found c =
    let words = map string_bytes c.args.words.now in
    let index = c.loop-index.index in
    let left = c.loop-index.left in
    let name = option_copied c.args.name in
    let word = c.as_str-word.result.now in
    let value = option_copied c.value_under-value.result in
    let next = option_map string_bytes (option_copied c.get.result) in
    let within : index < length words = simp length-map (omega arith) in
    let is : word ≡ get_or words index [] = bytes-read c.args.words.now index c.index-words-index.result word c.loop-index-test.true c.index-words-index.is c.as_str-word.ensures.value in
    let comes : next ≡ slice_get words (index + 1) = bytes-looked-up c.get.result c.args.words.now (index + 1) c.get.ensures.lookup.1 c.get.ensures.lookup.3 in
    let rest = given name (parts_of (drop (index + part_len word) words)) in
    let all = given-at name words index (part_len word) word next within is refl comes in
    sym (found-first value rest left (sym c.is_found.ensures ∙ c.if-is_found.true))
    ∙ ap (λ (first : List (List ℕ)). slice_get (first ++ rest) left) c.value_under-value.ensures
    ∙ ap (λ (values : List (List ℕ)). slice_get values left) (sym all)
    ∙ c.loop-index.invariant

pub loop-index-preserved : goal.loop-index-preserved
loop-index-preserved c =
    let words = map string_bytes c.args.words.now in
    let index = c.loop-index.index in
    let left = c.loop-index.left in
    let name = option_copied c.args.name in
    let len = c.part_len-index.result in
    let word = c.as_str-word.result.now in
    let value = option_copied c.value_under-value.result in
    let next = option_map string_bytes (option_copied c.get.result) in
    let within : index < length words = simp length-map (omega arith) in
    let is : word ≡ get_or words index [] = bytes-read c.args.words.now index c.index-words-index.result word c.loop-index-test.true c.index-words-index.is c.as_str-word.ensures.value in
    let comes : next ≡ slice_get words (index + 1) = bytes-looked-up c.get.result c.args.words.now (index + 1) c.get.ensures.lookup.1 c.get.ensures.lookup.3 in
    let rest = given name (parts_of (drop (index + len) words)) in
    let all = given-at name words index len word next within is c.part_len-index.ensures comes in
    ap (λ (n : ℕ). slice_get rest (left - n)) c.count_value-left.ensures.is
    ∙ sym (found-later value rest left (sym c.is_found.ensures ∙ c.if-is_found.false))
    ∙ ap (λ (first : List (List ℕ)). slice_get (first ++ rest) left) c.value_under-value.ensures
    ∙ ap (λ (values : List (List ℕ)). slice_get values left) (sym all)
    ∙ c.loop-index.invariant
