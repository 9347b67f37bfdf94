use Rattle.std.proofs.Common.{◌≡◌, ◌<◌, [], ◌∷◌, ◌++◌, length, vec_items, ap, ◌∙◌, arith, rules}
use mathlib.Core.List.{map-append}
use Rattle.words.specs.Text.{spelled}
use Rattle.words.proofs.Words.{complete_some}
use Rattle.words.proofs.text.take_word.Goals as goal

pub returns-in_ok-push : goal.returns-in_ok-push
returns-in_ok-push c =
    let pushed : vec_items c.push.new.self ≡ vec_items c.args.found.now ++ (c.range.result ∷ []) = search rules in
    let word = c.range.ensures.value in
    let some : 0 < length c.range.result.now = omega (arith, c.range.ensures.len) in
    ap spelled pushed ∙ map-append (λ w. w.now) (vec_items c.args.found.now) _ ∙ ap (λ ws. spelled (vec_items c.args.found.now) ++ ws) (complete_some _ _ word some)
