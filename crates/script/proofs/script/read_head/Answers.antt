use Rattle.std.proofs.Common.{◌≡◌, ◌+◌, length, get_or, Ok, Err, sym, ap, ◌∙◌, arith, rules}
use Rattle.std.proofs.lemmas.List.{at_drop_all}
use Rattle.std.proofs.lemmas.Result.{err_from_is_err_and}
use Rattle.script.specs.Scripts.{head, setting}
use Rattle.words.specs.Text.{spelled}
use Rattle.words.proofs.Listed.{nowhere}
use Rattle.script.proofs.Reading.{failing, head_begun, head_blank, head_more, head_named, stopped, words_at_line}
use Rattle.script.proofs.script.read_head.Goals as goal
use Rattle.script.proofs.script.read_head.Goals.{in-Blank, in-Named}

pub returns-in_err-setting : goal.returns-in_err-setting
returns-in_err-setting c =
    let line = get_or c.args.lines.now c.loop-i.i nowhere in
    let read = words_at_line setting (c.loop-i.i + 1) line.now c.as_slice-words.result.now c.read_setting.result c.map_err.result (ap spelled c.as_slice-words.ensures.value ∙ c.in_ok-words.ensures) c.read_setting.ensures (search rules) in
    let p = err_from_is_err_and c.from_residual-in_err-setting.result c.from_residual-in_err-setting.ensures.1 in
    stopped (λ x. x) _ _ _ _ _ (p.1 ∙ ap Err p.2) (failing _ _ (sym read ∙ c.in_err-setting.was)) (c.loop-i.invariant ∙ head_more c.args.lines.now c.loop-i.i nowhere c.loop-i-test.true c.loop-i.kind)

pub returns-in-Begun : goal.returns-in-Begun
returns-in-Begun c =
    let line = get_or c.args.lines.now c.loop-i.i nowhere in
    let read = words_at_line setting (c.loop-i.i + 1) line.now c.as_slice-words.result.now c.read_setting.result c.map_err.result (ap spelled c.as_slice-words.ensures.value ∙ c.in_ok-words.ensures) c.read_setting.ensures (search rules) in
    head_begun c.args.lines.now c.loop-i.i nowhere c.loop-i-test.true c.loop-i.kind _ _ c.loop-i.invariant (sym read ∙ c.in_ok-setting.was) c.in-Begun.is

pub loop-i-preserved : goal.loop-i-preserved
loop-i-preserved c =
    let lines = c.args.lines.now in
    let i = c.loop-i.i in
    let within = c.loop-i-test.true in
    let line = get_or lines i nowhere in
    let read = words_at_line setting (i + 1) line.now c.as_slice-words.result.now c.read_setting.result c.map_err.result (ap spelled c.as_slice-words.ensures.value ∙ c.in_ok-words.ensures) c.read_setting.ensures (search rules) in
    let told = sym read ∙ c.in_ok-setting.was in
    elim c.match-setting.branch [
      | in-Blank w ↦ head_blank lines i nowhere within c.loop-i.kind _ _ c.loop-i.invariant told _ w.in-Blank.is w.kind-is
      | in-Named w ↦ head_named lines i nowhere within c.loop-i.kind _ _ c.loop-i.invariant told _ _ w.in-Named.is w.kind-is
    ]

pub returns : goal.returns
returns c =
    let all : c.loop-i.i ≡ length c.args.lines.now = omega arith in
    c.loop-i.invariant ∙ at_drop_all (λ ls. head c.loop-i.kind c.loop-i.i (spelled ls)) c.args.lines.now c.loop-i.i c.loop-i-test.false ∙ ap (λ n. Ok (c.loop-i.kind, n)) all
