use Rattle.std.proofs.Common.{◌≡◌, ◌+◌, ◌++◌, [], ◌∷◌, Ok, Err, length, get_or, drop, vec_items, sym, ap, subst, ◌∙◌, append-nil, length-append, add-zero, arith, rules}
use Rattle.std.proofs.lemmas.List.{at_drop_all, drop-map}
use Rattle.std.proofs.lemmas.Result.{err_from_is_err_and}
use Rattle.script.specs.Commands.{then}
use Rattle.script.specs.Scripts.{at_line, calls, line_call}
use Rattle.words.specs.Text.{spelled, words}
use Rattle.script.proofs.Reading.{at_end, at_turn, calls_more, calls_none, calls_some, failing, none_yet, stopped, words_at_line}
use Rattle.script.proofs.script.read_calls.Goals as goal
use Rattle.script.proofs.script.read_calls.Goals.{in-Some-call+in_ok-push, in_default}

pub loop-i-init : goal.loop-i-init
loop-i-init g c = rw add-zero (ap (calls g.D.WrittenDate.written c.args.from) (drop-map (λ w. w.now) c.args.from c.args.lines.now) ∙ none_yet _ _ c.new-found.ensures.items)

pub returns-in_err-call : goal.returns-in_err-call
returns-in_err-call g c =
    let lines = c.args.lines.now in
    let j = c.args.from + length c.loop-i.yielded in
    let line = c.in-Some.line.now in
    let written = g.D.WrittenDate.written in
    let place = at_turn lines c.args.from c.into_iter-i-iterator.result (cc) (cc) (cc) c.loop-i.yielded c.loop-i.i-iterator c.loop-i.yielded_by c.next.result c.next.new.self c.next.ensures.steps c.in-Some.i c.in-Some.line c.in-Some.is in
    let read = words_at_line (line_call written) (c.in-Some.i + 1) line.now c.as_slice-words.result.now c.read_line.result c.map_err.result (ap spelled c.as_slice-words.ensures.value ∙ c.in_ok-words.ensures) c.read_line.ensures (search rules) in
    let told : at_line (j + 1) (line_call written (words (get_or lines j line).now)) ≡ c.map_err.result = (λ k. at_line (sym place.1 k + 1) (line_call written (words (sym place.2 k).now))) ∙ sym read in
    let p = err_from_is_err_and c.from_residual-in_err-call.result c.from_residual-in_err-call.ensures.1 in
    stopped vec_items _ _ _ _ _ (p.1 ∙ ap Err p.2) (failing _ _ (told ∙ c.in_err-call.was)) (c.loop-i.invariant ∙ calls_more lines j line place.0 written (vec_items c.loop-i.found))

pub loop-i-preserved : goal.loop-i-preserved
loop-i-preserved g c =
    let lines = c.args.lines.now in
    let j = c.args.from + length c.loop-i.yielded in
    let line = c.in-Some.line.now in
    let written = g.D.WrittenDate.written in
    let found = vec_items c.loop-i.found in
    let place = at_turn lines c.args.from c.into_iter-i-iterator.result (cc) (cc) (cc) c.loop-i.yielded c.loop-i.i-iterator c.loop-i.yielded_by c.next.result c.next.new.self c.next.ensures.steps c.in-Some.i c.in-Some.line c.in-Some.is in
    let read = words_at_line (line_call written) (c.in-Some.i + 1) line.now c.as_slice-words.result.now c.read_line.result c.map_err.result (ap spelled c.as_slice-words.ensures.value ∙ c.in_ok-words.ensures) c.read_line.ensures (search rules) in
    let told : at_line (j + 1) (line_call written (words (get_or lines j line).now)) ≡ c.map_err.result = (λ k. at_line (sym place.1 k + 1) (line_call written (words (sym place.2 k).now))) ∙ sym read in
    let longer : c.args.from + length (c.loop-i.yielded ++ ((c.in-Some.i, c.in-Some.line) ∷ [])) ≡ j + 1 = omega (arith, length-append c.loop-i.yielded ((c.in-Some.i, c.in-Some.line) ∷ [])) in
    subst (λ n. calls written c.args.from (drop c.args.from (spelled lines)) ≡ then (calls written n (spelled (drop n lines))) (λ rest. Ok (vec_items c.match-call.found ++ rest))) (sym longer) (elim c.match-call.branch [
      | in-Some-call+in_ok-push w ↦ calls_some lines j line place.0 written found _ _ _ c.loop-i.invariant (told ∙ c.in_ok-call.was) w.in-Some-call.call w.in-Some-call.is (ap vec_items w.found-is ∙ w.in_ok-push.ensures.items ∙ ap (λ n. found ++ (record { number = n; call = w.in-Some-call.call } ∷ [])) (ap (λ n. n + 1) place.1))
      | in_default w ↦ calls_none lines j line place.0 written found _ _ _ c.loop-i.invariant (told ∙ c.in_ok-call.was) w.in_default.is (ap vec_items w.found-is)
    ])

pub returns : goal.returns
returns g c =
    let written = g.D.WrittenDate.written in
    let found = vec_items c.loop-i.found in
    let j = c.args.from + length c.loop-i.yielded in
    let all = at_end c.args.lines.now c.args.from c.into_iter-i-iterator.result (cc) (cc) (cc) c.loop-i.yielded c.loop-i.i-iterator c.loop-i.yielded_by c.next.result c.next.new.self c.next.ensures.steps c.in-None.is in
    c.loop-i.invariant
    ∙ at_drop_all (λ ls. then (calls written j (spelled ls)) (λ rest. Ok (found ++ rest))) c.args.lines.now j all
    ∙ ap Ok (append-nil found)
