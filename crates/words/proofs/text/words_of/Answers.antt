use Rattle.std.proofs.Common.{◌≡◌, ◌<◌, true, false, eqb, length, get_or, vec_items, IsUtf8, sym, ap, ◌∙◌, subst, arith, rules}
use Rattle.std.proofs.lemmas.Str.{IsCharBoundary-start, IsCharBoundary-after_ascii}
use Rattle.std.specs.Str.{IsCharBoundary}
use Rattle.words.specs.Text.{blank, spelled}
use Rattle.words.proofs.Words.{at_blank, at_comment, at_end, at_letter, blank_low}
use Rattle.words.proofs.text.words_of.Goals as goal
use Rattle.words.proofs.text.words_of.Goals.{then-is_blank+in_ok-take_word, else-is_blank, then-loop-end-test+else-bytes-end-ne35, else-loop-end-test}

pub loop-end-init : goal.loop-end-init
loop-end-init c =
    let text : IsUtf8 c.args.line.now = subst IsUtf8 c.as_bytes-bytes.ensures.value c.as_bytes-bytes.ensures.utf8 in
    (simp c.new-found.ensures.items, search rules, search rules, IsCharBoundary-start c.args.line.now text)

pub loop-end-preserved : goal.loop-end-preserved
loop-end-preserved c =
    let line = c.args.line.now in
    let end = c.loop-end.end in
    let inv = c.loop-end.invariant in
    let same = c.as_bytes-bytes.ensures.value in
    let text : IsUtf8 line = subst IsUtf8 same c.as_bytes-bytes.ensures.utf8 in
    let within : end < length line = omega (arith, c.as_bytes-bytes.ensures.len) in
    let other : eqb (get_or line end 0) 35 ≡ false = search rules in
    let told : c.is_blank.result ≡ blank (get_or line end 0) = c.is_blank.ensures ∙ ap (λ bytes. blank (get_or bytes end 0)) same in
    elim c.if-is_blank.branch [
      | then-is_blank+in_ok-take_word w ↦
          let is : blank (get_or line end 0) ≡ true = sym told ∙ w.if-is_blank.true in (
            at_blank line _ _ end within inv.0 other _ _ (ap (λ v. spelled (vec_items v)) w.found-is ∙ w.in_ok-take_word.ensures) w.start-is is,
            omega (arith, w.start-is),
            omega arith,
            subst (IsCharBoundary line) (sym w.start-is) (IsCharBoundary-after_ascii line end text within (blank_low _ is)),
          )
      | else-is_blank w ↦ (
        at_letter line _ _ end within inv.0 other _ _ (ap (λ v. spelled (vec_items v)) w.found-is) w.start-is inv.1 (sym told ∙ w.if-is_blank.false),
        omega (arith, w.start-is),
        omega arith,
        subst (IsCharBoundary line) (sym w.start-is) inv.3,
      )
    ]

pub returns : goal.returns
returns c =
    let line = c.args.line.now in
    let end = c.loop-end.end in
    let inv = c.loop-end.invariant in
    let same = c.as_bytes-bytes.ensures.value in
    let long = c.as_bytes-bytes.ensures.len in
    c.in_ok-take_word-2.ensures ∙ sym (elim c.loop-end-test.branch [
      | then-loop-end-test+else-bytes-end-ne35 w ↦
          let sign : eqb (get_or line end 0) 35 ≡ true = search rules in
          at_comment line _ _ end (omega (arith, long, w.loop-end-test.true)) inv.0 sign
      | else-loop-end-test w ↦ at_end line _ _ end (omega (arith, long, w.loop-end-test.false)) inv.0
    ])
