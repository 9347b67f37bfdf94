use Rattle.std.proofs.Common.{◌≡◌, ℕ, List, Some, Option, sym, ap, ◌∙◌, arith}
use Rattle.std.specs.Option.{option_map}
use Rattle.script.specs.Written.{cut_at, month_parts, parts, year_parts}
use Rattle.script.proofs.Cuts.{sides, split_cut}
use Rattle.script.proofs.written.parts_of.Goals as goal

-- the parts of a word with a hyphen, by what stands behind it
behind : (word : List ℕ) (year rest : List ℕ) (month : Option (List ℕ × List ℕ)) → cut_at 45 word ≡ Some (year, rest) → cut_at 45 rest ≡ month → parts word ≡ month_parts year rest month
behind word year rest month first second = ap (year_parts word) first ∙ ap (month_parts year rest) second

pub returns-in_default : goal.returns-in_default
returns-in_default c =
    let word = c.args.word.now in
    let whole = ap (year_parts word) (split_cut 45 word c.split_once.result c.split_once.ensures.cases (omega arith) ∙ ap (option_map sides) c.in_default.is) in
    record { year = ap (λ p. p.0) (sym whole); month = ap (λ p. p.1) (sym whole); day = ap (λ p. p.2) (sym whole) }

pub returns-in_default-split_once : goal.returns-in_default-split_once
returns-in_default-split_once c =
    let word = c.args.word.now in
    let rest = c.in-Some.rest.now in
    let first = split_cut 45 word c.split_once.result c.split_once.ensures.cases (omega arith) ∙ ap (option_map sides) c.in-Some.is in
    let second = split_cut 45 rest c.split_once-2.result c.split_once-2.ensures.cases (omega arith) ∙ ap (option_map sides) c.in_default-split_once.is in
    let whole = behind word c.in-Some.year.now rest _ first second in
    record { year = ap (λ p. p.0) (sym whole); month = ap (λ p. p.1) (sym whole); day = ap (λ p. p.2) (sym whole) }

pub returns : goal.returns
returns c =
    let word = c.args.word.now in
    let rest = c.in-Some.rest.now in
    let first = split_cut 45 word c.split_once.result c.split_once.ensures.cases (omega arith) ∙ ap (option_map sides) c.in-Some.is in
    let second = split_cut 45 rest c.split_once-2.result c.split_once-2.ensures.cases (omega arith) ∙ ap (option_map sides) c.in-Some-split_once.is in
    let whole = behind word c.in-Some.year.now rest _ first second in
    record { year = ap (λ p. p.0) (sym whole); month = ap (λ p. p.1) (sym whole); day = ap (λ p. p.2) (sym whole) }
