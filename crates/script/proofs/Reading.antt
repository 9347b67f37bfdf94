-- Reading a script line by line.
use Rattle.std.proofs.Common.{◌≡◌, ℕ, ◌+◌, ◌-◌, ◌<◌, ◌≤◌, List, [], ◌∷◌, ◌++◌, length, get_or, drop, Some, None, Ok, Err, Option, Result, sym, refl, ap, ◌∙◌, append_assoc, arith, Bor, Iter, length-drop, get_or-drop, zero-add}
use Rattle.std.proofs.iter.Yields.{fronts}
use Rattle.std.proofs.lemmas.Iterator.{YieldsList, YieldsList-from_slice}
use Rattle.std.proofs.lemmas.Iterator.Adapters.{YieldsList-from_skip}
use Rattle.std.proofs.lemmas.Iterator.Consumers.{YieldsList-end, YieldsList-from_enumerate, YieldsList-turn}
use Rattle.std.proofs.lemmas.List.{at_drop_more}
use Rattle.std.proofs.lemmas.List.FromFn.{get_or-enumerate_from, length-enumerate_from}
use Rattle.std.specs.Iterator.{Yields}
use Rattle.std.specs.Iterator.Adapters.{enumerate_count, enumerate_source, enumerate_steps, skip_count, skip_source, skip_steps}
use Rattle.std.specs.List.{enumerate_from}
use Rattle.std.specs.Result.{MatchResult}
use Rattle.std.specs.Slice.Iter.{iter_rest}
use Rattle.std.specs.declared.iter.Enumerate.{Enumerate}
use Rattle.std.specs.declared.iter.Skip.{Skip}
use Rattle.words.specs.declared.reason.Reason.{Reason}
use Rattle.book.specs.declared.call.Call.{Call}
use Rattle.dates.specs.declared.fault.NoSuchDate.{NoSuchDate}
use Rattle.script.specs.Commands.{call, then}
use Rattle.script.specs.Scripts.{Agrees, at_line, calls, head, head_with, line_call, put, setting}
use Rattle.words.specs.Text.{spelled, words}
use Rattle.script.specs.declared.line.Kind.{Kind}
use Rattle.script.specs.declared.line.Line.{Line}
use Rattle.script.specs.declared.line.ScriptFault.{ScriptFault}
use Rattle.script.specs.declared.line.Setting.{Setting}
use Rattle.script.specs.declared.line.Setting.TheVariants.{Begun, Blank, Named}
use Rattle.script.specs.declared.line.ScriptFault.TheVariants.{BadLine, NoMemory}

-- what stops a part stops the whole
pub stopped : {S A B : Type 0} (view : A → B) (says : Result S ScriptFault) (next : S → Result B ScriptFault) (whole : Result B ScriptFault) (r : Result A ScriptFault) (fault : ScriptFault) → r ≡ Err fault → Agrees {A = S} (λ x. x) (Err fault) says → whole ≡ then says next → Agrees view r whole
stopped view says next whole r (BadLine n reason) is told goes = rw is (goes ∙ ap (λ s. then s next) told)
stopped view says next whole r NoMemory is told goes = rw is tt

-- a fault that is said agrees
pub failing : {S : Type 0} (says : Result S ScriptFault) (fault : ScriptFault) → says ≡ Err fault → Agrees {A = S} (λ x. x) (Err fault) says
failing says (BadLine n reason) told = told
failing says NoMemory told = tt

-- what was read of a line, with its number where it cannot be read
at_its_line : {A : Type 0} (n : ℕ) (read : Result A Reason) (given : Result A ScriptFault) → MatchResult read (λ x. given ≡ Ok x) (λ reason. given ≡ Err (BadLine n reason)) → given ≡ at_line n read
at_its_line n (Ok x) given is = is
at_its_line n (Err reason) given is = is

-- the same of the words of a text
pub words_at_line : {A : Type 0} (says : List (List ℕ) → Result A Reason) (n : ℕ) (text : List ℕ) (ws : List (Bor (List ℕ))) (read : Result A Reason) (given : Result A ScriptFault) → spelled ws ≡ words text → read ≡ says (spelled ws) → MatchResult read (λ x. given ≡ Ok x) (λ reason. given ≡ Err (BadLine n reason)) → given ≡ at_line n (says (words text))
words_at_line says n text ws read given spells answers is = at_its_line n read given is ∙ ap (at_line n) (answers ∙ ap says spells)

-- a loop over the lines from one on, each with its place
module _ (lines : List (Bor (List ℕ))) (from : ℕ) (it : Skip (Enumerate (Iter (Bor (List ℕ))))) (rest : iter_rest (enumerate_source (skip_source it)) ≡ lines) (count : enumerate_count (skip_source it) ≡ 0) (skipped : skip_count it ≡ from) where
  placed : List (ℕ × Bor (List ℕ))
  placed = drop from (enumerate_from 0 lines)

  yields_placed : YieldsList (skip_steps (enumerate_steps fronts)) (λ p. (p.0, p.1.now)) it placed
  unfolding placed
  yields_placed = YieldsList-from_skip from (YieldsList-from_enumerate (YieldsList-from_slice lines rest) count) skipped

  length_placed : length placed ≡ length lines - from
  unfolding placed
  length_placed = length-drop from (enumerate_from 0 lines) ∙ ap (λ n. n - from) (length-enumerate_from 0 lines)

  get_or_placed : (n : ℕ) (d : ℕ × Bor (List ℕ)) → from + n < length lines → get_or placed n d ≡ (0 + (from + n), get_or lines (from + n) d.1)
  unfolding placed
  get_or_placed n d inside = get_or-drop from (enumerate_from 0 lines) n d ∙ get_or-enumerate_from 0 lines (from + n) d inside

  module _ (yielded : List (ℕ × Bor (Bor (List ℕ)))) (t : Skip (Enumerate (Iter (Bor (List ℕ))))) (by : Yields (skip_steps (enumerate_steps fronts)) it yielded t) (r : Option (ℕ × Bor (Bor (List ℕ)))) (u : Skip (Enumerate (Iter (Bor (List ℕ))))) (step : skip_steps (enumerate_steps fronts) t r u) where
    -- the place of the line in hand
    pub at_turn : (i : ℕ) (line : Bor (Bor (List ℕ))) → r ≡ Some (i, line) → (from + length yielded < length lines) × (i ≡ from + length yielded) × (line.now ≡ get_or lines (from + length yielded) line.now)
    at_turn i line is =
        let turn = YieldsList-turn yields_placed yielded t by r u (i, line) is step in
        let inside : from + length yielded < length lines = omega (arith, length_placed, turn.0) in
        let at = turn.1 ∙ get_or_placed (length yielded) (i, line.now) inside in
        (inside, ap (λ p. p.0) at ∙ zero-add (from + length yielded), ap (λ p. p.1) at)

    -- no line is left
    pub at_end : r ≡ None → length lines ≤ from + length yielded
    at_end is = omega (arith, length_placed, (YieldsList-end yields_placed yielded t by r u is step).1)

then_then : {A B C E : Type 0} (r : Result A E) (f : A → Result B E) (g : B → Result C E) → then (then r f) g ≡ then r (λ x. then (f x) g)
then_then (Ok x) f g = refl
then_then (Err e) f g = refl

-- at the start nothing is found
pub none_yet : {X E : Type 0} (r : Result (List X) E) (found : List X) → found ≡ [] → r ≡ then r (λ rest. Ok (found ++ rest))
none_yet (Ok rest) found none = rw none
none_yet (Err e) found none = refl

-- a line without a call adds nothing behind those found, and one with a call adds it
put_none : {D : Type 0} (n : ℕ) (found : List (Line D)) (r : Result (List (Line D)) ScriptFault) → then (then r (λ rest. Ok (put n None rest))) (λ rest. Ok (found ++ rest)) ≡ then r (λ rest. Ok (found ++ rest))
put_none n found (Ok rest) = refl
put_none n found (Err fault) = refl

put_some : {D : Type 0} (n : ℕ) (found : List (Line D)) (call : Result (Call D) NoSuchDate) (r : Result (List (Line D)) ScriptFault) → then (then r (λ rest. Ok (put n (Some call) rest))) (λ rest. Ok (found ++ rest)) ≡ then r (λ rest. Ok ((found ++ (record { number = n; call = call } ∷ [])) ++ rest))
put_some n found call (Ok rest) = ap Ok (sym (append_assoc found _ rest))
put_some n found call (Err fault) = refl

module _ (ls : List (Bor (List ℕ))) (i : ℕ) (d : Bor (List ℕ)) (within : i < length ls) where
  -- the head, one line on
  pub head_more : (named : Kind) → head named i (spelled (drop i ls)) ≡ then (at_line (i + 1) (setting (words (get_or ls i d).now))) (λ s. head_with s named i (λ other. head other (i + 1) (spelled (drop (i + 1) ls))))
  head_more named = at_drop_more (λ rest. head named i (spelled rest)) ls i d within

  module _ (named : Kind) (whole : Result (Kind × ℕ) ScriptFault) (s : Setting) (sofar : whole ≡ head named i (spelled (drop i ls))) (told : at_line (i + 1) (setting (words (get_or ls i d).now)) ≡ Ok s) where
    goes : whole ≡ head_with s named i (λ other. head other (i + 1) (spelled (drop (i + 1) ls)))
    goes = sofar ∙ head_more named ∙ ap (λ t. then t (λ s. head_with s named i (λ other. head other (i + 1) (spelled (drop (i + 1) ls))))) told

    pub head_begun : s ≡ Begun → whole ≡ Ok (named, i)
    head_begun is = rw is at goes

    pub head_blank : (next : Kind) → s ≡ Blank → next ≡ named → whole ≡ head next (i + 1) (spelled (drop (i + 1) ls))
    head_blank next is same = rw same (rw is at goes)

    pub head_named : (next other : Kind) → s ≡ Named other → next ≡ other → whole ≡ head next (i + 1) (spelled (drop (i + 1) ls))
    head_named next other is same = rw same (rw is at goes)

  module _ {D : Type 0} (written : List ℕ → Option (Result D NoSuchDate)) (found : List (Line D)) where
    -- what the lines behind give, with the call of this one before them and those found before it
    abbrev pub after : Option (Result (Call D) NoSuchDate) → Result (List (Line D)) ScriptFault
    after c = then (then (calls written (i + 1) (spelled (drop (i + 1) ls))) (λ rest. Ok (put (i + 1) c rest))) (λ rest. Ok (found ++ rest))

    -- the calls, one line on, behind those found before
    pub calls_more : then (calls written i (spelled (drop i ls))) (λ rest. Ok (found ++ rest)) ≡ then (at_line (i + 1) (line_call written (words (get_or ls i d).now))) after
    calls_more =
        ap (λ r. then r (λ rest. Ok (found ++ rest))) (at_drop_more (λ rest. calls written i (spelled rest)) ls i d within)
        ∙ then_then (at_line (i + 1) (line_call written (words (get_or ls i d).now))) _ _

    module _ (whole : Result (List (Line D)) ScriptFault) (c : Option (Result (Call D) NoSuchDate)) (next : List (Line D)) (sofar : whole ≡ then (calls written i (spelled (drop i ls))) (λ rest. Ok (found ++ rest))) (told : at_line (i + 1) (line_call written (words (get_or ls i d).now)) ≡ Ok c) where
      goes_on : whole ≡ after c
      goes_on = sofar ∙ calls_more ∙ ap (λ r. then r after) told

      pub calls_none : c ≡ None → next ≡ found → whole ≡ then (calls written (i + 1) (spelled (drop (i + 1) ls))) (λ rest. Ok (next ++ rest))
      calls_none is same = rw same (goes_on ∙ ap after is ∙ put_none (i + 1) found (calls written (i + 1) (spelled (drop (i + 1) ls))))

      pub calls_some : (call : Result (Call D) NoSuchDate) → c ≡ Some call → next ≡ found ++ (record { number = i + 1; call = call } ∷ []) → whole ≡ then (calls written (i + 1) (spelled (drop (i + 1) ls))) (λ rest. Ok (next ++ rest))
      calls_some call is more = rw more (goes_on ∙ ap after is ∙ put_some (i + 1) found call (calls written (i + 1) (spelled (drop (i + 1) ls))))
