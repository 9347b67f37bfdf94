-- The words of a line, one byte at a time.
use Rattle.std.proofs.Common.{◌≡◌, ℕ, ◌+◌, ◌-◌, ◌<◌, ◌≤◌, true, false, eqb, List, [], ◌∷◌, ◌++◌, length, get_or, take, drop, sym, ap, ◌∙◌, append_assoc, arith, length-drop, get_or-drop}
use Rattle.std.proofs.lemmas.List.{at_drop_more, at_drop_all, take_more}
use Rattle.std.proofs.lemmas.Bool.Decides.{nat_tests}
use Rattle.words.specs.Text.{blank, complete, words, words_from}

pub blank_low : (b : ℕ) → blank b ≡ true → b < 128
blank_low b is = grind (arith, nat_tests)

module _ (line : List ℕ) (found : List (List ℕ)) (start end : ℕ) where
  -- the bytes from start to end
  abbrev pub open_word : List ℕ
  open_word = take (end - start) (drop start line)

  -- found has the words before start, and the bytes from start to end belong to the next
  abbrev pub Sofar : Type 0
  Sofar = words line ≡ found ++ words_from open_word (drop end line)

  pub at_end : length line ≤ end → Sofar → words line ≡ found ++ complete open_word
  at_end over sofar = sofar ∙ ap (λ ws. found ++ ws) (at_drop_all (words_from open_word) line end over)

  module _ (within : end < length line) (sofar : Sofar) where
    next : words line ≡ found ++ words_from open_word (get_or line end 0 ∷ drop (end + 1) line)
    next = sofar ∙ ap (λ ws. found ++ ws) (at_drop_more (words_from open_word) line end 0 within)

    pub at_comment : eqb (get_or line end 0) 35 ≡ true → words line ≡ found ++ complete open_word
    at_comment is = rw is at next

    module _ (other : eqb (get_or line end 0) 35 ≡ false) where
      -- a byte of a word; the names of found and start may have changed
      pub at_letter : (found' : List (List ℕ)) (start' : ℕ) → found' ≡ found → start' ≡ start → start ≤ end → blank (get_or line end 0) ≡ false → words line ≡ found' ++ words_from (take (end + 1 - start') (drop start' line)) (drop (end + 1) line)
      at_letter found' start' same from ordered is =
          let more : end + 1 - start ≡ end - start + 1 = omega arith in
          let inside : end - start < length (drop start line) = simp length-drop (omega arith) in
          let at : start + (end - start) ≡ end = omega arith in
          let letter : get_or (drop start line) (end - start) 0 ≡ get_or line end 0 = get_or-drop start line (end - start) 0 ∙ ap (λ i. get_or line i 0) at in
          let longer : take (end + 1 - start) (drop start line) ≡ open_word ++ (get_or line end 0 ∷ []) = ap (λ n. take n (drop start line)) more ∙ take_more (drop start line) (end - start) 0 inside ∙ ap (λ b. open_word ++ (b ∷ [])) letter in
          rw (same, from, longer) (rw (other, is) at next)

      -- a blank completes the word
      pub at_blank : (found' : List (List ℕ)) (start' : ℕ) → found' ≡ found ++ complete open_word → start' ≡ end + 1 → blank (get_or line end 0) ≡ true → words line ≡ found' ++ words_from (take (end + 1 - start') (drop start' line)) (drop (end + 1) line)
      at_blank found' start' more from is =
          let none : end + 1 - start' ≡ 0 = omega arith in
          rw (more, none) ((rw (other, is) at next) ∙ sym (append_assoc found (complete open_word) _))

-- a word that has bytes is complete
pub complete_some : (word bytes : List ℕ) → word ≡ bytes → 0 < length word → word ∷ [] ≡ complete bytes
complete_some [] bytes e some = absurd (omega arith)
complete_some (b ∷ bs) bytes e some = ap complete e
