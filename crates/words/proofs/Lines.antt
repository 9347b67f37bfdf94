-- The lines of a text are the pieces between its line feeds.
use Rattle.std.proofs.Common.{◌≡◌, ℕ, ◌<◌, Bool, true, false, eqb, List, [], ◌∷◌, ◌++◌, length, sym, refl, ap, ◌∙◌, append_assoc, append-nil, arith}
use Rattle.std.proofs.lemmas.List.Splits.{length-slice_split}
use Rattle.std.specs.List.{onto_first, slice_split}
use Rattle.words.specs.Text.{lines, lines_from}

abbrev feed : ℕ → Bool
feed b = eqb b 10

-- the pieces, with a text before the first
abbrev onto : List ℕ → List (List ℕ) → List (List ℕ)
onto word [] = word ∷ []
onto word (piece ∷ pieces) = (word ++ piece) ∷ pieces

onto_more : (word : List ℕ) (b : ℕ) (pieces : List (List ℕ)) → onto word (onto_first b pieces) ≡ onto (word ++ (b ∷ [])) pieces
onto_more word b [] = refl
onto_more word b (piece ∷ pieces) = ap (λ w. w ∷ pieces) (sym (append_assoc word (b ∷ []) piece))

onto_none : (pieces : List (List ℕ)) → 0 < length pieces → onto [] pieces ≡ pieces
onto_none [] has = absurd (omega arith)
onto_none (piece ∷ pieces) has = refl

by_feed : (line : List ℕ) (b : ℕ) (bs : List ℕ) (is : Bool) → eqb b 10 ≡ is → lines_from [] bs ≡ onto [] (slice_split feed bs) → lines_from (line ++ (b ∷ [])) bs ≡ onto (line ++ (b ∷ [])) (slice_split feed bs) → lines_from line (b ∷ bs) ≡ onto line (slice_split feed (b ∷ bs))
by_feed line b bs true is new more =
    let whole = onto_none (slice_split feed bs) (omega (arith, length-slice_split feed bs)) in
    rw is (ap (λ ls. line ∷ ls) (new ∙ whole) ∙ ap (λ l. l ∷ slice_split feed bs) (sym (append-nil line)))
by_feed line b bs false is new more = rw is (more ∙ sym (onto_more line b (slice_split feed bs)))

lines_of_pieces : (line bs : List ℕ) → lines_from line bs ≡ onto line (slice_split feed bs)
lines_of_pieces line [] = ap (λ l. l ∷ []) (sym (append-nil line))
lines_of_pieces line (b ∷ bs) = by_feed line b bs (eqb b 10) refl (lines_of_pieces [] bs) (lines_of_pieces (line ++ (b ∷ [])) bs)

pub pieces_are_lines : (text : List ℕ) → slice_split feed text ≡ lines text
pieces_are_lines text = sym (lines_of_pieces [] text ∙ onto_none (slice_split feed text) (omega (arith, length-slice_split feed text)))
