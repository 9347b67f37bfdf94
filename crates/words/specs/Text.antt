-- How a text is cut into lines and words.
use Rattle.std.specs.Prelude.{ℕ, Bool, cond, ◌||◌, List, [], ◌∷◌, ◌++◌, map, ◌==◌}
use Rattle.std.specs.Borrow.{Bor}

-- the texts that references point to
abbrev pub spelled : List (Bor (List ℕ)) → List (List ℕ)
spelled words = map (λ word. word.now) words

-- the lines, where line is what has been read of the first
abbrev pub lines_from : List ℕ → List ℕ → List (List ℕ)
lines_from line [] = line ∷ []
lines_from line (b ∷ bs) = cond (b == 10) (line ∷ lines_from [] bs) (lines_from (line ++ (b ∷ [])) bs)

-- the pieces of a text between its line feeds
abbrev pub lines : List ℕ → List (List ℕ)
lines text = lines_from [] text

-- a space, a tab or a carriage return
abbrev pub blank : ℕ → Bool
blank b = b == 32 || (b == 9 || b == 13)

-- a word that is complete, if there is one
abbrev pub complete : List ℕ → List (List ℕ)
complete [] = []
complete (b ∷ bs) = (b ∷ bs) ∷ []

-- the words, where word is what has been read of the first; a number sign, 35, begins a comment
abbrev pub words_from : List ℕ → List ℕ → List (List ℕ)
words_from word [] = complete word
words_from word (b ∷ bs) = cond (b == 35) (complete word) (cond (blank b) (complete word ++ words_from [] bs) (words_from (word ++ (b ∷ [])) bs))

-- the words of a line, parted by blanks, up to its comment
abbrev pub words : List ℕ → List (List ℕ)
words line = words_from [] line
