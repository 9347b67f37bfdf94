-- A list of words whose number is known, written out.
use Rattle.std.proofs.Common.{◌≡◌, ℕ, ◌-◌, ◌≤◌, List, [], ◌∷◌, length, get_or, take, drop, sym, refl, ap, arith, take_all, Bor}
use Rattle.words.specs.Text.{spelled}

-- what stands past the end of a slice of texts
abbrev pub nowhere : Bor (List ℕ)
nowhere = record { ref_ptr = (0, 0); now = [] }

abbrev word : List (Bor (List ℕ)) → ℕ → List ℕ
word ws i = (get_or ws i nowhere).now

pub none : (ws : List (Bor (List ℕ))) → length ws ≡ 0 → spelled ws ≡ []
none [] h = refl
none (a ∷ ws) h = absurd (omega arith)

pub one : (ws : List (Bor (List ℕ))) → length ws ≡ 1 → spelled ws ≡ word ws 0 ∷ []
one [] h = absurd (omega arith)
one (a ∷ []) h = refl
one (a ∷ b ∷ ws) h = absurd (omega arith)

pub two : (ws : List (Bor (List ℕ))) → length ws ≡ 2 → spelled ws ≡ word ws 0 ∷ word ws 1 ∷ []
two [] h = absurd (omega arith)
two (a ∷ []) h = absurd (omega arith)
two (a ∷ b ∷ []) h = refl
two (a ∷ b ∷ c ∷ ws) h = absurd (omega arith)

pub three : (ws : List (Bor (List ℕ))) → length ws ≡ 3 → spelled ws ≡ word ws 0 ∷ word ws 1 ∷ word ws 2 ∷ []
three [] h = absurd (omega arith)
three (a ∷ []) h = absurd (omega arith)
three (a ∷ b ∷ []) h = absurd (omega arith)
three (a ∷ b ∷ c ∷ []) h = refl
three (a ∷ b ∷ c ∷ d ∷ ws) h = absurd (omega arith)

pub four : (ws : List (Bor (List ℕ))) → length ws ≡ 4 → spelled ws ≡ word ws 0 ∷ word ws 1 ∷ word ws 2 ∷ word ws 3 ∷ []
four [] h = absurd (omega arith)
four (a ∷ []) h = absurd (omega arith)
four (a ∷ b ∷ []) h = absurd (omega arith)
four (a ∷ b ∷ c ∷ []) h = absurd (omega arith)
four (a ∷ b ∷ c ∷ d ∷ []) h = refl
four (a ∷ b ∷ c ∷ d ∷ e ∷ ws) h = absurd (omega arith)

-- what holds of five words and more
pub five_up : (P : List (List ℕ) → Type 0) → ((a b c d e : List ℕ) (more : List (List ℕ)) → P (a ∷ b ∷ c ∷ d ∷ e ∷ more)) → (ws : List (Bor (List ℕ))) → 5 ≤ length ws → P (spelled ws)
five_up P holds [] h = absurd (omega arith)
five_up P holds (a ∷ []) h = absurd (omega arith)
five_up P holds (a ∷ b ∷ []) h = absurd (omega arith)
five_up P holds (a ∷ b ∷ c ∷ []) h = absurd (omega arith)
five_up P holds (a ∷ b ∷ c ∷ d ∷ []) h = absurd (omega arith)
five_up P holds (a ∷ b ∷ c ∷ d ∷ e ∷ ws) h = holds a.now b.now c.now d.now e.now (spelled ws)

pub two_up : (ws : List (Bor (List ℕ))) → 2 ≤ length ws → spelled ws ≡ word ws 0 ∷ word ws 1 ∷ spelled (take (length ws - 2) (drop 2 ws))
two_up [] h = absurd (omega arith)
two_up (a ∷ []) h = absurd (omega arith)
two_up (a ∷ b ∷ ws) h =
    let all : take (length (a ∷ b ∷ ws) - 2) ws ≡ ws = take_all _ ws (omega arith) in
    ap (λ rest. a.now ∷ b.now ∷ spelled rest) (sym all)

pub one_up : (ws : List (Bor (List ℕ))) → 1 ≤ length ws → spelled ws ≡ word ws 0 ∷ spelled (take (length ws - 1) (drop 1 ws))
one_up [] h = absurd (omega arith)
one_up (a ∷ ws) h =
    let all : take (length (a ∷ ws) - 1) ws ≡ ws = take_all _ ws (omega arith) in
    ap (λ rest. a.now ∷ spelled rest) (sym all)
