-- The levels of a node's sides, as numbers.
use Rattle.std.specs.Prelude.{ℕ, ◌+◌, min, max, cond, nat_lt}
use Rattle.avl.specs.declared.levels.Lean.{Lean}
use Rattle.avl.specs.declared.levels.Lean.TheVariants.{Even, Left, Right}

-- a balanced tree of at most 1,024 nodes has no more
abbrev pub most_levels : ℕ
most_levels = 14

-- one above the deeper side; sixteen bits hold no more than 65,535
abbrev pub level_over : ℕ → ℕ → ℕ
level_over left right = min (1 + max left right) 65535

-- which side has at least two levels more
abbrev pub leaning : ℕ → ℕ → Lean
leaning left right = cond (nat_lt (left + 1) right) Right (cond (nat_lt (right + 1) left) Left Even)
