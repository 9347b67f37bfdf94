-- 64 numbers, one for each place, and the question that reads one of them.
use Rattle.std.specs.Prelude.{ℕ, Bool, cond, ◌&&◌, List, ℤ, pos, Some, None, Option, ◌==◌, nat_lt, slice_index_or}
use Rattle.machines.specs.declared.operation.Question.{Question}
use Rattle.primitives.specs.Ranges.{up_to}

-- a question of that code asks for the number at its place
abbrev pub asks_number : ℕ → Question → Bool
asks_number code question = question.code == code && nat_lt question.place 64 && up_to 0 question.index

-- the number asked for, none where the question asks for none
abbrev pub number_asked : ℕ → List ℤ → Question → Option ℤ
number_asked code s question = cond (asks_number code question) (Some (slice_index_or s question.place (pos 0))) None
