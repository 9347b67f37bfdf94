-- The answers to the calls of a script, as values and as text.
use Rattle.std.specs.Prelude.{◌≡◌, ℕ, List, [], ◌∷◌, ◌++◌, length, ℤ, is_ok, is_err, Some, None, Ok, Err, codes, decimal, fold, count_by, Option, Result}
use Rattle.std.specs.Fmt.{signed_decimal}
use Rattle.book.specs.Answers.{Answer, after, answer_to}
use Rattle.book.specs.Refusals.{giver, number, words}
use Rattle.book.specs.declared.call.Accepted.TheVariants.{Entered, Read}
use Rattle.book.specs.declared.call.Call.{Call}
use Rattle.book.specs.declared.entries.Entry.{Entry}
use Rattle.book.specs.declared.refusal.Refusal.TheVariants.{Date}
use Rattle.dates.specs.Model.{DateModel}
use Rattle.dates.specs.declared.fault.NoSuchDate.{NoSuchDate}
use Rattle.machines.specs.Model.{MachineModel}
use Rattle.script.specs.declared.line.Line.{Line}
use Rattle.replies.specs.declared.reply.Reply.{Reply}
use Rattle.replies.specs.declared.reply.Totals.{Totals}

module _ {D : Type 0} (dates : DateModel D) (machine : MachineModel) where
  -- the answer to a line, and the entries after it; where there is no such date, it is refused and nothing changes
  abbrev pub line_answer : List (Entry D) → Result (Call D) NoSuchDate → Answer
  line_answer entries (Ok call) = answer_to dates machine entries call
  line_answer entries (Err fault) = Err (Date fault)

  abbrev pub line_after : List (Entry D) → Result (Call D) NoSuchDate → List (Entry D)
  line_after entries (Ok call) = after dates machine entries call
  line_after entries (Err fault) = entries

  abbrev pub reply_to : List (Entry D) → Line D → Reply
  reply_to entries line = record { line = line.number; answer = line_answer entries line.call }

  -- the reply is the line's, and the entries have changed as its call says
  abbrev pub Replied : List (Entry D) → Line D → Reply → List (Entry D) → Type 0
  Replied old line given new = (given ≡ reply_to old line) × (new ≡ line_after old line.call)

  -- the replies to lines that are worked off one after another, and the entries then
  abbrev pub replies : List (Entry D) → List (Line D) → List Reply
  replies entries [] = []
  replies entries (line ∷ lines) = reply_to entries line ∷ replies (line_after entries line.call) lines

  abbrev pub after_lines : List (Entry D) → List (Line D) → List (Entry D)
  after_lines entries lines = fold (λ es line. line_after es line.call) entries lines

-- how many replies there are, how many accept and how many refuse
abbrev pub totals : List Reply → Totals
totals given =
    record {
      calls = length given;
      accepted = count_by (λ reply. is_ok reply.answer) given;
      refused = count_by (λ reply. is_err reply.answer) given;
    }

abbrev pub reading_text : Option ℤ → List ℕ
reading_text None = codes "none"
reading_text (Some n) = signed_decimal n

abbrev pub answer_text : Answer → List ℕ
answer_text (Ok (Entered n)) = codes "entry " ++ decimal n
answer_text (Ok (Read reading count)) = codes "reads " ++ (reading_text reading ++ (codes ", counted " ++ decimal count))
answer_text (Err refusal) = codes "refused " ++ (decimal (number refusal) ++ (codes " by " ++ (giver refusal ++ (codes ": " ++ words refusal))))

abbrev pub reply_text : Reply → List ℕ
reply_text reply = codes "line " ++ (decimal reply.line ++ (codes ": " ++ answer_text reply.answer))

abbrev pub totals_text : Totals → List ℕ
totals_text totals =
    decimal totals.calls ++ (codes " calls: " ++ (decimal totals.accepted ++ (codes " accepted, " ++ (decimal totals.refused ++ codes " refused"))))
