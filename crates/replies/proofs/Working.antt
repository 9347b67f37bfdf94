-- Lines that are worked off one after another.
use Rattle.std.proofs.Common.{◌≡◌, ℕ, ◌+◌, ◌<◌, List, [], ◌∷◌, ◌++◌, length, get_or, take, Ok, Err, Result, sym, refl, ap, ◌∙◌}
use Rattle.std.proofs.lemmas.List.{take_more}
use Rattle.std.proofs.lemmas.List.Sums.{fold_push}
use Rattle.dates.specs.Model.{DateModel, Lawful}
use Rattle.dates.specs.declared.fault.NoSuchDate.{NoSuchDate}
use Rattle.machines.specs.Model.{MachineModel}
use Rattle.book.specs.Order.{InBookOrder}
use Rattle.book.specs.declared.call.Call.{Call}
use Rattle.book.specs.declared.entries.Entry.{Entry}
use Rattle.book.proofs.Placing.{ordered_after}
use Rattle.replies.specs.Replies.{Replied, after_lines, line_after, replies, reply_to}
use Rattle.script.specs.declared.line.Line.{Line}
use Rattle.replies.specs.declared.reply.Reply.{Reply}

module _ {D : Type 0} (dates : DateModel D) (machine : MachineModel) where
  replies_push : (entries : List (Entry D)) (lines : List (Line D)) (line : Line D) →
      replies dates machine entries (lines ++ line ∷ [])
      ≡ replies dates machine entries lines ++ reply_to dates machine (after_lines dates machine entries lines) line ∷ []
  replies_push entries [] line = refl
  replies_push entries (first ∷ lines) line =
      ap (λ given. reply_to dates machine entries first ∷ given) (replies_push (line_after dates machine entries first.call) lines line)

  -- what was given, and the entries, after some lines
  abbrev pub Worked : List (Line D) → List Reply → List (Entry D) → Type 0
  Worked lines given new = (given ≡ replies dates machine [] lines) × (new ≡ after_lines dates machine [] lines)

  pub worked_more : (new new' : List (Entry D)) (lines : List (Line D)) (i : ℕ) (line : Line D) (given given' : List Reply) (reply : Reply) → i < length lines → line ≡ get_or lines i line → given' ≡ given ++ reply ∷ [] → Replied dates machine new line reply new' → Worked (take i lines) given new → Worked (take (i + 1) lines) given' new'
  worked_more new new' lines i line given given' reply within is more (replied, changed) (gave, became) =
      let longer : take (i + 1) lines ≡ take i lines ++ line ∷ [] = take_more lines i line within ∙ ap (λ x. take i lines ++ x ∷ []) (sym is) in
      rw (longer, replies_push, fold_push, more) (
        (λ j. gave j ++ (replied ∙ ap (λ xs. reply_to dates machine xs line) became) j ∷ []),
        changed ∙ ap (λ xs. line_after dates machine xs line.call) became,
      )

  ordered_line : Lawful dates → (entries : List (Entry D)) (call : Result (Call D) NoSuchDate) → InBookOrder dates entries → InBookOrder dates (line_after dates machine entries call)
  ordered_line lawful entries (Ok call) h = ordered_after dates lawful machine entries call h
  ordered_line lawful entries (Err fault) h = h

  ordered_lines : Lawful dates → (entries : List (Entry D)) (lines : List (Line D)) → InBookOrder dates entries → InBookOrder dates (after_lines dates machine entries lines)
  ordered_lines lawful entries [] h = h
  ordered_lines lawful entries (line ∷ lines) h =
      ordered_lines lawful (line_after dates machine entries line.call) lines (ordered_line lawful entries line.call h)

  -- the entries after lines that begin with none are in book order
  pub in_order : Lawful dates → (lines : List (Line D)) → InBookOrder dates (after_lines dates machine [] lines)
  in_order lawful lines = ordered_lines lawful [] lines (record { sorted = tt; numbered = tt })
