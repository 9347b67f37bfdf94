use Rattle.std.proofs.Common.{◌≡◌, ◌+◌, ◌-◌, List, [], ◌∷◌, Ok, Err, Result, length, filter, is_ok, is_err, count_by, refl, arith, rules}
use Rattle.std.proofs.lemmas.List.Sums.{length-filter}
use Rattle.book.specs.declared.call.Accepted.{Accepted}
use Rattle.book.specs.declared.refusal.Refusal.{Refusal}
use Rattle.replies.specs.declared.reply.Reply.{Reply}
use Rattle.replies.proofs.work.count.Goals as goal

-- each reply accepts or refuses
module _ (reply : Reply) (given : List Reply) (all : length (filter (λ r. is_ok r.answer) given) + length (filter (λ r. is_err r.answer) given) ≡ length given) where
  one_more : (answer : Result Accepted Refusal) → reply.answer ≡ answer → length (filter (λ r. is_ok r.answer) (reply ∷ given)) + length (filter (λ r. is_err r.answer) (reply ∷ given)) ≡ length (reply ∷ given)
  one_more (Ok x) is = rw is (omega arith)
  one_more (Err x) is = rw is (omega arith)

accepted_or_refused : (given : List Reply) → length (filter (λ r. is_ok r.answer) given) + length (filter (λ r. is_err r.answer) given) ≡ length given
accepted_or_refused [] = refl
accepted_or_refused (reply ∷ given) = one_more reply given (accepted_or_refused given) reply.answer refl

pub returns : goal.returns
returns c =
    let replies = c.args.replies.now in
    let accepted : c.count-accepted.result ≡ count_by (λ reply. is_ok reply.answer) replies = search rules in
    let refused : length replies - c.count-accepted.result ≡ count_by (λ reply. is_err reply.answer) replies =
    omega (arith, accepted_or_refused replies, accepted, length-filter (λ (r : Reply). is_ok r.answer) replies, length-filter (λ (r : Reply). is_err r.answer) replies) in
    λ j. record { calls = length replies; accepted = accepted j; refused = refused j }
