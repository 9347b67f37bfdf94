use Rattle.std.proofs.Common.{◌≡◌, ◌++◌, take, string_bytes, codes}
use Rattle.std.specs.List.{flat_map}
use Rattle.replies.specs.Replies.{reply_text}
use Rattle.replies.proofs.transcript.print_replies.Given as goal

abbrev pub invariant-loop-reply : goal.invariant-loop-reply
invariant-loop-reply l = string_bytes l.text ≡ flat_map (λ reply. reply_text reply ++ codes "\n") (take l.reply-index l.replies)
