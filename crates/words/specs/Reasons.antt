-- The words for a line that is no command.
use Rattle.std.specs.Prelude.{ℕ, List, codes}
use Rattle.words.specs.declared.reason.Reason.{Reason}
use Rattle.words.specs.declared.reason.Reason.TheVariants.{UnknownCommand, UnknownKind, LateKind, UnknownOperation, UnknownQuestion, NotDate, NotUnsigned, NotSigned}

abbrev pub explained : Reason → List ℕ
explained UnknownCommand = codes "no such command, or not its number of words"
explained UnknownKind = codes "dates are days or survey"
explained LateKind = codes "the kind of date is named before the first call"
explained UnknownOperation = codes "no such operation, or not its number of words"
explained UnknownQuestion = codes "no such question, or not its number of words"
explained NotDate = codes "not a date of the script's kind"
explained NotUnsigned = codes "not a number from 0 to 65535"
explained NotSigned = codes "not a number from -2147483648 to 2147483647"
