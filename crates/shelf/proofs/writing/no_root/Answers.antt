use Rattle.std.proofs.Common.{arith}
use Rattle.shelf.proofs.Sounds.{nothing_sound}
use Rattle.shelf.proofs.writing.no_root.Goals as goal

pub returns : goal.returns
returns g c = record { sound = λ summed slots short. nothing_sound g.S.Summary.model summed g.D.Date.model g.met.D.Date.lawful slots _ (omega arith) }
