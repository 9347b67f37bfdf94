use Rattle.std.proofs.Common.{refl}
use Rattle.avl.proofs.Depths.{deep_is_large, small_is_shallow}
use Rattle.avl.proofs.levels.most_levels.Goals as goal

pub returns : goal.returns
returns c = record { is = refl; shallow = small_is_shallow; large = deep_is_large }
