use Rattle.memory_player.proofs.Vectors.{vectors_follow}
use Rattle.memory_player.proofs.laws.vectors_follow_their_rule.Goals as goal

pub returns : goal.returns
returns c = vectors_follow
