use Rattle.std.proofs.Common.{◌≡◌, map}
use Rattle.std.specs.List.{range_with_len}
use Rattle.result_lines.specs.Ranks.{rank_of}
use Rattle.result_lines.proofs.ranking.ranks.Given as goal

abbrev pub invariant-loop-i : goal.invariant-loop-i
invariant-loop-i l = l.ranks.items ≡ map (rank_of l.spans) (range_with_len 0 l.i)
