-- What a call sees and changes.
use Rattle.std.specs.Prelude.{ℕ, List, Option}
use Rattle.player_core.specs.State.{BenchState}
use Rattle.lab_ports.specs.Holding.{Holding}

-- the bench, what the library tells that it holds, the names that it was asked for, its faults, what the output has taken, and its
-- faults
pub record World : Type 0 where
  pub bench : BenchState
  pub holding : Option Holding
  pub asked : List (List ℕ)
  pub read_faults : ℕ
  pub taken : Option (List ℕ)
  pub write_faults : ℕ
