-- A sink in memory: the bytes that it holds, and its plan of faults.
use Rattle.std.specs.Prelude.{ℕ, List}
use Rattle.life_ports.specs.FaultPlan.{Plan}

pub record SinkState : Type 0 where
  pub held : List ℕ
  pub plan : Plan
