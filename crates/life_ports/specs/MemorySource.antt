-- A source in memory: the bytes that are left, and its plan of faults.
use Rattle.std.specs.Prelude.{◌≡◌, ℕ, List, ◌++◌, length, take, drop, min}
use Rattle.life_ports.specs.FaultPlan.{Plan, plan_after_call}

pub record SourceState : Type 0 where
  pub left : List ℕ
  pub plan : Plan

-- a read gave n bytes: as many as fit into the piece and are left, at its front
pub record GivesBytes (old new : SourceState) (piece filled : List ℕ) (n : ℕ) : Type 0 where
  pub count : n ≡ min (length piece) (length old.left)
  pub front : filled ≡ take n old.left ++ drop n piece
  pub left : new.left ≡ drop n old.left
  pub plan : new.plan ≡ plan_after_call old.plan
