-- Faults on a plan.
use Rattle.std.specs.Prelude.{ℕ, List, Contains}
use Rattle.life_ports.specs.Faults.{next_count}

-- the calls that are to fail, counted from 1, how many calls there have been, and the count of faults
pub record Plan : Type 0 where
  pub fails : List ℕ
  pub calls : ℕ
  pub faults : ℕ

-- the next call is one of those that are to fail
abbrev pub FailsNext : Plan → Type 0
FailsNext plan = Contains plan.fails (next_count plan.calls)

-- one call more
abbrev pub plan_after_call : Plan → Plan
plan_after_call plan = record plan { calls = next_count plan.calls }

-- one fault more
abbrev pub after_fault : Plan → Plan
after_fault plan = record plan { faults = next_count plan.faults }
