-- How the count of an object's faults goes on: it never falls, and a call fails only where it rises.
use Rattle.std.specs.Prelude.{◌≡◌, ℕ, ◌+◌, ◌-◌, ◌^◌, ◌≤◌, min, Result, OnErr, IsErrOf, MatchResult}
use Rattle.life_ports.specs.declared.errors.Failed as failure
use Rattle.life_ports.specs.declared.errors.Refused.{Refused}
use Rattle.life_ports.specs.declared.errors.Refused.TheVariants.{Failed}

-- the next value of a count, which stands still at the end of its type
abbrev pub next_count : ℕ → ℕ
next_count n = min (n + 1) (2 ^ 64 - 1)

-- the count is no less than before
abbrev pub NeverFalls : ℕ → ℕ → Type 0
NeverFalls before now = before ≤ now

-- the count rose, or stands at its last value
abbrev pub Rose : ℕ → ℕ → Type 0
Rose before now = next_count before ≤ now

-- a call failed only where its object's count rose in the call
pub record HasCause {T : Type 0} (result : Result T failure.Failed) (before now : ℕ) : Type 0 where
  pub never_falls : NeverFalls before now
  pub failed : OnErr result (Rose before now)

-- the same of a call that may also lack memory, which is no fault of the object
pub record HasCauseOrNoMemory {T : Type 0} (result : Result T Refused) (before now : ℕ) : Type 0 where
  pub never_falls : NeverFalls before now
  pub failed : IsErrOf result Failed → Rose before now

-- what an object does that counts its failures and nothing else
abbrev pub CountsFailure : {T : Type 0} → Result T failure.Failed → ℕ → ℕ → Type 0
CountsFailure result before now = MatchResult result (λ _. now ≡ before) (λ _. now ≡ next_count before)
