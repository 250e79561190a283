-- How many faults of the device the answers of a run tell of, and what the device has counted.
use Rattle.std.specs.Prelude.{◌+◌, ◌-◌, ◌^◌, ◌≤◌, ℕ, Bool, true, false, List, min}
use Rattle.std.specs.List.{count_by}
use Rattle.life_table.specs.declared.types.MountRecord.{MountRecord}
use Rattle.script.specs.declared.answers.Said.{Said}
use Rattle.run_faults.specs.News.{News, news_of}
use Rattle.run_faults.specs.News as news

-- news of a call of the device that failed
abbrev pub is_fault : News → Bool
is_fault news.read_fails = true
is_fault news.write_fails = true
is_fault news.flush_fails = true
is_fault _ = false

-- how many of these answers tell of one
abbrev pub faults_told : List MountRecord → List Said → ℕ
faults_told mounts said = count_by (λ (one : Said). is_fault (news_of mounts one)) said

-- The count rose so often at least, or stands at its last value.
abbrev pub RoseBy : ℕ → ℕ → ℕ → Type 0
RoseBy times before now = min (before + times) (2 ^ 64 - 1) ≤ now

-- The device counted at least as many faults as are told.
abbrev pub TellsOfFaults : List MountRecord → List Said → ℕ → ℕ → Type 0
TellsOfFaults mounts said before now = RoseBy (faults_told mounts said) before now
