-- The rule of the queue: of each group, what was popped and then what waits is what its committer pushed.
use Rattle.std.specs.Prelude.{◌≡◌, ℕ, ◌^◌, ◌<◌, ◌≤◌, true, List, [], ◌∷◌, ◌++◌, All, length}
use mathlib.Core.Option.{some}
use lib.ListN.{get_elem?}
use Rattle.log_record.specs.declared.image.Commit.{Commit}
use Rattle.commit_queue.specs.declared.known.Stream.{Stream}
use Rattle.commit_queue.specs.declared.known.Known.{Known}
use Rattle.commit_queue.specs.Streams.{commits_of, AreTakenOrQueued, stream, taker_knows}

-- A stream is known at one end alone, and its group has a committer.
pub record IsStreamAt (pushed : List Commit) (groups : ℕ) (seat : ℕ → ℕ) (id : ℕ) (s : Stream) : Type 0 where
  pub here : id ≡ seat s.group
  pub made : s.group < groups
  pub whole : s.pushed ≡ commits_of s.group pushed

-- What is true of the end with the number id.
pub record IsEnd (taken pushed : List Commit) (groups taker : ℕ) (seat : ℕ → ℕ) (id : ℕ) (v : Known) : Type 0 where
  pub takes : v.takes ≡ true → (id ≡ taker) × (v.taken ≡ taken) × (v.groups ≡ groups)
  pub streams : All (IsStreamAt pushed groups seat id) v.streams

-- `pushed` are the commits of all groups, in the order of the pushes. `seat` is the end that knows a group's stream.
pub record Queued (items : List Commit) (ends : List Known) : Type 0 where
  pub taken : List Commit
  pub pushed : List Commit
  pub groups : ℕ
  pub taker : ℕ
  pub seat : ℕ → ℕ
  pub whole : pushed ≡ taken ++ items
  pub unmade : (group : ℕ) → groups ≤ group → commits_of group pushed ≡ []
  pub few : (group : ℕ) → length (commits_of group pushed) < 2 ^ 64
  pub each_end : (id : ℕ) (v : Known) → get_elem? ends id ≡ some v → IsEnd taken pushed groups taker seat id v

-- what a push tells the committer
abbrev pub Pushed : Known → Commit → Known → Type 0
Pushed v x w =
    (s : Stream) × (v.streams ≡ s ∷ []) × (w ≡ record v { streams = stream s.group (s.pushed ++ x ∷ []) ∷ [] })

-- what a pop tells the taker
pub record Popped (v : Known) (x : Commit) (w : Known) : Type 0 where
  pub taken : w ≡ taker_knows v.streams v.groups (v.taken ++ x ∷ [])
  pub group : x.group < v.groups
  pub few : length (commits_of x.group (v.taken ++ x ∷ [])) < 2 ^ 64
  pub queued : (items : List Commit) × AreTakenOrQueued v.streams (v.taken ++ x ∷ []) items
