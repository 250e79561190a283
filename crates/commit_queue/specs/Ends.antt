-- What is seen of the ends of the queue.
use Rattle.std.specs.Prelude.{◌≡◌, ℕ, ◌<◌, List, [], length, slice_get, Some, slice_index}
use Rattle.std.specs.declared.alloc.Global.{Global}
use Rattle.crossbeam_queue.specs.SegTies.{SegId}
use Rattle.log_record.specs.declared.image.Commit.{Commit}
use Rattle.commit_queue.specs.declared.known.Stream.{Stream}
use Rattle.commit_queue.specs.declared.known.Known.{Known}
use Rattle.commit_queue.specs.Streams.{commits_of, committer_knows, taker_knows, first_pushed}

-- a group's committer: the queue, the group, and what was pushed by it
pub record CommitterState : Type 0 where
  pub queue : SegId Global
  pub group : ℕ
  pub pushed : List Commit

-- the taker: the queue, its number of groups, what was taken, and the streams of the committers that were taken in
pub record TakerState : Type 0 where
  pub queue : SegId Global
  pub groups : ℕ
  pub taken : List Commit
  pub streams : List Stream

-- each group has its committer, all have one queue, and nothing was pushed or taken
pub record AreNewEnds (groups : ℕ) (committers : List CommitterState) (taker : TakerState) : Type 0 where
  pub one_each : length committers ≡ groups
  pub new : (g : ℕ) → g < groups
      → slice_get committers g ≡ Some (record { queue = taker.queue; group = g; pushed = [] })
  pub idle : taker ≡ record { queue = taker.queue; groups = groups; taken = []; streams = [] }

-- the count of each group is that of its commits
abbrev pub AreCounts : List ℕ → List Commit → Type 0
AreCounts counts taken = (g : ℕ) → g < length counts → slice_index counts g ≡ length (commits_of g taken)

abbrev pub committer_state : SegId Global → ℕ → Known → CommitterState
committer_state queue group v = record { queue = queue; group = group; pushed = first_pushed v.streams }

-- a committer of a group knows the group's stream, and its length
pub record IsCommitter (group pushes : ℕ) (v : Known) : Type 0 where
  pub knows : v ≡ committer_knows group (first_pushed v.streams)
  pub length_is : pushes ≡ length (first_pushed v.streams)

abbrev pub taker_state : SegId Global → List ℕ → Known → TakerState
taker_state queue counts v = record { queue = queue; groups = length counts; taken = v.taken; streams = v.streams }

-- a taker has a count for each group
pub record IsTaker (counts : List ℕ) (v : Known) : Type 0 where
  pub knows : v ≡ taker_knows v.streams (length counts) v.taken
  pub counts_are : AreCounts counts v.taken
