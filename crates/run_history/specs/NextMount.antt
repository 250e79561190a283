-- How the mounts of a run follow each other.
use Rattle.std.specs.Prelude.{◌≡◌, ◌≤◌, ◌+◌, ◌*◌, ◌%◌, ⊤, ℕ, List, [], ◌∷◌, Some, length, slice_get, take}
use Rattle.std.specs.List.{AllByRecursion}
use Rattle.life_limits.specs.declared.TheConstants.{BUCKETS, MAX_ACTORS}
use Rattle.life_table.specs.declared.key.Key.{Key}
use Rattle.life_table.specs.declared.types.Call.{Call}
use Rattle.life_table.specs.declared.types.Reply.TheVariants as reply
use Rattle.life_table.specs.declared.types.Event.TheVariants.{Called}
use Rattle.life_table.specs.declared.types.MountRecord.{MountRecord}
use Rattle.life_table.specs.declared.table.Table.{Table}
use Rattle.life_table.specs.Table.{group_number}
use Rattle.life_table.specs.History.{Leads, changes, frees_of, recovered}
use Rattle.run_history.specs.Mounts.{Ending, MountStory, acknowledged, changes_made, left, never_up, table_after, unmounted}

-- ---- what recovery freed

-- group by group, and in a group bucket by bucket
abbrev pub bucket_rank : Key → ℕ
bucket_rank key = group_number key * BUCKETS + key.number % BUCKETS

abbrev pub AreByBucket : List Key → Type 0
AreByBucket [] = ⊤
AreByBucket (key ∷ keys) = AllByRecursion (λ (later : Key). bucket_rank key ≤ bucket_rank later) keys × AreByBucket keys

-- These keys are what recovery frees of a table, in its order: each free is legal, and no row without links is left.
pub record AreRecovered (start : Table) (keys : List Key) : Type 0 where
  pub leads : Leads start (frees_of MAX_ACTORS keys) (recovered start)
  pub order : AreByBucket keys

-- How much of it is recorded: of a mount that came up all of it, as its first entries; of one that did not a part, from the first on, and nothing else.
abbrev pub RecordsFrees : Ending → List Key → MountRecord → Type 0
RecordsFrees never_up keys story = story.entries ≡ frees_of MAX_ACTORS (take story.freed keys)
RecordsFrees left keys story = take story.freed story.entries ≡ frees_of MAX_ACTORS keys
RecordsFrees unmounted keys story = take story.freed story.entries ≡ frees_of MAX_ACTORS keys

abbrev pub Recovers : MountStory → Type 0
Recovers m = (keys : List Key) × AreRecovered m.start keys × RecordsFrees m.ending keys m.story

-- ---- one mount behind the other

-- The first mount begins from the first image's table, and its changes are numbered from the image's next commit number on.
pub record BeginsFirst (first : Table) (number : ℕ) (m : MountStory) : Type 0 where
  pub start : m.start ≡ first
  pub kept : m.story.kept ≡ 0
  pub base : m.story.base ≡ number

-- A mount begins from the table after the first so many changes of the one before it: at least those that were acknowledged, and at most all. The numbers of changes go
-- on behind these.
pub record BeginsBehind (m next : MountStory) : Type 0 where
  pub start : next.start ≡ table_after m next.story.kept
  pub acknowledged : acknowledged m ≤ next.story.kept
  pub made : next.story.kept ≤ changes_made m.story
  pub base : next.story.base ≡ m.story.base + next.story.kept

abbrev pub FollowOn : MountStory → List MountStory → Type 0
FollowOn m [] = ⊤
FollowOn m (next ∷ later) = BeginsBehind m next × FollowOn next later

abbrev pub Follow : Table → ℕ → List MountStory → Type 0
Follow first number [] = ⊤
Follow first number (m ∷ later) = BeginsFirst first number m × FollowOn m later

-- ---- what a sync acknowledges

-- A sync's answer counts at least the changes that were there as the sync began, and at most those before its entry.
pub record IsAcknowledgedRight (story : MountRecord) : Type 0 where
  pub least : (i begin actor durable : ℕ) (made : Call) → slice_get story.entries i ≡ Some (record { actor = actor; event = Called made (reply.Covered durable) })
      → slice_get story.froms i ≡ Some begin → length (changes (take begin story.entries)) ≤ durable
  pub most : (i actor durable : ℕ) (made : Call) → slice_get story.entries i ≡ Some (record { actor = actor; event = Called made (reply.Covered durable) })
      → durable ≤ length (changes (take i story.entries))

-- The mounts of a run follow each other so.
pub record NextMount (first : Table) (number : ℕ) (mounts : List MountStory) : Type 0 where
  pub follow : Follow first number mounts
  pub recover : AllByRecursion Recovers mounts
  pub durable : AllByRecursion (λ (m : MountStory). IsAcknowledgedRight m.story) mounts
