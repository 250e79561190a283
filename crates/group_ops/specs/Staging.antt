-- The places of a group whose sectors a change may touch, and the commit of it.
use Rattle.std.specs.Prelude.{◌≡◌, ◌≤◌, ◌+◌, ◌-◌, ◌*◌, ℕ, List, All, length, map, [], ◌∷◌, ◌++◌, Option, None, Some, IfSome, IsSomeAnd, ◌||◌, is_some, if◌then◌else◌}
use Rattle.std.specs.List.{range_with_len}
use Rattle.life_limits.specs.declared.TheConstants.{BLOCK_SECTORS, MAX_IMAGES}
use Rattle.life_bytes.specs.declared.sector.Sector.{Sector}
use Rattle.log_record.specs.declared.image.Commit.{Commit}
use Rattle.log_record.specs.declared.image.Image.{Image}
use Rattle.life_table.specs.declared.table.Table.{Table}
use Rattle.life_table.specs.Table.{group_at, inode_in}
use Rattle.sound_image.specs.Places.{bitmap_sectors, bytes_at, header_place}
use Rattle.sound_image.specs.Encoding.{Layouts, inode_sector}
use Rattle.encoded_changes.specs.Carry.{AreImagesOf, ChangesOnly}
use Rattle.change_images.specs.Candidates.{Candidate, IsCandidate, StagingValue, changed_images}
use Rattle.change_images.specs.Enough.{AreEnough, bitmap_places, chunk_places, in_order}
use Rattle.group_ops.specs.declared.delta.Prior.{Prior}
use Rattle.group_ops.specs.declared.delta.Delta.{Delta}
use Rattle.group_ops.specs.Buffers.{Buffers}
use Rattle.group_ops.specs.Changes.{changed_state}
use Rattle.group_ops.specs.Relinks.{IsPrior}
use Rattle.group_ops.specs.Represents.{IsGroupOf}
use Rattle.group_ops.specs.Values.{StateValue}

-- the header's, where a head or the counts change; all of the bitmap, where a block comes to be free or ceases to be; the page's, where the records change
abbrev pub header_touched : Delta → List ℕ
header_touched d = if is_some d.head || is_some d.space.records then header_place ∷ [] else []

abbrev pub bitmap_touched : Delta → List ℕ
bitmap_touched d = if is_some d.space.free then bitmap_places (range_with_len 0 bitmap_sectors) else []

abbrev pub page_touched : ℕ → Delta → List ℕ
page_touched page d = if is_some d.space.records then range_with_len (BLOCK_SECTORS * page) BLOCK_SECTORS else []

-- those of the inode and of the one before it in its bucket
abbrev pub own_touched : ℕ → Option Prior → List ℕ
own_touched agino None = agino ∷ []
own_touched agino (Some prior) = in_order prior.agino agino

-- those of a new chunk, or of the inodes that change
abbrev pub inodes_touched : Delta → Option Buffers → List ℕ
inodes_touched d None = own_touched d.agino d.prior
inodes_touched d (Some chunk) = chunk_places chunk.start

-- all of them, by ascending place
abbrev pub touched : ℕ → Delta → List ℕ
touched page d = header_touched d ++ (bitmap_touched d ++ (page_touched page d ++ inodes_touched d d.chunk))

-- The change takes the state from its group of one table to its group of another, and the places that it touches are enough for it.
pub record Leads (s : StateValue) (d : Delta) (t : Table) (layouts : Layouts) (u : Table) (others : Layouts) : Type 0 where
  pub before : IsGroupOf s t layouts
  pub after : IsGroupOf (changed_state s d) u others
  pub only : ChangesOnly s.group t layouts u others
  pub prior : IfSome d.prior (IsPrior s t layouts others d.agino)
  pub enough : AreEnough s.geometry s.group layouts (group_at t s.group) others (group_at u s.group) (touched s.page d)

-- it takes the state from its group of some table
abbrev pub LeadsOn : StateValue → Delta → Type 0
LeadsOn s d = (t : Table) × (layouts : Layouts) × (u : Table) × (others : Layouts) × Leads s d t layouts u others

-- The commit of a change: that of the state's group, with exactly the images of how the group changes, no more than a commit may have.
pub record IsCommitOf (s : StateValue) (t : Table) (layouts : Layouts) (u : Table) (others : Layouts) (commit : Commit) : Type 0 where
  pub group : commit.group ≡ s.group
  pub images : AreImagesOf s.geometry s.group layouts (group_at t s.group) others (group_at u s.group) commit.images
  pub few : length commit.images ≤ MAX_IMAGES

-- A change of a state: what it makes anew, and its commit, until that is handed out.
pub record ChangeValue : Type 0 where
  pub delta : Delta
  pub commit : Option Commit

-- the change with its commit handed out
abbrev pub handed_over : ChangeValue → ChangeValue
handed_over change = record { delta = change.delta; commit = None }

-- It takes the state from its group of one table to its group of another, and its commit is that of how the group changes.
pub record Tells (s : StateValue) (change : ChangeValue) (t : Table) (layouts : Layouts) (u : Table) (others : Layouts) : Type 0 where
  pub leads : Leads s change.delta t layouts u others
  pub commit : IsSomeAnd change.commit (IsCommitOf s t layouts u others)

-- The images that are gathered are of the state's group.
pub record IsStagingOf (s : StateValue) (staging : StagingValue) : Type 0 where
  pub geometry : staging.geometry ≡ s.geometry
  pub group : staging.group ≡ s.group

-- the images with those of several candidates more
abbrev pub with_candidates : StagingValue → List Candidate → StagingValue
with_candidates staging cs =
    let more : List Image = changed_images staging.geometry staging.group cs in
    record { geometry = staging.geometry; group = staging.group; images = staging.images ++ more; spare = staging.spare - length more }

-- sectors that follow each other from a place on, before and after a change
abbrev pub candidate_at : ℕ → List Sector → List Sector → ℕ → Candidate
candidate_at place before after k = record { place = place + k; before = Some (bytes_at before k); after = bytes_at after k }

abbrev pub candidates_at : ℕ → List Sector → List Sector → List Candidate
candidates_at place before after = map (candidate_at place before after) (range_with_len 0 (length before))

-- Candidates at these places were pushed, each of which says of its sector what the format says of it, before the change and after it.
pub record Pushes (s : StateValue) (t : Table) (layouts : Layouts) (u : Table) (others : Layouts) (places : List ℕ) (old new : StagingValue) : Type 0 where
  pub candidates : List Candidate
  pub at : map (λ (c : Candidate). c.place) candidates ≡ places
  pub each : All (IsCandidate s.geometry s.group layouts (group_at t s.group) others (group_at u s.group)) candidates
  pub images : new.images ≡ old.images ++ changed_images s.geometry s.group candidates

-- the same of a part of what a change touches, whichever tables it leads from and to
pub record PushesPart (s : StateValue) (d : Delta) (places : List ℕ) (old new : StagingValue) : Type 0 where
  pub own : IsStagingOf s new
  pub room : old.spare ≤ new.spare + length places
  pub pushes : (t : Table) (layouts : Layouts) (u : Table) (others : Layouts) → Leads s d t layouts u others → Pushes s t layouts u others places old new

-- an inode of the group as the change leaves it
abbrev pub IsAfter : StateValue → Delta → ℕ → List ℕ → Type 0
IsAfter s d agino bytes = (t : Table) (layouts : Layouts) (u : Table) (others : Layouts) → Leads s d t layouts u others
    → IsSomeAnd (inode_in (group_at u s.group) agino) (λ inode. bytes ≡ inode_sector s.geometry others s.group agino inode)
