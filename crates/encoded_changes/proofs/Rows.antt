-- An inode that changes together with its bucket, and groups that are replaced.
use Rattle.std.proofs.Common.{◌≡◌, ◌<◌, ◌%◌, ◌⊎◌, ℕ, List, [], Some, length, inl, inr, ◌∙◌}
use Rattle.std.specs.Prelude.{◌≢◌, is_none}
use Rattle.std.proofs.lemmas.List.{get_or-set_same, get_or-set_other, length-set}
use Rattle.life_limits.specs.declared.TheConstants.{BUCKETS}
use Rattle.life_bytes.specs.declared.sector.Sector.{Sector}
use Rattle.geometry.specs.declared.shape.Geometry.{Geometry}
use Rattle.life_table.specs.declared.table.Inode.{Inode}
use Rattle.life_table.specs.declared.table.Table.{Table}
use Rattle.life_table.specs.Table.{Group, group_at, inode_in, set_inode, with_group}
use Rattle.life_table.specs.WellFormed.{IsTable}
use Rattle.sound_image.specs.Places.{header_place}
use Rattle.sound_image.specs.Encoding.{Layouts, AreLayouts, CanEncode, head_of, layout_of, bucket_list, next_in}
use Rattle.encoded_changes.specs.Carry.{ChangesOnly, Stays}
use Rattle.encoded_changes.specs.Changes.{HaveSameBlocks, IsOfBitmap, IsOfPage}
use Rattle.encoded_changes.proofs.Listed.{FirstPut, OutTaken}
use Rattle.encoded_changes.proofs.Inodes.{inode_touches}
use Rattle.encoded_changes.proofs.Buckets.{put_touches, taken_touches}

-- the inode first, and then its bucket
pub row_put : (g : Geometry) (layouts others : Layouts) (group : ℕ) (chunks : Group) (agino : ℕ) (old new : Inode) (place : ℕ)
    → FirstPut layouts others group agino → inode_in chunks agino ≡ Some old → place ≢ agino → place ≢ header_place
    → (is_none new.row ≡ is_none old.row) ⊎ ¬ IsOfPage layouts group place
    → HaveSameBlocks old new ⊎ ¬ IsOfBitmap place
    → Stays g group layouts chunks others (set_inode chunks agino new) place
row_put g layouts others group chunks agino old new place puts at apart no_header uses blocks =
    put_touches g layouts others group (set_inode chunks agino new) agino place puts apart no_header
    ∙ inode_touches g layouts group chunks agino old new place at apart (elim uses [
      | inl same ↦ inl same
      | inr no_page ↦ inr (no_header, no_page)
    ]) blocks

pub row_taken : (g : Geometry) (layouts others : Layouts) (group : ℕ) (chunks : Group) (agino : ℕ) (old new : Inode) (place : ℕ)
    → OutTaken layouts others group agino → inode_in chunks agino ≡ Some old → place ≢ agino
    → (place ≢ header_place) ⊎ (head_of (bucket_list layouts group (agino % BUCKETS)) ≢ agino)
    → next_in (bucket_list layouts group (agino % BUCKETS)) place ≢ agino
    → (is_none new.row ≡ is_none old.row) ⊎ ((place ≢ header_place) × ¬ IsOfPage layouts group place)
    → HaveSameBlocks old new ⊎ ¬ IsOfBitmap place
    → Stays g group layouts chunks others (set_inode chunks agino new) place
row_taken g layouts others group chunks agino old new place out at apart header no_pointer uses blocks =
    taken_touches g layouts others group (set_inode chunks agino new) agino place out apart header no_pointer
    ∙ inode_touches g layouts group chunks agino old new place at apart uses blocks

-- ---- a group that is replaced

pub own_group : (t : Table) (group : ℕ) (chunks : Group) → group < length t.groups → group_at (with_group t group chunks) group ≡ chunks
own_group t group chunks lt = get_or-set_same t.groups group chunks [] lt

pub other_group : (t : Table) (group other : ℕ) (chunks : Group) → other ≢ group → group_at (with_group t group chunks) other ≡ group_at t other
other_group t group other chunks apart = get_or-set_other t.groups group other chunks [] apart

pub changes_only : (t : Table) (layouts others : Layouts) (group : ℕ) (chunks : Group) → ((other : ℕ) → other ≢ group → layout_of others other ≡ layout_of layouts other)
    → ChangesOnly group t layouts (with_group t group chunks) others
changes_only t layouts others group chunks same = record { chunks = λ other apart. other_group t group other chunks apart; layouts_of = same }

pub encodes_next : (g : Geometry) (t : Table) (layouts others : Layouts) (image : List Sector) (group : ℕ) (chunks : Group) → CanEncode g t layouts image
    → IsTable (with_group t group chunks) → AreLayouts (with_group t group chunks) others → CanEncode g (with_group t group chunks) others image
encodes_next g t layouts others image group chunks can table layouts_of =
    record { shape = can.shape; table = table; groups = length-set t.groups group chunks ∙ can.groups; blocks = can.blocks; layouts_of = layouts_of; size = can.size }
