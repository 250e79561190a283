-- An image that encodes a table is sound.
use Rattle.std.proofs.Common.{◌≡◌, ℕ, List, Option, None, Some, refl, subst, ◌∙◌, arith}
use Rattle.std.specs.Option.{option_map}
use Rattle.life_bytes.specs.declared.sector.Sector.{Sector}
use Rattle.geometry.specs.declared.shape.Geometry.{Geometry}
use Rattle.life_table.specs.declared.table.Inode.{Inode}
use Rattle.life_table.specs.declared.table.Table.{Table}
use Rattle.life_table.specs.Table.{group_at, inode_in}
use Rattle.sound_image.specs.Places.{bytes_at, sector_in}
use Rattle.sound_image.specs.Damage.{Rule, header, tree, core, fork, blocks, bitmap, pointers, lists, HoldsIn, AreGroupsSound}
use Rattle.sound_image.specs.Encoding.{Layouts, CanEncode, inode_sector, metadata, encoded}
use Rattle.sound_image.proofs.Buckets.{pointers_right, lists_right}
use Rattle.sound_image.proofs.Groups.{in_range}
use Rattle.sound_image.proofs.Headers.{header_right, page_right, counts_right}
use Rattle.sound_image.proofs.Metadata.{at_first}
use Rattle.sound_image.proofs.Ready.{Lower, IsReady, ready}
use Rattle.sound_image.proofs.Right.{core_right, fork_right, blocks_right, bitmap_right}
use Rattle.sound_image.proofs.Sectors.{at_rest}

holds_in : (l : Lower) (g : Geometry) (t : Table) (layouts : Layouts) (image : List Sector) (rule : Rule) (group : ℕ) → IsReady g t layouts image group → HoldsIn g (encoded g t layouts image) rule group
holds_in l g t layouts image header group r = header_right l g t layouts image group r
holds_in l g t layouts image tree group r = (page_right l g t layouts image group r, counts_right l g t layouts image group r)
holds_in l g t layouts image core group r = λ agino inode. core_right l g t layouts image group agino inode r
holds_in l g t layouts image fork group r = λ agino row. fork_right l g t layouts image group agino row r
holds_in l g t layouts image blocks group r = λ agino row. blocks_right l g t layouts image group agino row r
holds_in l g t layouts image bitmap group r = λ k. bitmap_right l g t layouts image group k r
holds_in l g t layouts image pointers group r = λ bucket. pointers_right l g t layouts image group bucket r
holds_in l g t layouts image lists group r = λ agino row. lists_right l g t layouts image group agino row r

pub sound : (l : Lower) (g : Geometry) (t : Table) (layouts : Layouts) (image : List Sector) → CanEncode g t layouts image → AreGroupsSound g (encoded g t layouts image)
sound l g t layouts image can = λ rule group lt. holds_in l g t layouts image rule group (ready g t layouts image group can lt)

-- sector 0 is no inode's
no_first : (o : Option Inode) (f : Inode → List ℕ) → ((x : Inode) → o ≡ Some x → ⊥) → option_map f o ≡ None
no_first None f none = refl
no_first (Some x) f none = absurd (none x refl)

first_place : (g : Geometry) → sector_in g 0 0 ≡ 0
unfolding sector_in
first_place g = omega arith

pub first_stays : (g : Geometry) (t : Table) (layouts : Layouts) (image : List Sector) → CanEncode g t layouts image → bytes_at (encoded g t layouts image) 0 ≡ bytes_at image 0
first_stays g t layouts image can =
    let some = can.shape.groups in
    let few = can.shape.blocks in
    let r = ready g t layouts image 0 can (omega arith) in
    let none : metadata g layouts 0 (group_at t 0) 0 ≡ None =
    at_first g layouts 0 (group_at t 0) r.page_low
    ∙ no_first (inode_in (group_at t 0) 0) (inode_sector g layouts 0 0) (λ x found. omega (arith, in_range g.blocks (group_at t 0) 0 x r.data_of found)) in
    subst (λ (s : ℕ). bytes_at (encoded g t layouts image) s ≡ bytes_at image s) (first_place g) (at_rest g t layouts image 0 0 can.size (omega arith) (omega arith) none)
