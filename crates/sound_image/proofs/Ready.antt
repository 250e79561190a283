-- What a group of a table that can be encoded is known to be.
use Rattle.std.proofs.Common.{◌≡◌, ◌<◌, ◌≤◌, ◌*◌, ◌%◌, ℕ, Bool, true, false, cond, List, [], Option, None, Some, length, map, eqb, refl, ap, sym, subst, ◌∙◌, arith}
use Rattle.std.specs.Prelude.{◌&&◌}
use Rattle.std.specs.List.{AllByRecursion}
use Rattle.std.proofs.lemmas.Bool.{and_parts, and_from, eqb-true, eq-eqb, ne_eqb, cond-true, false≢true}
use Rattle.std.proofs.lemmas.List.Elements.{All-from_recursion}
use Rattle.life_bytes.specs.declared.sector.Sector.{Sector}
use Rattle.geometry.specs.declared.shape.Geometry.{Geometry}
use Rattle.geometry.specs.Places.{group_sectors}
use Rattle.inode_core.specs.Reading.{CoresAreRead}
use Rattle.extent_fork.specs.Reading.{ForksAreRead}
use Rattle.ag_header.specs.Reading.{HeadersAreRead}
use Rattle.inobt_leaf.specs.PageLaws.{PagesAreRead}
use Rattle.inobt_leaf.specs.Chunks.{IsLeaf}
use Rattle.free_map.specs.Bitmap.{BitsAreHeld}
use Rattle.life_table.specs.declared.types.Row.{Row}
use Rattle.life_table.specs.declared.table.Inode.{Inode}
use Rattle.life_table.specs.declared.table.Table.{Table}
use Rattle.life_table.specs.Table.{Group, group_at, inode_in}
use Rattle.life_table.specs.Space.{times}
use Rattle.life_table.specs.WellFormed.{IsGroup}
use Rattle.sound_image.specs.Encoding.{page_place, Layouts, CanEncode, bucket_list, is_unlinked, is_unlinked_row, chunk_record}
use Rattle.sound_image.proofs.Groups.{InData, all_in_data, in_range}
use Rattle.sound_image.proofs.Leaves.{leaf_right}

-- the laws of the formats below
pub record Lower : Type 0 where
  pub cores : CoresAreRead
  pub headers : HeadersAreRead
  pub pages : PagesAreRead
  pub forks : ForksAreRead
  pub bits : BitsAreHeld

pub record IsReady (g : Geometry) (t : Table) (layouts : Layouts) (image : List Sector) (group : ℕ) : Type 0 where
  pub below : group < g.groups
  pub small : group < 16
  pub least : 64 ≤ g.blocks
  pub most : g.blocks ≤ 16384
  pub uuid : length g.uuid ≡ 16
  pub size : g.groups * group_sectors g ≤ length image
  pub is_group : IsGroup g.blocks (group_at t group)
  pub data_of : AllByRecursion (InData g.blocks) (group_at t group)
  pub page_low : 16 ≤ page_place layouts group
  pub page_high : page_place layouts group ≤ 136
  pub leaf : IsLeaf (map chunk_record (group_at t group))
  pub members : (bucket agino : ℕ) → bucket < 64
      → times agino (bucket_list layouts group bucket) ≡ cond (eqb (agino % 64) bucket && is_unlinked (inode_in (group_at t group) agino)) 1 0

page_range : (g : Geometry) (t : Table) (layouts : Layouts) (image : List Sector) (group : ℕ) → CanEncode g t layouts image → group < length t.groups
    → (16 ≤ page_place layouts group) × (page_place layouts group ≤ 136)
unfolding page_place
page_range g t layouts image group can lt = let range = can.layouts_of.pages group lt in (omega (arith, range.0), omega (arith, range.1))

pub ready : (g : Geometry) (t : Table) (layouts : Layouts) (image : List Sector) (group : ℕ) → CanEncode g t layouts image → group < g.groups → IsReady g t layouts image group
ready g t layouts image group can lt =
    let few = can.shape.blocks in
    let many = can.shape.groups in
    let same = can.groups in
    let is : IsGroup g.blocks (group_at t group) = subst (λ (n : ℕ). IsGroup n (group_at t group)) can.blocks (All-from_recursion (IsGroup t.blocks) t.groups can.table.groups group [] (omega arith)) in
    let data_of : AllByRecursion (InData g.blocks) (group_at t group) = all_in_data g.blocks (group_at t group) is.chunks is.data_blocks in
    record {
      below = lt;
      small = omega arith;
      least = few.0;
      most = few.1;
      uuid = can.shape.uuid;
      size = can.size;
      is_group = is;
      data_of = data_of;
      page_low = (page_range g t layouts image group can (omega arith)).0;
      page_high = (page_range g t layouts image group can (omega arith)).1;
      leaf = leaf_right g.blocks (group_at t group) few.1 is.few is.chunks data_of is.ascends;
      members = λ bucket agino low. can.layouts_of.buckets group bucket agino (omega arith) low;
    }

-- ---- members of layouts

pub record Unlinked (group : Group) (agino : ℕ) : Type 0 where
  pub inode : Inode
  pub row : Row
  pub found : inode_in group agino ≡ Some inode
  pub live : inode.row ≡ Some row
  pub no_links : row.links ≡ 0

unlinked_row : (o : Option Row) → is_unlinked_row o ≡ true → (row : Row) × (o ≡ Some row) × (row.links ≡ 0)
unlinked_row None e = absurd (false≢true e)
unlinked_row (Some row) e = (row, refl, eqb-true row.links 0 e)

unlinked_inode : (o : Option Inode) → is_unlinked o ≡ true → (inode : Inode) × (row : Row) × (o ≡ Some inode) × (inode.row ≡ Some row) × (row.links ≡ 0)
unlinked_inode None e = absurd (false≢true e)
unlinked_inode (Some inode) e = let r = unlinked_row inode.row e in (inode, r.0, refl, r.1, r.2)

pub unlinked : (group : Group) (agino : ℕ) → is_unlinked (inode_in group agino) ≡ true → Unlinked group agino
unlinked group agino e = let r = unlinked_inode (inode_in group agino) e in record { inode = r.0; row = r.1; found = r.2; live = r.3; no_links = r.4 }

pub is_unlinked_again : (group : Group) (agino : ℕ) (inode : Inode) (row : Row) → inode_in group agino ≡ Some inode → inode.row ≡ Some row → row.links ≡ 0
    → is_unlinked (inode_in group agino) ≡ true
is_unlinked_again group agino inode row found live nil =
    ap is_unlinked found ∙ ap is_unlinked_row live ∙ eq-eqb row.links 0 nil

pub is_linked : (group : Group) (agino : ℕ) (inode : Inode) (row : Row) → inode_in group agino ≡ Some inode → inode.row ≡ Some row → (row.links ≡ 0 → ⊥)
    → is_unlinked (inode_in group agino) ≡ false
is_linked group agino inode row found live some =
    ap is_unlinked found ∙ ap is_unlinked_row live ∙ ne_eqb row.links 0 some

pub record Member (group : Group) (bucket agino : ℕ) : Type 0 where
  pub own : agino % 64 ≡ bucket
  pub unlinked : Unlinked group agino

test_true : (b : Bool) → 1 ≤ cond {A = ℕ} b 1 0 → b ≡ true
test_true true h = refl
test_true false h = absurd (omega arith)

pub member : (g : Geometry) (t : Table) (layouts : Layouts) (image : List Sector) (group bucket agino : ℕ) → IsReady g t layouts image group → bucket < 64
    → 1 ≤ times agino (bucket_list layouts group bucket) → Member (group_at t group) bucket agino
member g t layouts image group bucket agino r low some =
    let test = eqb (agino % 64) bucket && is_unlinked (inode_in (group_at t group) agino) in
    let both = and_parts (eqb (agino % 64) bucket) (is_unlinked (inode_in (group_at t group) agino)) (test_true test (subst (λ (n : ℕ). 1 ≤ n) (r.members bucket agino low) some)) in
    record { own = eqb-true (agino % 64) bucket both.0; unlinked = unlinked (group_at t group) agino both.1 }

pub member_range : (g : Geometry) (t : Table) (layouts : Layouts) (image : List Sector) (group bucket agino : ℕ) → IsReady g t layouts image group → bucket < 64
    → 1 ≤ times agino (bucket_list layouts group bucket) → (192 ≤ agino) × (agino < g.blocks * 8)
member_range g t layouts image group bucket agino r low some =
    let m = (member g t layouts image group bucket agino r low some).unlinked in
    in_range g.blocks (group_at t group) agino m.inode r.data_of m.found

pub member_once : (g : Geometry) (t : Table) (layouts : Layouts) (image : List Sector) (group bucket agino : ℕ) → IsReady g t layouts image group → bucket < 64
    → times agino (bucket_list layouts group bucket) ≤ 1
member_once g t layouts image group bucket agino r low = at_most (eqb (agino % 64) bucket && is_unlinked (inode_in (group_at t group) agino)) (r.members bucket agino low)
  where
    at_most : {n : ℕ} (b : Bool) → n ≡ cond b 1 0 → n ≤ 1
    at_most true e = omega arith
    at_most false e = omega arith

-- a number without links is in the list of its bucket
pub unlinked_listed : (g : Geometry) (t : Table) (layouts : Layouts) (image : List Sector) (group agino : ℕ) → IsReady g t layouts image group
    → is_unlinked (inode_in (group_at t group) agino) ≡ true → times agino (bucket_list layouts group (agino % 64)) ≡ 1
unlinked_listed g t layouts image group agino r e =
    r.members (agino % 64) agino (omega arith)
    ∙ cond-true (eqb (agino % 64) (agino % 64) && is_unlinked (inode_in (group_at t group) agino)) 1 0 (and_from _ _ (eq-eqb (agino % 64) (agino % 64) refl) e)

pub linked_not_listed : (g : Geometry) (t : Table) (layouts : Layouts) (image : List Sector) (group agino : ℕ) → IsReady g t layouts image group
    → is_unlinked (inode_in (group_at t group) agino) ≡ false → times agino (bucket_list layouts group (agino % 64)) ≡ 0
linked_not_listed g t layouts image group agino r e =
    r.members (agino % 64) agino (omega arith) ∙ none (eqb (agino % 64) (agino % 64)) (is_unlinked (inode_in (group_at t group) agino)) e
  where
    none : (a b : Bool) → b ≡ false → cond {A = ℕ} (a && b) 1 0 ≡ 0
    none true true h = absurd (false≢true (sym h))
    none true false h = refl
    none false b h = refl
