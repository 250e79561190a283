-- A sound image is the encoding of its table: each of its sectors is what is encoded there.
use Rattle.std.proofs.Common.{◌≡◌, ◌≢◌, ◌<◌, ◌≤◌, ◌+◌, ◌-◌, ◌*◌, ◌/◌, ◌%◌, ℕ, Bool, true, false, cond, eqb, leb, ltb, List, [], Option, None, Some, length, map, get_or, inl, inr, refl, ap, sym, subst, ◌∙◌, arith}
use Rattle.std.specs.Prelude.{is_some, ◌&&◌, unwrap_or, sum_by}
use Rattle.std.specs.Option.{option_map}
use Rattle.std.specs.List.{range_with_len}
use Rattle.std.proofs.lemmas.Bool.{cases_lt, cases_eq, and_parts, and_from, eqb-true, eq-eqb, leb-true, ltb-true, true≢false}
use Rattle.std.proofs.lemmas.List.{same_lists, get_or_default}
use Rattle.std.proofs.lemmas.List.FromFn.{length-map-range_with_len, get_or-map-range_with_len}
use Rattle.std.proofs.lemmas.Nat.{div_below, div-add-mod', mod_below}
use Rattle.life_bytes.specs.declared.sector.Sector.{Sector}
use Rattle.geometry.specs.declared.shape.Geometry.{Geometry}
use Rattle.geometry.specs.Places.{group_sectors, number_in}
use Rattle.geometry.specs.Shape.{IsGeometry}
use Rattle.inode_core.specs.declared.shape.Core.{Core}
use Rattle.inode_core.specs.Cores.{fork_of}
use Rattle.inode_core.specs.Cores.{core_encoding}
use Rattle.extent_fork.specs.Forks.{fork as fork_bytes}
use Rattle.extent_fork.specs.Reading.{runs_in}
use Rattle.extent_fork.specs.Runs.{runs}
use Rattle.ag_header.specs.declared.agi.Agi.{Agi}
use Rattle.ag_header.specs.Headers.{header_encoding}
use Rattle.inobt_leaf.specs.declared.chunk.ChunkRec.{ChunkRec}
use Rattle.inobt_leaf.specs.Pages.{page_encoding}
use Rattle.free_map.specs.Bitmap.{bitmap}
use Rattle.life_table.specs.declared.types.Row.{Row}
use Rattle.life_table.specs.declared.table.Inode.{Inode}
use Rattle.life_table.specs.declared.table.Table.{Table}
use Rattle.life_table.specs.Table.{Group, group_at, inode_in}
use Rattle.life_table.specs.Space.{times}
use Rattle.life_table.specs.WellFormed.{IsGroup}
use Rattle.life_limits.specs.declared.TheConstants.{NO_INODE}
use Rattle.sound_image.specs.Places.{bytes_at, part, sector_in}
use Rattle.sound_image.specs.Reading.{header_of, page_sector, records_of, inode_bytes, core_of, blocks_in, group_read, row_at, rows_of}
use Rattle.sound_image.specs.Rules.{free_set, IsListed, pointer}
use Rattle.sound_image.specs.Damage.{header, tree, core, fork, bitmap as bitmap_rule, pointers, lists, AreGroupsSound}
use Rattle.sound_image.specs.Encoding.{Layout, Layouts, layout_of, page_of, bucket_list, head_of, next_in, is_unlinked, AreLayouts, header_for, core_for, inode_sector, page_place, page_bytes, metadata, encoded, CanEncode}
use Rattle.sound_image.proofs.Buckets.{head_at, next_none}
use Rattle.sound_image.proofs.Forks.{fork_for, fork_of_none, sector_parts}
use Rattle.sound_image.proofs.Found.{found, inode_found, row_found}
use Rattle.sound_image.proofs.Groups.{all_in_data, in_range}
use Rattle.sound_image.proofs.Headers.{sector_more}
use Rattle.sound_image.proofs.Layouts.{fill, members_of, IsList, is_list, pointer_at, list_once, member_unlinked, listed_member, met_listed, next_listed}
use Rattle.sound_image.proofs.Leaves.{free_sum}
use Rattle.sound_image.proofs.Metadata.{is_bitmap, is_page, chosen, by_tests}
use Rattle.sound_image.proofs.Ready.{Lower, ready, unlinked, is_linked}
use Rattle.sound_image.proofs.Rows.{row_made}
use Rattle.sound_image.proofs.Sectors.{same_image, length-encoded, behind_groups, at_place}
use Rattle.sound_image.proofs.Encoded.{records_again}
use Rattle.sound_image.proofs.Tables.{table_right, group_right, good_group, length_group}

-- ---- the layouts

abbrev HasLayout : (g : Geometry) (image : List Sector) → ℕ → Layout → Type 0
HasLayout g image group layout =
    (layout.page ≡ (header_of g image group).root) × ((bucket : ℕ) → bucket < 64 → IsList g image group bucket (get_or layout.buckets bucket [])) × (length layout.buckets ≡ 64)

one_layout : (g : Geometry) (image : List Sector) (group : ℕ) → AreGroupsSound g image → group < g.groups → (layout : Layout) × HasLayout g image group layout
one_layout g image group sound lt =
    let ends = sound pointers group lt in
    let f =
    fill {X = List ℕ} 64 (λ bucket members. IsList g image group bucket members) (λ bucket low. (members_of g image group bucket (ends bucket low), is_list g image group bucket (ends bucket low))) in
    (record { page = (header_of g image group).root; buckets = f.items }, (refl, λ bucket low. f.each bucket [] low, f.long))

-- what the layouts of an image are
pub record AreRead (g : Geometry) (image : List Sector) (layouts : Layouts) : Type 0 where
  pub long : length layouts ≡ g.groups
  pub lists : (group : ℕ) → group < g.groups → length (layout_of layouts group).buckets ≡ 64
  pub page : (group : ℕ) → group < g.groups → page_of layouts group ≡ (header_of g image group).root
  pub list : (group bucket : ℕ) → group < g.groups → bucket < 64 → IsList g image group bucket (bucket_list layouts group bucket)

pub layouts_read : (g : Geometry) (image : List Sector) → AreGroupsSound g image → (layouts : Layouts) × AreRead g image layouts
unfolding layout_of page_of bucket_list
layouts_read g image sound =
    let f = fill {X = Layout} g.groups (HasLayout g image) (λ group lt. one_layout g image group sound lt) in
    let none : Layout = record { page = 2; buckets = [] } in (
      f.items,
      record {
        long = f.long;
        lists = λ group lt. (f.each group none lt).2;
        page = λ group lt. (f.each group none lt).0;
        list = λ group bucket lt low. (f.each group none lt).1 bucket low;
      },
    )

-- ---- the table's groups

length_groups : (g : Geometry) (image : List Sector) → length (rows_of g image).groups ≡ g.groups
unfolding rows_of
length_groups g image = length-map-range_with_len (group_read g image) 0 g.groups

pub group_of_rows : (g : Geometry) (image : List Sector) (group : ℕ) → group < g.groups → group_at (rows_of g image) group ≡ group_read g image group
unfolding rows_of
group_of_rows g image group lt = get_or-map-range_with_len (group_read g image) 0 g.groups group group [] lt (omega arith)

blocks_of_rows : (g : Geometry) (image : List Sector) → (rows_of g image).blocks ≡ g.blocks
unfolding rows_of
blocks_of_rows g image = refl

-- an inode of a sound group
number_range : (l : Lower) (g : Geometry) (image : List Sector) (group agino : ℕ) (x : Inode) → AreGroupsSound g image → group < g.groups → inode_in (group_read g image group) agino ≡ Some x
    → (192 ≤ agino) × (agino < g.blocks * 8)
number_range l g image group agino x sound lt e =
    let is : IsGroup g.blocks (group_read g image group) = group_right l g image group (good_group g image group sound lt) (sound tree group lt).0 in
    in_range g.blocks (group_read g image group) agino x (all_in_data g.blocks (group_read g image group) is.chunks is.data_blocks) e

times_are : (t : Bool) (n : ℕ) → (t ≡ true → n ≡ 1) → (t ≡ false → n ≡ 0) → n ≡ cond t 1 0
times_are true n yes_one no_one = yes_one refl
times_are false n yes_one no_one = no_one refl

bucket_right : (l : Lower) (g : Geometry) (image : List Sector) (layouts : Layouts) (group bucket agino : ℕ) → IsGeometry g → AreGroupsSound g image → AreRead g image layouts → group < g.groups → bucket < 64
    → times agino (bucket_list layouts group bucket) ≡ cond (eqb (agino % 64) bucket && is_unlinked (inode_in (group_read g image group) agino)) 1 0
bucket_right l g image layouts group bucket agino is sound are lt low =
    let chunks = group_read g image group in
    let members = bucket_list layouts group bucket in
    let list = are.list group bucket lt low in
    let most = is.blocks.1 in
    let once = list_once g image group bucket members list agino in
    times_are (eqb (agino % 64) bucket && is_unlinked (inode_in chunks agino)) (times agino members)
    (λ e.
    let both = and_parts (eqb (agino % 64) bucket) (is_unlinked (inode_in chunks agino)) e in
    let same : agino % 64 ≡ bucket = eqb-true (agino % 64) bucket both.0 in
    let u = unlinked chunks agino both.1 in
    let range = number_range l g image group agino u.inode sound lt u.found in
    let met = (sound lists group lt agino u.row (row_found g image group agino u.inode u.row u.found u.live)).unlinked u.no_links in
    let listed =
    subst (λ (b : ℕ). 1 ≤ times agino (bucket_list layouts group b)) same
    (met_listed g image group agino (bucket_list layouts group (agino % 64)) (λ end. omega (arith, end, range.1, most)) (are.list group (agino % 64) lt (omega arith)) met) in
    omega (arith, listed, once))
    (λ e. elim (cases_lt 0 (times agino members)) [
      | inl some ↦
          let m = listed_member g image group bucket members agino list some in
          absurd (true≢false (sym (and_from (eqb (agino % 64) bucket) (is_unlinked (inode_in chunks agino)) (eq-eqb (agino % 64) bucket m.own_bucket) (member_unlinked g image group agino m.no_links)) ∙ e))
      | inr none ↦ omega arith
    ])

pub are_layouts : (l : Lower) (g : Geometry) (image : List Sector) (layouts : Layouts) → IsGeometry g → AreGroupsSound g image → AreRead g image layouts → AreLayouts (rows_of g image) layouts
are_layouts l g image layouts is sound are = record {
  groups = are.long ∙ sym (length_groups g image);
  lists = λ group low. are.lists group (omega (arith, low, length_groups g image));
  pages = λ group low.
      let lt : group < g.groups = omega (arith, low, length_groups g image) in
      let root = (sound header group lt).encoded.allowed.root in
      (omega (arith, are.page group lt, root.0), omega (arith, are.page group lt, root.1));
  buckets = λ group bucket agino low small.
      let lt : group < g.groups = omega (arith, low, length_groups g image) in
      bucket_right l g image layouts group bucket agino is sound are lt small
      ∙ ap (λ (chunks : Group). cond (eqb (agino % 64) bucket && is_unlinked (inode_in chunks agino)) 1 0) (sym (group_of_rows g image group lt));
}

pub can_encode : (l : Lower) (g : Geometry) (image : List Sector) (layouts : Layouts) → IsGeometry g → AreGroupsSound g image → AreRead g image layouts → g.groups * group_sectors g ≤ length image
    → CanEncode g (rows_of g image) layouts image
can_encode l g image layouts is sound are size = record {
  shape = is;
  table = table_right l g image is sound;
  groups = length_groups g image;
  blocks = blocks_of_rows g image;
  layouts_of = are_layouts l g image layouts is sound are;
  size = size;
}

-- ---- the header

abbrev agi_made : ℕ → ℕ → ℕ → ℕ → ℕ → ℕ → List ℕ → List ℕ → Agi
agi_made group size count root level free heads uuid =
    record { group = group; blocks = size; count = count; root = root; level = level; free = free; heads = heads; uuid = uuid }

same_agi : (a b : Agi) → a.group ≡ b.group → a.blocks ≡ b.blocks → a.count ≡ b.count → a.root ≡ b.root → a.level ≡ b.level → a.free ≡ b.free → a.heads ≡ b.heads → a.uuid ≡ b.uuid → a ≡ b
same_agi a b group size count root level free heads uuid =
    ap (λ (x : ℕ). agi_made x a.blocks a.count a.root a.level a.free a.heads a.uuid) group
    ∙ ap (λ (x : ℕ). agi_made b.group x a.count a.root a.level a.free a.heads a.uuid) size
    ∙ ap (λ (x : ℕ). agi_made b.group b.blocks x a.root a.level a.free a.heads a.uuid) count
    ∙ ap (λ (x : ℕ). agi_made b.group b.blocks b.count x a.level a.free a.heads a.uuid) root
    ∙ ap (λ (x : ℕ). agi_made b.group b.blocks b.count b.root x a.free a.heads a.uuid) level
    ∙ ap (λ (x : ℕ). agi_made b.group b.blocks b.count b.root b.level x a.heads a.uuid) free
    ∙ ap (λ (x : List ℕ). agi_made b.group b.blocks b.count b.root b.level b.free x a.uuid) heads
    ∙ ap (λ (x : List ℕ). agi_made b.group b.blocks b.count b.root b.level b.free b.heads x) uuid

head_pointer : (g : Geometry) (image : List Sector) (layouts : Layouts) (group bucket : ℕ) → AreRead g image layouts → group < g.groups → bucket < 64
    → get_or (header_of g image group).heads bucket 0 ≡ head_of (bucket_list layouts group bucket)
unfolding pointer
head_pointer g image layouts group bucket are lt low =
    let members = bucket_list layouts group bucket in
    pointer_at g image group bucket members (are.list group bucket lt low) 0 (omega arith) ∙ sym (head_at members)

header_again : (l : Lower) (g : Geometry) (image : List Sector) (layouts : Layouts) (group : ℕ) → AreGroupsSound g image → AreRead g image layouts → group < g.groups
    → header_of g image group ≡ header_for g group (group_read g image group) layouts
unfolding header_for
header_again l g image layouts group sound are lt =
    let agi = header_of g image group in
    let chunks = group_read g image group in
    let right = sound header group lt in
    let counts = (sound tree group lt).1 in
    let leaf = (sound tree group lt).0.leaf in
    let level = right.encoded.allowed.level in
    let heads = right.encoded.fits.heads in
    let f : ℕ → ℕ = λ bucket. head_of (bucket_list layouts group bucket) in
    same_agi agi (header_for g group chunks layouts) right.own_group right.blocks
    (counts.count ∙ ap (λ (n : ℕ). 64 * n) (sym (length_group g image group)))
    (sym (are.page group lt))
    (omega (arith, level.0, level.1))
    (counts.free ∙ ap (λ (rs : List ChunkRec). sum_by (λ (chunk : ChunkRec). chunk.free) rs) (sym (records_again l g image group leaf)) ∙ free_sum chunks)
    (same_lists agi.heads (map f (range_with_len 0 64)) (heads ∙ sym (length-map-range_with_len f 0 64))
    (λ k d low.
    let small : k < 64 = omega (arith, low, heads) in
    get_or_default agi.heads k d 0 low ∙ head_pointer g image layouts group k are lt small ∙ sym (get_or-map-range_with_len f 0 64 k k d small (omega arith))))
    right.uuid

-- ---- the page

page_sector_read : (g : Geometry) (image : List Sector) (layouts : Layouts) (group : ℕ) → AreRead g image layouts → group < g.groups → page_sector g image group ≡ sector_in g group (page_place layouts group)
unfolding page_sector page_place
page_sector_read g image layouts group are lt = ap (λ (root : ℕ). sector_in g group (8 * root)) (sym (are.page group lt))

page_again : (l : Lower) (g : Geometry) (image : List Sector) (layouts : Layouts) (group k : ℕ) → AreGroupsSound g image → AreRead g image layouts → group < g.groups
    → k < 8
    → part k (page_bytes g layouts group (group_read g image group)) ≡ bytes_at image (sector_in g group (page_place layouts group + k))
unfolding page_bytes
page_again l g image layouts group k sound are lt low =
    let page = (sound tree group lt).0 in
    let at = page_sector_read g image layouts group are lt in
    ap (λ (rs : List ChunkRec). part k (page_encoding rs group (sector_in g group (page_place layouts group)) g.uuid)) (records_again l g image group page.leaf)
    ∙ ap (λ (n : ℕ). part k (page_encoding (records_of g image group) group n g.uuid)) (sym at)
    ∙ sym (page.encoded k low)
    ∙ ap (λ (n : ℕ). bytes_at image (n + k)) at
    ∙ ap (bytes_at image) (sector_more g group (page_place layouts group) k)

-- ---- an inode

abbrev core_made : Bool → ℕ → ℕ → ℕ → ℕ → ℕ → ℕ → Core
core_made live links size count extents generation next =
    record { live = live; links = links; size = size; blocks = count; extents = extents; generation = generation; next = next }

same_core : (a b : Core) → a.live ≡ b.live → a.links ≡ b.links → a.size ≡ b.size → a.blocks ≡ b.blocks → a.extents ≡ b.extents → a.generation ≡ b.generation → a.next ≡ b.next → a ≡ b
same_core a b live links size count extents generation next =
    ap (λ (x : Bool). core_made x a.links a.size a.blocks a.extents a.generation a.next) live
    ∙ ap (λ (x : ℕ). core_made b.live x a.size a.blocks a.extents a.generation a.next) links
    ∙ ap (λ (x : ℕ). core_made b.live b.links x a.blocks a.extents a.generation a.next) size
    ∙ ap (λ (x : ℕ). core_made b.live b.links b.size x a.extents a.generation a.next) count
    ∙ ap (λ (x : ℕ). core_made b.live b.links b.size b.blocks x a.generation a.next) extents
    ∙ ap (λ (x : ℕ). core_made b.live b.links b.size b.blocks b.extents x a.next) generation
    ∙ ap (λ (x : ℕ). core_made b.live b.links b.size b.blocks b.extents b.generation x) next

runs_again : (l : Lower) (g : Geometry) (image : List Sector) (group agino : ℕ) → AreGroupsSound g image → group < g.groups → (row : Row) → row_at g image group agino ≡ Some row
    → runs (blocks_in g image group agino) ≡ runs_in (core_of g image group agino).extents (inode_bytes g image group agino)
unfolding blocks_in
runs_again l g image group agino sound lt row e =
    l.forks.runs (runs_in (core_of g image group agino).extents (inode_bytes g image group agino)) (sound fork group lt agino row e).runs.runs

next_again : (g : Geometry) (image : List Sector) (t : Table) (layouts : Layouts) (group agino : ℕ) (row : Row) → AreRead g image layouts → group < g.groups → agino ≢ NO_INODE
    → IsListed g image group agino row → (row.links ≢ 0 → times agino (bucket_list layouts group (agino % 64)) ≡ 0) → (core_of g image group agino).next ≡ next_in (bucket_list layouts group (agino % 64)) agino
next_again g image t layouts group agino row are lt some listed none =
    let members = bucket_list layouts group (agino % 64) in
    let list = are.list group (agino % 64) lt (omega arith) in
    elim (cases_eq row.links 0) [
      | inl nil ↦ next_listed g image group (agino % 64) members agino list (met_listed g image group agino members some list (listed.unlinked nil))
      | inr links ↦ listed.linked links ∙ sym (next_none members agino (none links))
    ]

-- what an inode of a group is encoded as
record SameInode (g : Geometry) (image : List Sector) (layouts : Layouts) (group agino : ℕ) (x : Inode) : Type 0 where
  core_is : core_of g image group agino ≡ core_for x.generation x.row (next_in (bucket_list layouts group (agino % 64)) agino)
  fork_is : fork_of (inode_bytes g image group agino) ≡ fork_for group x.row

same_inode : (l : Lower) (g : Geometry) (image : List Sector) (layouts : Layouts) (group agino : ℕ) (x : Inode) → IsGeometry g → AreGroupsSound g image → AreRead g image layouts → group < g.groups
    → inode_in (group_read g image group) agino ≡ Some x → SameInode g image layouts group agino x
unfolding core_for
same_inode l g image layouts group agino x is sound are lt e =
    let r = found g image group agino x e in
    let c = sound core group lt agino x (inode_found g image group agino x e) in
    let next : ℕ = next_in (bucket_list layouts group (agino % 64)) agino in
    let held = core_of g image group agino in
    let range = number_range l g image group agino x sound lt e in
    let most = is.blocks.1 in
    elim r.row [
      | inl none ↦
          let dead : held.live ≡ false = c.live ∙ ap is_some none in
          let free = c.encoded.allowed.free dead in
          record {
            core_is = same_core held (core_for x.generation None next) dead free.links free.size free.blocks free.extents (sym r.generation) free.next
                ∙ ap (λ (o : Option Row). core_for x.generation o next) (sym none);
            fork_is = c.encoded.fork dead ∙ sym (fork_of_none group) ∙ ap (fork_for group) (sym none);
          }
      | inr live ↦
          let row : Row = row_made held.links (blocks_in g image group agino) in
          let at : row_at g image group agino ≡ Some row = row_found g image group agino x row e live in
          let used : held.live ≡ true = c.live ∙ ap is_some live in
          let allowed = c.encoded.allowed.live used in
          let f = sound fork group lt agino row at in
          let again = runs_again l g image group agino sound lt row at in
          let not_listed : row.links ≢ 0 → times agino (bucket_list layouts group (agino % 64)) ≡ 0 =
          λ links. bucket_right l g image layouts group (agino % 64) agino is sound are lt (omega arith)
          ∙ off (eqb (agino % 64) (agino % 64)) (is_unlinked (inode_in (group_read g image group) agino)) (is_linked (group_read g image group) agino x row e live links) in
          record {
            core_is = same_core held (core_for x.generation (Some row) next) used refl (allowed.size ∙ ap (λ (n : ℕ). n * 4096) f.count) f.count
                (sym (ap length again ∙ f.runs.many)) (sym r.generation)
                (next_again g image (rows_of g image) layouts group agino row are lt (λ end. omega (arith, end, range.1, most)) (sound lists group lt agino row at) not_listed)
                ∙ ap (λ (o : Option Row). core_for x.generation o next) (sym live);
            fork_is = f.runs.encoded ∙ ap (fork_bytes group) (sym again) ∙ ap (fork_for group) (sym live);
          }
    ]
  where
    off : (a b : Bool) → b ≡ false → cond {A = ℕ} (a && b) 1 0 ≡ 0
    off true true h = absurd (true≢false h)
    off true false h = refl
    off false b h = refl

inode_again : (l : Lower) (g : Geometry) (image : List Sector) (layouts : Layouts) (group agino : ℕ) (x : Inode) → IsGeometry g → AreGroupsSound g image → AreRead g image layouts → group < g.groups
    → inode_in (group_read g image group) agino ≡ Some x → inode_sector g layouts group agino x ≡ bytes_at image (sector_in g group agino)
inode_again l g image layouts group agino x is sound are lt e =
    let s = same_inode l g image layouts group agino x is sound are lt e in
    let c = sound core group lt agino x (inode_found g image group agino x e) in
    sector_parts g layouts group agino x
    ∙ ap (λ (core : Core). core_encoding core (number_in group agino) g.uuid (fork_for group x.row)) (sym s.core_is)
    ∙ ap (core_encoding (core_of g image group agino) (number_in group agino) g.uuid) (sym s.fork_is)
    ∙ sym c.encoded.sector

-- ---- every sector

abbrev Keeps : List ℕ → Option (List ℕ) → Type 0
Keeps old o = unwrap_or o old ≡ old

one_of_four : (a b c : Bool) (h m p i : Option (List ℕ)) (old : List ℕ) → (a ≡ true → Keeps old h) → (b ≡ true → Keeps old m) → (c ≡ true → Keeps old p) → Keeps old i
    → Keeps old (chosen a b c h m p i)
one_of_four true b c h m p i old w x y z = w refl
one_of_four false true c h m p i old w x y z = x refl
one_of_four false false true h m p i old w x y z = y refl
one_of_four false false false h m p i old w x y z = z

inode_keeps : (o : Option Inode) (f : Inode → List ℕ) (old : List ℕ) → ((x : Inode) → o ≡ Some x → f x ≡ old) → Keeps old (option_map f o)
inode_keeps None f old same = refl
inode_keeps (Some x) f old same = same x refl

place_again : (l : Lower) (g : Geometry) (image : List Sector) (layouts : Layouts) (group place : ℕ) → IsGeometry g → AreGroupsSound g image → AreRead g image layouts
    → g.groups * group_sectors g ≤ length image → group < g.groups → place < group_sectors g
    → Keeps (bytes_at image (sector_in g group place)) (metadata g layouts group (group_read g image group) place)
place_again l g image layouts group place is sound are size lt low =
    let chunks = group_read g image group in
    let old : List ℕ = bytes_at image (sector_in g group place) in
    let r = ready g (rows_of g image) layouts image group (can_encode l g image layouts is sound are size) lt in
    let p : ℕ = page_place layouts group in
    let high = r.page_high in
    let least = r.least in
    subst (Keeps old) (sym (by_tests g layouts group chunks place))
    (one_of_four (eqb place 2) (is_bitmap place) (is_page p place) (Some (header_encoding (header_for g group chunks layouts))) (Some (part (place - 8) (bitmap (free_set g.blocks chunks))))
    (Some (part (place - p) (page_bytes g layouts group chunks))) (option_map (inode_sector g layouts group place) (inode_in chunks place)) old
    (λ e.
    let at : place ≡ 2 = eqb-true place 2 e in
    ap header_encoding (sym (header_again l g image layouts group sound are lt)) ∙ sym (sound header group lt).encoded.sector ∙ ap (λ (n : ℕ). bytes_at image (sector_in g group n)) (sym at))
    (λ e.
    let both = and_parts (leb 8 place) (ltb place 12) e in
    let from = leb-true 8 place both.0 in
    let to = ltb-true place 12 both.1 in
    let back : 8 + (place - 8) ≡ place = omega arith in
    sym (sound bitmap_rule group lt (place - 8) (omega arith)) ∙ ap (λ (n : ℕ). bytes_at image (sector_in g group n)) back)
    (λ e.
    let both = and_parts (leb p place) (ltb place (p + 8)) e in
    let from = leb-true p place both.0 in
    let to = ltb-true place (p + 8) both.1 in
    let back : p + (place - p) ≡ place = omega arith in
    page_again l g image layouts group (place - p) sound are lt (omega arith)
    ∙ ap (λ (n : ℕ). bytes_at image (sector_in g group n)) back)
    (inode_keeps (inode_in chunks place) (inode_sector g layouts group place) old (λ x e. inode_again l g image layouts group place x is sound are lt e)))

sector_again : (l : Lower) (g : Geometry) (image : List Sector) (layouts : Layouts) (s : ℕ) → IsGeometry g → AreGroupsSound g image → AreRead g image layouts → g.groups * group_sectors g ≤ length image
    → s < length image → bytes_at (encoded g (rows_of g image) layouts image) s ≡ bytes_at image s
unfolding sector_in
sector_again l g image layouts s is sound are size lt =
    let t = rows_of g image in
    let few = is.blocks.0 in
    let some : 0 < group_sectors g = omega arith in
    elim (cases_lt s (g.groups * group_sectors g)) [
      | inr past ↦ behind_groups g t layouts image s lt past
      | inl low ↦
          let group : ℕ = s / group_sectors g in
          let place : ℕ = s % group_sectors g in
          let below : group < g.groups = div_below s (group_sectors g) g.groups some low in
          let inner : place < group_sectors g = mod_below s (group_sectors g) some in
          let at : sector_in g group place ≡ s = div-add-mod' s (group_sectors g) in
          ap (bytes_at (encoded g t layouts image)) (sym at)
          ∙ at_place g t layouts image group place size below inner
          ∙ ap (λ (chunks : Group). unwrap_or (metadata g layouts group chunks place) (bytes_at image (sector_in g group place))) (group_of_rows g image group below)
          ∙ place_again l g image layouts group place is sound are size below inner
          ∙ ap (bytes_at image) at
    ]

pub image_again : (l : Lower) (g : Geometry) (image : List Sector) (layouts : Layouts) → IsGeometry g → AreGroupsSound g image → AreRead g image layouts → g.groups * group_sectors g ≤ length image
    → encoded g (rows_of g image) layouts image ≡ image
image_again l g image layouts is sound are size =
    same_image (encoded g (rows_of g image) layouts image) image (length-encoded g (rows_of g image) layouts image)
    (λ s within. sector_again l g image layouts s is sound are size within)

pub encoded_again : (l : Lower) (g : Geometry) (image : List Sector) → IsGeometry g → AreGroupsSound g image → g.groups * group_sectors g ≤ length image
    → (layouts : Layouts) × CanEncode g (rows_of g image) layouts image × (encoded g (rows_of g image) layouts image ≡ image)
encoded_again l g image is sound size =
    let read = layouts_read g image sound in
    (read.0, can_encode l g image read.0 is sound read.1 size, image_again l g image read.0 is sound read.1 size)
