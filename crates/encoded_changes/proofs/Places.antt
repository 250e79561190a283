-- What stands at each place of a group, before and after a change.
use Rattle.std.proofs.Common.{◌≡◌, ◌+◌, ◌-◌, ◌*◌, ◌%◌, ℕ, Bool, true, false, cond, List, [], Option, None, Some, length, map, get_or, eqb, leb, ltb, refl, ap, sym, ◌∙◌}
use Rattle.std.specs.Prelude.{◌&&◌, sum_by}
use Rattle.std.specs.List.{range_with_len}
use Rattle.std.proofs.lemmas.Bool.{eqb-true}
use Rattle.std.specs.Option.{option_map}
use Rattle.life_limits.specs.declared.TheConstants.{BLOCK_SECTORS, BUCKETS, CHUNK_INODES}
use Rattle.geometry.specs.declared.shape.Geometry.{Geometry}
use Rattle.ag_header.specs.Headers.{header_encoding}
use Rattle.ag_header.specs.declared.agi.Agi.{Agi}
use Rattle.extent_fork.specs.Inodes.{inode_encoding}
use Rattle.inobt_leaf.specs.Pages.{page_encoding}
use Rattle.life_table.specs.declared.table.Chunk.{Chunk}
use Rattle.free_map.specs.Bitmap.{bitmap}
use Rattle.life_table.specs.declared.table.Inode.{Inode}
use Rattle.life_table.specs.Table.{Group, inode_in}
use Rattle.geometry.specs.Places.{number_in}
use Rattle.life_table.specs.Space.{row_blocks}
use Rattle.sound_image.specs.Places.{part, sector_in}
use Rattle.sound_image.specs.Rules.{free_set}
use Rattle.sound_image.specs.Encoding.{Layout, Layouts, layout_of, page_of, bucket_list, header_for, inode_sector, page_place, page_bytes, metadata, head_of, next_in, free_count, chunk_record, core_for}

-- a header, by what changes in it
abbrev pub header_made : Geometry → ℕ → Group → ℕ → List ℕ → Agi
header_made g group chunks page heads =
    record {
      group = group;
      blocks = g.blocks;
      count = CHUNK_INODES * length chunks;
      root = page;
      level = 1;
      free = sum_by (λ (chunk : Chunk). free_count chunk.inodes) chunks;
      heads = heads;
      uuid = g.uuid;
    }

-- the four cases, by the tests
abbrev pub is_bitmap : ℕ → Bool
is_bitmap place = leb 8 place && ltb place 12

abbrev pub is_page : ℕ → ℕ → Bool
is_page p place = leb p place && ltb place (p + 8)

abbrev pub chosen : Bool → Bool → Bool → Option (List ℕ) → Option (List ℕ) → Option (List ℕ) → Option (List ℕ) → Option (List ℕ)
chosen a b c header map_part page inode = cond a header (cond b map_part (cond c page inode))

pub by_tests : (g : Geometry) (layouts : Layouts) (group : ℕ) (chunks : Group) (place : ℕ) → metadata g layouts group chunks place
    ≡ chosen (eqb place 2) (is_bitmap place) (is_page (page_place layouts group) place) (Some (header_encoding (header_for g group chunks layouts)))
    (Some (part (place - 8) (bitmap (free_set g.blocks chunks)))) (Some (part (place - page_place layouts group) (page_bytes g layouts group chunks)))
    (option_map (inode_sector g layouts group place) (inode_in chunks place))
unfolding metadata
by_tests g layouts group chunks place = refl

-- each of the four cases alike
pub same_cases : (a b c : Bool) (h i m n p q x y : Option (List ℕ)) → (a ≡ true → h ≡ i) → (b ≡ true → m ≡ n) → (c ≡ true → p ≡ q) → (a ≡ false → x ≡ y)
    → chosen a b c h m p x ≡ chosen a b c i n q y
same_cases true b c h i m n p q x y f e k l = f refl
same_cases false true c h i m n p q x y f e k l = e refl
same_cases false false true h i m n p q x y f e k l = k refl
same_cases false false false h i m n p q x y f e k l = l refl

-- the same page place, and the same in each of the four cases
pub same_metadata : (g : Geometry) (layouts others : Layouts) (group : ℕ) (chunks next : Group) (place : ℕ) → page_of others group ≡ page_of layouts group
    → (place ≡ 2 → header_for g group next others ≡ header_for g group chunks layouts)
    → (is_bitmap place ≡ true → part (place - 8) (bitmap (free_set g.blocks next)) ≡ part (place - 8) (bitmap (free_set g.blocks chunks)))
    → (is_page (page_place layouts group) place ≡ true → page_bytes g others group next ≡ page_bytes g layouts group chunks)
    → option_map (inode_sector g others group place) (inode_in next place) ≡ option_map (inode_sector g layouts group place) (inode_in chunks place)
    → metadata g others group next place ≡ metadata g layouts group chunks place
unfolding page_place
same_metadata g layouts others group chunks next place page header map_part leaf inode =
    by_tests g others group next place
    ∙ ap (λ (p : ℕ). chosen (eqb place 2) (is_bitmap place) (is_page (BLOCK_SECTORS * p) place) (Some (header_encoding (header_for g group next others)))
    (Some (part (place - 8) (bitmap (free_set g.blocks next)))) (Some (part (place - BLOCK_SECTORS * p) (page_bytes g others group next)))
    (option_map (inode_sector g others group place) (inode_in next place))) page
    ∙ same_cases (eqb place 2) (is_bitmap place) (is_page (BLOCK_SECTORS * page_of layouts group) place) _ _ _ _ _ _ _ _
    (λ e. ap (λ (h : Agi). Some (header_encoding h)) (header (eqb-true place 2 e)))
    (λ e. ap (λ (l : List ℕ). Some l) (map_part e))
    (λ e. ap (λ (l : List ℕ). Some (part (place - BLOCK_SECTORS * page_of layouts group) l)) (leaf e))
    (λ e. inode)
    ∙ sym (by_tests g layouts group chunks place)

-- the header, the page and an inode, by the layout of the group
pub header_by : (g : Geometry) (layouts others : Layouts) (group : ℕ) (chunks : Group) → layout_of others group ≡ layout_of layouts group
    → header_for g group chunks others ≡ header_for g group chunks layouts
unfolding header_for page_of bucket_list
header_by g layouts others group chunks same = ap (λ (l : Layout). header_made g group chunks l.page (map (λ bucket. head_of (get_or l.buckets bucket [])) (range_with_len 0 BUCKETS))) same

pub page_by : (g : Geometry) (layouts others : Layouts) (group : ℕ) (chunks : Group) → page_of others group ≡ page_of layouts group
    → page_bytes g others group chunks ≡ page_bytes g layouts group chunks
unfolding page_bytes page_place
page_by g layouts others group chunks same = ap (λ (n : ℕ). page_encoding (map chunk_record chunks) group (sector_in g group (BLOCK_SECTORS * n)) g.uuid) same

pub inode_by : (g : Geometry) (layouts others : Layouts) (group agino : ℕ) (inode : Option Inode)
    → next_in (bucket_list others group (agino % BUCKETS)) agino ≡ next_in (bucket_list layouts group (agino % BUCKETS)) agino
    → option_map (inode_sector g others group agino) inode ≡ option_map (inode_sector g layouts group agino) inode
unfolding inode_sector
inode_by g layouts others group agino None same = refl
inode_by g layouts others group agino (Some inode) same =
    ap (λ (n : ℕ). Some (inode_encoding (core_for inode.generation inode.row n) (number_in group agino) g.uuid group (row_blocks inode.row))) same

pub list_by : (layouts others : Layouts) (group bucket : ℕ) → layout_of others group ≡ layout_of layouts group → bucket_list others group bucket ≡ bucket_list layouts group bucket
unfolding bucket_list
list_by layouts others group bucket same = ap (λ (l : Layout). get_or l.buckets bucket []) same

pub page_same : (layouts others : Layouts) (group : ℕ) → layout_of others group ≡ layout_of layouts group → page_of others group ≡ page_of layouts group
unfolding page_of
page_same layouts others group same = ap (λ (l : Layout). l.page) same

-- a group whose layout and chunks stay
pub same_layout : (g : Geometry) (layouts others : Layouts) (group : ℕ) (chunks : Group) (place : ℕ) → layout_of others group ≡ layout_of layouts group
    → metadata g others group chunks place ≡ metadata g layouts group chunks place
same_layout g layouts others group chunks place same =
    same_metadata g layouts others group chunks chunks place (page_same layouts others group same)
    (λ e. header_by g layouts others group chunks same)
    (λ e. refl)
    (λ e. page_by g layouts others group chunks (page_same layouts others group same))
    (inode_by g layouts others group place (inode_in chunks place) (ap (λ (l : List ℕ). next_in l place) (list_by layouts others group (place % BUCKETS) same)))

pub elsewhere : (g : Geometry) (layouts others : Layouts) (group : ℕ) (chunks next : Group) (place : ℕ) → layout_of others group ≡ layout_of layouts group → next ≡ chunks
    → metadata g others group next place ≡ metadata g layouts group chunks place
elsewhere g layouts others group chunks next place same e =
    ap (λ (x : Group). metadata g others group x place) e ∙ same_layout g layouts others group chunks place same
