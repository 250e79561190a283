-- The commits of each group apart from those of the others.
use Rattle.std.proofs.Common.{◌≡◌, ◌==◌, ◌<◌, ◌≤◌, ◌+◌, ◌-◌, ◌*◌, ◌/◌, ◌%◌, ◌⊎◌, ℕ, zero, suc, Bool, true, false, cond, List, [], ◌∷◌, ◌++◌, Option, None, Some, length, get_or, map, eqb, leb, ltb, inl, inr, refl, ap, sym, subst, ◌∙◌, get_or-set_same, get_or-set_other, length-set, arith}
use Rattle.std.specs.Prelude.{◌≢◌, ◌&&◌, Contains, if◌then◌else◌, slice_set, sum_by}
use Rattle.std.specs.List.{All, AllByRecursion, filter, range_with_len}
use Rattle.std.specs.Option.{option_map}
use Rattle.std.proofs.lemmas.Bool.{cases_eq, cases_lt, cond-false, cond-true, eq-eqb, eqb-true, ne_eqb}
use Rattle.std.proofs.lemmas.List.Elements.{All-from_recursion, All-weaker, recursion_from_All}
use Rattle.life_limits.specs.declared.TheConstants.{BLOCK_SECTORS, BUCKETS, FIRST_PAGE_BLOCK, LAST_PAGE_BLOCK}
use Rattle.life_bytes.specs.declared.sector.Sector.{Sector}
use Rattle.geometry.specs.declared.shape.Geometry.{Geometry}
use Rattle.geometry.specs.Places.{group_sectors, number_in}
use Rattle.log_record.specs.declared.image.Commit.{Commit}
use Rattle.log_record.specs.declared.image.Image.{Image}
use Rattle.log_image.specs.Overlay.{homes, overlaid}
use Rattle.ag_header.specs.Headers.{header_encoding}
use Rattle.extent_fork.specs.Inodes.{inode_encoding}
use Rattle.inobt_leaf.specs.Pages.{page_encoding}
use Rattle.free_map.specs.Bitmap.{bitmap}
use Rattle.life_table.specs.declared.table.Table.{Table}
use Rattle.life_table.specs.declared.table.Inode.{Inode}
use Rattle.life_table.specs.declared.table.Chunk.{Chunk}
use Rattle.life_table.specs.Table.{Group, group_at, inode_in, with_group}
use Rattle.life_table.specs.Space.{row_blocks, times}
use Rattle.life_table.specs.WellFormed.{IsGroup, IsTable}
use Rattle.sound_image.specs.Places.{bitmap_place, bitmap_sectors, header_place, part, sector_in}
use Rattle.sound_image.specs.Rules.{free_set}
use Rattle.sound_image.specs.Encoding.{AreLayouts, CanEncode, Layout, Layouts, bucket_list, chunk_record, core_for, free_count, header_for, head_of, inode_sector, is_unlinked, layout_of, metadata, next_in, page_bytes, page_of, page_place}
use Rattle.encoded_changes.specs.Carry.{AreImagesOf, CarryGroup, ChangesOnly, IsOfGroup, Stays}
use Rattle.commit_history.specs.Carried.{AreAlikeIn, CommitCarries, CommitsCarry, commits_in}
use Rattle.commit_history.proofs.Following.{more, none}

-- ---- a commit leaves the sectors of the other groups

kept : (sectors : List Sector) (images : List Image) (at : ℕ) (d : Sector) → AllByRecursion (λ (image : Image). image.home ≢ at) images
    → get_or (overlaid sectors images) at d ≡ get_or sectors at d
unfolding overlaid
kept sectors [] at d apart = refl
kept sectors (image ∷ images) at d apart =
    kept (slice_set sectors image.home image.sector) images at d apart.1
    ∙ get_or-set_other sectors image.home at image.sector d (λ e. apart.0 (sym e))

times_le : (a b size : ℕ) → a < b → (a + 1) * size ≤ b * size
times_le a b size lt = grind arith

elsewhere : (size a b p q : ℕ) → p < size → q < size → a ≢ b → a * size + p ≢ b * size + q
elsewhere size a b p q low less apart e =
    elim (cases_lt a b) [
      | inl lt ↦ let more : (a + 1) * size ≤ b * size = times_le a b size lt in omega (arith, e, low, less, more)
      | inr past ↦
          let lt : b < a = omega (arith, past, apart) in
          let more : (b + 1) * size ≤ a * size = times_le b a size lt in omega (arith, e, low, less, more)
    ]

other_group : (g : Geometry) (group other p q : ℕ) → p < group_sectors g → q < group_sectors g → group ≢ other → sector_in g group p ≢ sector_in g other q
unfolding sector_in
other_group g group other p q low less apart = elsewhere (group_sectors g) group other p q low less apart

pub leaves : (g : Geometry) (t u : Table) (layouts others : Layouts) (sectors : List Sector) (commit : Commit) (other place : ℕ) (d : Sector) → CommitCarries g t layouts u others commit
    → other ≢ commit.group → place < group_sectors g → get_or (overlaid sectors commit.images) (sector_in g other place) d ≡ get_or sectors (sector_in g other place) d
leaves g t u layouts others sectors commit other place d carries apart low =
    kept sectors commit.images (sector_in g other place) d
    (weaker commit.images (recursion_from_All (IsOfGroup g others commit.group (group_at u commit.group)) commit.images carries.images.carry.right))
  where
    weaker : (images : List Image) → AllByRecursion (IsOfGroup g others commit.group (group_at u commit.group)) images → AllByRecursion (λ (image : Image). image.home ≢ sector_in g other place) images
    weaker [] all = tt
    weaker (image ∷ images) all = (
      λ e. other_group g commit.group other all.0.place place all.0.within low (λ s. apart (sym s)) (sym all.0.home ∙ e),
      weaker images all.1,
    )

-- ---- what the format says of a group depends on its own layout

abbrev by_layout : Geometry → Layout → ℕ → Group → ℕ → Option (List ℕ)
by_layout g l group chunks place =
    if place == header_place
    then Some (header_encoding (record {
      group = group;
      blocks = g.blocks;
      count = 64 * length chunks;
      root = l.page;
      level = 1;
      free = sum_by (λ (chunk : Chunk). free_count chunk.inodes) chunks;
      heads = map (λ bucket. head_of (get_or l.buckets bucket [])) (range_with_len 0 BUCKETS);
      uuid = g.uuid;
    }))
    else if leb bitmap_place place && ltb place (bitmap_place + bitmap_sectors) then Some (part (place - bitmap_place) (bitmap (free_set g.blocks chunks)))
    else if leb (BLOCK_SECTORS * l.page) place && ltb place (BLOCK_SECTORS * l.page + BLOCK_SECTORS)
    then Some (part (place - BLOCK_SECTORS * l.page) (page_encoding (map chunk_record chunks) group (sector_in g group (BLOCK_SECTORS * l.page)) g.uuid))
    else option_map (λ (inode : Inode). inode_encoding (core_for inode.generation inode.row (next_in (get_or l.buckets (place % BUCKETS) []) place)) (number_in group place) g.uuid group (row_blocks inode.row))
    (inode_in chunks place)

metadata_by : (g : Geometry) (layouts : Layouts) (group : ℕ) (chunks : Group) (place : ℕ) → metadata g layouts group chunks place ≡ by_layout g (layout_of layouts group) group chunks place
unfolding metadata header_for page_of bucket_list page_place page_bytes inode_sector
metadata_by g layouts group chunks place = refl

pub metadata_along : (g : Geometry) (layouts others : Layouts) (group : ℕ) (chunks next : Group) (place : ℕ) → layout_of others group ≡ layout_of layouts group → next ≡ chunks
    → metadata g others group next place ≡ metadata g layouts group chunks place
metadata_along g layouts others group chunks next place same e =
    metadata_by g others group next place
    ∙ ap (λ (x : Group). by_layout g (layout_of others group) group x place) e
    ∙ ap (λ (l : Layout). by_layout g l group chunks place) same
    ∙ sym (metadata_by g layouts group chunks place)

-- ---- a table with the group of another one

abbrev pub with_its_group : ℕ → Table → Table → Table
with_its_group k s u = with_group s k (group_at u k)

abbrev pub with_its_layout : ℕ → Layouts → Layouts → Layouts
with_its_layout k shown others = slice_set shown k (layout_of others k)

pub own_alike : (k : ℕ) (s u : Table) (shown others : Layouts) → k < length s.groups → k < length shown → AreAlikeIn k u others (with_its_group k s u) (with_its_layout k shown others)
unfolding layout_of
own_alike k s u shown others lt low = record {
  chunks = get_or-set_same s.groups k (group_at u k) [] lt;
  layout = get_or-set_same shown k (get_or others k (record { page = FIRST_PAGE_BLOCK; buckets = [] })) (record { page = FIRST_PAGE_BLOCK; buckets = [] }) low;
}

pub others_alike : (k other : ℕ) (s u : Table) (shown others : Layouts) → other ≢ k → AreAlikeIn other s shown (with_its_group k s u) (with_its_layout k shown others)
unfolding layout_of
others_alike k other s u shown others apart = record {
  chunks = get_or-set_other s.groups k other (group_at u k) [] apart;
  layout = get_or-set_other shown k other (get_or others k (record { page = FIRST_PAGE_BLOCK; buckets = [] })) (record { page = FIRST_PAGE_BLOCK; buckets = [] }) apart;
}

all-set : {X : Type 0} (P : X → Type 0) (xs : List X) (i : ℕ) (x : X) → AllByRecursion P xs → P x → AllByRecursion P (slice_set xs i x)
all-set P [] i x all here = tt
all-set P (y ∷ ys) zero x all here = (here, all.1)
all-set P (y ∷ ys) (suc i) x all here = (all.0, all-set P ys i x all.1 here)

table_with : (k : ℕ) (s u : Table) → IsTable s → IsTable u → u.blocks ≡ s.blocks → k < length u.groups → IsTable (with_its_group k s u)
table_with k s u is also blocks lt =
    let here : IsGroup u.blocks (group_at u k) = All-from_recursion (IsGroup u.blocks) u.groups also.groups k [] lt in
    let long = length-set s.groups k (group_at u k) in
    let some = is.some in
    let many = is.many in
    record {
      version = is.version;
      least = is.least;
      most = is.most;
      some = omega (arith, long, some);
      many = omega (arith, long, many);
      groups = all-set (IsGroup s.blocks) s.groups k (group_at u k) is.groups (subst (λ (n : ℕ). IsGroup n (group_at u k)) blocks here);
    }

-- what layouts say of one group
record OneLayout (group : ℕ) (t : Table) (layouts : Layouts) : Type 0 where
  lists : length (layout_of layouts group).buckets ≡ BUCKETS
  pages : (FIRST_PAGE_BLOCK ≤ page_of layouts group) × (page_of layouts group ≤ LAST_PAGE_BLOCK)
  buckets : (bucket agino : ℕ) → bucket < BUCKETS
      → times agino (bucket_list layouts group bucket) ≡ (if (agino % BUCKETS == bucket) && is_unlinked (inode_in (group_at t group) agino) then 1 else 0)

one_of : (group : ℕ) (t : Table) (layouts : Layouts) → AreLayouts t layouts → group < length t.groups → OneLayout group t layouts
one_of group t layouts are lt = record { lists = are.lists group lt; pages = are.pages group lt; buckets = λ bucket agino small. are.buckets group bucket agino lt small }

along : (group : ℕ) (t u : Table) (layouts others : Layouts) → AreAlikeIn group t layouts u others → OneLayout group t layouts → OneLayout group u others
unfolding page_of bucket_list
along group t u layouts others alike one = record {
  lists = ap (λ (l : Layout). length l.buckets) alike.layout ∙ one.lists;
  pages = subst (λ (l : Layout). (FIRST_PAGE_BLOCK ≤ l.page) × (l.page ≤ LAST_PAGE_BLOCK)) (sym alike.layout) one.pages;
  buckets = λ bucket agino small.
      ap (λ (l : Layout). times agino (get_or l.buckets bucket [])) alike.layout
      ∙ one.buckets bucket agino small
      ∙ ap (λ (x : Group). cond {A = ℕ} (eqb (agino % BUCKETS) bucket && is_unlinked (inode_in x agino)) 1 0) (sym alike.chunks);
}

pub can_with : (g : Geometry) (k : ℕ) (s u : Table) (shown others : Layouts) (sectors other : List Sector) → k < g.groups → CanEncode g u others sectors → CanEncode g s shown other
    → CanEncode g (with_its_group k s u) (with_its_layout k shown others) other
can_with g k s u shown others sectors other lt from can =
    let new : Table = with_its_group k s u in
    let news : Layouts = with_its_layout k shown others in
    let size_s = can.groups in
    let size_u = from.groups in
    let blocks_s = can.blocks in
    let blocks_u = from.blocks in
    let layouts_s = can.layouts_of.groups in
    let long = length-set s.groups k (group_at u k) in
    let wide = length-set shown k (layout_of others k) in
    let each : (group : ℕ) → group < length new.groups → OneLayout group new news = λ group low.
    elim (cases_eq group k) [
      | inl same ↦ subst (λ (x : ℕ). OneLayout x new news) (sym same)
          (along k u new others news (own_alike k s u shown others (omega (arith, lt, size_s)) (omega (arith, lt, layouts_s, size_s)))
          (one_of k u others from.layouts_of (omega (arith, lt, size_u))))
      | inr apart ↦ along group s new shown news (others_alike k group s u shown others apart) (one_of group s shown can.layouts_of (omega (arith, low, long)))
    ] in
    record {
      shape = can.shape;
      table = table_with k s u can.table from.table (blocks_u ∙ sym blocks_s) (omega (arith, lt, size_u));
      groups = long ∙ size_s;
      blocks = blocks_s;
      layouts_of = record {
        groups = omega (arith, wide, long, layouts_s);
        lists = λ group low. (each group low).lists;
        pages = λ group low. (each group low).pages;
        buckets = λ group bucket agino low small. (each group low).buckets bucket agino small;
      };
      size = can.size;
    }

-- ---- a commit on another table that has its group

alike_place : (g : Geometry) (group : ℕ) (t u : Table) (layouts others : Layouts) (place : ℕ) → AreAlikeIn group t layouts u others
    → metadata g others group (group_at u group) place ≡ metadata g layouts group (group_at t group) place
alike_place g group t u layouts others place alike = metadata_along g layouts others group (group_at t group) (group_at u group) place alike.layout alike.chunks

images_along : (g : Geometry) (group : ℕ) (t u s v : Table) (layouts others shown last : Layouts) (images : List Image) → AreAlikeIn group t layouts s shown → AreAlikeIn group u others v last
    → AreImagesOf g group layouts (group_at t group) others (group_at u group) images → AreImagesOf g group shown (group_at s group) last (group_at v group) images
images_along g group t u s v layouts others shown last images first second are =
    let before = λ (place : ℕ). alike_place g group t s layouts shown place first in
    let after = λ (place : ℕ). alike_place g group u v others last place second in
    record {
      carry = record {
        right = All-weaker (IsOfGroup g others group (group_at u group)) (IsOfGroup g last group (group_at v group))
            (λ image is. record { place = is.place; within = is.within; home = is.home; bytes = after is.place ∙ is.bytes }) images are.carry.right;
        whole = λ place low. elim (are.carry.whole place low) [ inl stays ↦ inl (after place ∙ stays ∙ sym (before place)) | inr has ↦ inr has ];
      };
      ascend = are.ascend;
      differ = λ place low has stays. are.differ place low has (sym (after place) ∙ stays ∙ before place);
    }

pub moved : (g : Geometry) (t u s : Table) (layouts others shown : Layouts) (sectors other : List Sector) (commit : Commit) → CommitCarries g t layouts u others commit → CanEncode g t layouts sectors
    → CanEncode g s shown other → AreAlikeIn commit.group t layouts s shown
    → CommitCarries g s shown (with_its_group commit.group s u) (with_its_layout commit.group shown others) commit
moved g t u s layouts others shown sectors other commit carries can also alike =
    let k : ℕ = commit.group in
    let size = also.groups in
    let wide = also.layouts_of.groups in
    let lt : k < g.groups = carries.group in
    let mine = own_alike k s u shown others (omega (arith, lt, size)) (omega (arith, lt, size, wide)) in
    record {
      group = carries.group;
      only = record {
        chunks = λ group apart. (others_alike k group s u shown others apart).chunks;
        layouts_of = λ group apart. (others_alike k group s u shown others apart).layout;
      };
      images = images_along g k t u s (with_its_group k s u) layouts others shown (with_its_layout k shown others) commit.images alike mine carries.images;
      few = carries.few;
      next = λ more from. can_with g k s u shown others sectors more lt (carries.next sectors can) from;
    }

-- ---- lists of commits of one group

itself : (group : ℕ) (t : Table) (layouts : Layouts) → AreAlikeIn group t layouts t layouts
itself group t layouts = record { chunks = refl; layout = refl }

then_also : (group : ℕ) (t u v : Table) (layouts others last : Layouts) → AreAlikeIn group t layouts u others → AreAlikeIn group u others v last → AreAlikeIn group t layouts v last
then_also group t u v layouts others last a b = record { chunks = b.chunks ∙ a.chunks; layout = b.layout ∙ a.layout }

back : (group : ℕ) (t u : Table) (layouts others : Layouts) → AreAlikeIn group t layouts u others → AreAlikeIn group u others t layouts
back group t u layouts others a = record { chunks = sym a.chunks; layout = sym a.layout }

equal : (group : ℕ) (t u : Table) (layouts others : Layouts) → u ≡ t → others ≡ layouts → AreAlikeIn group t layouts u others
equal group t u layouts others a b = record { chunks = ap (λ (x : Table). group_at x group) a; layout = ap (λ (l : Layouts). layout_of l group) b }

-- the commits of one group lead on from another table that has this group, whose other groups stay
pub record Moved (g : Geometry) (group : ℕ) (s : Table) (shown : Layouts) (commits : List Commit) (u : Table) (others : Layouts) : Type 0 where
  pub table : Table
  pub layouts : Layouts
  pub carries : CommitsCarry g s shown commits table layouts
  pub own_group : AreAlikeIn group u others table layouts
  pub rest : (other : ℕ) → other ≢ group → AreAlikeIn other s shown table layouts

pub moved_all : (g : Geometry) (group : ℕ) (t u s : Table) (layouts others shown : Layouts) (sectors other : List Sector) (commits : List Commit) → AllByRecursion (λ (c : Commit). c.group ≡ group) commits
    → CommitsCarry g t layouts commits u others → CanEncode g t layouts sectors → CanEncode g s shown other → AreAlikeIn group t layouts s shown → Moved g group s shown commits u others
unfolding CommitsCarry
moved_all g group t u s layouts others shown sectors other [] all carries can also alike = record {
  table = s;
  layouts = shown;
  carries = none g s shown;
  own_group = then_also group u t s others layouts shown (back group t u layouts others (equal group t u layouts others carries.0 carries.1)) alike;
  rest = λ other apart. itself other s shown;
}
moved_all g group t u s layouts others shown sectors other (commit ∷ commits) all carries can also alike =
    let k : ℕ = commit.group in
    let e : k ≡ group = all.0 in
    let m : Table = carries.0 in
    let ml : Layouts = carries.1 in
    let here : AreAlikeIn k t layouts s shown = subst (λ (x : ℕ). AreAlikeIn x t layouts s shown) (sym e) alike in
    let first = moved g t m s layouts ml shown sectors other commit carries.2 can also here in
    let next : Table = with_its_group k s m in
    let nexts : Layouts = with_its_layout k shown ml in
    let lt : k < g.groups = carries.2.group in
    let size = also.groups in
    let wide = also.layouts_of.groups in
    let mine : AreAlikeIn group m ml next nexts = subst (λ (x : ℕ). AreAlikeIn x m ml next nexts) e (own_alike k s m shown ml (omega (arith, lt, size)) (omega (arith, lt, size, wide))) in
    let later = moved_all g group m u next ml others nexts sectors other commits all.1 carries.3 (carries.2.next sectors can) (first.next other also) mine in
    record {
      table = later.table;
      layouts = later.layouts;
      carries = more g s next later.table shown nexts later.layouts commit commits first later.carries;
      own_group = later.own_group;
      rest = λ x apart. then_also x s next later.table shown nexts later.layouts (others_alike k x s m shown ml (λ same. apart (same ∙ e))) (later.rest x apart);
    }

commits_here : (group : ℕ) (commit : Commit) (commits : List Commit) → commit.group ≡ group → commits_in group (commit ∷ commits) ≡ commit ∷ commits_in group commits
commits_here group commit commits e = cond-true (eqb commit.group group) (commit ∷ commits_in group commits) (commits_in group commits) (eq-eqb commit.group group e)

commits_elsewhere : (group : ℕ) (commit : Commit) (commits : List Commit) → commit.group ≢ group → commits_in group (commit ∷ commits) ≡ commits_in group commits
commits_elsewhere group commit commits e = cond-false (eqb commit.group group) (commit ∷ commits_in group commits) (commits_in group commits) (ne_eqb commit.group group e)

all_of : (group : ℕ) (commits : List Commit) → AllByRecursion (λ (c : Commit). c.group ≡ group) (commits_in group commits)
all_of group [] = tt
all_of group (commit ∷ commits) =
    elim (cases_eq commit.group group) [
      | inl same ↦ subst (AllByRecursion (λ (c : Commit). c.group ≡ group)) (sym (commits_here group commit commits same)) (same, all_of group commits)
      | inr apart ↦ subst (AllByRecursion (λ (c : Commit). c.group ≡ group)) (sym (commits_elsewhere group commit commits apart)) (all_of group commits)
    ]

-- ---- from the whole list to the commits of a group

pub record Part (g : Geometry) (group : ℕ) (t : Table) (layouts : Layouts) (commits : List Commit) (u : Table) (others : Layouts) : Type 0 where
  pub table : Table
  pub layouts_of : Layouts
  pub carries : CommitsCarry g t layouts (commits_in group commits) table layouts_of
  pub own_group : AreAlikeIn group u others table layouts_of
  pub rest : (other : ℕ) → other ≢ group → AreAlikeIn other t layouts table layouts_of

pub part_of_group : (g : Geometry) (group : ℕ) (t u : Table) (layouts others : Layouts) (sectors : List Sector) (commits : List Commit) → CanEncode g t layouts sectors
    → CommitsCarry g t layouts commits u others → Part g group t layouts commits u others
unfolding CommitsCarry
part_of_group g group t u layouts others sectors [] can carries = record {
  table = t;
  layouts_of = layouts;
  carries = none g t layouts;
  own_group = back group t u layouts others (equal group t u layouts others carries.0 carries.1);
  rest = λ other apart. itself other t layouts;
}
part_of_group g group t u layouts others sectors (commit ∷ commits) can carries =
    let m : Table = carries.0 in
    let ml : Layouts = carries.1 in
    let only : ChangesOnly commit.group t layouts m ml = carries.2.only in
    let later = part_of_group g group m u ml others sectors commits (carries.2.next sectors can) carries.3 in
    elim (cases_eq commit.group group) [
      | inl same ↦ record {
        table = later.table;
        layouts_of = later.layouts_of;
        carries = subst (λ (l : List Commit). CommitsCarry g t layouts l later.table later.layouts_of) (sym (commits_here group commit commits same))
            (more g t m later.table layouts ml later.layouts_of commit (commits_in group commits) carries.2 later.carries);
        own_group = later.own_group;
        rest = λ other apart. then_also other t m later.table layouts ml later.layouts_of
            (record { chunks = only.chunks other (λ e. apart (e ∙ same)); layout = only.layouts_of other (λ e. apart (e ∙ same)) }) (later.rest other apart);
      }
      | inr apart ↦
          let alike : AreAlikeIn group m ml t layouts = back group t m layouts ml (record { chunks = only.chunks group (λ e. apart (sym e)); layout = only.layouts_of group (λ e. apart (sym e)) }) in
          let put = moved_all g group m later.table t ml later.layouts_of layouts sectors sectors (commits_in group commits) (all_of group commits) later.carries (carries.2.next sectors can) can alike in
          record {
            table = put.table;
            layouts_of = put.layouts;
            carries = subst (λ (l : List Commit). CommitsCarry g t layouts l put.table put.layouts) (sym (commits_elsewhere group commit commits apart)) put.carries;
            own_group = then_also group u later.table put.table others later.layouts_of put.layouts later.own_group put.own_group;
            rest = put.rest;
          }
    ]

-- ---- from the commits of each group to the whole list

pub record Chain (g : Geometry) (t : Table) (layouts : Layouts) (commits : List Commit) (group : ℕ) (end : Table) (ends : Layouts) : Type 0 where
  pub table : Table
  pub layouts_of : Layouts
  pub carries : CommitsCarry g t layouts (commits_in group commits) table layouts_of
  pub alike : AreAlikeIn group end ends table layouts_of

pub record Whole (g : Geometry) (t : Table) (layouts : Layouts) (commits : List Commit) (ends : ℕ → Table) (lists : ℕ → Layouts) : Type 0 where
  pub table : Table
  pub layouts_of : Layouts
  pub carries : CommitsCarry g t layouts commits table layouts_of
  pub alike : (group : ℕ) → group < g.groups → AreAlikeIn group (ends group) (lists group) table layouts_of

record Headed (g : Geometry) (t : Table) (layouts : Layouts) (commit : Commit) (commits : List Commit) (end : Table) (ends : Layouts) : Type 0 where
  next : Table
  nexts : Layouts
  one : CommitCarries g t layouts next nexts commit
  later : Chain g next nexts commits commit.group end ends

headed : (g : Geometry) (t : Table) (layouts : Layouts) (commit : Commit) (commits : List Commit) (end : Table) (ends : Layouts) → Chain g t layouts (commit ∷ commits) commit.group end ends
    → Headed g t layouts commit commits end ends
unfolding CommitsCarry
headed g t layouts commit commits end ends chain =
    let told : CommitsCarry g t layouts (commit ∷ commits_in commit.group commits) chain.table chain.layouts_of =
    subst (λ (l : List Commit). CommitsCarry g t layouts l chain.table chain.layouts_of) (commits_here commit.group commit commits refl) chain.carries in
    record { next = told.0; nexts = told.1; one = told.2; later = record { table = chain.table; layouts_of = chain.layouts_of; carries = told.3; alike = chain.alike } }

pub whole : (g : Geometry) (t : Table) (layouts : Layouts) (sectors : List Sector) (commits : List Commit) (ends : ℕ → Table) (lists : ℕ → Layouts) → CanEncode g t layouts sectors
    → AllByRecursion (λ (c : Commit). c.group < g.groups) commits → ((group : ℕ) → group < g.groups → Chain g t layouts commits group (ends group) (lists group))
    → Whole g t layouts commits ends lists
unfolding CommitsCarry
whole g t layouts sectors [] ends lists can all chains = record {
  table = t;
  layouts_of = layouts;
  carries = none g t layouts;
  alike = λ group lt.
      let chain = chains group lt in
      then_also group (ends group) chain.table t (lists group) chain.layouts_of layouts chain.alike
      (back group t chain.table layouts chain.layouts_of (equal group t chain.table layouts chain.layouts_of chain.carries.0 chain.carries.1));
}
whole g t layouts sectors (commit ∷ commits) ends lists can all chains =
    let k : ℕ = commit.group in
    let head = headed g t layouts commit commits (ends k) (lists k) (chains k all.0) in
    let m : Table = head.next in
    let ml : Layouts = head.nexts in
    let only : ChangesOnly k t layouts m ml = head.one.only in
    let after = head.one.next sectors can in
    let later = whole g m ml sectors commits ends lists after all.1 (λ group lt. elim (cases_eq k group) [
      | inl same ↦ subst (λ (x : ℕ). Chain g m ml commits x (ends x) (lists x)) same head.later
      | inr apart ↦
          let chain = chains group lt in
          let told : CommitsCarry g t layouts (commits_in group commits) chain.table chain.layouts_of =
          subst (λ (l : List Commit). CommitsCarry g t layouts l chain.table chain.layouts_of) (commits_elsewhere group commit commits apart) chain.carries in
          let alike : AreAlikeIn group t layouts m ml = record { chunks = only.chunks group (λ e. apart (sym e)); layout = only.layouts_of group (λ e. apart (sym e)) } in
          let put = moved_all g group t chain.table m layouts chain.layouts_of ml sectors sectors (commits_in group commits) (all_of group commits) told can after alike in
          record {
            table = put.table;
            layouts_of = put.layouts;
            carries = put.carries;
            alike = then_also group (ends group) chain.table put.table (lists group) chain.layouts_of put.layouts chain.alike put.own_group;
          }
    ]) in
    record { table = later.table; layouts_of = later.layouts_of; carries = more g t m later.table layouts ml later.layouts_of commit commits head.one later.carries; alike = later.alike }
