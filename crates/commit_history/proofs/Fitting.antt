-- Commits that carry a table on fit the log.
use Rattle.std.proofs.Common.{◌≡◌, ◌<◌, ◌≤◌, ◌+◌, ◌-◌, ◌*◌, ◌%◌, ℕ, Bool, false, cond, List, [], ◌∷◌, ◌++◌, Option, None, Some, length, leb, ltb, refl, ap, sym, subst, ◌∙◌, arith}
use Rattle.std.specs.Prelude.{◌≢◌, ◌&&◌}
use Rattle.std.specs.List.{All, AllByRecursion}
use Rattle.std.specs.Option.{option_map}
use Rattle.std.proofs.lemmas.Bool.{cond-false, lt-leb, and_right}
use Rattle.std.proofs.lemmas.Option.{none-some}
use Rattle.std.proofs.lemmas.List.Elements.{All-from_recursion, All-weaker, recursion_from_All}
use Rattle.life_limits.specs.declared.TheConstants.{BLOCK_SECTORS, FIRST_DATA_BLOCK, FIRST_PAGE_BLOCK}
use Rattle.life_bytes.specs.declared.sector.Sector.{Sector}
use Rattle.geometry.specs.declared.shape.Geometry.{Geometry}
use Rattle.geometry.specs.Places.{anchor_of, group_sectors}
use Rattle.log_record.specs.declared.image.Commit.{Commit}
use Rattle.log_record.specs.declared.image.Image.{Image}
use Rattle.log_image.specs.Log.{IsGroupImage}
use Rattle.log_batch.specs.Newest.{IsCommit, commit_images}
use Rattle.life_table.specs.declared.table.Inode.{Inode}
use Rattle.life_table.specs.declared.table.Table.{Table}
use Rattle.life_table.specs.Table.{Group, group_at, inode_in}
use Rattle.sound_image.specs.Places.{sector_in}
use Rattle.sound_image.specs.Encoding.{Layouts, CanEncode, inode_sector, metadata, page_bytes, page_of, page_place}
use Rattle.sound_image.specs.Places.{part}
use Rattle.encoded_changes.specs.Carry.{IsOfGroup}
use Rattle.commit_history.specs.Carried.{CommitCarries, CommitsCarry}

abbrev pub HasPlace : Type 0
HasPlace = (g : Geometry) (t : Table) (layouts : Layouts) (image : List Sector) (group agino : ℕ) (inode : Inode) → CanEncode g t layouts image → group < g.groups
    → inode_in (group_at t group) agino ≡ Some inode → (FIRST_DATA_BLOCK * BLOCK_SECTORS ≤ agino) × (agino < group_sectors g)

-- ---- nothing of a table stands in the first sector of a group

page_is : (layouts : Layouts) (group : ℕ) → page_place layouts group ≡ BLOCK_SECTORS * page_of layouts group
unfolding page_place
page_is layouts group = refl

at_first : (g : Geometry) (layouts : Layouts) (group : ℕ) (chunks : Group) → 16 ≤ page_place layouts group → inode_in chunks 0 ≡ None → metadata g layouts group chunks 0 ≡ None
unfolding metadata
at_first g layouts group chunks low none =
    let p : ℕ = page_place layouts group in
    let past : leb p 0 ≡ false = lt-leb p 0 (omega (arith, low)) in
    ap (λ (b : Bool). cond (b && ltb 0 (p + BLOCK_SECTORS)) (Some (part (0 - p) (page_bytes g layouts group chunks))) (option_map (inode_sector g layouts group 0) (inode_in chunks 0))) past
    ∙ ap (option_map (inode_sector g layouts group 0)) none

no_inode : (g : Geometry) (t : Table) (layouts : Layouts) (image : List Sector) (group : ℕ) → HasPlace → CanEncode g t layouts image → group < g.groups → inode_in (group_at t group) 0 ≡ None
no_inode g t layouts image group has_place can lt =
    elim (inode_in (group_at t group) 0) as (λ o. inode_in (group_at t group) 0 ≡ o → o ≡ None) [
      | None ↦ λ is. refl
      | Some inode ↦ λ is. let low = (has_place g t layouts image group 0 inode can lt is).0 in absurd (omega (arith, low))
    ] refl

nothing_first : (g : Geometry) (t : Table) (layouts : Layouts) (image : List Sector) (group : ℕ) → HasPlace → CanEncode g t layouts image → group < g.groups
    → metadata g layouts group (group_at t group) 0 ≡ None
nothing_first g t layouts image group has_place can lt =
    let low = (can.layouts_of.pages group (omega (arith, lt, can.groups))).0 in
    at_first g layouts group (group_at t group) (omega (arith, low, page_is layouts group)) (no_inode g t layouts image group has_place can lt)

-- ---- an image of a group

in_image : (groups size group place : ℕ) → group < groups → place < size → group * size + place < groups * size
in_image groups size group place lt low = let all : (group + 1) * size ≤ groups * size = grind arith in omega arith

sector_is : (g : Geometry) (group place : ℕ) → sector_in g group place ≡ group * group_sectors g + place
unfolding sector_in
sector_is g group place = refl

of_groups : (g : Geometry) (t : Table) (layouts : Layouts) (image : List Sector) (group : ℕ) (one : Image) → HasPlace → CanEncode g t layouts image → group < g.groups
    → IsOfGroup g layouts group (group_at t group) one → IsGroupImage (anchor_of g) one
of_groups g t layouts image group one has_place can lt is =
    let home : one.home ≡ group * group_sectors g + is.place = is.home ∙ sector_is g group is.place in
    let within : is.place < group_sectors g = is.within in
    let some : is.place ≢ 0 = λ e. none-some one.sector.bytes (sym (nothing_first g t layouts image group has_place can lt) ∙ ap (metadata g layouts group (group_at t group)) (sym e) ∙ is.bytes) in
    (omega (arith, home, some), omega (arith, home, in_image g.groups (group_sectors g) group is.place lt within))

pub one_fits : (g : Geometry) (t u : Table) (layouts others : Layouts) (sectors : List Sector) (commit : Commit) → HasPlace → CanEncode g t layouts sectors → CommitCarries g t layouts u others commit
    → IsCommit commit × All (IsGroupImage (anchor_of g)) commit.images
one_fits g t u layouts others sectors commit has_place can carries = (
  record { few = carries.few; ascending = carries.images.ascend },
  All-weaker (IsOfGroup g others commit.group (group_at u commit.group)) (IsGroupImage (anchor_of g))
      (λ one is. of_groups g u others sectors commit.group one has_place (carries.next sectors can) carries.group is) commit.images carries.images.carry.right,
)

all-append : {X : Type 0} (P : X → Type 0) (xs ys : List X) → AllByRecursion P xs → AllByRecursion P ys → AllByRecursion P (xs ++ ys)
all-append P [] ys a b = b
all-append P (x ∷ xs) ys a b = (a.0, all-append P xs ys a.1 b)

each_fits : (g : Geometry) (t u : Table) (layouts others : Layouts) (sectors : List Sector) (commits : List Commit) → HasPlace → CanEncode g t layouts sectors → CommitsCarry g t layouts commits u others
    → AllByRecursion IsCommit commits × AllByRecursion (IsGroupImage (anchor_of g)) (commit_images commits)
unfolding CommitsCarry
each_fits g t u layouts others sectors [] has_place can carries = (tt, tt)
each_fits g t u layouts others sectors (commit ∷ commits) has_place can carries =
    let here = one_fits g t carries.0 layouts carries.1 sectors commit has_place can carries.2 in
    let rest = each_fits g carries.0 u carries.1 others sectors commits has_place (carries.2.next sectors can) carries.3 in (
      (here.0, rest.0),
      all-append (IsGroupImage (anchor_of g)) commit.images (commit_images commits) (recursion_from_All (IsGroupImage (anchor_of g)) commit.images here.1) rest.1,
    )

pub all_fit : (g : Geometry) (t u : Table) (layouts others : Layouts) (sectors : List Sector) (commits : List Commit) → HasPlace → CanEncode g t layouts sectors → CommitsCarry g t layouts commits u others
    → All IsCommit commits × All (IsGroupImage (anchor_of g)) (commit_images commits)
all_fit g t u layouts others sectors commits has_place can carries =
    let each = each_fits g t u layouts others sectors commits has_place can carries in
    (All-from_recursion IsCommit commits each.0, All-from_recursion (IsGroupImage (anchor_of g)) (commit_images commits) each.1)
