-- A change of one inode leads to the group of the next table, and the places that it touches are enough.
use Rattle.std.proofs.Common.{◌≡◌, ◌≢◌, ◌<◌, ◌+◌, ◌*◌, ◌%◌, ◌/◌, ◌++◌, ℕ, Bool, true, false, List, [], ◌∷◌, Some, None, Option, length, cond, refl, ap, sym, subst, ◌∙◌, arith}
use Rattle.std.specs.Prelude.{IfSome, is_none, is_some, ◌||◌}
use Rattle.std.specs.List.{range_with_len}
use Rattle.life_limits.specs.declared.TheConstants.{BLOCK_SECTORS, BUCKETS, GROUP_NUMBERS}
use Rattle.life_bytes.specs.declared.sector.Sector.{Sector}
use Rattle.geometry.specs.declared.shape.Geometry.{Geometry}
use Rattle.geometry.specs.Places.{number_in}
use Rattle.geometry.specs.Shape.{IsGeometry}
use Rattle.inode_core.specs.declared.shape.Core.{Core}
use Rattle.life_table.specs.declared.types.Row.{Row}
use Rattle.life_table.specs.declared.table.Inode.{Inode}
use Rattle.life_table.specs.declared.table.Table.{Table}
use Rattle.life_table.specs.Table.{Group, group_at, inode_in, inode_of, set_inode, with_group, with_inode}
use Rattle.life_table.specs.WellFormed.{IsTable}
use Rattle.sound_image.specs.Places.{bitmap_sectors, header_place}
use Rattle.sound_image.specs.Encoding.{AreLayouts, CanEncode, Layouts, bucket_list, core_for, head_of, is_unlinked_row, layout_of, next_in}
use Rattle.encoded_changes.specs.Carry.{ChangesOnly}
use Rattle.encoded_changes.specs.Changes.{FollowInode, HaveSameBlocks, PutsFirst, Relists, TakesOut}
use Rattle.change_images.specs.Enough.{AreEnough, AreEnoughFor, IsInodeOf, bitmap_places, chunk_places, in_order}
use Rattle.group_space.specs.Space.{Changed, IsSpaceOf, changed_space}
use Rattle.group_ops.specs.declared.delta.Head.{Head}
use Rattle.group_ops.specs.declared.delta.Prior.{Prior}
use Rattle.group_ops.specs.declared.delta.Delta.{Delta}
use Rattle.group_ops.specs.Buffers.{Buffers}
use Rattle.group_ops.specs.Calls.{relisted}
use Rattle.group_ops.specs.Relinks.{IsPrior, Relinks, StandsFor}
use Rattle.group_ops.specs.Represents.{IsGroupOf, incore_for}
use Rattle.group_ops.specs.Staging.{Leads, inodes_touched, own_touched, touched}
use Rattle.group_ops.specs.Values.{StateValue}
use Rattle.group_ops.proofs.Changed.{changed}
use Rattle.group_ops.proofs.Relisting.{of_is, others_stay, page_stays, prior_in_bucket, relists, with_is}
use Rattle.group_ops.proofs.Told.{blank, can_encode}

-- ---- what the laws say

abbrev pub Follows : Type 0
Follows = (g : Geometry) (t : Table) (layouts others : Layouts) (image : List Sector) (number : ℕ) (old new : Inode) → CanEncode g t layouts image → inode_of t number ≡ Some old
    → IsTable (with_inode t number new) → FollowInode layouts number old new others → CanEncode g (with_inode t number new) others image

abbrev pub OwnGroup : Type 0
OwnGroup = (t : Table) (group : ℕ) (chunks : Group) → group < length t.groups → group_at (with_group t group chunks) group ≡ chunks

abbrev pub OnlyGroup : Type 0
OnlyGroup = (t : Table) (layouts others : Layouts) (group : ℕ) (chunks : Group) → ((other : ℕ) → other ≢ group → layout_of others other ≡ layout_of layouts other)
    → ChangesOnly group t layouts (with_group t group chunks) others

-- ---- the lists as the inode follows

pub follow_inode : (t : Table) (layouts : Layouts) (group agino : ℕ) (old new : Inode) (was unlinked : Bool) → is_unlinked_row old.row ≡ was → is_unlinked_row new.row ≡ unlinked
    → AreLayouts t layouts → group < length t.groups → agino < GROUP_NUMBERS
    → FollowInode layouts (number_in group agino) old new (relisted layouts group agino was unlinked)
follow_inode t layouts group agino old new was unlinked w n are low small =
    let others : Layouts = relisted layouts group agino was unlinked in
    let own : group ≡ (group * GROUP_NUMBERS + agino) / GROUP_NUMBERS = omega (arith, small) in
    let place : agino ≡ (group * GROUP_NUMBERS + agino) % GROUP_NUMBERS = omega (arith, small) in
    subst (λ (x : Bool). Relists layouts ((group * GROUP_NUMBERS + agino) / GROUP_NUMBERS) ((group * GROUP_NUMBERS + agino) % GROUP_NUMBERS) x (is_unlinked_row new.row) others) (sym w)
    (subst (λ (x : Bool). Relists layouts ((group * GROUP_NUMBERS + agino) / GROUP_NUMBERS) ((group * GROUP_NUMBERS + agino) % GROUP_NUMBERS) was x others) (sym n)
    (subst (λ (g : ℕ). Relists layouts g ((group * GROUP_NUMBERS + agino) % GROUP_NUMBERS) was unlinked others) own
    (subst (λ (a : ℕ). Relists layouts group a was unlinked others) place (relists t layouts group agino was unlinked are low))))

-- ---- a change of one inode

pub leads : Follows → OwnGroup → OnlyGroup → (s : StateValue) (d : Delta) (t : Table) (layouts : Layouts) (old new : Inode) (was unlinked : Bool) → IsGeometry s.geometry
    → s.group < s.geometry.groups → IsGroupOf s t layouts → d.agino < GROUP_NUMBERS → inode_in (group_at t s.group) d.agino ≡ Some old
    → is_unlinked_row old.row ≡ was → is_unlinked_row new.row ≡ unlinked
    → IsTable (with_inode t (number_in s.group d.agino) new)
    → d.inode ≡ incore_for (relisted layouts s.group d.agino was unlinked) s.group d.agino new
    → Relinks s t layouts (relisted layouts s.group d.agino was unlinked) d.agino d.head d.prior
    → IsSpaceOf s.geometry.blocks (set_inode (group_at t s.group) d.agino new) (changed_space s.space d.space)
    → d.chunk ≡ None
    → AreEnoughFor s.geometry t layouts (relisted layouts s.group d.agino was unlinked) s.group d.agino new (touched s.page d)
    → Leads s d t layouts (with_inode t (number_in s.group d.agino) new) (relisted layouts s.group d.agino was unlinked)
leads follows own_group only_group s d t layouts old new was unlinked shape inside is small at w n table own relinks space none enough =
    let others : Layouts = relisted layouts s.group d.agino was unlinked in
    let number : ℕ = number_in s.group d.agino in
    let u : Table = with_inode t number new in
    let chunks : Group = set_inode (group_at t s.group) d.agino new in
    let low : s.group < length t.groups = omega (arith, inside, is.groups) in
    let same : u ≡ with_group t s.group chunks = with_is t s.group d.agino new small in
    let can = can_encode s t layouts shape is in
    let after_can = follows s.geometry t layouts others (blank s.geometry) number old new can (of_is t s.group d.agino small ∙ at) table
    (follow_inode t layouts s.group d.agino old new was unlinked w n is.layouts_of low small) in
    let group : group_at u s.group ≡ chunks = ap (λ (v : Table). group_at v s.group) same ∙ own_group t s.group chunks low in
    let page = page_stays t layouts s.group d.agino was unlinked is.layouts_of low in
    record {
      before = is;
      after = changed s d t layouts u others old new (record {
        before = is;
        can = after_can;
        found = at;
        group = group;
        page = page;
        relinks = relinks;
        own = own;
        space = subst (λ (cs : Group). IsSpaceOf s.geometry.blocks cs (changed_space s.space d.space)) (sym group) space;
        no_chunk = none;
      });
      only = subst (λ (v : Table). ChangesOnly s.group t layouts v others) (sym same) (only_group t layouts others s.group chunks (λ other apart. others_stay layouts s.group d.agino was unlinked other apart));
      enough = subst (λ (cs : Group). AreEnough s.geometry s.group layouts (group_at t s.group) others cs (touched s.page d)) (sym group) enough;
      prior = relinks.before;
    }

-- ---- the places of a change that leaves the space and adds no chunk

abbrev head_places : Option Head → List ℕ
head_places head = cond (is_some head) (header_place ∷ []) []

abbrev pub own_or_chunk : ℕ → Option Prior → Option Buffers → List ℕ
own_or_chunk agino prior None = own_touched agino prior
own_or_chunk agino prior (Some chunk) = chunk_places chunk.start

abbrev pub all_touched : ℕ → Option Head → Option Prior → ℕ → Changed → Option Buffers → List ℕ
all_touched page head prior agino space chunk =
    cond (is_some head || is_some space.records) (header_place ∷ []) []
    ++ (cond (is_some space.free) (bitmap_places (range_with_len 0 bitmap_sectors)) []
    ++ (cond (is_some space.records) (range_with_len (BLOCK_SECTORS * page) BLOCK_SECTORS) [] ++ own_or_chunk agino prior chunk))

touched_by : (page : ℕ) (d : Delta) (chunk : Option Buffers) → inodes_touched d chunk ≡ own_or_chunk d.agino d.prior chunk
touched_by page d None = refl
touched_by page d (Some chunk) = refl

pub touched_is : (page : ℕ) (d : Delta) (head : Option Head) (prior : Option Prior) (space : Changed) (chunk : Option Buffers) → d.head ≡ head → d.prior ≡ prior → d.space ≡ space → d.chunk ≡ chunk
    → touched page d ≡ all_touched page head prior d.agino space chunk
touched_is page d head prior space chunk h p s c =
    ap (λ (l : List ℕ). cond (is_some d.head || is_some d.space.records) (header_place ∷ []) []
    ++ (cond (is_some d.space.free) (bitmap_places (range_with_len 0 bitmap_sectors)) []
    ++ (cond (is_some d.space.records) (range_with_len (BLOCK_SECTORS * page) BLOCK_SECTORS) [] ++ l))) (touched_by page d d.chunk)
    ∙ ap (λ (o : Option Head). all_touched page o d.prior d.agino d.space d.chunk) h
    ∙ ap (λ (o : Option Prior). all_touched page head o d.agino d.space d.chunk) p
    ∙ ap (λ (o : Changed). all_touched page head prior d.agino o d.chunk) s
    ∙ ap (λ (o : Option Buffers). all_touched page head prior d.agino space o) c

-- ---- links and unlinks

abbrev no_change : Changed
no_change = record { records = None; free = None }

abbrev pub AloneIsEnough : Type 0
AloneIsEnough = (g : Geometry) (t : Table) (layouts : Layouts) (image : List Sector) (group agino : ℕ) (old new : Inode) → IsInodeOf g t layouts image group agino old
    → is_none new.row ≡ is_none old.row → HaveSameBlocks old new → AreEnoughFor g t layouts layouts group agino new (agino ∷ [])

abbrev pub PutIsEnough : Type 0
PutIsEnough = (g : Geometry) (t : Table) (layouts others : Layouts) (image : List Sector) (group agino : ℕ) (old new : Inode) → IsInodeOf g t layouts image group agino old
    → is_none new.row ≡ is_none old.row → HaveSameBlocks old new → PutsFirst layouts others group agino
    → AreEnoughFor g t layouts others group agino new (header_place ∷ agino ∷ [])

abbrev pub FirstIsEnough : Type 0
FirstIsEnough = (g : Geometry) (t : Table) (layouts others : Layouts) (image : List Sector) (group agino : ℕ) (old new : Inode) → IsInodeOf g t layouts image group agino old
    → is_none new.row ≡ is_none old.row → HaveSameBlocks old new → TakesOut layouts others group agino → head_of (bucket_list layouts group (agino % BUCKETS)) ≡ agino
    → AreEnoughFor g t layouts others group agino new (header_place ∷ agino ∷ [])

abbrev pub LaterIsEnough : Type 0
LaterIsEnough = (g : Geometry) (t : Table) (layouts others : Layouts) (image : List Sector) (group agino prior : ℕ) (old new other : Inode) → IsInodeOf g t layouts image group agino old
    → is_none new.row ≡ is_none old.row → HaveSameBlocks old new → TakesOut layouts others group agino
    → inode_in (group_at t group) prior ≡ Some other → next_in (bucket_list layouts group (agino % BUCKETS)) prior ≡ agino
    → AreEnoughFor g t layouts others group agino new (in_order prior agino)

links_enough_by : AloneIsEnough → PutIsEnough → FirstIsEnough → LaterIsEnough
    → (s : StateValue) (t : Table) (layouts : Layouts) (agino : ℕ) (old new : Inode) (was unlinked : Bool) (head : Option Head) (prior : Option Prior)
    → IsInodeOf s.geometry t layouts (blank s.geometry) s.group agino old → AreLayouts t layouts → s.group < length t.groups → agino < GROUP_NUMBERS
    → is_none new.row ≡ is_none old.row → HaveSameBlocks old new
    → StandsFor layouts s.group agino was unlinked head prior → IfSome prior (IsPrior s t layouts (relisted layouts s.group agino was unlinked) agino)
    → AreEnoughFor s.geometry t layouts (relisted layouts s.group agino was unlinked) s.group agino new (head_places head ++ own_touched agino prior)
links_enough_by alone put first later s t layouts agino old new false true (Some head) None is are low small same blocks stands before =
    put s.geometry t layouts (relisted layouts s.group agino false true) (blank s.geometry) s.group agino old new is same blocks (relists t layouts s.group agino false true are low)
links_enough_by alone put first later s t layouts agino old new false true (Some head) (Some prior) is are low small same blocks stands before = absurd stands
links_enough_by alone put first later s t layouts agino old new false true None prior is are low small same blocks stands before = absurd stands
links_enough_by alone put first later s t layouts agino old new true false (Some head) None is are low small same blocks stands before =
    first s.geometry t layouts (relisted layouts s.group agino true false) (blank s.geometry) s.group agino old new is same blocks (relists t layouts s.group agino true false are low) stands
links_enough_by alone put first later s t layouts agino old new true false (Some head) (Some prior) is are low small same blocks stands before = absurd stands
links_enough_by alone put first later s t layouts agino old new true false None (Some prior) is are low small same blocks stands before =
    later s.geometry t layouts (relisted layouts s.group agino true false) (blank s.geometry) s.group agino prior.agino old new before.inode is same blocks (relists t layouts s.group agino true false are low)
    before.found (prior_in_bucket t layouts s.group prior.agino agino are low small before.points)
links_enough_by alone put first later s t layouts agino old new true false None None is are low small same blocks stands before = absurd stands
links_enough_by alone put first later s t layouts agino old new false false head prior is are low small same blocks stands before =
    subst (λ (o : Option Head). AreEnoughFor s.geometry t layouts layouts s.group agino new (head_places o ++ own_touched agino prior)) (sym stands.0)
    (subst (λ (o : Option Prior). AreEnoughFor s.geometry t layouts layouts s.group agino new (own_touched agino o)) (sym stands.1)
    (alone s.geometry t layouts (blank s.geometry) s.group agino old new is same blocks))
links_enough_by alone put first later s t layouts agino old new true true head prior is are low small same blocks stands before =
    subst (λ (o : Option Head). AreEnoughFor s.geometry t layouts layouts s.group agino new (head_places o ++ own_touched agino prior)) (sym stands.0)
    (subst (λ (o : Option Prior). AreEnoughFor s.geometry t layouts layouts s.group agino new (own_touched agino o)) (sym stands.1)
    (alone s.geometry t layouts (blank s.geometry) s.group agino old new is same blocks))

or_false : (b : Bool) → (b || false) ≡ b
or_false true = refl
or_false false = refl

pub links_enough : AloneIsEnough → PutIsEnough → FirstIsEnough → LaterIsEnough
    → (s : StateValue) (d : Delta) (t : Table) (layouts : Layouts) (old new : Inode) (was unlinked : Bool)
    → IsInodeOf s.geometry t layouts (blank s.geometry) s.group d.agino old → AreLayouts t layouts → s.group < length t.groups → d.agino < GROUP_NUMBERS
    → is_none new.row ≡ is_none old.row → HaveSameBlocks old new
    → d.space ≡ no_change → d.chunk ≡ None
    → StandsFor layouts s.group d.agino was unlinked d.head d.prior → IfSome d.prior (IsPrior s t layouts (relisted layouts s.group d.agino was unlinked) d.agino)
    → AreEnoughFor s.geometry t layouts (relisted layouts s.group d.agino was unlinked) s.group d.agino new (touched s.page d)
links_enough alone put first later s d t layouts old new was unlinked is are low small same blocks space chunk stands before =
    let places = touched_is s.page d d.head d.prior no_change None refl refl space chunk
    ∙ ap (λ (b : Bool). cond b (header_place ∷ []) [] ++ own_touched d.agino d.prior) (or_false (is_some d.head)) in
    subst (λ (l : List ℕ). AreEnoughFor s.geometry t layouts (relisted layouts s.group d.agino was unlinked) s.group d.agino new l) (sym places)
    (links_enough_by alone put first later s t layouts d.agino old new was unlinked d.head d.prior is are low small same blocks stands before)

-- ---- an inode with other links

pub relinked_core : (generation : ℕ) (row : Row) (links before next after : ℕ) (core : Core) → core ≡ core_for generation (Some row) before → next ≡ after
    → (let c : Core = record { live = core.live; links = links; size = core.size; blocks = core.blocks; extents = core.extents; generation = core.generation; next = next } in c)
    ≡ core_for generation (Some (record { links = links; blocks = row.blocks; opens = row.opens })) after
unfolding core_for
relinked_core generation row links before next after core is e =
    ap (λ (k : Core). let c : Core = record { live = k.live; links = links; size = k.size; blocks = k.blocks; extents = k.extents; generation = k.generation; next = next } in c) is
    ∙ ap (λ (n : ℕ). core_for generation (Some (let r : Row = record { links = links; blocks = row.blocks; opens = row.opens } in r)) n) e
