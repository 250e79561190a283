-- A change of the blocks of an inode in use.
use Rattle.std.proofs.Common.{◌≡◌, ◌<◌, ◌≤◌, ◌+◌, ◌-◌, ◌*◌, ◌/◌, ◌%◌, ◌++◌, ℕ, zero, suc, Bool, true, false, cond, eqb, ltb, List, [], ◌∷◌, Some, None, Option, length, inl, inr, refl, ap, sym, subst, ◌∙◌, arith}
use Rattle.std.specs.Prelude.{All, Contains, drop, is_none, is_some, take}
use Rattle.std.proofs.lemmas.List.{length-append, length-drop, take-append-drop, take_all}
use Rattle.std.proofs.lemmas.List.Elements.{All-append, All-filter, All-take}
use Rattle.std.specs.List.{AllByRecursion, filter, range_with_len}
use Rattle.std.proofs.lemmas.List.FromFn.{length-range_with_len}
use Rattle.std.specs.List.Sorted.{IsStrictlyIncreasing}
use Rattle.std.proofs.lemmas.Bool.{cases_lt, ne_eqb, cond-true, cond-false, eq-eqb, lt-ltb, ltb-true}
use Rattle.life_limits.specs.declared.TheConstants.{BLOCK_SECTORS, GROUP_NUMBERS, MAX_BLOCKS, MAX_EXTENTS}
use Rattle.life_bytes.specs.declared.sector.Sector.{Sector}
use Rattle.geometry.specs.declared.shape.Geometry.{Geometry}
use Rattle.geometry.specs.Places.{number_in}
use Rattle.geometry.specs.Shape.{IsGeometry}
use Rattle.inode_core.specs.declared.shape.Core.{Core}
use Rattle.inode_cache.specs.declared.inode.Incore.{Incore}
use Rattle.life_table.specs.declared.key.Key.{Key}
use Rattle.life_table.specs.declared.types.Row.{Row}
use Rattle.life_table.specs.declared.table.Inode.{Inode}
use Rattle.life_table.specs.declared.table.Table.{Table}
use Rattle.extent_fork.specs.Runs.{runs}
use Rattle.life_table.specs.declared.types.Call.TheVariants as call
use Rattle.life_table.specs.declared.types.Reply.TheVariants as reply
use Rattle.life_table.specs.Legal.{KeyReplies, Permits, after_call, cut_blocks, free_of, grown_blocks, with_changed}
use Rattle.life_table.specs.Replies.{key_reply, reply_of}
use Rattle.life_table.specs.Space.{free_blocks, is_free_block, row_blocks, times}
use Rattle.life_table.specs.Table.{Group, group_at, in_use, inode_in, row_in_life, row_of, set_inode, with_inode, with_row}
use Rattle.life_table.specs.WellFormed.{IsDataBlock, IsRow, IsTable}
use Rattle.sound_image.specs.Places.{bitmap_sectors, header_place}
use Rattle.sound_image.specs.Encoding.{Layouts, core_for, is_unlinked_row}
use Rattle.change_images.specs.Enough.{AreEnoughFor, AreParts, IsInodeOf, bitmap_part, bitmap_places}
use Rattle.group_space.specs.Space.{IsSpaceOf, changed_space}
use Rattle.group_ops.specs.declared.delta.Delta.{Delta}
use Rattle.group_ops.specs.declared.delta.Head.{Head}
use Rattle.group_ops.specs.declared.delta.Prior.{Prior}
use Rattle.group_ops.specs.Calls.{relisted, relisted_by}
use Rattle.group_ops.specs.Relinks.{Relinks, next_of}
use Rattle.group_ops.specs.Represents.{IsGroupOf, incore_for}
use Rattle.group_ops.specs.Staging.{Leads, touched}
use Rattle.group_ops.specs.Telling.{HasRowAt, holding_blocks, with_blocks}
use Rattle.group_ops.specs.Values.{StateValue}
use Rattle.group_ops.proofs.Keyed.{RowsStand, TablesStay, call_leads, row_set}
use Rattle.group_ops.proofs.Relisting.{heads_stay, listed_again, of_is, with_is}
use Rattle.group_ops.proofs.RowChanges.{Follows, OnlyGroup, OwnGroup, leads, touched_is}
use Rattle.group_ops.proofs.SetInodes.{inode_same}
use Rattle.group_ops.proofs.Told.{blank, can_encode, own_inode}

-- ---- what the laws say

abbrev pub BitsAreEnough : Type 0
BitsAreEnough = (g : Geometry) (t : Table) (layouts : Layouts) (image : List Sector) (group agino : ℕ) (old new : Inode) (parts : List ℕ) → IsInodeOf g t layouts image group agino old
    → is_none new.row ≡ is_none old.row → AreParts old new parts → AreEnoughFor g t layouts layouts group agino new (bitmap_places parts ++ agino ∷ [])

abbrev pub RowsAreWithin : Type 0
RowsAreWithin = (t : Table) (key : Key) (row : Row) → IsTable t → row_of t key ≡ Some row → IsRow key.generation row

abbrev pub BlocksAreData : Type 0
BlocksAreData = (t : Table) (key : Key) (row : Row) → IsTable t → row_of t key ≡ Some row → AllByRecursion (IsDataBlock t.blocks) row.blocks

-- ---- the core

held_core : (generation : ℕ) (row : Row) (next : ℕ) (core : Core) (blocks : List ℕ) → core ≡ core_for generation (Some row) next
    → (holding_blocks core blocks).core ≡ core_for generation (Some (record { links = row.links; blocks = blocks; opens = row.opens })) next
unfolding core_for
held_core generation row next core blocks is = ap (λ (k : Core). (holding_blocks k blocks).core) is

pub held : (layouts : Layouts) (group agino : ℕ) (old : Inode) (row : Row) (core : Core) (blocks : List ℕ) → old.row ≡ Some row → core ≡ (incore_for layouts group agino old).core
    → holding_blocks core blocks ≡ incore_for layouts group agino (with_blocks old row blocks)
held layouts group agino old row core blocks used is =
    ap (λ (k : Core). let i : Incore = record { core = k; blocks = blocks } in i)
    (held_core old.generation row (next_of layouts group agino) core blocks (is ∙ ap (λ (o : Option Row). core_for old.generation o (next_of layouts group agino)) used))

-- ---- the bitmap's sectors

pub none_above : (blocks : List ℕ) (limit block : ℕ) → AllByRecursion (IsDataBlock limit) blocks → limit ≤ block → times block blocks ≡ 0
unfolding times
none_above [] limit block all high = refl
none_above (b ∷ bs) limit block all high =
    let apart : eqb block b ≡ false = ne_eqb block b (λ e. omega (arith, e, all.0, high)) in
    let rest = none_above bs limit block all.1 high in
    let none : cond {A = ℕ} (eqb block b) 1 0 ≡ 0 = ap (λ (x : Bool). cond {A = ℕ} x 1 0) apart in
    omega (arith, none, rest)

-- the row of an inode that is there
pub row_there : (t : Table) (group agino : ℕ) (inode : Inode) (row : Row) → agino < GROUP_NUMBERS → inode_in (group_at t group) agino ≡ Some inode → inode.row ≡ Some row
    → row_of t (record { number = number_in group agino; generation = inode.generation }) ≡ Some row
row_there t group agino inode row small at used =
    ap (λ (o : Option Inode). row_in_life inode.generation o) (of_is t group agino small ∙ at)
    ∙ cond-true (eqb inode.generation inode.generation) inode.row None (eq-eqb inode.generation inode.generation refl) ∙ used

abbrev pub parts : List ℕ
parts = range_with_len 0 bitmap_sectors

has_part : (part : ℕ) → part < 4 → Contains parts part
has_part zero low = (0, omega arith, refl)
has_part (suc zero) low = (1, omega arith, refl)
has_part (suc (suc zero)) low = (2, omega arith, refl)
has_part (suc (suc (suc zero))) low = (3, omega arith, refl)
has_part (suc (suc (suc (suc n)))) low = absurd (omega (arith, low))

ascends : IsStrictlyIncreasing parts
ascends zero low = omega arith
ascends (suc zero) low = omega arith
ascends (suc (suc zero)) low = omega arith
ascends (suc (suc (suc n))) low = absurd (omega (arith, low))

within : All (λ k. k < bitmap_sectors) parts
within zero d low = omega arith
within (suc zero) d low = omega arith
within (suc (suc zero)) d low = omega arith
within (suc (suc (suc zero))) d low = omega arith
within (suc (suc (suc (suc n)))) d low = absurd (omega (arith, low))

pub all_parts : (old new : Inode) → ((block : ℕ) → MAX_BLOCKS ≤ block → times block (row_blocks new.row) ≡ times block (row_blocks old.row)) → AreParts old new parts
all_parts old new same = record {
  ascend = ascends;
  within = within;
  whole = λ block. elim (cases_lt block MAX_BLOCKS) [
    | inl low ↦ inr (has_part (bitmap_part block) (omega (arith, low)))
    | inr high ↦ inl (same block high)
  ];
}

-- ---- the places

no_records : (page : ℕ) (d : Delta) → d.head ≡ None → d.prior ≡ None → d.chunk ≡ None → d.space.records ≡ None → is_some d.space.free ≡ true
    → touched page d ≡ bitmap_places parts ++ d.agino ∷ []
no_records page d head prior chunk records free =
    touched_is page d None None d.space None head prior refl chunk
    ∙ ap (λ (b : Bool). cond b (header_place ∷ []) []
    ++ (cond (is_some d.space.free) (bitmap_places parts) [] ++ (cond b (range_with_len (BLOCK_SECTORS * page) BLOCK_SECTORS) [] ++ d.agino ∷ []))) (ap is_some records)
    ∙ ap (λ (b : Bool). cond b (bitmap_places parts) [] ++ d.agino ∷ []) free

-- ---- the change

pub blocks_lead : Follows → OwnGroup → OnlyGroup → BitsAreEnough → BlocksAreData → (s : StateValue) (d : Delta) (t : Table) (layouts : Layouts) (old : Inode) (row : Row) (core : Core) (blocks : List ℕ)
    → IsGeometry s.geometry → s.group < s.geometry.groups → d.agino < GROUP_NUMBERS → HasRowAt s d.agino t layouts old row
    → core ≡ (incore_for layouts s.group d.agino old).core → d.inode ≡ holding_blocks core blocks
    → IsTable (with_inode t (number_in s.group d.agino) (with_blocks old row blocks))
    → IsSpaceOf s.geometry.blocks (set_inode (group_at t s.group) d.agino (with_blocks old row blocks)) (changed_space s.space d.space)
    → d.head ≡ None → d.prior ≡ None → d.chunk ≡ None → d.space.records ≡ None → is_some d.space.free ≡ true
    → Leads s d t layouts (with_inode t (number_in s.group d.agino) (with_blocks old row blocks)) (relisted layouts s.group d.agino (eqb row.links 0) (eqb row.links 0))
blocks_lead follows own_group only_group bits are_data s d t layouts old row core blocks shape inside small has is holds table space head prior chunk records free =
    let new : Inode = with_blocks old row blocks in
    let b : Bool = eqb row.links 0 in
    let others : Layouts = relisted layouts s.group d.agino b b in
    let low : s.group < length t.groups = omega (arith, inside, has.group.groups) in
    let same : others ≡ layouts = listed_again layouts s.group d.agino b b refl in
    let u : Table = with_inode t (number_in s.group d.agino) new in
    let key : Key = record { number = number_in s.group d.agino; generation = old.generation } in
    let there : inode_in (group_at u s.group) d.agino ≡ Some new =
    ap (λ (v : Table). inode_in (group_at v s.group) d.agino) (with_is t s.group d.agino new small)
    ∙ ap (λ (cs : Group). inode_in cs d.agino) (own_group t s.group (set_inode (group_at t s.group) d.agino new) low)
    ∙ inode_same (group_at t s.group) d.agino old new has.inode_there in
    let old_data = are_data t key row has.group.table (row_there t s.group d.agino old row small has.inode_there has.used) in
    let new_data = are_data u key (let r : Row = record { links = row.links; blocks = blocks; opens = row.opens } in r) table (row_there u s.group d.agino new _ small there refl) in
    let few : t.blocks ≤ MAX_BLOCKS = has.group.table.most in
    let few_after : u.blocks ≤ MAX_BLOCKS = table.most in
    let stays : (block : ℕ) → MAX_BLOCKS ≤ block → times block (row_blocks new.row) ≡ times block (row_blocks old.row) = λ block high.
    none_above blocks u.blocks block new_data (omega (arith, high, few_after))
    ∙ sym (none_above row.blocks t.blocks block old_data (omega (arith, high, few)))
    ∙ ap (λ (o : Option Row). times block (row_blocks o)) (sym has.used) in
    let used : is_none new.row ≡ is_none old.row = ap is_none (sym has.used) in
    let isinode : IsInodeOf s.geometry t layouts (blank s.geometry) s.group d.agino old =
    record { encodes = can_encode s t layouts shape has.group; within = inside; found = has.inode_there } in
    let enough : AreEnoughFor s.geometry t layouts layouts s.group d.agino new (touched s.page d) =
    subst (λ (l : List ℕ). AreEnoughFor s.geometry t layouts layouts s.group d.agino new l) (sym (no_records s.page d head prior chunk records free))
    (bits s.geometry t layouts (blank s.geometry) s.group d.agino old new parts isinode used (all_parts old new stays)) in
    let relinks : Relinks s t layouts others d.agino d.head d.prior =
    subst (λ (l : Layouts). Relinks s t layouts l d.agino d.head d.prior) (sym same)
    (subst (λ (o : Option Head). Relinks s t layouts layouts d.agino o d.prior) (sym head)
    (subst (λ (o : Option Prior). Relinks s t layouts layouts d.agino None o) (sym prior) (heads_stay s t layouts d.agino has.group))) in
    leads follows own_group only_group s d t layouts old new b b shape inside has.group small has.inode_there (ap is_unlinked_row has.used) refl table
    (holds ∙ held layouts s.group d.agino old row core blocks has.used is ∙ ap (λ (l : Layouts). incore_for l s.group d.agino new) (sym same))
    relinks space chunk (subst (λ (l : Layouts). AreEnoughFor s.geometry t layouts l s.group d.agino new (touched s.page d)) (sym same) enough)

-- ---- free blocks

all_range : (from count : ℕ) → All (λ block. block < from + count) (range_with_len from count)
all_range from zero k d low = absurd (omega (arith, low))
all_range from (suc n) zero d low = omega arith
all_range from (suc n) (suc k) d low = let rest = all_range (from + 1) n k d (omega (arith, low)) in omega (arith, rest)

all_free : (blocks : ℕ) (chunks : Group) → All (λ block. block < blocks) (free_blocks blocks chunks)
unfolding free_blocks
all_free blocks chunks = All-filter (is_free_block blocks chunks) (λ block. block < blocks) (range_with_len 0 blocks) (λ k d low. let is = all_range 0 blocks k d low in omega (arith, is))

all_data : (limit : ℕ) (blocks : List ℕ) → AllByRecursion (IsDataBlock limit) blocks → All (λ block. block < limit) blocks
all_data limit [] all k d low = absurd (omega (arith, low))
all_data limit (b ∷ bs) all zero d low = all.0.1
all_data limit (b ∷ bs) all (suc k) d low = all_data limit bs all.1 k d (omega (arith, low))

all_below : (limit most : ℕ) (blocks : List ℕ) → limit ≤ most → All (λ block. block < limit) blocks → All (λ block. block < most) blocks
all_below limit most blocks le all k d low = let is = all k d low in omega (arith, is, le)

-- the blocks of a row and free ones are blocks that a group can have
pub grown_are_blocks : BlocksAreData → (t : Table) (key : Key) (row : Row) (chunks : Group) (count : ℕ) → IsTable t → row_of t key ≡ Some row
    → All (λ block. block < MAX_BLOCKS) (row.blocks ++ take count (free_blocks t.blocks chunks))
grown_are_blocks are_data t key row chunks count table has =
    let most : t.blocks ≤ MAX_BLOCKS = table.most in
    All-append (λ block. block < MAX_BLOCKS) row.blocks (take count (free_blocks t.blocks chunks))
    (all_below t.blocks MAX_BLOCKS row.blocks most (all_data t.blocks row.blocks (are_data t key row table has)))
    (All-take (λ block. block < MAX_BLOCKS) count (free_blocks t.blocks chunks) (all_below t.blocks MAX_BLOCKS (free_blocks t.blocks chunks) most (all_free t.blocks chunks)))

-- the free blocks of a key's group, as the state has them
pub free_is : (s : StateValue) (t : Table) (layouts : Layouts) (key : Key) → key.number / GROUP_NUMBERS ≡ s.group → IsGroupOf s t layouts
    → free_of t key ≡ free_blocks s.geometry.blocks (group_at t s.group)
free_is s t layouts key own is = ap (λ (n : ℕ). free_blocks n (group_at t (key.number / GROUP_NUMBERS))) is.blocks ∙ ap (λ (g : ℕ). free_blocks s.geometry.blocks (group_at t g)) own

-- ---- what a grow is answered

pub no_space : (t : Table) (key : Key) (row : Row) (count : ℕ) → row_of t key ≡ Some row → length (free_of t key) < count → reply_of t (call.Grow key count) ≡ reply.NoSpace
no_space t key row count has short =
    ap (λ (o : Option Row). key_reply t o (call.Grow key count)) has
    ∙ cond-true (ltb (length (free_of t key)) count) reply.NoSpace (cond (ltb MAX_EXTENTS (length (runs (grown_blocks t key count row)))) reply.TooManyExtents reply.Done)
    (lt-ltb (length (free_of t key)) count short)

not_less : (a b : ℕ) → (a < b → ⊥) → ltb a b ≡ false
not_less a b apart = elim (ltb a b) as (λ x. ltb a b ≡ x → x ≡ false) [
  | true ↦ λ is. absurd (apart (ltb-true a b is))
  | false ↦ λ is. refl
] refl

grow_reply : (t : Table) (key : Key) (row : Row) (count : ℕ) → row_of t key ≡ Some row → (length (free_of t key) < count → ⊥)
    → reply_of t (call.Grow key count) ≡ cond (ltb MAX_EXTENTS (length (runs (grown_blocks t key count row)))) reply.TooManyExtents reply.Done
grow_reply t key row count has enough =
    ap (λ (o : Option Row). key_reply t o (call.Grow key count)) has
    ∙ cond-false (ltb (length (free_of t key)) count) reply.NoSpace (cond (ltb MAX_EXTENTS (length (runs (grown_blocks t key count row)))) reply.TooManyExtents reply.Done)
    (not_less (length (free_of t key)) count enough)

pub too_many_extents : (t : Table) (key : Key) (row : Row) (count : ℕ) → row_of t key ≡ Some row → (length (free_of t key) < count → ⊥)
    → MAX_EXTENTS < length (runs (grown_blocks t key count row)) → reply_of t (call.Grow key count) ≡ reply.TooManyExtents
too_many_extents t key row count has enough many =
    grow_reply t key row count has enough
    ∙ cond-true (ltb MAX_EXTENTS (length (runs (grown_blocks t key count row)))) reply.TooManyExtents reply.Done (lt-ltb MAX_EXTENTS (length (runs (grown_blocks t key count row))) many)

pub grow_done : (t : Table) (key : Key) (row : Row) (count : ℕ) → row_of t key ≡ Some row → (length (free_of t key) < count → ⊥)
    → length (runs (grown_blocks t key count row)) ≤ MAX_EXTENTS → reply_of t (call.Grow key count) ≡ reply.Done
grow_done t key row count has enough few =
    grow_reply t key row count has enough
    ∙ cond-false (ltb MAX_EXTENTS (length (runs (grown_blocks t key count row)))) reply.TooManyExtents reply.Done
    (not_less MAX_EXTENTS (length (runs (grown_blocks t key count row))) (λ many. omega (arith, many, few)))

-- ---- the change of a grow

abbrev pub BlocksLead : StateValue → Delta → Table → Layouts → ℕ → Inode → Row → List ℕ → Type 0
BlocksLead s d t layouts agino old row blocks = IsTable (with_inode t (number_in s.group agino) (with_blocks old row blocks))
    → Leads s d t layouts (with_inode t (number_in s.group agino) (with_blocks old row blocks)) (relisted layouts s.group agino (eqb row.links 0) (eqb row.links 0))

pub grow_leads : OwnGroup → RowsStand → TablesStay → (s : StateValue) (d : Delta) (t : Table) (layouts : Layouts) (key : Key) (agino : ℕ) (row : Row) (count : ℕ) (blocks : List ℕ)
    → key.number / GROUP_NUMBERS ≡ s.group → agino ≡ key.number % GROUP_NUMBERS → IsGroupOf s t layouts → s.group < s.geometry.groups → row_of t key ≡ Some row
    → blocks ≡ grown_blocks t key count row → (length (free_of t key) < count → ⊥) → length (runs blocks) ≤ MAX_EXTENTS
    → BlocksLead s d t layouts agino (in_use key row) row blocks
    → Leads s d t layouts (after_call t (call.Grow key count) reply.Done) (relisted_by layouts key (row_of t key) (row_of (after_call t (call.Grow key count) reply.Done) key))
grow_leads own_group rows stay s d t layouts key agino row count blocks own at is inside has grown enough few leads =
    let next : Row = record { links = row.links; blocks = blocks; opens = row.opens } in
    let after : after_call t (call.Grow key count) reply.Done ≡ with_row t key next =
    ap (λ (o : Option Row). with_changed t key o (call.Grow key count)) has
    ∙ ap (λ (b : List ℕ). with_row t key (let r : Row = record { links = row.links; blocks = b; opens = row.opens } in r)) (sym grown) in
    let permits : Permits t (call.Grow key count) reply.Done =
    subst (λ (o : Option Row). KeyReplies t o (call.Grow key count) reply.Done) (sym has) (enough, subst (λ (b : List ℕ). length (runs b) ≤ MAX_EXTENTS) grown few) in
    call_leads own_group rows stay s d t layouts key row next agino (call.Grow key count) (with_blocks (in_use key row) row blocks) (eqb row.links 0) (eqb row.links 0) own at is inside has
    after refl refl refl permits leads

-- ---- what a cut is answered

pub cut_too_far : (t : Table) (key : Key) (row : Row) (count : ℕ) → row_of t key ≡ Some row → length row.blocks < count → reply_of t (call.Cut key count) ≡ reply.CutTooFar
cut_too_far t key row count has far =
    ap (λ (o : Option Row). key_reply t o (call.Cut key count)) has ∙ cond-true (ltb (length row.blocks) count) reply.CutTooFar reply.Done (lt-ltb (length row.blocks) count far)

pub cut_done : (t : Table) (key : Key) (row : Row) (count : ℕ) → row_of t key ≡ Some row → count ≤ length row.blocks → reply_of t (call.Cut key count) ≡ reply.Done
cut_done t key row count has few =
    ap (λ (o : Option Row). key_reply t o (call.Cut key count)) has
    ∙ cond-false (ltb (length row.blocks) count) reply.CutTooFar reply.Done (not_less (length row.blocks) count (λ far. omega (arith, far, few)))

-- ---- the change of a cut

cut_after : (t : Table) (key : Key) (row : Row) (count : ℕ) → row_of t key ≡ Some row
    → after_call t (call.Cut key count) reply.Done ≡ with_row t key (record { links = row.links; blocks = cut_blocks count row; opens = row.opens })
cut_after t key row count has = ap (λ (o : Option Row). with_changed t key o (call.Cut key count)) has

cut_permits : (t : Table) (key : Key) (row : Row) (count : ℕ) → row_of t key ≡ Some row → count ≤ length row.blocks → Permits t (call.Cut key count) reply.Done
cut_permits t key row count has few = subst (λ (o : Option Row). KeyReplies t o (call.Cut key count) reply.Done) (sym has) few

-- what is left of a row that was cut is within the limits
pub cut_is_short : OwnGroup → RowsStand → TablesStay → RowsAreWithin → (s : StateValue) (t : Table) (layouts : Layouts) (key : Key) (agino : ℕ) (row : Row) (count : ℕ)
    → key.number / GROUP_NUMBERS ≡ s.group → agino ≡ key.number % GROUP_NUMBERS → IsGroupOf s t layouts → s.group < s.geometry.groups → row_of t key ≡ Some row → count ≤ length row.blocks
    → length (runs (cut_blocks count row)) ≤ MAX_EXTENTS
cut_is_short own_group rows stay within_limits s t layouts key agino row count own at is inside has few =
    let u : Table = after_call t (call.Cut key count) reply.Done in
    let next : Row = record { links = row.links; blocks = cut_blocks count row; opens = row.opens } in
    let low : s.group < length t.groups = omega (arith, inside, is.groups) in
    let table : IsTable u = stay t u (call.Cut key count) reply.Done is.table (cut_permits t key row count has few, refl) in
    let there = own_inode t key s.group agino own at ∙ rows t key row has in
    let set : row_of u key ≡ Some next = ap (λ (v : Table). row_of v key) (cut_after t key row count has) ∙ row_set own_group t key (in_use key row) next s.group agino own at low there in
    (within_limits u key next table set).runs

pub cut_leads : OwnGroup → RowsStand → TablesStay → (s : StateValue) (d : Delta) (t : Table) (layouts : Layouts) (key : Key) (agino : ℕ) (row : Row) (count : ℕ) (blocks : List ℕ)
    → key.number / GROUP_NUMBERS ≡ s.group → agino ≡ key.number % GROUP_NUMBERS → IsGroupOf s t layouts → s.group < s.geometry.groups → row_of t key ≡ Some row
    → blocks ≡ cut_blocks count row → count ≤ length row.blocks
    → BlocksLead s d t layouts agino (in_use key row) row blocks
    → Leads s d t layouts (after_call t (call.Cut key count) reply.Done) (relisted_by layouts key (row_of t key) (row_of (after_call t (call.Cut key count) reply.Done) key))
cut_leads own_group rows stay s d t layouts key agino row count blocks own at is inside has cut few leads =
    let next : Row = record { links = row.links; blocks = blocks; opens = row.opens } in
    let after : after_call t (call.Cut key count) reply.Done ≡ with_row t key next =
    cut_after t key row count has
    ∙ ap (λ (b : List ℕ). with_row t key (let r : Row = record { links = row.links; blocks = b; opens = row.opens } in r)) (sym cut) in
    call_leads own_group rows stay s d t layouts key row next agino (call.Cut key count) (with_blocks (in_use key row) row blocks) (eqb row.links 0) (eqb row.links 0) own at is inside has
    after refl refl refl (cut_permits t key row count has few) leads

-- ---- the last blocks of a list

pub last_of : (blocks : List ℕ) (kept : ℕ) → take (length blocks - kept) (drop kept blocks) ≡ drop kept blocks
last_of blocks kept = take_all (length blocks - kept) (drop kept blocks) (omega (arith, length-drop kept blocks))

pub first_and_last : (blocks all : List ℕ) (kept : ℕ) → all ≡ blocks → blocks ≡ take kept blocks ++ take (length all - kept) (drop kept all)
first_and_last blocks all kept same =
    sym (ap (λ (l : List ℕ). take kept blocks ++ take (length l - kept) (drop kept l)) same ∙ ap (λ (l : List ℕ). take kept blocks ++ l) (last_of blocks kept) ∙ take-append-drop kept blocks)

pub cut_are_blocks : BlocksAreData → (t : Table) (key : Key) (row : Row) (kept : ℕ) → IsTable t → row_of t key ≡ Some row → All (λ block. block < MAX_BLOCKS) (take kept row.blocks)
cut_are_blocks are_data t key row kept table has =
    let most : t.blocks ≤ MAX_BLOCKS = table.most in
    All-take (λ block. block < MAX_BLOCKS) kept row.blocks (all_below t.blocks MAX_BLOCKS row.blocks most (all_data t.blocks row.blocks (are_data t key row table has)))

-- ---- how many blocks there are

abbrev pub RowsAreFew : Type 0
RowsAreFew = (t : Table) (key : Key) (row : Row) → IsTable t → row_of t key ≡ Some row → length row.blocks ≤ t.blocks

filter_short : (p : ℕ → Bool) (xs : List ℕ) → length (filter p xs) ≤ length xs
filter_short p [] = omega arith
filter_short p (x ∷ xs) =
    let rest = filter_short p xs in
    elim (p x) as (λ b. length (cond b (x ∷ filter p xs) (filter p xs)) ≤ suc (length xs)) [
      | true ↦ omega (arith, rest)
      | false ↦ omega (arith, rest)
    ]

free_short : (blocks : ℕ) (chunks : Group) → length (free_blocks blocks chunks) ≤ blocks
unfolding free_blocks
free_short blocks chunks = omega (arith, filter_short (is_free_block blocks chunks) (range_with_len 0 blocks), length-range_with_len 0 blocks)

take_short : (n : ℕ) (xs : List ℕ) → length (take n xs) ≤ length xs
take_short zero xs = omega arith
take_short (suc n) [] = omega arith
take_short (suc n) (x ∷ xs) = let rest = take_short n xs in omega (arith, rest)

pub grown_is_short : RowsAreFew → (t : Table) (key : Key) (row : Row) (chunks : Group) (count : ℕ) → IsTable t → row_of t key ≡ Some row
    → length (row.blocks ++ take count (free_blocks t.blocks chunks)) ≤ 2 * MAX_BLOCKS
grown_is_short few t key row chunks count table has =
    let own = few t key row table has in
    let most : t.blocks ≤ MAX_BLOCKS = table.most in
    omega (arith, own, most, length-append row.blocks (take count (free_blocks t.blocks chunks)), take_short count (free_blocks t.blocks chunks), free_short t.blocks chunks)

pub cut_is_few : RowsAreFew → (t : Table) (key : Key) (row : Row) (kept : ℕ) → IsTable t → row_of t key ≡ Some row → length (take kept row.blocks) ≤ 2 * MAX_BLOCKS
cut_is_few few t key row kept table has =
    let own = few t key row table has in
    let most : t.blocks ≤ MAX_BLOCKS = table.most in
    omega (arith, own, most, take_short kept row.blocks)
