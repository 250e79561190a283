-- The change of a create: its reply, the table after it, and the places that it touches.
use Rattle.std.proofs.Common.{◌≡◌, ◌<◌, ◌≤◌, ◌+◌, ◌*◌, ◌/◌, ◌%◌, ◌++◌, ℕ, zero, suc, Bool, true, false, cond, eqb, List, [], ◌∷◌, Some, None, Option, length, get_or, Contains, All, inl, inr, refl, ap, sym, subst, ◌∙◌, arith}
use Rattle.std.specs.Prelude.{IfSome, is_none, is_some, ◌||◌, slice_set}
use Rattle.std.specs.List.{range_with_len}
use Rattle.std.specs.List.Sorted.{IsStrictlyIncreasing}
use Rattle.std.proofs.lemmas.Bool.{cond-false, cond-true}
use Rattle.std.proofs.lemmas.List.FromFn.{length-range_with_len}
use Rattle.life_limits.specs.declared.TheConstants.{BLOCK_SECTORS, CHUNK_INODES, GROUP_NUMBERS, MAX_BLOCKS, MAX_CHUNKS}
use Rattle.life_bytes.specs.declared.sector.Sector.{Sector}
use Rattle.geometry.specs.declared.shape.Geometry.{Geometry}
use Rattle.geometry.specs.Places.{group_sectors, number_in}
use Rattle.geometry.specs.Shape.{IsGeometry}
use Rattle.life_table.specs.declared.key.Key.{Key}
use Rattle.life_table.specs.declared.types.Row.{Row}
use Rattle.life_table.specs.declared.types.Call.{Call}
use Rattle.life_table.specs.declared.types.Call.TheVariants as call
use Rattle.life_table.specs.declared.types.Reply.TheVariants as reply
use Rattle.life_table.specs.declared.table.Inode.{Inode}
use Rattle.life_table.specs.declared.table.Table.{Table}
use Rattle.life_table.specs.Legal.{IsNextKey, Permits, after_call, made_row, prepare}
use Rattle.life_table.specs.Replies.{create_reply, reply_of}
use Rattle.life_table.specs.Space.{BeginsFreeRun, chunk_place, insert_chunk, lowest_key, new_chunk, prepared, row_blocks, with_chunk}
use Rattle.life_table.specs.Table.{Group, group_at, inode_in, inode_of, row_in_life, row_of, set_inode, start_of, with_group, with_inode, with_row}
use Rattle.life_table.specs.WellFormed.{IsTable}
use Rattle.sound_image.specs.Places.{bitmap_place, header_place}
use Rattle.sound_image.specs.Encoding.{CanEncode, Layouts, core_for, is_unlinked, is_unlinked_row, page_of, page_place}
use Rattle.encoded_changes.specs.Carry.{ChangesOnly}
use Rattle.encoded_changes.specs.Changes.{FollowInode, Relists, unused_inode}
use Rattle.change_images.specs.Enough.{AreEnough, bitmap_part, bitmap_places, chunk_places, page_places}
use Rattle.group_space.specs.Space.{Changed, IsSpaceOf, Space, changed_space}
use Rattle.inode_cache.specs.declared.inode.Incore.{Incore}
use Rattle.inode_core.specs.declared.shape.Core.{Core}
use Rattle.group_ops.specs.declared.delta.Delta.{Delta}
use Rattle.group_ops.specs.declared.delta.Prior.{Prior}
use Rattle.group_ops.specs.Buffers.{Buffers}
use Rattle.group_ops.specs.Calls.{relisted, relisted_by}
use Rattle.group_ops.specs.Changes.{changed_state}
use Rattle.group_ops.specs.Creating.{AreUnused, MakesInode, creation, made_inode}
use Rattle.group_ops.specs.Relinks.{IsPrior, next_of}
use Rattle.group_ops.specs.Represents.{IsGroupOf, incore_for}
use Rattle.group_ops.specs.Staging.{Leads, own_touched, touched}
use Rattle.group_ops.specs.Values.{StateValue}
use Rattle.group_ops.proofs.Added.{added}
use Rattle.group_ops.proofs.Changed.{changed}
use Rattle.group_ops.proofs.Freeing.{free_places, or_true, page_range}
use Rattle.group_ops.proofs.Holding.{parts}
use Rattle.group_ops.proofs.Keyed.{TablesStay, number_is, row_set, small_is}
use Rattle.group_ops.proofs.OneChunkMore.{IsAbsent, free_absent, free_below, inode_before}
use Rattle.group_ops.proofs.Relisting.{of_is, others_stay, page_stays, relists, with_is}
use Rattle.group_ops.proofs.RowChanges.{OnlyGroup, OwnGroup, follow_inode, touched_is}
use Rattle.group_ops.proofs.Told.{blank, can_encode}

-- ---- what the laws say

abbrev pub MadeEncodes : Type 0
MadeEncodes = (g : Geometry) (t : Table) (layouts others : Layouts) (image : List Sector) (group number : ℕ) (old new : Inode) → CanEncode g t layouts image → group < g.groups
    → inode_of (prepare t group) number ≡ Some old → IsTable (with_inode (prepare t group) number new) → FollowInode layouts number old new others
    → CanEncode g (with_inode (prepare t group) number new) others image

abbrev pub MadeInGroup : Type 0
MadeInGroup = (t : Table) (group : ℕ) (key : Key) → IsTable t → IsNextKey t group key → key.number / GROUP_NUMBERS ≡ group

abbrev pub MadeUnused : Type 0
MadeUnused = (t : Table) (group : ℕ) (key : Key) → IsTable t → IsNextKey t group key → inode_of (prepare t group) key.number ≡ Some (unused_inode key)

abbrev pub EnoughInChunk : Type 0
EnoughInChunk = (g : Geometry) (t : Table) (layouts others : Layouts) (image : List Sector) (group : ℕ) (key : Key) (new : Inode) → CanEncode g t layouts image → group < g.groups
    → IsNextKey t group key → Relists layouts group (key.number % GROUP_NUMBERS) false (is_unlinked_row new.row) others → row_blocks new.row ≡ []
    → is_some (lowest_key group (group_at t group)) ≡ true
    → AreEnough g group layouts (group_at t group) others (set_inode (prepared t.blocks group (group_at t group)) (key.number % GROUP_NUMBERS) new)
    (header_place ∷ (page_places layouts group ++ key.number % GROUP_NUMBERS ∷ []))

abbrev pub EnoughInNewChunk : Type 0
EnoughInNewChunk = (g : Geometry) (t : Table) (layouts others : Layouts) (image : List Sector) (group block : ℕ) (key : Key) (new : Inode) → CanEncode g t layouts image → group < g.groups
    → IsNextKey t group key → Relists layouts group (key.number % GROUP_NUMBERS) false (is_unlinked_row new.row) others → row_blocks new.row ≡ []
    → lowest_key group (group_at t group) ≡ None → chunk_place t.blocks (group_at t group) ≡ Some block
    → AreEnough g group layouts (group_at t group) others (set_inode (prepared t.blocks group (group_at t group)) (key.number % GROUP_NUMBERS) new)
    (header_place ∷ ((bitmap_place + bitmap_part block) ∷ (page_places layouts group ++ chunk_places (block * BLOCK_SECTORS))))

abbrev pub ChunkPlaced : Type 0
ChunkPlaced = (blocks : ℕ) (group : Group) (block : ℕ) → chunk_place blocks group ≡ Some block → (length group < MAX_CHUNKS) × (block < blocks) × BeginsFreeRun blocks group block

abbrev pub FirstOfChunk : Type 0
FirstOfChunk = (group : ℕ) (chunks : Group) (block : ℕ) → lowest_key group chunks ≡ None
    → lowest_key group (insert_chunk (new_chunk block) chunks) ≡ Some (record { number = number_in group (BLOCK_SECTORS * block); generation = 1 })

pub record CreateLaws : Type 0 where
  pub encodes : MadeEncodes
  pub in_group : MadeInGroup
  pub made_unused : MadeUnused
  pub in_chunk : EnoughInChunk
  pub in_new_chunk : EnoughInNewChunk
  pub own_group : OwnGroup
  pub only_group : OnlyGroup
  pub stay : TablesStay

-- ---- the group as a create finds it

prepared_some : (blocks g : ℕ) (chunks : Group) → is_some (lowest_key g chunks) ≡ true → prepared blocks g chunks ≡ chunks
unfolding prepared
prepared_some blocks g chunks is = cond-true (is_some (lowest_key g chunks)) chunks (with_chunk chunks (chunk_place blocks chunks)) is

prepared_none : (blocks g : ℕ) (chunks : Group) → lowest_key g chunks ≡ None → prepared blocks g chunks ≡ with_chunk chunks (chunk_place blocks chunks)
unfolding prepared
prepared_none blocks g chunks none =
    cond-false (is_some (lowest_key g chunks)) chunks (with_chunk chunks (chunk_place blocks chunks)) (ap (λ (o : Option Key). is_some o) none)

prepared_new : (blocks g block : ℕ) (chunks : Group) → lowest_key g chunks ≡ None → chunk_place blocks chunks ≡ Some block → prepared blocks g chunks ≡ insert_chunk (new_chunk block) chunks
prepared_new blocks g block chunks none place = prepared_none blocks g chunks none ∙ ap (with_chunk chunks) place

pub next_in_chunk : (t : Table) (g : ℕ) (key : Key) → g < length t.groups → lowest_key g (group_at t g) ≡ Some key → IsNextKey t g key
next_in_chunk t g key low e =
    (low, ap (lowest_key g) (prepared_some t.blocks g (group_at t g) (ap (λ (o : Option Key). is_some o) e)) ∙ e)

pub next_in_new_chunk : FirstOfChunk → (t : Table) (g block : ℕ) (key : Key) → g < length t.groups → lowest_key g (group_at t g) ≡ None → chunk_place t.blocks (group_at t g) ≡ Some block
    → key ≡ record { number = number_in g (BLOCK_SECTORS * block); generation = 1 } → IsNextKey t g key
next_in_new_chunk law t g block key low none place is =
    (low, ap (lowest_key g) (prepared_new t.blocks g block (group_at t g) none place) ∙ law g (group_at t g) block none ∙ ap (λ (k : Key). Some k) (sym is))

-- ---- the reply

either : ℕ → Bool → Call
either g b = cond b (call.Tmpfile g) (call.Create g)

reply_either : (t : Table) (g : ℕ) (b : Bool) → reply_of t (either g b) ≡ create_reply (lowest_key g (prepared t.blocks g (group_at t g)))
unfolding either
reply_either t g true = refl
reply_either t g false = refl

permits_either : (t : Table) (g : ℕ) (key : Key) (b : Bool) → IsNextKey t g key → Permits t (either g b) (reply.Made key)
unfolding either
permits_either t g key true is = is
permits_either t g key false is = is

after_either : (t : Table) (g : ℕ) (key : Key) (b : Bool) → after_call t (either g b) (reply.Made key) ≡ with_row (prepare t g) key (made_row (cond b 0 1))
unfolding either
after_either t g key true = refl
after_either t g key false = refl

creation_is : (g links : ℕ) → creation g links ≡ either g (eqb links 0)
unfolding either
creation_is g links = refl

one_or_none : (links : ℕ) → links ≤ 1 → cond (eqb links 0) 0 1 ≡ links
one_or_none zero few = refl
one_or_none (suc zero) few = refl
one_or_none (suc (suc n)) few = absurd (omega (arith, few))

pub made_reply : (t : Table) (g links : ℕ) (key : Key) → IsNextKey t g key → reply_of t (creation g links) ≡ reply.Made key
made_reply t g links key is = ap (reply_of t) (creation_is g links) ∙ reply_either t g (eqb links 0) ∙ ap create_reply is.1

pub no_inodes : (t : Table) (g links : ℕ) → lowest_key g (group_at t g) ≡ None → chunk_place t.blocks (group_at t g) ≡ None → reply_of t (creation g links) ≡ reply.NoInodes
no_inodes t g links none no_place =
    let same : prepared t.blocks g (group_at t g) ≡ group_at t g = prepared_none t.blocks g (group_at t g) none ∙ ap (with_chunk (group_at t g)) no_place in
    ap (reply_of t) (creation_is g links) ∙ reply_either t g (eqb links 0) ∙ ap create_reply (ap (lowest_key g) same ∙ none)

made_permits : (t : Table) (g links : ℕ) (key : Key) → IsNextKey t g key → Permits t (creation g links) (reply.Made key)
made_permits t g links key is = subst (λ (c : Call). Permits t c (reply.Made key)) (sym (creation_is g links)) (permits_either t g key (eqb links 0) is)

made_after : (t : Table) (g links : ℕ) (key : Key) → links ≤ 1 → after_call t (creation g links) (reply.Made key) ≡ with_row (prepare t g) key (made_row links)
made_after t g links key few =
    ap (λ (c : Call). after_call t c (reply.Made key)) (creation_is g links) ∙ after_either t g key (eqb links 0) ∙ ap (λ (n : ℕ). with_row (prepare t g) key (made_row n)) (one_or_none links few)

-- ---- the table after it

set_twice : (xs : List Group) (i : ℕ) (a b : Group) → slice_set (slice_set xs i a) i b ≡ slice_set xs i b
set_twice [] i a b = refl
set_twice (x ∷ xs) zero a b = refl
set_twice (x ∷ xs) (suc i) a b = ap (λ (l : List Group). x ∷ l) (set_twice xs i a b)

set_long : (xs : List Group) (i : ℕ) (a : Group) → length (slice_set xs i a) ≡ length xs
set_long [] i a = refl
set_long (x ∷ xs) zero a = refl
set_long (x ∷ xs) (suc i) a = ap (λ (n : ℕ). suc n) (set_long xs i a)

-- the group as a create finds it
abbrev wide_of : Table → ℕ → Group
wide_of t g = prepared t.blocks g (group_at t g)

same_group : (t : Table) (g : ℕ) (a b : Group) → with_group (with_group t g a) g b ≡ with_group t g b
same_group t g a b = ap (λ (l : List Group). let v : Table = record { version = t.version; blocks = t.blocks; groups = l } in v) (set_twice t.groups g a b)

made_table : OwnGroup → (t : Table) (g agino : ℕ) (new : Inode) → agino < GROUP_NUMBERS → g < length t.groups
    → with_inode (prepare t g) (number_in g agino) new ≡ with_group t g (set_inode (wide_of t g) agino new)
made_table own t g agino new small low =
    with_is (prepare t g) g agino new small
    ∙ ap (λ (cs : Group). with_group (prepare t g) g (set_inode cs agino new)) (own t g (wide_of t g) low)
    ∙ same_group t g (wide_of t g) (set_inode (wide_of t g) agino new)

-- the inode of the number, in the group as a create finds it
pub unused_in : CreateLaws → (t : Table) (g : ℕ) (key : Key) (agino : ℕ) → IsTable t → IsNextKey t g key → agino ≡ key.number % GROUP_NUMBERS
    → inode_in (wide_of t g) agino ≡ Some (unused_inode key)
unused_in laws t g key agino table is at =
    let own = laws.in_group t g key table is in
    let small = small_is key.number agino at in
    let number = number_is key.number g agino own at in
    ap (λ (cs : Group). inode_in cs agino) (sym (laws.own_group t g (wide_of t g) is.0))
    ∙ sym (of_is (prepare t g) g agino small)
    ∙ ap (λ (n : ℕ). inode_of (prepare t g) n) number
    ∙ laws.made_unused t g key table is

-- ---- the change leads to the table after the call

pub creates_lead : CreateLaws → (s : StateValue) (d : Delta) (t : Table) (layouts : Layouts) (key : Key) (links : ℕ) → IsGeometry s.geometry → s.group < s.geometry.groups → IsGroupOf s t layouts
    → IsNextKey t s.group key → links ≤ 1 → is_unlinked_row (row_of t key) ≡ false → d.agino ≡ key.number % GROUP_NUMBERS → d.prior ≡ None
    → ((u : Table) → CanEncode s.geometry u (relisted layouts s.group d.agino false (eqb links 0)) (blank s.geometry)
    → group_at u s.group ≡ set_inode (wide_of t s.group) d.agino (made_inode key.generation links) → IsGroupOf (changed_state s d) u (relisted layouts s.group d.agino false (eqb links 0)))
    → AreEnough s.geometry s.group layouts (group_at t s.group) (relisted layouts s.group d.agino false (eqb links 0))
    (set_inode (wide_of t s.group) d.agino (made_inode key.generation links)) (touched s.page d)
    → Leads s d t layouts (after_call t (creation s.group links) (reply.Made key))
    (relisted_by layouts key (row_of t key) (row_of (after_call t (creation s.group links) (reply.Made key)) key))
creates_lead laws s d t layouts key links shape inside is next few fresh at prior after enough =
    let g : ℕ = s.group in
    let new : Inode = made_inode key.generation links in
    let others : Layouts = relisted layouts g d.agino false (eqb links 0) in
    let low : g < length t.groups = next.0 in
    let own = laws.in_group t g key is.table next in
    let number = number_is key.number g d.agino own at in
    let small = small_is key.number d.agino at in
    let v : Table = with_inode (prepare t g) (number_in g d.agino) new in
    let u : Table = after_call t (creation g links) (reply.Made key) in
    let same : v ≡ u = ap (λ (n : ℕ). with_inode (prepare t g) n new) number ∙ sym (made_after t g links key few) in
    let replaced : v ≡ with_group t g (set_inode (wide_of t g) d.agino new) = made_table laws.own_group t g d.agino new small low in
    let group : group_at v g ≡ set_inode (wide_of t g) d.agino new = ap (λ (x : Table). group_at x g) replaced ∙ laws.own_group t g (set_inode (wide_of t g) d.agino new) low in
    let table : IsTable v = subst IsTable (sym same) (laws.stay t u (creation g links) (reply.Made key) is.table (made_permits t g links key next, refl)) in
    let there : inode_of (prepare t g) (number_in g d.agino) ≡ Some (unused_inode key) = ap (λ (n : ℕ). inode_of (prepare t g) n) number ∙ laws.made_unused t g key is.table next in
    let can = laws.encodes s.geometry t layouts others (blank s.geometry) g (number_in g d.agino) (unused_inode key) new (can_encode s t layouts shape is) inside there table
    (follow_inode t layouts g d.agino (unused_inode key) new false (eqb links 0) refl refl is.layouts_of low small) in
    let lead : Leads s d t layouts v others = record {
      before = is;
      after = after v can group;
      only = subst (λ (x : Table). ChangesOnly g t layouts x others) (sym replaced)
          (laws.only_group t layouts others g (set_inode (wide_of t g) d.agino new) (λ other apart. others_stay layouts g d.agino false (eqb links 0) other apart));
      prior = subst (λ (o : Option Prior). IfSome o (IsPrior s t layouts others d.agino)) (sym prior) tt;
      enough = subst (λ (cs : Group). AreEnough s.geometry g layouts (group_at t g) others cs (touched s.page d)) (sym group) enough;
    } in
    let long : g < length (prepare t g).groups = omega (arith, low, set_long t.groups g (wide_of t g)) in
    let found : inode_in (group_at (prepare t g) g) d.agino ≡ Some (unused_inode key) =
    ap (λ (cs : Group). inode_in cs d.agino) (laws.own_group t g (wide_of t g) low) ∙ unused_in laws t g key d.agino is.table next at in
    let set : row_of u key ≡ Some (made_row links) =
    ap (λ (x : Table). row_of x key) (made_after t g links key few)
    ∙ row_set laws.own_group (prepare t g) key (unused_inode key) (made_row links) g d.agino own at long found in
    let lists : others ≡ relisted_by layouts key (row_of t key) (row_of u key) =
    ap (λ (n : ℕ). relisted layouts n d.agino false (eqb links 0)) (sym own)
    ∙ ap (λ (n : ℕ). relisted layouts (key.number / GROUP_NUMBERS) n false (eqb links 0)) at
    ∙ ap (λ (b : Bool). relisted layouts (key.number / GROUP_NUMBERS) (key.number % GROUP_NUMBERS) b (eqb links 0)) (sym fresh)
    ∙ ap (λ (o : Option Row). relisted layouts (key.number / GROUP_NUMBERS) (key.number % GROUP_NUMBERS) (is_unlinked_row (row_of t key)) (is_unlinked_row o)) (sym set) in
    subst (λ (l : Layouts). Leads s d t layouts u l) lists (subst (λ (x : Table). Leads s d t layouts x others) same lead)

-- ---- a number that is in no use has no row

no_row_in_life : (generation : ℕ) (inode : Inode) → inode.row ≡ None → row_in_life generation (Some inode) ≡ None
no_row_in_life generation inode none =
    ap (λ (o : Option Row). cond (eqb inode.generation generation) o None) none ∙ both (eqb inode.generation generation)
  where
    both : (b : Bool) → (let none : Option Row = None in cond b none none) ≡ None
    both true = refl
    both false = refl

fresh_some : (t : Table) (key : Key) → inode_of t key.number ≡ Some (unused_inode key) → is_unlinked_row (row_of t key) ≡ false
fresh_some t key at =
    ap (λ (o : Option Inode). is_unlinked_row (row_in_life key.generation o)) at
    ∙ ap is_unlinked_row (no_row_in_life key.generation (unused_inode key) refl)

fresh_none : (t : Table) (key : Key) → inode_of t key.number ≡ None → is_unlinked_row (row_of t key) ≡ false
fresh_none t key at = ap (λ (o : Option Inode). is_unlinked_row (row_in_life key.generation o)) at

-- the inode of a key's number in the table
own_number : (t : Table) (key : Key) (g agino : ℕ) → key.number / GROUP_NUMBERS ≡ g → agino ≡ key.number % GROUP_NUMBERS → inode_of t key.number ≡ inode_in (group_at t g) agino
own_number t key g agino own at =
    ap (λ (n : ℕ). inode_of t n) (sym (number_is key.number g agino own at)) ∙ of_is t g agino (small_is key.number agino at)

-- ---- in a chunk that there is

pub unused_there : CreateLaws → (t : Table) (g : ℕ) (key : Key) (agino : ℕ) → IsTable t → g < length t.groups → lowest_key g (group_at t g) ≡ Some key → agino ≡ key.number % GROUP_NUMBERS
    → inode_in (group_at t g) agino ≡ Some (unused_inode key)
unused_there laws t g key agino table low lowest at =
    let next = next_in_chunk t g key low lowest in
    ap (λ (cs : Group). inode_in cs agino) (sym (prepared_some t.blocks g (group_at t g) (ap (λ (o : Option Key). is_some o) lowest))) ∙ unused_in laws t g key agino table next at

none_of_blocks : (free : Option (List Bool)) → free ≡ None → is_none free ≡ true
none_of_blocks free e = ap (λ (o : Option (List Bool)). is_none o) e

pub in_chunk_leads : CreateLaws → (s : StateValue) (d : Delta) (t : Table) (layouts : Layouts) (key : Key) (links : ℕ) → IsGeometry s.geometry → s.group < s.geometry.groups → IsGroupOf s t layouts
    → lowest_key s.group (group_at t s.group) ≡ Some key → links ≤ 1 → d.agino ≡ key.number % GROUP_NUMBERS → MakesInode s d t layouts key.generation links
    → IsSpaceOf s.geometry.blocks (set_inode (group_at t s.group) d.agino (made_inode key.generation links)) (changed_space s.space d.space)
    → is_some d.space.records ≡ true → d.space.free ≡ None → d.chunk ≡ None
    → Leads s d t layouts (after_call t (creation s.group links) (reply.Made key))
    (relisted_by layouts key (row_of t key) (row_of (after_call t (creation s.group links) (reply.Made key)) key))
in_chunk_leads laws s d t layouts key links shape inside is lowest few at makes space records free chunk =
    let g : ℕ = s.group in
    let chunks : Group = group_at t g in
    let new : Inode = made_inode key.generation links in
    let others : Layouts = relisted layouts g d.agino false (eqb links 0) in
    let low : g < length t.groups = omega (arith, inside, is.groups) in
    let next = next_in_chunk t g key low lowest in
    let some : is_some (lowest_key g chunks) ≡ true = ap (λ (o : Option Key). is_some o) lowest in
    let wide : wide_of t g ≡ chunks = prepared_some t.blocks g chunks some in
    let found = unused_there laws t g key d.agino is.table low lowest at in
    let own = laws.in_group t g key is.table next in
    let fresh = fresh_some t key (own_number t key g d.agino own at ∙ found) in
    let places : touched s.page d ≡ header_place ∷ (page_places layouts g ++ d.agino ∷ []) =
    free_places s d layouts true is.page chunk records (none_of_blocks d.space.free free)
    ∙ ap (λ (o : Option Prior). header_place ∷ (page_places layouts g ++ own_touched d.agino o)) makes.prior in
    let law = laws.in_chunk s.geometry t layouts others (blank s.geometry) g key new (can_encode s t layouts shape is) inside next
    (subst (λ (n : ℕ). Relists layouts g n false (eqb links 0) others) at (relists t layouts g d.agino false (eqb links 0) is.layouts_of low)) refl some in
    creates_lead laws s d t layouts key links shape inside is next few fresh at makes.prior
    (λ u can group. changed s d t layouts u others (unused_inode key) new (record {
      before = is;
      can = can;
      found = found;
      group = group ∙ ap (λ (cs : Group). set_inode cs d.agino new) wide;
      page = page_stays t layouts g d.agino false (eqb links 0) is.layouts_of low;
      relinks = makes.relinks;
      own = makes.inode;
      space =
          subst (λ (cs : Group). IsSpaceOf s.geometry.blocks cs (changed_space s.space d.space)) (sym (group ∙ ap (λ (cs : Group). set_inode cs d.agino new) wide)) space;
      no_chunk = chunk;
    }))
    (subst (λ (l : List ℕ). AreEnough s.geometry g layouts chunks others (set_inode (wide_of t g) d.agino new) l) (sym places)
    (subst (λ (n : ℕ). AreEnough s.geometry g layouts chunks others (set_inode (wide_of t g) n new) (header_place ∷ (page_places layouts g ++ n ∷ []))) (sym at) law))

-- ---- more places are enough too: all of the bitmap in place of one sector of it

abbrev bitmap_all : List ℕ → List ℕ
bitmap_all rest = 2 ∷ 8 ∷ 9 ∷ 10 ∷ 11 ∷ rest

one_of_all : (p place : ℕ) (rest : List ℕ) → p < 4 → 8 + p ≡ place → Contains (bitmap_all rest) place
one_of_all zero place rest low e = (1, omega arith, e)
one_of_all (suc zero) place rest low e = (2, omega arith, e)
one_of_all (suc (suc zero)) place rest low e = (3, omega arith, e)
one_of_all (suc (suc (suc zero))) place rest low e = (4, omega arith, e)
one_of_all (suc (suc (suc (suc n)))) place rest low e = absurd (omega (arith, low))

among_all : (p place : ℕ) (rest : List ℕ) → p < 4 → Contains (2 ∷ (8 + p) ∷ rest) place → Contains (bitmap_all rest) place
among_all p place rest low (zero, within, e) = (0, omega arith, e)
among_all p place rest low (suc zero, within, e) = one_of_all p place rest low e
among_all p place rest low (suc (suc k), within, e) = (suc (suc (suc (suc (suc k)))), omega (arith, within), e)

up_all : (p : ℕ) (rest : List ℕ) → IsStrictlyIncreasing (2 ∷ (8 + p) ∷ rest) → (1 ≤ length rest → 11 < get_or rest 0 0) → IsStrictlyIncreasing (bitmap_all rest)
up_all p rest up far zero low = omega arith
up_all p rest up far (suc zero) low = omega arith
up_all p rest up far (suc (suc zero)) low = omega arith
up_all p rest up far (suc (suc (suc zero))) low = omega arith
up_all p rest up far (suc (suc (suc (suc zero)))) low = far (omega (arith, low))
up_all p rest up far (suc (suc (suc (suc (suc k))))) low =
    let e : suc (suc k) + 1 ≡ suc (suc (k + 1)) = omega arith in
    let f : suc (suc (suc (suc (suc (k + 1))))) ≡ suc (suc (suc (suc (suc k)))) + 1 = omega arith in
    let step : get_or rest k 0 < get_or rest (k + 1) 0 =
    subst (λ (n : ℕ). get_or rest k 0 < get_or (2 ∷ (8 + p) ∷ rest) n 0) e (up (suc (suc k)) (omega (arith, low))) in
    subst (λ (n : ℕ). get_or rest k 0 < get_or (bitmap_all rest) n 0) f step

within_all : (p bound : ℕ) (rest : List ℕ) → All (λ (place : ℕ). place < bound) (2 ∷ (8 + p) ∷ rest) → 11 < bound → All (λ (place : ℕ). place < bound) (bitmap_all rest)
within_all p bound rest all high zero d low = omega (arith, high)
within_all p bound rest all high (suc zero) d low = omega (arith, high)
within_all p bound rest all high (suc (suc zero)) d low = omega (arith, high)
within_all p bound rest all high (suc (suc (suc zero))) d low = omega (arith, high)
within_all p bound rest all high (suc (suc (suc (suc zero)))) d low = omega (arith, high)
within_all p bound rest all high (suc (suc (suc (suc (suc k))))) d low = all (suc (suc k)) d (omega (arith, low))

all_enough : (g : Geometry) (group : ℕ) (layouts : Layouts) (chunks : Group) (others : Layouts) (next : Group) (p : ℕ) (rest : List ℕ)
    → AreEnough g group layouts chunks others next (2 ∷ (8 + p) ∷ rest) → p < 4 → (1 ≤ length rest → 11 < get_or rest 0 0) → 11 < group_sectors g → length rest ≤ 100
    → AreEnough g group layouts chunks others next (bitmap_all rest)
all_enough g group layouts chunks others next p rest enough low far high short = record {
  ascend = up_all p rest enough.ascend far;
  within = within_all p (group_sectors g) rest enough.within high;
  few = omega (arith, short);
  whole = λ place under. elim (enough.whole place under) [
    | inl stays ↦ inl stays
    | inr has ↦ inr (among_all p place rest low has)
  ];
}

-- ---- in a new chunk

new_places : (s : StateValue) (d : Delta) (layouts : Layouts) (chunk : Buffers) (start : ℕ) → s.page ≡ page_of layouts s.group → d.chunk ≡ Some chunk → chunk.start ≡ start
    → is_some d.space.records ≡ true → is_some d.space.free ≡ true
    → touched s.page d ≡ bitmap_all (page_places layouts s.group ++ chunk_places start)
new_places s d layouts chunk start page is first records free =
    touched_is s.page d d.head d.prior d.space (Some chunk) refl refl refl is
    ∙ ap (λ (b : Bool). cond (is_some d.head || b) (header_place ∷ []) []
    ++ (cond (is_some d.space.free) (bitmap_places parts) [] ++ (cond b (range_with_len (BLOCK_SECTORS * s.page) BLOCK_SECTORS) [] ++ chunk_places chunk.start))) records
    ∙ ap (λ (b : Bool). cond b (header_place ∷ []) []
    ++ (cond (is_some d.space.free) (bitmap_places parts) [] ++ (range_with_len (BLOCK_SECTORS * s.page) BLOCK_SECTORS ++ chunk_places chunk.start))) (or_true (is_some d.head))
    ∙ ap (λ (b : Bool). header_place ∷ (cond b (bitmap_places parts) [] ++ (range_with_len (BLOCK_SECTORS * s.page) BLOCK_SECTORS ++ chunk_places chunk.start))) free
    ∙ ap (λ (l : List ℕ). header_place ∷ (bitmap_places parts ++ (l ++ chunk_places chunk.start))) (page_range layouts s.group s.page page)
    ∙ ap (λ (n : ℕ). header_place ∷ (bitmap_places parts ++ (page_places layouts s.group ++ chunk_places n))) first

first_page : (layouts : Layouts) (group : ℕ) (rest : List ℕ) → 2 ≤ page_of layouts group → 11 < get_or (page_places layouts group ++ rest) 0 0
unfolding page_place
first_page layouts group rest low = omega (arith, low)

long_join : (xs ys : List ℕ) → length (xs ++ ys) ≡ length xs + length ys
long_join [] ys = omega arith
long_join (x ∷ xs) ys = let rest = long_join xs ys in omega (arith, rest)

few_places : (layouts : Layouts) (group start : ℕ) → length (page_places layouts group ++ chunk_places start) ≤ 100
few_places layouts group start =
    omega (arith, long_join (page_places layouts group) (chunk_places start), length-range_with_len (page_place layouts group) BLOCK_SECTORS, length-range_with_len start CHUNK_INODES)

-- where a chunk is added
pub record NewSpot (t : Table) (g block : ℕ) : Type 0 where
  pub aligned : block % 8 ≡ 0
  pub fits : block + 7 < t.blocks
  pub absent : IsAbsent (block * BLOCK_SECTORS) (group_at t g)

pub new_spot : ChunkPlaced → (t : Table) (g block : ℕ) → chunk_place t.blocks (group_at t g) ≡ Some block → NewSpot t g block
new_spot law t g block place =
    let says = law t.blocks (group_at t g) block place in
    let run = says.2 in
    record {
      aligned = run.0;
      fits = free_below t.blocks (group_at t g) (block + 7) (run.1 (block + 7) (omega arith) (omega arith));
      absent = free_absent t.blocks (group_at t g) block (run.1 block (omega arith) (omega arith));
    }

-- the key of its first number
pub first_number : (g block : ℕ) (key : Key) → block < 16384 → key ≡ record { number = number_in g (BLOCK_SECTORS * block); generation = 1 } → key.number % GROUP_NUMBERS ≡ block * BLOCK_SECTORS
first_number g block key low is = let e = ap (λ (k : Key). k.number) is in omega (arith, e, low)

pub in_new_chunk_leads : CreateLaws → FirstOfChunk → ChunkPlaced → (s : StateValue) (d : Delta) (t : Table) (layouts : Layouts) (key : Key) (block links : ℕ) (chunk : Buffers) → IsGeometry s.geometry
    → s.group < s.geometry.groups → IsGroupOf s t layouts
    → lowest_key s.group (group_at t s.group) ≡ None → chunk_place t.blocks (group_at t s.group) ≡ Some block → key ≡ record { number = number_in s.group (BLOCK_SECTORS * block); generation = 1 }
    → links ≤ 1 → d.agino ≡ key.number % GROUP_NUMBERS → MakesInode s d t layouts key.generation links
    → IsSpaceOf s.geometry.blocks (set_inode (insert_chunk (new_chunk block) (group_at t s.group)) (BLOCK_SECTORS * block) (made_inode key.generation links)) (changed_space s.space d.space)
    → is_some d.space.records ≡ true → is_some d.space.free ≡ true → d.chunk ≡ Some chunk → AreUnused s.group s.geometry.uuid (BLOCK_SECTORS * block) chunk
    → Leads s d t layouts (after_call t (creation s.group links) (reply.Made key))
    (relisted_by layouts key (row_of t key) (row_of (after_call t (creation s.group links) (reply.Made key)) key))
in_new_chunk_leads laws first placed s d t layouts key block links chunk shape inside is lowest place key_is few at makes space records free chunk_is unused =
    let g : ℕ = s.group in
    let chunks : Group = group_at t g in
    let new : Inode = made_inode key.generation links in
    let others : Layouts = relisted layouts g d.agino false (eqb links 0) in
    let low : g < length t.groups = omega (arith, inside, is.groups) in
    let next = next_in_new_chunk first t g block key low lowest place key_is in
    let spot = new_spot placed t g block place in
    let most : t.blocks ≤ MAX_BLOCKS = is.table.most in
    let small : block < 16384 = omega (arith, spot.fits, most) in
    let begins : key.number % GROUP_NUMBERS ≡ block * BLOCK_SECTORS = first_number g block key small key_is in
    let agino : d.agino ≡ block * BLOCK_SECTORS = at ∙ begins in
    let turned : BLOCK_SECTORS * block ≡ block * BLOCK_SECTORS = omega arith in
    let wide : wide_of t g ≡ insert_chunk (new_chunk block) chunks = prepared_new t.blocks g block chunks lowest place in
    let own = laws.in_group t g key is.table next in
    let starts : block * BLOCK_SECTORS ≡ start_of d.agino = (let aligned = spot.aligned in omega (arith, aligned, agino)) in
    let fresh = fresh_none t key (own_number t key g d.agino own at ∙ inode_before (block * BLOCK_SECTORS) chunks d.agino spot.absent starts) in
    let all_unused : AreUnused g s.geometry.uuid (block * BLOCK_SECTORS) chunk = subst (λ (n : ℕ). AreUnused g s.geometry.uuid n chunk) turned unused in
    let pages = is.layouts_of.pages g low in
    let room : 11 < group_sectors s.geometry = (let blocks = shape.blocks.0 in omega (arith, blocks)) in
    let places = new_places s d layouts chunk (block * BLOCK_SECTORS) is.page chunk_is all_unused.at records free in
    let law = laws.in_new_chunk s.geometry t layouts others (blank s.geometry) g block key new (can_encode s t layouts shape is) inside next
    (subst (λ (n : ℕ). Relists layouts g n false (eqb links 0) others) at (relists t layouts g d.agino false (eqb links 0) is.layouts_of low)) refl lowest place in
    let law_all = all_enough s.geometry g layouts chunks others (set_inode (wide_of t g) (key.number % GROUP_NUMBERS) new) (bitmap_part block) (page_places layouts g ++ chunk_places (block * BLOCK_SECTORS))
    law (omega (arith, small)) (λ some. first_page layouts g (chunk_places (block * BLOCK_SECTORS)) pages.0) room (few_places layouts g (block * BLOCK_SECTORS)) in
    creates_lead laws s d t layouts key links shape inside is next few fresh at makes.prior
    (λ u can group.
    let own_group : group_at u g ≡ set_inode (insert_chunk (new_chunk block) chunks) d.agino new = group ∙ ap (λ (cs : Group). set_inode cs d.agino new) wide in
    added s d t layouts u others block new chunk (record {
      before = is;
      can = can;
      first = agino;
      aligned = spot.aligned;
      absent = spot.absent;
      group = own_group;
      page = page_stays t layouts g d.agino false (eqb links 0) is.layouts_of low;
      relinks = makes.relinks;
      own = makes.inode;
      space =
          subst (λ (cs : Group). IsSpaceOf s.geometry.blocks cs (changed_space s.space d.space)) (sym own_group)
          (subst (λ (n : ℕ). IsSpaceOf s.geometry.blocks (set_inode (insert_chunk (new_chunk block) chunks) n new) (changed_space s.space d.space)) (turned ∙ sym agino) space);
      prior = makes.prior;
      chunk_is = chunk_is;
      unused_all = all_unused;
    }))
    (subst (λ (l : List ℕ). AreEnough s.geometry g layouts chunks others (set_inode (wide_of t g) d.agino new) l) (sym places)
    (subst (λ (n : ℕ). AreEnough s.geometry g layouts chunks others (set_inode (wide_of t g) n new) (bitmap_all (page_places layouts g ++ chunk_places (block * BLOCK_SECTORS)))) (sym at) law_all))

-- the number of a create in a new chunk is in no list
pub not_listed : (t : Table) (g block agino : ℕ) → NewSpot t g block → agino ≡ block * BLOCK_SECTORS → is_unlinked (inode_in (group_at t g) agino) ≡ false
not_listed t g block agino spot e =
    let aligned = spot.aligned in
    let starts : block * BLOCK_SECTORS ≡ start_of agino = omega (arith, aligned, e) in
    ap is_unlinked (inode_before (block * BLOCK_SECTORS) (group_at t g) agino spot.absent starts)

-- ---- the parts of the change, as the code makes them

pub made_is : (others : Layouts) (group agino generation links next : ℕ) (core : Core) (blocks : List ℕ) → core ≡ core_for generation (Some (made_row links)) next → blocks ≡ []
    → next ≡ next_of others group agino → (let i : Incore = record { core = core; blocks = blocks } in i) ≡ incore_for others group agino (made_inode generation links)
made_is others group agino generation links next core blocks is none same =
    ap (λ (k : Core). let i : Incore = record { core = k; blocks = blocks } in i) (is ∙ ap (λ (n : ℕ). core_for generation (Some (made_row links)) n) same)
    ∙ ap (λ (b : List ℕ). let i : Incore = record { core = core_for generation (Some (made_row links)) (next_of others group agino); blocks = b } in i) none

pub moved_space : (blocks : ℕ) (chunks : Group) (a b : ℕ) (new : Inode) (s u : Space) (d e : Changed) → a ≡ b → s ≡ u → d ≡ e → IsSpaceOf blocks (set_inode chunks a new) (changed_space s d)
    → IsSpaceOf blocks (set_inode chunks b new) (changed_space u e)
moved_space blocks chunks a b new s u d e first second third is =
    subst (λ (x : Changed). IsSpaceOf blocks (set_inode chunks b new) (changed_space u x)) third
    (subst (λ (x : Space). IsSpaceOf blocks (set_inode chunks b new) (changed_space x d)) second
    (subst (λ (n : ℕ). IsSpaceOf blocks (set_inode chunks n new) (changed_space s d)) first is))

-- the place of the next chunk, as the space tells it
pub place_told : (s : StateValue) (t : Table) (layouts : Layouts) (space : Space) (o : Option ℕ) → IsGroupOf s t layouts → space ≡ s.space
    → ((blocks : ℕ) (chunks : Group) → IsSpaceOf blocks chunks space → o ≡ chunk_place blocks chunks) → chunk_place t.blocks (group_at t s.group) ≡ o
place_told s t layouts space o is same told =
    ap (λ (n : ℕ). chunk_place n (group_at t s.group)) is.blocks
    ∙ sym (told s.geometry.blocks (group_at t s.group) (subst (λ (x : Space). IsSpaceOf s.geometry.blocks (group_at t s.group) x) (sym same) is.space))
