-- The change of a free.
use Rattle.std.proofs.Common.{◌≡◌, ◌<◌, ◌≤◌, ◌+◌, ◌*◌, ◌/◌, ◌%◌, ◌++◌, ℕ, Bool, true, false, cond, eqb, List, [], ◌∷◌, Some, None, Option, length, inl, refl, ap, sym, subst, ◌∙◌, arith}
use Rattle.std.specs.Prelude.{IfSome, IsSomeAnd, is_none, is_some, ◌||◌}
use Rattle.std.specs.List.{range_with_len}
use Rattle.std.proofs.lemmas.Bool.{cond-false, eqb-true, ne_eqb}
use Rattle.life_limits.specs.declared.TheConstants.{BLOCK_SECTORS, BUCKETS, GROUP_NUMBERS, MAX_BLOCKS, NO_INODE}
use Rattle.life_bytes.specs.declared.sector.Sector.{Sector}
use Rattle.geometry.specs.declared.shape.Geometry.{Geometry}
use Rattle.geometry.specs.Places.{number_in}
use Rattle.geometry.specs.Shape.{IsGeometry}
use Rattle.inode_core.specs.declared.shape.Core.{Core}
use Rattle.inode_cache.specs.declared.inode.Incore.{Incore}
use Rattle.life_table.specs.declared.key.Key.{Key}
use Rattle.life_table.specs.declared.types.Row.{Row}
use Rattle.life_table.specs.declared.table.Inode.{Inode}
use Rattle.life_table.specs.declared.table.Table.{Table}
use Rattle.life_table.specs.Legal.{Awaits, Frees, freed}
use Rattle.life_table.specs.Space.{row_blocks, times}
use Rattle.life_table.specs.Table.{Group, group_at, in_use, inode_in, inode_of, row_in_life, row_of, set_inode, with_inode}
use Rattle.life_table.specs.WellFormed.{IsTable}
use Rattle.sound_image.specs.Places.{header_place}
use Rattle.sound_image.specs.Encoding.{Layouts, bucket_list, core_for, head_of, is_unlinked_row, next_in, page_of, page_place}
use Rattle.encoded_changes.specs.Changes.{TakesOut, taken_from}
use Rattle.change_images.specs.Enough.{AreEnoughFor, AreParts, IsInodeOf, bitmap_places, in_order, page_places}
use Rattle.group_space.specs.Space.{IsSpaceOf, changed_space}
use Rattle.group_ops.specs.declared.delta.Delta.{Delta}
use Rattle.group_ops.specs.declared.delta.Head.{Head}
use Rattle.group_ops.specs.declared.delta.Prior.{Prior}
use Rattle.group_ops.specs.Calls.{relisted, relisted_by}
use Rattle.group_ops.specs.Relinks.{IsPrior, IsTakenFrom, Relinks}
use Rattle.group_ops.specs.Represents.{IsGroupOf, incore_for}
use Rattle.group_ops.specs.Staging.{Leads, own_touched, touched}
use Rattle.group_ops.specs.Telling.{HasRowAt}
use Rattle.group_ops.specs.Values.{StateValue}
use Rattle.group_ops.proofs.Holding.{BlocksAreData, all_parts, none_above, parts, row_there}
use Rattle.group_ops.proofs.Keyed.{number_is, small_is}
use Rattle.group_ops.proofs.Relisting.{of_is, prior_in_bucket, relists, with_is}
use Rattle.group_ops.proofs.RowChanges.{Follows, OnlyGroup, OwnGroup, leads, touched_is}
use Rattle.group_ops.proofs.SetInodes.{inode_same}
use Rattle.group_ops.proofs.Told.{blank, can_encode}

-- ---- what the laws say

abbrev pub FirstFrees : Type 0
FirstFrees = (g : Geometry) (t : Table) (layouts others : Layouts) (image : List Sector) (group agino : ℕ) (old new : Inode) (some : List ℕ) → IsInodeOf g t layouts image group agino old
    → AreParts old new some → TakesOut layouts others group agino → head_of (bucket_list layouts group (agino % BUCKETS)) ≡ agino
    → AreEnoughFor g t layouts others group agino new (header_place ∷ (bitmap_places some ++ (page_places layouts group ++ agino ∷ [])))

abbrev pub LaterFrees : Type 0
LaterFrees = (g : Geometry) (t : Table) (layouts others : Layouts) (image : List Sector) (group agino prior : ℕ) (old new other : Inode) (some : List ℕ) → IsInodeOf g t layouts image group agino old
    → AreParts old new some → TakesOut layouts others group agino
    → inode_in (group_at t group) prior ≡ Some other → next_in (bucket_list layouts group (agino % BUCKETS)) prior ≡ agino
    → AreEnoughFor g t layouts others group agino new (header_place ∷ (bitmap_places some ++ (page_places layouts group ++ in_order prior agino)))

abbrev pub FreesStay : Type 0
FreesStay = (t u : Table) (key : Key) → IsTable t → Frees t key u → IsTable u

-- ---- the places

free_parts : (old new : Inode) (none : Bool) → ((block : ℕ) → MAX_BLOCKS ≤ block → times block (row_blocks new.row) ≡ times block (row_blocks old.row))
    → (none ≡ true → (block : ℕ) → times block (row_blocks new.row) ≡ times block (row_blocks old.row)) → AreParts old new (cond none [] parts)
free_parts old new true stays same = record {
  ascend = λ k low. absurd (omega (arith, low));
  within = λ k d low. absurd (omega (arith, low));
  whole = λ block. inl (same refl block);
}
free_parts old new false stays same = all_parts old new stays

pub or_true : (b : Bool) → (b || true) ≡ true
or_true true = refl
or_true false = refl

some_or_none : (o : Option (List Bool)) (none : Bool) → is_none o ≡ none → cond (is_some o) (bitmap_places parts) [] ≡ bitmap_places (cond none [] parts)
some_or_none None none e = ap (λ (b : Bool). bitmap_places (cond b [] parts)) e
some_or_none (Some x) none e = ap (λ (b : Bool). bitmap_places (cond b [] parts)) e

pub page_range : (layouts : Layouts) (group page : ℕ) → page ≡ page_of layouts group → range_with_len (BLOCK_SECTORS * page) BLOCK_SECTORS ≡ page_places layouts group
unfolding page_place
page_range layouts group page e = ap (λ (n : ℕ). range_with_len (BLOCK_SECTORS * n) BLOCK_SECTORS) e

pub free_places : (s : StateValue) (d : Delta) (layouts : Layouts) (none : Bool) → s.page ≡ page_of layouts s.group → d.chunk ≡ None → is_some d.space.records ≡ true → is_none d.space.free ≡ none
    → touched s.page d ≡ header_place ∷ (bitmap_places (cond none [] parts) ++ (page_places layouts s.group ++ own_touched d.agino d.prior))
free_places s d layouts none page chunk records free =
    touched_is s.page d d.head d.prior d.space None refl refl refl chunk
    ∙ ap (λ (b : Bool). cond (is_some d.head || b) (header_place ∷ []) []
    ++ (cond (is_some d.space.free) (bitmap_places parts) [] ++ (cond b (range_with_len (BLOCK_SECTORS * s.page) BLOCK_SECTORS) [] ++ own_touched d.agino d.prior))) records
    ∙ ap (λ (b : Bool). cond b (header_place ∷ []) []
    ++ (cond (is_some d.space.free) (bitmap_places parts) [] ++ (range_with_len (BLOCK_SECTORS * s.page) BLOCK_SECTORS ++ own_touched d.agino d.prior))) (or_true (is_some d.head))
    ∙ ap (λ (l : List ℕ). header_place ∷ (l ++ (range_with_len (BLOCK_SECTORS * s.page) BLOCK_SECTORS ++ own_touched d.agino d.prior))) (some_or_none d.space.free none free)
    ∙ ap (λ (l : List ℕ). header_place ∷ (bitmap_places (cond none [] parts) ++ (l ++ own_touched d.agino d.prior))) (page_range layouts s.group s.page page)

free_enough : FirstFrees → LaterFrees → (s : StateValue) (t : Table) (layouts : Layouts) (agino : ℕ) (old new : Inode) (some : List ℕ) (head : Option Head) (prior : Option Prior)
    → IsInodeOf s.geometry t layouts (blank s.geometry) s.group agino old → IsGroupOf s t layouts → s.group < length t.groups → agino < GROUP_NUMBERS → AreParts old new some
    → IsTakenFrom layouts s.group agino head prior → IfSome prior (IsPrior s t layouts (taken_from layouts s.group agino) agino)
    → AreEnoughFor s.geometry t layouts (taken_from layouts s.group agino) s.group agino new
    (header_place ∷ (bitmap_places some ++ (page_places layouts s.group ++ own_touched agino prior)))
free_enough first later s t layouts agino old new some (Some head) None is group low small are stands before =
    first s.geometry t layouts (taken_from layouts s.group agino) (blank s.geometry) s.group agino old new some is are (relists t layouts s.group agino true false group.layouts_of low) stands
free_enough first later s t layouts agino old new some (Some head) (Some prior) is group low small are stands before = absurd stands
free_enough first later s t layouts agino old new some None (Some prior) is group low small are stands before =
    later s.geometry t layouts (taken_from layouts s.group agino) (blank s.geometry) s.group agino prior.agino old new before.inode some is are
    (relists t layouts s.group agino true false group.layouts_of low) before.found (prior_in_bucket t layouts s.group prior.agino agino group.layouts_of low small before.points)
free_enough first later s t layouts agino old new some None None is group low small are stands before = absurd stands

-- ---- the change

freed_is : (layouts : Layouts) (group agino generation : ℕ)
    → (let c : Core = record { live = false; links = 0; size = 0; blocks = 0; extents = 0; generation = generation; next = NO_INODE } in let i : Incore = record { core = c; blocks = [] } in i)
    ≡ incore_for layouts group agino (record { generation = generation; row = None })
unfolding core_for
freed_is layouts group agino generation = refl

-- the inode of a number that was freed
abbrev pub free_inode : Key → Inode
free_inode key = record { generation = key.generation + 1; row = None }

empty_times : (blocks : List ℕ) → eqb (length blocks) 0 ≡ true → (block : ℕ) → 0 ≡ times block blocks
unfolding times
empty_times [] e block = refl
empty_times (b ∷ bs) e block = absurd (omega (arith, eqb-true (length (b ∷ bs)) 0 e))

no_times : (block : ℕ) → times block [] ≡ 0
unfolding times
no_times block = refl

no_row_after : (t u : Table) (key : Key) (group agino : ℕ) → inode_of u key.number ≡ Some (free_inode key) → row_of u key ≡ None
no_row_after t u key group agino at =
    ap (λ (o : Option Inode). row_in_life key.generation o) at
    ∙ cond-false (eqb (key.generation + 1) key.generation) None None (ne_eqb (key.generation + 1) key.generation (λ e. omega (arith, e)))

pub free_leads : Follows → OwnGroup → OnlyGroup → FirstFrees → LaterFrees → BlocksAreData → FreesStay → (s : StateValue) (d : Delta) (t : Table) (layouts : Layouts) (key : Key) (row : Row)
    → IsGeometry s.geometry → s.group < s.geometry.groups → key.number / GROUP_NUMBERS ≡ s.group → d.agino ≡ key.number % GROUP_NUMBERS
    → HasRowAt s d.agino t layouts (in_use key row) row → row_of t key ≡ Some row → row.links ≡ 0 → IsSomeAnd (row_of t key) Awaits
    → d.inode ≡ incore_for (taken_from layouts s.group d.agino) s.group d.agino (free_inode key)
    → Relinks s t layouts (taken_from layouts s.group d.agino) d.agino d.head d.prior → IsTakenFrom layouts s.group d.agino d.head d.prior
    → IsSpaceOf s.geometry.blocks (set_inode (group_at t s.group) d.agino (free_inode key)) (changed_space s.space d.space)
    → d.chunk ≡ None → is_some d.space.records ≡ true → is_none d.space.free ≡ eqb (length row.blocks) 0
    → Leads s d t layouts (freed t key) (relisted_by layouts key (row_of t key) (row_of (freed t key) key))
free_leads follows own_group only_group first later are_data stay s d t layouts key row shape inside own at has held unlinked awaits inode relinks stands space chunk records free =
    let old : Inode = in_use key row in
    let new : Inode = free_inode key in
    let number = number_is key.number s.group d.agino own at in
    let small = small_is key.number d.agino at in
    let low : s.group < length t.groups = omega (arith, inside, has.group.groups) in
    let u : Table = with_inode t (number_in s.group d.agino) new in
    let same : u ≡ freed t key = ap (λ (n : ℕ). with_inode t n new) number in
    let table : IsTable u = subst IsTable (sym same) (stay t (freed t key) key has.group.table (awaits, refl)) in
    let old_data = are_data t (record { number = number_in s.group d.agino; generation = key.generation }) row has.group.table (row_there t s.group d.agino old row small has.inode_there refl) in
    let few : t.blocks ≤ MAX_BLOCKS = has.group.table.most in
    let above : (block : ℕ) → MAX_BLOCKS ≤ block → times block (row_blocks new.row) ≡ times block (row_blocks old.row) = λ block high.
    no_times block ∙ sym (none_above row.blocks t.blocks block old_data (omega (arith, high, few))) in
    let isinode : IsInodeOf s.geometry t layouts (blank s.geometry) s.group d.agino old =
    record { encodes = can_encode s t layouts shape has.group; within = inside; found = has.inode_there } in
    let none : Bool = eqb (length row.blocks) 0 in
    let enough : AreEnoughFor s.geometry t layouts (taken_from layouts s.group d.agino) s.group d.agino new (touched s.page d) =
    subst (λ (l : List ℕ). AreEnoughFor s.geometry t layouts (taken_from layouts s.group d.agino) s.group d.agino new l)
    (sym (free_places s d layouts none has.group.page chunk records free))
    (free_enough first later s t layouts d.agino old new (cond none [] parts) d.head d.prior isinode has.group low small
    (free_parts old new none above (λ e block. no_times block ∙ empty_times row.blocks e block)) stands relinks.before) in
    let lead = leads follows own_group only_group s d t layouts old new true false shape inside has.group small has.inode_there (ap (λ (n : ℕ). eqb n 0) unlinked) refl table
    inode relinks space chunk enough in
    let there : inode_of (freed t key) key.number ≡ Some new =
    ap (λ (v : Table). inode_of v key.number) (sym same)
    ∙ ap (λ (n : ℕ). inode_of u n) (sym number)
    ∙ of_is u s.group d.agino small
    ∙ ap (λ (v : Table). inode_in (group_at v s.group) d.agino) (with_is t s.group d.agino new small)
    ∙ ap (λ (cs : Group). inode_in cs d.agino) (own_group t s.group (set_inode (group_at t s.group) d.agino new) low)
    ∙ inode_same (group_at t s.group) d.agino old new has.inode_there in
    let gone = no_row_after t (freed t key) key s.group d.agino there in
    let lists : relisted layouts s.group d.agino true false ≡ relisted_by layouts key (row_of t key) (row_of (freed t key) key) =
    ap (λ (g : ℕ). relisted layouts g d.agino true false) (sym own)
    ∙ ap (λ (k : ℕ). relisted layouts (key.number / GROUP_NUMBERS) k true false) at
    ∙ ap (λ (b : Bool). relisted layouts (key.number / GROUP_NUMBERS) (key.number % GROUP_NUMBERS) b false) (sym (ap is_unlinked_row held ∙ ap (λ (n : ℕ). eqb n 0) unlinked))
    ∙ ap (λ (o : Option Row). relisted layouts (key.number / GROUP_NUMBERS) (key.number % GROUP_NUMBERS) (is_unlinked_row (row_of t key)) (is_unlinked_row o)) (sym gone) in
    subst (λ (l : Layouts). Leads s d t layouts (freed t key) l) lists
    (subst (λ (v : Table). Leads s d t layouts v (relisted layouts s.group d.agino true false)) same lead)

-- ---- a row that awaits

pub awaiting : (o : Option Row) → IsSomeAnd o Awaits → (row : Row) × (o ≡ Some row) × (row.links ≡ 0)
awaiting None is = absurd is
awaiting (Some row) is = (row, refl, is.0)

pub generation_of : (layouts : Layouts) (group agino : ℕ) (key : Key) (row : Row) (copy : Incore) → copy ≡ incore_for layouts group agino (in_use key row) → copy.core.generation ≡ key.generation
unfolding core_for
generation_of layouts group agino key row copy is = ap (λ (i : Incore). i.core.generation) is

-- the inode in core that a free leaves
pub freed_inode : (layouts : Layouts) (group agino : ℕ) (key : Key) (core : Core) (blocks : List ℕ) (generation : ℕ)
    → core ≡ record { live = false; links = 0; size = 0; blocks = 0; extents = 0; generation = generation + 1; next = NO_INODE } → blocks ≡ [] → generation ≡ key.generation
    → (let i : Incore = record { core = core; blocks = blocks } in i) ≡ incore_for layouts group agino (free_inode key)
freed_inode layouts group agino key core blocks generation is none same =
    ap (λ (k : Core). let i : Incore = record { core = k; blocks = blocks } in i) is
    ∙ ap (λ (b : List ℕ). let c : Core = record { live = false; links = 0; size = 0; blocks = 0; extents = 0; generation = generation + 1; next = NO_INODE } in let i : Incore = record { core = c; blocks = b } in i) none
    ∙ ap (λ (n : ℕ). let c : Core = record { live = false; links = 0; size = 0; blocks = 0; extents = 0; generation = n + 1; next = NO_INODE } in let i : Incore = record { core = c; blocks = [] } in i) same
    ∙ freed_is layouts group agino (key.generation + 1)
