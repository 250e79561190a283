-- The key that a create gives is that of a free inode.
use Rattle.std.proofs.Common.{◌≡◌, ◌==◌, ◌+◌, ◌*◌, ◌/◌, ◌%◌, ◌<◌, ◌≤◌, ◌⊎◌, ℕ, zero, suc, Bool, true, false, cond, List, [], ◌∷◌, ◌++◌, Option, None, Some, is_some, is_none, if◌then◌else◌, nat_lt, length, slice_get, eqb, leb, ltb, refl, sym, ap, subst, ◌∙◌, inl, inr, arith}
use Rattle.std.specs.Prelude.{◌≢◌, ◌&&◌}
use Rattle.std.specs.List.{AllByRecursion, find, list_all, range_with_len}
use Rattle.std.proofs.lemmas.Option.{none-some, same_Some, slice_get_within}
use Rattle.std.proofs.lemmas.Bool.{cases_eq, cases_lt, eq-eqb, eqb-true, ne_eqb, and_parts, ltb-true, ltb-false, false≢true}
use Rattle.std.proofs.lemmas.List.{length-replicate}
use Rattle.std.proofs.lemmas.List.Elements.{All-from_recursion}
use Rattle.life_limits.specs.declared.TheConstants.{BLOCK_SECTORS, CHUNK_INODES, FIRST_DATA_BLOCK, GROUP_NUMBERS, MAX_BLOCKS, MAX_CHUNKS, MAX_GENERATION}
use Rattle.life_table.specs.declared.key.Key.{Key}
use Rattle.life_table.specs.declared.types.Row.{Row}
use Rattle.life_table.specs.declared.table.Inode.{Inode}
use Rattle.life_table.specs.declared.table.Chunk.{Chunk}
use Rattle.life_table.specs.declared.table.Table.{Table}
use Rattle.life_table.specs.Table.{Group, group_at, inode_in, inode_of, start_of}
use Rattle.life_table.specs.Space.{times, chunk_blocks, used, is_free, keys_from, free_keys, lowest_key, chunk_place, begins_run, is_free_block, insert_chunk, new_chunk, with_chunk, prepared}
use Rattle.life_table.specs.Legal.{IsNextKey, prepare}
use Rattle.life_table.specs.WellFormed.{IsChunk, IsDataBlock, IsGroup, IsTable, ChunksAscend}
use Rattle.encoded_changes.specs.Changes.{unused_inode}
use Rattle.encoded_changes.proofs.Buckets.{times-here, times-tail}
use Rattle.encoded_changes.proofs.Inodes.{used_first}
use Rattle.encoded_changes.proofs.Prepared.{find-passes, place_free}
use Rattle.encoded_changes.proofs.Rows.{own_group}

AllByRecursion-get : {X : Type 0} (P : X → Type 0) (xs : List X) (i : ℕ) (x : X) → AllByRecursion P xs → slice_get xs i ≡ Some x → P x
AllByRecursion-get P [] i x all at = absurd (none-some x at)
AllByRecursion-get P (y ∷ xs) zero x all at = subst P (same_Some y x at) all.0
AllByRecursion-get P (y ∷ xs) (suc i) x all at = AllByRecursion-get P xs i x all.1 at

AllByRecursion-weaker : {X : Type 0} (P Q : X → Type 0) (xs : List X) → ((x : X) → P x → Q x) → AllByRecursion P xs → AllByRecursion Q xs
AllByRecursion-weaker P Q [] weaker all = tt
AllByRecursion-weaker P Q (x ∷ xs) weaker all = (weaker x all.0, AllByRecursion-weaker P Q xs weaker all.1)

-- ---- chunks that ascend, each within the numbers of its group

record IsWell (chunk : Chunk) : Type 0 where
  start : chunk.start % CHUNK_INODES ≡ 0
  whole : length chunk.inodes ≡ CHUNK_INODES
  end : chunk.start + CHUNK_INODES ≤ GROUP_NUMBERS

times_range : (b s n : ℕ) → s ≤ b → b < s + n → 1 ≤ times b (range_with_len s n)
times_range b s zero low high = absurd (omega arith)
times_range b s (suc n) low high =
    elim (cases_eq s b) [
      | inl same ↦ omega (arith, times-here b s (range_with_len (s + 1) n) same)
      | inr apart ↦ omega (arith, times_range b (s + 1) n (omega arith) (omega arith), times-tail b s (range_with_len (s + 1) n))
    ]

pub last_block : (chunk : Chunk) → 1 ≤ times (chunk.start / BLOCK_SECTORS + 7) (chunk_blocks chunk)
unfolding chunk_blocks
last_block chunk = times_range (chunk.start / BLOCK_SECTORS + 7) (chunk.start / BLOCK_SECTORS) 8 (omega arith) (omega arith)

one_well : (blocks : ℕ) (chunk : Chunk) → blocks ≤ MAX_BLOCKS → IsChunk chunk → IsDataBlock blocks (chunk.start / BLOCK_SECTORS + 7) → IsWell chunk
one_well blocks chunk few is data_block =
    let start : chunk.start % CHUNK_INODES ≡ 0 = is.start in
    let below = data_block.1 in
    record { start = is.start; whole = is.whole; end = omega (arith, start, below, few) }

all_well : (blocks : ℕ) (group : Group) → blocks ≤ MAX_BLOCKS → AllByRecursion IsChunk group → ((b : ℕ) → 1 ≤ times b (used group) → IsDataBlock blocks b) → AllByRecursion IsWell group
all_well blocks [] few is data_blocks = tt
all_well blocks (c ∷ cs) few is data_blocks = (
  one_well blocks c few is.0 (data_blocks (c.start / BLOCK_SECTORS + 7) (omega (arith, last_block c, used_first (c.start / BLOCK_SECTORS + 7) c cs))),
  all_well blocks cs few is.1 (λ b h. data_blocks b (omega (arith, h, used_first b c cs))),
)

record AreWell (group : Group) : Type 0 where
  each : AllByRecursion IsWell group
  ascends : ChunksAscend group

group_well : (blocks : ℕ) (group : Group) → blocks ≤ MAX_BLOCKS → IsGroup blocks group → AreWell group
group_well blocks group few is = record { each = all_well blocks group few is.chunks is.data_blocks; ascends = is.ascends }

abbrev IsAbsent : ℕ → Group → Type 0
IsAbsent start group = AllByRecursion (λ (chunk : Chunk). chunk.start ≢ start) group

All-insert_chunk : (P : Chunk → Type 0) (new : Chunk) (group : Group) → P new → AllByRecursion P group → AllByRecursion P (insert_chunk new group)
unfolding insert_chunk
All-insert_chunk P new [] here all = (here, tt)
All-insert_chunk P new (chunk ∷ chunks) here all =
    elim (nat_lt new.start chunk.start) as (λ c. AllByRecursion P (if c then new ∷ chunk ∷ chunks else chunk ∷ insert_chunk new chunks)) [
      | true ↦ (here, all)
      | false ↦ (all.0, All-insert_chunk P new chunks here all.1)
    ]

Ascends-insert_chunk : (new : Chunk) (group : Group) → IsAbsent new.start group → ChunksAscend group → ChunksAscend (insert_chunk new group)
unfolding insert_chunk
Ascends-insert_chunk new [] absent ascends = (tt, tt)
Ascends-insert_chunk new (chunk ∷ chunks) absent ascends =
    elim (nat_lt new.start chunk.start) as (λ c. nat_lt new.start chunk.start ≡ c → ChunksAscend (if c then new ∷ chunk ∷ chunks else chunk ∷ insert_chunk new chunks)) [
      | true ↦ λ below.
          let low : new.start < chunk.start = ltb-true new.start chunk.start below in
          let later : AllByRecursion (λ (other : Chunk). new.start < other.start) chunks =
          AllByRecursion-weaker (λ (other : Chunk). chunk.start < other.start) (λ (other : Chunk). new.start < other.start) chunks (λ other more. omega (arith, low, more)) ascends.0 in
          ((low, later), ascends)
      | false ↦ λ below.
          let high : chunk.start ≤ new.start = ltb-false new.start chunk.start below in
          let apart : chunk.start ≢ new.start = absent.0 in
          let behind : chunk.start < new.start = elim (cases_lt chunk.start new.start) [ inl low ↦ low | inr not_low ↦ absurd (apart (omega (arith, high, not_low))) ] in
          (All-insert_chunk (λ (other : Chunk). chunk.start < other.start) new chunks behind ascends.0, Ascends-insert_chunk new chunks absent.1 ascends.1)
    ] refl

-- ---- the group as a create finds it

pub first_block : (chunk : Chunk) (block : ℕ) → chunk.start ≡ block * BLOCK_SECTORS → 1 ≤ times block (chunk_blocks chunk)
unfolding chunk_blocks
first_block chunk block e = times_range block (chunk.start / BLOCK_SECTORS) 8 (omega (arith, e)) (omega (arith, e))

absent : (group : Group) (block : ℕ) → times block (used group) ≡ 0 → IsAbsent (block * BLOCK_SECTORS) group
absent [] block none = tt
absent (chunk ∷ chunks) block none = (
  λ e. absurd (omega (arith, used_first block chunk chunks, first_block chunk block e, none)),
  absent chunks block (omega (arith, used_first block chunk chunks, none)),
)

range_all : (p : ℕ → Bool) (a n b : ℕ) → list_all p (range_with_len a n) ≡ true → a ≤ b → b < a + n → p b ≡ true
range_all p a zero b all low high = absurd (omega arith)
range_all p a (suc n) b all low high =
    let parts = and_parts (p a) (list_all p (range_with_len (a + 1) n)) all in
    elim (cases_eq a b) [
      | inl same ↦ subst (λ z. p z ≡ true) same parts.0
      | inr differ ↦ range_all p (a + 1) n b parts.1 (omega arith) (omega arith)
    ]

free_below : (blocks : ℕ) (chunks : Group) (block : ℕ) → is_free_block blocks chunks block ≡ true → block < blocks
unfolding is_free_block
free_below blocks chunks block e =
    let outer = and_parts (leb FIRST_DATA_BLOCK block) (ltb block blocks && eqb (times block (used chunks)) 0) e in
    ltb-true block blocks (and_parts (ltb block blocks) (eqb (times block (used chunks)) 0) outer.1).0

run_place : (blocks : ℕ) (chunks : Group) (block : ℕ) → begins_run blocks chunks block ≡ true → (block % 8 ≡ 0) × (block + 7 < blocks)
unfolding begins_run
run_place blocks chunks block e =
    let parts = and_parts (eqb (block % 8) 0) (list_all (is_free_block blocks chunks) (range_with_len block 8)) e in
    (eqb-true (block % 8) 0 parts.0, free_below blocks chunks (block + 7) (range_all (is_free_block blocks chunks) block 8 (block + 7) parts.1 (omega arith) (omega arith)))

chunk_fits : (blocks : ℕ) (chunks : Group) (block : ℕ) → chunk_place blocks chunks ≡ Some block → (block % 8 ≡ 0) × (block + 7 < blocks)
unfolding chunk_place
chunk_fits blocks chunks block e =
    elim (ltb (length chunks) MAX_CHUNKS) as (λ c. cond c (find (begins_run blocks chunks) (range_with_len 0 blocks)) None ≡ Some block → (block % 8 ≡ 0) × (block + 7 < blocks)) [
      | true ↦ λ found. run_place blocks chunks block (find-passes (begins_run blocks chunks) (range_with_len 0 blocks) block found)
      | false ↦ λ found. absurd (none-some block found)
    ] e

new_well : (blocks block : ℕ) → blocks ≤ MAX_BLOCKS → block % 8 ≡ 0 → block + 7 < blocks → IsWell (new_chunk block)
unfolding new_chunk
new_well blocks block few aligned below = record {
  start = omega arith;
  whole = length-replicate {A = Inode} CHUNK_INODES (record { generation = 1; row = None });
  end = omega arith;
}

new_absent : (block : ℕ) (chunks : Group) → times block (used chunks) ≡ 0 → IsAbsent (new_chunk block).start chunks
unfolding new_chunk
new_absent block chunks none = absent chunks block none

with_well : (blocks : ℕ) (chunks : Group) (place : Option ℕ) → blocks ≤ MAX_BLOCKS → AreWell chunks → chunk_place blocks chunks ≡ place → AreWell (with_chunk chunks place)
with_well blocks chunks None few well e = well
with_well blocks chunks (Some block) few well e =
    let fits = chunk_fits blocks chunks block e in
    record {
      each = All-insert_chunk IsWell (new_chunk block) chunks (new_well blocks block few fits.0 fits.1) well.each;
      ascends = Ascends-insert_chunk (new_chunk block) chunks (new_absent block chunks (place_free blocks chunks block e)) well.ascends;
    }

prepared_well : (blocks g : ℕ) (chunks : Group) → blocks ≤ MAX_BLOCKS → AreWell chunks → AreWell (prepared blocks g chunks)
unfolding prepared
prepared_well blocks g chunks few well =
    elim (is_some (lowest_key g chunks)) as (λ c. AreWell (cond c chunks (with_chunk chunks (chunk_place blocks chunks)))) [
      | true ↦ well
      | false ↦ with_well blocks chunks (chunk_place blocks chunks) few well refl
    ]

-- ---- the inode of the key

-- a free inode at a place of some inodes, whose first has this number
record IsAmongInodes (number : ℕ) (inodes : List Inode) (key : Key) : Type 0 where
  place : ℕ
  inode : Inode
  at : slice_get inodes place ≡ Some inode
  named : key.number ≡ number + place
  life : key.generation ≡ inode.generation
  free : is_free inode ≡ true

later_inode : (number : ℕ) (first : Inode) (inodes : List Inode) (key : Key) → IsAmongInodes (number + 1) inodes key → IsAmongInodes number (first ∷ inodes) key
later_inode number first inodes key found =
    let named : key.number ≡ number + 1 + found.place = found.named in
    record { place = suc found.place; inode = found.inode; at = found.at; named = omega (arith, named); life = found.life; free = found.free }

first_from : (number : ℕ) (inodes : List Inode) (key : Key) → slice_get (keys_from number inodes) 0 ≡ Some key → IsAmongInodes number inodes key
unfolding keys_from
first_from number [] key at = absurd (none-some key at)
first_from number (inode ∷ inodes) key at =
    elim (is_free inode) as (λ c. is_free inode ≡ c
    → slice_get (if c then record { number = number; generation = inode.generation } ∷ keys_from (number + 1) inodes else keys_from (number + 1) inodes) 0 ≡ Some key
    → IsAmongInodes number (inode ∷ inodes) key) [
      | true ↦ λ free here.
          let named : number ≡ key.number = ap (λ (k : Key). k.number) (same_Some (record { number = number; generation = inode.generation }) key here) in
          let life : inode.generation ≡ key.generation = ap (λ (k : Key). k.generation) (same_Some (record { number = number; generation = inode.generation }) key here) in
          record { place = 0; inode = inode; at = refl; named = omega (arith, named); life = sym life; free = free }
      | false ↦ λ free here. later_inode number inode inodes key (first_from (number + 1) inodes key here)
    ] refl at

-- a free inode in a chunk of the group at this place
record IsAmong (g : ℕ) (group : Group) (key : Key) : Type 0 where
  where_ : ℕ
  chunk : Chunk
  has : slice_get group where_ ≡ Some chunk
  place : ℕ
  inode : Inode
  at : slice_get chunk.inodes place ≡ Some inode
  named : key.number ≡ g * GROUP_NUMBERS + chunk.start + place
  life : key.generation ≡ inode.generation
  free : is_free inode ≡ true

head-append : {X : Type 0} (xs ys : List X) (x : X) → slice_get (xs ++ ys) 0 ≡ Some x → (slice_get xs 0 ≡ Some x) ⊎ (slice_get ys 0 ≡ Some x)
head-append [] ys x at = inr at
head-append (y ∷ xs) ys x at = inl at

lowest-IsAmong : (g : ℕ) (group : Group) (key : Key) → lowest_key g group ≡ Some key → IsAmong g group key
unfolding free_keys
lowest-IsAmong g [] key at = absurd (none-some key at)
lowest-IsAmong g (chunk ∷ chunks) key at =
    elim (head-append (keys_from (g * GROUP_NUMBERS + chunk.start) chunk.inodes) (free_keys g chunks) key at) [
      | inl here ↦
          let found = first_from (g * GROUP_NUMBERS + chunk.start) chunk.inodes key here in
          record { where_ = 0; chunk = chunk; has = refl; place = found.place; inode = found.inode; at = found.at; named = found.named; life = found.life; free = found.free }
      | inr later ↦
          let found = lowest-IsAmong g chunks key later in
          record { where_ = suc found.where_; chunk = found.chunk; has = found.has; place = found.place; inode = found.inode; at = found.at; named = found.named; life = found.life; free = found.free }
    ]

-- the inode at a place of a chunk is that of its number
inode_in-at : (group : Group) (where_ : ℕ) (chunk : Chunk) (place : ℕ) → ChunksAscend group → slice_get group where_ ≡ Some chunk → chunk.start % CHUNK_INODES ≡ 0 → place < CHUNK_INODES
    → inode_in group (chunk.start + place) ≡ slice_get chunk.inodes place
unfolding inode_in
inode_in-at [] where_ chunk place ascends at start low = absurd (none-some chunk at)
inode_in-at (first ∷ chunks) zero chunk place ascends at start low =
    let same : first ≡ chunk = same_Some first chunk at in
    let starts : first.start ≡ chunk.start = ap (λ (c : Chunk). c.start) same in
    let here : (first.start == start_of (chunk.start + place)) ≡ true = eq-eqb first.start (start_of (chunk.start + place)) (omega (arith, starts)) in
    let modulo : (chunk.start + place) % CHUNK_INODES ≡ place = omega arith in
    rw (here, modulo, same)
inode_in-at (first ∷ chunks) (suc where_) chunk place ascends at start low =
    let behind : first.start < chunk.start = AllByRecursion-get (λ (later : Chunk). first.start < later.start) chunks where_ chunk ascends.0 at in
    let other : (first.start == start_of (chunk.start + place)) ≡ false = ne_eqb first.start (start_of (chunk.start + place)) (λ e. omega arith) in
    rw other (inode_in-at chunks where_ chunk place ascends.1 at start low)

-- an inode from its parts
abbrev inode_of_parts : ℕ → Option Row → Inode
inode_of_parts generation row = record { generation = generation; row = row }

record IsAt (g : ℕ) (group : Group) (key : Key) : Type 0 where
  group_is : key.number / GROUP_NUMBERS ≡ g
  at : inode_in group (key.number % GROUP_NUMBERS) ≡ Some (unused_inode key)

no_row : {X : Type 0} (o : Option X) → is_none o ≡ true → o ≡ None
no_row None is = refl
no_row (Some x) is = absurd (false≢true is)

inode_made : (inode : Inode) (key : Key) → key.generation ≡ inode.generation → inode.row ≡ None → inode ≡ unused_inode key
inode_made inode key life row =
    ap (λ (n : ℕ). inode_of_parts n inode.row) (sym life) ∙ ap (inode_of_parts key.generation) row

lowest_is : (g : ℕ) (group : Group) (key : Key) → AreWell group → lowest_key g group ≡ Some key → IsAt g group key
lowest_is g group key well at =
    let found = lowest-IsAmong g group key at in
    let chunk = AllByRecursion-get IsWell group found.where_ found.chunk well.each found.has in
    let start : found.chunk.start % CHUNK_INODES ≡ 0 = chunk.start in
    let whole : length found.chunk.inodes ≡ CHUNK_INODES = chunk.whole in
    let inside : found.place < length found.chunk.inodes = slice_get_within found.chunk.inodes found.place found.inode found.at in
    let low : found.place < CHUNK_INODES = omega (arith, inside, whole) in
    let end : found.chunk.start + CHUNK_INODES ≤ GROUP_NUMBERS = chunk.end in
    let named : key.number ≡ g * GROUP_NUMBERS + found.chunk.start + found.place = found.named in
    let agino : key.number % GROUP_NUMBERS ≡ found.chunk.start + found.place = omega (arith, named, end, low) in
    let tests = and_parts (is_none found.inode.row) (nat_lt found.inode.generation MAX_GENERATION) found.free in
    record {
      group_is = omega (arith, named, end, low);
      at = ap (inode_in group) agino ∙ inode_in-at group found.where_ found.chunk found.place well.ascends found.has start low ∙ found.at
          ∙ ap (λ (x : Inode). Some x) (inode_made found.inode key found.life (no_row found.inode.row tests.0));
    }

of_table : (t : Table) (group : ℕ) (key : Key) → IsTable t → IsNextKey t group key → IsAt group (prepared t.blocks group (group_at t group)) key
of_table t group key table next =
    let is : IsGroup t.blocks (group_at t group) = All-from_recursion (IsGroup t.blocks) t.groups table.groups group [] next.0 in
    lowest_is group (prepared t.blocks group (group_at t group)) key
    (prepared_well t.blocks group (group_at t group) table.most (group_well t.blocks (group_at t group) table.most is)) next.1

pub created_group : (t : Table) (group : ℕ) (key : Key) → IsTable t → IsNextKey t group key → key.number / GROUP_NUMBERS ≡ group
created_group t group key table next = (of_table t group key table next).group_is

pub created_inode : (t : Table) (group : ℕ) (key : Key) → IsTable t → IsNextKey t group key → inode_of (prepare t group) key.number ≡ Some (unused_inode key)
unfolding inode_of
created_inode t group key table next =
    let is = of_table t group key table next in
    ap (λ (n : ℕ). inode_in (group_at (prepare t group) n) (key.number % GROUP_NUMBERS)) is.group_is
    ∙ ap (λ (cs : Group). inode_in cs (key.number % GROUP_NUMBERS)) (own_group t group (prepared t.blocks group (group_at t group)) next.0)
    ∙ is.at

pub created_at : (t : Table) (group : ℕ) (key : Key) → IsTable t → IsNextKey t group key
    → inode_in (prepared t.blocks group (group_at t group)) (key.number % GROUP_NUMBERS) ≡ Some (unused_inode key)
created_at t group key table next = (of_table t group key table next).at
