-- The key that a create gives is that of a free inode.
use Rattle.std.proofs.Common.{◌≡◌, ◌==◌, ◌+◌, ◌*◌, ◌/◌, ◌%◌, ◌<◌, ◌≤◌, ◌⊎◌, ℕ, zero, suc, true, false, List, [], ◌∷◌, ◌++◌, Option, None, Some, is_some, is_none, if◌then◌else◌, nat_lt, length, slice_get, refl, sym, ap, ◌∙◌, inl, inr, arith}
use Rattle.std.proofs.lemmas.Option.{none-some, same_Some, slice_get_within}
use Rattle.std.proofs.lemmas.Bool.{eq-eqb, ne_eqb, and_parts, ltb-true, false≢true}
use Rattle.life_limits.specs.declared.TheConstants.{BLOCK_SECTORS, CHUNK_INODES, GROUP_NUMBERS, MAX_BLOCKS, MAX_GENERATION}
use Rattle.life_table.specs.declared.key.Key.{Key}
use Rattle.life_table.specs.declared.table.Inode.{Inode}
use Rattle.life_table.specs.declared.table.Chunk.{Chunk}
use Rattle.life_table.specs.Table.{Group, inode_in, start_of}
use Rattle.life_table.specs.Space.{times, chunk_blocks, used, is_free, keys_from, free_keys, lowest_key, chunk_place, with_chunk, prepared}
use Rattle.life_table.specs.WellFormed.{IsChunk, IsGroup, ChunksAscend}
use Rattle.life_table.proofs.Counts.{times-used_cons, times-chunk}
use Rattle.life_table.proofs.Groups.{AllByRecursion-get, IsPlace-chunk_place, IsGroup-insert_chunk}

-- a free inode at a place of some inodes, whose first has this number
pub record IsAmongInodes (number : ℕ) (inodes : List Inode) (key : Key) : Type 0 where
  pub place : ℕ
  pub inode : Inode
  pub at : slice_get inodes place ≡ Some inode
  pub named : key.number ≡ number + place
  pub life : key.generation ≡ inode.generation
  pub free : is_free inode ≡ true

later_inode : (number : ℕ) (first : Inode) (inodes : List Inode) (key : Key) → IsAmongInodes (number + 1) inodes key → IsAmongInodes number (first ∷ inodes) key
later_inode number first inodes key found =
    let named : key.number ≡ number + 1 + found.place = found.named in
    record { place = suc found.place; inode = found.inode; at = found.at; named = omega (arith, named); life = found.life; free = found.free }

pub first_from : (number : ℕ) (inodes : List Inode) (key : Key) → slice_get (keys_from number inodes) 0 ≡ Some key → IsAmongInodes number inodes key
unfolding keys_from
first_from number [] key at = absurd (none-some key at)
first_from number (inode ∷ inodes) key at =
    elim (is_free inode) as (λ c. is_free inode ≡ c
    → slice_get (if c then record { number = number; generation = inode.generation } ∷ keys_from (number + 1) inodes else keys_from (number + 1) inodes) 0 ≡ Some key
    → IsAmongInodes number (inode ∷ inodes) key) [
      | true ↦ λ free here.
          let named : number ≡ key.number = ap (λ (k : Key). k.number) (same_Some (record { number = number; generation = inode.generation }) key here) in
          let life : inode.generation ≡ key.generation = ap (λ (k : Key). k.generation) (same_Some (record { number = number; generation = inode.generation }) key here) in
          record { place = 0; inode = inode; at = refl; named = omega (arith, named); life = sym life; free = free }
      | false ↦ λ free here. later_inode number inode inodes key (first_from (number + 1) inodes key here)
    ] refl at

-- a free inode in a chunk of the group at this place
pub record IsAmong (g : ℕ) (group : Group) (key : Key) : Type 0 where
  pub where_ : ℕ
  pub chunk : Chunk
  pub has : slice_get group where_ ≡ Some chunk
  pub place : ℕ
  pub inode : Inode
  pub at : slice_get chunk.inodes place ≡ Some inode
  pub named : key.number ≡ g * GROUP_NUMBERS + chunk.start + place
  pub life : key.generation ≡ inode.generation
  pub free : is_free inode ≡ true

head-append : {X : Type 0} (xs ys : List X) (x : X) → slice_get (xs ++ ys) 0 ≡ Some x → (slice_get xs 0 ≡ Some x) ⊎ (slice_get ys 0 ≡ Some x)
head-append [] ys x at = inr at
head-append (y ∷ xs) ys x at = inl at

pub lowest-IsAmong : (g : ℕ) (group : Group) (key : Key) → lowest_key g group ≡ Some key → IsAmong g group key
unfolding free_keys
lowest-IsAmong g [] key at = absurd (none-some key at)
lowest-IsAmong g (chunk ∷ chunks) key at =
    elim (head-append (keys_from (g * GROUP_NUMBERS + chunk.start) chunk.inodes) (free_keys g chunks) key at) [
      | inl here ↦
          let found = first_from (g * GROUP_NUMBERS + chunk.start) chunk.inodes key here in
          record { where_ = 0; chunk = chunk; has = refl; place = found.place; inode = found.inode; at = found.at; named = found.named; life = found.life; free = found.free }
      | inr later ↦
          let found = lowest-IsAmong g chunks key later in
          record { where_ = suc found.where_; chunk = found.chunk; has = found.has; place = found.place; inode = found.inode; at = found.at; named = found.named; life = found.life; free = found.free }
    ]

-- the inode at a place of a chunk is that of its number
pub inode_in-at : (group : Group) (where_ : ℕ) (chunk : Chunk) (place : ℕ) → ChunksAscend group → slice_get group where_ ≡ Some chunk → chunk.start % CHUNK_INODES ≡ 0 → place < CHUNK_INODES
    → inode_in group (chunk.start + place) ≡ slice_get chunk.inodes place
unfolding inode_in
inode_in-at [] where_ chunk place ascends at start low = absurd (none-some chunk at)
inode_in-at (first ∷ chunks) zero chunk place ascends at start low =
    let same : first ≡ chunk = same_Some first chunk at in
    let starts : first.start ≡ chunk.start = ap (λ (c : Chunk). c.start) same in
    let here : (first.start == start_of (chunk.start + place)) ≡ true = eq-eqb first.start (start_of (chunk.start + place)) (omega (arith, starts)) in
    let modulo : (chunk.start + place) % CHUNK_INODES ≡ place = omega arith in
    rw (here, modulo, same)
inode_in-at (first ∷ chunks) (suc where_) chunk place ascends at start low =
    let behind : first.start < chunk.start = AllByRecursion-get (λ (later : Chunk). first.start < later.start) chunks where_ chunk ascends.0 at in
    let other : (first.start == start_of (chunk.start + place)) ≡ false = ne_eqb first.start (start_of (chunk.start + place)) (λ e. omega arith) in
    rw other (inode_in-at chunks where_ chunk place ascends.1 at start low)

-- a chunk has its blocks among those of the group
times-used_at : (group : Group) (where_ : ℕ) (chunk : Chunk) (b : ℕ) → slice_get group where_ ≡ Some chunk → times b (chunk_blocks chunk) ≤ times b (used group)
times-used_at [] where_ chunk b at = absurd (none-some chunk at)
times-used_at (first ∷ chunks) zero chunk b at =
    let same : times b (chunk_blocks first) ≡ times b (chunk_blocks chunk) = ap (λ (c : Chunk). times b (chunk_blocks c)) (same_Some first chunk at) in
    let parts = times-used_cons b first chunks in
    omega (arith, same, parts)
times-used_at (first ∷ chunks) (suc where_) chunk b at =
    let rest = times-used_at chunks where_ chunk b at in
    let parts = times-used_cons b first chunks in
    omega (arith, rest, parts)

-- the numbers of a chunk are numbers of its group
pub within_group : (blocks : ℕ) (group : Group) (where_ : ℕ) (chunk : Chunk) → blocks ≤ MAX_BLOCKS → IsGroup blocks group → slice_get group where_ ≡ Some chunk
    → chunk.start + CHUNK_INODES ≤ GROUP_NUMBERS
within_group blocks group where_ chunk small ok at =
    let last : ℕ = chunk.start / BLOCK_SECTORS + 7 in
    let one : times last (chunk_blocks chunk) ≡ 1 = times-chunk last chunk (omega arith) (omega arith) in
    let has : times last (chunk_blocks chunk) ≤ times last (used group) = times-used_at group where_ chunk last at in
    let low = ok.data_blocks last (omega (arith, one, has)) in
    let start : chunk.start % CHUNK_INODES ≡ 0 = (AllByRecursion-get IsChunk group where_ chunk ok.chunks at).start in
    let below : last < blocks = low.1 in
    omega (arith, below, start, small)

-- the inode of a key that was found
pub record IsFreeAt (g : ℕ) (group : Group) (key : Key) : Type 0 where
  pub inode : Inode
  pub group_is : key.number / GROUP_NUMBERS ≡ g
  pub at : inode_in group (key.number % GROUP_NUMBERS) ≡ Some inode
  pub row : inode.row ≡ None
  pub life : inode.generation ≡ key.generation
  pub left : inode.generation < MAX_GENERATION

no_row : {X : Type 0} (o : Option X) → is_none o ≡ true → o ≡ None
no_row None is = refl
no_row (Some x) is = absurd (false≢true is)

pub IsFreeAt-lowest : (blocks g : ℕ) (group : Group) (key : Key) → blocks ≤ MAX_BLOCKS → IsGroup blocks group → lowest_key g group ≡ Some key → IsFreeAt g group key
IsFreeAt-lowest blocks g group key small ok at =
    let found = lowest-IsAmong g group key at in
    let chunk = AllByRecursion-get IsChunk group found.where_ found.chunk ok.chunks found.has in
    let start : found.chunk.start % CHUNK_INODES ≡ 0 = chunk.start in
    let whole : length found.chunk.inodes ≡ CHUNK_INODES = chunk.whole in
    let inside : found.place < length found.chunk.inodes = slice_get_within found.chunk.inodes found.place found.inode found.at in
    let low : found.place < CHUNK_INODES = omega (arith, inside, whole) in
    let end : found.chunk.start + CHUNK_INODES ≤ GROUP_NUMBERS = within_group blocks group found.where_ found.chunk small ok found.has in
    let named : key.number ≡ g * GROUP_NUMBERS + found.chunk.start + found.place = found.named in
    let agino : key.number % GROUP_NUMBERS ≡ found.chunk.start + found.place = omega (arith, named, end, low) in
    let tests = and_parts (is_none found.inode.row) (nat_lt found.inode.generation MAX_GENERATION) found.free in
    record {
      inode = found.inode;
      group_is = omega (arith, named, end, low);
      at = rw agino (inode_in-at group found.where_ found.chunk found.place ok.ascends found.has start low ∙ found.at);
      row = no_row found.inode.row tests.0;
      life = sym found.life;
      left = ltb-true found.inode.generation MAX_GENERATION tests.1;
    }

-- the group as a create finds it is well formed
pub IsGroup-prepared : (blocks g : ℕ) (group : Group) → IsGroup blocks group → IsGroup blocks (prepared blocks g group)
unfolding prepared
IsGroup-prepared blocks g group ok =
    elim (is_some (lowest_key g group)) as (λ c. IsGroup blocks (if c then group else with_chunk group (chunk_place blocks group))) [
      | true ↦ ok
      | false ↦
          elim (chunk_place blocks group) as (λ (o : Option ℕ). chunk_place blocks group ≡ o → IsGroup blocks (with_chunk group o)) [
            | None ↦ λ is. ok
            | Some block ↦ λ is. IsGroup-insert_chunk blocks group block ok (IsPlace-chunk_place blocks group block is)
          ] refl
    ]
