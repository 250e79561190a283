-- How a space follows the chunks.
use Rattle.std.proofs.Common.{◌≡◌, ◌+◌, ◌*◌, ◌/◌, ◌%◌, ◌-◌, ◌≤◌, ℕ, suc, Bool, true, false, List, [], ◌∷◌, ◌++◌, Option, None, Some, map, refl, sym, ap, subst, ◌∙◌, arith}
use Rattle.std.specs.Prelude.{IsSomeAnd, is_none, is_some, sum_by}
use Rattle.std.specs.List.{find, range_with_len}
use Rattle.std.proofs.lemmas.Bool.{cond-false, false≢true, ne_eqb}
use Rattle.std.proofs.lemmas.List.Sums.{sum_by-cons}
use Rattle.life_bytes.specs.Bits.{is_set}
use Rattle.free_map.specs.Blocks.{is_block_free, IsFreeRun}
use Rattle.inobt_leaf.specs.declared.chunk.ChunkRec.{ChunkRec}
use Rattle.inobt_leaf.specs.Chunks.{IsLeaf, chunk_holds, after_give, after_take, where_held, with_whole_chunk}
use Rattle.life_table.specs.declared.types.Row.{Row}
use Rattle.life_table.specs.declared.table.Inode.{Inode}
use Rattle.life_table.specs.declared.table.Chunk.{Chunk}
use Rattle.life_table.specs.Table.{Group, inode_in, set_inode, start_of}
use Rattle.life_table.specs.Space.{BeginsFreeRun, insert_chunk, new_chunk, row_blocks, times, used}
use Rattle.life_table.specs.WellFormed.{IsGroup}
use Rattle.sound_image.specs.Rules.{free_set}
use Rattle.sound_image.specs.Encoding.{chunk_record, free_count}
use Rattle.group_space.specs.Space.{IsSpaceOf, IsUnused}
use Rattle.group_space.specs.Taken.{CanTake, IsWith, IsWithout}
use Rattle.group_space.proofs.Times.{times-nil, times-append, times-range_in, range_once, used-set, used-insert, row_blocks_used, chunk_used, first_block_used, new_chunk-no_rows, new_chunk-blocks, is_free_block-parts}
use Rattle.group_space.proofs.FreeSets.{free_at, given_set, kept_set, taken_set}
use Rattle.group_space.proofs.Records.{IsAbsent, added_inode, added_records, bit_says, chunk_held, given_records, head_record, kept_records, says_bit, tail_leaf, taken_records, unused}

-- ---- what two groups with one space have in common

agree : (o : Option ChunkRec) (f : ChunkRec → Bool) (a b : Bool) → IsSomeAnd o (λ r. f r ≡ a) → IsSomeAnd o (λ r. f r ≡ b) → a ≡ b
agree None f a b x y = absurd x
agree (Some r) f a b x y = sym x ∙ y

-- an inode of a number is in use in both or in neither
pub same_unused : (chunks others : Group) (agino : ℕ) (inode other : Inode) → IsLeaf (map chunk_record chunks) → map chunk_record others ≡ map chunk_record chunks
    → inode_in chunks agino ≡ Some inode → inode_in others agino ≡ Some other → unused inode ≡ unused other
same_unused chunks others agino inode other leaf same at also =
    let P : Bool → List ChunkRec → Type 0 = λ b rs. IsSomeAnd (find (chunk_holds agino) rs) (λ r. is_set r.mask (agino - r.start) ≡ b) in
    agree (find (chunk_holds agino) (map chunk_record chunks)) (λ r. is_set r.mask (agino - r.start)) (unused inode) (unused other) (bit_says chunks agino inode leaf at)
    (subst (P (unused other)) same (bit_says others agino other (subst IsLeaf (sym same) leaf) also))

pub some_inode : (o : Option Inode) → IsSomeAnd o (λ inode. inode.row ≡ None) → (inode : Inode) × (o ≡ Some inode) × (unused inode ≡ true)
some_inode None h = absurd h
some_inode (Some inode) h = (inode, refl, ap is_none h)

pub is_used : {X : Type 0} (o : Option X) → is_some o ≡ true → is_none o ≡ false
is_used None e = absurd (false≢true e)
is_used (Some x) e = refl

-- the bit of a number that the records have
pub bit_in : (rs : List ChunkRec) (chunks : Group) (agino : ℕ) (inode : Inode) (b : Bool) → IsLeaf rs → rs ≡ map chunk_record chunks → inode_in chunks agino ≡ Some inode → unused inode ≡ b
    → IsSomeAnd (find (chunk_holds agino) rs) (λ r. is_set r.mask (agino - r.start) ≡ b)
bit_in rs chunks agino inode b leaf same at is =
    let P : Bool → List ChunkRec → Type 0 = λ c xs. IsSomeAnd (find (chunk_holds agino) xs) (λ r. is_set r.mask (agino - r.start) ≡ c) in
    subst (P b) (sym same) (subst (λ (c : Bool). P c (map chunk_record chunks)) is (bit_says chunks agino inode (subst IsLeaf same leaf) at))

-- ---- a number taken, and given back

no_times : (b : ℕ) (xs : List ℕ) → xs ≡ [] → times b xs ≡ 0
no_times b xs e = ap (times b) e ∙ times-nil b

no_row_blocks : (row : Option Row) → is_none row ≡ true → row_blocks row ≡ []
no_row_blocks None is = refl
no_row_blocks (Some row) is = absurd (false≢true is)

pub taken_follows : (blocks : ℕ) (chunks : Group) (agino : ℕ) (old new : Inode) (rs now : List ChunkRec) (m : List Bool) → IsLeaf rs → rs ≡ map chunk_record chunks
    → m ≡ free_set blocks chunks → inode_in chunks agino ≡ Some old → unused old ≡ true → unused new ≡ false → row_blocks new.row ≡ []
    → now ≡ map (where_held agino (after_take agino)) rs → IsSpaceOf blocks (set_inode chunks agino new) (record { records = now; free = m })
taken_follows blocks chunks agino old new rs now m leaf same free at was is none took = record {
  records = took ∙ ap (map (where_held agino (after_take agino))) same ∙ sym (taken_records chunks agino old new (subst IsLeaf same leaf) at was is);
  free = free
      ∙ kept_set blocks chunks (set_inode chunks agino new)
      (λ b. omega (arith, used-set b chunks agino old new at, no_times b (row_blocks old.row) (no_row_blocks old.row was), no_times b (row_blocks new.row) none));
}

pub given_follows : (blocks : ℕ) (chunks : Group) (agino : ℕ) (old new : Inode) (some : List ℕ) (rs now : List ChunkRec) (m f : List Bool) → IsLeaf rs → rs ≡ map chunk_record chunks
    → m ≡ free_set blocks chunks → IsGroup blocks chunks → inode_in chunks agino ≡ Some old → unused old ≡ false → row_blocks old.row ≡ some → new.row ≡ None
    → now ≡ map (where_held agino (after_give agino)) rs → IsWith m some f → IsSpaceOf blocks (set_inode chunks agino new) (record { records = now; free = f })
given_follows blocks chunks agino old new some rs now m f leaf same free group at was own is gave more = record {
  records = gave ∙ ap (map (where_held agino (after_give agino))) same ∙ sym (given_records chunks agino old new (subst IsLeaf same leaf) at was (ap is_none is));
  free = given_set blocks chunks (set_inode chunks agino new) some f group
      (λ b. omega (arith, used-set b chunks agino old new at, ap (times b) own, no_times b (row_blocks new.row) (ap row_blocks is)))
      (subst (λ (x : List Bool). IsWith x some f) free more);
}

-- ---- blocks taken, and given back

pub more_follows : (blocks : ℕ) (chunks : Group) (agino : ℕ) (old new : Inode) (some : List ℕ) (rs : List ChunkRec) (m f : List Bool) → rs ≡ map chunk_record chunks
    → m ≡ free_set blocks chunks → inode_in chunks agino ≡ Some old → unused new ≡ unused old → row_blocks new.row ≡ row_blocks old.row ++ some
    → IsWithout m some f → IsSpaceOf blocks (set_inode chunks agino new) (record { records = rs; free = f })
more_follows blocks chunks agino old new some rs m f same free at uses own less = record {
  records = same ∙ sym (kept_records chunks agino old new at uses);
  free = taken_set blocks chunks (set_inode chunks agino new) some f
      (λ b. omega (arith, used-set b chunks agino old new at, ap (times b) own, times-append b (row_blocks old.row) some))
      (subst (λ (x : List Bool). IsWithout x some f) free less);
}

pub less_follows : (blocks : ℕ) (chunks : Group) (agino : ℕ) (old new : Inode) (some : List ℕ) (rs : List ChunkRec) (m f : List Bool) → rs ≡ map chunk_record chunks
    → m ≡ free_set blocks chunks → IsGroup blocks chunks → inode_in chunks agino ≡ Some old → unused new ≡ unused old → row_blocks old.row ≡ row_blocks new.row ++ some
    → IsWith m some f → IsSpaceOf blocks (set_inode chunks agino new) (record { records = rs; free = f })
less_follows blocks chunks agino old new some rs m f same free group at uses own more = record {
  records = same ∙ sym (kept_records chunks agino old new at uses);
  free = given_set blocks chunks (set_inode chunks agino new) some f group
      (λ b. omega (arith, used-set b chunks agino old new at, ap (times b) own, times-append b (row_blocks new.row) some))
      (subst (λ (x : List Bool). IsWith x some f) free more);
}

-- the last blocks of a row are used
pub last_used : (chunks : Group) (agino : ℕ) (inode : Inode) (first some : List ℕ) → inode_in chunks agino ≡ Some inode → row_blocks inode.row ≡ first ++ some
    → (b : ℕ) → times b some ≤ times b (used chunks)
last_used chunks agino inode first some at own b = omega (arith, row_blocks_used b chunks agino inode at, ap (times b) own, times-append b first some)

pub own_used : (chunks : Group) (agino : ℕ) (inode : Inode) (some : List ℕ) → inode_in chunks agino ≡ Some inode → row_blocks inode.row ≡ some
    → (b : ℕ) → times b some ≤ times b (used chunks)
own_used chunks agino inode some at own b = omega (arith, row_blocks_used b chunks agino inode at, ap (times b) own)

-- ---- a chunk that is added

-- where 8 blocks are free, no chunk starts
pub no_chunk_there : (blocks : ℕ) (chunks : Group) (block : ℕ) → BeginsFreeRun blocks chunks block → IsAbsent chunks (8 * block)
no_chunk_there blocks chunks block run k c at same =
    let none = (is_free_block-parts blocks chunks block (run.1 block (omega arith) (omega arith))).2 in
    let first : c.start / 8 ≡ block = omega (arith, same) in
    omega (arith, none, chunk_used block chunks k c at, first_block_used c block first)

pub not_found : (chunks : Group) (start : ℕ) → start % 64 ≡ 0 → IsLeaf (map chunk_record chunks) → IsAbsent chunks start → find (chunk_holds start) (map chunk_record chunks) ≡ None
not_found [] start aligned leaf absent = refl
not_found (c ∷ cs) start aligned leaf absent =
    let r : ChunkRec = chunk_record c in
    let rs : List ChunkRec = map chunk_record cs in
    let whole : start_of start ≡ start = omega (arith, aligned) in
    cond-false (chunk_holds start r) (Some r) (find (chunk_holds start) rs)
    (chunk_held start c (head_record r rs leaf) ∙ ne_eqb c.start (start_of start) (λ e. absent 0 c refl (e ∙ whole)))
    ∙ not_found cs start aligned (tail_leaf r rs leaf) (λ k d e. absent (suc k) d e)

pub own_is : (block : ℕ) → (block ∷ (block + 1) ∷ (block + 2) ∷ (block + 3) ∷ (block + 4) ∷ (block + 5) ∷ (block + 6) ∷ (block + 7) ∷ []) ≡ range_with_len block 8
own_is block =
    let two : block + 2 ≡ block + 1 + 1 = omega arith in
    let three : block + 3 ≡ block + 1 + 1 + 1 = omega arith in
    let four : block + 4 ≡ block + 1 + 1 + 1 + 1 = omega arith in
    let five : block + 5 ≡ block + 1 + 1 + 1 + 1 + 1 = omega arith in
    let six : block + 6 ≡ block + 1 + 1 + 1 + 1 + 1 + 1 = omega arith in
    let seven : block + 7 ≡ block + 1 + 1 + 1 + 1 + 1 + 1 + 1 = omega arith in
    (λ i. block ∷ (block + 1) ∷ two i ∷ three i ∷ four i ∷ five i ∷ six i ∷ seven i ∷ [])

-- the 8 blocks may be taken
pub can_take_run : (m : List Bool) (block : ℕ) → IsFreeRun m block → CanTake m (range_with_len block 8)
can_take_run m block run = record {
  free_each = λ b here.
      let within = times-range_in b block 8 here in
      let low = within.0 in
      let high = within.1 in
      let e : b ≡ block + (b - block) = omega arith in
      ap (is_block_free m) e ∙ run.1 (b - block) (omega arith);
  once = λ b. range_once b block 8;
}

pub run_in_set : (blocks : ℕ) (chunks : Group) (m : List Bool) (block : ℕ) → m ≡ free_set blocks chunks → BeginsFreeRun blocks chunks block → IsFreeRun m block
run_in_set blocks chunks m block free run =
    subst (λ (x : List Bool). IsFreeRun x block) (sym free) (run.0, λ i low. free_at blocks chunks (block + i) ∙ run.1 (block + i) (omega arith) (omega arith))

pub run_of_set : (blocks : ℕ) (chunks : Group) (m : List Bool) (block : ℕ) → m ≡ free_set blocks chunks → IsFreeRun m block → BeginsFreeRun blocks chunks block
run_of_set blocks chunks m block free run =
    let own : IsFreeRun (free_set blocks chunks) block = subst (λ (x : List Bool). IsFreeRun x block) free run in
    (own.0, λ x low high. let e : x ≡ block + (x - block) = omega arith in sym (free_at blocks chunks x) ∙ ap (is_block_free (free_set blocks chunks)) e ∙ own.1 (x - block) (omega arith))

pub added_follows : (blocks : ℕ) (chunks : Group) (block : ℕ) (new : Inode) (rs more now : List ChunkRec) (m f : List Bool) → IsLeaf rs → IsLeaf more → rs ≡ map chunk_record chunks
    → m ≡ free_set blocks chunks → IsFreeRun m block → unused new ≡ false → row_blocks new.row ≡ [] → more ≡ with_whole_chunk (8 * block) rs
    → now ≡ map (where_held (8 * block) (after_take (8 * block))) more → IsWithout m (range_with_len block 8) f
    → IsSpaceOf blocks (set_inode (insert_chunk (new_chunk block) chunks) (8 * block) new) (record { records = now; free = f })
added_follows blocks chunks block new rs more now m f leaf leaf_more same free run is none added took less =
    let begins = run_of_set blocks chunks m block free run in
    let absent = no_chunk_there blocks chunks block begins in
    let wide : Group = insert_chunk (new_chunk block) chunks in
    let old : Inode = record { generation = 1; row = None } in
    let at : inode_in wide (8 * block) ≡ Some old = added_inode chunks block begins.0 absent in
    let more_is : more ≡ map chunk_record wide = added ∙ ap (with_whole_chunk (8 * block)) same ∙ sym (added_records chunks block (subst IsLeaf same leaf) absent) in
    record {
      records = took ∙ ap (map (where_held (8 * block) (after_take (8 * block)))) more_is ∙ sym (taken_records wide (8 * block) old new (subst IsLeaf more_is leaf_more) at refl is);
      free = taken_set blocks chunks (set_inode wide (8 * block) new) (range_with_len block 8) f
          (λ b. omega (
            arith,
            used-set b wide (8 * block) old new at,
            times-nil b,
            no_times b (row_blocks new.row) none,
            used-insert b (new_chunk block) chunks,
            new_chunk-no_rows b block,
            ap (times b) (new_chunk-blocks block),
          ))
          (subst (λ (x : List Bool). IsWithout x (range_with_len block 8) f) free less);
    }

pub added_bit : (chunks : Group) (block : ℕ) (rs more : List ChunkRec) → IsLeaf rs → IsLeaf more → rs ≡ map chunk_record chunks → block % 8 ≡ 0 → IsAbsent chunks (8 * block)
    → more ≡ with_whole_chunk (8 * block) rs → IsSomeAnd (find (chunk_holds (8 * block)) more) (λ r. is_set r.mask (8 * block - r.start) ≡ true)
added_bit chunks block rs more leaf leaf_more same aligned absent added =
    bit_in more (insert_chunk (new_chunk block) chunks) (8 * block) (record { generation = 1; row = None }) true leaf_more
    (added ∙ ap (with_whole_chunk (8 * block)) same ∙ sym (added_records chunks block (subst IsLeaf same leaf) absent)) (added_inode chunks block aligned absent) refl

-- ---- the counts

sum_first : (c : Chunk) → (chunk_record c).free ≡ free_count c.inodes
unfolding chunk_record
sum_first c = refl

pub sum_records : (chunks : Group) → sum_by (λ (r : ChunkRec). r.free) (map chunk_record chunks) ≡ sum_by (λ (chunk : Chunk). free_count chunk.inodes) chunks
sum_records [] = refl
sum_records (c ∷ cs) =
    omega (
      arith,
      sum_records cs,
      sum_first c,
      sum_by-cons (λ (r : ChunkRec). r.free) (chunk_record c) (map chunk_record cs),
      sum_by-cons (λ (chunk : Chunk). free_count chunk.inodes) c cs,
    )

-- ---- numbers that no row has

pub unused_by_records : (rs : List ChunkRec) (chunks : Group) (agino : ℕ) → IsLeaf rs → rs ≡ map chunk_record chunks
    → IsSomeAnd (find (chunk_holds agino) rs) (λ r. is_set r.mask (agino - r.start) ≡ true) → IsUnused chunks agino
unused_by_records rs chunks agino leaf same says =
    let P : List ChunkRec → Type 0 = λ xs. IsSomeAnd (find (chunk_holds agino) xs) (λ r. is_set r.mask (agino - r.start) ≡ true) in
    says_bit chunks agino (subst IsLeaf same leaf) (subst P same says)

pub records_by_unused : (rs : List ChunkRec) (chunks : Group) (agino : ℕ) → IsLeaf rs → rs ≡ map chunk_record chunks → IsUnused chunks agino
    → IsSomeAnd (find (chunk_holds agino) rs) (λ r. is_set r.mask (agino - r.start) ≡ true)
records_by_unused rs chunks agino leaf same is =
    let inode = some_inode (inode_in chunks agino) is in
    bit_in rs chunks agino inode.0 true leaf same inode.1 inode.2
