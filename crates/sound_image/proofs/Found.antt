-- What the inodes of a sound group are.
use Rattle.std.proofs.Common.{◌≡◌, ◌≢◌, ◌<◌, ◌≤◌, ◌+◌, ◌%◌, ◌⊎◌, ℕ, zero, suc, Bool, true, false, cond, List, [], ◌∷◌, Option, None, Some, length, map, get_or, eqb, inl, inr, refl, ap, sym, subst, ◌∙◌, arith}
use Rattle.std.specs.Prelude.{is_some, IfSome}
use Rattle.std.specs.Option.{option_and_then}
use Rattle.std.specs.List.{flat_map, range_with_len, AllByRecursion, slice_get}
use Rattle.std.proofs.lemmas.Bool.{cases_eq, cases_lt, cases_order, cond-false, ne_eqb}
use Rattle.std.proofs.lemmas.List.Concat.{flat_map-cons}
use Rattle.std.proofs.lemmas.List.FromFn.{length-map-range_with_len, get_or-map-range_with_len}
use Rattle.std.proofs.lemmas.Option.{same_Some, slice_get-get_or}
use Rattle.life_bytes.specs.declared.sector.Sector.{Sector}
use Rattle.life_bytes.specs.Bits.{is_set}
use Rattle.geometry.specs.declared.shape.Geometry.{Geometry}
use Rattle.inobt_leaf.specs.declared.chunk.ChunkRec.{ChunkRec}
use Rattle.extent_fork.specs.declared.extent.Extent.{Extent}
use Rattle.extent_fork.specs.Forks.{IsRun}
use Rattle.extent_fork.specs.Reading.{runs_in}
use Rattle.extent_fork.specs.Runs.{runs, blocks_of}
use Rattle.life_table.specs.declared.types.Row.{Row}
use Rattle.life_table.specs.declared.table.Inode.{Inode}
use Rattle.life_table.specs.declared.table.Chunk.{Chunk}
use Rattle.life_table.specs.Table.{inode_in}
use Rattle.life_table.specs.Space.{times, chunk_blocks, row_blocks}
use Rattle.life_table.specs.WellFormed.{IsRow, IsInode, IsDataBlock}
use Rattle.sound_image.specs.Reading.{core_of, blocks_in, inode_bytes, inode_read, chunk_read, group_read, inode_at, row_at, records_of}
use Rattle.sound_image.specs.Rules.{IsForkRight, AreBlocksAlone}
use Rattle.sound_image.specs.Damage.{core, fork, blocks, HoldsIn}
use Rattle.sound_image.proofs.Buckets.{place_of}
use Rattle.sound_image.proofs.Groups.{inode_cases, no_inode, times-append, times-cons, times-nil}
use Rattle.sound_image.proofs.Ready.{Lower}
use Rattle.sound_image.proofs.Rows.{row_made}

-- ---- what an inode that is found was read as

pub record Reads (g : Geometry) (image : List Sector) (group agino : ℕ) (x : Inode) : Type 0 where
  pub generation : x.generation ≡ (core_of g image group agino).generation
  pub row : (x.row ≡ None) ⊎ (x.row ≡ Some (row_made (core_of g image group agino).links (blocks_in g image group agino)))

one_of : (b : Bool) (row : Row) → (cond b None (Some row) ≡ None) ⊎ (cond b None (Some row) ≡ Some row)
one_of true row = inl refl
one_of false row = inr refl

pub reads : (g : Geometry) (image : List Sector) (group : ℕ) (chunk : ChunkRec) (i : ℕ) → Reads g image group (chunk.start + i) (inode_read g image group chunk i)
unfolding inode_read
reads g image group chunk i =
    record { generation = refl; row = one_of (is_set chunk.mask i) (row_made (core_of g image group (chunk.start + i)).links (blocks_in g image group (chunk.start + i))) }

start_read : (g : Geometry) (image : List Sector) (group : ℕ) (chunk : ChunkRec) → (chunk_read g image group chunk).start ≡ chunk.start
unfolding chunk_read
start_read g image group chunk = refl

inodes_read : (g : Geometry) (image : List Sector) (group : ℕ) (chunk : ChunkRec) → (chunk_read g image group chunk).inodes ≡ map (inode_read g image group chunk) (range_with_len 0 64)
unfolding chunk_read
inodes_read g image group chunk = refl

pub inode_of_chunk : (g : Geometry) (image : List Sector) (group : ℕ) (chunk : ChunkRec) (i : ℕ) → i < 64
    → slice_get (chunk_read g image group chunk).inodes i ≡ Some (inode_read g image group chunk i)
inode_of_chunk g image group chunk i lt =
    let f : ℕ → Inode = inode_read g image group chunk in
    ap (λ (xs : List Inode). slice_get xs i) (inodes_read g image group chunk)
    ∙ slice_get-get_or (map f (range_with_len 0 64)) i (f 0) (omega (arith, length-map-range_with_len f 0 64))
    ∙ ap Some (get_or-map-range_with_len f 0 64 i i (f 0) lt (omega arith))

found_in : (g : Geometry) (image : List Sector) (group : ℕ) (records : List ChunkRec) (agino : ℕ) (x : Inode) → inode_in (map (chunk_read g image group) records) agino ≡ Some x → Reads g image group agino x
found_in g image group [] agino x e = absurd (no_inode agino x e)
found_in g image group (r ∷ rs) agino x e =
    elim (inode_cases (chunk_read g image group r) (map (chunk_read g image group) rs) agino x e) [
      | inl here ↦
          let same : inode_read g image group r (agino % 64) ≡ x =
          same_Some (inode_read g image group r (agino % 64)) x (sym (inode_of_chunk g image group r (agino % 64) (omega arith)) ∙ here.1) in
          let at : r.start + agino % 64 ≡ agino = omega (arith, here.0, start_read g image group r) in
          subst (λ (a : ℕ). Reads g image group a x) at (subst (Reads g image group (r.start + agino % 64)) same (reads g image group r (agino % 64)))
      | inr later ↦ found_in g image group rs agino x later
    ]

pub found : (g : Geometry) (image : List Sector) (group agino : ℕ) (x : Inode) → inode_in (group_read g image group) agino ≡ Some x → Reads g image group agino x
unfolding group_read
found g image group agino x e = found_in g image group (records_of g image group) agino x e

pub inode_found : (g : Geometry) (image : List Sector) (group agino : ℕ) (x : Inode) → inode_in (group_read g image group) agino ≡ Some x → inode_at g image group agino ≡ Some x
unfolding inode_at
inode_found g image group agino x e = e

pub row_found : (g : Geometry) (image : List Sector) (group agino : ℕ) (x : Inode) (row : Row) → inode_in (group_read g image group) agino ≡ Some x → x.row ≡ Some row
    → row_at g image group agino ≡ Some row
unfolding row_at inode_at
row_found g image group agino x row e live = ap (option_and_then (λ (inode : Inode). inode.row)) e ∙ live

-- ---- an inode is within the limits

pub record IsGood (g : Geometry) (image : List Sector) (group : ℕ) : Type 0 where
  pub cores : HoldsIn g image core group
  pub forks : HoldsIn g image fork group
  pub alone : HoldsIn g image blocks group

runs_few : (l : Lower) (g : Geometry) (image : List Sector) (group agino : ℕ) → (core_of g image group agino).extents ≤ 21 → IsForkRight g image group agino
    → length (runs (blocks_in g image group agino)) ≤ 21
unfolding blocks_in
runs_few l g image group agino few is =
    let list : List Extent = runs_in (core_of g image group agino).extents (inode_bytes g image group agino) in
    omega (arith, ap length (l.forks.runs list is.runs.runs), is.runs.many, few)

pub is_good : (l : Lower) (g : Geometry) (image : List Sector) (group agino : ℕ) (x : Inode) → IsGood g image group → inode_in (group_read g image group) agino ≡ Some x → IsInode x
is_good l g image group agino x good e =
    let r = found g image group agino x e in
    let c = good.cores agino x (inode_found g image group agino x e) in
    elim r.row [
      | inl none ↦
          let free = c.encoded.allowed.free (c.live ∙ ap is_some none) in
          record {
            first = omega (arith, r.generation, free.generation.0);
            last = omega (arith, r.generation, free.generation.1);
            row = subst (λ (o : Option Row). IfSome o (IsRow x.generation)) (sym none) tt;
          }
      | inr live ↦
          let is = c.encoded.allowed.live (c.live ∙ ap is_some live) in
          let f = good.forks agino (row_made (core_of g image group agino).links (blocks_in g image group agino)) (row_found g image group agino x _ e live) in
          record {
            first = omega (arith, r.generation, is.generation.0);
            last = omega (arith, r.generation, is.generation.1);
            row = subst (λ (o : Option Row). IfSome o (IsRow x.generation)) (sym live) (record {
              life = omega (arith, r.generation, is.generation.1);
              links = is.links;
              opens = omega arith;
              runs = runs_few l g image group agino is.extents f;
            });
          }
    ]

-- ---- the blocks of rows

pub in_ranges : (b s n : ℕ) → 1 ≤ times b (range_with_len s n) → (s ≤ b) × (b < s + n)
in_ranges b s zero some = absurd (omega (arith, times-nil b))
in_ranges b s (suc n) some =
    elim (cases_eq b s) [
      | inl e ↦ (omega arith, omega arith)
      | inr ne ↦
          let other : cond {A = ℕ} (eqb b s) 1 0 ≡ 0 = cond-false (eqb b s) 1 0 (ne_eqb b s ne) in
          let rest : (s + 1 ≤ b) × (b < s + 1 + n) = in_ranges b (s + 1) n (omega (arith, some, times-cons b s (range_with_len (s + 1) n))) in
          (omega (arith, rest.0), omega (arith, rest.1))
    ]

data_of_runs : (b : ℕ) (list : List Extent) → AllByRecursion IsRun list → 1 ≤ times b (flat_map blocks_of list) → 24 ≤ b
data_of_runs b [] all some = absurd (omega (arith, times-nil b))
data_of_runs b (run ∷ list) all some =
    let sum = ap (times b) (flat_map-cons blocks_of run list) ∙ times-append b (blocks_of run) (flat_map blocks_of list) in
    elim (cases_lt 0 (times b (blocks_of run))) [
      | inl here ↦ let at = in_ranges b run.start run.count here in omega (arith, all.0.start, at.0)
      | inr none ↦ data_of_runs b list all.1 (omega (arith, some, sum, none))
    ]

pub row_is : (g : Geometry) (image : List Sector) (group agino : ℕ) (x : Inode) → inode_in (group_read g image group) agino ≡ Some x → row_at g image group agino ≡ x.row
unfolding row_at inode_at
row_is g image group agino x e = ap (option_and_then (λ (inode : Inode). inode.row)) e

blocks_data : (g : Geometry) (image : List Sector) (group agino b : ℕ) → IsForkRight g image group agino → 1 ≤ times b (blocks_in g image group agino) → IsDataBlock g.blocks b
unfolding blocks_in
blocks_data g image group agino b is some =
    let p = place_of (blocks_in g image group agino) b some in (
      data_of_runs b (runs_in (core_of g image group agino).extents (inode_bytes g image group agino)) is.runs.runs.each some,
      subst (λ (n : ℕ). n < g.blocks) p.here (is.in_group p.index 4294967295 p.within),
    )

-- a row that has a block is the one that was read
same_row : (g : Geometry) (image : List Sector) (group agino b : ℕ) (x : Inode) → Reads g image group agino x → 1 ≤ times b (row_blocks x.row)
    → x.row ≡ Some (row_made (core_of g image group agino).links (blocks_in g image group agino))
same_row g image group agino b x r some =
    elim r.row [
      | inl none ↦ absurd (omega (arith, some, ap (λ (o : Option Row). times b (row_blocks o)) none, times-nil b))
      | inr live ↦ live
    ]

pub row_data : (g : Geometry) (image : List Sector) (group agino b : ℕ) (x : Inode) → IsGood g image group → inode_in (group_read g image group) agino ≡ Some x
    → 1 ≤ times b (row_blocks x.row) → IsDataBlock g.blocks b
row_data g image group agino b x good e some =
    let live = same_row g image group agino b x (found g image group agino x e) some in
    let row : Row = row_made (core_of g image group agino).links (blocks_in g image group agino) in
    blocks_data g image group agino b (good.forks agino row (row_found g image group agino x row e live)) (omega (arith, some, ap (λ (o : Option Row). times b (row_blocks o)) live))

alone_of : (g : Geometry) (image : List Sector) (group agino b : ℕ) (x : Inode) → IsGood g image group → inode_in (group_read g image group) agino ≡ Some x
    → 1 ≤ times b (row_blocks x.row) → AreBlocksAlone g image group agino (row_made (core_of g image group agino).links (blocks_in g image group agino))
alone_of g image group agino b x good e some =
    let live = same_row g image group agino b x (found g image group agino x e) some in
    let row : Row = row_made (core_of g image group agino).links (blocks_in g image group agino) in
    good.alone agino row (row_found g image group agino x row e live)

own : (g : Geometry) (image : List Sector) (group agino b : ℕ) (x : Inode) → IsGood g image group → inode_in (group_read g image group) agino ≡ Some x
    → 1 ≤ times b (row_blocks x.row) → times b (row_blocks x.row) ≡ times b (blocks_in g image group agino)
own g image group agino b x good e some =
    ap (λ (o : Option Row). times b (row_blocks o)) (same_row g image group agino b x (found g image group agino x e) some)

pub row_once : (g : Geometry) (image : List Sector) (group agino b : ℕ) (x : Inode) → IsGood g image group → inode_in (group_read g image group) agino ≡ Some x → times b (row_blocks x.row) ≤ 1
row_once g image group agino b x good e =
    elim (cases_lt 0 (times b (row_blocks x.row))) [
      | inl some ↦ omega (arith, own g image group agino b x good e some, (alone_of g image group agino b x good e some).once b)
      | inr none ↦ omega arith
    ]

pub row_not_chunk : (g : Geometry) (image : List Sector) (group agino b : ℕ) (x : Inode) (k : ℕ) (d : Chunk) → IsGood g image group → inode_in (group_read g image group) agino ≡ Some x
    → 1 ≤ times b (row_blocks x.row) → k < length (group_read g image group) → 1 ≤ times b (chunk_blocks (get_or (group_read g image group) k d)) → ⊥
row_not_chunk g image group agino b x k d good e some lt there =
    (alone_of g image group agino b x good e some).in_no_chunk b (omega (arith, some, own g image group agino b x good e some)) k d lt there

not_below : (g : Geometry) (image : List Sector) (group agino other b : ℕ) (x y : Inode) → IsGood g image group → other < agino → inode_in (group_read g image group) agino ≡ Some x
    → inode_in (group_read g image group) other ≡ Some y → 1 ≤ times b (row_blocks x.row) → 1 ≤ times b (row_blocks y.row) → ⊥
not_below g image group agino other b x y good lt e f some there =
    (alone_of g image group agino b x good e some).in_none_below b other (omega (arith, some, own g image group agino b x good e some)) lt
    (omega (arith, there, ap (λ (o : Option Row). times b (row_blocks o)) (row_is g image group other y f)))

pub two_rows : (g : Geometry) (image : List Sector) (group agino other b : ℕ) (x y : Inode) → IsGood g image group → agino ≢ other → inode_in (group_read g image group) agino ≡ Some x
    → inode_in (group_read g image group) other ≡ Some y → 1 ≤ times b (row_blocks x.row) → 1 ≤ times b (row_blocks y.row) → ⊥
two_rows g image group agino other b x y good ne e f some there =
    elim (cases_order agino other) [
      | inl same ↦ ne same
      | inr (inl lt) ↦ not_below g image group other agino b y x good lt f e there some
      | inr (inr gt) ↦ not_below g image group agino other b x y good gt e f some there
    ]
