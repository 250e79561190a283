-- The inodes of an image that encodes a table.
use Rattle.std.proofs.Common.{◌≡◌, ◌<◌, ◌≤◌, ◌%◌, ◌^◌, ℕ, zero, suc, Bool, true, false, cond, List, [], ◌∷◌, Option, None, Some, length, get_or, eqb, refl, ap, sym, subst, ◌∙◌, arith, lit<}
use Rattle.std.specs.Prelude.{IfSome}
use Rattle.std.specs.Option.{option_map}
use Rattle.std.specs.List.{flat_map}
use Rattle.std.proofs.lemmas.Bool.{true≢false}
use Rattle.std.proofs.lemmas.List.Concat.{length-flat_map}
use Rattle.std.proofs.lemmas.List.Elements.{All-from_recursion}
use Rattle.std.proofs.lemmas.List.FromFn.{length-range_with_len}
use Rattle.std.proofs.lemmas.List.Sums.{sum_by-le}
use Rattle.life_bytes.specs.declared.sector.Sector.{Sector}
use Rattle.life_bytes.specs.TableLaws.{length-zeros}
use Rattle.geometry.specs.declared.shape.Geometry.{Geometry}
use Rattle.inode_core.specs.declared.shape.Core.{Core}
use Rattle.inode_core.specs.Cores.{EncodesCore, core_encoding, fork_of}
use Rattle.inode_core.specs.Reading.{core_in, CanStand}
use Rattle.extent_fork.specs.declared.extent.Extent.{Extent}
use Rattle.extent_fork.specs.Forks.{IsRun, AreRuns, HasFork, fork}
use Rattle.extent_fork.specs.Reading.{runs_in}
use Rattle.extent_fork.specs.Runs.{runs, blocks_of}
use Rattle.life_table.specs.declared.types.Row.{Row}
use Rattle.life_table.specs.declared.table.Inode.{Inode}
use Rattle.life_table.specs.declared.table.Table.{Table}
use Rattle.life_table.specs.Table.{Group, group_at, inode_in}
use Rattle.life_table.specs.Space.{times, row_blocks}
use Rattle.life_table.specs.WellFormed.{IsRow, IsGroup}
use Rattle.geometry.specs.Places.{number_in}
use Rattle.sound_image.specs.Places.{bytes_at, sector_in}
use Rattle.sound_image.specs.Reading.{core_of, blocks_in}
use Rattle.sound_image.specs.Encoding.{Layouts, bucket_list, head_of, next_in, core_for, inode_sector, encoded}
use Rattle.sound_image.proofs.Forks.{fork_for, fork_of_none, sector_parts}
use Rattle.sound_image.proofs.Groups.{times_here, times_later, in_range, is_inode, row_blocks_used}
use Rattle.sound_image.proofs.Metadata.{at_inode}
use Rattle.sound_image.proofs.Ready.{Lower, IsReady, member_range}
use Rattle.sound_image.proofs.Sectors.{at_metadata}

-- ---- next pointers

next_small : (members : List ℕ) (agino : ℕ) → ((m : ℕ) → 1 ≤ times m members → m < 2 ^ 32) → next_in members agino < 2 ^ 32
unfolding next_in head_of
next_small [] agino each = lit< tt
next_small (m ∷ members) agino each =
    let later : (n : ℕ) → 1 ≤ times n members → n < 2 ^ 32 = λ n h. each n (omega (arith, h, times_later n m members)) in
    chosen (eqb m agino) (head_of members) (next_in members agino) (first members later) (next_small members agino later)
  where
    chosen : (b : Bool) (x y : ℕ) → x < 2 ^ 32 → y < 2 ^ 32 → cond b x y < 2 ^ 32
    chosen true x y p q = p
    chosen false x y p q = q

    first : (members : List ℕ) → ((m : ℕ) → 1 ≤ times m members → m < 2 ^ 32) → head_of members < 2 ^ 32
    first [] each = lit< tt
    first (m ∷ members) each = each m (times_here m members)

next_of : (g : Geometry) (t : Table) (layouts : Layouts) (image : List Sector) (group agino : ℕ) → IsReady g t layouts image group → next_in (bucket_list layouts group (agino % 64)) agino < 2 ^ 32
next_of g t layouts image group agino r =
    let most = r.most in
    next_small (bucket_list layouts group (agino % 64)) agino
    (λ m some. let range = member_range g t layouts image group (agino % 64) m r (omega arith) some in omega arith)

-- ---- blocks of rows

pub times_get : (xs : List ℕ) (k d : ℕ) → k < length xs → 1 ≤ times (get_or xs k d) xs
times_get [] k d lt = absurd (omega arith)
times_get (x ∷ xs) zero d lt = times_here x xs
times_get (x ∷ xs) (suc k) d lt = omega (arith, times_get xs k d (omega arith), times_later (get_or xs k d) x xs)

-- each block of a row is a data block of its group
pub data_of_row : (blocks : ℕ) (group : Group) (agino : ℕ) (x : Inode) (row : Row) → IsGroup blocks group → inode_in group agino ≡ Some x → x.row ≡ Some row
    → (k d : ℕ) → k < length row.blocks → (24 ≤ get_or row.blocks k d) × (get_or row.blocks k d < blocks)
data_of_row blocks group agino x row is found live k d lt =
    let b : ℕ = get_or row.blocks k d in
    let own : row_blocks x.row ≡ row.blocks = ap row_blocks live in
    is.data_blocks b (omega (arith, times_get row.blocks k d lt, row_blocks_used b group agino x found, ap (times b) own))

runs_of_row : (l : Lower) (blocks : ℕ) (group : Group) (agino : ℕ) (x : Inode) (row : Row) → blocks ≤ 16384 → IsGroup blocks group → inode_in group agino ≡ Some x → x.row ≡ Some row
    → AreRuns (runs row.blocks)
runs_of_row l blocks group agino x row most is found live =
    l.forks.for_blocks row.blocks (λ k d lt. let one = data_of_row blocks group agino x row is found live k d lt in (one.0, omega arith))

-- few runs have few blocks
run_length : (run : Extent) → IsRun run → length (blocks_of run) ≤ 16384
run_length run is = let end = is.end in omega (arith, length-range_with_len run.start run.count)

few_blocks : (l : Lower) (blocks : List ℕ) → AreRuns (runs blocks) → length (runs blocks) ≤ 21 → length blocks ≤ 344064
few_blocks l blocks are few =
    let each = All-from_recursion IsRun (runs blocks) are.each in
    omega (
      arith,
      ap length (l.forks.blocks blocks),
      length-flat_map blocks_of (runs blocks),
      sum_by-le (λ (run : Extent). length (blocks_of run)) 16384 (runs blocks) (λ k d lt. run_length (get_or (runs blocks) k d) (each k d lt)),
    )

-- ---- cores

pub record StoredRow (l : Lower) (row : Row) (generation : ℕ) : Type 0 where
  pub is : IsRow generation row
  pub runs : AreRuns (runs row.blocks)

row_stored : (l : Lower) (g : Geometry) (t : Table) (layouts : Layouts) (image : List Sector) (group agino : ℕ) (x : Inode) (row : Row) → IsReady g t layouts image group
    → inode_in (group_at t group) agino ≡ Some x → x.row ≡ Some row → StoredRow l row x.generation
row_stored l g t layouts image group agino x row r found live =
    record {
      is = subst (λ (o : Option Row). IfSome o (IsRow x.generation)) live (is_inode (group_at t group) agino x r.is_group.chunks found).row;
      runs = runs_of_row l g.blocks (group_at t group) agino x row r.most r.is_group found live;
    }

stands : (l : Lower) (group generation next : ℕ) (uuid : List ℕ) (o : Option Row) → length uuid ≡ 16 → 1 ≤ generation → generation ≤ 4294967295 → next < 2 ^ 32
    → ((row : Row) → o ≡ Some row → StoredRow l row generation) → CanStand (core_for generation o next) uuid (fork_for group o)
unfolding core_for
stands l group generation next uuid None wide low high small stored = record {
  allowed = record {
    live = λ e. absurd (true≢false (sym e));
    free = λ e. record { links = refl; size = refl; blocks = refl; extents = refl; generation = (low, high); next = refl };
  };
  wide = wide;
  long = ap length (fork_of_none group) ∙ length-zeros 336;
  free = λ e. fork_of_none group;
}
stands l group generation next uuid (Some row) wide low high small stored =
    let s = stored row refl in
    let life = s.is.life in
    let links = s.is.links in
    let few = s.is.runs in
    let short = few_blocks l row.blocks s.runs few in
    record {
      allowed = record {
        live = λ e. record { links = links; size = refl; blocks = omega arith; extents = few; generation = (low, life); next = omega arith };
        free = λ e. absurd (true≢false e);
      };
      wide = wide;
      long = l.forks.long group (runs row.blocks) few;
      free = λ e. absurd (true≢false e);
    }

abbrev pub next_for : Layouts → ℕ → ℕ → ℕ
next_for layouts group agino = next_in (bucket_list layouts group (agino % 64)) agino

can_stand : (l : Lower) (g : Geometry) (t : Table) (layouts : Layouts) (image : List Sector) (group agino : ℕ) (x : Inode) → IsReady g t layouts image group
    → inode_in (group_at t group) agino ≡ Some x → CanStand (core_for x.generation x.row (next_for layouts group agino)) g.uuid (fork_for group x.row)
can_stand l g t layouts image group agino x r found =
    let is = is_inode (group_at t group) agino x r.is_group.chunks found in
    stands l group x.generation (next_for layouts group agino) g.uuid x.row r.uuid is.first is.last (next_of g t layouts image group agino r)
    (λ row live. row_stored l g t layouts image group agino x row r found live)

pub sector_is : (l : Lower) (g : Geometry) (t : Table) (layouts : Layouts) (image : List Sector) (group agino : ℕ) (x : Inode) → IsReady g t layouts image group
    → inode_in (group_at t group) agino ≡ Some x
    → bytes_at (encoded g t layouts image) (sector_in g group agino) ≡ core_encoding (core_for x.generation x.row (next_for layouts group agino)) (number_in group agino) g.uuid (fork_for group x.row)
sector_is l g t layouts image group agino x r found =
    let range = in_range g.blocks (group_at t group) agino x r.data_of found in
    at_metadata g t layouts image group agino (inode_sector g layouts group agino x) r.size r.below (omega arith)
    (at_inode g layouts group (group_at t group) agino r.page_low (omega (arith, r.page_high)) ∙ ap (option_map (inode_sector g layouts group agino)) found)
    ∙ sector_parts g layouts group agino x

-- what the sector of an inode encodes
pub record Stored (g : Geometry) (new : List Sector) (layouts : Layouts) (group agino : ℕ) (x : Inode) : Type 0 where
  pub core_is : core_of g new group agino ≡ core_for x.generation x.row (next_for layouts group agino)
  pub encoded : EncodesCore (bytes_at new (sector_in g group agino)) (number_in group agino) g.uuid (core_for x.generation x.row (next_for layouts group agino))
  pub fork_is : fork_of (bytes_at new (sector_in g group agino)) ≡ fork_for group x.row

pub stored : (l : Lower) (g : Geometry) (t : Table) (layouts : Layouts) (image : List Sector) (group agino : ℕ) (x : Inode) → IsReady g t layouts image group
    → inode_in (group_at t group) agino ≡ Some x → Stored g (encoded g t layouts image) layouts group agino x
unfolding core_of
stored l g t layouts image group agino x r found =
    let new = encoded g t layouts image in
    let core = core_for x.generation x.row (next_for layouts group agino) in
    let can = can_stand l g t layouts image group agino x r found in
    let at = sector_is l g t layouts image group agino x r found in
    let encodes = l.cores.encoded core (number_in group agino) g.uuid (fork_for group x.row) can in
    record {
      core_is = ap core_in at ∙ l.cores.read (core_encoding core (number_in group agino) g.uuid (fork_for group x.row)) g.uuid (number_in group agino) core
          (l.cores.long core (number_in group agino) g.uuid (fork_for group x.row) can) r.uuid encodes;
      encoded = subst (λ (bytes : List ℕ). EncodesCore bytes (number_in group agino) g.uuid core) (sym at) encodes;
      fork_is = ap fork_of at ∙ l.cores.same_fork core (number_in group agino) g.uuid (fork_for group x.row) can;
    }

-- the runs and blocks of an inode in use
pub record StoredRuns (g : Geometry) (new : List Sector) (group agino : ℕ) (row : Row) : Type 0 where
  pub extents : (core_of g new group agino).extents ≡ length (runs row.blocks)
  pub links : (core_of g new group agino).links ≡ row.links
  pub count : (core_of g new group agino).blocks ≡ length row.blocks
  pub has : HasFork (bytes_at new (sector_in g group agino)) (length (runs row.blocks)) group (runs row.blocks)
  pub read : runs_in (length (runs row.blocks)) (bytes_at new (sector_in g group agino)) ≡ runs row.blocks

core_says : (core : Core) (generation next : ℕ) (o : Option Row) (row : Row) → core ≡ core_for generation o next → o ≡ Some row
    → (core.extents ≡ length (runs row.blocks)) × (core.links ≡ row.links) × (core.blocks ≡ length row.blocks) × (core.next ≡ next)
unfolding core_for
core_says core generation next o row e live =
    let f : core ≡ core_for generation (Some row) next = e ∙ ap (λ (o : Option Row). core_for generation o next) live in
    (ap (λ (c : Core). c.extents) f, ap (λ (c : Core). c.links) f, ap (λ (c : Core). c.blocks) f, ap (λ (c : Core). c.next) f)

fork_says : (group : ℕ) (o : Option Row) (row : Row) → o ≡ Some row → fork_for group o ≡ fork group (runs row.blocks)
fork_says group o row live = ap (fork_for group) live

pub stored_runs : (l : Lower) (g : Geometry) (t : Table) (layouts : Layouts) (image : List Sector) (group agino : ℕ) (x : Inode) (row : Row) → IsReady g t layouts image group
    → inode_in (group_at t group) agino ≡ Some x → x.row ≡ Some row → StoredRuns g (encoded g t layouts image) group agino row
stored_runs l g t layouts image group agino x row r found live =
    let new = encoded g t layouts image in
    let s = stored l g t layouts image group agino x r found in
    let says = core_says (core_of g new group agino) x.generation (next_for layouts group agino) x.row row s.core_is live in
    let sr = row_stored l g t layouts image group agino x row r found live in
    let few = sr.is.runs in
    let has : HasFork (bytes_at new (sector_in g group agino)) (length (runs row.blocks)) group (runs row.blocks) =
    record { runs = sr.runs; many = refl; encoded = s.fork_is ∙ fork_says group x.row row live } in
    record {
      extents = says.0;
      links = says.1;
      count = says.2;
      has = has;
      read = l.forks.read (bytes_at new (sector_in g group agino)) (length (runs row.blocks)) group (runs row.blocks) r.small few has;
    }

pub next_is : (l : Lower) (g : Geometry) (t : Table) (layouts : Layouts) (image : List Sector) (group agino : ℕ) (x : Inode) (row : Row) → IsReady g t layouts image group
    → inode_in (group_at t group) agino ≡ Some x → x.row ≡ Some row → (core_of g (encoded g t layouts image) group agino).next ≡ next_for layouts group agino
next_is l g t layouts image group agino x row r found live =
    let new = encoded g t layouts image in
    (core_says (core_of g new group agino) x.generation (next_for layouts group agino) x.row row (stored l g t layouts image group agino x r found).core_is live).3

pub blocks_are : (l : Lower) (g : Geometry) (t : Table) (layouts : Layouts) (image : List Sector) (group agino : ℕ) (x : Inode) (row : Row) → IsReady g t layouts image group
    → inode_in (group_at t group) agino ≡ Some x → x.row ≡ Some row → blocks_in g (encoded g t layouts image) group agino ≡ row.blocks
unfolding blocks_in
blocks_are l g t layouts image group agino x row r found live =
    let new = encoded g t layouts image in
    let s = stored_runs l g t layouts image group agino x row r found live in
    ap (λ (n : ℕ). flat_map blocks_of (runs_in n (bytes_at new (sector_in g group agino)))) s.extents ∙ ap (flat_map blocks_of) s.read ∙ l.forks.blocks row.blocks
