-- The inodes below a number, and the next one.
use Rattle.std.proofs.Common.{◌≡◌, ◌≢◌, ◌<◌, ◌≤◌, ◌+◌, ℕ, zero, suc, Bool, true, false, List, [], ◌∷◌, Option, None, Some, is_some, not, All, length, get_or, cond, eqb, inl, inr, refl, ap, sym, subst, ◌∙◌, arith, unwrap_or}
use Rattle.std.specs.List.{range_with_len}
use Rattle.std.specs.Option.{option_and_then}
use Rattle.std.proofs.lemmas.Bool.{cases_lt, cases_order, false≢true}
use Rattle.std.proofs.lemmas.Bool.Decides.{nat_tests}
use Rattle.std.proofs.lemmas.List.{get_or_default}
use Rattle.std.proofs.lemmas.Option.{same_Some}
use Rattle.std.proofs.lemmas.List.Elements.{All-head, All-tail}
use Rattle.life_bytes.specs.declared.sector.Sector.{Sector}
use Rattle.geometry.specs.declared.shape.Geometry.{Geometry}
use Rattle.life_table.specs.declared.types.Row.{Row}
use Rattle.life_table.specs.declared.table.Inode.{Inode}
use Rattle.life_table.specs.Space.{times, row_blocks}
use Rattle.life_bytes.specs.Sectors.{zero_sector}
use Rattle.life_bytes.specs.Bits.{is_set}
use Rattle.inobt_leaf.specs.declared.chunk.ChunkRec.{ChunkRec}
use Rattle.sound_image.specs.Places.{sector_in, bytes_at}
use Rattle.sound_image.specs.Reading.{inode_at, inode_read, row_at}
use Rattle.sound_image.specs.Rules.{IsCoreRight, IsForkRight, AreBlocksAlone, IsIn}
use Rattle.image_rules.specs.Gathered.{Gathered, IsLeft, CoreHolds, ForkHolds, BlocksHold, ForksBelow, BlocksBelow, IsNextInode, IsNextChunk, row_unless}
use Rattle.image_rules.specs.Shown.{Shows}
use Rattle.image_rules.specs.Taking.{TakesAll, SharesBlock, Adds, all, crowded}
use Rattle.image_rules.proofs.Takes.{TakesAll-none, times_none, times_cons}

pub row_found : (g : Geometry) (image : List Sector) (group agino : ℕ) (inode : Inode) → inode_at g image group agino ≡ Some inode → row_at g image group agino ≡ inode.row
unfolding row_at
row_found g image group agino inode e = ap (λ (o : Option Inode). option_and_then (λ (x : Inode). x.row) o) e

pub row_none : (g : Geometry) (image : List Sector) (group agino : ℕ) → inode_at g image group agino ≡ None → row_at g image group agino ≡ None
unfolding row_at
row_none g image group agino e = ap (λ (o : Option Inode). option_and_then (λ (x : Inode). x.row) o) e

-- up to and with a number
below_or_at : (P : ℕ → Type 0) (n a : ℕ) → (a < n → P a) → P n → a < n + 1 → P a
below_or_at P n a below at lt = elim (cases_lt a n) [ inl l ↦ below l | inr ge ↦ let e : n ≡ a = omega arith in subst P e at ]

-- ---- one number more

pub cores_more : (g : Geometry) (image : List Sector) (group n : ℕ) (inode : Inode) → ((a : ℕ) → a < n → CoreHolds g image group a) → inode_at g image group n ≡ Some inode → IsCoreRight g image group n inode
    → (a : ℕ) → a < n + 1 → CoreHolds g image group a
cores_more g image group n inode below found right a lt =
    below_or_at (CoreHolds g image group) n a (below a)
    (λ other e. subst (IsCoreRight g image group n) (same_Some inode other (sym found ∙ e)) right) lt

pub forks_more : (g : Geometry) (image : List Sector) (group n : ℕ) (fork : Option ℕ) → ForksBelow g image group n fork → ForkHolds g image group n → ForksBelow g image group (n + 1) fork
forks_more g image group n None below holds = λ a lt. below_or_at (ForkHolds g image group) n a (below a) holds lt
forks_more g image group n (Some s) first holds = first

pub forks_break : (g : Geometry) (image : List Sector) (group n s : ℕ) (fork : Option ℕ) (row : Row) → ForksBelow g image group n fork → s ≡ sector_in g group n → row_at g image group n ≡ Some row
    → (IsForkRight g image group n → ⊥) → ForksBelow g image group (n + 1) (Some (unwrap_or fork s))
forks_break g image group n s None row below place found wrong = record { agino = n; place = place; row = row; found = found; wrong = wrong; before = below }
forks_break g image group n s (Some t) row first place found wrong = first

pub blocks_more : (g : Geometry) (image : List Sector) (group n : ℕ) (shared : Option ℕ) → BlocksBelow g image group n shared → (shared ≡ None → BlocksHold g image group n) → BlocksBelow g image group (n + 1) shared
blocks_more g image group n None below holds = λ a lt. below_or_at (BlocksHold g image group) n a (below a) (holds refl) lt
blocks_more g image group n (Some s) first holds = first

pub blocks_break : (g : Geometry) (image : List Sector) (group n s : ℕ) (shared : Option ℕ) (row : Row) → BlocksBelow g image group n shared → s ≡ sector_in g group n → row_at g image group n ≡ Some row
    → (shared ≡ None → AreBlocksAlone g image group n row → ⊥) → BlocksBelow g image group (n + 1) (Some (unwrap_or shared s))
blocks_break g image group n s None row below place found wrong = record { agino = n; place = place; row = row; found = found; wrong = wrong refl; before = below }
blocks_break g image group n s (Some t) row first place found wrong = first

-- ---- the blocks

rest : (b x : ℕ) (xs : List ℕ) → b ≢ x → 1 ≤ times b (x ∷ xs) → 1 ≤ times b xs
rest b x xs ne some = let e : ◌≡◌ {A = ℕ} (cond (eqb b x) 1 0) 0 = grind (arith, nat_tests) in omega (arith, some, times_cons b x xs, e)

-- what holds of each block of a list holds of one that stands in it
pub In-All : (P : ℕ → Type 0) (xs : List ℕ) (b : ℕ) → All P xs → 1 ≤ times b xs → P b
In-All P [] b each some = absurd (omega (arith, some, times_none b))
In-All P (x ∷ xs) b each some =
    elim (cases_order b x) [
      | inl e ↦ subst P (sym e) (All-head P x xs each)
      | inr (inl lt) ↦ In-All P xs b (All-tail P x xs each) (rest b x xs (λ e. absurd (omega arith)) some)
      | inr (inr gt) ↦ In-All P xs b (All-tail P x xs each) (rest b x xs (λ e. absurd (omega arith)) some)
    ]

left_more : (g : Geometry) (image : List Sector) (group n : ℕ) (map new : List Bool) (blocks : List ℕ) → IsLeft g image group n map → TakesAll map blocks new → length new ≡ length map
    → row_blocks (row_at g image group n) ≡ blocks → IsLeft g image group (n + 1) new
left_more g image group n map new blocks left takes same row = record {
  long = same ∙ left.long;
  free = λ b free. elim (cases_lt (times b blocks) 1) [
    | inl lt ↦
        let none : times b blocks ≡ 0 = omega arith in
        let was = left.free b (sym (takes.others b none) ∙ free) in (
          was.0,
          was.1,
          was.2,
          λ a low. below_or_at (λ (a : ℕ). IsIn b (row_blocks (row_at g image group a)) → ⊥) n a (was.3 a)
              (λ some. absurd (omega (arith, some, none, ap (times b) row))) low,
        )
    | inr some ↦ absurd (false≢true (sym (takes.taken b some) ∙ free))
  ];
  kept = λ b from to chunks below.
      let here : times b blocks ≡ 0 = elim (cases_lt (times b blocks) 1) [
        | inl lt ↦ omega arith
        | inr some ↦ absurd (below n (omega arith) (omega (arith, some, ap (times b) row)))
      ] in
      takes.others b here ∙ left.kept b from to chunks (λ a low. below a (omega arith));
}

-- the blocks of a row are its own where all of them were left
alone : (g : Geometry) (image : List Sector) (group n : ℕ) (map new : List Bool) (row : Row) → IsLeft g image group n map → TakesAll map row.blocks new → AreBlocksAlone g image group n row
alone g image group n map new row left takes = record {
  in_no_chunk = λ b some. (left.free b (takes.free b some)).2;
  in_none_below = λ b other some low. (left.free b (takes.free b some)).3 other low;
  once = takes.once;
}

-- and not where one was not, or stands there twice
not_alone : (g : Geometry) (image : List Sector) (group n : ℕ) (map : List Bool) (row : Row) → IsLeft g image group n map → SharesBlock map row.blocks
    → All (λ (block : ℕ). (24 ≤ block) × (block < g.blocks)) row.blocks → AreBlocksAlone g image group n row → ⊥
not_alone g image group n map row left crowd data_blocks right =
    let b : ℕ = crowd.block in
    let inside = In-All (λ (block : ℕ). (24 ≤ block) × (block < g.blocks)) row.blocks b data_blocks crowd.has in
    elim crowd.why [
      | inl taken ↦
          let free = left.kept b inside.0 inside.1 (right.in_no_chunk b crowd.has) (λ a low. right.in_none_below b a crowd.has low) in
          false≢true (sym taken ∙ free)
      | inr twice ↦ absurd (omega (arith, twice, right.once b))
    ]

-- ---- all of it

forks_wider : (g : Geometry) (image : List Sector) (group n m : ℕ) (fork : Option ℕ) → ((other : ℕ) → n ≤ other → other < m → inode_at g image group other ≡ None)
    → ForksBelow g image group n fork → ForksBelow g image group m fork
forks_wider g image group n m None none below = λ a lt row e. elim (cases_lt a n) [ inl low ↦ below a low row e | inr ge ↦ let no = row_none g image group a (none a ge lt) in cc (no, e) ]
forks_wider g image group n m (Some s) none first = first

blocks_wider : (g : Geometry) (image : List Sector) (group n m : ℕ) (shared : Option ℕ) → ((other : ℕ) → n ≤ other → other < m → inode_at g image group other ≡ None)
    → BlocksBelow g image group n shared → BlocksBelow g image group m shared
blocks_wider g image group n m None none below = λ a lt row e. elim (cases_lt a n) [ inl low ↦ below a low row e | inr ge ↦ let no = row_none g image group a (none a ge lt) in cc (no, e) ]
blocks_wider g image group n m (Some s) none first = first

left_wider : (g : Geometry) (image : List Sector) (group n m : ℕ) (map : List Bool) → n ≤ m → ((other : ℕ) → n ≤ other → other < m → inode_at g image group other ≡ None)
    → IsLeft g image group n map → IsLeft g image group m map
left_wider g image group n m map le none left = record {
  long = left.long;
  free = λ b free.
      let was = left.free b free in (
        was.0,
        was.1,
        was.2,
        λ a lt some. elim (cases_lt a n) [
          | inl low ↦ was.3 a low some
          | inr ge ↦ let no = ap (λ (o : Option Row). times b (row_blocks o)) (row_none g image group a (none a ge lt)) in absurd (omega (arith, some, no, times_none b))
        ],
      );
  kept = λ b from to chunks below. left.kept b from to chunks (λ a low. below a (omega arith));
}

-- no inode stands between
pub Gathered-wider : (g : Geometry) (image : List Sector) (group n m : ℕ) (map : List Bool) (fork shared : Option ℕ) → n ≤ m → ((other : ℕ) → n ≤ other → other < m → inode_at g image group other ≡ None)
    → Gathered g image group n map fork shared → Gathered g image group m map fork shared
Gathered-wider g image group n m map fork shared le none was = record {
  cores = λ a lt inode e. elim (cases_lt a n) [ inl low ↦ was.cores a low inode e | inr ge ↦ let no = none a ge lt in cc (no, e) ];
  forks = forks_wider g image group n m fork none was.forks;
  blocks = λ no. blocks_wider g image group n m shared none (was.blocks no);
  left = λ no alone. left_wider g image group n m map le none (was.left no alone);
}

-- a free inode
pub Gathered-free : (g : Geometry) (image : List Sector) (group n : ℕ) (map : List Bool) (fork shared : Option ℕ) (inode : Inode) → Gathered g image group n map fork shared
    → inode_at g image group n ≡ Some inode → inode.row ≡ None → IsCoreRight g image group n inode → Gathered g image group (n + 1) map fork shared
Gathered-free g image group n map fork shared inode was found free right =
    let row : row_at g image group n ≡ None = row_found g image group n inode found ∙ free in
    record {
      cores = cores_more g image group n inode was.cores found right;
      forks = forks_more g image group n fork was.forks (λ r e. cc (row, e));
      blocks = λ no. blocks_more g image group n shared (was.blocks no) (λ _ r e. cc (row, e));
      left = λ no alone. left_more g image group n map map [] (was.left no alone) (TakesAll-none map) refl (ap row_blocks row);
    }

-- an inode in use whose fork is wrong
pub Gathered-misformed : (g : Geometry) (image : List Sector) (group n s : ℕ) (map : List Bool) (fork shared : Option ℕ) (inode : Inode) (row : Row) → Gathered g image group n map fork shared
    → inode_at g image group n ≡ Some inode → inode.row ≡ Some row → IsCoreRight g image group n inode → s ≡ sector_in g group n → (IsForkRight g image group n → ⊥)
    → Gathered g image group (n + 1) map (Some (unwrap_or fork s)) shared
Gathered-misformed g image group n s map fork shared inode row was found in_use right place wrong = record {
  cores = cores_more g image group n inode was.cores found right;
  forks = forks_break g image group n s fork row was.forks place (row_found g image group n inode found ∙ in_use) wrong;
  blocks = λ no. cc (no);
  left = λ no alone. cc (no);
}

-- an inode in use whose fork is right
pub Gathered-blocks : (g : Geometry) (image : List Sector) (group n s : ℕ) (map new : List Bool) (fork shared now : Option ℕ) (inode : Inode) (row : Row) → Gathered g image group n map fork shared
    → inode_at g image group n ≡ Some inode → inode.row ≡ Some row → IsCoreRight g image group n inode → s ≡ sector_in g group n → IsForkRight g image group n
    → All (λ (block : ℕ). (24 ≤ block) × (block < g.blocks)) row.blocks → Adds map shared s row.blocks new now → Gathered g image group (n + 1) new fork now
Gathered-blocks g image group n s map _ fork shared _ inode row was found in_use right place fork_right inside (all new takes long) =
    let at : row_at g image group n ≡ Some row = row_found g image group n inode found ∙ in_use in
    record {
      cores = cores_more g image group n inode was.cores found right;
      forks = forks_more g image group n fork was.forks (λ r e. fork_right);
      blocks = λ no. blocks_more g image group n shared (was.blocks no)
          (λ single r e. subst (AreBlocksAlone g image group n) (same_Some row r (sym at ∙ e)) (alone g image group n map new row (was.left no single) takes));
      left = λ no single. left_more g image group n map new row.blocks (was.left no single) takes long (ap row_blocks at);
    }
Gathered-blocks g image group n s map _ fork shared _ inode row was found in_use right place fork_right inside (crowded new crowd) =
    let at : row_at g image group n ≡ Some row = row_found g image group n inode found ∙ in_use in
    record {
      cores = cores_more g image group n inode was.cores found right;
      forks = forks_more g image group n fork was.forks (λ r e. fork_right);
      blocks = λ no. blocks_break g image group n s shared row (was.blocks no) place at (λ single. not_alone g image group n map row (was.left no single) crowd inside);
      left = λ no single. cc (single);
    }

-- ---- what the next inode is

pub bytes_of_item : (sectors : List Sector) (i : ℕ) (d : Sector) → i < length sectors → bytes_at sectors i ≡ (get_or sectors i d).bytes
unfolding bytes_at
bytes_of_item sectors i d low = ap (λ (x : Sector). x.bytes) (get_or_default sectors i zero_sector d low)

pub live_of : (g : Geometry) (image : List Sector) (group agino : ℕ) (free : Bool) (inode : Inode) → inode.row ≡ row_unless g image group agino free → is_some inode.row ≡ not free
live_of g image group agino true inode e = ap (λ (o : Option Row). is_some o) e
live_of g image group agino false inode e = ap (λ (o : Option Row). is_some o) e

pub sector_next : (g : Geometry) (group start i : ℕ) → sector_in g group (start + i) ≡ sector_in g group start + i
unfolding sector_in
sector_next g group start i = omega arith

pub row_read : (g : Geometry) (image : List Sector) (group : ℕ) (chunk : ChunkRec) (i : ℕ) → (inode_read g image group chunk i).row ≡ row_unless g image group (chunk.start + i) (is_set chunk.mask i)
unfolding inode_read
row_read g image group chunk i = refl

pub next_of : (g : Geometry) (image : List Sector) (group bound : ℕ) (chunk : ChunkRec) (sectors : List Sector) (i : ℕ) (d : Sector) (free : Bool) → IsNextChunk g image group bound chunk
    → Shows image (sector_in g group chunk.start) sectors → length sectors ≡ 64 → i < 64 → free ≡ is_set chunk.mask i
    → IsNextInode g image group (chunk.start + i) (chunk.start + i) (get_or sectors i d).bytes free
next_of g image group bound chunk sectors i d free next shows many low mask = record {
  shown = ap (bytes_at image) (sector_next g group chunk.start i) ∙ shows.each i (omega arith) ∙ bytes_of_item sectors i d (omega arith);
  inode = inode_read g image group chunk i;
  found = next.found i low;
  row = row_read g image group chunk i ∙ ap (row_unless g image group (chunk.start + i)) (sym mask);
  from = omega arith;
  none = λ other le lt. absurd (omega arith);
}

-- the numbers of a range stand in it
pub range_has : (s n b : ℕ) → s ≤ b → b < s + n → 1 ≤ times b (range_with_len s n)
range_has s zero b from to = absurd (omega arith)
range_has s (suc n) b from to =
    elim (cases_lt s b) [
      | inl lt ↦ omega (arith, range_has (s + 1) n b (omega arith) (omega arith), times_cons b s (range_with_len (s + 1) n))
      | inr ge ↦ let e : b ≡ s = omega arith in let one : ◌≡◌ {A = ℕ} (cond (eqb b s) 1 0) 1 = grind (arith, nat_tests) in omega (arith, one, times_cons b s (range_with_len (s + 1) n))
    ]
