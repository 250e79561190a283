-- The record of what a mount freed, as a run has it.
use Rattle.std.proofs.Common.{◌≡◌, ◌≤◌, ◌<◌, ◌+◌, ◌*◌, ◌/◌, ◌%◌, ◌++◌, ℕ, zero, suc, max, List, [], ◌∷◌, length, map, take, Option, None, Some, refl, ap, sym, subst, ◌∙◌, arith}
use Rattle.std.specs.Prelude.{slice_get}
use Rattle.std.specs.List.{AllByRecursion, range_with_len}
use Rattle.std.proofs.Math.Seq.{take-length}
use Rattle.std.proofs.lemmas.List.{length-map, length-take-le, take-map, take_all}
use Rattle.life_limits.specs.declared.TheConstants.{BUCKETS, GROUP_NUMBERS, MAX_ACTORS}
use Rattle.life_bytes.specs.declared.sector.Sector.{Sector}
use Rattle.disk_model.specs.Disk.{Cell, IsImage, as_read, flushed}
use Rattle.disk_model.specs.DiskLaws.{IsImage-as_read, IsImage-flushed}
use Rattle.geometry.specs.declared.shape.Geometry.{Geometry}
use Rattle.life_table.specs.declared.key.Key.{Key}
use Rattle.life_table.specs.declared.types.Entry.{Entry}
use Rattle.life_table.specs.declared.types.Event.TheVariants.{Freed}
use Rattle.life_table.specs.declared.types.MountRecord.{MountRecord}
use Rattle.life_table.specs.declared.table.Table.{Table}
use Rattle.life_table.specs.History.{After, Leads, LegalHistory, changes, closed, frees_of, recovered}
use Rattle.actor_world.specs.Mounted.{own_places}
use Rattle.sound_image.specs.Encoding.{CanEncode, Layouts}
use Rattle.whole_image.specs.Represents.{Represents}
use Rattle.orphan_frees.specs.Order.{freed_all, keys_to_free}
use Rattle.mount.specs.Images.{HasFreed, IsImageOf, after_frees}
use Rattle.mount.specs.Mounts.{IsBegunOver, IsStoryOf}
use Rattle.run_history.specs.Answers.{IsFresh}
use Rattle.run_history.specs.CrashSafe.{IsPrefixLeft}
use Rattle.run_history.specs.Mounts.{MountStory, changes_made, left, most_covered, never_up, table_after}
use Rattle.run_history.specs.NextMount.{AreByBucket, AreRecovered, Recovers, bucket_rank}
use Rattle.mounts_in_runs.specs.Stories.{mount_of}

-- ---- what the laws below say of the frees of a recovery

abbrev pub AreLegal : Type 0
AreLegal = (g : Geometry) (t : Table) (layouts : Layouts) (sectors : List Sector) (actor count : ℕ) → CanEncode g t layouts sectors → closed t ≡ t
    → LegalHistory t (frees_of actor (take count (keys_to_free t layouts))) (freed_all t (take count (keys_to_free t layouts)))

abbrev pub FreesAll : Type 0
FreesAll = (g : Geometry) (t : Table) (layouts : Layouts) (sectors : List Sector) → CanEncode g t layouts sectors → closed t ≡ t → freed_all t (keys_to_free t layouts) ≡ recovered t

abbrev pub AreChanges : Type 0
AreChanges = (actor : ℕ) (keys : List Key) → changes (frees_of actor keys) ≡ frees_of actor keys

abbrev pub AfterFrees : Type 0
AfterFrees = (t : Table) (actor count : ℕ) (keys : List Key) → closed t ≡ t → After t (frees_of actor keys) count ≡ freed_all t (take count keys)

abbrev pub GoByBucket : Type 0
GoByBucket = (g : Geometry) (t : Table) (layouts : Layouts) (sectors : List Sector) (i j : ℕ) (earlier later : Key) → CanEncode g t layouts sectors → i ≤ j
    → slice_get (keys_to_free t layouts) i ≡ Some earlier → slice_get (keys_to_free t layouts) j ≡ Some later
    → earlier.number / GROUP_NUMBERS * BUCKETS + earlier.number % BUCKETS ≤ later.number / GROUP_NUMBERS * BUCKETS + later.number % BUCKETS

-- ---- places, order, what is acknowledged

-- the entry of a free
abbrev freeing : Key → Entry
freeing key = record { actor = MAX_ACTORS; event = Freed key }

places : (n : ℕ) (keys : List Key) → range_with_len n (length keys) ≡ own_places n keys
places n [] = refl
places n (key ∷ keys) = ap (λ (l : List ℕ). n ∷ l) (places (n + 1) keys)

pub fresh : (next acknowledged : ℕ) (keys : List Key) (story : MountRecord) → IsStoryOf next keys acknowledged story → IsFresh story
fresh next acknowledged keys story is = record { keys = keys; entries = is.entries; froms = is.froms ∙ places 0 keys; freed = is.freed }

all_at : (P : Key → Type 0) (keys : List Key) → ((j : ℕ) (later : Key) → slice_get keys j ≡ Some later → P later) → AllByRecursion P keys
all_at P [] each = tt
all_at P (key ∷ keys) each = (each 0 key refl, all_at P keys (λ j later at. each (suc j) later at))

by_bucket : (keys : List Key) → ((i j : ℕ) (earlier later : Key) → i ≤ j → slice_get keys i ≡ Some earlier → slice_get keys j ≡ Some later → bucket_rank earlier ≤ bucket_rank later)
    → AreByBucket keys
by_bucket [] each = tt
by_bucket (key ∷ keys) each = (
  all_at (λ (later : Key). bucket_rank key ≤ bucket_rank later) keys (λ j later at. each 0 (suc j) key later (omega arith) refl at),
  by_bucket keys (λ i j earlier later less a b. each (suc i) (suc j) earlier later (omega (arith, less)) a b),
)

none_covered : (keys : List Key) → most_covered (frees_of MAX_ACTORS keys) ≡ 0
none_covered [] = refl
none_covered (key ∷ keys) = ap (max 0) (none_covered keys)

-- ---- what is recovered

pub are_recovered : AreLegal → FreesAll → GoByBucket → (g : Geometry) (t : Table) (layouts : Layouts) (sectors : List Sector) → CanEncode g t layouts sectors → closed t ≡ t
    → AreRecovered t (keys_to_free t layouts)
are_recovered legal all by g t layouts sectors can shut =
    let keys : List Key = keys_to_free t layouts in
    let here = (legal g t layouts sectors MAX_ACTORS (length keys) can shut).leads in
    let whole : take (length keys) keys ≡ keys = take-length keys in
    let at : Leads t (frees_of MAX_ACTORS keys) (freed_all t keys) = subst (λ (l : List Key). Leads t (frees_of MAX_ACTORS l) (freed_all t l)) whole here in
    record {
      leads = subst (λ (u : Table). Leads t (frees_of MAX_ACTORS keys) u) (all g t layouts sectors can shut) at;
      order = by_bucket keys (λ i j earlier later less a b. by g t layouts sectors i j earlier later can less a b);
    }

pub up_recovers : AreLegal → FreesAll → GoByBucket → (g : Geometry) (t : Table) (layouts : Layouts) (sectors : List Sector) (next kept acknowledged : ℕ) (story : MountRecord)
    → CanEncode g t layouts sectors → closed t ≡ t → IsStoryOf next (keys_to_free t layouts) acknowledged story → Recovers (mount_of left t kept story)
up_recovers legal all by g t layouts sectors next kept acknowledged story can shut is =
    let keys : List Key = keys_to_free t layouts in
    let entries : take story.freed story.entries ≡ frees_of MAX_ACTORS keys =
    ap (λ (n : ℕ). take n story.entries) is.freed ∙ ap (take (length keys)) is.entries ∙ take-map freeing (length keys) keys ∙ ap (frees_of MAX_ACTORS) (take-length keys) in
    (keys, are_recovered legal all by g t layouts sectors can shut, entries)

pub begun_recovers : AreLegal → FreesAll → GoByBucket → (g : Geometry) (t : Table) (layouts : Layouts) (sectors : List Sector) (next kept count : ℕ) (story : MountRecord)
    → CanEncode g t layouts sectors → closed t ≡ t → count ≤ length (keys_to_free t layouts) → IsStoryOf next (take count (keys_to_free t layouts)) 0 story
    → Recovers (mount_of never_up t kept story)
begun_recovers legal all by g t layouts sectors next kept count story can shut within is =
    let keys : List Key = keys_to_free t layouts in
    let freed : story.freed ≡ count = is.freed ∙ length-take-le count keys within in
    (keys, are_recovered legal all by g t layouts sectors can shut, is.entries ∙ ap (λ (n : ℕ). frees_of MAX_ACTORS (take n keys)) (sym freed))

-- ---- what is left

made_all : AreChanges → (keys : List Key) (story : MountRecord) → story.entries ≡ frees_of MAX_ACTORS keys → changes_made story ≡ length keys
made_all change keys story entries = ap (λ (l : List Entry). length (changes l)) entries ∙ ap length (change MAX_ACTORS keys) ∙ length-map keys freeing

pub up_is_left : FreesAll → AreChanges → AfterFrees → (g : Geometry) (t : Table) (layouts : Layouts) (sectors after : List Sector) (next kept : ℕ) (story : MountRecord)
    → CanEncode g t layouts sectors → closed t ≡ t → IsStoryOf next (keys_to_free t layouts) (length (keys_to_free t layouts)) story
    → Represents after (recovered t) (next + length (keys_to_free t layouts)) → IsPrefixLeft (mount_of left t kept story) after story.freed
up_is_left all change after_frees_is g t layouts sectors after next kept story can shut is represents =
    let keys : List Key = keys_to_free t layouts in
    let covered : most_covered story.entries ≡ 0 = ap most_covered is.entries ∙ none_covered keys in
    let made = made_all change keys story is.entries in
    let freed = is.freed in
    let base = is.base in
    let table : After t story.entries story.freed ≡ recovered t =
    ap (λ (l : List Entry). After t l story.freed) is.entries ∙ ap (After t (frees_of MAX_ACTORS keys)) is.freed ∙ after_frees_is t MAX_ACTORS (length keys) keys shut
    ∙ ap (freed_all t) (take-length keys) ∙ all g t layouts sectors can shut in
    record {
      acknowledged = subst (λ (n : ℕ). max story.freed n ≤ story.freed) (sym covered) (omega arith);
      made = omega (arith, made, freed);
      represents = subst (λ (u : Table). Represents after u (story.base + story.freed)) (sym table)
          (subst (λ (n : ℕ). Represents after (recovered t) n) (omega (arith, freed, base)) represents);
    }

take_within : (a b : ℕ) (keys : List Key) → a ≤ b → take a (take b keys) ≡ take a keys
take_within zero b keys less = refl
take_within (suc a) zero keys less = absurd (omega (arith, less))
take_within (suc a) (suc b) [] less = refl
take_within (suc a) (suc b) (key ∷ keys) less = ap (λ (l : List Key). key ∷ l) (take_within a b keys (omega (arith, less)))

pub begun_is_left : AreChanges → AfterFrees → (t : Table) (layouts : Layouts) (next kept count : ℕ) (story : MountRecord) (image : List Sector)
    → closed t ≡ t → count ≤ length (keys_to_free t layouts) → IsStoryOf next (take count (keys_to_free t layouts)) 0 story → HasFreed t layouts next count image
    → (n : ℕ) × IsPrefixLeft (mount_of never_up t kept story) image n
begun_is_left change after_frees_is t layouts next kept count story image shut within is has =
    let keys : List Key = keys_to_free t layouts in
    let made = made_all change (take count keys) story is.entries in
    let size = length-take-le count keys within in
    let base = is.base in
    let low = has.within in
    let table : After t story.entries has.count ≡ after_frees t layouts has.count =
    ap (λ (l : List Entry). After t l has.count) is.entries ∙ after_frees_is t MAX_ACTORS has.count (take count keys) shut
    ∙ ap (freed_all t) (take_within has.count count keys low) ∙ sym (after_frees_is t MAX_ACTORS has.count keys shut) in (
      has.count,
      record {
        acknowledged = omega arith;
        made = omega (arith, made, size, low);
        represents = subst (λ (u : Table). Represents image u (story.base + has.count)) (sym table)
            (subst (λ (n : ℕ). Represents image (after_frees t layouts has.count) n) (omega (arith, base)) has.represents);
      },
    )
