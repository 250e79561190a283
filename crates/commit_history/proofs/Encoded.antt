-- Sectors that encode a table, and commits put over them.
use Rattle.std.proofs.Common.{◌≡◌, ◌<◌, ◌≤◌, ◌+◌, ◌*◌, ◌/◌, ◌%◌, ◌⊎◌, ℕ, Bool, true, false, cond, List, [], ◌∷◌, ◌++◌, Option, None, Some, length, get_or, take, drop, ltb, refl, ap, sym, subst, ◌∙◌, arith}
use Rattle.std.specs.Prelude.{unwrap_or, Contains}
use Rattle.std.proofs.lemmas.List.{same_lists}
use Rattle.std.proofs.lemmas.List.FromFn.{length-map-range_with_len, get_or-map-range_with_len}
use Rattle.life_bytes.specs.declared.sector.Sector.{Sector}
use Rattle.life_bytes.specs.Sectors.{zero_sector}
use Rattle.geometry.specs.declared.shape.Geometry.{Geometry}
use Rattle.geometry.specs.Places.{group_sectors}
use Rattle.log_record.specs.declared.image.Commit.{Commit}
use Rattle.log_record.specs.declared.image.Image.{Image}
use Rattle.log_image.specs.Overlay.{overlaid}
use Rattle.log_image.specs.OverlayLaws.{length-overlaid, overlaid-append, overlaid-none}
use Rattle.log_batch.specs.Newest.{commit_images}
use Rattle.life_table.specs.declared.table.Table.{Table}
use Rattle.life_table.specs.Table.{group_at}
use Rattle.sound_image.specs.Places.{bytes_at}
use Rattle.sound_image.specs.Encoding.{Layouts, CanEncode, metadata, encoded, encoded_bytes}
use Rattle.encoded_changes.specs.Carry.{Carry, CarryGroup, ChangesOnly}
use Rattle.commit_history.specs.Carried.{CommitCarries, CommitsCarry, IsEncoding}
use Rattle.commit_history.proofs.Following.{Parted, parted}

abbrev sector_of : List ℕ → Sector
sector_of bytes = record { bytes = bytes }

pub length-encoded : (g : Geometry) (t : Table) (layouts : Layouts) (image : List Sector) → length (encoded g t layouts image) ≡ length image
unfolding encoded
length-encoded g t layouts image = length-map-range_with_len (λ s. sector_of (encoded_bytes g t layouts image s)) 0 (length image)

at_encoded : (g : Geometry) (t : Table) (layouts : Layouts) (image : List Sector) (s : ℕ) (d : Sector) → s < length image
    → get_or (encoded g t layouts image) s d ≡ sector_of (encoded_bytes g t layouts image s)
unfolding encoded
at_encoded g t layouts image s d lt =
    get_or-map-range_with_len (λ s. sector_of (encoded_bytes g t layouts image s)) 0 (length image) s s d lt (omega arith)

bytes_encoded : (g : Geometry) (t : Table) (layouts : Layouts) (image : List Sector) (s : ℕ) → s < length image
    → bytes_at (encoded g t layouts image) s ≡ encoded_bytes g t layouts image s
unfolding bytes_at
bytes_encoded g t layouts image s lt = ap (λ (x : Sector). x.bytes) (at_encoded g t layouts image s zero_sector lt)

unwrap_twice : (o : Option (List ℕ)) (bytes : List ℕ) → unwrap_or o (unwrap_or o bytes) ≡ unwrap_or o bytes
unwrap_twice None bytes = refl
unwrap_twice (Some x) bytes = refl

abbrev bytes_by : Bool → Option (List ℕ) → List ℕ → List ℕ
bytes_by inside o bytes = cond inside (unwrap_or o bytes) bytes

bytes_is : (g : Geometry) (t : Table) (layouts : Layouts) (image : List Sector) (s : ℕ) → encoded_bytes g t layouts image s
    ≡ bytes_by (ltb s (g.groups * group_sectors g)) (metadata g layouts (s / group_sectors g) (group_at t (s / group_sectors g)) (s % group_sectors g)) (bytes_at image s)
unfolding encoded_bytes
bytes_is g t layouts image s = refl

bytes_twice : (inside : Bool) (o : Option (List ℕ)) (bytes : List ℕ) → bytes_by inside o (bytes_by inside o bytes) ≡ bytes_by inside o bytes
bytes_twice true o bytes = unwrap_twice o bytes
bytes_twice false o bytes = refl

pub made_same : (g : Geometry) (t : Table) (layouts : Layouts) (sectors : List Sector) → encoded g t layouts (encoded g t layouts sectors) ≡ encoded g t layouts sectors
made_same g t layouts sectors =
    let once : List Sector = encoded g t layouts sectors in
    let first = length-encoded g t layouts sectors in
    let second = length-encoded g t layouts once in
    same_lists (encoded g t layouts once) once (omega (arith, first, second))
    (λ s d lt.
    let inside : s < length sectors = omega (arith, first, second, lt) in
    let here : s < length once = omega (arith, first, inside) in
    let o : Option (List ℕ) = metadata g layouts (s / group_sectors g) (group_at t (s / group_sectors g)) (s % group_sectors g) in
    let b : Bool = ltb s (g.groups * group_sectors g) in
    at_encoded g t layouts once s d here
    ∙ ap sector_of (bytes_is g t layouts once s ∙ ap (bytes_by b o) (bytes_encoded g t layouts sectors s inside ∙ bytes_is g t layouts sectors s)
    ∙ bytes_twice b o (bytes_at sectors s) ∙ sym (bytes_is g t layouts sectors s))
    ∙ sym (at_encoded g t layouts sectors s d inside))

can_along : (g : Geometry) (t : Table) (layouts : Layouts) (sectors other : List Sector) → length other ≡ length sectors → CanEncode g t layouts sectors → CanEncode g t layouts other
can_along g t layouts sectors other long can =
    let size = can.size in
    record { shape = can.shape; table = can.table; groups = can.groups; blocks = can.blocks; layouts_of = can.layouts_of; size = omega (arith, long, size) }

pub made : (g : Geometry) (t : Table) (layouts : Layouts) (sectors : List Sector) → CanEncode g t layouts sectors → IsEncoding g t layouts (encoded g t layouts sectors)
made g t layouts sectors can = record {
  can = can_along g t layouts sectors (encoded g t layouts sectors) (length-encoded g t layouts sectors) can;
  same = made_same g t layouts sectors;
}

-- ---- what the lower law says

abbrev pub CarryEncoded : Type 0
CarryEncoded = (g : Geometry) (t u : Table) (layouts others : Layouts) (image : List Sector) (images : List Image)
    → g.groups * group_sectors g ≤ length image → Carry g t layouts u others images → overlaid (encoded g t layouts image) images ≡ encoded g u others image

abbrev pub CarryOneGroup : Type 0
CarryOneGroup = (g : Geometry) (t u : Table) (layouts others : Layouts) (group : ℕ) (images : List Image) → group < g.groups → ChangesOnly group t layouts u others
    → CarryGroup g group layouts (group_at t group) others (group_at u group) images → Carry g t layouts u others images

-- ---- commits

pub one : (g : Geometry) (t u : Table) (layouts others : Layouts) (base : List Sector) (commit : Commit) → CarryEncoded → CarryOneGroup → IsEncoding g t layouts base
    → CommitCarries g t layouts u others commit → IsEncoding g u others (overlaid base commit.images)
one g t u layouts others base commit carry in_one is carries =
    let told : overlaid base commit.images ≡ encoded g u others base =
    ap (λ (x : List Sector). overlaid x commit.images) (sym is.same)
    ∙ carry g t u layouts others base commit.images is.can.size (in_one g t u layouts others commit.group commit.images carries.group carries.only carries.images.carry) in
    subst (IsEncoding g u others) (sym told) (made g u others base (carries.next base is.can))

pub all : (g : Geometry) (t u : Table) (layouts others : Layouts) (base : List Sector) (commits : List Commit) → CarryEncoded → CarryOneGroup → IsEncoding g t layouts base
    → CommitsCarry g t layouts commits u others → IsEncoding g u others (overlaid base (commit_images commits))
unfolding CommitsCarry
all g t u layouts others base [] carry in_one is carries =
    subst (λ (x : Table). IsEncoding g x others (overlaid base [])) (sym carries.0)
    (subst (λ (l : Layouts). IsEncoding g t l (overlaid base [])) (sym carries.1) (subst (IsEncoding g t layouts) (sym (overlaid-none base)) is))
all g t u layouts others base (commit ∷ commits) carry in_one is carries =
    let first = one g t carries.0 layouts carries.1 base commit carry in_one is carries.2 in
    subst (IsEncoding g u others) (sym (overlaid-append base commit.images (commit_images commits)))
    (all g carries.0 u carries.1 others (overlaid base commit.images) commits carry in_one first carries.3)

pub first : (g : Geometry) (t v : Table) (layouts last : Layouts) (base : List Sector) (commits : List Commit) (count : ℕ) → CarryEncoded → CarryOneGroup → IsEncoding g t layouts base
    → CommitsCarry g t layouts commits v last → (p : Parted g t v layouts last commits count) × IsEncoding g p.table p.layouts_of (overlaid base (commit_images (take count commits)))
first g t v layouts last base commits count carry in_one is carries =
    let p = parted g t v layouts last commits count carries in
    (p, all g t p.table layouts p.layouts_of base (take count commits) carry in_one is p.before)
