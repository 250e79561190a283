-- Kept sectors of groups: which of them are enough, and what they encode.
use Rattle.std.proofs.Common.{◌≡◌, ◌⊎◌, ◌<◌, ◌≤◌, ◌+◌, ◌-◌, ◌*◌, ◌/◌, ◌%◌, ◌∷◌, [], ℕ, suc, Bool, true, false, cond, List, Option, Some, None, length, map, get_or, eqb, ltb, leb, slice_get, inl, inr, refl, ap, sym, subst, ◌∙◌, arith}
use Rattle.std.specs.Prelude.{◌&&◌, IsSome, IfSome, unwrap_or}
use Rattle.std.specs.Option.{option_map}
use Rattle.std.specs.Ordering.{nat_cmp}
use Rattle.std.specs.BTreeMap.{BTreeMap, get}
use Rattle.std.proofs.lemmas.Bool.{and_parts, cases_eq, cases_lt, cond-false, cond-true, eqb-true, false≢true, leb-true, ltb-true, lt-ltb, le-ltb, ne_eqb}
use Rattle.std.proofs.lemmas.List.{length-take}
use Rattle.std.proofs.lemmas.List.FromFn.{fill_by_all, get_or-map-range_with_len}
use Rattle.std.proofs.lemmas.Nat.{div-add-mod', div_below}
use Rattle.life_limits.specs.declared.TheConstants.{BLOCK_SECTORS}
use Rattle.life_bytes.specs.declared.sector.Sector.{Sector}
use Rattle.life_bytes.specs.Sectors.{zero_sector}
use Rattle.geometry.specs.declared.shape.Geometry.{Geometry}
use Rattle.geometry.specs.Places.{anchor_of, group_sectors}
use Rattle.ag_header.specs.declared.agi.Agi.{Agi}
use Rattle.inobt_leaf.specs.declared.chunk.ChunkRec.{ChunkRec}
use Rattle.life_table.specs.declared.table.Inode.{Inode}
use Rattle.life_table.specs.declared.table.Table.{Table}
use Rattle.life_table.specs.Table.{Group, group_at, inode_in, start_of}
use Rattle.sound_image.specs.Encoding.{Layouts, chunk_record, encoded, encoded_bytes, header_for, inode_sector, metadata, page_of, page_place}
use Rattle.sound_image.specs.Places.{bytes_at, sector_in}
use Rattle.log_image.specs.Log.{groups_part}
use Rattle.commit_history.specs.Carried.{IsEncoding}
use Rattle.mount.specs.Kept.{Agrees, Has, HasChunk, HasGroup, HasRun, kept_image}
use Rattle.mount.specs.KeptLaws.{get_or-kept_image, length-kept_image}
use Rattle.mount.proofs.Encodes.{bytes_same, bytes_taken}

pub sector_more : (g : Geometry) (group place k : ℕ) → sector_in g group place + k ≡ sector_in g group (place + k)
unfolding sector_in
sector_more g group place k = omega arith

-- ---- which sectors are enough

-- the record of a number's chunk
record_of : (chunks : Group) (agino : ℕ) (inode : Inode) → inode_in chunks agino ≡ Some inode
    → (k : ℕ) × (r : ChunkRec) × (slice_get (map chunk_record chunks) k ≡ Some r) × (r.start ≡ start_of agino)
unfolding inode_in chunk_record
record_of [] agino inode e = let bad : None ≡ Some inode = e in absurd cc
record_of (c ∷ cs) agino inode e = elim (cases_eq c.start (start_of agino)) [
  | inl is ↦ (0, chunk_record c, refl, is)
  | inr ne ↦
      let rest = record_of cs agino inode (sym (cond-false (eqb c.start (start_of agino)) _ _ (ne_eqb c.start (start_of agino) ne)) ∙ e) in
      (suc rest.0, rest.1, rest.2, rest.3)
]

mapped : (f : Inode → List ℕ) (o : Option Inode) (bytes : List ℕ) → option_map f o ≡ Some bytes → (x : Inode) × (o ≡ Some x)
mapped f None bytes e = let bad : None ≡ Some bytes = e in absurd cc
mapped f (Some x) bytes e = (x, refl)

-- one of four tests in turn
in_turn : (a b c : Bool) (w x y z : Option (List ℕ)) (bytes : List ℕ) → cond a w (cond b x (cond c y z)) ≡ Some bytes
    → (a ≡ true) ⊎ (b ≡ true) ⊎ (c ≡ true) ⊎ (z ≡ Some bytes)
in_turn true b c w x y z bytes e = inl refl
in_turn false true c w x y z bytes e = inr (inl refl)
in_turn false false true w x y z bytes e = inr (inr (inl refl))
in_turn false false false w x y z bytes e = inr (inr (inr e))

-- what the format says at a place comes of the header, the bitmap, the page or an inode
stands_at : (g : Geometry) (layouts : Layouts) (group : ℕ) (chunks : Group) (place : ℕ) (bytes : List ℕ) → metadata g layouts group chunks place ≡ Some bytes
    → (eqb place 2 ≡ true) ⊎ (leb 8 place && ltb place 12 ≡ true) ⊎ (leb (page_place layouts group) place && ltb place (page_place layouts group + 8) ≡ true)
    ⊎ (option_map (inode_sector g layouts group place) (inode_in chunks place) ≡ Some bytes)
unfolding metadata
stands_at g layouts group chunks place bytes e = in_turn (eqb place 2) (leb 8 place && ltb place 12) (leb (page_place layouts group) place && ltb place (page_place layouts group + 8)) _ _ _ _ bytes e

-- a place of a run that is kept
in_run : (g : Geometry) (group first n place : ℕ) (kept : BTreeMap ℕ Sector) → HasRun kept (sector_in g group first) n → leb first place && ltb place (first + n) ≡ true
    → Has kept (sector_in g group place)
in_run g group first n place kept run e =
    let parts = and_parts (leb first place) (ltb place (first + n)) e in
    let up : first ≤ place = leb-true first place parts.0 in
    let low : place < first + n = ltb-true place (first + n) parts.1 in
    let is : first + (place - first) ≡ place = omega (arith, up) in
    subst (Has kept) (sector_more g group first (place - first) ∙ ap (sector_in g group) is) (run (place - first) (omega (arith, up, low)))

pub has_group : (g : Geometry) (t : Table) (layouts : Layouts) (group : ℕ) (kept : BTreeMap ℕ Sector) → Has kept (sector_in g group 2) → HasRun kept (sector_in g group BLOCK_SECTORS) 4
    → HasRun kept (sector_in g group (BLOCK_SECTORS * page_of layouts group)) BLOCK_SECTORS
    → ((k : ℕ) (r : ChunkRec) → slice_get (map chunk_record (group_at t group)) k ≡ Some r → HasChunk g kept group r.start)
    → ((agino : ℕ) (inode : Inode) → inode_in (group_at t group) agino ≡ Some inode → agino < group_sectors g) → HasGroup g t layouts kept group
unfolding page_place
has_group g t layouts group kept header bitmap page chunks inside place bytes e = elim (stands_at g layouts group (group_at t group) place bytes e) [
  | inl is ↦ subst (λ (p : ℕ). Has kept (sector_in g group p)) (sym (eqb-true place 2 is)) header
  | inr (inl is) ↦ in_run g group 8 4 place kept bitmap is
  | inr (inr (inl is)) ↦ in_run g group (page_place layouts group) 8 place kept page is
  | inr (inr (inr is)) ↦
      let inode = mapped (inode_sector g layouts group place) (inode_in (group_at t group) place) bytes is in
      let one = record_of (group_at t group) place inode.0 inode.1 in
      let start : one.1.start ≡ place - place % 64 = one.3 in
      let index : place % 64 < 64 = omega arith in
      let sum : one.1.start + place % 64 ≡ place = omega (arith, start) in
      let low : place < group_sectors g = inside place inode.0 inode.1 in
      subst (λ (p : ℕ). Has kept (sector_in g group p)) sum (chunks one.0 one.1 one.2 (place % 64) index (omega (arith, sum, low)))
]

-- ---- what is encoded

abbrev sector_by : List ℕ → Sector
sector_by bytes = record { bytes = bytes }

-- an image encodes a table where each of its sectors has the bytes that are encoded there
all_same : (g : Geometry) (t : Table) (layouts : Layouts) (image : List Sector) → ((s : ℕ) → s < length image → encoded_bytes g t layouts image s ≡ bytes_at image s)
    → encoded g t layouts image ≡ image
unfolding encoded bytes_at
all_same g t layouts image each =
    sym (fill_by_all (λ s. sector_by (encoded_bytes g t layouts image s)) image (length image) zero_sector refl (λ k low. ap sector_by (sym (each k low))))

each_same : (g : Geometry) (t : Table) (layouts : Layouts) (image : List Sector) (s : ℕ) → encoded g t layouts image ≡ image → s < length image
    → encoded_bytes g t layouts image s ≡ bytes_at image s
unfolding encoded bytes_at
each_same g t layouts image s same low =
    sym (ap (λ (x : Sector). x.bytes) (get_or-map-range_with_len (λ s. sector_by (encoded_bytes g t layouts image s)) 0 (length image) s s zero_sector low (omega arith)))
    ∙ ap (λ (l : List Sector). (get_or l s zero_sector).bytes) same

within_groups : (g : Geometry) (t : Table) (layouts : Layouts) (image : List Sector) (s : ℕ) → s < anchor_of g
    → encoded_bytes g t layouts image s ≡ unwrap_or (metadata g layouts (s / group_sectors g) (group_at t (s / group_sectors g)) (s % group_sectors g)) (bytes_at image s)
unfolding encoded_bytes
within_groups g t layouts image s low = cond-true (ltb s (g.groups * group_sectors g)) _ _ (lt-ltb s (g.groups * group_sectors g) low)

behind_groups : (g : Geometry) (t : Table) (layouts : Layouts) (image : List Sector) (s : ℕ) → anchor_of g ≤ s → encoded_bytes g t layouts image s ≡ bytes_at image s
unfolding encoded_bytes
behind_groups g t layouts image s past = cond-false (ltb s (g.groups * group_sectors g)) _ _ (le-ltb s (g.groups * group_sectors g) past)

-- what the groups' sectors encode, the image does
pub whole_encodes : (g : Geometry) (t : Table) (layouts : Layouts) (image : List Sector) → anchor_of g ≤ length image → IsEncoding g t layouts (groups_part (anchor_of g) image) → IsEncoding g t layouts image
whole_encodes g t layouts image long is =
    let n = anchor_of g in
    let part = groups_part n image in
    record {
      can = record { shape = is.can.shape; table = is.can.table; groups = is.can.groups; blocks = is.can.blocks; layouts_of = is.can.layouts_of; size = long };
      same = all_same g t layouts image (λ s lt. elim (cases_lt s n) [
        | inl low ↦
            bytes_same g t layouts image part s (sym (bytes_taken n s image low))
            ∙ each_same g t layouts part s is.same (omega (arith, low, long, length-take n image))
            ∙ bytes_taken n s image low
        | inr past ↦ behind_groups g t layouts image s past
      ]);
    }

-- what is kept at a sector has the image's bytes
kept_bytes : (image : List Sector) (kept : BTreeMap ℕ Sector) (o : Option Sector) (s : ℕ) → get nat_cmp kept s ≡ o → IsSome o → Agrees image kept
    → (unwrap_or o zero_sector).bytes ≡ bytes_at image s
kept_bytes image kept None s is some agrees = absurd (false≢true some)
kept_bytes image kept (Some x) s is some agrees =
    let here : IfSome (Some x) (λ (sector : Sector). bytes_at image s ≡ sector.bytes) = subst (λ (o : Option Sector). IfSome o (λ (sector : Sector). bytes_at image s ≡ sector.bytes)) is (agrees s) in
    sym here

has_bytes : (image : List Sector) (kept : BTreeMap ℕ Sector) (count s : ℕ) → s < count → Has kept s → Agrees image kept → bytes_at (kept_image kept count) s ≡ bytes_at image s
unfolding bytes_at
has_bytes image kept count s low has agrees =
    ap (λ (x : Sector). x.bytes) (get_or-kept_image kept count s zero_sector low) ∙ kept_bytes image kept (get nat_cmp kept s) s refl has agrees

-- either the format says nothing of a sector, or it is kept and has what it says
same_there : (image shown : List Sector) (s : ℕ) (o : Option (List ℕ)) → unwrap_or o (bytes_at image s) ≡ bytes_at image s
    → ((bytes : List ℕ) → o ≡ Some bytes → bytes_at shown s ≡ bytes_at image s) → unwrap_or o (bytes_at shown s) ≡ bytes_at shown s
same_there image shown s None is has = refl
same_there image shown s (Some bytes) is has = is ∙ sym (has bytes refl)

pub kept_encodes : (g : Geometry) (t : Table) (layouts : Layouts) (image : List Sector) (kept : BTreeMap ℕ Sector) → IsEncoding g t layouts image → Agrees image kept
    → ((group : ℕ) → group < g.groups → HasGroup g t layouts kept group) → IsEncoding g t layouts (kept_image kept (anchor_of g))
unfolding sector_in
kept_encodes g t layouts image kept is agrees has =
    let n = anchor_of g in
    let size = group_sectors g in
    let shown = kept_image kept n in
    let long : length shown ≡ n = length-kept_image kept n in
    record {
      can = record { shape = is.can.shape; table = is.can.table; groups = is.can.groups; blocks = is.can.blocks; layouts_of = is.can.layouts_of; size = omega (arith, long) };
      same = all_same g t layouts shown (λ s lt.
          let low : s < n = omega (arith, lt, long) in
          let some : 0 < size = omega (arith, is.can.shape.blocks.0) in
          let place : s / size * size + s % size ≡ s = div-add-mod' s size in
          within_groups g t layouts shown s low
          ∙ same_there image shown s (metadata g layouts (s / size) (group_at t (s / size)) (s % size))
          (sym (within_groups g t layouts image s low) ∙ each_same g t layouts image s is.same (omega (arith, low, is.can.size)))
          (λ bytes e.
          has_bytes image kept n s low (subst (Has kept) place (has (s / size) (div_below s size g.groups some low) (s % size) bytes e)) agrees));
    }

pub same_records : (a b : List ChunkRec) → Some a ≡ Some b → a ≡ b
same_records a b e = cc e

pub root_of : (g : Geometry) (group : ℕ) (chunks : Group) (layouts : Layouts) (header : Agi) → Some header ≡ Some (header_for g group chunks layouts) → header.root ≡ page_of layouts group
unfolding header_for
root_of g group chunks layouts header e = let is : header ≡ header_for g group chunks layouts = cc e in ap (λ (a : Agi). a.root) is
