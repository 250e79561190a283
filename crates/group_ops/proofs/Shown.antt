-- The pointers of a group's state are the lists of its layouts.
use Rattle.std.proofs.Common.{◌≡◌, ◌<◌, ◌≤◌, ◌*◌, ◌%◌, ◌&&◌, ℕ, Bool, true, false, cond, eqb, List, [], length, Contains, Option, None, Some, refl, ap, sym, subst, ◌∙◌, arith, zero-add}
use Rattle.std.specs.Prelude.{IfSome, IsSome, IsSomeAnd, slice_index}
use Rattle.std.proofs.lemmas.Bool.{eq-eqb, eqb-true}
use Rattle.std.proofs.lemmas.List.FromFn.{length-range_with_len, get_or-range_with_len, length-map-range_with_len, get_or-map-range_with_len}
use Rattle.life_limits.specs.declared.TheConstants.{BLOCK_SECTORS, BUCKETS, FIRST_DATA_BLOCK, GROUP_NUMBERS, NO_INODE}
use Rattle.life_bytes.specs.declared.sector.Sector.{Sector}
use Rattle.geometry.specs.declared.shape.Geometry.{Geometry}
use Rattle.geometry.specs.Places.{group_sectors, number_in}
use Rattle.geometry.specs.Shape.{IsGeometry}
use Rattle.inode_core.specs.declared.shape.Core.{Core}
use Rattle.inode_core.specs.Cores.{EncodesCore, IsCore}
use Rattle.inode_core.specs.Reading.{CanStand, CoresAreRead, core_in}
use Rattle.extent_fork.specs.Forks.{extent_records, fork}
use Rattle.extent_fork.specs.Inodes.{inode_encoding}
use Rattle.extent_fork.specs.Reading.{ForksAreRead}
use Rattle.extent_fork.specs.Runs.{runs}
use Rattle.inode_cache.specs.declared.inode.Incore.{Incore}
use Rattle.inode_cache.specs.declared.inode.Kept.{Kept}
use Rattle.inode_cache.specs.Caches.{is_dirty}
use Rattle.inode_cache.specs.Inodes.{incore_encoding}
use Rattle.agi_buckets.specs.Buckets.{IsBucket, IsChain, list_at}
use Rattle.life_table.specs.declared.types.Row.{Row}
use Rattle.life_table.specs.declared.table.Inode.{Inode}
use Rattle.life_table.specs.declared.table.Table.{Table}
use Rattle.life_table.specs.Space.{row_blocks, times}
use Rattle.life_table.specs.Table.{group_at, inode_in}
use Rattle.sound_image.specs.Encoding.{CanEncode, Layouts, bucket_list, core_for, head_of, is_unlinked, is_unlinked_row, layout_of, next_in}
use Rattle.group_ops.specs.Buffers.{buffer_in}
use Rattle.group_ops.specs.Pointers.{ShowsLists, next_at, next_in_buffer, next_kept, numbers_below, pointers_of}
use Rattle.group_ops.specs.Relinks.{next_of}
use Rattle.group_ops.specs.Represents.{IsGroupOf, incore_for}
use Rattle.group_ops.specs.Telling.{core_told}
use Rattle.group_ops.specs.Values.{StateValue, kept_at}
use Rattle.group_ops.proofs.BucketLists.{IsOnce, all_from, chain_of, member_of_times, next_of_none, times_of_member}
use Rattle.group_ops.proofs.Places.{none_there}
use Rattle.group_ops.proofs.Told.{CoresStand, SectorsStand, blank, can_encode, chunks_of, encodes}

-- ---- the numbers of a group

pub numbers_have : (n number : ℕ) → number < n → Contains (numbers_below n) number
unfolding numbers_below
numbers_have n number low = (number, omega (arith, low, length-range_with_len 0 n), get_or-range_with_len 0 n number number low ∙ zero-add number)

pub numbers_are : (n number : ℕ) → Contains (numbers_below n) number → number < n
unfolding numbers_below
numbers_are n number (k, within, same) =
    let below : k < n = omega (arith, within, length-range_with_len 0 n) in
    let at : number ≡ k = sym same ∙ get_or-range_with_len 0 n k number below ∙ zero-add k in
    omega (arith, below, at)

-- ---- the lists of layouts

pub list_is : (layouts : Layouts) (group bucket : ℕ) → bucket_list layouts group bucket ≡ list_at (layout_of layouts group).buckets bucket
unfolding bucket_list
list_is layouts group bucket = refl

few : (b : Bool) → cond b 1 0 ≤ 1
few true = omega arith
few false = omega arith

both : (p q : Bool) → 1 ≤ cond (p && q) 1 0 → (p ≡ true) × (q ≡ true)
both true true some = (refl, refl)
both true false some = absurd (omega arith)
both false q some = absurd (omega arith)

pub once_in : (s : StateValue) (t : Table) (layouts : Layouts) → IsGroupOf s t layouts → s.group < length t.groups → (bucket : ℕ) → bucket < BUCKETS → IsOnce (bucket_list layouts s.group bucket)
once_in s t layouts is inside bucket small x =
    let b : Bool = eqb (x % BUCKETS) bucket && is_unlinked (inode_in (group_at t s.group) x) in
    let e : times x (bucket_list layouts s.group bucket) ≡ cond b 1 0 = is.layouts_of.buckets s.group bucket x inside small in
    omega (arith, few b, e)

-- a member is of the bucket, in use and without links
pub record IsMemberOf (s : StateValue) (t : Table) (bucket x : ℕ) : Type 0 where
  pub own : x % BUCKETS ≡ bucket
  pub unlinked : is_unlinked (inode_in (group_at t s.group) x) ≡ true

pub member_is : (s : StateValue) (t : Table) (layouts : Layouts) → IsGroupOf s t layouts → s.group < length t.groups → (bucket x : ℕ) → bucket < BUCKETS
    → Contains (bucket_list layouts s.group bucket) x → IsMemberOf s t bucket x
member_is s t layouts is inside bucket x small listed =
    let p : Bool = eqb (x % BUCKETS) bucket in
    let q : Bool = is_unlinked (inode_in (group_at t s.group) x) in
    let e : times x (bucket_list layouts s.group bucket) ≡ cond (p && q) 1 0 = is.layouts_of.buckets s.group bucket x inside small in
    let two = both p q (omega (arith, e, times_of_member (bucket_list layouts s.group bucket) x listed)) in
    record { own = eqb-true (x % BUCKETS) bucket two.0; unlinked = two.1 }

times_own : (s : StateValue) (t : Table) (layouts : Layouts) → IsGroupOf s t layouts → s.group < length t.groups → (x : ℕ) (b : Bool)
    → is_unlinked (inode_in (group_at t s.group) x) ≡ b → times x (bucket_list layouts s.group (x % BUCKETS)) ≡ cond b 1 0
times_own s t layouts is inside x b e =
    let small : x % BUCKETS < BUCKETS = omega arith in
    is.layouts_of.buckets s.group (x % BUCKETS) x inside small
    ∙ ap (λ (p : Bool). cond (p && is_unlinked (inode_in (group_at t s.group) x)) 1 0) (eq-eqb (x % BUCKETS) (x % BUCKETS) refl)
    ∙ ap (λ (q : Bool). cond (true && q) 1 0) e

pub listed_own : (s : StateValue) (t : Table) (layouts : Layouts) → IsGroupOf s t layouts → s.group < length t.groups → (x : ℕ)
    → is_unlinked (inode_in (group_at t s.group) x) ≡ true → Contains (bucket_list layouts s.group (x % BUCKETS)) x
listed_own s t layouts is inside x e = member_of_times (bucket_list layouts s.group (x % BUCKETS)) x (omega (arith, times_own s t layouts is inside x true e))

pub absent_own : (s : StateValue) (t : Table) (layouts : Layouts) → IsGroupOf s t layouts → s.group < length t.groups → (x : ℕ)
    → is_unlinked (inode_in (group_at t s.group) x) ≡ false → times x (bucket_list layouts s.group (x % BUCKETS)) ≡ 0
absent_own s t layouts is inside x e = times_own s t layouts is inside x false e

-- a number that is not in use without links points at the end
pub ends_elsewhere : (s : StateValue) (t : Table) (layouts : Layouts) → IsGroupOf s t layouts → s.group < length t.groups → (x : ℕ)
    → is_unlinked (inode_in (group_at t s.group) x) ≡ false → next_of layouts s.group x ≡ NO_INODE
ends_elsewhere s t layouts is inside x e = next_of_none (bucket_list layouts s.group (x % BUCKETS)) x (absent_own s t layouts is inside x e)

-- ---- what a core tells of its next pointer

core_for_next : (generation : ℕ) (row : Option Row) (next : ℕ) → (is_unlinked_row row ≡ false → next ≡ NO_INODE) → (core_for generation row next).next ≡ next
unfolding core_for
core_for_next generation None next ends = sym (ends refl)
core_for_next generation (Some row) next ends = refl

pub next_told : (layouts : Layouts) (group agino : ℕ) (core : Core) (o : Option Inode) → Some core ≡ core_told layouts group agino o
    → (is_unlinked o ≡ false → next_of layouts group agino ≡ NO_INODE) → core.next ≡ next_of layouts group agino
next_told layouts group agino core None told ends = cc
next_told layouts group agino core (Some inode) told ends =
    let same : core ≡ core_for inode.generation inode.row (next_of layouts group agino) = cc in
    ap (λ (c : Core). c.next) same ∙ core_for_next inode.generation inode.row (next_of layouts group agino) ends

pub end_told : (layouts : Layouts) (group agino : ℕ) (o : Option Inode) → None ≡ core_told layouts group agino o
    → (is_unlinked o ≡ false → next_of layouts group agino ≡ NO_INODE) → NO_INODE ≡ next_of layouts group agino
end_told layouts group agino None told ends = sym (ends refl)
end_told layouts group agino (Some inode) told ends = cc

-- ---- what a buffer tells of it

stands : ForksAreRead → (group generation next : ℕ) (uuid : List ℕ) (row : Option Row) → length uuid ≡ 16 → IsCore (core_for generation row next)
    → CanStand (core_for generation row next) uuid (fork group (runs (row_blocks row)))
unfolding core_for fork extent_records
stands forks group generation next uuid None wide allowed = record {
  allowed = allowed;
  wide = wide;
  long = forks.long group [] (omega arith);
  free = λ dead. refl;
}
stands forks group generation next uuid (Some row) wide allowed = record {
  allowed = allowed;
  wide = wide;
  long = forks.long group (runs row.blocks) (allowed.live refl).extents;
  free = λ dead. cc;
}

pub core_read : CoresAreRead → ForksAreRead → (group agino generation next : ℕ) (uuid bytes : List ℕ) (row : Option Row) → length uuid ≡ 16 → IsCore (core_for generation row next)
    → bytes ≡ inode_encoding (core_for generation row next) (number_in group agino) uuid group (row_blocks row) → core_in bytes ≡ core_for generation row next
unfolding inode_encoding
core_read cores forks group agino generation next uuid bytes row wide allowed same =
    let core : Core = core_for generation row next in
    let own : List ℕ = fork group (runs (row_blocks row)) in
    let stand = stands forks group generation next uuid row wide allowed in
    let long = ap (λ (b : List ℕ). length b) same ∙ cores.long core (number_in group agino) uuid own stand in
    cores.read bytes uuid (number_in group agino) core long wide
    (subst (λ (b : List ℕ). EncodesCore b (number_in group agino) uuid core) (sym same) (cores.encoded core (number_in group agino) uuid own stand))

-- ---- the laws that this rests on

abbrev pub PlacesStand : Type 0
PlacesStand = (g : Geometry) (t : Table) (layouts : Layouts) (image : List Sector) (group agino : ℕ) (inode : Inode) → CanEncode g t layouts image → group < g.groups
    → inode_in (group_at t group) agino ≡ Some inode → (FIRST_DATA_BLOCK * BLOCK_SECTORS ≤ agino) × (agino < group_sectors g)

pub record Lower : Type 0 where
  pub sectors : SectorsStand
  pub cores : CoresStand
  pub places : PlacesStand
  pub read : CoresAreRead
  pub forks : ForksAreRead

-- ---- the next pointers of a state

next_of_sector : Lower → (s : StateValue) (t : Table) (layouts : Layouts) (agino : ℕ) (inode : Inode) (sector : Sector) → IsGeometry s.geometry → s.group < s.geometry.groups → IsGroupOf s t layouts
    → inode_in (group_at t s.group) agino ≡ Some inode → sector.bytes ≡ incore_encoding s.group s.geometry.uuid agino (incore_for layouts s.group agino inode)
    → next_in_buffer (Some sector) ≡ (incore_for layouts s.group agino inode).core.next
next_of_sector l s t layouts agino inode sector shape inside is there same =
    let allowed = (encodes l.sectors l.cores s t layouts agino inode sector.bytes shape inside is there same).allowed in
    ap (λ (c : Core). c.next) (core_read l.read l.forks s.group agino inode.generation (next_of layouts s.group agino) s.geometry.uuid sector.bytes inode.row shape.uuid allowed same)

next_buffered : Lower → (s : StateValue) (t : Table) (layouts : Layouts) (agino : ℕ) (inode : Inode) (b : Option Sector) → IsGeometry s.geometry → s.group < s.geometry.groups → IsGroupOf s t layouts
    → inode_in (group_at t s.group) agino ≡ Some inode
    → IsSomeAnd b (λ sector. sector.bytes ≡ incore_encoding s.group s.geometry.uuid agino (incore_for layouts s.group agino inode))
    → next_in_buffer b ≡ (incore_for layouts s.group agino inode).core.next
next_buffered l s t layouts agino inode None shape inside is there has = absurd has
next_buffered l s t layouts agino inode (Some sector) shape inside is there has = next_of_sector l s t layouts agino inode sector shape inside is there has

pub clean_buffer : (b : Option Sector) (k : Option Kept) (bytes : List ℕ) → k ≡ None → IsSomeAnd b (λ sector. is_dirty k ≡ false → sector.bytes ≡ bytes) → IsSomeAnd b (λ sector. sector.bytes ≡ bytes)
clean_buffer None k bytes out has = has
clean_buffer (Some sector) k bytes out has = has (ap is_dirty out)

next_has : Lower → (s : StateValue) (t : Table) (layouts : Layouts) (agino : ℕ) (inode : Inode) (k : Option Kept) → IsGeometry s.geometry → s.group < s.geometry.groups → IsGroupOf s t layouts
    → inode_in (group_at t s.group) agino ≡ Some inode → kept_at s agino ≡ k
    → next_kept k (buffer_in s.buffers agino) ≡ (incore_for layouts s.group agino inode).core.next
next_has l s t layouts agino inode None shape inside is there at =
    next_buffered l s t layouts agino inode (buffer_in s.buffers agino) shape inside is there
    (clean_buffer (buffer_in s.buffers agino) (kept_at s agino) (incore_encoding s.group s.geometry.uuid agino (incore_for layouts s.group agino inode)) at (is.inodes agino inode there).buffer)
next_has l s t layouts agino inode (Some kept) shape inside is there at =
    let same = subst (λ (k : Option Kept). IfSome k (λ x. x.inode ≡ incore_for layouts s.group agino inode)) at (is.inodes agino inode there).in_core in
    ap (λ (i : Incore). i.core.next) same

next_by : Lower → (s : StateValue) (t : Table) (layouts : Layouts) (agino : ℕ) (o : Option Inode) → IsGeometry s.geometry → s.group < s.geometry.groups → IsGroupOf s t layouts → s.group < length t.groups
    → inode_in (group_at t s.group) agino ≡ o → next_kept (kept_at s agino) (buffer_in s.buffers agino) ≡ next_of layouts s.group agino
next_by l s t layouts agino None shape inside is within e =
    ap (λ (k : Option Kept). next_kept k (buffer_in s.buffers agino)) (is.only agino e)
    ∙ ap (λ (b : Option Sector). next_in_buffer b) (none_there (group_at t s.group) s.buffers agino (chunks_of t s.group is.table.groups) is.starts e)
    ∙ sym (ends_elsewhere s t layouts is within agino (ap is_unlinked e))
next_by l s t layouts agino (Some inode) shape inside is within e =
    next_has l s t layouts agino inode (kept_at s agino) shape inside is e refl
    ∙ core_for_next inode.generation inode.row (next_of layouts s.group agino) (λ unlisted. ends_elsewhere s t layouts is within agino (ap is_unlinked e ∙ unlisted))

pub next_shown : Lower → (s : StateValue) (t : Table) (layouts : Layouts) (agino : ℕ) → IsGeometry s.geometry → s.group < s.geometry.groups → IsGroupOf s t layouts → s.group < length t.groups
    → next_at s agino ≡ next_of layouts s.group agino
unfolding next_at
next_shown l s t layouts agino shape inside is within = next_by l s t layouts agino (inode_in (group_at t s.group) agino) shape inside is within refl

-- ---- the lists

low_of : Lower → (s : StateValue) (t : Table) (layouts : Layouts) (agino : ℕ) (o : Option Inode) → IsGeometry s.geometry → s.group < s.geometry.groups → IsGroupOf s t layouts
    → inode_in (group_at t s.group) agino ≡ o → IsSome o → agino < GROUP_NUMBERS
low_of l s t layouts agino None shape inside is e some = absurd (cc some)
low_of l s t layouts agino (Some inode) shape inside is e some =
    let place = l.places s.geometry t layouts (blank s.geometry) s.group agino inode (can_encode s t layouts shape is) inside e in
    omega (arith, place.1, shape.blocks.1)

pub unlinked_some : (o : Option Inode) → is_unlinked o ≡ true → IsSome o
unlinked_some None e = e
unlinked_some (Some inode) e = refl

bucket_shown : Lower → (s : StateValue) (t : Table) (layouts : Layouts) (bucket : ℕ) → IsGeometry s.geometry → s.group < s.geometry.groups → IsGroupOf s t layouts → s.group < length t.groups
    → bucket < BUCKETS → IsBucket (pointers_of s) bucket (bucket_list layouts s.group bucket)
bucket_shown l s t layouts bucket shape inside is within small =
    let members : List ℕ = bucket_list layouts s.group bucket in
    let heads : ℕ → ℕ = λ b. head_of (bucket_list layouts s.group b) in
    let head : slice_index s.heads bucket ≡ head_of members =
    ap (λ (hs : List ℕ). slice_index hs bucket) is.heads ∙ get_or-map-range_with_len heads 0 BUCKETS bucket bucket 0 small (zero-add bucket) in
    let chain : IsChain (next_at s) (head_of members) members NO_INODE =
    chain_of (next_at s) members (once_in s t layouts is within bucket small)
    (λ x listed.
    next_shown l s t layouts x shape inside is within
    ∙ ap (λ (b : ℕ). next_in (bucket_list layouts s.group b) x) (member_is s t layouts is within bucket x small listed).own) in
    record {
      chain = subst (λ (from : ℕ). IsChain (next_at s) from members NO_INODE) (sym head) chain;
      placed = all_from (Contains (numbers_below GROUP_NUMBERS)) members (λ x listed.
          let unlinked = (member_is s t layouts is within bucket x small listed).unlinked in
          numbers_have GROUP_NUMBERS x (low_of l s t layouts x (inode_in (group_at t s.group) x) shape inside is refl (unlinked_some (inode_in (group_at t s.group) x) unlinked)));
      own = all_from (λ (x : ℕ). x % BUCKETS ≡ bucket) members (λ x listed. (member_is s t layouts is within bucket x small listed).own);
    }

pub lists_shown : Lower → (s : StateValue) (t : Table) (layouts : Layouts) → IsGeometry s.geometry → s.group < s.geometry.groups → IsGroupOf s t layouts → ShowsLists s t layouts
lists_shown l s t layouts shape inside is =
    let within : s.group < length t.groups = omega (arith, is.groups, inside) in
    let heads : ℕ → ℕ = λ b. head_of (bucket_list layouts s.group b) in
    record {
      inside = within;
      low = λ agino some. low_of l s t layouts agino (inode_in (group_at t s.group) agino) shape inside is refl some;
      buckets = record {
        heads = ap (λ (hs : List ℕ). length hs) is.heads ∙ length-map-range_with_len heads 0 BUCKETS;
        count = is.layouts_of.lists s.group within;
        each = λ bucket small. subst (IsBucket (pointers_of s) bucket) (list_is layouts s.group bucket) (bucket_shown l s t layouts bucket shape inside is within small);
        no_mark = λ listed. let low = numbers_are GROUP_NUMBERS NO_INODE listed in omega (arith, low);
      };
      nexts = λ agino. next_shown l s t layouts agino shape inside is within;
    }
