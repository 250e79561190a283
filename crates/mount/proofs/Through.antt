-- What a mount comes to behind calls that were made before.
use Rattle.std.proofs.Common.{◌≡◌, ◌≤◌, ℕ, Bool, List, Option, None, Some, Result, Ok, Err, length, refl, sym, subst, ◌∙◌, inl, inr, arith}
use Rattle.std.specs.Prelude.{IsTrue, IfOk, IfErr, IsSomeAnd, OnOk}
use Rattle.life_bytes.specs.declared.sector.Sector.{Sector}
use Rattle.life_ports.specs.Faults.{NeverFalls}
use Rattle.disk_model.specs.Disk.{Arming, Cell, Elapses, IsAfterWrites, IsImage, as_read}
use Rattle.disk_model.specs.DiskLaws.{Elapses-both, Elapses-weaker, IsAfterWrites-both, IsAfterWrites-none}
use Rattle.disk_model.specs.View.{OnlyRead}
use Rattle.geometry.specs.declared.shape.Geometry.{Geometry}
use Rattle.geometry.specs.Places.{anchor_of}
use Rattle.life_table.specs.declared.types.MountRecord.{MountRecord}
use Rattle.life_table.specs.declared.table.Table.{Table}
use Rattle.log_image.specs.Log.{groups_part}
use Rattle.recovery.specs.declared.start.Start.{Start}
use Rattle.sound_image.specs.Encoding.{Layouts}
use Rattle.whole_image.specs.Damage.{IsSound}
use Rattle.commit_history.specs.Carried.{IsEncoding}
use Rattle.group_ops.specs.Loading.{IsLoadCause, IsNoDamage}
use Rattle.group_ops.specs.Values.{StateValue}
use Rattle.group_ops.specs.declared.fault.LoadFault.{LoadFault}
use Rattle.group_ops.specs.declared.fault.LoadFault.TheVariants as load
use Rattle.orphan_frees.specs.Loaded.{AreGroupsOf}
use Rattle.orphan_frees.specs.Order.{keys_to_free}
use Rattle.mount.specs.Coming.{Comes, ComesTo, IsClean, IsDownOver, IsLateFault, LeftByBegin, LeftByRise}
use Rattle.mount.specs.Faults.{IsDeviceCause, IsMountCause, of_load}
use Rattle.mount.specs.Images.{HasFreed, IsImageOf, IsLeftInMount, IsOnTheWay}
use Rattle.mount.specs.Mounts.{ArmsDown, IsBegun, IsBegunOver, IsLeftDown, IsMountOf, disk_of}
use Rattle.mount.specs.Positions.{ArePositionsUsedUp}
use Rattle.mount.specs.Recovered.{IsRecovered}
use Rattle.mount.specs.Same.{IsLeftBy, RepresentSame}
use Rattle.mount.specs.declared.fault.MountFault.{MountFault}
use Rattle.mount.specs.declared.fault.MountFault.TheVariants.{Damaged, ReadFault, WriteFault, FlushFault, PositionEnd, NoMemory}
use Rattle.mount.specs.declared.mounted.Mounted.{Mounted}
use Rattle.mount.specs.declared.mounted.NotMounted.{NotMounted}
use Rattle.mount.proofs.Bringing.{rose_later}
use Rattle.mount.proofs.Nothing.{clean_image}

-- ---- faults

pub late_load : (fault : LoadFault) → IsNoDamage fault → IsLateFault (of_load fault)
late_load (load.Damaged rule sector) is = is
late_load load.ReadFault is = tt
late_load load.NoMemory is = tt

pub device_load : (fault : LoadFault) (before now : ℕ) → IsLoadCause before now fault → IsDeviceCause before now (of_load fault)
device_load (load.Damaged rule sector) before now is = tt
device_load load.ReadFault before now is = is
device_load load.NoMemory before now is = tt

device_later : (before mid now : ℕ) (fault : MountFault) → before ≤ mid → IsDeviceCause mid now fault → IsDeviceCause before now fault
device_later before mid now (Damaged rule sector) le is = tt
device_later before mid now NoMemory le is = tt
device_later before mid now PositionEnd le is = tt
device_later before mid now ReadFault le is = rose_later before mid now le is
device_later before mid now WriteFault le is = rose_later before mid now le is
device_later before mid now FlushFault le is = rose_later before mid now le is

late_cause : (image : List Sector) (fault : MountFault) → IsSound image → ¬ ArePositionsUsedUp image → IsLateFault fault → IsMountCause image fault
late_cause image (Damaged rule sector) sound unused late = absurd late
late_cause image PositionEnd sound unused late = absurd late
late_cause image ReadFault sound unused late = tt
late_cause image NoMemory sound unused late = tt
late_cause image WriteFault sound unused late = (sound, unused)
late_cause image FlushFault sound unused late = sound

-- ---- whatever tells of the disk

device_before : {D : Type 0} (faults : D → ℕ) (before mid : ℕ) (result : Result (Mounted D) (NotMounted D)) → before ≤ mid
    → IfErr result (λ (down : NotMounted D). IsDeviceCause mid (faults down.disk) down.fault) → IfErr result (λ (down : NotMounted D). IsDeviceCause before (faults down.disk) down.fault)
device_before faults before mid (Ok mounted) le is = is
device_before faults before mid (Err down) le is = device_later before mid (faults down.disk) down.fault le is

pub comes_behind : {D : Type 0} (known : Bool) (cells : D → List Cell) (count faults : D → ℕ) (arming : D → Arming) (old mid : D) (result : Result (Mounted D) (NotMounted D))
    → count mid ≡ count old → NeverFalls (faults old) (faults mid) → IsAfterWrites (arming old) (arming mid) → Comes known cells count faults arming mid result
    → Comes known cells count faults arming old result
comes_behind known cells count faults arming old mid result sectors falls writes comes = record {
  up = comes.up;
  begun = comes.begun;
  device = device_before faults (faults old) (faults mid) result falls comes.device;
  count = omega (arith, falls, comes.count);
  sectors = comes.sectors ∙ sectors;
  writes = IsAfterWrites-both (arming old) (arming mid) (arming (disk_of result)) writes comes.writes;
}

pub no_writes : (old new : Arming) → new ≡ old → IsAfterWrites old new
no_writes old new same = subst (λ (a : Arming). IsAfterWrites old a) (sym same) (IsAfterWrites-none old)

-- ---- behind the load

pub clean_still : (g : Geometry) (t : Table) (layouts : Layouts) (start : Start) (old new : List Cell) → new ≡ old → IsClean g t layouts start old → IsClean g t layouts start new
clean_still g t layouts start old new same clean = subst (λ (c : List Cell). IsClean g t layouts start c) (sym same) clean

pub moments_read : {D : Type 0} (known : Bool) (cells : D → List Cell) (count faults : D → ℕ) (arming : D → Arming) (moment : D → ℕ) (left : D → ℕ → List Sector → Type 0) (g : Geometry)
    (start : Start) (old mid new : D) → new ≡ mid → OnlyRead known cells count faults arming moment left old mid → IsTrue known
    → Elapses (moment old) (moment new) (left old) (left new) (LeftByRise g start (cells old))
moments_read {D} known cells count faults arming moment left g start old mid new same reads tells =
    subst (λ (d : D). Elapses (moment old) (moment d) (left old) (left d) (LeftByRise g start (cells old))) (sym same)
    (Elapses-weaker (moment old) (moment mid) (left old) (left mid) (IsImage (cells old)) (LeftByRise g start (cells old))
    (λ image on t layouts clean. clean_image g t layouts start (cells old) image clean on (length (keys_to_free t layouts))) (reads.time tells))

pub moments_loaded : {D : Type 0} (known : Bool) (cells : D → List Cell) (count faults : D → ℕ) (arming : D → Arming) (moment : D → ℕ) (left : D → ℕ → List Sector → Type 0) (g : Geometry)
    (start : Start) (old mid new : D) (states : List StateValue) → OnlyRead known cells count faults arming moment left old mid → IsTrue known
    → ((t : Table) (layouts : Layouts) → IsEncoding g t layouts (groups_part (anchor_of g) (as_read (cells old))) → AreGroupsOf g t layouts states)
    → Elapses (moment mid) (moment new) (left mid) (left new) (LeftByBegin g start (cells mid) states)
    → Elapses (moment old) (moment new) (left old) (left new) (LeftByRise g start (cells old))
moments_loaded known cells count faults arming moment left g start old mid new states reads tells told time =
    Elapses-both (moment old) (moment mid) (moment new) (left old) (left mid) (left new) (LeftByRise g start (cells old))
    (moments_read known cells count faults arming moment left g start old mid mid refl reads tells)
    (Elapses-weaker (moment mid) (moment new) (left mid) (left new) (LeftByBegin g start (cells mid) states) (LeftByRise g start (cells old))
    (λ image is t layouts clean. is t layouts (clean_still g t layouts start (cells old) (cells mid) reads.cells_stay clean) (told t layouts clean.encodes)) time)

-- ---- behind the recovery

-- the image before, with the table and the layouts that a recovery found
recovered_image : (old : List Sector) (g : Geometry) (start : Start) (cells : List Cell) → (r : IsRecovered old g start cells) → IsImageOf g r.table r.layouts start.next_commit old
recovered_image old g start cells r = record {
  represents = r.was;
  log = r.log;
  front = r.front;
  encodes = subst (IsEncoding g r.table r.layouts) r.groups r.encodes;
}

-- the law of recovered disks
abbrev pub CleanLaw : Type 0
CleanLaw = (g h : Geometry) (t : Table) (layouts : Layouts) (next : ℕ) (old : List Sector) (start : Start) (cells : List Cell) → IsImageOf g t layouts next old
    → IsRecovered old h start cells → (h ≡ g) × (start.next_commit ≡ next) × IsClean g t layouts start cells

-- what comes to be of the table of a clean disk
abbrev pub EachComes : {D : Type 0} → (D → List Cell) → Geometry → Start → List Cell → Result (Mounted D) (NotMounted D) → Type 0
EachComes cells g start clean result = (t : Table) (layouts : Layouts) → IsClean g t layouts start clean → ComesTo cells g t layouts start.next_commit result

pub comes_over : CleanLaw → {D : Type 0} (cells : D → List Cell) (old : List Sector) (h : Geometry) (start : Start) (clean : List Cell) (result : Result (Mounted D) (NotMounted D))
    → IsRecovered old h start clean → EachComes cells h start clean result → (g : Geometry) (t : Table) (layouts : Layouts) (next : ℕ) → IsImageOf g t layouts next old
    → ComesTo cells g t layouts next result
comes_over law cells old h start clean result r each g t layouts next is =
    let all = law g h t layouts next old start clean is r in
    let here : ComesTo cells h t layouts start.next_commit result = each t layouts (subst (λ (x : Geometry). IsClean x t layouts start clean) (sym all.0) all.2) in
    subst (λ (n : ℕ). ComesTo cells g t layouts n result) all.1 (subst (λ (x : Geometry). ComesTo cells x t layouts start.next_commit result) all.0 here)

pub up_over : {D : Type 0} (cells : D → List Cell) (g : Geometry) (t : Table) (layouts : Layouts) (next : ℕ) (result : Result (Mounted D) (NotMounted D)) → ComesTo cells g t layouts next result
    → IfOk result (IsMountOf cells g t layouts next)
up_over cells g t layouts next (Ok mounted) is = is
up_over cells g t layouts next (Err down) is = tt

pub if_ok : {A E : Type 0} (P : Type 0) (result : Result A E) → P → OnOk result P
if_ok P (Ok x) p = p
if_ok P (Err e) p = tt

begun_over : (t : Table) (layouts : Layouts) (next : ℕ) (fault : MountFault) (story : MountRecord) (cells : List Cell) → IsDownOver t layouts next fault story cells
    → IsBegunOver t layouts next story cells
begun_over t layouts next fault story cells is = is.begun

left_over : (begun : Option MountRecord) (fault : MountFault) (old new : List Cell) → IsSound (as_read old)
    → ((g : Geometry) (t : Table) (layouts : Layouts) (next : ℕ) → IsImageOf g t layouts next (as_read old) → IsSomeAnd begun (λ story. IsDownOver t layouts next fault story new))
    → IsSomeAnd begun (λ story. IsBegun (Some story)) → IsLeftDown begun fault old new
left_over None fault old new sound over some = absurd some
left_over (Some story) fault old new sound over some = (sound, λ g t layouts next is. begun_over t layouts next fault story new (over g t layouts next is))

pub down_left : {D : Type 0} (cells : D → List Cell) (old : D) (result : Result (Mounted D) (NotMounted D)) → IsSound (as_read (cells old))
    → ((g : Geometry) (t : Table) (layouts : Layouts) (next : ℕ) → IsImageOf g t layouts next (as_read (cells old)) → ComesTo cells g t layouts next result)
    → IfErr result (λ (down : NotMounted D). IsSomeAnd down.begun (λ story. IsBegun (Some story)))
    → IfErr result (λ (down : NotMounted D). IsLeftDown down.begun down.fault (cells old) (cells down.disk))
down_left cells old (Ok mounted) sound over some = tt
down_left cells old (Err down) sound over some = left_over down.begun down.fault (cells old) (cells down.disk) sound over some

late_of : (begun : Option MountRecord) (t : Table) (layouts : Layouts) (next : ℕ) (fault : MountFault) (cells : List Cell) → IsSomeAnd begun (λ story. IsDownOver t layouts next fault story cells)
    → IsLateFault fault
late_of None t layouts next fault cells is = absurd is
late_of (Some story) t layouts next fault cells is = is.late

pub down_cause : {D : Type 0} (cells : D → List Cell) (old : List Sector) (g : Geometry) (start : Start) (clean : List Cell) (result : Result (Mounted D) (NotMounted D))
    → (r : IsRecovered old g start clean) → ¬ ArePositionsUsedUp old
    → ((h : Geometry) (t : Table) (layouts : Layouts) (next : ℕ) → IsImageOf h t layouts next old → ComesTo cells h t layouts next result)
    → IfErr result (λ (down : NotMounted D). IsMountCause old down.fault)
down_cause cells old g start clean (Ok mounted) r unused over = tt
down_cause cells old g start clean (Err down) r unused over =
    late_cause old down.fault r.was.sound unused
    (late_of down.begun r.table r.layouts start.next_commit down.fault (cells down.disk) (over g r.table r.layouts start.next_commit (recovered_image old g start clean r)))

begun_is : (begun : Option MountRecord) → IsSomeAnd begun (λ story. IsBegun (Some story)) → IsBegun begun
begun_is None is = tt
begun_is (Some story) is = is

pub down_begun : {D : Type 0} (result : Result (Mounted D) (NotMounted D)) → IfErr result (λ (down : NotMounted D). IsSomeAnd down.begun (λ story. IsBegun (Some story)))
    → IfErr result (λ (down : NotMounted D). IsBegun down.begun)
down_begun (Ok mounted) is = tt
down_begun (Err down) is = begun_is down.begun is

arms_some : (begun : Option MountRecord) (fault : MountFault) (old new : Arming) → IsSomeAnd begun (λ story. IsBegun (Some story)) → IsAfterWrites old new → ArmsDown begun fault old new
arms_some None fault old new some is = absurd some
arms_some (Some story) fault old new some is = is

pub down_arms : {D : Type 0} (arming : D → Arming) (old : Arming) (result : Result (Mounted D) (NotMounted D)) → IfErr result (λ (down : NotMounted D). IsSomeAnd down.begun (λ story. IsBegun (Some story)))
    → IsAfterWrites old (arming (disk_of result)) → IfErr result (λ (down : NotMounted D). ArmsDown down.begun down.fault old (arming down.disk))
down_arms arming old (Ok mounted) some is = tt
down_arms arming old (Err down) some is = arms_some down.begun down.fault old (arming down.disk) some is

pub up_arms : {D : Type 0} (arming : D → Arming) (old : Arming) (result : Result (Mounted D) (NotMounted D)) → IsAfterWrites old (arming (disk_of result))
    → IfOk result (λ (mounted : Mounted D). IsAfterWrites old (arming mounted.store.disk))
up_arms arming old (Ok mounted) is = is
up_arms arming old (Err down) is = tt

-- ---- moments

pub left_weaker : (cells : List Cell) → ((image : List Sector) → RepresentSame (as_read cells) image → IsOnTheWay (as_read cells) image) → (image : List Sector) → IsLeftBy cells image
    → IsLeftInMount cells image
left_weaker cells law image left = elim left [ inl before ↦ inl before | inr same ↦ inr (law image same) ]

on_the_way : CleanLaw → (old : List Sector) (h : Geometry) (start : Start) (clean : List Cell) → IsRecovered old h start clean → (image : List Sector) → LeftByRise h start clean image
    → IsOnTheWay old image
on_the_way law old h start clean r image left = record {
  sound = r.was.sound;
  freed = λ g t layouts next is.
      let all = law g h t layouts next old start clean is r in
      subst (λ (n : ℕ). HasFreed t layouts n (length (keys_to_free t layouts)) image) all.1
      (left t layouts (subst (λ (x : Geometry). IsClean x t layouts start clean) (sym all.0) all.2));
}

pub moments_mounted : CleanLaw → {D : Type 0} (cells : D → List Cell) (moment : D → ℕ) (left : D → ℕ → List Sector → Type 0) (old mid new : D) (h : Geometry) (start : Start)
    → ((image : List Sector) → RepresentSame (as_read (cells old)) image → IsOnTheWay (as_read (cells old)) image) → IsRecovered (as_read (cells old)) h start (cells mid)
    → Elapses (moment old) (moment mid) (left old) (left mid) (IsLeftBy (cells old)) → Elapses (moment mid) (moment new) (left mid) (left new) (LeftByRise h start (cells mid))
    → Elapses (moment old) (moment new) (left old) (left new) (IsLeftInMount (cells old))
moments_mounted law cells moment left old mid new h start same r first second =
    Elapses-both (moment old) (moment mid) (moment new) (left old) (left mid) (left new) (IsLeftInMount (cells old))
    (Elapses-weaker (moment old) (moment mid) (left old) (left mid) (IsLeftBy (cells old)) (IsLeftInMount (cells old)) (left_weaker (cells old) same) first)
    (Elapses-weaker (moment mid) (moment new) (left mid) (left new) (LeftByRise h start (cells mid)) (IsLeftInMount (cells old))
    (λ image is. inr (on_the_way law (as_read (cells old)) h start (cells mid) r image is)) second)
