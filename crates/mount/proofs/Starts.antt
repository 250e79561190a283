-- Stores that have just begun, with nothing in their list or with the commits of frees.
use Rattle.std.proofs.Common.{◌≡◌, ◌≤◌, ◌<◌, ◌+◌, ℕ, Bool, List, get_or, sym, ap, subst, ◌∙◌, arith}
use Rattle.std.proofs.lemmas.List.{get_or-take}
use Rattle.life_bytes.specs.declared.sector.Sector.{Sector}
use Rattle.life_bytes.specs.Sectors.{zero_sector}
use Rattle.disk_model.specs.Disk.{Cell, as_read}
use Rattle.geometry.specs.declared.shape.Geometry.{Geometry}
use Rattle.geometry.specs.Places.{anchor_of}
use Rattle.geometry.specs.Shape.{IsGeometry}
use Rattle.life_limits.specs.declared.TheConstants.{MOUNT_LIMIT}
use Rattle.life_table.specs.declared.table.Table.{Table}
use Rattle.log_record.specs.declared.image.Commit.{Commit}
use Rattle.log_record.specs.declared.image.Image.{Image}
use Rattle.log_image.specs.Log.{groups_part}
use Rattle.log_image.specs.Overlay.{overlaid}
use Rattle.log_image.specs.OverlayLaws.{overlaid-none}
use Rattle.log_store.specs.declared.store.Store.{Store}
use Rattle.log_store.specs.OnDisk.{base_of}
use Rattle.log_store.specs.State.{State, state_of}
use Rattle.log_store.specs.Steps.{IsNew, IsStore}
use Rattle.recovery.specs.declared.start.Start.{Start}
use Rattle.sound_image.specs.Encoding.{Layouts}
use Rattle.commit_history.specs.Carried.{IsEncoding}
use Rattle.mount.specs.Coming.{IsAtStart, IsClean}
use Rattle.mount.specs.Ending.{IsStoreOf}
use Rattle.mount.proofs.Firsts.{same_superblock, some_sectors}

-- the list counts for nothing in what a store's base encodes
pub store_still : (g : Geometry) (t : Table) (layouts : Layouts) (s new : State) (list : List Commit) (cells after : List Cell) → new ≡ record s { list = list } → after ≡ cells
    → IsStoreOf g t layouts s cells → IsStoreOf g t layouts new after
store_still g t layouts s new list cells after same stays of =
    let here : IsStoreOf g t layouts (record s { list = list }) cells = record { anchor = of.anchor; ring = of.ring; superblock = of.superblock; encodes = of.encodes } in
    subst (λ (c : List Cell). IsStoreOf g t layouts new c) (sym stays) (subst (λ (x : State). IsStoreOf g t layouts x cells) (sym same) here)

pub start_still : {D : Type 0} (known : Bool) (cells : D → List Cell) (count : D → ℕ) (g : Geometry) (base : ℕ) (old new : Store D) (list : List Commit)
    → state_of new ≡ record (state_of old) { list = list } → new.job ≡ old.job → IsStore known cells count new → IsAtStart known cells count g base old → IsAtStart known cells count g base new
start_still known cells count g base old new list same job is start = record {
  store_is = is;
  shape = start.shape;
  place = (ap (λ (s : State). s.anchor) same ∙ start.place.0, ap (λ (s : State). s.ring) same ∙ start.place.1);
  rests = (job ∙ start.rests.0, ap (λ (s : State). s.stage) same ∙ start.rests.1);
  durable = ap (λ (s : State). s.durable + 1) same ∙ start.durable;
  number = start.number;
  position = (omega (arith, ap (λ (s : State). s.head) same, start.position.0), ap (λ (s : State). s.tail) same ∙ start.position.1 ∙ sym (ap (λ (s : State). s.head) same));
}

pub start_new : {D : Type 0} (known : Bool) (cells : D → List Cell) (count : D → ℕ) (g : Geometry) (disk : D) (position next : ℕ) (store : Store D) → IsStore known cells count store
    → IsNew disk (anchor_of g) g.ring position next store → IsGeometry g → position < MOUNT_LIMIT → (1 ≤ next) × (next < MOUNT_LIMIT) → IsAtStart known cells count g next store
start_new known cells count g disk position next store is new shape low number = record {
  store_is = is;
  shape = shape;
  place = new.places;
  rests = (new.job, new.stage);
  durable = new.durable;
  number = number;
  position = (omega (arith, low, new.positions.0), new.positions.1 ∙ sym new.positions.0);
}

-- a new store's base is the disk as it reads
pub store_of_clean : {D : Type 0} (cells : D → List Cell) (g : Geometry) (t : Table) (layouts : Layouts) (start : Start) (disk : D) (next : ℕ) (store : Store D)
    → IsNew disk (anchor_of g) g.ring start.position next store → IsClean g t layouts start (cells disk) → IsStoreOf g t layouts (state_of store) (cells store.disk)
store_of_clean {D} cells g t layouts start disk next store new clean =
    let image : List Sector = as_read (cells disk) in
    let base : base_of (state_of store) (cells store.disk) ≡ groups_part (anchor_of g) image =
    ap (λ (images : List Image). overlaid (groups_part store.anchor (as_read (cells store.disk))) images) new.dirty
    ∙ overlaid-none (groups_part store.anchor (as_read (cells store.disk)))
    ∙ ap (λ (n : ℕ). groups_part n (as_read (cells store.disk))) new.places.0
    ∙ ap (λ (d : D). groups_part (anchor_of g) (as_read (cells d))) new.disk_is in
    let first : get_or (groups_part (anchor_of g) image) 0 zero_sector ≡ get_or image 0 zero_sector =
    get_or-take (anchor_of g) image 0 zero_sector (some_sectors g clean.superblock.shape) in
    record {
      anchor = new.places.0;
      ring = new.places.1;
      superblock = same_superblock g image (base_of (state_of store) (cells store.disk)) (ap (λ (l : List Sector). get_or l 0 zero_sector) base ∙ first) clean.superblock;
      encodes = subst (IsEncoding g t layouts) (sym base) clean.encodes;
    }
