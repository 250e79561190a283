-- What a store leaves that brought its commits home.
use Rattle.std.proofs.Common.{◌≡◌, ℕ, ◌+◌, Bool, List, [], length, sym, subst, arith}
use Rattle.std.specs.Prelude.{IsTrue}
use Rattle.life_bytes.specs.declared.sector.Sector.{Sector}
use Rattle.disk_model.specs.Disk.{Cell, Elapses, IsImage}
use Rattle.disk_model.specs.DiskLaws.{Elapses-weaker}
use Rattle.geometry.specs.declared.shape.Geometry.{Geometry}
use Rattle.geometry.specs.Places.{anchor_of}
use Rattle.life_table.specs.declared.table.Table.{Table}
use Rattle.life_table.specs.History.{closed}
use Rattle.log_store.specs.declared.store.Store.{Store}
use Rattle.log_store.specs.OnDisk.{HasCover, ReplaysTo, ReplaysUpTo}
use Rattle.log_store.specs.State.{State, state_of}
use Rattle.log_store.specs.Steps.{Goes, Moves}
use Rattle.sound_image.specs.Encoding.{Layouts}
use Rattle.whole_image.specs.Represents.{Represents}
use Rattle.commit_history.specs.Carried.{CommitsCarry}
use Rattle.mount.specs.Ending.{IsStoreOf, IsWholeLeft}
use Rattle.mount.specs.Prefixes.{IsPrefixLeft}

-- the laws of calls of a store
pub record Laws : Type 0 where
  pub same : (g : Geometry) (t : Table) (layouts : Layouts) (head : ℕ) (s : State) (cells : List Cell) (image : List Sector) → IsStoreOf g t layouts s cells
      → ReplaysUpTo head s cells image → IsPrefixLeft g t layouts s.list (s.durable + 1) image
  pub earlier : (known : Bool) (g : Geometry) (t : Table) (layouts : Layouts) (head : ℕ) (s new : State) (cells after : List Cell) (image : List Sector) → IsTrue known
      → Moves known s new cells after → IsStoreOf g t layouts s cells → ReplaysUpTo head new after image → IsPrefixLeft g t layouts s.list (s.durable + 1) image
  pub all : (known : Bool) (g : Geometry) (t u : Table) (layouts others : Layouts) (head : ℕ) (s new : State) (cells after : List Cell) (image : List Sector) → IsTrue known
      → Moves known s new cells after → IsStoreOf g t layouts s cells → ReplaysUpTo head new after image → new.list ≡ [] → CommitsCarry g t layouts s.list u others
      → Represents image (closed u) (s.durable + 1 + length s.list)

pub moments_left : Laws → {D : Type 0} (known : Bool) (cells : D → List Cell) (count moment : D → ℕ) (left : D → ℕ → List Sector → Type 0) (old new : Store D) (disk : D) → disk ≡ new.disk
    → Goes known cells count moment left old new → IsTrue known → (g : Geometry) (t : Table) (layouts : Layouts) → IsStoreOf g t layouts (state_of old) (cells old.disk)
    → Elapses (moment old.disk) (moment disk) (left old.disk) (left disk) (IsPrefixLeft g t layouts old.queue.items (old.durable + 1))
moments_left laws {D} known cells count moment left old new disk is goes tells g t layouts of =
    subst (λ (d : D). Elapses (moment old.disk) (moment d) (left old.disk) (left d) (IsPrefixLeft g t layouts old.queue.items (old.durable + 1))) (sym is)
    (Elapses-weaker (moment old.disk) (moment new.disk) (left old.disk) (left new.disk) (ReplaysUpTo new.positions.head (state_of old) (cells old.disk))
    (IsPrefixLeft g t layouts old.queue.items (old.durable + 1)) (λ image replays. laws.same g t layouts new.positions.head (state_of old) (cells old.disk) image of replays) (goes.moments tells))

pub images_left : Laws → {D : Type 0} (known : Bool) (cells : D → List Cell) (count moment : D → ℕ) (left : D → ℕ → List Sector → Type 0) (old new : Store D) (disk : D) → disk ≡ new.disk
    → Goes known cells count moment left old new → ((image : List Sector) → IsImage (cells new.disk) image → ReplaysTo (state_of new) (cells new.disk) image) → IsTrue known
    → (g : Geometry) (t : Table) (layouts : Layouts) (image : List Sector) → IsStoreOf g t layouts (state_of old) (cells old.disk)
    → IsImage (cells disk) image → IsPrefixLeft g t layouts old.queue.items (old.durable + 1) image
images_left laws {D} known cells count moment left old new disk is goes replays tells g t layouts image of on =
    laws.earlier known g t layouts new.positions.head (state_of old) (state_of new) (cells old.disk) (cells new.disk) image tells goes.moves of
    (replays image (subst (λ (d : D). IsImage (cells d) image) is on))

pub whole_left : Laws → {D : Type 0} (known : Bool) (cells : D → List Cell) (count moment : D → ℕ) (left : D → ℕ → List Sector → Type 0) (old new : Store D) (disk : D) → disk ≡ new.disk
    → Goes known cells count moment left old new → ((image : List Sector) → IsImage (cells new.disk) image → ReplaysTo (state_of new) (cells new.disk) image) → new.queue.items ≡ []
    → ((image : List Sector) → IsImage (cells new.disk) image → (position : ℕ) × HasCover old.anchor old.ring position (old.durable + length old.queue.items + 1) image) → IsTrue known
    → (g : Geometry) (t : Table) (layouts : Layouts) → IsStoreOf g t layouts (state_of old) (cells old.disk)
    → (image : List Sector) → IsImage (cells disk) image → IsWholeLeft g t layouts old.queue.items (old.durable + 1) image
whole_left laws {D} known cells count moment left old new disk is goes replays none cover tells g t layouts of image on =
    let here : IsImage (cells new.disk) image = subst (λ (d : D). IsImage (cells d) image) is on in
    let at = cover image here in
    let number : old.durable + length old.queue.items + 1 ≡ old.durable + 1 + length old.queue.items = omega arith in
    record {
      position = at.0;
      cover = subst (λ (n : ℕ). HasCover (anchor_of g) g.ring at.0 n image) number
          (subst (λ (n : ℕ). HasCover (anchor_of g) n at.0 (old.durable + length old.queue.items + 1) image) of.ring
          (subst (λ (n : ℕ). HasCover n old.ring at.0 (old.durable + length old.queue.items + 1) image) of.anchor at.1));
      represents = λ u others carried. laws.all known g t u layouts others new.positions.head (state_of old) (state_of new) (cells old.disk) (cells new.disk) image tells goes.moves of
          (replays image here) none carried;
    }
