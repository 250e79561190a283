-- A mount that came up, as one on which calls go on.
use Rattle.std.proofs.Common.{◌≡◌, ◌+◌, ℕ, Bool, List, length, take, refl, ap, sym, subst, ◌∙◌, arith}
use Rattle.std.specs.Prelude.{IsTrue}
use Rattle.std.proofs.Math.Seq.{take-length}
use Rattle.life_limits.specs.declared.TheConstants.{MAX_ACTORS}
use Rattle.life_bytes.specs.declared.sector.Sector.{Sector}
use Rattle.disk_model.specs.Disk.{Cell}
use Rattle.geometry.specs.declared.shape.Geometry.{Geometry}
use Rattle.log_store.specs.State.{state_of}
use Rattle.life_table.specs.declared.key.Key.{Key}
use Rattle.life_table.specs.declared.table.Table.{Table}
use Rattle.life_table.specs.History.{LegalHistory, closed, frees_of, recovered}
use Rattle.sound_image.specs.Encoding.{CanEncode, Layouts}
use Rattle.orphan_frees.specs.Loaded.{AreGroupsOf}
use Rattle.orphan_frees.specs.Order.{freed_all, keys_to_free, unlisted_all}
use Rattle.mount.specs.Ending.{IsStoreOf}
use Rattle.mount.specs.Mounts.{IsStoryOf, IsUp, states_of}
use Rattle.mount.specs.declared.mounted.Mounted.{Mounted}
use Rattle.mounted_calls.specs.Fresh.{IsFreshMount}
use Rattle.mounts_in_runs.proofs.Freeing.{AreLegal, FreesAll}

-- what the law says of tables that nobody holds
abbrev pub StayUnheld : Type 0
StayUnheld = (t : Table) (keys : List Key) → closed t ≡ t → closed (freed_all t keys) ≡ freed_all t keys

pub fresh_mount : {D : Type 0} → AreLegal → FreesAll → StayUnheld → (known : Bool) (cells : D → List Cell) (sector_count : D → ℕ) (t : Table) (layouts : Layouts) (sectors : List Sector) (m : Mounted D)
    → IsUp known cells sector_count m → CanEncode m.geometry t layouts sectors → closed t ≡ t → IsStoryOf m.story.base (keys_to_free t layouts) (length (keys_to_free t layouts)) m.story
    → AreGroupsOf m.geometry (recovered t) (unlisted_all layouts (keys_to_free t layouts)) (states_of m.groups.items)
    → (IsTrue known → IsStoreOf m.geometry (recovered t) (unlisted_all layouts (keys_to_free t layouts)) (state_of m.store) (cells m.store.disk))
    → IsFreshMount known m.geometry t (unlisted_all layouts (keys_to_free t layouts)) (keys_to_free t layouts) m.story m.groups.items (state_of m.store) (cells m.store.disk)
fresh_mount legal all stay known cells sector_count t layouts sectors m up can shut story groups base =
    let keys : List Key = keys_to_free t layouts in
    let end : freed_all t keys ≡ recovered t = all m.geometry t layouts sectors can shut in
    let here = legal m.geometry t layouts sectors MAX_ACTORS (length keys) can shut in
    let at : LegalHistory t (frees_of MAX_ACTORS keys) (freed_all t keys) = subst (λ (l : List Key). LegalHistory t (frees_of MAX_ACTORS l) (freed_all t l)) (take-length keys) here in
    let durable = up.durable in
    let freed = story.freed in
    record {
      table = can.table;
      unheld = subst (λ (u : Table). closed u ≡ u) end (stay t keys shut);
      legal = subst (λ (u : Table). LegalHistory t (frees_of MAX_ACTORS keys) u) end at;
      told = record { freed = story.freed; entries = story.entries; froms = story.froms; acknowledged = story.acknowledged_is };
      states = groups;
      histories = up.fresh;
      anchor = up.place.0;
      ring = up.place.1;
      list = up.list;
      durable = omega (arith, durable, freed);
      base = base;
    }
