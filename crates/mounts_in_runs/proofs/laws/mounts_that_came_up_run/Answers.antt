use Rattle.std.proofs.Common.{ℕ, List, length, sym, subst}
use Rattle.std.specs.Prelude.{IsTrue}
use Rattle.geometry.specs.declared.shape.Geometry.{Geometry}
use Rattle.log_store.specs.State.{state_of}
use Rattle.life_table.specs.History.{recovered}
use Rattle.sound_image.specs.Encoding.{CanEncode}
use Rattle.whole_image.specs.Damage.{groups_of}
use Rattle.orphan_frees.specs.Loaded.{AreGroupsOf}
use Rattle.orphan_frees.specs.Order.{keys_to_free, unlisted_all}
use Rattle.mount.specs.Ending.{IsStoreOf}
use Rattle.mount.specs.Mounts.{IsStoryOf, states_of}
use Rattle.mounts_in_runs.proofs.Running.{fresh_mount}
use Rattle.mounts_in_runs.proofs.laws.mounts_that_came_up_run.Goals as goal

pub returns-clause-known : goal.returns-clause-known
returns-clause-known g c = λ h t layouts next image m of is up.
    let keys = keys_to_free t layouts in
    let frees = c.recovery_frees_in_order.ensures in
    let shape = sym is.geometry in
    record {
      layouts = unlisted_all layouts keys;
      parts = c.fresh_mounts_run.ensures g.D.Disk.known m.geometry t (unlisted_all layouts keys) keys m.story m.groups.items (state_of m.store) (g.D.Disk.cells m.store.disk)
          (fresh_mount frees.legal frees.all frees.unheld g.D.Disk.known g.D.Disk.cells g.D.Disk.sector_count t layouts (groups_of h image of.log) m up
          (subst (λ (x : Geometry). CanEncode x t layouts (groups_of h image of.log)) shape of.encodes.can)
          (c.sound_images_represent_a_table.ensures.no_opens image t next of.represents)
          (subst (λ (n : ℕ). IsStoryOf n keys (length keys) m.story) (sym is.story.base) is.story)
          (subst (λ (x : Geometry). AreGroupsOf x (recovered t) (unlisted_all layouts keys) (states_of m.groups.items)) shape is.groups)
          (λ told. subst (λ (x : Geometry). IsStoreOf x (recovered t) (unlisted_all layouts keys) (state_of m.store) (g.D.Disk.cells m.store.disk)) shape is.store));
      store = up.store;
      idle = up.rests.0;
    }

pub returns-clause-unknown : goal.returns-clause-unknown
returns-clause-unknown g c = λ m untold up.
    let keys = keys_to_free up.start up.lists in
    let frees = c.recovery_frees_in_order.ensures in
    record {
      layouts = unlisted_all up.lists keys;
      parts = c.fresh_mounts_run.ensures g.D.Disk.known m.geometry up.start (unlisted_all up.lists keys) keys m.story m.groups.items (state_of m.store) (g.D.Disk.cells m.store.disk)
          (fresh_mount frees.legal frees.all frees.unheld g.D.Disk.known g.D.Disk.cells g.D.Disk.sector_count up.start up.lists up.sectors m up up.can up.unheld up.story up.groups
          (λ told. absurd (untold told)));
      store = up.store;
      idle = up.rests.0;
    }
