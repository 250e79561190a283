use Rattle.std.proofs.Common.{refl, subst}
use Rattle.life_table.specs.History.{recovered}
use Rattle.log_store.specs.State.{state_of}
use Rattle.orphan_frees.specs.Order.{keys_to_free, unlisted_all}
use Rattle.mount.specs.Prefixes.{IsPrefixLeft}
use Rattle.mount.proofs.Ends.{Laws, images_left}
use Rattle.mount.proofs.Forced.{down_after, moments_forced, represents_all}
use Rattle.mount.proofs.Up.{acknowledged_story, force_failed, is_up}
use Rattle.mount.proofs.mounting.finish.Goals as goal

pub returns-in-Ok-clause-comes_to : goal.returns-in-Ok-clause-comes_to
returns-in-Ok-clause-comes_to g c = λ known t layouts of are.
    let d = g.D.Disk in
    let laws : Laws = record { same = c.calls_leave_prefixes.ensures.same; earlier = c.calls_leave_prefixes.ensures.earlier; all = c.calls_leave_prefixes.ensures.all } in
    let freed = c.args.freed in
    let old = c.args.store in
    let new = c.force_new.new.store in
    let moves = c.in-Ok.ensures.goes.moves in
    let none = c.in-Ok.ensures.all.0 in
    record {
      geometry = refl;
      story = acknowledged_story freed.story.base (keys_to_free t layouts) freed.story c.acknowledged.result c.acknowledged.ensures are.story;
      groups = are.groups;
      store = c.calls_leave_prefixes.ensures.base d.known c.args.geometry t (recovered t) layouts (unlisted_all layouts (keys_to_free t layouts)) (state_of old) (state_of new)
          (d.cells old.disk) (d.cells new.disk) known moves of none are.carry;
      represents = λ image on. represents_all laws d.known c.args.geometry t layouts freed.story.base (state_of old) (state_of new) (d.cells old.disk) (d.cells new.disk) freed image known
          moves of (c.in-Ok.ensures.left known image on) none c.requires.ready.start.durable are;
    }

pub returns-in-Ok-clause-comes : goal.returns-in-Ok-clause-comes
returns-in-Ok-clause-comes g c =
    let d = g.D.Disk in
    let said = c.in-Ok.ensures in
    record {
      up = is_up d.known d.cells d.sector_count d.moment d.left_since c.args.geometry c.args.store c.force_new.new.store c.args.freed c.acknowledged.result c.requires.ready said.goes said.idle
          said.all.0 said.all.1 said.rises c.acknowledged.ensures;
      begun = tt;
      device = tt;
      count = said.count;
      sectors = said.sectors;
      writes = said.arming;
    }

pub returns-in-Ok-clause-every_moment : goal.returns-in-Ok-clause-every_moment
returns-in-Ok-clause-every_moment g c = λ known.
    let d = g.D.Disk in
    let laws : Laws = record { same = c.calls_leave_prefixes.ensures.same; earlier = c.calls_leave_prefixes.ensures.earlier; all = c.calls_leave_prefixes.ensures.all } in
    let new = c.force_new.new.store in
    moments_forced laws d.known d.cells d.sector_count d.moment d.left_since c.args.geometry c.args.freed.story.base c.args.store new new.disk c.args.freed refl c.in-Ok.ensures.goes known
    c.requires.ready.start.durable

pub returns-in-Err-clause-comes_to : goal.returns-in-Err-clause-comes_to
returns-in-Err-clause-comes_to g c = λ known t layouts of are.
    let d = g.D.Disk in
    let laws : Laws = record { same = c.calls_leave_prefixes.ensures.same; earlier = c.calls_leave_prefixes.ensures.earlier; all = c.calls_leave_prefixes.ensures.all } in
    let freed = c.args.freed in
    let old = c.args.store in
    let new = c.force_new.new.store in
    down_after c.args.geometry t layouts freed.story.base old.queue.items freed c.in-Err.fault (d.cells c.into_disk.result) are c.in-Err.ensures.fault
    (λ image on. subst (λ n. IsPrefixLeft c.args.geometry t layouts old.queue.items n image) c.requires.ready.start.durable
    (images_left laws d.known d.cells d.sector_count d.moment d.left_since old new c.into_disk.result c.into_disk.ensures c.in-Err.ensures.goes (c.in-Err.ensures.left known) known
    c.args.geometry t layouts image of on))

pub returns-in-Err-clause-comes : goal.returns-in-Err-clause-comes
returns-in-Err-clause-comes g c =
    let d = g.D.Disk in
    let said = c.in-Err.ensures in
    force_failed d.known d.cells d.sector_count d.fault_count d.arming c.args.geometry c.args.store c.force_new.new.store c.args.freed c.in-Err.fault c.into_disk.result c.into_disk.ensures
    c.requires.ready said.device said.count said.sectors said.arming

pub returns-in-Err-clause-every_moment : goal.returns-in-Err-clause-every_moment
returns-in-Err-clause-every_moment g c = λ known.
    let d = g.D.Disk in
    let laws : Laws = record { same = c.calls_leave_prefixes.ensures.same; earlier = c.calls_leave_prefixes.ensures.earlier; all = c.calls_leave_prefixes.ensures.all } in
    moments_forced laws d.known d.cells d.sector_count d.moment d.left_since c.args.geometry c.args.freed.story.base c.args.store c.force_new.new.store c.into_disk.result c.args.freed
    c.into_disk.ensures c.in-Err.ensures.goes known c.requires.ready.start.durable
