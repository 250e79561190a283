use Rattle.life_table.specs.Replies.{reply_of}
use Rattle.run_mounts.proofs.Called.{group_called, group_disk, group_kind, group_uncalled, home_called, on_err_more, on_ok_more, same_arming, same_count, same_sectors, sync_called}
use Rattle.run_mounts.proofs.calling.answer_call.Goals as goal

pub call_in_group-requires-clause-kind : goal.call_in_group-requires-clause-kind
call_in_group-requires-clause-kind g c = group_kind c.args.called c.requires.kind c.in_default.not-Sync c.in_default.not-Home

pub returns-in-Sync-clause-called : goal.returns-in-Sync-clause-called
returns-in-Sync-clause-called g c = λ start t run.
    let d = g.D.Disk in
    on_ok_more _ _ c.sync.result (sync_called d.known d.cells d.sector_count d.fault_count d.moment d.left_since start t c.args.actor c.args.called c.args.mounted.now c.sync.new.mounted c.in-Sync.is) (c.sync.ensures.answered start t run)

pub returns-in-Home-clause-called : goal.returns-in-Home-clause-called
returns-in-Home-clause-called g c = λ start t run.
    let d = g.D.Disk in
    on_ok_more _ _ c.home.result (home_called d.known d.cells d.sector_count d.fault_count d.moment d.left_since start t c.args.actor c.args.called c.args.mounted.now c.home.new.mounted c.in-Home.is) (c.home.ensures.answered start t run)

pub returns-in_default : goal.returns-in_default
returns-in_default g c =
    let d = g.D.Disk in
    let old = c.args.mounted.now in
    let new = c.call_in_group.new.mounted in
    let run = c.requires.running in
    let kind = group_kind c.args.called c.requires.kind c.in_default.not-Sync c.in_default.not-Home in
    let disk = group_disk d.known d.cells d.sector_count run.0 run.1 c.args.actor c.args.called (reply_of run.1 c.args.called) old new c.call_in_group.result
    (c.call_in_group.ensures.made run.0 run.1 run.2) (c.call_in_group.ensures.unmade run.0 run.1 run.2) in
    record {
      called = λ start t is. on_ok_more _ _ c.call_in_group.result (group_called d.known d.cells d.sector_count d.fault_count start t c.args.actor c.args.called old new kind) (c.call_in_group.ensures.made start t is);
      uncalled = λ start t is. on_err_more _ _ c.call_in_group.result (group_uncalled d.known d.cells d.sector_count start t old new) (c.call_in_group.ensures.unmade start t is);
      count = same_count d.fault_count old.store.disk new.store.disk disk;
      sectors = same_sectors d.sector_count old.store.disk new.store.disk disk;
      arming = same_arming d.arming old.store.disk new.store.disk disk;
    }
