use Rattle.std.proofs.Common.{◌∙◌, refl}
use Rattle.life_table.specs.declared.types.Call.TheVariants as call
use Rattle.life_table.specs.declared.types.Reply.TheVariants as reply
use Rattle.log_store.specs.State.{state_of}
use Rattle.mounted_calls.specs.Calls.{entry_of}
use Rattle.mounted_calls.proofs.Devices.{home_asks}
use Rattle.mounted_calls.proofs.Synced.{answered_whole, closed_story, covers_home, parts_moved, permits_home}
use Rattle.mounted_calls.proofs.Whole.{told_call}
use Rattle.mounted_calls.proofs.device.home.Goals as goal

pub returns-clause-answered : goal.returns-clause-answered
returns-clause-answered g c = λ start t run.
    let d = g.D.Disk in
    let m = c.args.mounted.now in
    let store = c.bring_home-reply.new.store in
    let answer = c.bring_home-reply.result in
    let moves = c.bring_home-reply.ensures.goes in
    let home = c.bring_home-reply.ensures.answer in
    let put = closed_story m.story c.open_record.new.story c.close_record.new.story c.in_ok-taken.taken.entries.items c.in_ok-taken.taken.froms.items c.call_entry-entry.result
    (entry_of c.args.actor call.Home answer) c.open_record.ensures.rest c.in_ok-taken.ensures.entries c.in_ok-taken.ensures.froms c.close_record.ensures c.call_entry-entry.ensures in
    let parts = parts_moved d.known d.cells d.sector_count d.moment d.left_since start t m (record { groups = m.groups; store = store; geometry = m.geometry; story = c.close_record.new.story }) run moves in (
      answer,
      answered_whole d.known d.cells d.sector_count d.moment d.left_since start t c.args.actor call.Home answer m (record { groups = m.groups; store = store; geometry = m.geometry; story = c.close_record.new.story }) run home_asks moves refl refl put
          c.bring_home-reply.ensures.idle (permits_home t d.known (d.cells store.disk) answer (state_of m.store) (state_of store) (d.fault_count m.store.disk) (d.fault_count store.disk) home)
          (covers_home parts.log.durable d.known (d.cells store.disk) answer (state_of m.store) (state_of store) (d.fault_count m.store.disk) (d.fault_count store.disk) home),
      home,
      c.bring_home-reply.ensures.down_behind,
    )

pub returns-clause-down : goal.returns-clause-down
returns-clause-down g c = λ count stage.
    let m = c.args.mounted.now in
    let run = c.requires in
    let down = c.bring_home-reply.ensures.down count stage in
    let put = closed_story m.story c.open_record.new.story c.close_record.new.story c.in_ok-taken.taken.entries.items c.in_ok-taken.taken.froms.items c.call_entry-entry.result
    (entry_of c.args.actor call.Home c.bring_home-reply.result) c.open_record.ensures.rest c.in_ok-taken.ensures.entries c.in_ok-taken.ensures.froms c.close_record.ensures c.call_entry-entry.ensures in
    (put ∙ told_call run.0 run.1 m.story c.args.actor call.Home c.bring_home-reply.result (reply.Down count) run.2.parts.told down.0, down.1)
