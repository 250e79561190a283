use Rattle.std.proofs.Common.{◌≡◌, ◌∙◌, ℕ, ap, refl, subst}
use Rattle.life_table.specs.declared.types.Call.TheVariants as call
use Rattle.life_table.specs.declared.types.Reply.TheVariants as reply
use Rattle.life_table.specs.declared.types.MountRecord.{MountRecord}
use Rattle.log_store.specs.State.{state_of}
use Rattle.mounted_calls.specs.Calls.{IsForced, entry_of}
use Rattle.mounted_calls.proofs.Devices.{sync_asks}
use Rattle.mounted_calls.proofs.Synced.{answered_whole, closed_story, covers_forced, parts_moved, permits_forced, synced}
use Rattle.mounted_calls.proofs.Whole.{told_call}
use Rattle.mounted_calls.proofs.device.sync.Goals as goal

pub returns-clause-answered : goal.returns-clause-answered
returns-clause-answered g c = λ start t run.
    let d = g.D.Disk in
    let m = c.args.mounted.now in
    let store = c.force_log-reply.new.store in
    let answer = c.force_log-reply.result in
    let moves = c.force_log-reply.ensures.goes in
    let base : c.open_record.new.story.base ≡ m.story.base = ap (λ (s : MountRecord). s.base) c.open_record.ensures.rest in
    let forced : IsForced m.story.base answer (state_of m.store) (state_of store) (d.fault_count m.store.disk) (d.fault_count store.disk) =
    subst (λ (n : ℕ). IsForced n answer (state_of m.store) (state_of store) (d.fault_count m.store.disk) (d.fault_count store.disk)) base c.force_log-reply.ensures.answer in
    let put = closed_story m.story c.open_record.new.story c.close_record.new.story c.in_ok-taken.taken.entries.items c.in_ok-taken.taken.froms.items c.call_entry-entry.result
    (entry_of c.args.actor call.Sync answer) c.open_record.ensures.rest c.in_ok-taken.ensures.entries c.in_ok-taken.ensures.froms c.close_record.ensures c.call_entry-entry.ensures in
    let parts = parts_moved d.known d.cells d.sector_count d.moment d.left_since start t m (record { groups = m.groups; store = store; geometry = m.geometry; story = c.close_record.new.story }) run moves in (
      answer,
      answered_whole d.known d.cells d.sector_count d.moment d.left_since start t c.args.actor call.Sync answer m (record { groups = m.groups; store = store; geometry = m.geometry; story = c.close_record.new.story }) run sync_asks moves refl refl put
          c.force_log-reply.ensures.idle (permits_forced t m.story.base answer (state_of m.store) (state_of store) (d.fault_count m.store.disk) (d.fault_count store.disk) forced)
          (covers_forced m.story.base parts.log.durable answer (state_of m.store) (state_of store) (d.fault_count m.store.disk) (d.fault_count store.disk) parts.log.number forced),
      synced m.story parts.log.durable answer (state_of m.store) (state_of store) (d.fault_count m.store.disk) (d.fault_count store.disk) parts.log.number parts.log.made forced,
      c.force_log-reply.ensures.down_behind,
    )

pub returns-clause-down : goal.returns-clause-down
returns-clause-down g c = λ count stage.
    let m = c.args.mounted.now in
    let run = c.requires in
    let down = c.force_log-reply.ensures.down count stage in
    let put = closed_story m.story c.open_record.new.story c.close_record.new.story c.in_ok-taken.taken.entries.items c.in_ok-taken.taken.froms.items c.call_entry-entry.result
    (entry_of c.args.actor call.Sync c.force_log-reply.result) c.open_record.ensures.rest c.in_ok-taken.ensures.entries c.in_ok-taken.ensures.froms c.close_record.ensures c.call_entry-entry.ensures in
    (put ∙ told_call run.0 run.1 m.story c.args.actor call.Sync c.force_log-reply.result (reply.Down count) run.2.parts.told down.0, down.1)
