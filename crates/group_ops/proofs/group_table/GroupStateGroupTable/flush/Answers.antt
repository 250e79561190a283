use Rattle.std.proofs.Common.{ap}
use Rattle.group_ops.specs.Values.{StateValue}
use Rattle.group_ops.proofs.Caching.{cached_flushed, same_table, still_represents}
use Rattle.group_ops.proofs.group_table.GroupStateGroupTable.flush.Goals as goal

pub returns-clause-group : goal.returns-clause-group
returns-clause-group c = ap (λ (v : StateValue). v.group) c.flush_all.ensures.flushed.rest

pub returns-clause-table : goal.returns-clause-table
returns-clause-table c =
    let rest = c.flush_all.ensures.flushed.rest in
    same_table c.states_have_their_table.ensures c.args.self.now c.flush_all.new.self c.hold.ensures.shape c.hold.ensures.inside (ap (λ (v : StateValue). v.geometry) rest)
    (ap (λ (v : StateValue). v.group) rest) c.flush_all.ensures.represents c.requires

pub returns-clause-represents : goal.returns-clause-represents
returns-clause-represents c = still_represents c.args.self.now c.flush_all.new.self c.flush_all.ensures.represents c.requires

pub returns-clause-cached : goal.returns-clause-cached
returns-clause-cached c number = cached_flushed c.args.self.now c.flush_all.new.self number c.flush_all.ensures.flushed

pub returns-clause-flushed : goal.returns-clause-flushed
returns-clause-flushed c = record { flush = c.flush_all.ensures.flushed; sectors = c.flush_all.ensures.sectors; group = c.flush_all.ensures.represents }

pub returns-clause-room : goal.returns-clause-room
returns-clause-room c = ap (λ (v : StateValue). v.room) c.flush_all.ensures.flushed.rest
