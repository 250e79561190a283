use Rattle.std.proofs.Common.{◌≤◌}
use Rattle.mounted_calls.proofs.Groups.{has_room, on_ok_so, roomier_same, roomless_same}
use Rattle.mounted_calls.proofs.grouping.reserve_in.Goals as goal

pub returns-clause-same : goal.returns-clause-same
returns-clause-same c =
    let old = c.index_mut.result.now in
    let new = c.reserve.new.self in
    roomless_same c.args.groups.now.items c.args.group old new c.index_mut.ensures.value (roomier_same old new new.state.room c.reserve.ensures.same c.reserve.ensures.history)

pub returns-clause-room : goal.returns-clause-room
returns-clause-room c =
    let new = c.reserve.new.self in
    on_ok_so ((1 ≤ new.spare) × (1 ≤ new.state.room)) _ c.reserve.result (has_room c.args.groups.now.items c.args.group new) c.reserve.ensures.room
