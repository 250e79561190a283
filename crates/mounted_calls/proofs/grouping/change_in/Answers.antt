use Rattle.mounted_calls.proofs.Groups.{at_index, changed_is, roomless_put}
use Rattle.mounted_calls.proofs.grouping.change_in.Goals as goal

pub returns : goal.returns
returns c =
    let old = c.index_mut.result.now in
    let new = c.commit.new.self in
    record {
      group = old;
      found = at_index c.args.groups.now.items c.args.group old c.requires.inside c.index_mut.ensures.value;
      put = roomless_put c.args.groups.now.items c.args.group new _ (changed_is old new c.args.entry c.args.change.delta new.state.room c.commit.ensures.applied c.commit.ensures.history);
    }
