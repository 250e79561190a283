use Rattle.mounted_calls.proofs.Groups.{at_index, noted_is, roomless_put}
use Rattle.mounted_calls.proofs.grouping.note_in.Goals as goal

pub note-requires-clause-own : goal.note-requires-clause-own
note-requires-clause-own c =
    let old = c.index_mut.result.now in
    (c.requires.may old (at_index c.args.groups.now.items c.args.group old c.requires.inside c.index_mut.ensures.value)).1

pub note-requires-clause-room : goal.note-requires-clause-room
note-requires-clause-room c =
    let old = c.index_mut.result.now in
    (c.requires.room old (at_index c.args.groups.now.items c.args.group old c.requires.inside c.index_mut.ensures.value)).0

pub returns : goal.returns
returns c =
    let old = c.index_mut.result.now in
    let new = c.note.new.self in
    record {
      group = old;
      found = at_index c.args.groups.now.items c.args.group old c.requires.inside c.index_mut.ensures.value;
      put = roomless_put c.args.groups.now.items c.args.group new _ (noted_is old new c.args.entry c.note.ensures.state c.note.ensures.history);
    }
