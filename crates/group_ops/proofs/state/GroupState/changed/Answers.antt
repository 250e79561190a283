use Rattle.group_ops.proofs.Incores.{Laws}
use Rattle.group_ops.proofs.Leading.{own_right, own_small}
use Rattle.group_ops.proofs.Parts.{own_after}
use Rattle.group_ops.proofs.state.GroupState.changed.Goals as goal

pub encoded-requires-clause-inode : goal.encoded-requires-clause-inode
encoded-requires-clause-inode c =
    let laws : Laws = record { cores = c.encoded_places.ensures.core; forks = c.encoded_places.ensures.fork; read = c.encoded_forks_are_read.ensures; places = c.places_have_their_metadata.ensures.place } in
    let w = c.requires in
    own_right laws c.args.self.now c.args.delta.now w.0 w.1 w.2 w.3 c.hold.ensures.shape c.hold.ensures.inside w.4

pub encoded-requires-clause-small : goal.encoded-requires-clause-small
encoded-requires-clause-small c =
    let laws : Laws = record { cores = c.encoded_places.ensures.core; forks = c.encoded_places.ensures.fork; read = c.encoded_forks_are_read.ensures; places = c.places_have_their_metadata.ensures.place } in
    let w = c.requires in
    own_small laws c.args.self.now c.args.delta.now w.0 w.1 w.2 w.3 c.hold.ensures.shape c.hold.ensures.inside w.4

pub returns : goal.returns
returns c t layouts u others leads = own_after c.args.self.now c.args.delta.now u others c.encoded.result.bytes leads.after c.encoded.ensures
