use Rattle.group_ops.proofs.Shown.{lists_shown}
use Rattle.group_ops.proofs.state.GroupState.pointers_show_lists.Goals as goal

pub returns : goal.returns
returns c t layouts is =
    lists_shown
    (record {
      sectors = c.encoded_places.ensures.inode;
      cores = c.encoded_places.ensures.core;
      places = c.places_have_their_metadata.ensures.place;
      read = c.encoded_cores_are_read.ensures;
      forks = c.encoded_forks_are_read.ensures;
    })
    c.args.self.now t layouts c.hold.ensures.shape c.hold.ensures.inside is
