use Rattle.group_ops.proofs.Owned.{table_is}
use Rattle.group_ops.proofs.group_table.states_have_their_table.Goals as goal

pub returns : goal.returns
returns c s t layouts shape inside is =
    table_is
    (record {
      lower = record {
        sectors = c.encoded_places.ensures.inode;
        cores = c.encoded_places.ensures.core;
        places = c.places_have_their_metadata.ensures.place;
        read = c.encoded_cores_are_read.ensures;
        forks = c.encoded_forks_are_read.ensures;
      };
      stand = c.encoded_places.ensures.fork;
    })
    c.groups_stand_apart.ensures.closed s t layouts shape inside is
