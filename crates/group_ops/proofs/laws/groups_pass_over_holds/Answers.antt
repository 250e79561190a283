use Rattle.group_ops.proofs.Closing.{group_of_closed}
use Rattle.group_ops.proofs.Keepings.{roomed}
use Rattle.group_ops.proofs.laws.groups_pass_over_holds.Goals as goal

pub returns-clause-holds : goal.returns-clause-holds
returns-clause-holds c =
    group_of_closed
    (record {
      table = c.tables_stay_well_formed.ensures.without_holds;
      layouts = λ t layouts are. (c.encodings_pass_over_holds.ensures.layouts t layouts).0 are;
      groups = c.encodings_pass_over_holds.ensures.groups;
      inodes = c.encodings_pass_over_holds.ensures.inodes;
      records = c.encodings_pass_over_holds.ensures.records;
      free = c.encodings_pass_over_holds.ensures.free;
    })

pub returns-clause-room : goal.returns-clause-room
returns-clause-room c = roomed
