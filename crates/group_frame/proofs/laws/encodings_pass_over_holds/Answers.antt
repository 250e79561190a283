use Rattle.group_frame.proofs.Holds.{encoded_closed, encodes_closed, free_set_closed, group_closed, inode_closed, layouts_closed, metadata_closed, records_closed}
use Rattle.group_frame.proofs.laws.encodings_pass_over_holds.Goals as goal

pub returns-clause-metadata : goal.returns-clause-metadata
returns-clause-metadata c = metadata_closed

pub returns-clause-layouts : goal.returns-clause-layouts
returns-clause-layouts c = layouts_closed

pub returns-clause-encoded : goal.returns-clause-encoded
returns-clause-encoded c = encoded_closed

pub returns-clause-encodes : goal.returns-clause-encodes
returns-clause-encodes c = encodes_closed c.tables_stay_well_formed.ensures.without_holds

pub returns-clause-groups : goal.returns-clause-groups
returns-clause-groups c = group_closed

pub returns-clause-inodes : goal.returns-clause-inodes
returns-clause-inodes c = inode_closed

pub returns-clause-records : goal.returns-clause-records
returns-clause-records c = records_closed

pub returns-clause-free : goal.returns-clause-free
returns-clause-free c = free_set_closed
