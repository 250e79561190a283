use Rattle.encoded_changes.proofs.Tables.{row_inode, inode_follows, inode_carried, inode_made, made_carried}
use Rattle.encoded_changes.proofs.Prepared.{layouts_prepared}
use Rattle.encoded_changes.proofs.laws.encodings_follow_the_table.Goals as goal

pub returns-clause-row : goal.returns-clause-row
returns-clause-row c = row_inode

pub returns-clause-inode : goal.returns-clause-inode
returns-clause-inode c = inode_follows

pub returns-clause-carried : goal.returns-clause-carried
returns-clause-carried c = inode_carried

pub returns-clause-prepared : goal.returns-clause-prepared
returns-clause-prepared c = layouts_prepared

pub returns-clause-made : goal.returns-clause-made
returns-clause-made c = inode_made

pub returns-clause-made_carried : goal.returns-clause-made_carried
returns-clause-made_carried c = made_carried
