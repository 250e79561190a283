use Rattle.encoded_changes.proofs.Created.{created_group, created_inode}
use Rattle.encoded_changes.proofs.laws.created_keys_are_free.Goals as goal

pub returns-clause-group : goal.returns-clause-group
returns-clause-group c = created_group

pub returns-clause-inode : goal.returns-clause-inode
returns-clause-inode c = created_inode
