use Rattle.sound_image.proofs.Opens.{encoded_closed}
use Rattle.sound_image.proofs.Sectors.{length-encoded, behind_groups, at_rest}
use Rattle.sound_image.proofs.Whole.{first_stays}
use Rattle.sound_image.proofs.laws.encoding_leaves_the_rest.Goals as goal

pub returns-clause-same_length : goal.returns-clause-same_length
returns-clause-same_length c = length-encoded

pub returns-clause-superblock : goal.returns-clause-superblock
returns-clause-superblock c = first_stays

pub returns-clause-behind : goal.returns-clause-behind
returns-clause-behind c = behind_groups

pub returns-clause-others : goal.returns-clause-others
returns-clause-others c = at_rest

pub returns-clause-no_opens : goal.returns-clause-no_opens
returns-clause-no_opens c = encoded_closed
