use Rattle.sound_image.proofs.ByChunks.{slice, inode_found, inode_only}
use Rattle.sound_image.proofs.Sectors.{bytes_from_parts}
use Rattle.sound_image.proofs.laws.chunks_are_read.Goals as goal

pub returns-clause-slice : goal.returns-clause-slice
returns-clause-slice c = slice

pub returns-clause-found : goal.returns-clause-found
returns-clause-found c = inode_found

pub returns-clause-only : goal.returns-clause-only
returns-clause-only c = inode_only

pub returns-clause-parts : goal.returns-clause-parts
returns-clause-parts c = bytes_from_parts
