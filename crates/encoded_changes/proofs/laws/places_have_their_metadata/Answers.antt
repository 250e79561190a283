use Rattle.encoded_changes.proofs.Bitmaps.{at_bitmap}
use Rattle.encoded_changes.proofs.Standing.{at_header, at_page, at_inode, has_place}
use Rattle.encoded_changes.proofs.laws.places_have_their_metadata.Goals as goal

pub returns-clause-header : goal.returns-clause-header
returns-clause-header c = at_header

pub returns-clause-bitmap : goal.returns-clause-bitmap
returns-clause-bitmap c = at_bitmap

pub returns-clause-page : goal.returns-clause-page
returns-clause-page c = at_page

pub returns-clause-inode : goal.returns-clause-inode
returns-clause-inode c = at_inode

pub returns-clause-place : goal.returns-clause-place
returns-clause-place c = has_place
