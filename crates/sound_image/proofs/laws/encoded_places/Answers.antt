use Rattle.sound_image.proofs.Headers.{header_encoded}
use Rattle.sound_image.proofs.Ready.{Lower, ready}
use Rattle.sound_image.proofs.Standing.{page_stands, page_sector_stands, bitmap_stands, inode_stands, core_stands, fork_stands}
use Rattle.sound_image.proofs.laws.encoded_places.Goals as goal

-- the laws below, as they were called
lower : goal.After-numbers_hold_their_bits → Lower
lower c = record {
  cores = c.encoded_cores_are_read.ensures;
  headers = c.encoded_headers_are_read.ensures;
  pages = c.encoded_pages_are_read.ensures;
  forks = c.encoded_forks_are_read.ensures;
  bits = c.numbers_hold_their_bits.ensures;
}

pub returns-clause-header : goal.returns-clause-header
returns-clause-header c = λ g t layouts image group can lt. header_encoded (lower c) g t layouts image group (ready g t layouts image group can lt)

pub returns-clause-leaf : goal.returns-clause-leaf
returns-clause-leaf c = λ g t layouts image group can lt. (ready g t layouts image group can lt).leaf

pub returns-clause-page : goal.returns-clause-page
returns-clause-page c = λ g t layouts image group can lt. page_stands (lower c) g t layouts image group (ready g t layouts image group can lt)

pub returns-clause-page_sector : goal.returns-clause-page_sector
returns-clause-page_sector c = λ g t layouts image group k can lt low. page_sector_stands g t layouts image group k (ready g t layouts image group can lt) low

pub returns-clause-bitmap : goal.returns-clause-bitmap
returns-clause-bitmap c = λ g t layouts image group k can lt low. bitmap_stands g t layouts image group k (ready g t layouts image group can lt) low

pub returns-clause-inode : goal.returns-clause-inode
returns-clause-inode c = λ g t layouts image group agino x can lt found. inode_stands (lower c) g t layouts image group agino x (ready g t layouts image group can lt) found

pub returns-clause-core : goal.returns-clause-core
returns-clause-core c = λ g t layouts image group agino x can lt found. core_stands (lower c) g t layouts image group agino x (ready g t layouts image group can lt) found

pub returns-clause-fork : goal.returns-clause-fork
returns-clause-fork c = λ g t layouts image group agino x row can lt found live. fork_stands (lower c) g t layouts image group agino x row (ready g t layouts image group can lt) found live
