-- The next record of a log, as it is read.
use Rattle.std.specs.Prelude.{ℕ, ◌≡◌, List}
use Rattle.life_bytes.specs.declared.sector.Sector.{Sector}
use Rattle.log_image.specs.Log.{record_end, next_of}
use Rattle.recovery.specs.Follow.{IsNextInChain}
use Rattle.recovery.specs.declared.chain.NextRecord.{NextRecord}

-- the record can be next, and these are the position and the number behind it
pub record HasNext (ring : List Sector) (anchor position number : ℕ) (next : NextRecord) : Type 0 where
  pub is : IsNextInChain ring anchor position number next.item
  pub end : next.end ≡ record_end next.item
  pub commit : next.next_commit ≡ next_of next.item
