use Rattle.std.proofs.Common.{◌≡◌, ◌+◌, ◌≤◌, ◌*◌, length, map}
use Rattle.life_bytes.specs.Fields.{with_piece}
use Rattle.life_bytes.specs.Sectors.{AreSectors}
use Rattle.log_record.specs.Payload.{payload_of, stamps_of}
use Rattle.log_record.proofs.write.put_payload.Given as goal

abbrev pub invariant-loop-rest : goal.invariant-loop-rest
invariant-loop-rest l = record {
  room : l.at + length l.rest ≤ 496 * length l.into;
  whole : AreSectors l.into;
  stamps : map stamps_of l.into ≡ map stamps_of l.initial.into;
  payload : with_piece (length l.rest) l.at l.rest (payload_of l.into)
      ≡ with_piece (length l.fn.bytes) l.fn.at l.fn.bytes (payload_of l.fn.into);
}

abbrev pub decreases-loop-rest : goal.decreases-loop-rest
decreases-loop-rest l = length l.rest
