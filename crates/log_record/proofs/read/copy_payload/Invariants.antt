use Rattle.std.proofs.Common.{length, take, drop, ◌-◌, ◌+◌, ◌*◌, ◌≤◌, ◌≡◌, ℕ}
use Rattle.life_bytes.specs.Fields.{AreBytes}
use Rattle.life_bytes.specs.Sectors.{AreSectors}
use Rattle.log_record.specs.Payload.{payload_of, window}
use Rattle.log_record.proofs.read.copy_payload.Given as goal

abbrev pub invariant-loop-done : goal.invariant-loop-done
invariant-loop-done l = record {
  within : l.done ≤ length l.into;
  bytes : AreBytes l.into;
  held : (count : ℕ) → AreSectors (window l.ring l.position count) → l.at + length l.into ≤ 496 * count
      → take l.done (drop l.at (payload_of (window l.ring l.position count))) ≡ take l.done l.into;
}

abbrev pub decreases-loop-done : goal.decreases-loop-done
decreases-loop-done l = length l.initial.into - l.done
