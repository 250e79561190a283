use Rattle.std.proofs.Common.{arith}
use Rattle.log_record.proofs.Encoded.{blank_whole, blank_stamps, blank_payload}
use Rattle.log_record.proofs.write.stamp_all.Goals as goal

pub returns-clause-whole : goal.returns-clause-whole
returns-clause-whole c = blank_whole c.loop-i.into c.args.position (λ i d h. c.loop-i.invariant i d (omega arith))

pub returns-clause-stamps : goal.returns-clause-stamps
returns-clause-stamps c = blank_stamps c.loop-i.into c.args.position (λ i d h. c.loop-i.invariant i d (omega arith))

pub returns-clause-payload : goal.returns-clause-payload
returns-clause-payload c = blank_payload c.loop-i.into c.args.position (λ i d h. c.loop-i.invariant i d (omega arith))
