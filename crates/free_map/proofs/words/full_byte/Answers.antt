use Rattle.std.proofs.Common.{below_more}
use Rattle.free_map.proofs.Bits.{full_from_byte, byte_from_full}
use Rattle.free_map.proofs.words.full_byte.Goals as goal

pub returns-then-word-k-eq255-clause-some : goal.returns-then-word-k-eq255-clause-some
returns-then-word-k-eq255-clause-some c = (c.loop-k-test.true, full_from_byte _ _ c.if-word-k-eq255.true)

pub loop-k-preserved : goal.loop-k-preserved
loop-k-preserved c = below_more _ _ c.loop-k.invariant (λ full. c.if-word-k-eq255.false (byte_from_full _ _ full))
