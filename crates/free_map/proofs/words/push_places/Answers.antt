use Rattle.std.proofs.Common.{arith}
use Rattle.free_map.proofs.Bits.{places_step, places_end}
use Rattle.free_map.proofs.words.push_places.Goals as goal

pub loop-rest-preserved : goal.loop-rest-preserved
loop-rest-preserved c = record {
  told = places_step _ _ _ _ _ (omega (arith, c.loop-rest-test.true)) (omega arith) c.in_ok-push.ensures.items c.loop-rest.invariant.told;
  few = omega (arith, c.in_ok-push.ensures.len, c.if-len-limit.true);
}

pub returns-after-loop-rest : goal.returns-after-loop-rest
returns-after-loop-rest c = record { ok = places_end _ _ _ _ _ c.loop-rest-test.false c.loop-rest.invariant.few c.loop-rest.invariant.told }
