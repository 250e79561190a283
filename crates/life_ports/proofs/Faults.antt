-- A count that rose in a part of a call rose in the call.
use Rattle.std.proofs.Common.{ℕ, arith}
use Rattle.life_ports.specs.Faults.{NeverFalls, Rose}

-- it rose, and did not fall after
pub Rose-then : (a b c : ℕ) → Rose a b → NeverFalls b c → Rose a c
Rose-then a b c p q = omega arith

-- it did not fall, and rose after
pub Rose-after : (a b c : ℕ) → NeverFalls a b → Rose b c → Rose a c
Rose-after a b c p q = omega arith
