use Rattle.free_map.proofs.Bits.{set_here, set_others}
use Rattle.free_map.proofs.words.set_bit.Goals as goal

pub returns-clause-here : goal.returns-clause-here
returns-clause-here c = set_here c.args.words.now c.args.block c.requires

pub returns-clause-others : goal.returns-clause-others
returns-clause-others c = set_others c.args.words.now c.args.block c.requires
