use Rattle.free_map.proofs.Bits.{cleared_here, cleared_others}
use Rattle.free_map.proofs.words.clear_bit.Goals as goal

pub returns-clause-here : goal.returns-clause-here
returns-clause-here c = cleared_here c.args.words.now c.args.block c.requires

pub returns-clause-others : goal.returns-clause-others
returns-clause-others c = cleared_others c.args.words.now c.args.block c.requires
