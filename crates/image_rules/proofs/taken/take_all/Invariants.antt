use Rattle.std.proofs.Common.{◌≡◌, length, take}
use Rattle.image_rules.specs.Taking.{TakesAll}
use Rattle.image_rules.proofs.taken.take_all.Given as goal

abbrev pub invariant-loop-block : goal.invariant-loop-block
invariant-loop-block l = record {
  long : length l.map ≡ length l.fn.map;
  takes : TakesAll l.fn.map (take l.block-index l.blocks) l.map;
}
