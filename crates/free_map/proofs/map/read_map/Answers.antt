use Rattle.std.proofs.Common.{◌∙◌}
use Rattle.life_bytes.specs.SectorBytes.{bytes_of}
use Rattle.free_map.proofs.Bitmaps.{kept_read, blocks_read}
use Rattle.free_map.proofs.map.read_map.Goals as goal

pub invariant_of-result : goal.invariant_of-result
invariant_of-result c =
    kept_read c.clear_past.new.words c.load-words.result (bytes_of c.args.sectors.now) c.args.blocks c.count_set-free.result
    (c.clear_past.auto.words ∙ c.load-words.ensures.whole) c.requires.blocks c.clear_past.ensures c.count_set-free.ensures

pub returns : goal.returns
returns c =
    blocks_read c.clear_past.new.words c.load-words.result (bytes_of c.args.sectors.now) c.args.blocks c.requires.blocks c.clear_past.ensures c.load-words.ensures.bits
