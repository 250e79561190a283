use Rattle.std.proofs.Common.{◌≡◌, Bool, List, length, replicate, sym, ap, ◌∙◌, arith}
use Rattle.std.proofs.lemmas.Bool.{false≢true}
use Rattle.std.proofs.lemmas.List.Elements.{All-replicate}
use Rattle.std.proofs.lemmas.List.FromFn.{length-map-range_with_len}
use Rattle.life_bytes.specs.declared.sector.Sector.{Sector}
use Rattle.life_bytes.specs.Sectors.{zero_sector}
use Rattle.life_bytes.specs.SectorBytes.{bytes_of}
use Rattle.free_map.specs.Blocks.{is_block_free}
use Rattle.free_map.specs.Bitmap.{says_free}
use Rattle.image_rules.proofs.Zeros.{zero_map}
use Rattle.image_rules.proofs.taken.data_blocks.Goals as goal

pub loop-block-init : goal.loop-block-init
loop-block-init c =
    let z : Sector = c.zero.result in
    let none = zero_map (replicate 4 z) c.args.blocks in
    let zeros = All-replicate (λ (s : Sector). s ≡ zero_sector) 4 z c.zero.ensures in
    record {
      long = ap (λ (m : List Bool). length m) c.read_map-map.ensures ∙ length-map-range_with_len (says_free (bytes_of (replicate 4 z))) 0 c.args.blocks;
      free = λ b free. absurd (false≢true (sym (none b zeros) ∙ sym (ap (λ (m : List Bool). is_block_free m b) c.read_map-map.ensures) ∙ free));
      kept = λ b from to. absurd (omega arith);
    }
