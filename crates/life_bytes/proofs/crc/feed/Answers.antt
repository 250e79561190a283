use Rattle.std.proofs.Common.{take, drop, sym, ap, ◌∙◌}
use Rattle.std.specs.List.{fold}
use Rattle.std.proofs.lemmas.List.{take-append-drop}
use Rattle.std.proofs.lemmas.List.Sums.{fold-append}
use Rattle.life_bytes.specs.Crc.{after_byte}
use Rattle.life_bytes.proofs.crc.feed.Goals as goal

pub loop-rest-preserved : goal.loop-rest-preserved
loop-rest-preserved c =
    let rest = c.loop-rest.rest.now in
    let now = c.loop-rest.now in
    rw (c.step_block-now.ensures, c.split_at.ensures.front, c.split_at.ensures.back)
    (sym (fold-append after_byte now (take 8 rest) (drop 8 rest)) ∙ ap (fold after_byte now) (take-append-drop 8 rest) ∙ c.loop-rest.invariant)
