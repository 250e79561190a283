use Rattle.std.proofs.Common.{◌≡◌, ℕ, ◌+◌, ◌-◌, List, ◌++◌, length, take, drop, replicate, sym, ap, ◌∙◌, arith}
use Rattle.std.specs.Int.{w32, bit_not}
use Rattle.std.specs.List.{fold}
use Rattle.std.proofs.lemmas.List.{take_all, length-drop}
use Rattle.std.proofs.lemmas.List.Sums.{fold-append}
use Rattle.life_bytes.specs.Crc.{after_byte, crc32c, holed}
use Rattle.life_bytes.proofs.crc.crc_holed.Goals as goal

rest_is : (n : ℕ) (xs : List ℕ) → take (length xs - n) (drop n xs) ≡ drop n xs
rest_is n xs = take_all (length xs - n) (drop n xs) (omega (arith, length-drop n xs))

pub returns : goal.returns
unfolding crc32c holed
returns c =
    let xs = c.args.bytes.now in
    let at = c.args.at in
    let front = take at xs in
    let back = drop (at + 4) xs in
    let hole = replicate 4 0 in
    let apart : fold after_byte 4294967295 (front ++ (hole ++ back)) ≡ fold after_byte (fold after_byte (fold after_byte 4294967295 front) hole) back =
    fold-append after_byte 4294967295 front (hole ++ back) ∙ fold-append after_byte (fold after_byte 4294967295 front) hole back in
    let last : c.feed.result ≡ fold after_byte c.feed-hole.result back = c.feed.ensures ∙ ap (fold after_byte c.feed-hole.result) (rest_is (at + 4) xs) in
    let fed : c.feed-hole.result ≡ fold after_byte (fold after_byte 4294967295 front) hole =
    c.feed-hole.ensures ∙ ap (λ (r : ℕ). fold after_byte r hole) c.feed-before.ensures in
    ap (bit_not w32) (last ∙ ap (λ (r : ℕ). fold after_byte r back) fed ∙ sym apart)
