use Rattle.std.proofs.Common.{◌≡◌, ◌<◌, ◌+◌, ◌-◌, ◌*◌, ℕ, List, [], length, take, drop, get_or, arith, ap, ◌∙◌}
use Rattle.std.proofs.lemmas.List.{length-append, length-take, length-drop, take_all}
use Rattle.life_bytes.specs.SectorBytes.{bytes_of}
use Rattle.life_bytes.specs.declared.sector.Sector.{Sector}
use Rattle.free_map.specs.Bitmap.{says_free}
use Rattle.free_map.proofs.Loading.{bytes_of-more, AreBytes-append, load_more, words_say, length_put}
use Rattle.free_map.proofs.stored.load.Goals as goal

pub loop-index-preserved : goal.loop-index-preserved
loop-index-preserved c =
    let i : ℕ = c.loop-index.index in
    let old : List ℕ = bytes_of (take i c.args.sectors.now) in
    let piece : List ℕ = (get_or c.args.sectors.now i record { bytes = [] }).bytes in
    let more = bytes_of-more c.args.sectors.now i record { bytes = [] } c.loop-index-test.true in
    let few : i < 4 = omega (arith, c.requires, c.loop-index-test.true) in
    let kept : length c.loop-index.words ≡ 256 = c.loop-index.invariant.kept in
    let room : length c.load_words.new.words ≡ 64 =
    c.load_words.auto.words ∙ length-take (64 * i + 64 - 64 * i) (drop (64 * i) c.loop-index.words) ∙ omega (arith, length-drop (64 * i) c.loop-index.words) in
    record {
      kept = length_put (64 * i) 64 _ c.loop-index.words c.load_words.new.words (omega arith) room (omega arith) ∙ kept;
      long = rw more (omega (arith, length-append old piece, c.loop-index.invariant.long, c.load_words.ensures.whole));
      small = rw more (AreBytes-append old piece c.loop-index.invariant.small c.load_words.ensures.small);
      read = rw more (load_more old piece c.loop-index.words c.load_words.new.words i c.loop-index.invariant.long c.load_words.ensures.whole room (omega arith) c.load_words.ensures.words c.loop-index.invariant.read);
    }

pub returns-clause-bits : goal.returns-clause-bits
returns-clause-bits c =
    let all : take c.loop-index.index c.args.sectors.now ≡ c.args.sectors.now = take_all c.loop-index.index c.args.sectors.now c.loop-index-test.false in
    let whole : c.loop-index.index ≡ 4 = omega (arith, c.requires, c.loop-index-test.false, c.loop-index.auto.index-end) in
    λ b h.
    words_say c.loop-index.words (bytes_of (take c.loop-index.index c.args.sectors.now)) (64 * c.loop-index.index) c.loop-index.invariant.small c.loop-index.invariant.read b (omega (arith, whole))
    ∙ ap (λ (s : List Sector). says_free (bytes_of s) b) all
