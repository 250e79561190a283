use Rattle.std.specs.Int.{w64}
use Rattle.std.proofs.lemmas.Nat.Bits.{bit_at-trailing_zeros}
use Rattle.inode_cache.proofs.Bits.{no_bit_from, first_bit_from, clear_before, positive, small_shift}
use Rattle.inode_cache.proofs.number_set.bit_from.Goals as goal

pub returns-then-rest-eq0-clause-none : goal.returns-then-rest-eq0-clause-none
returns-then-rest-eq0-clause-none c = no_bit_from c.args.word c.args.place c.if-rest-eq0.true

pub returns-clause-found : goal.returns-clause-found
returns-clause-found c =
    first_bit_from c.args.word c.args.place _ c.ranges.word.fits (bit_at-trailing_zeros w64 _ (positive _ c.if-rest-eq0.false) (small_shift c.args.word c.args.place c.ranges.word.fits))

pub returns-clause-least : goal.returns-clause-least
returns-clause-least c =
    clear_before c.args.word c.args.place _ (bit_at-trailing_zeros w64 _ (positive _ c.if-rest-eq0.false) (small_shift c.args.word c.args.place c.ranges.word.fits))
