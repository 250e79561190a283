use Rattle.std.proofs.Common.{sym, ◌∙◌}
use Rattle.group_ops.proofs.Applying.{buffer_put, buffers_stay, cache_stays, prior_put, prior_wanted}
use Rattle.group_ops.proofs.in_core.put_prior.Goals as goal

pub change_core-requires : goal.change_core-requires
change_core-requires c = record {
  inode = prior_wanted c.args.cache.now.inodes c.in-Some.prior c.args.prior c.in-Some.is c.requires.fits (sym c.has.ensures ∙ c.if-has.true);
}

pub returns-then-has-clause-in_core : goal.returns-then-has-clause-in_core
returns-then-has-clause-in_core c = prior_put c.args.cache.now c.change_core.new.self c.in-Some.prior c.args.prior c.in-Some.is c.change_core.ensures

pub returns-then-has-clause-buffers : goal.returns-then-has-clause-buffers
returns-then-has-clause-buffers c = buffers_stay c.args.cache.now.inodes c.args.chunks.now.items c.in-Some.prior c.args.prior c.in-Some.is (sym c.has.ensures ∙ c.if-has.true)

pub returns-else-has-clause-in_core : goal.returns-else-has-clause-in_core
returns-else-has-clause-in_core c = cache_stays c.args.cache.now c.in-Some.prior c.args.prior c.in-Some.is (sym c.has.ensures ∙ c.if-has.false)

pub returns-else-has-clause-buffers : goal.returns-else-has-clause-buffers
returns-else-has-clause-buffers c =
    c.put_buffer.ensures.set ∙ buffer_put c.args.cache.now.inodes c.args.chunks.now.items c.in-Some.prior c.args.prior c.in-Some.is (sym c.has.ensures ∙ c.if-has.false)
