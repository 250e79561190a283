use Rattle.std.proofs.Common.{◌/◌, refl, arith}
use Rattle.group_ops.proofs.Flushed.{all_flushed, below_inside, below_represents, below_shape, dirty_small, dirty_there, flush_represents, flushed_clean, more_flushed, none_flushed, sector_is}
use Rattle.group_ops.proofs.state.GroupState.flush_all.Goals as goal

pub loop-agino-init : goal.loop-agino-init
loop-agino-init c = (none_flushed c.args.self.now, omega arith)

pub flush_inodes-requires : goal.flush_inodes-requires
flush_inodes-requires c =
    let own = below_represents c.args.self.now c.loop-agino.self c.loop-agino.from c.loop-agino.invariant.0 c.requires in
    dirty_there c.loop-agino.self c.in-Some.agino (c.in-Some.agino / 32) own c.in-Some.ensures.found.1 refl

pub overflow_mul-from : goal.overflow_mul-from
overflow_mul-from c =
    let own = below_represents c.args.self.now c.loop-agino.self c.loop-agino.from c.loop-agino.invariant.0 c.requires in
    let shape = below_shape c.args.self.now c.loop-agino.self c.loop-agino.from c.loop-agino.invariant.0 c.hold.ensures.shape in
    let inside = below_inside c.args.self.now c.loop-agino.self c.loop-agino.from c.loop-agino.invariant.0 c.hold.ensures.inside in
    let low = dirty_small c.places_have_their_metadata.ensures.place c.loop-agino.self c.in-Some.agino shape inside own c.in-Some.ensures.found.1 in
    omega (arith, low)

pub loop-agino-smaller : goal.loop-agino-smaller
loop-agino-smaller c =
    let own = below_represents c.args.self.now c.loop-agino.self c.loop-agino.from c.loop-agino.invariant.0 c.requires in
    let shape = below_shape c.args.self.now c.loop-agino.self c.loop-agino.from c.loop-agino.invariant.0 c.hold.ensures.shape in
    let inside = below_inside c.args.self.now c.loop-agino.self c.loop-agino.from c.loop-agino.invariant.0 c.hold.ensures.inside in
    let low = dirty_small c.places_have_their_metadata.ensures.place c.loop-agino.self c.in-Some.agino shape inside own c.in-Some.ensures.found.1 in
    omega (arith, low, c.in-Some.ensures.found.0)

pub loop-agino-preserved : goal.loop-agino-preserved
loop-agino-preserved c =
    let own = below_represents c.args.self.now c.loop-agino.self c.loop-agino.from c.loop-agino.invariant.0 c.requires in
    let shape = below_shape c.args.self.now c.loop-agino.self c.loop-agino.from c.loop-agino.invariant.0 c.hold.ensures.shape in
    let inside = below_inside c.args.self.now c.loop-agino.self c.loop-agino.from c.loop-agino.invariant.0 c.hold.ensures.inside in
    let low = dirty_small c.places_have_their_metadata.ensures.place c.loop-agino.self c.in-Some.agino shape inside own c.in-Some.ensures.found.1 in (
      more_flushed c.args.self.now c.loop-agino.self c.flush_inodes.new.self c.loop-agino.from c.in-Some.agino (c.in-Some.agino / 32) c.loop-agino.invariant.0 c.in-Some.ensures.found.0 refl
          c.in-Some.ensures.least c.flush_inodes.ensures,
      omega (arith, low),
    )

pub returns-clause-flushed : goal.returns-clause-flushed
returns-clause-flushed c = all_flushed c.args.self.now c.loop-agino.self c.loop-agino.from c.loop-agino.invariant.0 c.in_default.ensures.none

pub returns-clause-represents : goal.returns-clause-represents
returns-clause-represents c t layouts is =
    flush_represents c.args.self.now c.loop-agino.self t layouts (all_flushed c.args.self.now c.loop-agino.self c.loop-agino.from c.loop-agino.invariant.0 c.in_default.ensures.none) is

pub returns-clause-clean : goal.returns-clause-clean
returns-clause-clean c agino =
    let flush = all_flushed c.args.self.now c.loop-agino.self c.loop-agino.from c.loop-agino.invariant.0 c.in_default.ensures.none in
    flushed_clean c.args.self.now c.loop-agino.self agino (flush.each agino)

pub returns-clause-sectors : goal.returns-clause-sectors
returns-clause-sectors c t layouts agino inode is there =
    let flush = all_flushed c.args.self.now c.loop-agino.self c.loop-agino.from c.loop-agino.invariant.0 c.in_default.ensures.none in
    sector_is c.args.self.now c.loop-agino.self t layouts agino inode is (flush.each agino) there
