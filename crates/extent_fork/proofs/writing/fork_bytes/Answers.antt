use Rattle.std.proofs.Common.{ℕ, ◌*◌, ◌∙◌, ap, refl, arith}
use Rattle.life_bytes.specs.Fields.{with_field}
use Rattle.extent_fork.proofs.Lists.{total}
use Rattle.extent_fork.proofs.Records.{first_bytes, more_offset, more_bytes, all_bytes, run_is}
use Rattle.extent_fork.proofs.writing.fork_bytes.Goals as goal

pub loop-index-init : goal.loop-index-init
unfolding total
loop-index-init c = record { bytes = first_bytes c.args.group c.args.list.now; offset = refl; small = omega arith }

pub loop-index-preserved : goal.loop-index-preserved
loop-index-preserved c =
    let list = c.args.list.now in
    let i = c.loop-index.index in
    let so_far = c.loop-index.invariant in
    let put = c.put_u128.ensures ∙ ap (λ (n : ℕ). with_field 16 (16 * i) n c.loop-index.bytes) c.record_of.ensures in
    let run = run_is list i (record { start = 0; count = 0 }) c.requires.runs.each c.loop-index-test.true in
    record {
      bytes = more_bytes c.args.group list i c.loop-index.offset (record { start = 0; count = 0 }) c.loop-index.bytes c.put_u128.new.bytes c.loop-index-test.true c.requires.few so_far.bytes so_far.offset put;
      offset = more_offset list i c.loop-index.offset (record { start = 0; count = 0 }) c.loop-index-test.true so_far.offset;
      small = omega (arith, so_far.small, run.end, run.start);
    }

pub returns : goal.returns
returns c = all_bytes c.args.group c.args.list.now c.loop-index.index c.loop-index.bytes c.loop-index-test.false (omega arith) c.loop-index.invariant.bytes
