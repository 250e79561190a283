use Rattle.std.proofs.Common.{◌≡◌, ◌<◌, ◌+◌, ◌-◌, ◌*◌, ℕ, length, drop, arith, ◌∙◌}
use Rattle.std.proofs.lemmas.List.{length-take, length-drop}
use Rattle.inobt_leaf.proofs.Gathering.{gather_more, length_put}
use Rattle.inobt_leaf.proofs.sectors.gather.Goals as goal

pub loop-index-preserved : goal.loop-index-preserved
loop-index-preserved c =
    let i : ℕ = c.loop-index.index in
    let few : i < 8 = omega (arith, c.requires, c.loop-index-test.true) in
    let many : length c.copy_from_slice.new.self ≡ 512 =
    c.copy_from_slice.ensures.len ∙ length-take (512 * i + 512 - 512 * i) (drop (512 * i) c.loop-index.bytes) ∙ omega (arith, length-drop (512 * i) c.loop-index.bytes, c.loop-index.invariant.long, few) in
    record {
      long = length_put (512 * i) 512 _ c.loop-index.bytes c.copy_from_slice.new.self (omega arith) many (omega (arith, c.loop-index.invariant.long, few)) ∙ c.loop-index.invariant.long;
      done = gather_more c.args.page.now c.loop-index.bytes c.copy_from_slice.new.self i _ c.loop-index-test.true c.loop-index.invariant.long (omega (arith, few)) many c.copy_from_slice.ensures.after c.loop-index.invariant.done;
    }
