use Rattle.std.proofs.Common.{◌≡◌, ◌+◌, ℕ, [], ap, subst, arith}
use Rattle.image_rules.specs.Faults.{IsCaused}
use Rattle.image_rules.specs.Gathered.{CoreFault}
use Rattle.image_rules.specs.Listing.{GroupIsFound}
use Rattle.image_rules.proofs.Finding.{IsFound-wider}
use Rattle.image_rules.proofs.Gathering.{next_of}
use Rattle.image_rules.proofs.Tallies.{orphans_to, orphans_none, orphans_more, orphans_all}
use Rattle.image_rules.proofs.Outcomes.{passed_up}
use Rattle.image_rules.proofs.found.Found.add_chunk.Goals as goal

pub loop-index-init : goal.loop-index-init
loop-index-init c = record {
  found = λ image bound next shows was.
      let a = c.args in
      let e : a.chunk.now.start ≡ a.chunk.now.start + 0 = omega arith in
      subst (λ (n : ℕ). GroupIsFound a.g.now image a.group n a.self.now) e (IsFound-wider a.g.now image a.group bound a.chunk.now.start a.self.now next.from next.none was);
  counted = λ image bound next shows was. omega (arith, orphans_none c.args.g.now image c.args.group c.args.chunk.now);
}

pub returns-in_err-add-clause-wrong : goal.returns-in_err-add-clause-wrong
returns-in_err-add-clause-wrong c image bound next shows was =
    let a = c.args in
    let start : ℕ = a.chunk.now.start in
    let i : ℕ = c.loop-index.index in
    let here = c.loop-index.invariant.found image bound next shows was in
    passed_up c.from_residual.result c.in_err-add.field-0.0 (CoreFault a.g.now image a.group) c.from_residual.ensures.1
    (c.in_err-add.ensures.wrong image (start + i)
    (next_of a.g.now image a.group bound a.chunk.now a.sectors.now i (record { bytes = [] }) c.is_free-free.result next shows c.requires.sectors c.loop-index-test.true c.is_free-free.ensures) here)

pub returns-in_err-add-clause-no_read : goal.returns-in_err-add-clause-no_read
returns-in_err-add-clause-no_read c before now =
    passed_up c.from_residual.result c.in_err-add.field-0.0 (IsCaused before now) c.from_residual.ensures.1 (c.in_err-add.ensures.no_read before now)

pub loop-index-preserved : goal.loop-index-preserved
loop-index-preserved c =
    let a = c.args in
    let start : ℕ = a.chunk.now.start in
    let i : ℕ = c.loop-index.index in
    record {
      found = λ image bound next shows was.
          let e : start + i + 1 ≡ start + (i + 1) = omega arith in
          subst (λ (n : ℕ). GroupIsFound a.g.now image a.group n c.add.new.self) e
          (c.in_ok-add.ensures.taken image (start + i)
          (next_of a.g.now image a.group bound a.chunk.now a.sectors.now i (record { bytes = [] }) c.is_free-free.result next shows c.requires.sectors c.loop-index-test.true c.is_free-free.ensures)
          (c.loop-index.invariant.found image bound next shows was));
      counted = λ image bound next shows was.
          let here = c.in_ok-add.ensures.counted image (start + i)
          (next_of a.g.now image a.group bound a.chunk.now a.sectors.now i (record { bytes = [] }) c.is_free-free.result next shows c.requires.sectors c.loop-index-test.true c.is_free-free.ensures)
          (c.loop-index.invariant.found image bound next shows was) in
          omega (arith, here, c.loop-index.invariant.counted image bound next shows was, orphans_more a.g.now image a.group a.chunk.now i c.is_free-free.result c.is_free-free.ensures);
    }

pub returns-clause-taken : goal.returns-clause-taken
returns-clause-taken c image bound next shows was =
    let a = c.args in
    let e : c.loop-index.index ≡ 64 = omega (arith, c.loop-index.auto.index-end) in
    subst (λ (n : ℕ). GroupIsFound a.g.now image a.group (a.chunk.now.start + n) c.loop-index.self) e (c.loop-index.invariant.found image bound next shows was)

pub returns-clause-counted : goal.returns-clause-counted
returns-clause-counted c image bound next shows was =
    let a = c.args in
    let e : c.loop-index.index ≡ 64 = omega (arith, c.loop-index.auto.index-end) in
    let all = ap (orphans_to a.g.now image a.group a.chunk.now) e in
    omega (arith, all, c.loop-index.invariant.counted image bound next shows was, orphans_all a.g.now image a.group a.chunk.now)
