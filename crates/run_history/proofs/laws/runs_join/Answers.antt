use Rattle.std.proofs.Common.{◌≡◌, ◌≤◌, ◌+◌, ℕ, ap, sym, subst, ◌∙◌, arith}
use Rattle.run_history.specs.Mounts.{acknowledged, changes_made, table_after}
use Rattle.run_history.proofs.Joins.{left_of}
use Rattle.run_history.proofs.laws.runs_join.Goals as goal

pub returns-clause-kept : goal.returns-clause-kept
returns-clause-kept c = λ first number mounts m cells image t d safe last is represents.
    let left = left_of first number mounts m cells image safe last is in
    let same = c.images_represent_one_table.ensures image t (table_after m left.0) d (m.story.base + left.0) represents left.1.represents in
    (left.0, same.1, same.0, left.1.acknowledged, left.1.made)

pub returns-clause-begins : goal.returns-clause-begins
returns-clause-begins c = λ first number mounts m next cells image safe last is represents base.
    let left = left_of first number mounts m cells image safe last is in
    let same = c.images_represent_one_table.ensures image next.start (table_after m left.0) next.story.base (m.story.base + left.0) represents left.1.represents in
    let number_is : m.story.base + next.story.kept ≡ m.story.base + left.0 = sym base ∙ same.1 in
    let kept : next.story.kept ≡ left.0 = omega (arith, number_is) in
    record {
      start = same.0 ∙ ap (table_after m) (sym kept);
      acknowledged = subst (λ (n : ℕ). acknowledged m ≤ n) (sym kept) left.1.acknowledged;
      made = subst (λ (n : ℕ). n ≤ changes_made m.story) (sym kept) left.1.made;
      base = base;
    }
