use Rattle.std.proofs.Common.{◌≡◌, sym, ap, ◌∙◌}
use Rattle.tests_groups.specs.Sample.{sample_table}
use Rattle.tests_groups.specs.declared.groups.Sample.{Sample}
use Rattle.tests_groups.proofs.Sampled.{unlink_happens}
use Rattle.tests_groups.proofs.groups.a_group_keeps_its_entries_and_makes_its_changes.Goals as goal

pub commit-requires-clause-legal : goal.commit-requires-clause-legal
commit-requires-clause-legal g c =
    let one : c.reserve-2.new.self.state.links ≡ 1 =
    ap (λ (s : Sample). s.links) c.reserve-2.ensures.same ∙ ap (λ (s : Sample). s.links) c.note.ensures.state ∙ ap (λ (s : Sample). s.links) c.reserve.ensures.same ∙ ap (λ (s : Sample). s.links) c.in_ok-group.ensures.begun.0 ∙ ap (λ (s : Sample). s.links) c.with_links.ensures in
    let same = c.take_commit.ensures.same in (
      sample_table 0,
      (sym same.0 ∙ c.new-unlink.ensures.from ∙ sym one, ap sample_table (sym c.new-unlink.ensures.to ∙ same.1)),
      unlink_happens c.reserve-2.new.self.state.links c.made-2.result.event one c.made-2.ensures,
    )
