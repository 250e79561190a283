use Rattle.std.proofs.Common.{ap}
use Rattle.version_table.specs.Story.{known_of}
use Rattle.version_table.specs.Ends.{KeeperState}
use Rattle.tests_words.proofs.Made.{second_keeper}
use Rattle.tests_words.proofs.versions.new_parts.Goals as goal

pub returns-clause-keeper : goal.returns-clause-keeper
returns-clause-keeper c =
    let is = second_keeper _ _ _ _ c.in_ok-parts.ensures c.remove.ensures.value in
    (ap (λ (k : KeeperState). k.versions) is, ap (λ (k : KeeperState). k.group) is)

pub returns-clause-new : goal.returns-clause-new
returns-clause-new c =
    ap (λ (k : KeeperState). known_of 1 k.story.lines) (second_keeper _ _ _ _ c.in_ok-parts.ensures c.remove.ensures.value)
