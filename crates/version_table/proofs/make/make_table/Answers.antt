use Rattle.std.proofs.Common.{◌∙◌, rules}
use Rattle.version_table.proofs.StepsKeep.{begins-at}
use Rattle.version_table.proofs.make.make_table.Goals as goal

pub of_words-requires : goal.of_words-requires
of_words-requires c = begins-at _ _ _ (search rules) (c.as_slice.ensures.value ∙ c.in_ok-zeros.ensures.items_if_clones_equal (λ y same. same))
