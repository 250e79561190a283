use Rattle.std.proofs.Common.{[], ◌∷◌, arith, refl}
use Rattle.tests_groups.proofs.Members.{contains_none, not_first}
use Rattle.tests_groups.proofs.buckets.Memory.new.Goals as goal

pub returns : goal.returns
returns c = c.pointers_give_one_list.ensures.empty _ refl
    (not_first 192 4294967295 (256 ∷ (320 ∷ [])) (λ e. absurd (omega arith))
    (not_first 256 4294967295 (320 ∷ []) (λ e. absurd (omega arith)) (not_first 320 4294967295 [] (λ e. absurd (omega arith)) (contains_none 4294967295))))
