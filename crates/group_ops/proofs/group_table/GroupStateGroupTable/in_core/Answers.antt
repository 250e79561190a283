use Rattle.std.proofs.Common.{◌≡◌, ◌<◌, ◌≤◌, ℕ, true, false, Option, None, Some, ◌∙◌}
use Rattle.std.specs.Prelude.{IfNone, IfSome, is_some}
use Rattle.group_core.specs.InCore.{is_in_core}
use Rattle.group_ops.specs.OwnTable.{told_cached}
use Rattle.group_ops.specs.Values.{StateValue, kept_at}
use Rattle.group_ops.proofs.Caching.{told_some}
use Rattle.group_ops.proofs.group_table.GroupStateGroupTable.in_core.Goals as goal

found : (s : StateValue) (from : ℕ) (r : Option ℕ) → IfSome r (λ n. (from ≤ n) × (is_some (kept_at s n) ≡ true)) → IfSome r (λ n. (from ≤ n) × (is_in_core (told_cached (kept_at s n)) ≡ true))
found s from None is = tt
found s from (Some n) is = (is.0, told_some (kept_at s n) ∙ is.1)

least : (s : StateValue) (from : ℕ) (r : Option ℕ) → IfSome r (λ n. (k : ℕ) → from ≤ k → k < n → is_some (kept_at s k) ≡ false)
    → IfSome r (λ n. (k : ℕ) → from ≤ k → k < n → is_in_core (told_cached (kept_at s k)) ≡ false)
least s from None is = tt
least s from (Some n) is = λ k low high. told_some (kept_at s k) ∙ is k low high

none : (s : StateValue) (from : ℕ) (r : Option ℕ) → IfNone r ((k : ℕ) → from ≤ k → is_some (kept_at s k) ≡ false) → IfNone r ((k : ℕ) → from ≤ k → is_in_core (told_cached (kept_at s k)) ≡ false)
none s from None is = λ k low. told_some (kept_at s k) ∙ is k low
none s from (Some n) is = tt

pub returns-clause-found : goal.returns-clause-found
returns-clause-found c = found c.args.self.now c.args.from c.first_in_core.result c.first_in_core.ensures.found

pub returns-clause-least : goal.returns-clause-least
returns-clause-least c = least c.args.self.now c.args.from c.first_in_core.result c.first_in_core.ensures.least

pub returns-clause-none : goal.returns-clause-none
returns-clause-none c = none c.args.self.now c.args.from c.first_in_core.result c.first_in_core.ensures.none
