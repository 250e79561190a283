use Rattle.std.proofs.Common.{◌≡◌, ℕ, List, Some, if◌then◌else◌, subst, sym, ◌∙◌}
use Rattle.std.specs.Str.{bytes_eq}
use Rattle.script_names.specs.Bindings.{AreNames, found, pairs}
use Rattle.script_names.proofs.Bound.{bound_more}
use Rattle.script_names.proofs.Bytes.{found_after}
use Rattle.script_names.proofs.names.Names.bind.Goals as goal

pub returns-clause-bound : goal.returns-clause-bound
returns-clause-bound c bound are =
    let old = pairs c.self.inside.keys.entries in
    let new = pairs c.insert.new.self.entries in
    let same : c.in_ok-bytes.bytes.items ≡ c.args.name.now = c.in_ok-bytes.ensures.items ∙ c.bytes.ensures.bytes in
    bound_more bound c.args.name.now c.args.key old new (subst (AreNames bound) (sym c.self.view_is) are) (λ other.
    subst (λ (l : List ℕ). found new other ≡ (if bytes_eq other l then Some c.args.key else found old other)) same
    (found_after c.in_ok-bytes.bytes.items c.self.inside.keys c.insert.new.self (Some c.args.key) c.in_ok-insert.ensures.updates other))
