use Rattle.std.proofs.Common.{ℕ, List, ap, ◌∙◌}
use Rattle.script_names.specs.Bindings.{found, pairs}
use Rattle.script_names.proofs.Bytes.{found_by}
use Rattle.script_names.proofs.names.Names.key_of.Goals as goal

pub returns : goal.returns
returns c =
    c.copied.ensures ∙ c.get.ensures.value ∙ found_by c.bytes.result.now c.self.inside.keys.entries
    ∙ ap (found (pairs c.self.inside.keys.entries)) c.bytes.ensures.bytes
    ∙ ap (λ (names : List (List ℕ × _)). found names c.args.name.now) c.self.view_is
