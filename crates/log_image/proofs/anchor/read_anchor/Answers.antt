use Rattle.std.proofs.Common.{◌≡◌, ℕ, Some, ap, sym, ◌∙◌}
use Rattle.std.proofs.lemmas.Bool.{false≢true}
use Rattle.life_bytes.specs.Fields.{field}
use Rattle.life_bytes.specs.declared.sector.Sector.{Sector}
use Rattle.log_image.specs.declared.anchor.Anchor.{Anchor}
use Rattle.log_image.specs.Anchor.{anchor_sector}
use Rattle.log_image.proofs.Parts.{anchor_position, anchor_next}
use Rattle.log_image.proofs.anchor.read_anchor.Goals as goal

pub returns-then-is_anchor_of-clause-only : goal.returns-then-is_anchor_of-clause-only
returns-then-is_anchor_of-clause-only c position next low small encoded =
    let at : c.field_u64.result ≡ position = c.field_u64.ensures ∙ ap (λ (s : Sector). field 8 8 s.bytes) encoded ∙ anchor_position position next low in
    let number : c.field_u64-2.result ≡ next = c.field_u64-2.ensures ∙ ap (λ (s : Sector). field 8 16 s.bytes) encoded ∙ anchor_next position next small in
    let of : ℕ → ℕ → Anchor = λ p n. record { position = p; next_commit = n } in
    ap Some (ap (λ (p : ℕ). of p c.field_u64-2.result) at ∙ ap (λ (n : ℕ). of position n) number)

pub returns-else-is_anchor_of-clause-only : goal.returns-else-is_anchor_of-clause-only
returns-else-is_anchor_of-clause-only c position next low small encoded =
    let at : c.field_u64.result ≡ position = c.field_u64.ensures ∙ ap (λ (s : Sector). field 8 8 s.bytes) encoded ∙ anchor_position position next low in
    let number : c.field_u64-2.result ≡ next = c.field_u64-2.ensures ∙ ap (λ (s : Sector). field 8 16 s.bytes) encoded ∙ anchor_next position next small in
    let here : c.args.sector.now ≡ anchor_sector c.field_u64.result c.field_u64-2.result =
    encoded ∙ ap (λ (p : ℕ). anchor_sector p next) (sym at) ∙ ap (λ (n : ℕ). anchor_sector c.field_u64.result n) (sym number) in
    absurd (false≢true (sym c.if-is_anchor_of.false ∙ c.is_anchor_of.ensures.1 here))
