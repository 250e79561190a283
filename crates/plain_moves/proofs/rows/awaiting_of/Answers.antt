use Rattle.std.proofs.Common.{◌≡◌, ◌*◌, [], List, IfOk, slice_index_or, sym, ap, subst, ◌∙◌, arith}
use Rattle.std.proofs.lemmas.Grind.{common_steps}
use Rattle.std.proofs.lemmas.Option.{gets}
use Rattle.life_limits.specs.declared.TheConstants.{GROUP_NUMBERS}
use Rattle.life_table.specs.declared.key.Key.{Key}
use Rattle.life_table.specs.Table.{Group}
use Rattle.actor_world.specs.Moves.{awaiting_of}
use Rattle.plain_moves.specs.Parts.{awaiting_among}
use Rattle.plain_moves.proofs.rows.awaiting_of.Goals as goal

pub returns-in-Some : goal.returns-in-Some
unfolding awaiting_of
returns-in-Some c =
    let here : slice_index_or c.args.table.now.groups c.args.g [] ≡ c.in-Some.group.now = grind (arith, common_steps, gets) in
    let whole : awaiting_among (c.args.g * c.from.result) c.as_slice-in-Some.result.now ≡ awaiting_of c.args.table.now c.args.g =
    (λ j. awaiting_among (c.args.g * c.from.ensures j) ((c.as_slice-in-Some.ensures ∙ sym here) j)) in
    subst (λ (keys : List Key). IfOk c.awaiting_among.result (λ found. found.items ≡ keys)) whole c.awaiting_among.ensures

pub returns-in-None : goal.returns-in-None
unfolding awaiting_of
returns-in-None c =
    let here : slice_index_or c.args.table.now.groups c.args.g [] ≡ [] = grind (arith, common_steps, gets) in
    c.new.ensures.items ∙ sym (ap (λ (group : Group). awaiting_among (c.args.g * GROUP_NUMBERS) group) here)
