use Rattle.std.proofs.Common.{◌≡◌, true, false, Some, None, is_some, if◌then◌else◌, sym, ap, ◌∙◌}
use Rattle.life_table.specs.Space.{lowest_key, chunk_place, with_chunk, prepared, insert_chunk}
use Rattle.plain_table.proofs.Spaces.{prepared-is}
use Rattle.plain_table.proofs.space.prepare_group.Goals as goal

pub returns-then-is_some : goal.returns-then-is_some
returns-then-is_some c =
    let some : is_some (lowest_key c.args.g c.args.group.now) ≡ true = ap is_some (sym c.find_lowest_key.ensures) ∙ sym c.is_some.ensures ∙ c.if-is_some.true in
    let is : prepared c.args.blocks c.args.g c.args.group.now ≡ c.args.group.now =
    prepared-is c.args.blocks c.args.g c.args.group.now ∙ ap (λ b. if b then c.args.group.now else with_chunk c.args.group.now (chunk_place c.args.blocks c.args.group.now)) some in
    rw is c.copy_group.ensures

pub returns-in_ok-make_chunk-in-Some : goal.returns-in_ok-make_chunk-in-Some
returns-in_ok-make_chunk-in-Some c =
    let none : is_some (lowest_key c.args.g c.args.group.now) ≡ false = ap is_some (sym c.find_lowest_key.ensures) ∙ sym c.is_some.ensures ∙ c.if-is_some.false in
    let place : chunk_place c.args.blocks c.args.group.now ≡ Some c.in-Some.block = sym c.place_for_chunk.ensures.lowest ∙ c.in-Some.is in
    let is : prepared c.args.blocks c.args.g c.args.group.now ≡ insert_chunk c.in_ok-make_chunk-in-Some.field-0 c.args.group.now =
    prepared-is c.args.blocks c.args.g c.args.group.now ∙ ap (λ b. if b then c.args.group.now else with_chunk c.args.group.now (chunk_place c.args.blocks c.args.group.now)) none
    ∙ ap (with_chunk c.args.group.now) place ∙ ap (λ chunk. insert_chunk chunk c.args.group.now) (sym c.in_ok-make_chunk-in-Some.ensures) in
    rw is c.with_chunk_in_order.ensures

pub returns-in-None : goal.returns-in-None
returns-in-None c =
    let none : is_some (lowest_key c.args.g c.args.group.now) ≡ false = ap is_some (sym c.find_lowest_key.ensures) ∙ sym c.is_some.ensures ∙ c.if-is_some.false in
    let place : chunk_place c.args.blocks c.args.group.now ≡ None = sym c.place_for_chunk.ensures.lowest ∙ c.in-None.is in
    let is : prepared c.args.blocks c.args.g c.args.group.now ≡ c.args.group.now =
    prepared-is c.args.blocks c.args.g c.args.group.now ∙ ap (λ b. if b then c.args.group.now else with_chunk c.args.group.now (chunk_place c.args.blocks c.args.group.now)) none
    ∙ ap (with_chunk c.args.group.now) place in
    rw is c.copy_group-in-None.ensures
