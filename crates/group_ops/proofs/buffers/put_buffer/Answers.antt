use Rattle.std.proofs.Common.{◌≡◌, ◌<◌, ℕ, List, [], length, set, get_or, ap, sym, ◌∙◌, subst}
use Rattle.life_bytes.specs.declared.sector.Sector.{Sector}
use Rattle.life_table.specs.Table.{start_of}
use Rattle.group_ops.specs.Buffers.{Buffers, BuffersAscend}
use Rattle.group_ops.specs.Changes.{set_buffer}
use Rattle.group_ops.proofs.Setting.{set_at, set_none, with_sector}
use Rattle.group_ops.proofs.buffers.put_buffer.Goals as goal

put_is : (chunks slice : List Buffers) (agino place : ℕ) (x new : Buffers) (s : Sector) → slice ≡ chunks → BuffersAscend chunks → place < length slice
    → ((d : Buffers) → (get_or slice place d).start ≡ start_of agino) → x ≡ get_or chunks place x → new ≡ with_sector x agino s → set chunks place new ≡ set_buffer chunks agino s
put_is chunks slice agino place x new s same ascends low found at is =
    ap (λ (b : Buffers). set chunks place b) (is ∙ ap (λ (b : Buffers). with_sector b agino s) at)
    ∙ set_at chunks agino place x s ascends (subst (λ (l : List Buffers). place < length l) same low) (subst (λ (l : List Buffers). (get_or l place x).start ≡ start_of agino) same (found x))

pub returns-in-Some-clause-set : goal.returns-in-Some-clause-set
returns-in-Some-clause-set c =
    put_is c.args.chunks.now.items c.as_slice.result.now c.args.agino c.in-Some.place c.index_mut.result.now c.put.new.self c.args.sector.now c.as_slice.ensures.value c.requires
    c.in-Some.ensures.within c.in-Some.ensures.found c.index_mut.ensures.value c.put.ensures

pub returns-in_default-clause-set : goal.returns-in_default-clause-set
returns-in_default-clause-set c =
    let d : Buffers = record { start = 0; sectors = [] } in
    let none = rw c.as_slice.ensures.value at c.in_default.ensures.none in
    sym (set_none c.args.chunks.now.items c.args.agino d c.args.sector.now (λ k low. none k d low))
