use Rattle.std.proofs.Common.{◌≡◌, ◌&&◌, Some, Option, true, eqb, sym, ap, ◌∙◌}
use Rattle.std.proofs.lemmas.Bool.{false≢true}
use Rattle.life_table.specs.declared.types.Row.{Row}
use Rattle.life_table.specs.declared.types.Call.TheVariants.{Stat}
use Rattle.life_table.specs.declared.table.Inode.{Inode}
use Rattle.life_table.specs.Replies.{key_reply}
use Rattle.life_table.specs.Table.{group_at, inode_in, row_in_life, row_of}
use Rattle.group_ops.proofs.Seen.{extents_told, seen_in}
use Rattle.group_ops.proofs.Told.{no_row_seen, own_inode, row_seen}
use Rattle.group_ops.proofs.state.GroupState.stat.Goals as goal

pub unreachable-requires : goal.unreachable-requires
unreachable-requires c =
    let w = c.requires.row in
    let a = c.args in
    false≢true (no_row_seen w.0 w.1 a.key a.self.now.group c.agino_of-agino.result c.requires.own c.agino_of-agino.ensures.own (c.in_default.ensures.told w.0 w.1 w.2) ∙ w.3)

pub runs_at-requires-clause-used : goal.runs_at-requires-clause-used
runs_at-requires-clause-used c =
    let w = c.requires.row in
    let a = c.args in
    let core = c.in-Some.core in
    let told = c.in-Some.ensures.told w.0 w.1 w.2 in
    let life : (core.live && eqb core.generation a.key.generation) ≡ true =
    row_seen w.0 w.1 a.key a.self.now.group c.agino_of-agino.result core c.requires.own c.agino_of-agino.ensures.own told ∙ w.3 in
    let seen = seen_in w.1 a.self.now.group c.agino_of-agino.result a.key.generation core (inode_in (group_at w.0 a.self.now.group) c.agino_of-agino.result) told life in
    (w.0, w.1, seen.inode, seen.row, record { group = w.2; inode_there = seen.there; used = seen.used })

pub runs_at-requires-clause-many : goal.runs_at-requires-clause-many
runs_at-requires-clause-many c t layouts inode row has =
    extents_told c.args.self.now t layouts c.agino_of-agino.result c.in-Some.core inode row has (c.in-Some.ensures.told t layouts has.group)

pub returns : goal.returns
returns c t layouts is =
    let w = c.requires.row in
    let a = c.args in
    let core = c.in-Some.core in
    let life : (core.live && eqb core.generation a.key.generation) ≡ true =
    row_seen w.0 w.1 a.key a.self.now.group c.agino_of-agino.result core c.requires.own c.agino_of-agino.ensures.own (c.in-Some.ensures.told w.0 w.1 w.2) ∙ w.3 in
    let seen = seen_in layouts a.self.now.group c.agino_of-agino.result a.key.generation core (inode_in (group_at t a.self.now.group) c.agino_of-agino.result) (c.in-Some.ensures.told t layouts is) life in
    let rowed : row_of t a.key ≡ Some seen.row =
    ap (λ (o : Option Inode). row_in_life a.key.generation o) (sym (own_inode t a.key a.self.now.group c.agino_of-agino.result c.requires.own c.agino_of-agino.ensures.own)) ∙ seen.of in
    let found = c.in_ok-runs.ensures t layouts seen.inode seen.row record { group = is; inode_there = seen.there; used = seen.used } in
    let reply : key_reply t (row_of t a.key) (Stat a.key) ≡ key_reply t (Some seen.row) (Stat a.key) = ap (λ (o : Option Row). key_reply t o (Stat a.key)) rowed in
    cc (reply, found, seen.links, seen.blocks, c.from_vec.ensures)
