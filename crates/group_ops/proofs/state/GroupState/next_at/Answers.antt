use Rattle.std.proofs.Common.{sym, ◌∙◌}
use Rattle.life_table.specs.Table.{group_at, inode_in}
use Rattle.group_ops.proofs.Shown.{end_told, ends_elsewhere, next_told}
use Rattle.group_ops.proofs.state.GroupState.next_at.Goals as goal

pub returns-in-Some : goal.returns-in-Some
returns-in-Some c =
    let s = c.args.self.now in
    let w = c.requires.group in
    let shows = c.pointers_show_lists.ensures w.0 w.1 w.2 in
    next_told w.1 s.group c.args.agino c.in-Some.core (inode_in (group_at w.0 s.group) c.args.agino) (c.in-Some.ensures.told w.0 w.1 w.2) (ends_elsewhere s w.0 w.1 w.2 shows.inside c.args.agino)
    ∙ sym (shows.nexts c.args.agino)

pub returns-in-None : goal.returns-in-None
returns-in-None c =
    let s = c.args.self.now in
    let w = c.requires.group in
    let shows = c.pointers_show_lists.ensures w.0 w.1 w.2 in
    end_told w.1 s.group c.args.agino (inode_in (group_at w.0 s.group) c.args.agino) (c.in-None.ensures.told w.0 w.1 w.2) (ends_elsewhere s w.0 w.1 w.2 shows.inside c.args.agino)
    ∙ sym (shows.nexts c.args.agino)
