use Rattle.std.proofs.Common.{sym, ◌∙◌}
use Rattle.std.proofs.lemmas.Bool.{false≢true}
use Rattle.group_ops.proofs.Keyed.{link_done, link_leads, too_many_links, seen_key}
use Rattle.group_ops.proofs.Told.{no_row_seen}
use Rattle.group_ops.proofs.state.GroupState.link.Goals as goal

pub unreachable-requires : goal.unreachable-requires
unreachable-requires c =
    let w = c.requires.row in
    let a = c.args in
    false≢true (no_row_seen w.0 w.1 a.key a.self.now.group c.agino_of-agino.result c.requires.own c.agino_of-agino.ensures.own (c.in_default.ensures.told w.0 w.1 w.2) ∙ w.3)

pub returns-then-core-eq-MAX_LINKS : goal.returns-then-core-eq-MAX_LINKS
returns-then-core-eq-MAX_LINKS c t layouts is =
    let a = c.args in
    let seen = seen_key c.encodings_follow_the_table.ensures.row a.self.now a.key c.agino_of-agino.result c.in-Some.core c.requires.own c.agino_of-agino.ensures.own c.in-Some.ensures.told c.requires.row t layouts is in
    too_many_links t a.key seen.row seen.has (sym seen.links ∙ c.if-core-eq-MAX_LINKS.true)

pub with_links-requires-clause-row : goal.with_links-requires-clause-row
with_links-requires-clause-row c =
    let a = c.args in
    let w = c.requires.row in
    let seen = seen_key c.encodings_follow_the_table.ensures.row a.self.now a.key c.agino_of-agino.result c.in-Some.core c.requires.own c.agino_of-agino.ensures.own c.in-Some.ensures.told w w.0 w.1 w.2 in
    (w.0, w.1, _, seen.row, seen.at)

pub with_commit-requires : goal.with_commit-requires
with_commit-requires c =
    let a = c.args in
    let w = c.requires.row in
    let seen = seen_key c.encodings_follow_the_table.ensures.row a.self.now a.key c.agino_of-agino.result c.in-Some.core c.requires.own c.agino_of-agino.ensures.own c.in-Some.ensures.told w w.0 w.1 w.2 in (
      w.0,
      w.1,
      _,
      _,
      link_leads c.groups_change_alone.ensures.own c.encodings_follow_the_table.ensures.row c.tables_stay_well_formed.ensures.call a.self.now c.in_ok-delta.delta w.0 w.1 a.key
          c.agino_of-agino.result c.in-Some.core c.requires.own c.agino_of-agino.ensures.own w.2 c.hold.ensures.inside seen c.if-core-eq-MAX_LINKS.false (λ inode row has table. c.in_ok-delta.ensures w.0 w.1 inode row has table),
    )

pub returns : goal.returns
returns c t layouts is =
    let a = c.args in
    let seen = seen_key c.encodings_follow_the_table.ensures.row a.self.now a.key c.agino_of-agino.result c.in-Some.core c.requires.own c.agino_of-agino.ensures.own c.in-Some.ensures.told c.requires.row t layouts is in
    let leads = link_leads c.groups_change_alone.ensures.own c.encodings_follow_the_table.ensures.row c.tables_stay_well_formed.ensures.call a.self.now c.in_ok-delta.delta t layouts a.key
    c.agino_of-agino.result c.in-Some.core c.requires.own c.agino_of-agino.ensures.own is c.hold.ensures.inside seen c.if-core-eq-MAX_LINKS.false (λ inode row has table. c.in_ok-delta.ensures t layouts inode row has table) in
    record {
      replies = link_done t a.key seen.row seen.has (λ e. c.if-core-eq-MAX_LINKS.false (seen.links ∙ e));
      tells = c.in_ok-with_commit.ensures t layouts _ _ leads;
    }
