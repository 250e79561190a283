use Rattle.std.proofs.Common.{◌≡◌, ◌+◌, ◌++◌, ℕ, None, List, get_or, take, sym, ap, ◌∙◌, arith, append_assoc}
use Rattle.std.proofs.lemmas.List.{append-nil, take_all}
use Rattle.std.proofs.lemmas.Option.{slice_get-get_or}
use Rattle.geometry.specs.Places.{number_in}
use Rattle.life_table.specs.declared.table.Inode.{Inode}
use Rattle.group_ops.specs.declared.rows.RowLine.{RowLine}
use Rattle.group_ops.specs.Rows.{line_of, rows_from}
use Rattle.group_ops.proofs.RowLines.{rows_more, rows_none}
use Rattle.group_ops.proofs.state.GroupState.add_lines.Goals as goal

pub loop-index-init : goal.loop-index-init
loop-index-init c t layouts inodes is has =
    let n : ℕ = number_in c.args.self.now.group c.args.start in
    sym (ap (λ (l : List RowLine). c.args.lines.now.items ++ l) (rows_none n) ∙ append-nil c.args.lines.now.items)

pub loop-index-preserved : goal.loop-index-preserved
loop-index-preserved c t layouts inodes is has =
    let n : ℕ = number_in c.args.self.now.group c.args.start in
    let i : ℕ = c.loop-index.index in
    let x : Inode = get_or inodes i record { generation = 0; row = None } in
    let at = slice_get-get_or inodes i record { generation = 0; row = None } (omega (arith, has.whole, c.loop-index-test.true)) in
    let e : number_in c.args.self.now.group (c.args.start + i) ≡ n + i = omega arith in
    let added = c.in_ok-add_line.ensures t layouts x is (has.each i x at) in
    added
    ∙ ap (λ (l : List RowLine). l ++ line_of (number_in c.args.self.now.group (c.args.start + i)) x) (c.loop-index.invariant t layouts inodes is has)
    ∙ append_assoc c.args.lines.now.items (rows_from n (take i inodes)) (line_of (number_in c.args.self.now.group (c.args.start + i)) x)
    ∙ ap (λ (k : ℕ). c.args.lines.now.items ++ (rows_from n (take i inodes) ++ line_of k x)) e
    ∙ ap (λ (l : List RowLine). c.args.lines.now.items ++ l) (sym (rows_more n inodes i x at))

pub returns : goal.returns
returns c t layouts inodes is has =
    let n : ℕ = number_in c.args.self.now.group c.args.start in
    let whole : take c.loop-index.index inodes ≡ inodes = take_all c.loop-index.index inodes (omega (arith, has.whole)) in
    c.loop-index.invariant t layouts inodes is has ∙ ap (λ (l : List Inode). c.args.lines.now.items ++ rows_from n l) whole
