use Rattle.std.proofs.Common.{◌≡◌, ℕ, true, false, eqb, None, ap, sym, subst, ◌∙◌}
use Rattle.sound_image.specs.Encoding.{Layouts}
use Rattle.group_ops.specs.Relinks.{Relinks, next_of}
use Rattle.group_ops.proofs.Relisting.{agree, heads_stay, links_of, listed_again, listed_first, listed_no_more, pointer_of, stands_again, stands_first, stands_no_more, unlinked_by, was_false, was_true}
use Rattle.group_ops.proofs.state.GroupState.relink.Goals as goal

pub returns-then-was_unlinked-unlinked-clause-pointers : goal.returns-then-was_unlinked-unlinked-clause-pointers
returns-then-was_unlinked-unlinked-clause-pointers c t layouts inode row has =
    let a = c.args in
    let links = links_of layouts a.self.now.group a.agino inode row a.core.now has.used (c.requires.core t layouts inode row has) in
    let same : eqb row.links 0 ≡ a.unlinked = ap (λ (n : ℕ). eqb n 0) (sym links) ∙ agree (eqb a.core.now.links 0) a.unlinked c.if-was_unlinked-unlinked.true in
    subst (λ (l : Layouts). Relinks a.self.now t layouts l a.agino None None) (sym (listed_again layouts a.self.now.group a.agino (eqb row.links 0) a.unlinked same))
    (heads_stay a.self.now t layouts a.agino has.group)

pub returns-then-was_unlinked-unlinked-clause-next : goal.returns-then-was_unlinked-unlinked-clause-next
returns-then-was_unlinked-unlinked-clause-next c t layouts inode row has =
    let a = c.args in
    let core = c.requires.core t layouts inode row has in
    let links = links_of layouts a.self.now.group a.agino inode row a.core.now has.used core in
    let same : eqb row.links 0 ≡ a.unlinked = ap (λ (n : ℕ). eqb n 0) (sym links) ∙ agree (eqb a.core.now.links 0) a.unlinked c.if-was_unlinked-unlinked.true in
    pointer_of layouts a.self.now.group a.agino inode row a.core.now has.used core
    ∙ ap (λ (l : Layouts). next_of l a.self.now.group a.agino) (sym (listed_again layouts a.self.now.group a.agino (eqb row.links 0) a.unlinked same))

pub returns-then-was_unlinked-unlinked-clause-stands : goal.returns-then-was_unlinked-unlinked-clause-stands
returns-then-was_unlinked-unlinked-clause-stands c t layouts inode row has =
    let a = c.args in
    let links = links_of layouts a.self.now.group a.agino inode row a.core.now has.used (c.requires.core t layouts inode row has) in
    stands_again layouts a.self.now.group a.agino (eqb row.links 0) a.unlinked
    (ap (λ (n : ℕ). eqb n 0) (sym links) ∙ agree (eqb a.core.now.links 0) a.unlinked c.if-was_unlinked-unlinked.true)

pub put_first-requires-clause-elsewhere : goal.put_first-requires-clause-elsewhere
put_first-requires-clause-elsewhere c =
    let a = c.args in
    let w = c.requires.row in
    let links = links_of w.1 a.self.now.group a.agino w.2 w.3 a.core.now w.4.used (c.requires.core w.0 w.1 w.2 w.3 w.4) in (
      w.0,
      w.1,
      w.4.group,
      unlinked_by a.self.now w.0 w.1 a.agino w.2 w.3 false w.4
          (ap (λ (n : ℕ). eqb n 0) (sym links) ∙ was_false (eqb a.core.now.links 0) a.unlinked c.if-was_unlinked-unlinked.false c.if-unlinked.true),
    )

pub returns-then-unlinked-clause-pointers : goal.returns-then-unlinked-clause-pointers
returns-then-unlinked-clause-pointers c t layouts inode row has =
    let a = c.args in
    let links = links_of layouts a.self.now.group a.agino inode row a.core.now has.used (c.requires.core t layouts inode row has) in
    let was : eqb row.links 0 ≡ false = ap (λ (n : ℕ). eqb n 0) (sym links) ∙ was_false (eqb a.core.now.links 0) a.unlinked c.if-was_unlinked-unlinked.false c.if-unlinked.true in
    subst (λ (l : Layouts). Relinks a.self.now t layouts l a.agino c.put_first.result.head c.put_first.result.prior)
    (sym (listed_first layouts a.self.now.group a.agino (eqb row.links 0) a.unlinked was c.if-unlinked.true))
    (c.put_first.ensures.pointers t layouts has.group (unlinked_by a.self.now t layouts a.agino inode row false has was))

pub returns-then-unlinked-clause-next : goal.returns-then-unlinked-clause-next
returns-then-unlinked-clause-next c t layouts inode row has =
    let a = c.args in
    let links = links_of layouts a.self.now.group a.agino inode row a.core.now has.used (c.requires.core t layouts inode row has) in
    let was : eqb row.links 0 ≡ false = ap (λ (n : ℕ). eqb n 0) (sym links) ∙ was_false (eqb a.core.now.links 0) a.unlinked c.if-was_unlinked-unlinked.false c.if-unlinked.true in
    c.put_first.ensures.next t layouts has.group (unlinked_by a.self.now t layouts a.agino inode row false has was)
    ∙ ap (λ (l : Layouts). next_of l a.self.now.group a.agino) (sym (listed_first layouts a.self.now.group a.agino (eqb row.links 0) a.unlinked was c.if-unlinked.true))

pub returns-then-unlinked-clause-stands : goal.returns-then-unlinked-clause-stands
returns-then-unlinked-clause-stands c t layouts inode row has =
    let a = c.args in
    let links = links_of layouts a.self.now.group a.agino inode row a.core.now has.used (c.requires.core t layouts inode row has) in
    let was : eqb row.links 0 ≡ false = ap (λ (n : ℕ). eqb n 0) (sym links) ∙ was_false (eqb a.core.now.links 0) a.unlinked c.if-was_unlinked-unlinked.false c.if-unlinked.true in
    stands_first layouts a.self.now.group a.agino (eqb row.links 0) a.unlinked c.put_first.result.head c.put_first.result.prior was c.if-unlinked.true c.put_first.ensures.first

pub take_out-requires : goal.take_out-requires
take_out-requires c =
    let a = c.args in
    let w = c.requires.row in
    let links = links_of w.1 a.self.now.group a.agino w.2 w.3 a.core.now w.4.used (c.requires.core w.0 w.1 w.2 w.3 w.4) in
    record {
      unlinked = (
        w.0,
        w.1,
        w.4.group,
        unlinked_by a.self.now w.0 w.1 a.agino w.2 w.3 true w.4
            (ap (λ (n : ℕ). eqb n 0) (sym links) ∙ was_true (eqb a.core.now.links 0) a.unlinked c.if-was_unlinked-unlinked.false c.if-unlinked.false),
      );
    }

pub returns-clause-pointers : goal.returns-clause-pointers
returns-clause-pointers c t layouts inode row has =
    let a = c.args in
    let links = links_of layouts a.self.now.group a.agino inode row a.core.now has.used (c.requires.core t layouts inode row has) in
    let was : eqb row.links 0 ≡ true = ap (λ (n : ℕ). eqb n 0) (sym links) ∙ was_true (eqb a.core.now.links 0) a.unlinked c.if-was_unlinked-unlinked.false c.if-unlinked.false in
    subst (λ (l : Layouts). Relinks a.self.now t layouts l a.agino c.take_out.result.head c.take_out.result.prior)
    (sym (listed_no_more layouts a.self.now.group a.agino (eqb row.links 0) a.unlinked was c.if-unlinked.false))
    (c.take_out.ensures.pointers t layouts has.group (unlinked_by a.self.now t layouts a.agino inode row true has was))

pub returns-clause-next : goal.returns-clause-next
returns-clause-next c t layouts inode row has =
    let a = c.args in
    let links = links_of layouts a.self.now.group a.agino inode row a.core.now has.used (c.requires.core t layouts inode row has) in
    let was : eqb row.links 0 ≡ true = ap (λ (n : ℕ). eqb n 0) (sym links) ∙ was_true (eqb a.core.now.links 0) a.unlinked c.if-was_unlinked-unlinked.false c.if-unlinked.false in
    c.take_out.ensures.next t layouts has.group (unlinked_by a.self.now t layouts a.agino inode row true has was)
    ∙ ap (λ (l : Layouts). next_of l a.self.now.group a.agino) (sym (listed_no_more layouts a.self.now.group a.agino (eqb row.links 0) a.unlinked was c.if-unlinked.false))

pub returns-clause-stands : goal.returns-clause-stands
returns-clause-stands c t layouts inode row has =
    let a = c.args in
    let links = links_of layouts a.self.now.group a.agino inode row a.core.now has.used (c.requires.core t layouts inode row has) in
    let was : eqb row.links 0 ≡ true = ap (λ (n : ℕ). eqb n 0) (sym links) ∙ was_true (eqb a.core.now.links 0) a.unlinked c.if-was_unlinked-unlinked.false c.if-unlinked.false in
    stands_no_more layouts a.self.now.group a.agino (eqb row.links 0) a.unlinked c.take_out.result.head c.take_out.result.prior was c.if-unlinked.false
    (c.take_out.ensures.place t layouts has.group (unlinked_by a.self.now t layouts a.agino inode row true has was))
