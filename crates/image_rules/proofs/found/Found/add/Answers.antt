use Rattle.std.proofs.Common.{◌≡◌, ◌+◌, ℕ, cond, eqb, length, inl, inr, arith, refl, ap, sym, subst, ◌∙◌}
use Rattle.std.proofs.lemmas.Bool.{cases_eq, ne_eqb}
use Rattle.image_rules.specs.Counted.{one_if_orphan}
use Rattle.life_table.specs.declared.types.Row.{Row}
use Rattle.sound_image.specs.Reading.{core_of, blocks_in}
use Rattle.image_rules.specs.Gathered.{row_unless}
use Rattle.image_rules.specs.Listing.{Noted}
use Rattle.image_rules.specs.declared.links.Links.{Links}
use Rattle.image_rules.proofs.Finding.{reached}
use Rattle.image_rules.proofs.Gathering.{Gathered-free, live_of, row_found}
use Rattle.image_rules.proofs.Noting.{Noted-free, absent_here}
use Rattle.image_rules.proofs.Outcomes.{OnOk-more}
use Rattle.image_rules.proofs.found.Found.add.Goals as goal

pub returns-in_default-clause-wrong : goal.returns-in_default-clause-wrong
returns-in_default-clause-wrong c image bound next was =
    let a = c.args in
    let g = a.g.now in
    let here = reached g image a.group bound a.agino a.sector.now.bytes a.free a.self.now next was in (
      refl,
      record {
        agino = a.agino;
        place = c.sector_at.ensures.place;
        inode = next.inode;
        found = next.found;
        wrong = c.in_default.ensures.wrong image next.inode next.shown (live_of g image a.group a.agino a.free next.inode next.row);
        before = here.space.cores;
      },
    )

pub returns-then-free-clause-taken : goal.returns-then-free-clause-taken
returns-then-free-clause-taken c image bound next was =
    let a = c.args in
    let g = a.g.now in
    let s = a.self.now in
    let here = reached g image a.group bound a.agino a.sector.now.bytes a.free s next was in
    let right = c.in-Some.ensures.right image next.inode next.shown (live_of g image a.group a.agino a.free next.inode next.row) in
    let free = next.row ∙ ap (row_unless g image a.group a.agino) c.if-free.true in
    record {
      space = Gathered-free g image a.group a.agino s.map s.fork s.shared next.inode here.space next.found free right.0;
      links = Noted-free g image a.group a.agino s.links.orphans.entries s.links.pointing (row_found g image a.group a.agino next.inode next.found ∙ free) here.links;
    }

pub returns-clause-taken : goal.returns-clause-taken
returns-clause-taken c image bound next was =
    let a = c.args in
    let g = a.g.now in
    let here = reached g image a.group bound a.agino a.sector.now.bytes a.free a.self.now next was in
    let right = c.in-Some.ensures.right image next.inode next.shown (live_of g image a.group a.agino a.free next.inode next.row) in
    let in_use = next.row ∙ ap (row_unless g image a.group a.agino) c.if-free.false in
    let row : Row = record { links = (core_of g image a.group a.agino).links; blocks = blocks_in g image a.group a.agino; opens = 0 } in
    let noted = c.in_ok-note.ensures.noted g image a.group row right.1 (row_found g image a.group a.agino next.inode next.found ∙ in_use) (ap (λ core. core.links) right.1) here.links in
    let same : c.add_live.new.self.links ≡ c.note.new.self = c.add_live.ensures.links in
    OnOk-more c.add_live.result (c.add_live.ensures.taken image next.inode next.shown right.1 next.found in_use right.0 here.space)
    (λ space. record {
      space = space;
      links = subst (λ (l : Links). Noted g image a.group (a.agino + 1) l.orphans.entries l.pointing) (sym same) noted;
    })

pub returns-then-free-clause-counted : goal.returns-then-free-clause-counted
returns-then-free-clause-counted c image bound next was =
    let a = c.args in
    let none : one_if_orphan (row_unless a.g.now image a.group a.agino a.free) ≡ 0 = ap (λ free. one_if_orphan (row_unless a.g.now image a.group a.agino free)) c.if-free.true in
    omega (arith, none)

pub returns-clause-counted : goal.returns-clause-counted
returns-clause-counted c image bound next was =
    let a = c.args in
    let g = a.g.now in
    let old = a.self.now.links.orphans.entries in
    let here = reached g image a.group bound a.agino a.sector.now.bytes a.free a.self.now next was in
    let right = c.in-Some.ensures.right image next.inode next.shown (live_of g image a.group a.agino a.free next.inode next.row) in
    let links = ap (λ core. core.links) right.1 in
    let same : length c.add_live.new.self.links.orphans.entries ≡ length c.note.new.self.orphans.entries = ap (λ (l : Links). length l.orphans.entries) c.add_live.ensures.links in
    let row : one_if_orphan (row_unless g image a.group a.agino a.free) ≡ cond (eqb (core_of g image a.group a.agino).links 0) 1 0 =
    ap (λ free. one_if_orphan (row_unless g image a.group a.agino free)) c.if-free.false in
    let counted : length c.note.new.self.orphans.entries ≡ length old + cond (eqb (core_of g image a.group a.agino).links 0) 1 0 =
    elim (cases_eq (core_of g image a.group a.agino).links 0) [
      | inl e ↦
          let one : ◌≡◌ {A = ℕ} (cond (eqb (core_of g image a.group a.agino).links 0) 1 0) 1 = ap (λ (n : ℕ). cond (eqb n 0) 1 0) e in
          omega (arith, one, c.in_ok-note.ensures.adds (absent_here g image a.group a.agino old a.self.now.links.pointing here.links) (sym links ∙ e))
      | inr ne ↦
          let none : ◌≡◌ {A = ℕ} (cond (eqb (core_of g image a.group a.agino).links 0) 1 0) 0 = ap (λ b. cond b 1 0) (ne_eqb (core_of g image a.group a.agino).links 0 ne) in
          omega (arith, none, ap (λ es. length es) (c.in_ok-note.ensures.keeps (λ e. ne (links ∙ e))))
    ] in
    let whole : length c.add_live.new.self.links.orphans.entries ≡ length old + one_if_orphan (row_unless g image a.group a.agino a.free) = omega (arith, same, row, counted) in
    OnOk-more c.add_live.result (c.add_live.ensures.taken image next.inode next.shown right.1 next.found (next.row ∙ ap (row_unless g image a.group a.agino) c.if-free.false) right.0 here.space) (λ space. whole)
