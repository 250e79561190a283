use Rattle.std.proofs.Common.{◌≡◌, ◌<◌, Some, sym, subst, refl, ◌∙◌}
use Rattle.geometry.specs.Shape.{IsGeometry}
use Rattle.inode_cache.specs.Caches.{incore_at}
use Rattle.inode_cache.specs.Inodes.{IsIncore}
use Rattle.life_table.specs.Table.{group_at, inode_in}
use Rattle.group_ops.specs.Represents.{IsGroupOf, incore_for}
use Rattle.group_ops.specs.Telling.{HasInodeAt}
use Rattle.group_ops.specs.Values.{StateValue}
use Rattle.group_ops.proofs.Incores.{Laws, incore_right}
use Rattle.group_ops.proofs.Keepings.{brings_now}
use Rattle.group_ops.proofs.Standing.{at_number, number_small}
use Rattle.group_ops.proofs.Told.{none_is}
use Rattle.group_ops.proofs.state.GroupState.bring_inode.Goals as goal

pub install-requires-clause-agino_small : goal.install-requires-clause-agino_small
install-requires-clause-agino_small c =
    let own = subst (λ (v : StateValue). HasInodeAt v c.args.agino) (sym c.self.view_is) c.requires in
    number_small c.places_have_their_metadata.ensures.place _ c.args.agino c.self.invariant.shape c.self.invariant.inside own

pub install-requires-clause-inode : goal.install-requires-clause-inode
install-requires-clause-inode c =
    let laws : Laws = record { cores = c.encoded_places.ensures.core; forks = c.encoded_places.ensures.fork; read = c.encoded_forks_are_read.ensures; places = c.places_have_their_metadata.ensures.place } in
    let at = at_number c.args.self.now c.args.agino c.requires in
    let shape = subst (λ (v : StateValue). IsGeometry v.geometry) c.self.view_is c.self.invariant.shape in
    let inside = subst (λ (v : StateValue). v.group < v.geometry.groups) c.self.view_is c.self.invariant.inside in
    let copy = c.in_ok-copy.ensures at.t at.layouts at.inode at.is at.there in
    subst IsIncore (sym copy) (incore_right laws c.args.self.now at.t at.layouts c.args.agino at.inode shape inside at.is at.there)

pub returns-clause-represents : goal.returns-clause-represents
returns-clause-represents c t layouts is =
    let own = subst (λ (v : StateValue). IsGroupOf v t layouts) (sym c.self.view_is) is in
    let has = subst (λ (v : StateValue). HasInodeAt v c.args.agino) (sym c.self.view_is) c.requires in
    brings_now _ t layouts c.args.agino c.in_ok-copy.copy c.self.inside.cache c.install.new.self _ c.install.result refl has
    (none_is (incore_at c.self.inside.cache c.args.agino) (sym c.has.ensures ∙ c.if-has.false)) own
    (λ inode there.
    subst (λ (v : StateValue). c.in_ok-copy.copy ≡ incore_for layouts v.group c.args.agino inode) (sym c.self.view_is)
    (c.in_ok-copy.ensures t layouts inode is (subst (λ (v : StateValue). inode_in (group_at t v.group) c.args.agino ≡ Some inode) c.self.view_is there)))
    c.install.ensures.installed c.install.ensures.same
