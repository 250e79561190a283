-- A group of the tests, once something was done to its state.
use Rattle.std.proofs.Common.{◌≡◌, ◌≤◌, ◌<◌, ℕ, refl, sym, ap, subst, ◌∙◌, arith}
use Rattle.geometry.specs.declared.shape.Geometry.{Geometry}
use Rattle.geometry.specs.Shape.{IsGeometry}
use Rattle.group_ops.specs.declared.delta.Delta.{Delta}
use Rattle.group_ops.specs.Changes.{changed_state, with_room}
use Rattle.group_ops.specs.Keeping.{IsGone, IsWrittenBack}
use Rattle.group_ops.specs.Represents.{RepresentsGroup}
use Rattle.group_ops.specs.Values.{StateValue}
use Rattle.tests_group_ops.specs.Standing.{IsFirst}

pub inside : (s : StateValue) → IsFirst s → s.group < s.geometry.groups
inside s stands = omega (arith, stands.first, stands.shape.groups.0)

pub roomed : (s new : StateValue) (n : ℕ) → IsFirst s → new ≡ with_room s n → RepresentsGroup new → IsFirst new
roomed s new n stands is represents =
    record {
      first = ap (λ (x : StateValue). x.group) is ∙ stands.first;
      shape = subst IsGeometry (sym (ap (λ (x : StateValue). x.geometry) is)) stands.shape;
      represents = represents;
    }

same_group : (s : StateValue) (d : Delta) (n : ℕ) → (with_room (changed_state s d) n).group ≡ s.group
unfolding changed_state
same_group s d n = refl

same_geometry : (s : StateValue) (d : Delta) (n : ℕ) → (with_room (changed_state s d) n).geometry ≡ s.geometry
unfolding changed_state
same_geometry s d n = refl

pub changed : (s new : StateValue) (d : Delta) (n : ℕ) → IsFirst s → new ≡ with_room (changed_state s d) n → RepresentsGroup new → IsFirst new
changed s new d n stands is represents =
    record {
      first = ap (λ (x : StateValue). x.group) is ∙ same_group s d n ∙ stands.first;
      shape = subst IsGeometry (sym (ap (λ (x : StateValue). x.geometry) is ∙ same_geometry s d n)) stands.shape;
      represents = represents;
    }

pub written : (s new : StateValue) → IsFirst s → IsWrittenBack s new → IsFirst new
written s new stands back =
    let r = stands.represents in
    record {
      first = ap (λ (x : StateValue). x.group) back.flush.rest ∙ stands.first;
      shape = subst IsGeometry (sym (ap (λ (x : StateValue). x.geometry) back.flush.rest)) stands.shape;
      represents = (r.0, r.1, back.group r.0 r.1 r.2);
    }

pub gone : (s new : StateValue) (agino : ℕ) → IsFirst s → IsGone s agino new → IsFirst new
gone s new agino stands is =
    let r = stands.represents in
    record {
      first = ap (λ (x : StateValue). x.group) is.in_core ∙ stands.first;
      shape = subst IsGeometry (sym (ap (λ (x : StateValue). x.geometry) is.in_core)) stands.shape;
      represents = (r.0, r.1, is.group r.0 r.1 r.2);
    }
