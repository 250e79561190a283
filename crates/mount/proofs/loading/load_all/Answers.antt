use Rattle.std.proofs.Common.{◌≡◌, ◌+◌, ◌++◌, ◌∷◌, [], ℕ, List, Some, length, slice_get, refl, ap, sym, subst, ◌∙◌, length-append, arith}
use Rattle.group_ops.specs.Values.{StateValue}
use Rattle.mount.specs.KeptLaws.{same_shown}
use Rattle.orphan_frees.specs.Loaded.{IsGroupAt}
use Rattle.mount.proofs.Loads.{each_more}
use Rattle.mount.proofs.loading.load_all.Goals as goal

pub loop-group-preserved : goal.loop-group-preserved
loop-group-preserved c =
    let a = c.args in
    let l = c.loop-group in
    let inv = l.invariant in
    let state : StateValue = c.in_ok-load_group.field-0 in
    let read = c.load_group.ensures.only_read in
    let items : c.push.new.self.items ≡ l.groups.items ++ state ∷ [] = c.in_ok-push.ensures.items in
    record {
      shown = same_shown l.view c.load_group.new.view read.0 read.1 ∙ inv.shown;
      size = read.1 ∙ inv.size;
      count = ap (λ (s : List StateValue). length s) items ∙ length-append l.groups.items (state ∷ []) ∙ ap (λ (n : ℕ). n + 1) inv.count;
      each = λ t layouts is group s found.
          let here : IsGroupAt a.g.now t layouts l.group state =
          record {
            geometry = c.in_ok-load_group.ensures.own.0;
            group_is = c.in_ok-load_group.ensures.own.1;
            represents = c.in_ok-load_group.ensures.represents refl t layouts _ is.can (inv.shown ∙ sym is.same);
          } in
          each_more a.g.now t layouts l.groups.items state (inv.each t layouts is) (subst (λ (k : ℕ). IsGroupAt a.g.now t layouts k state) (sym inv.count) here) group s
          (subst (λ (xs : List StateValue). slice_get xs group ≡ Some s) items found);
    }

pub returns-clause-groups : goal.returns-clause-groups
returns-clause-groups c t layouts is =
    let inv = c.loop-group.invariant in
    record {
      shape = c.requires.shape;
      count = omega (arith, inv.count, c.loop-group-test.false, c.loop-group.auto.group-end);
      each = inv.each t layouts is;
    }
