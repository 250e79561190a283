use Rattle.std.proofs.Common.{◌≡◌, ◌∷◌, ◌++◌, List, [], map, refl, sym, ap, subst, ◌∙◌}
use Rattle.std.specs.Prelude.{All}
use Rattle.std.proofs.lemmas.List.{map-append}
use Rattle.std.proofs.lemmas.List.Elements.{All-push}
use Rattle.std.proofs.lemmas.Iterator.Adapters.{YieldsList-from_vec}
use Rattle.std.proofs.lemmas.Iterator.Consumers.{YieldsList-end}
use Rattle.group_core.specs.Value.{GroupValue}
use Rattle.group_ops.specs.Values.{StateValue}
use Rattle.mount.specs.Mounts.{states_of}
use Rattle.mount.proofs.freeing.begin_groups.Goals as goal

pub loop-state-preserved : goal.loop-state-preserved
loop-state-preserved c =
    let l = c.loop-state in
    let group : GroupValue StateValue = c.in_ok-begin_group.field-0 in
    let items : c.push.new.self.items ≡ l.groups.items ++ group ∷ [] = c.in_ok-push.ensures.items in
    record {
      states = ap (λ (groups : List (GroupValue StateValue)). states_of groups) items ∙ map-append (λ (g : GroupValue StateValue). g.state) l.groups.items (group ∷ [])
          ∙ ap (λ (states : List StateValue). states ++ group.state ∷ []) l.invariant.states
          ∙ ap (λ (s : StateValue). l.yielded ++ s ∷ []) c.in_ok-begin_group.ensures.begun.0;
      fresh = subst (All (λ (g : GroupValue StateValue). g.history ≡ [])) (sym items)
          (All-push (λ (g : GroupValue StateValue). g.history ≡ []) l.groups.items group l.invariant.fresh c.in_ok-begin_group.ensures.begun.1);
    }

same_map : (xs : List StateValue) → map (λ (x : StateValue). x) xs ≡ xs
same_map [] = refl
same_map (x ∷ xs) = ap (λ (l : List StateValue). x ∷ l) (same_map xs)

pub returns-clause-states : goal.returns-clause-states
returns-clause-states c =
    let from = YieldsList-from_vec c.args.states.items (cc) (cc) in
    let all = YieldsList-end from c.loop-state.yielded c.loop-state.state-iterator c.loop-state.yielded_by c.next.result c.next.new.self c.in-None.is c.next.ensures.steps in
    c.loop-state.invariant.states ∙ sym (same_map c.loop-state.yielded) ∙ all.0
