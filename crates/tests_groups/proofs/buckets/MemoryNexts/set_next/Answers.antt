use Rattle.std.proofs.lemmas.Grind.{common_steps}
use Rattle.std.proofs.Common.{arith, ◌<◌, ◌∷◌, [], ℕ, lit<, refl, get_or-set_other}
use Rattle.tests_groups.proofs.Members.{all_of}
use Rattle.tests_groups.proofs.buckets.MemoryNexts.set_next.Goals as goal

pub bounds-self-agino : goal.bounds-self-agino
bounds-self-agino c = all_of (λ (x : ℕ). x < 384) (192 ∷ (256 ∷ (320 ∷ []))) c.args.agino (lit< tt, (lit< tt, (lit< tt, tt))) c.requires.agino

pub returns-clause-set : goal.returns-clause-set
returns-clause-set c = record {
  heads = refl;
  own = (let small : c.args.agino < 384 = all_of (λ (x : ℕ). x < 384) (192 ∷ (256 ∷ (320 ∷ []))) c.args.agino (lit< tt, (lit< tt, (lit< tt, tt))) c.requires.agino in grind (arith, common_steps));
  others = λ other placed away. get_or-set_other c.args.self.now.nexts c.args.agino other c.args.next 0 away;
  places = refl;
}
