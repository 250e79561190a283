use Rattle.std.proofs.Common.{◌<◌, ◌∷◌, [], ℕ, lit<}
use Rattle.tests_groups.proofs.Members.{all_of}
use Rattle.tests_groups.proofs.buckets.MemoryNexts.next.Goals as goal

pub bounds-self-agino : goal.bounds-self-agino
bounds-self-agino c = all_of (λ (x : ℕ). x < 384) (192 ∷ (256 ∷ (320 ∷ []))) c.args.agino (lit< tt, (lit< tt, (lit< tt, tt))) c.requires
