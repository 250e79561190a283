-- Each entry of a run's mounts stands at or behind the begin of its call.
use Rattle.std.proofs.Common.{◌≡◌, ◌≤◌, ◌+◌, ℕ, zero, suc, List, [], ◌∷◌, ◌++◌, Some, length, refl, ap, sym, subst, ◌∙◌, arith, length-append}
use Rattle.std.specs.Prelude.{replicate, slice_get}
use Rattle.std.proofs.lemmas.List.{length-replicate}
use Rattle.life_table.specs.declared.key.Key.{Key}
use Rattle.life_table.specs.declared.types.Entry.{Entry}
use Rattle.actor_world.specs.Licence.{Interval}
use Rattle.actor_world.specs.Mounted.{own_places}

-- from this place on, each begin is at most its own place
pub Sits : ℕ → List ℕ → Type 0
Sits place [] = Unit {0}
Sits place (begin ∷ begins) = (begin ≤ place) × Sits (place + 1) begins

sits-append : (place : ℕ) (xs ys : List ℕ) → Sits place xs → Sits (place + length xs) ys → Sits place (xs ++ ys)
unfolding Sits
sits-append place [] ys a b = subst (λ (n : ℕ). Sits n ys) (omega arith) b
sits-append place (x ∷ xs) ys a b = (a.0, sits-append (place + 1) xs ys a.1 (subst (λ (n : ℕ). Sits n ys) (omega arith) b))

sits-same : (n place begin : ℕ) → begin ≤ place → Sits place (replicate n begin)
unfolding Sits
sits-same zero place begin low = tt
sits-same (suc n) place begin low = (low, sits-same n (place + 1) begin (omega (arith, low)))

sits-own : (place : ℕ) (keys : List Key) → Sits place (own_places place keys)
unfolding Sits
sits-own place [] = tt
sits-own place (key ∷ keys) = (omega arith, sits-own (place + 1) keys)

sits-at : (place : ℕ) (begins : List ℕ) (i begin : ℕ) → Sits place begins → slice_get begins i ≡ Some begin → begin ≤ place + i
unfolding Sits
sits-at place [] i begin sits is = absurd cc
sits-at place (x ∷ begins) zero begin sits is = let e : x ≡ begin = cc in let l = sits.0 in omega (arith, e, l)
sits-at place (x ∷ begins) (suc i) begin sits is = let r = sits-at (place + 1) begins i begin sits.1 is in omega (arith, r)

length-own : (place : ℕ) (keys : List Key) → length (own_places place keys) ≡ length keys
length-own place [] = refl
length-own place (key ∷ keys) = ap suc (length-own (place + 1) keys)

-- the same of a story, in the form in which it grows
pub record Kept (entries : List Entry) (froms : List ℕ) : Type 0 where
  pub long : length froms ≡ length entries
  pub sits : Sits 0 froms

pub kept_interval : (entries : List Entry) (froms : List ℕ) → Kept entries froms → Interval entries froms
kept_interval entries froms kept = record { length_is = kept.long; between = λ i begin is. let r = sits-at 0 froms i begin kept.sits is in omega (arith, r) }

pub kept_more : (entries added : List Entry) (froms : List ℕ) (begin : ℕ) → Kept entries froms → begin ≤ length entries
    → Kept (entries ++ added) (froms ++ replicate (length added) begin)
kept_more entries added froms begin kept low =
    let long = kept.long in record {
      long = length-append froms (replicate (length added) begin) ∙ (ap (λ (n : ℕ). n + length (replicate (length added) begin)) kept.long
          ∙ (ap (λ (n : ℕ). length entries + n) (length-replicate (length added) begin) ∙ sym (length-append entries added)));
      sits = sits-append 0 froms (replicate (length added) begin) kept.sits (sits-same (length added) (0 + length froms) begin (omega (arith, long, low)));
    }

pub kept_frees : (entries : List Entry) (froms : List ℕ) (frees : List Entry) (keys : List Key) → length frees ≡ length keys → Kept entries froms
    → Kept (entries ++ frees) (froms ++ own_places (length entries) keys)
kept_frees entries froms frees keys same kept =
    let long = kept.long in
    let own = length-own (length entries) keys in
    let a = length-append froms (own_places (length entries) keys) in
    let b = length-append entries frees in
    record {
      long = omega (arith, long, own, a, b, same);
      sits = sits-append 0 froms (own_places (length entries) keys) kept.sits
          (subst (λ (n : ℕ). Sits n (own_places (length entries) keys)) (omega (arith, long)) (sits-own (length entries) keys));
    }

pub kept_fresh : (entries : List Entry) (froms : List ℕ) (keys : List Key) → length entries ≡ length keys → froms ≡ own_places 0 keys → Kept entries froms
kept_fresh entries froms keys same own = record {
  long = ap length own ∙ (length-own 0 keys ∙ sym same);
  sits = subst (Sits 0) (sym own) (sits-own 0 keys);
}
