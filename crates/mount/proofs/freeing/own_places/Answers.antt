use Rattle.std.proofs.Common.{◌≡◌, ◌+◌, ◌∷◌, ◌++◌, ℕ, zero, suc, List, [], sym, ap, ◌∙◌, arith}
use Rattle.std.specs.List.{range_with_len}
use Rattle.mount.proofs.freeing.own_places.Goals as goal

range_more : (a n j : ℕ) → a + n ≡ j → range_with_len a (n + 1) ≡ range_with_len a n ++ j ∷ []
range_more a zero j is = ap (λ (k : ℕ). k ∷ []) (omega (arith, is))
range_more a (suc n) j is =
    let more : suc n + 1 ≡ suc (n + 1) = omega arith in
    ap (range_with_len a) more ∙ ap (λ (l : List ℕ). a ∷ l) (range_more (a + 1) n j (omega (arith, is)))

pub loop-place-preserved : goal.loop-place-preserved
loop-place-preserved c =
    let l = c.loop-place in
    c.in_ok-push.ensures.items ∙ ap (λ (xs : List ℕ). xs ++ l.place ∷ []) l.invariant ∙ sym (range_more 0 l.place l.place (omega arith))
