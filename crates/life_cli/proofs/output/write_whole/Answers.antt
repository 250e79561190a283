use Rattle.std.proofs.Common.{◌≡◌, ◌≤◌, ◌+◌, ◌-◌, ◌<◌, ◌++◌, ℕ, zero, suc, List, [], ◌∷◌, Option, length, take, drop, refl, sym, ap, subst, arith}
use Rattle.std.proofs.lemmas.List.{length-drop, take_all}
use Rattle.std.specs.Io.KnownBytes.{Appends}
use Rattle.life_ports.proofs.Bytes.{Appends-then}
use Rattle.life_cli.proofs.output.write_whole.Goals as goal

-- the first bytes, and so many behind them
take-sum : (n more m : ℕ) (xs : List ℕ) → m ≡ n + more → take m xs ≡ take n xs ++ take more (drop n xs)
take-sum zero more m xs e = ap (λ k. take k xs) (let e' : m ≡ more = omega arith in e')
take-sum (suc n) more zero xs e = absurd (omega arith)
take-sum (suc n) zero (suc m) [] e = refl
take-sum (suc n) (suc more) (suc m) [] e = refl
take-sum (suc n) more (suc m) (x ∷ xs) e = ap (λ l. x ∷ l) (take-sum n more m xs (omega arith))

-- what a slice has from a place on
behind : (n : ℕ) (xs : List ℕ) → take (length xs - n) (drop n xs) ≡ drop n xs
behind n xs = take_all (length xs - n) (drop n xs) (omega (arith, length-drop n xs))

appends-more : (a b c : Option (List ℕ)) (xs : List ℕ) (n more : ℕ) → Appends a b (take n xs)
    → Appends b c (take more (take (length xs - n) (drop n xs))) → Appends a c (take (n + more) xs)
appends-more a b c xs n more first second =
    subst (λ l. Appends a c l) (sym (take-sum n more (n + more) xs refl))
    (Appends-then a b c (take n xs) (take more (drop n xs)) first (subst (λ l. Appends b c (take more l)) (behind n xs) second))

fits : (xs : List ℕ) (n more : ℕ) → n < length xs → more ≤ length (take (length xs - n) (drop n xs)) → n + more ≤ length xs
fits xs n more h k = omega (arith, ap length (behind n xs), length-drop n xs)

no_test : (xs : List ℕ) (n : ℕ) → n < length xs → xs ≡ [] → ⊥
no_test xs n h e = omega (arith, ap length e)

pub loop-written-preserved : goal.loop-written-preserved
loop-written-preserved g c = record {
  within = fits c.args.bytes.now _ _ (omega arith) c.in_ok-written.ensures.within;
  appended = appends-more _ _ _ _ _ _ c.loop-written.invariant.appended c.in_ok-written.ensures.written;
  never_falls = omega (arith, c.loop-written.invariant.never_falls, c.write.ensures.cause.never_falls);
  untouched = λ e. absurd (no_test c.args.bytes.now c.loop-written.written (omega arith) e);
}
