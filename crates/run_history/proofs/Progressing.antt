-- A run goes on by one line.
use Rattle.std.proofs.Common.{◌≡◌, ◌<◌, ℕ, zero, suc, List, [], ◌∷◌, ◌++◌, Some, length, refl, ap, sym, subst, ◌∙◌, arith, length-append}
use Rattle.std.specs.Prelude.{map, slice_get, take}
use Rattle.std.proofs.Math.Numerals.{add-one}
use Rattle.life_table.specs.declared.table.Table.{Table}
use Rattle.script.specs.declared.types.Line.{Line as ScriptLine}
use Rattle.script.specs.declared.answers.Said.{Said}
use Rattle.script.specs.declared.status.Status.TheVariants as status
use Rattle.run_history.specs.Mounts.{MountStory}
use Rattle.run_history.specs.States.{RunState, mounts_of, run_begins}
use Rattle.run_history.specs.Answers.{Answers, AnswersLine}
use Rattle.run_history.specs.Progress.{HasCome}
use Rattle.run_history.specs.Headline.{Replies}

answers_push : (first : Table) (s : RunState) (lines : List ScriptLine) (said : List Said) (t : RunState) (asked : ScriptLine) (one : Said) (next : RunState)
    → Answers first s lines said t → AnswersLine first t asked.command one next → Answers first s (lines ++ asked ∷ []) (said ++ one ∷ []) next
answers_push first s [] [] t asked one next a b = (next, subst (λ (r : RunState). AnswersLine first r asked.command one next) a b, refl)
answers_push first s [] (other ∷ said) t asked one next a b = absurd a
answers_push first s (line ∷ lines) [] t asked one next a b = absurd a
answers_push first s (line ∷ lines) (other ∷ said) t asked one next a b = (a.0, a.1, answers_push first a.0 lines said t asked one next a.2 b)

take-get : {X : Type 0} (n : ℕ) (xs : List X) (x : X) → slice_get xs n ≡ Some x → take (suc n) xs ≡ take n xs ++ x ∷ []
take-get n [] x is = absurd cc
take-get {X = X} zero (y ∷ ys) x is = let e : y ≡ x = cc in ap (λ (z : X). z ∷ []) e
take-get {X = X} (suc n) (y ∷ ys) x is = ap (λ (zs : List X). y ∷ zs) (take-get n ys x is)

within : {X : Type 0} (n : ℕ) (xs : List X) (x : X) → slice_get xs n ≡ Some x → n < length xs
within n [] x is = absurd cc
within zero (y ∷ ys) x is = omega arith
within (suc n) (y ∷ ys) x is = let r = within n ys x is in omega (arith, r)

pub goes_on : (first : Table) (lines : List ScriptLine) (said : List Said) (s : RunState) (asked : ScriptLine) (one : Said) (next : RunState) → HasCome first lines said s
    → slice_get lines (length said) ≡ Some asked → AnswersLine first s asked.command one next → HasCome first lines (said ++ one ∷ []) next
goes_on first lines said s asked one next come at answer =
    let longer : length (said ++ one ∷ []) ≡ suc (length said) = length-append said (one ∷ []) ∙ add-one (length said) in
    let low = within (length said) lines asked at in
    record {
      few = omega (arith, longer, low);
      answers = subst (λ (n : ℕ). Answers first run_begins (take n lines) (said ++ one ∷ []) next) (sym longer)
          (subst (λ (xs : List ScriptLine). Answers first run_begins xs (said ++ one ∷ []) next) (sym (take-get (length said) lines asked at))
          (answers_push first run_begins (take (length said) lines) said s asked one next come.answers answer));
    }

pub all_said : (first : Table) (lines : List ScriptLine) (said : List Said) (s : RunState) → HasCome first lines said s → length said ≡ length lines
    → Replies first lines status.Good said (map (λ (m : MountStory). m.story) (mounts_of s)) s
all_said first lines said s come all = record { answered = s; answers = come.answers; ends = (all, refl); records = refl }
