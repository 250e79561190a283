-- A new cache, and how sessions and keepers are made.
use Rattle.std.proofs.Common.{◌≡◌, ℕ, zero, suc, ◌+◌, ◌-◌, ◌*◌, ◌<◌, ◌≤◌, false, List, [], ◌∷◌, ◌++◌, length, get_or, refl, sym, ap, ◌∙◌, subst, inl, inr, length-append, arith}
use Rattle.std.specs.Prelude.{slice_get, Some, replicate}
use Rattle.std.proofs.Math.Nat.{mul-le-mul_right, suc-mul}
use Rattle.geometry.specs.Shape.{IsGeometry}
use Rattle.std.proofs.lemmas.List.{get_or-replicate, get_or_past, length-replicate, replicate-append-replicate}
use mathlib.Core.Option.{some, some-injective, some-ne-none}
use Rattle.std.proofs.lemmas.Bool.{cases_lt}
use Rattle.slot_words.specs.declared.word.Word.{Word}
use mathlib.Core.Logic.{dite}
use native.Mathlib.Decide.{ℕ_discrete}
use lib.ListN.{get_elem?}
use Rattle.atomic_table.specs.Table.{opening, Splits}
use Rattle.geometry.specs.declared.shape.Geometry.{Geometry}
use Rattle.geometry.specs.Places.{anchor_of, group_sectors}
use Rattle.word_table.specs.declared.known.Known.{Known}
use Rattle.word_table.specs.Words.{parts_of, Tells}
use Rattle.word_table.specs.Known.{last_of, Keeps, nothing_known, maker_knows, new_keeper}
use Rattle.word_table.specs.Rule.{Kept}
use Rattle.word_table.specs.Ends.{CacheState, SeatState, seat_state, AreKeepers, IsMaker, last_keeper}
use Rattle.word_table.proofs.Parts.{parts-zero, Tells-same, pins_of-dead}
use Rattle.word_table.proofs.Kept.{split_kept}

get_zero : (count place : ℕ) → ◌≡◌ {A = ℕ} (get_or (replicate count 0) place 0) 0
get_zero count place = elim (cases_lt place count) [
  | inl inside ↦ get_or-replicate {A = ℕ} count place 0 0 inside
  | inr past ↦ get_or_past {X = ℕ} (replicate count 0) place 0 (omega (arith, past, length-replicate {A = ℕ} count 0))
]

one_view : (F : ℕ → Known → Type 0) (v : Known) → F 0 v → (j : ℕ) (u : Known) → get_elem? (v ∷ []) j ≡ some u → F j u
one_view F v mine zero u e = subst (F 0) (some-injective v u e) mine
one_view F v mine (suc j) u e = absurd (some-ne-none u (sym e))

-- the rule holds of zeros, with one maker
pub begins : (count per : ℕ) → Kept count (opening (replicate count 0) [] (maker_knows 0 count per))
begins count per =
    let maker = maker_knows 0 count per in
    let dead : (place : ℕ) → parts_of (get_or (replicate count 0) place 0) ≡ record { generation = 0; live = false; unlinked = false; unused = 0; pins = 0 } =
    λ place. ap parts_of (get_zero count place) ∙ parts-zero in
    record {
      counted = length-replicate {A = ℕ} count 0;
      right = λ place. record {
        unused = ap (λ (w : Word). w.unused) (dead place);
        no_pins = λ _. ap (λ (w : Word). w.pins) (dead place);
        no_mark = λ _. ap (λ (w : Word). w.unlinked) (dead place);
      };
      pins = λ place generation. sym (pins_of-dead generation (parts_of (get_or (replicate count 0) place 0)) (ap (λ (w : Word). w.live) (dead place)));
      alone = λ i j place v w at_i at_j keeps_v keeps_w. one_view (λ i v. i ≡ j) maker (one_view (λ j w. 0 ≡ j) maker refl j w at_j) i v at_i;
      tells = λ id place. one_view (λ j u. Keeps u place → Tells (get_or (replicate count 0) place 0) (last_of place u.looks)) maker
          (λ _. subst (λ (n : ℕ). Tells n 0) (sym (get_zero count place)) (Tells-same 0)) id;
    }

-- a session is made, of anybody
pub forks : (count id : ℕ) (v : Known) → Splits (Kept count) id v v nothing_known
forks count id v s was at = split_kept count s id v v nothing_known
    (record {
      pins = λ place generation. omega arith;
      left_keeps = λ place kept. (kept, refl);
      right_keeps = λ place kept. absurd (omega (arith, kept.1));
      apart = λ place kept none. absurd (omega (arith, none.1));
    }) was at

-- a keeper is made of the first words, where there are so many
pub parts_off : (count id first left per : ℕ) (v : Known) → v ≡ maker_knows first left per → per ≤ left
    → Splits (Kept count) id v (maker_knows (v.first + v.per) (v.count - v.per) v.per) (new_keeper v.first v.per)
parts_off count id first left per v is enough = subst (λ (u : Known). Splits (Kept count) id u (maker_knows (u.first + u.per) (u.count - u.per) u.per) (new_keeper u.first u.per)) (sym is)
    (λ s was at. split_kept count s id (maker_knows first left per) (maker_knows (first + per) (left - per) per) (new_keeper first per)
    (record {
      pins = λ place generation. omega arith;
      left_keeps = λ place kept. ((omega (arith, kept.0), omega (arith, kept.0, kept.1)), refl);
      right_keeps = λ place kept. ((kept.0, omega (arith, kept.1)), refl);
      apart = λ place a b. omega (arith, a.0, b.1);
    }) was at)

pub some_words : (g : Geometry) → IsGeometry g → 0 < anchor_of g
some_words g shape = let more = mul-le-mul_right (group_sectors g) shape.groups.0 in omega (arith, more, shape.blocks.0)

-- the next group's words are among those that have no keeper
pub room_left : (cache : CacheState) (group left : ℕ) → group * group_sectors cache.geometry + left ≡ anchor_of cache.geometry → group < cache.geometry.groups
    → group_sectors cache.geometry ≤ left
room_left cache group left whole below =
    let per = group_sectors cache.geometry in
    let next : suc group ≤ cache.geometry.groups = omega arith in
    let more : suc group * per ≤ cache.geometry.groups * per = mul-le-mul_right per next in
    omega (arith, more, suc-mul group per, whole)

pub next_maker : (cache : CacheState) (group : ℕ) (maker now : SeatState) → IsMaker cache group maker → group < cache.geometry.groups
    → now.cache ≡ maker.cache → now.known ≡ maker_knows (maker.known.first + maker.known.per) (maker.known.count - maker.known.per) maker.known.per
    → IsMaker cache (group + 1) now
next_maker cache group maker now is below same known =
    let per = group_sectors cache.geometry in
    let left = is.0 in
    let enough = room_left cache group left is.1 below in
    let further : group * per + per ≡ (group + 1) * per = omega arith in
    let old : maker.known ≡ maker_knows (group * per) left per = ap (λ (x : SeatState). x.known) is.2 in
    let then_ : now.known ≡ maker_knows ((group + 1) * per) (left - per) per =
    known ∙ (λ i. maker_knows ((old i).first + (old i).per) ((old i).count - (old i).per) (old i).per) ∙ ap (λ (n : ℕ). maker_knows n (left - per) per) further in
    let at : now.cache ≡ cache.name = same ∙ ap (λ (x : SeatState). x.cache) is.2 in
    (left - per, omega (arith, is.1, enough, further), λ i. seat_state (at i) (then_ i))

get_before : (cs : List SeatState) (c : SeatState) (g : ℕ) → g < length cs → slice_get (cs ++ c ∷ []) g ≡ slice_get cs g
get_before [] c g inside = absurd (omega arith)
get_before (x ∷ cs) c zero inside = refl
get_before (x ∷ cs) c (suc g) inside = get_before cs c g (omega arith)

get_last : (cs : List SeatState) (c : SeatState) (g : ℕ) → g ≡ length cs → slice_get (cs ++ c ∷ []) g ≡ Some c
get_last [] c zero last = refl
get_last [] c (suc g) last = absurd (omega arith)
get_last (x ∷ cs) c zero last = absurd (omega arith)
get_last (x ∷ cs) c (suc g) last = get_last cs c g (omega arith)

pub one_more_keeper : (cache : CacheState) (group : ℕ) (ks new : List SeatState) (k : SeatState) → AreKeepers cache group ks → new ≡ ks ++ k ∷ []
    → k ≡ seat_state cache.name (new_keeper (group * group_sectors cache.geometry) (group_sectors cache.geometry)) → AreKeepers cache (group + 1) new
one_more_keeper cache group ks new k are is k_is = subst (λ (l : List SeatState). AreKeepers cache (group + 1) l) (sym is) (record {
  one_each = length-append ks (k ∷ []) ∙ ap (λ (n : ℕ). n + 1) are.one_each;
  each = λ g below. dite (ℕ_discrete g group)
      (λ e. get_last ks k g (e ∙ sym are.one_each) ∙ ap Some k_is ∙ ap (λ (n : ℕ). Some (seat_state cache.name (new_keeper (n * group_sectors cache.geometry) (group_sectors cache.geometry)))) (sym e))
      (λ apart. get_before ks k g (omega (arith, below, apart, are.one_each)) ∙ are.each g (omega (arith, below, apart)));
})

pub one_more_session : (n : ℕ) (xs new : List SeatState) (x y : SeatState) → xs ≡ replicate n x → new ≡ xs ++ y ∷ [] → y ≡ x → new ≡ replicate (n + 1) x
one_more_session n xs new x y are is same = is ∙ (λ i. are i ++ same i ∷ []) ∙ replicate-append-replicate n 1 x

-- when each group has its keeper, no word is left
pub all_made : (cache : CacheState) (maker : SeatState) → IsMaker cache cache.geometry.groups maker → maker ≡ last_keeper cache
all_made cache maker is =
    let none : is.0 ≡ 0 = let whole = is.1 in omega (arith, whole) in
    is.2 ∙ ap (λ (n : ℕ). seat_state cache.name (maker_knows (anchor_of cache.geometry) n (group_sectors cache.geometry))) none

-- the rule holds of such words
pub begins-at : (words : List ℕ) (count per : ℕ) → words ≡ replicate count 0 → Kept count (opening words [] (maker_knows 0 count per))
begins-at words count per are = subst (λ (l : List ℕ). Kept count (opening l [] (maker_knows 0 count per))) (sym are) (begins count per)
