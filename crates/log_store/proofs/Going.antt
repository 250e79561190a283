-- How a store goes on over a call, and over several.
use Rattle.std.proofs.Common.{◌≡◌, ℕ, ◌+◌, ◌≤◌, Bool, List, [], ◌∷◌, ◌++◌, Some, length, take, drop, sym, ap, ◌∙◌, subst, inl, inr, arith}
use Rattle.std.specs.Prelude.{IsTrue, slice_get}
use Rattle.std.proofs.lemmas.List.{drop-drop, take-append-drop, take-take, drop-take, length-drop}
use Rattle.std.proofs.lemmas.Grind.{flat_map-append}
use Rattle.log_batch.specs.NewestLaws.{none_some, some_same}
use Rattle.log_image.specs.Log.{IsLog, replayed}
use Rattle.life_bytes.specs.declared.sector.Sector.{Sector}
use Rattle.disk_model.specs.Disk.{Cell, Elapses, IsImage}
use Rattle.log_record.specs.declared.image.Image.{Image}
use Rattle.log_record.specs.declared.image.Commit.{Commit}
use Rattle.log_image.specs.Overlay.{overlaid}
use Rattle.log_image.specs.OverlayLaws.{overlaid-append, overlaid-none}
use Rattle.log_batch.specs.Newest.{commit_images}
use Rattle.log_store.specs.OnDisk.{ReplaysUpTo, base_of}
use Rattle.log_store.specs.State.{State}
use Rattle.log_store.specs.Steps.{Moves}

-- a call of the disk leaves only what is left in it
pub leaves : (before now : ℕ) (past since : ℕ → List Sector → Type 0) (cells : List Cell) (P : List Sector → Type 0)
    → Elapses before now past since (IsImage cells) → ((image : List Sector) → IsImage cells image → P image) → Elapses before now past since P
leaves before now past since cells P time has = record {
  later = time.later;
  nothing_else = λ moment image le left. elim (time.nothing_else moment image le left) [ inl was ↦ inl was | inr is ↦ inr (has image is) ];
  keeps = time.keeps;
}

-- without a call of the disk nothing more is left
pub leaves_none : (now : ℕ) (since : ℕ → List Sector → Type 0) (P : List Sector → Type 0) → Elapses now now since since P
leaves_none now since P = record { later = omega arith; nothing_else = λ moment image le left. inl left; keeps = λ moment image le left. left }

-- one call after another
pub leaves_both : (a b d : ℕ) (past mid since : ℕ → List Sector → Type 0) (P R Q : List Sector → Type 0) → ((image : List Sector) → R image → P image) → ((image : List Sector) → Q image → P image)
    → Elapses a b past mid R → Elapses b d mid since Q → Elapses a d past since P
leaves_both a b d past mid since P R Q wider weaker first second = record {
  later = omega (arith, first.later, second.later);
  nothing_else = λ moment image le left. elim (second.nothing_else moment image (omega (arith, first.later)) left) [
    | inl was ↦ elim (first.nothing_else moment image le was) [ inl before ↦ inl before | inr is ↦ inr (wider image is) ]
    | inr is ↦ inr (weaker image is)
  ];
  keeps = λ moment image le left. second.keeps moment image (omega (arith, first.later)) (first.keeps moment image le left);
}

-- no commit became durable
pub moves_none : (known : Bool) (old new : State) (before after : List Cell) → new.anchor ≡ old.anchor → new.ring ≡ old.ring → new.list ≡ old.list
    → new.durable ≡ old.durable → old.head ≤ new.head → (IsTrue known → base_of new after ≡ base_of old before) → Moves known old new before after
moves_none known old new before after anchor ring list durable head base = record {
  anchor = anchor;
  ring = ring;
  head = head;
  count = 0;
  within = omega arith;
  list = list;
  durable = durable ∙ sym (omega arith);
  base = λ tells. base tells ∙ sym (overlaid-none (base_of old before));
}

commit_images-append : (xs ys : List Commit) → commit_images (xs ++ ys) ≡ commit_images xs ++ commit_images ys
commit_images-append xs ys = flat_map-append (λ (c : Commit). c.images) xs ys

take-both : (n m : ℕ) (xs : List Commit) → n ≤ length xs → take (n + m) xs ≡ take n xs ++ take m (drop n xs)
take-both n m xs le =
    sym (take-append-drop n (take (n + m) xs))
    ∙ ap (λ (l : List Commit). l ++ drop n (take (n + m) xs)) (take-take n (n + m) xs (omega arith))
    ∙ ap (λ (l : List Commit). take n xs ++ l) (drop-take n m xs)

-- one step after another
pub moves_both : (known : Bool) (a b d : State) (first second third : List Cell) → Moves known a b first second → Moves known b d second third → Moves known a d first third
moves_both known a b d first second third one two = record {
  anchor = two.anchor ∙ one.anchor;
  ring = two.ring ∙ one.ring;
  head = omega (arith, one.head, two.head);
  count = one.count + two.count;
  within = omega (arith, one.within, two.within, ap length one.list, length-drop one.count a.list);
  list = two.list ∙ ap (drop two.count) one.list ∙ drop-drop two.count one.count a.list;
  durable = two.durable ∙ ap (λ (n : ℕ). n + two.count) one.durable ∙ omega arith;
  base = λ tells. two.base tells
      ∙ ap (λ (l : List Sector). overlaid l (commit_images (take two.count b.list))) (one.base tells)
      ∙ sym (overlaid-append (base_of a first) (commit_images (take one.count a.list)) (commit_images (take two.count b.list)))
      ∙ ap (λ (l : List Commit). overlaid (base_of a first) (commit_images (take one.count a.list) ++ commit_images (take two.count l))) one.list
      ∙ ap (overlaid (base_of a first)) (sym (commit_images-append (take one.count a.list) (take two.count (drop one.count a.list))))
      ∙ ap (λ (l : List Commit). overlaid (base_of a first) (commit_images l)) (sym (take-both one.count two.count a.list one.within));
}

-- what replays to a later base replays to the earlier one
pub replays_earlier : (known : Bool) (head : ℕ) (a b : State) (first second : List Cell) (image : List Sector) → IsTrue known → Moves known a b first second
    → ReplaysUpTo head b second image → ReplaysUpTo head a first image
replays_earlier known head a b first second image tells moves is = record {
  log = is.log;
  count = moves.count + is.count;
  within = omega (arith, moves.within, is.within, ap length moves.list, length-drop moves.count a.list);
  says = subst (λ (n : ℕ). IsLog image n a.ring is.log) moves.anchor (subst (λ (n : ℕ). IsLog image b.anchor n is.log) moves.ring is.says);
  groups = ap (λ (n : ℕ). replayed n image is.log.records) (sym moves.anchor) ∙ is.groups
      ∙ ap (λ (l : List Sector). overlaid l (commit_images (take is.count b.list))) (moves.base tells)
      ∙ sym (overlaid-append (base_of a first) (commit_images (take moves.count a.list)) (commit_images (take is.count b.list)))
      ∙ ap (λ (l : List Commit). overlaid (base_of a first) (commit_images (take moves.count a.list) ++ commit_images (take is.count l))) moves.list
      ∙ ap (overlaid (base_of a first)) (sym (commit_images-append (take moves.count a.list) (take is.count (drop moves.count a.list))))
      ∙ ap (λ (l : List Commit). overlaid (base_of a first) (commit_images l)) (sym (take-both moves.count is.count a.list moves.within));
  next = is.next ∙ ap (λ (n : ℕ). n + 1 + is.count) moves.durable ∙ omega arith;
  end = is.end;
}

-- up to a head that is not below
pub replays_wider : (head later : ℕ) (s : State) (cells : List Cell) (image : List Sector) → head ≤ later → ReplaysUpTo head s cells image → ReplaysUpTo later s cells image
replays_wider head later s cells image le is = record {
  log = is.log;
  count = is.count;
  within = is.within;
  says = is.says;
  groups = is.groups;
  next = is.next;
  end = omega (arith, is.end, le);
}

-- the first of a list
pub first_is : (xs : List Image) (x : Image) → slice_get xs 0 ≡ Some x → xs ≡ x ∷ drop 1 xs
first_is [] x is = absurd (none_some is)
first_is (y ∷ ys) x is = ap (λ (i : Image). i ∷ ys) (some_same is)
