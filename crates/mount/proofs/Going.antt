-- How a store goes on over several calls.
use Rattle.std.proofs.Common.{◌≡◌, ℕ, ◌+◌, ◌≤◌, Bool, List, ◌++◌, length, take, drop, sym, ap, ◌∙◌, subst, inl, inr, arith}
use Rattle.std.specs.Prelude.{IsTrue}
use Rattle.std.proofs.lemmas.List.{drop-drop, take-append-drop, take-take, drop-take, length-drop}
use Rattle.std.proofs.lemmas.Grind.{flat_map-append}
use Rattle.log_image.specs.Log.{IsLog, replayed}
use Rattle.life_bytes.specs.declared.sector.Sector.{Sector}
use Rattle.disk_model.specs.Disk.{Cell, Elapses}
use Rattle.log_record.specs.declared.image.Commit.{Commit}
use Rattle.log_image.specs.Overlay.{overlaid}
use Rattle.log_image.specs.OverlayLaws.{overlaid-append}
use Rattle.log_batch.specs.Newest.{commit_images}
use Rattle.log_store.specs.declared.store.Store.{Store}
use Rattle.log_store.specs.OnDisk.{ReplaysUpTo, base_of}
use Rattle.log_store.specs.State.{State, state_of}
use Rattle.log_store.specs.Steps.{Goes, Moves}

leaves_both : (a b d : ℕ) (past mid since : ℕ → List Sector → Type 0) (P R Q : List Sector → Type 0) → ((image : List Sector) → R image → P image) → ((image : List Sector) → Q image → P image)
    → Elapses a b past mid R → Elapses b d mid since Q → Elapses a d past since P
leaves_both a b d past mid since P R Q wider weaker first second = record {
  later = omega (arith, first.later, second.later);
  nothing_else = λ moment image le left. elim (second.nothing_else moment image (omega (arith, first.later)) left) [
    | inl was ↦ elim (first.nothing_else moment image le was) [ inl before ↦ inl before | inr is ↦ inr (wider image is) ]
    | inr is ↦ inr (weaker image is)
  ];
  keeps = λ moment image le left. second.keeps moment image (omega (arith, first.later)) (first.keeps moment image le left);
}

commit_images-append : (xs ys : List Commit) → commit_images (xs ++ ys) ≡ commit_images xs ++ commit_images ys
commit_images-append xs ys = flat_map-append (λ (c : Commit). c.images) xs ys

take-both : (n m : ℕ) (xs : List Commit) → n ≤ length xs → take (n + m) xs ≡ take n xs ++ take m (drop n xs)
take-both n m xs le =
    sym (take-append-drop n (take (n + m) xs))
    ∙ ap (λ (l : List Commit). l ++ drop n (take (n + m) xs)) (take-take n (n + m) xs (omega arith))
    ∙ ap (λ (l : List Commit). take n xs ++ l) (drop-take n m xs)

-- some commits of a list after some others of it, put over a base
pub both_over : (n m : ℕ) (base : List Sector) (list : List Commit) → n ≤ length list
    → overlaid (overlaid base (commit_images (take n list))) (commit_images (take m (drop n list))) ≡ overlaid base (commit_images (take (n + m) list))
both_over n m base list le =
    sym (overlaid-append base (commit_images (take n list)) (commit_images (take m (drop n list))))
    ∙ ap (overlaid base) (sym (commit_images-append (take n list) (take m (drop n list))))
    ∙ ap (λ (l : List Commit). overlaid base (commit_images l)) (sym (take-both n m list le))

pub moves_both : (known : Bool) (a b d : State) (first second third : List Cell) → Moves known a b first second → Moves known b d second third → Moves known a d first third
moves_both known a b d first second third one two = record {
  anchor = two.anchor ∙ one.anchor;
  ring = two.ring ∙ one.ring;
  head = omega (arith, one.head, two.head);
  count = one.count + two.count;
  within = omega (arith, one.within, two.within, ap length one.list, length-drop one.count a.list);
  list = two.list ∙ ap (drop two.count) one.list ∙ drop-drop two.count one.count a.list;
  durable = two.durable ∙ ap (λ (n : ℕ). n + two.count) one.durable ∙ omega arith;
  base = λ tells. two.base tells
      ∙ ap (λ (l : List Sector). overlaid l (commit_images (take two.count b.list))) (one.base tells)
      ∙ ap (λ (l : List Commit). overlaid (overlaid (base_of a first) (commit_images (take one.count a.list))) (commit_images (take two.count l))) one.list
      ∙ both_over one.count two.count (base_of a first) a.list one.within;
}

abbrev pub replays_earlier : (known : Bool) (head : ℕ) (a b : State) (first second : List Cell) (image : List Sector) → IsTrue known → Moves known a b first second
    → ReplaysUpTo head b second image → ReplaysUpTo head a first image
replays_earlier known head a b first second image tells moves is = record {
  log = is.log;
  count = moves.count + is.count;
  within = omega (arith, moves.within, is.within, ap length moves.list, length-drop moves.count a.list);
  says = subst (λ (n : ℕ). IsLog image n a.ring is.log) moves.anchor (subst (λ (n : ℕ). IsLog image b.anchor n is.log) moves.ring is.says);
  groups = ap (λ (n : ℕ). replayed n image is.log.records) (sym moves.anchor) ∙ is.groups
      ∙ ap (λ (l : List Sector). overlaid l (commit_images (take is.count b.list))) (moves.base tells)
      ∙ ap (λ (l : List Commit). overlaid (overlaid (base_of a first) (commit_images (take moves.count a.list))) (commit_images (take is.count l))) moves.list
      ∙ both_over moves.count is.count (base_of a first) a.list moves.within;
  next = is.next ∙ ap (λ (n : ℕ). n + 1 + is.count) moves.durable ∙ omega arith;
  end = is.end;
}

replays_wider : (head later : ℕ) (s : State) (cells : List Cell) (image : List Sector) → head ≤ later → ReplaysUpTo head s cells image → ReplaysUpTo later s cells image
replays_wider head later s cells image le is = record {
  log = is.log;
  count = is.count;
  within = is.within;
  says = is.says;
  groups = is.groups;
  next = is.next;
  end = omega (arith, is.end, le);
}

pub goes_both : {D : Type 0} (known : Bool) (cells : D → List Cell) (count moment : D → ℕ) (left : D → ℕ → List Sector → Type 0) (a b d : Store D)
    → Goes known cells count moment left a b → Goes known cells count moment left b d → Goes known cells count moment left a d
goes_both known cells count moment left a b d one two = record {
  store = two.store;
  moves = moves_both known (state_of a) (state_of b) (state_of d) (cells a.disk) (cells b.disk) (cells d.disk) one.moves two.moves;
  moments = λ tells. leaves_both (moment a.disk) (moment b.disk) (moment d.disk) (left a.disk) (left b.disk) (left d.disk)
      (ReplaysUpTo d.positions.head (state_of a) (cells a.disk)) (ReplaysUpTo b.positions.head (state_of a) (cells a.disk)) (ReplaysUpTo d.positions.head (state_of b) (cells b.disk))
      (λ image is. replays_wider b.positions.head d.positions.head (state_of a) (cells a.disk) image two.moves.head is)
      (λ image is. replays_earlier known d.positions.head (state_of a) (state_of b) (cells a.disk) (cells b.disk) image tells one.moves is)
      (one.moments tells) (two.moments tells);
}
