-- `log_lines::nodes_head` meets its contract: the three pieces fit in 32
-- bytes, 7 and at most 10 and 5, so each stands behind the one before.
-- Assumes nothing.
use Rattle.std.specs.Prelude.{Some}
use mathlib.Core.Path.{◌≡◌, sym, ap, ◌∙◌}
use mathlib.Core.List.{List, ◌++◌}
use Prim.Native.Nat.{ℕ, ◌+◌, ◌≤◌, ◌<◌, ◌^◌}
use native.Mathlib.Nat.{zero-add}
use native.Mathlib.Omega.{arith}
use lib.ListN.{length, take, length-append}
use Rattle.text.specs.Number.{digits}
use Rattle.text.proofs.Digits.{digits-length}
use Rattle.writer.specs.Write.{put_answer, put_buffer}
use Rattle.log_lines.specs.FirstLine.{nodes_word, hubs_word, nodes_head}
use Rattle.log_lines.proofs.Wrote.{Wrote, wrote_none, wrote_more, not_short, is_behind, wrote_front}
use Rattle.log_lines.proofs.nodes_head.Goals as goal

-- how long the pieces are together
two : (nodes : ℕ) → length (nodes_word ++ digits nodes) ≡ 7 + length (digits nodes)
two nodes = length-append nodes_word (digits nodes)

module _ (head : List ℕ) (nodes : ℕ) (long : length head ≡ 32) (small : nodes < 2 ^ 32) where
  room : 7 + length (digits nodes) + 5 ≤ length head
  room =
      let large : nodes < 10 ^ 10 = omega arith in
      let p = digits-length 9 nodes large in
      omega arith

  -- the pieces one behind the other
  first : (x : ℕ) (e : List ℕ) → Some x ≡ put_answer head 0 nodes_word → e ≡ put_buffer head 0 nodes_word → Wrote head 0 nodes_word x e
  first x e = wrote_more (wrote_none head 0) nodes_word (omega (arith, room)) x e

  module _ {x : ℕ} {e : List ℕ} (w : Wrote head 0 nodes_word x e) where
    second : (y : ℕ) (f : List ℕ) → Some y ≡ put_answer e x (digits nodes) → f ≡ put_buffer e x (digits nodes) → Wrote head 0 (nodes_word ++ digits nodes) y f
    second y f = wrote_more w (digits nodes) (omega (arith, room)) y f

pub returns-in_err-number : goal.returns-in_err-number
returns-in_err-number c =
    let here = room c.args.head.now c.args.nodes c.told-head (omega arith) in
    absurd (not_short (wrote_none c.args.head.now 0) nodes_word (omega (arith, here)) c.in_err-number.ensures.0)

pub returns-in_err-word : goal.returns-in_err-word
returns-in_err-word c =
    let p = c.put_word in
    let here = room c.args.head.now c.args.nodes c.told-head (omega arith) in
    let w = first c.args.head.now c.args.nodes c.told-head (omega arith) c.in_ok-number.number p.new.buffer c.in_ok-number.ensures.0 p.ensures.1 in
    absurd (not_short w (digits c.args.nodes) (omega (arith, here)) c.in_err-word.ensures.0)

pub returns : goal.returns
unfolding nodes_head
returns c =
    let p = c.put_word in
    let q = c.put_number in
    let r = c.put_word-2 in
    let here = room c.args.head.now c.args.nodes c.told-head (omega arith) in
    let v = first c.args.head.now c.args.nodes c.told-head (omega arith) c.in_ok-number.number p.new.buffer c.in_ok-number.ensures.0 p.ensures.1 in
    let w = second c.args.head.now c.args.nodes c.told-head (omega arith) v c.in_ok-word.word q.new.buffer c.in_ok-word.ensures.0 q.ensures.1 in
    let place = is_behind w hubs_word (omega (arith, here, two c.args.nodes)) r.ensures.0 in
    let all = wrote_more w hubs_word (omega (arith, here, two c.args.nodes)) (0 + length (nodes_head c.args.nodes)) r.new.buffer (sym place ∙ r.ensures.0) r.ensures.1 in
    (place ∙ ap Some (zero-add _), ap (λ (n : ℕ). take n r.new.buffer) (sym (zero-add _)) ∙ wrote_front all (omega arith))
