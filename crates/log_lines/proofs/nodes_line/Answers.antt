-- `log_lines::nodes_line` meets its contract: the form's word is the front of the array, which is `(nodes N hubs`. Assumes nothing.
use Rattle.std.specs.Prelude.{Some}
use mathlib.Core.Path.{◌≡◌, ap, ◌∙◌}
use mathlib.Core.List.{List, [], ◌∷◌}
use Prim.Native.Nat.{ℕ}
use lib.ListN.{length, take}
use Rattle.writer.specs.Write.{draw_line}
use Rattle.log_lines.specs.FirstLine.{nodes_head, nodes_line}
use Rattle.log_lines.proofs.PutSame.{put_same}
use Rattle.log_lines.proofs.nodes_line.Goals as goal

-- the front, by how many bytes it is said to have
front : (nodes end : ℕ) (head : List ℕ) → Some end ≡ Some (length (nodes_head nodes)) → take (length (nodes_head nodes)) head ≡ nodes_head nodes → take end head ≡ nodes_head nodes
front nodes end head e h =
    let same : end ≡ length (nodes_head nodes) = cc in
    ap (λ (n : ℕ). take n head) same ∙ h

pub returns : goal.returns
unfolding nodes_line
returns c =
    let a = c.args in
    let p = c.put_form in
    let word = front a.nodes c.in_ok-end.end c.nodes_head.new.head c.in_ok-end.ensures.0 c.nodes_head.ensures.1 in
    put_same a.write a.buffer.now a.at p.result p.new.buffer p.ensures (ap (λ (w : List ℕ). draw_line w (a.hubs ∷ [])) word)
