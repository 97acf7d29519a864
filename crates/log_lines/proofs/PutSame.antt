-- What is written or measured may be put by another name. Assumes nothing.
use Rattle.std.specs.Prelude.{Option}
use mathlib.Core.Path.{◌≡◌, sym, ap, ◌∙◌}
use mathlib.Core.Bool.{Bool}
use mathlib.Core.List.{List, []}
use Prim.Native.Nat.{ℕ}
use Rattle.writer.specs.Write.{put_answer, put_buffer, pass_buffer, put_number, put_row}
use Rattle.writer.proofs.Writes.{put-none, pass_none}

-- in a contract of one `ensures`
pub put_same : (w : Bool) (d : List ℕ) (at : ℕ) {s t : List ℕ} (r : Option ℕ) (e : List ℕ)
    → (r ≡ put_answer d at s) × (e ≡ pass_buffer w d at s) × (put_number r ≡ put_row d at s) → s ≡ t
    → (r ≡ put_answer d at t) × (e ≡ pass_buffer w d at t) × (put_number r ≡ put_row d at t)
put_same w d at r e p same = (p.0 ∙ ap (put_answer d at) same, p.1 ∙ ap (pass_buffer w d at) same, p.2 ∙ ap (put_row d at) same)

-- in one of three
pub put_same_3 : (w : Bool) (d : List ℕ) (at : ℕ) {s t : List ℕ} (r : Option ℕ) (e : List ℕ)
    → (r ≡ put_answer d at s) × (e ≡ pass_buffer w d at s) × (put_number r ≡ put_row d at s) → s ≡ t
    → (r ≡ put_answer d at t) × ((e ≡ pass_buffer w d at t) × (put_number r ≡ put_row d at t))
put_same_3 w d at r e p same =
    let q = put_same w d at r e p same in
    (q.0, (q.1, q.2))

-- an empty word is put the same in either pass
pub none-same : (w : Bool) (d : List ℕ) (at : ℕ) {t : List ℕ} (r : Option ℕ) (e : List ℕ)
    → (r ≡ put_answer d at []) × (e ≡ put_buffer d at []) × (put_number r ≡ put_row d at []) → [] ≡ t
    → (r ≡ put_answer d at t) × ((e ≡ pass_buffer w d at t) × (put_number r ≡ put_row d at t))
none-same w d at r e p same = put_same_3 w d at r e (p.0, p.1 ∙ put-none d at ∙ sym (pass_none w d at), p.2) same
