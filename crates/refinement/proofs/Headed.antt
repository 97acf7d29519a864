-- The clock or the line changes: cells 0 to 4 alone. All else is kept.
use Prim.Native.Nat.{ℕ, ◌+◌, ◌*◌, ◌/◌, ◌%◌, ◌≤◌, ◌<◌}
use mathlib.Core.Path.{◌≡◌, sym, ap, ap₂, subst, ◌∙◌}
use mathlib.Core.Bool.{Bool, true, false}
use mathlib.Core.List.{List}
use native.Mathlib.Omega.{arith}
use lib.Dec.{eqb}
use lib.ListN.{length, get_or, set, length-set}
use lib.Seq.{get_or-set_same, get_or-set_other}
use Rattle.std.specs.Prelude.{if◌then◌else◌}
use Rattle.rules.specs.Choice.{sum}
use Rattle.rules.specs.Plan.{Plan}
use Rattle.rules.specs.Drawn.{Within}
use Rattle.rules.specs.Core.{Core, Line, none, nothing_reserved, resting, busy, counts_in}
use Rattle.rules.specs.Control.{at_port}
use Rattle.ports.specs.Mask.{digit}
use Rattle.cells.specs.Layout.{cells, two_32, time_at, put_time, clock_cell, end_cell, busy_cell, holder_cell, class_cell, standing_cell, request_cell, mask_cell, pointer_cell, class_of, request_of, share_of, pointer_of, force_cell, granted_cell, latest_cell}
use Rattle.cells.specs.Decode.{is_node, is_hub, is_class_high, line_of, core_of, control_of}
use Rattle.cells.specs.Masks.{stands}
use Rattle.cells.specs.Calls as calls
use Rattle.refinement.specs.Kept.{counts_of, MasksRight, Pointing, Kept}
use Rattle.refinement.proofs.Requested.{Left}

-- r is s but for its first five cells
pub record Head (s r : List ℕ) : Type 0 where
  pub size : length r ≡ cells
  pub same : (i : ℕ) → 5 ≤ i → get_or r i 0 ≡ get_or s i 0

-- a core with this clock and this line
abbrev pub headed : ℕ → Line → Core → Core
headed t line s =
    record {
      clock = t;
      line = line;
      request = s.request;
      force = s.force;
      latest = s.latest;
      granted = s.granted;
    }

module _ (p : Plan) (s r : List ℕ) (h : Head s r) where
  head_core : core_of p r ≡ headed (time_at r clock_cell) (line_of r) (core_of p s)
  unfolding core_of
  head_core i =
      record {
        clock = time_at r clock_cell;
        line = line_of r;
        request = λ k. (if is_node p k then request_of (h.same (request_cell k) (omega arith) i) else none);
        force = λ k. (if is_node p k then share_of (h.same (force_cell k) (omega arith) i) else nothing_reserved);
        latest = λ k. (if is_node p k then share_of (h.same (latest_cell k) (omega arith) i) else nothing_reserved);
        granted = λ k. (if is_node p k then h.same (granted_cell k) (omega arith) i else 0);
      }

  -- what counts depends on neither
  head_counts : (is_high : Bool) → counts_of p is_high r ≡ counts_of p is_high s
  unfolding counts_in
  head_counts true = ap (λ (c : Core). counts_in (class_of true) c) head_core
  head_counts false = ap (λ (c : Core). counts_in (class_of false) c) head_core

  head_kept : Kept p s → Kept p r
  head_kept K =
      record {
        size = h.size;
        masks = λ is_high g w.
            h.same (mask_cell is_high g) (omega arith)
            ∙ subst (λ (f : ℕ → Bool). MasksRight p is_high f s) (sym (head_counts is_high)) (K.masks is_high) g w;
        standing =
            h.same standing_cell (omega arith) ∙ K.standing
            ∙ sym (λ i. sum p.nodes (λ j. digit (stands (h.same (request_cell j) (omega arith) i))));
        holder = subst (λ (x : ℕ). Within p.hubs x) (sym (h.same holder_cell (omega arith))) K.holder;
        class = subst (λ (x : ℕ). x ≤ 1) (sym (h.same class_cell (omega arith))) K.class;
        pointers = λ is_high g w. subst Pointing (sym (h.same (pointer_cell is_high g) (omega arith))) (K.pointers is_high g w);
      }

  head_control : control_of p r ≡ control_of p s
  unfolding control_of
  head_control i =
      record {
        holder = h.same holder_cell (omega arith) i;
        latest = class_of (eqb (h.same class_cell (omega arith) i) 1);
        pointer = λ c g. (if is_hub p g then pointer_of (h.same (pointer_cell (is_class_high c) g) (omega arith) i) else at_port 1);
      }

  pub head_left : Kept p s → (t : ℕ) (line : Line) → time_at r clock_cell ≡ t → line_of r ≡ line
      → Left p r (headed t line (core_of p s)) (control_of p s)
  head_left K t line clock is =
      record {
        kept = head_kept K;
        core = head_core ∙ ap₂ (λ (x : ℕ) (l : Line). headed x l (core_of p s)) clock is;
        control = head_control;
      }

-- a time that was put is read again
pub time-put : (i t : ℕ) (s : List ℕ) → i + 1 < length s → time_at (put_time i t s) i ≡ t
unfolding put_time
time-put i t s l =
    let low = get_or-set_other (set s i (t % two_32)) (i + 1) i (t / two_32) 0 (λ e. omega arith) ∙ get_or-set_same s i (t % two_32) 0 (omega arith) in
    let high = get_or-set_same (set s i (t % two_32)) (i + 1) (t / two_32) 0 (simp length-set l) in
    omega (arith, low, high)

pub time_other : (i t : ℕ) (s : List ℕ) (j : ℕ) → (j ≡ i → ⊥) → (j ≡ i + 1 → ⊥) → get_or (put_time i t s) j 0 ≡ get_or s j 0
unfolding put_time
time_other i t s j d e = get_or-set_other (set s i (t % two_32)) (i + 1) j (t / two_32) 0 e ∙ get_or-set_other s i j (t % two_32) 0 d

time_size : (i t : ℕ) (s : List ℕ) → length (put_time i t s) ≡ length s
unfolding put_time
time_size i t s = simp length-set

module _ (p : Plan) (s : List ℕ) (K : Kept p s) where
  -- the clock comes to t
  pub clock_left : (t : ℕ) → Left p (put_time clock_cell t s) (headed t (core_of p s).line (core_of p s)) (control_of p s)
  unfolding core_of
  clock_left t =
      head_left p s (put_time clock_cell t s)
      (record { size = time_size clock_cell t s ∙ K.size; same = λ i l. time_other clock_cell t s i (λ e. omega arith) (λ e. omega arith) })
      K t (line_of s) (time-put clock_cell t s (omega (arith, K.size)))
      (rw (
        time_other clock_cell t s 4 (λ e. omega arith) (λ e. omega arith),
        time_other clock_cell t s 2 (λ e. omega arith) (λ e. omega arith),
        time_other clock_cell t s 3 (λ e. omega arith) (λ e. omega arith),
      ))

  -- the line is busy until an end
  pub busy_left : (end : ℕ) → Left p (calls.busy_until end s) (headed (core_of p s).clock (busy end) (core_of p s)) (control_of p s)
  unfolding core_of calls.busy_until
  busy_left end =
      let b = set s busy_cell 1 in
      let long : length b ≡ cells = simp length-set K.size in
      let kept : (i : ℕ) → (i ≡ 2 → ⊥) → (i ≡ 3 → ⊥) → (i ≡ 4 → ⊥) → get_or (put_time end_cell end b) i 0 ≡ get_or s i 0 =
      λ i d e f. time_other end_cell end b i d e ∙ get_or-set_other s busy_cell i 1 0 f in
      let on : get_or (put_time end_cell end b) busy_cell 0 ≡ 1 =
      time_other end_cell end b busy_cell (λ e. omega arith) (λ e. omega arith) ∙ get_or-set_same s busy_cell 1 0 (omega (arith, K.size)) in
      head_left p s (put_time end_cell end b)
      (record { size = time_size end_cell end b ∙ long; same = λ i l. kept i (λ e. omega arith) (λ e. omega arith) (λ e. omega arith) })
      K (time_at s clock_cell) (busy end)
      (ap₂ (λ (x y : ℕ). x + y * two_32) (kept 0 (λ e. omega arith) (λ e. omega arith) (λ e. omega arith)) (kept 1 (λ e. omega arith) (λ e. omega arith) (λ e. omega arith)))
      (ap₂ (λ (x y : ℕ). if eqb x 0 then resting else busy y) on (time-put end_cell end b (omega (arith, long))))
