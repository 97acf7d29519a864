-- The start of a frame over the cells, the nodes' first and then the masks, is the frame start of `rules`; and so the clock's coming to t.
use Prim.Native.Nat.{ℕ, zero, suc, ◌+◌, ◌%◌, ◌≤◌, ◌<◌}
use mathlib.Core.Path.{◌≡◌, refl, sym, ap, subst, ◌∙◌}
use mathlib.Core.Bool.{Bool, true, false, ◌&&◌, ◌||◌, and-false}
use mathlib.Core.List.{List}
use native.Mathlib.Omega.{arith}
use borrow.Author.Tests.{ltb-true, ltb-false, lt-ltb, le-ltb, le-leb, lt-leb, leb-true, leb-false, eqb-true, eqb-false}
use lib.Dec.{eqb, ltb, leb}
use lib.ListN.{length, get_or, set, length-set}
use lib.Seq.{get_or-set_same, get_or-set_other}
use Rattle.std.specs.Prelude.{if◌then◌else◌}
use Rattle.rules.specs.Choice.{put}
use Rattle.rules.specs.Plan.{Plan}
use Rattle.rules.specs.Drawn.{Within}
use Rattle.rules.specs.Call.{normal, high}
use Rattle.rules.specs.Core.{Core, Request, none, standing, Share, nothing_reserved, is_class, reclassed, counts_in, frame_start, advance}
use Rattle.rules.specs.Control.{Control}
use Rattle.rules.proofs.Laws.Passes.{Which, which, yes', no', or-none, put_same, put_other, sum_same}
use Rattle.ports.specs.Mask.{digit}
use Rattle.cells.specs.Layout.{cells, standing_cell, request_cell, force_cell, latest_cell, granted_cell, class_of, request_of, request_code, share_of}
use Rattle.cells.specs.Decode.{plan_in, is_node, core_of, control_of}
use Rattle.cells.specs.Masks.{stands}
use Rattle.cells.specs.Waits.{turn_all, start_by}
use Rattle.cells.specs.Build.{build_masks}
use Rattle.cells.specs.Frames.{start_cells, start_nodes, start_frame, new_frame, advance_by}
use Rattle.refinement.specs.Kept.{Ready, counts_of, Kept, standing_in}
use Rattle.refinement.proofs.Same.{core_same, control-same}
use Rattle.refinement.proofs.Changed.{Change, KeptBut, kept_but, mended_kept, other_cell}
use Rattle.refinement.proofs.Requested.{Left, own_field, core_path, change_but, change-control, change_core}
use Rattle.refinement.proofs.OtherTimes.{all_other, other_left}
use Rattle.refinement.proofs.Built.{shown_in, AllCount, built}
use Rattle.refinement.proofs.Headed.{headed, clock_left}

-- ---- a request's cell at a frame's start

-- the code of a request is read as that request
pub code_read : (b : ℕ) → b < 65536 → (request_of (65536 + b) ≡ standing normal b) × (request_of (131072 + b) ≡ standing high b)
code_read b u = (
  rw (le-ltb (65536 + b) 65536 (omega arith), lt-ltb (65536 + b) 131072 (omega arith)) (ap (standing normal) (omega arith)),
  rw (le-ltb (131072 + b) 65536 (omega arith), le-ltb (131072 + b) 131072 (omega arith)) (ap (standing high) (omega arith)),
)

abbrev pub reclassed_code : ℕ → ℕ → ℕ
reclassed_code r x = request_code (reclassed (share_of r) (request_of x))

-- what is stored is read as the reclassed request, and stands where x stood
pub record ReclassedCell (r x : ℕ) : Type 0 where
  pub read : request_of (reclassed_code r x) ≡ reclassed (share_of r) (request_of x)
  pub stood : stands (reclassed_code r x) ≡ stands x

reclassed_cell : (r x : ℕ) → ReclassedCell r x
reclassed_cell r x = go (which (ltb x 65536)) (which (ltb x 131072)) (which (eqb (share_of r).packets 0 || ltb (share_of r).bits (x % 65536)))
  where
    codes : (request_of (65536 + x % 65536) ≡ standing normal (x % 65536)) × (request_of (131072 + x % 65536) ≡ standing high (x % 65536))
    codes = code_read (x % 65536) (omega arith)

    stand : (y : ℕ) → 65536 ≤ y → 65536 ≤ x → stands y ≡ stands x
    stand y l m = le-leb 65536 y l ∙ sym (le-leb 65536 x m)

    go : Which (ltb x 65536) → Which (ltb x 131072) → Which (eqb (share_of r).packets 0 || ltb (share_of r).bits (x % 65536)) → ReclassedCell r x
    go (yes' a) b c = record { read = rw a; stood = rw a (sym (lt-leb 65536 x (omega (arith, ltb-true x 65536 a)))) }
    go (no' a) (yes' b) c =
        record { read = rw (a, b) codes.0; stood = rw (a, b) (stand (65536 + x % 65536) (omega arith) (ltb-false x 65536 a)) }
    go (no' a) (no' b) (yes' c) =
        record { read = rw (a, b, c) codes.0; stood = rw (a, b, c) (stand (65536 + x % 65536) (omega arith) (ltb-false x 65536 a)) }
    go (no' a) (no' b) (no' c) =
        record { read = rw (a, b, c) codes.1; stood = rw (a, b, c) (stand (131072 + x % 65536) (omega arith) (ltb-false x 65536 a)) }

-- a request's cell shows in the class in which it stands
class_shown : (is_high : Bool) (x : ℕ) → is_class (class_of is_high) (request_of x) ≡ shown_in is_high x
class_shown is_high x = go is_high (which (ltb x 65536)) (which (ltb x 131072))
  where
    go : (is_high : Bool) → Which (ltb x 65536) → Which (ltb x 131072) → is_class (class_of is_high) (request_of x) ≡ shown_in is_high x
    go true (yes' a) b = rw (a, lt-leb 65536 x (ltb-true x 65536 a))
    go false (yes' a) b = rw (a, lt-leb 65536 x (ltb-true x 65536 a))
    go true (no' a) (yes' b) = rw (a, b, le-leb 65536 x (ltb-false x 65536 a), lt-leb 131072 x (ltb-true x 131072 b))
    go false (no' a) (yes' b) = rw (a, b, le-leb 65536 x (ltb-false x 65536 a), lt-leb 131072 x (ltb-true x 131072 b))
    go true (no' a) (no' b) = rw (a, b, le-leb 65536 x (ltb-false x 65536 a), le-leb 131072 x (ltb-false x 131072 b))
    go false (no' a) (no' b) = rw (a, b, le-leb 65536 x (ltb-false x 65536 a), le-leb 131072 x (ltb-false x 131072 b))

-- a request that is high behind a frame's start has a packet left: n is at least 1, and no high grant is counted
share_left_lem : (r : Share) (x : Request) → (is_class high (reclassed r x) && ltb 0 r.packets) ≡ is_class high (reclassed r x)
share_left_lem r none = refl
share_left_lem r (standing normal b) = refl
share_left_lem r (standing high b) = go (which (eqb r.packets 0 || ltb r.bits b))
  where
    go : Which (eqb r.packets 0 || ltb r.bits b)
        → (is_class high (reclassed r (standing high b)) && ltb 0 r.packets) ≡ is_class high (reclassed r (standing high b))
    go (yes' e) = rw e
    go (no' e) =
        rw e (lt-ltb 0 r.packets (omega (arith, eqb-false r.packets 0 (or-none (eqb r.packets 0) (ltb r.bits b) e).0)))

-- ---- one node at a frame's start

-- the core with node k started
abbrev pub started_at : ℕ → Core → Core
started_at k s =
    record {
      clock = s.clock;
      line = s.line;
      request = put s.request k (reclassed (s.latest k) (s.request k));
      force = put s.force k (s.latest k);
      latest = s.latest;
      granted = put s.granted k 0;
    }

-- what is kept of cells whose masks are to be built anew
pub record Bare (p : Plan) (s : List ℕ) : Type 0 where
  pub size : length s ≡ cells
  pub but : KeptBut p s

-- such cells, with this core and this control
record LeftBare (p : Plan) (r : List ℕ) (c : Core) (σ : Control) : Type 0 where
  bare : Bare p r
  core : core_of p r ≡ c
  control : control_of p r ≡ σ

module _ (P : List ℕ) (R : Ready P) (s : List ℕ) (K : Bare (plan_in P) s) (k : ℕ) (w : Within (plan_in P).nodes k) where
  share : ℕ
  share = get_or s (latest_cell k) 0

  old : ℕ
  old = get_or s (request_cell k) 0

  new : ℕ
  new = reclassed_code share old

  start_change : Change k s (start_cells k s)
  unfolding start_cells new share old
  start_change =
      record {
        size = simp length-set K.size;
        same = λ i d e.
            get_or-set_other (set (set s (request_cell k) new) (force_cell k) share) (granted_cell k) i 0 0 e.3
            ∙ get_or-set_other (set s (request_cell k) new) (force_cell k) i share 0 e.1
            ∙ get_or-set_other s (request_cell k) i new 0 e.0;
      }

  long : granted_cell k < length s
  long = omega (arith, K.size, w.up, R.drawn.few_nodes)

  start_request : get_or (start_cells k s) (request_cell k) 0 ≡ new
  unfolding start_cells new share old
  start_request =
      get_or-set_other (set (set s (request_cell k) new) (force_cell k) share) (granted_cell k) (request_cell k) 0 0 (λ e. omega arith)
      ∙ get_or-set_other (set s (request_cell k) new) (force_cell k) (request_cell k) share 0 (λ e. omega arith)
      ∙ get_or-set_same s (request_cell k) new 0 (omega (arith, long))

  start_force : get_or (start_cells k s) (force_cell k) 0 ≡ share
  unfolding start_cells new share old
  start_force =
      get_or-set_other (set (set s (request_cell k) new) (force_cell k) share) (granted_cell k) (force_cell k) 0 0 (λ e. omega arith)
      ∙ get_or-set_same (set s (request_cell k) new) (force_cell k) share 0 (simp length-set (omega (arith, long)))

  start_latest : get_or (start_cells k s) (latest_cell k) 0 ≡ share
  unfolding start_cells new share old
  start_latest =
      get_or-set_other (set (set s (request_cell k) new) (force_cell k) share) (granted_cell k) (latest_cell k) 0 0 (λ e. omega arith)
      ∙ get_or-set_other (set s (request_cell k) new) (force_cell k) (latest_cell k) share 0 (λ e. omega arith)
      ∙ get_or-set_other s (request_cell k) (latest_cell k) new 0 (λ e. omega arith)

  start_granted : get_or (start_cells k s) (granted_cell k) 0 ≡ 0
  unfolding start_cells new share old
  start_granted =
      get_or-set_same (set (set s (request_cell k) new) (force_cell k) share) (granted_cell k) 0 0 (simp length-set (omega (arith, long)))

  start_core : core_of (plan_in P) (start_cells k s) ≡ started_at k (core_of (plan_in P) s)
  unfolding core_of share old new
  start_core =
      let c = core_of (plan_in P) s in
      change_core (plan_in P) R.drawn k w s (start_cells k s) start_change (started_at k c) refl refl
      (λ j d. put_other c.request k (reclassed (c.latest k) (c.request k)) j d)
      (λ j d. put_other c.force k (c.latest k) j d)
      (λ j d. refl)
      (λ j d. put_other c.granted k 0 j d)
      (own_field (plan_in P) k w request_of none (get_or (start_cells k s) (request_cell k) 0) ∙ ap request_of start_request ∙ (reclassed_cell share old).read
      ∙ sym (ap (λ (x : Share). reclassed x (request_of old)) (own_field (plan_in P) k w share_of nothing_reserved share))
      ∙ sym (ap (reclassed (c.latest k)) (own_field (plan_in P) k w request_of none old))
      ∙ sym (put_same c.request k (reclassed (c.latest k) (c.request k))))
      (own_field (plan_in P) k w share_of nothing_reserved (get_or (start_cells k s) (force_cell k) 0) ∙ ap share_of start_force
      ∙ sym (own_field (plan_in P) k w share_of nothing_reserved share) ∙ sym (put_same c.force k (c.latest k)))
      (ap (λ (x : ℕ). if is_node (plan_in P) k then share_of x else nothing_reserved) start_latest)
      (own_field (plan_in P) k w (λ x. x) 0 (get_or (start_cells k s) (granted_cell k) 0) ∙ start_granted ∙ sym (put_same c.granted k 0))

  -- the number of standing requests is as it was
  start_standing : get_or (start_cells k s) standing_cell 0 ≡ standing_in (plan_in P).nodes (start_cells k s)
  unfolding share old new start_cells
  start_standing =
      low ∙ K.but.standing ∙ sym (sum_same (plan_in P).nodes _ _ (λ j v. go j v (which (eqb j k))))
    where
      low : get_or (start_cells k s) standing_cell 0 ≡ get_or s standing_cell 0
      low =
          get_or-set_other (set (set s (request_cell k) new) (force_cell k) share) (granted_cell k) standing_cell 0 0 (λ e. omega arith)
          ∙ get_or-set_other (set s (request_cell k) new) (force_cell k) standing_cell share 0 (λ e. omega arith)
          ∙ get_or-set_other s (request_cell k) standing_cell new 0 (λ e. omega arith)

      go : (j : ℕ) → Within (plan_in P).nodes j → Which (eqb j k)
          → digit (stands (get_or (start_cells k s) (request_cell j) 0)) ≡ digit (stands (get_or s (request_cell j) 0))
      go j l (yes' e) =
          subst (λ (i : ℕ). digit (stands (get_or (start_cells k s) (request_cell i) 0)) ≡ digit (stands (get_or s (request_cell i) 0))) (sym (eqb-true j k e))
          (ap (λ (x : ℕ). digit (stands x)) start_request ∙ ap digit (reclassed_cell share old).stood)
      go j l (no' e) =
          ap (λ (x : ℕ). digit (stands x)) (other_cell (plan_in P) R.drawn k w s (start_cells k s) start_change j 0 l (eqb-false j k e) (omega arith))

  start_but : KeptBut (plan_in P) (start_cells k s)
  start_but = change_but (plan_in P) R.drawn k w s (start_cells k s) start_change K.but start_standing

  node_left : LeftBare (plan_in P) (start_cells k s) (started_at k (core_of (plan_in P) s)) (control_of (plan_in P) s)
  node_left =
      record {
        bare = record { size = start_change.size; but = start_but };
        core = start_core;
        control = change-control (plan_in P) R.drawn k w s (start_cells k s) start_change;
      }

-- ---- all nodes, n to 1

-- the core with nodes 1 to n started
abbrev pub started_to : ℕ → Core → Core
started_to n s =
    record {
      clock = s.clock;
      line = s.line;
      request = λ j. (if leb j n then reclassed (s.latest j) (s.request j) else s.request j);
      force = λ j. (if leb j n then s.latest j else s.force j);
      latest = s.latest;
      granted = λ j. (if leb j n then 0 else s.granted j);
    }

-- one more: a field that is v from where it is started, and f before
field_more : {A : Type 0} (n : ℕ) (f : ℕ → A) (v : ℕ → A → A) (j : ℕ)
    → (if leb j n then v j (put f (suc n) (v (suc n) (f (suc n))) j) else put f (suc n) (v (suc n) (f (suc n))) j)
    ≡ (if leb j (suc n) then v j (f j) else f j)
field_more n f v j = go (which (eqb j (suc n))) (which (leb j n))
  where
    go : Which (eqb j (suc n)) → Which (leb j n)
        → (if leb j n then v j (put f (suc n) (v (suc n) (f (suc n))) j) else put f (suc n) (v (suc n) (f (suc n))) j)
        ≡ (if leb j (suc n) then v j (f j) else f j)
    go (yes' e) b =
        let q = eqb-true j (suc n) e in
        rw (e, lt-leb j n (omega arith), le-leb j (suc n) (omega arith)) (sym (ap (λ (i : ℕ). v i (f i)) q))
    go (no' e) (yes' b) = rw (e, b, le-leb j (suc n) (omega (arith, leb-true j n b)))
    go (no' e) (no' b) = rw (e, b, lt-leb j (suc n) (omega (arith, leb-false j n b, eqb-false j (suc n) e)))

started_more : (n : ℕ) (s : Core) → started_to n (started_at (suc n) s) ≡ started_to (suc n) s
started_more n s =
    core_path refl refl
    (field_more n s.request (λ j. reclassed (s.latest j)))
    (field_more n s.force (λ j x. s.latest j))
    (λ j. refl)
    (field_more n s.granted (λ j x. 0))

module _ (P : List ℕ) (R : Ready P) where
  -- none yet: no node has the number 0
  started_none : (s : List ℕ) → started_to 0 (core_of (plan_in P) s) ≡ core_of (plan_in P) s
  unfolding core_of
  started_none s = core_path refl refl (λ j. request j) (λ j. force j) (λ j. refl) (λ j. granted j)
    where
      c : Core
      c = core_of (plan_in P) s

      request : (j : ℕ) → (started_to 0 c).request j ≡ c.request j
      request zero = refl
      request (suc j) = rw (lt-leb (suc j) 0 (omega arith))

      force : (j : ℕ) → (started_to 0 c).force j ≡ c.force j
      force zero = refl
      force (suc j) = rw (lt-leb (suc j) 0 (omega arith))

      granted : (j : ℕ) → (started_to 0 c).granted j ≡ c.granted j
      granted zero = refl
      granted (suc j) = rw (lt-leb (suc j) 0 (omega arith))

  -- all of them: above N there is no node
  started_all : (t : ℕ) (s : List ℕ) → headed t (core_of (plan_in P) s).line (started_to (plan_in P).nodes (core_of (plan_in P) s)) ≡ frame_start t (core_of (plan_in P) s)
  unfolding core_of
  started_all t s =
      core_path refl refl (λ j. request j (which (leb j n))) (λ j. force j (which (leb j n))) (λ j. refl) (λ j. granted j (which (leb j n)))
    where
      n : ℕ
      n = (plan_in P).nodes

      c : Core
      c = core_of (plan_in P) s

      above : (j : ℕ) → leb j n ≡ false → is_node (plan_in P) j ≡ false
      above j e = rw e (and-false (leb 1 j))

      request : (j : ℕ) → Which (leb j n) → (started_to n c).request j ≡ (frame_start t c).request j
      request j (yes' e) = rw e
      request j (no' e) = rw (above j e, e)

      force : (j : ℕ) → Which (leb j n) → (started_to n c).force j ≡ (frame_start t c).force j
      force j (yes' e) = rw e
      force j (no' e) = rw (above j e, e)

      granted : (j : ℕ) → Which (leb j n) → (started_to n c).granted j ≡ (frame_start t c).granted j
      granted j (yes' e) = rw e
      granted j (no' e) = rw (above j e, e)

  nodes_left : (n : ℕ) → n ≤ (plan_in P).nodes → (s : List ℕ) → Bare (plan_in P) s
      → LeftBare (plan_in P) (start_nodes n s) (started_to n (core_of (plan_in P) s)) (control_of (plan_in P) s)
  unfolding start_nodes
  nodes_left zero u s K = record { bare = K; core = sym (started_none s); control = refl }
  nodes_left (suc n) u s K =
      let one = node_left P R s K (suc n) (record { low = omega arith; up = u }) in
      let rest = nodes_left n (omega arith) (start_cells (suc n) s) one.bare in
      record {
        bare = rest.bare;
        core = rest.core ∙ ap (started_to n) one.core ∙ started_more n (core_of (plan_in P) s);
        control = rest.control ∙ one.control;
      }

  -- then every standing request counts, so the masks can be built
  all_count : (c : Core) (r : List ℕ) → core_of (plan_in P) r ≡ started_to (plan_in P).nodes c → AllCount P r
  unfolding core_of counts_in
  all_count c r e is_high k w =
      started_counts is_high ∙ ap (is_class (class_of is_high)) (own_field (plan_in P) k w request_of none (get_or r (request_cell k) 0))
      ∙ class_shown is_high (get_or r (request_cell k) 0)
    where
      started : (is_high : Bool) → counts_in (class_of is_high) (started_to (plan_in P).nodes c) k ≡ is_class (class_of is_high) ((started_to (plan_in P).nodes c).request k)
      started true = rw (le-leb k (plan_in P).nodes w.up) (share_left_lem (c.latest k) (c.request k))
      started false = refl

      started_counts : (is_high : Bool) → counts_of (plan_in P) is_high r k ≡ is_class (class_of is_high) ((core_of (plan_in P) r).request k)
      started_counts is_high =
          ap (λ (x : Core). counts_in (class_of is_high) x k) e ∙ started is_high ∙ sym (ap (λ (x : Core). is_class (class_of is_high) (x.request k)) e)

  frame_left : (s : List ℕ) → Kept (plan_in P) s
      → Left (plan_in P) (start_frame P s) (started_to (plan_in P).nodes (core_of (plan_in P) s)) (control_of (plan_in P) s)
  unfolding start_frame
  frame_left s K =
      let l = nodes_left (plan_in P).nodes (omega arith) s (record { size = K.size; but = kept_but (plan_in P) s K }) in
      let r = start_nodes (plan_in P).nodes s in
      let m = built P R r l.bare.size (all_count (core_of (plan_in P) s) r l.core) in
      record {
        kept = mended_kept (plan_in P) R.drawn.few_hubs r (build_masks P r) l.bare.but m;
        core = core_same (plan_in P) r (build_masks P r) m.same ∙ l.core;
        control = control-same (plan_in P) R.drawn.few_hubs r (build_masks P r) m.same ∙ l.control;
      }

  -- the clock comes to t
  pub advance_left : (t : ℕ) (s : List ℕ) → Kept (plan_in P) s
      → Left (plan_in P) (advance_by P t s) (advance (plan_in P) t (core_of (plan_in P) s)) (control_of (plan_in P) s)
  unfolding advance_by advance core_of
  advance_left t s K = go (which (new_frame (plan_in P) t s))
    where
      go : Which (new_frame (plan_in P) t s)
          → Left (plan_in P) (advance_by P t s) (advance (plan_in P) t (core_of (plan_in P) s)) (control_of (plan_in P) s)
      go (yes' e) =
          let turned = turn_all P (start_by P s) s in
          let o = other_left (plan_in P) R.drawn s turned (all_other P (start_by P s) s) K in
          let l = frame_left turned o.kept in
          let m = clock_left (plan_in P) (start_frame P turned) l.kept t in
          rw e
          (record {
            kept = m.kept;
            core = m.core ∙ ap (λ (c : Core). headed t c.line c) (l.core ∙ ap (started_to (plan_in P).nodes) o.core) ∙ started_all t s;
            control = m.control ∙ l.control ∙ o.control;
          })
      go (no' e) =
          let m = clock_left (plan_in P) s K t in
          rw e (record { kept = m.kept; core = m.core; control = m.control })
