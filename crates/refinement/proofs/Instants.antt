-- The root's two masks and the number of standing requests tell the class sought and the due instant.
use Prim.Native.Nat.{ℕ, zero, suc, ◌+◌, ◌*◌, ◌≤◌}
use mathlib.Core.Path.{◌≡◌, refl, sym, ap, ap₂, ◌∙◌}
use mathlib.Core.Bool.{Bool, true, false, not, ◌&&◌, ◌||◌}
use mathlib.Core.List.{List}
use native.Mathlib.Omega.{arith}
use lib.Dec.{ltb, leb, eqb}
use lib.ListN.{get_or}
use borrow.Author.Tests.{le-leb, lt-leb, leb-true, ltb-true, ltb-false, ne_eqb}
use Rattle.std.specs.Prelude.{if◌then◌else◌, Some, None}
use Rattle.rules.specs.Choice.{any, sum}
use Rattle.rules.specs.Plan.{Plan}
use Rattle.rules.specs.Drawn.{Drawn, Within}
use Rattle.rules.specs.Call.{normal, high}
use Rattle.rules.specs.Core as rules
use Rattle.rules.specs.Control.{shows}
use Rattle.rules.proofs.Laws.Passes.{Which, which, yes', no', true-false, or-none, or_left, or_right, any_some, any_none, any_intro, none_any}
use Rattle.rules.proofs.Control.Intervals.{Shown, some, clear, shown_all}
use Rattle.rules.proofs.Control.Cover.{shown}
use Rattle.rules.proofs.Control.Pointers.{root_within}
use Rattle.ports.specs.Ports.{ports, any_port}
use Rattle.ports.specs.Mask.{mask_of, digit}
use Rattle.ports.proofs.Coding.{mask_lt, any_shown}
use Rattle.ports.proofs.Summaries.{Sums, any_mask, sums_any}
use Rattle.cells.specs.Layout.{standing_cell, busy_cell, clock_cell, end_cell, request_cell, request_of, time_at}
use Rattle.cells.specs.Decode.{plan_in, core_of, line_of}
use Rattle.cells.specs.Masks.{stands}
use Rattle.cells.specs.Sought.{Class, Nothing}
use Rattle.cells.specs.Instants.{root_shows, sought_by, resting_due, due_by, due_in, sought_in}
use Rattle.refinement.specs.Kept.{Ready, Kept, counts_of, seen_at}

-- ---- any, over the numbers 1 to n

pub any_same : (n : ℕ) (f g : ℕ → Bool) → ((k : ℕ) → Within n k → f k ≡ g k) → any n f ≡ any n g
unfolding any
any_same zero f g h = refl
any_same (suc n) f g h =
    ap₂ (λ (a b : Bool). a || b) (any_same n f g (λ k w. h k (record { low = w.low; up = omega (arith, w.up) })))
    (h (suc n) (record { low = omega arith; up = omega arith }))

-- one of two tests holds of some number where either holds of one; the second is asked first
pub any-or : (n : ℕ) (f g : ℕ → Bool) → any n (λ k. f k || g k) ≡ (any n g || any n f)
any-or n f g = go (which (any n f)) (which (any n g))
  where
    go : Which (any n f) → Which (any n g) → any n (λ k. f k || g k) ≡ (any n g || any n f)
    go (yes' e) _ =
        let s = any_some n f e in
        any_intro n (λ k. f k || g k) (record { number = s.number; within = s.within; holds = or_left (f s.number) (g s.number) s.holds })
        ∙ sym (or_right (any n g) (any n f) e)
    go (no' e) (yes' h) =
        let s = any_some n g h in
        any_intro n (λ k. f k || g k) (record { number = s.number; within = s.within; holds = or_right (f s.number) (g s.number) s.holds })
        ∙ sym (or_left (any n g) (any n f) h)
    go (no' e) (no' h) = rw (e, h) (none_any n (λ k. f k || g k) (λ k w. rw (any_none n f e k w, any_none n g h k w)))

-- a number of things is not 0 where there is one
pub some_of_them : (n : ℕ) (b : ℕ → Bool) → not (eqb (sum n (λ k. digit (b k))) 0) ≡ any n b
unfolding sum any
some_of_them zero b = refl
some_of_them (suc n) b = go (b (suc n)) (any n b) (some_of_them n b)
  where
    go : (c a : Bool) → not (eqb (sum n (λ k. digit (b k))) 0) ≡ a → not (eqb (sum n (λ k. digit (b k)) + digit c) 0) ≡ (a || c)
    go true a e = rw (ne_eqb (sum n (λ k. digit (b k)) + digit true) 0 (omega arith)) (sym (or_right a true refl))
    go false true e = let same : sum n (λ k. digit (b k)) + digit false ≡ sum n (λ k. digit (b k)) = omega arith in rw same e
    go false false e = let same : sum n (λ k. digit (b k)) + digit false ≡ sum n (λ k. digit (b k)) = omega arith in rw same e

-- ---- what a hub sees, and the root's masks

module _ (p : Plan) (D : Drawn p) (f : ℕ → Bool) where
  -- there is nothing behind the last port
  pub seen-any : (g : ℕ) → Within p.hubs g → any_port (seen_at p f g) ≡ any (p.ports g) (shows p f g)
  seen-any g w = sums_any ports (seen_at p f g) (any (p.ports g) (shows p f g)) (go (any (p.ports g) (shows p f g)) refl)
    where
      at : (q : ℕ) → ((v : Within (p.ports g) q) → shows p f g q ≡ false) → 1 ≤ q → Which (leb q (p.ports g)) → seen_at p f g q ≡ false
      at q h l (yes' e) = rw e (h (record { low = l; up = leb-true q (p.ports g) e }))
      at q h l (no' e) = rw e

      go : (b : Bool) → any (p.ports g) (shows p f g) ≡ b → Sums ports (seen_at p f g) b
      go true e =
          let s = any_some (p.ports g) (shows p f g) e in (
            s.number,
            s.within.low,
            omega (arith, s.within.up, D.few_ports g w),
            rw (le-leb s.number (p.ports g) s.within.up) s.holds,
          )
      go false e = λ q l u. at q (λ v. any_none (p.ports g) (shows p f g) e q v) l (which (leb q (p.ports g)))

  -- the root covers every node
  pub root_sees : any (p.ports 1) (shows p f 1) ≡ any p.nodes f
  root_sees = go (shown_all f (D.above 1) (shows p f 1) (p.ports 1) (λ q v. shown p D f 1 q (root_within p D) v))
    where
      go : {b : Bool} → Shown f (D.above 1 1) (D.above 1 (p.ports 1 + 1)) b → b ≡ any p.nodes f
      go (some e s) =
          let w : Within p.nodes s.number = record { low = omega (arith, s.past); up = omega (arith, s.up, D.root_last) } in
          e ∙ sym (any_intro p.nodes f (record { number = s.number; within = w; holds = s.holds }))
      go (clear e n) =
          e ∙ sym (none_any p.nodes f (λ k w. n.none k (omega (arith, w.low, D.root_first)) (omega (arith, w.up, D.root_last))))

-- a mask is not 0 where it shows a port
pub mask_nonzero : (f : ℕ → Bool) → not (eqb (mask_of f) 0) ≡ any_port f
mask_nonzero f = any_shown ports (mask_of f) (mask_lt ports f) ∙ any_mask f

-- ---- a core's parts, read off the cells

module _ (p : Plan) (s : List ℕ) where
  pub line_in : (core_of p s).line ≡ line_of s
  unfolding core_of
  line_in = refl

  pub request_in : (k : ℕ) → Within p.nodes k → (core_of p s).request k ≡ request_of (get_or s (request_cell k) 0)
  unfolding core_of
  request_in k w = rw (le-leb 1 k w.low, le-leb k p.nodes w.up)

-- ---- where none counts, a request that stands is held

-- by the number of a request's cell, and whether the node has a share left
held_by : (x : ℕ) (left : Bool) → rules.is_class normal (request_of x) ≡ false → (rules.is_class high (request_of x) && left) ≡ false
    → (rules.is_class high (request_of x) && not left) ≡ stands x
held_by x left = go (which (ltb x 65536)) (which (ltb x 131072))
  where
    go : Which (ltb x 65536) → Which (ltb x 131072) → rules.is_class normal (request_of x) ≡ false → (rules.is_class high (request_of x) && left) ≡ false
        → (rules.is_class high (request_of x) && not left) ≡ stands x
    go (yes' e) _ = rw (e, lt-leb 65536 x (ltb-true x 65536 e)) (λ a b. refl)
    go (no' e) (yes' h) = rw (e, h, le-leb 65536 x (ltb-false x 65536 e)) (λ a b. absurd (true-false refl a))
    go (no' e) (no' h) = rw (e, h, le-leb 65536 x (ltb-false x 65536 e)) (λ a b. rw b)

module _ (p : Plan) (s : List ℕ) where
  held_in : (k : ℕ) → Within p.nodes k → rules.counts (core_of p s) k ≡ false → rules.held (core_of p s) k ≡ stands (get_or s (request_cell k) 0)
  unfolding rules.counts rules.counts_in rules.held
  held_in k w e =
      let (a, b) = or-none (rules.counts_in normal (core_of p s) k) (rules.counts_in high (core_of p s) k) e in
      rw (request_in p s k w)
      (held_by (get_or s (request_cell k) 0) (rules.share_left (core_of p s) k) (rw (request_in p s k w) at a) (rw (request_in p s k w) at b))

-- ---- the class sought and the due instant

module _ (P : List ℕ) (R : Ready P) (s : List ℕ) (K : Kept (plan_in P) s) where
  -- the root's mask tells whether some request counts in a class
  pub root_shows_lem : (is_high : Bool) → root_shows is_high s ≡ any (plan_in P).nodes (counts_of (plan_in P) is_high s)
  root_shows_lem is_high =
      let f = counts_of (plan_in P) is_high s in
      let w = root_within (plan_in P) R.drawn in
      ap (λ (m : ℕ). not (eqb m 0)) (K.masks is_high 1 w) ∙ mask_nonzero (seen_at (plan_in P) f 1)
      ∙ seen-any (plan_in P) R.drawn f 1 w ∙ root_sees (plan_in P) R.drawn f

  pub sought_tied : sought_in (sought_by s) ≡ rules.sought (plan_in P) (core_of (plan_in P) s)
  unfolding sought_by rules.sought
  sought_tied = rw (root_shows_lem true, root_shows_lem false)
      (go (any (plan_in P).nodes (counts_of (plan_in P) true s)) (any (plan_in P).nodes (counts_of (plan_in P) false s)))
    where
      go : (a b : Bool) → sought_in (if a then Class true else (if b then Class false else Nothing))
          ≡ (if a then rules.class high else (if b then rules.class normal else rules.nothing))
      go true b = refl
      go false true = refl
      go false false = refl

  some_counts_lem : (root_shows true s || root_shows false s) ≡ any (plan_in P).nodes (rules.counts (core_of (plan_in P) s))
  unfolding rules.counts
  some_counts_lem =
      let c = core_of (plan_in P) s in
      ap₂ (λ (a b : Bool). a || b) (root_shows_lem true) (root_shows_lem false)
      ∙ sym (any-or (plan_in P).nodes (rules.counts_in normal c) (rules.counts_in high c))

  some_held_lem : any (plan_in P).nodes (rules.counts (core_of (plan_in P) s)) ≡ false
      → not (eqb (get_or s standing_cell 0) 0) ≡ any (plan_in P).nodes (rules.held (core_of (plan_in P) s))
  some_held_lem e =
      let c = core_of (plan_in P) s in
      let n = (plan_in P).nodes in
      ap (λ (x : ℕ). not (eqb x 0)) K.standing ∙ some_of_them n (λ k. stands (get_or s (request_cell k) 0))
      ∙ sym (any_same n (rules.held c) (λ k. stands (get_or s (request_cell k) 0)) (λ k w. held_in (plan_in P) s k w (any_none n (rules.counts c) e k w)))

  rest_tied : due_in (resting_due (plan_in P) s) ≡ rules.due_at_rest (plan_in P) (core_of (plan_in P) s)
  unfolding resting_due core_of
  rest_tied =
      let n = (plan_in P).nodes in
      let c = core_of (plan_in P) s in
      rw some_counts_lem (go (any n (rules.counts c)) (eqb (get_or s standing_cell 0) 0) (any n (rules.held c)) some_held_lem)
    where
      clock : ℕ
      clock = time_at s clock_cell

      next_frame : ℕ
      next_frame = (rules.frame_of (plan_in P) clock + 1) * (plan_in P).frame

      go : (a z h : Bool) → (a ≡ false → not z ≡ h)
          → due_in (if a then Some clock else (if z then None else Some next_frame))
          ≡ (if a then rules.at clock else (if h then rules.at next_frame else rules.never))
      go true z h e = refl
      go false true h e = rw (← (e refl))
      go false false h e = rw (← (e refl))

  pub due_tied : due_in (due_by (plan_in P) s) ≡ rules.due (plan_in P) (core_of (plan_in P) s)
  unfolding due_by rules.due
  due_tied = go (eqb (get_or s busy_cell 0) 0) ∙ ap (λ (l : rules.Line). rules.due_on l (plan_in P) (core_of (plan_in P) s)) (sym (line_in (plan_in P) s))
    where
      go : (b : Bool) → due_in (if b then resting_due (plan_in P) s else Some (time_at s end_cell))
          ≡ rules.due_on (if b then rules.resting else rules.busy (time_at s end_cell)) (plan_in P) (core_of (plan_in P) s)
      go true = rest_tied
      go false = refl
