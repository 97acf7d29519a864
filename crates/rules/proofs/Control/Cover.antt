-- What a hub sees: each port, and each hub, covers an interval of nodes, and shows a request exactly where some node of it counts.
use Prim.Native.Nat.{ℕ, zero, suc, ◌+◌, ◌-◌, ◌≤◌, ◌<◌}
use mathlib.Core.Path.{◌≡◌, refl, sym, subst}
use mathlib.Core.Bool.{Bool, false}
use native.Mathlib.Omega.{arith}
use Rattle.rules.specs.Choice.{first}
use Rattle.rules.specs.Plan.{Plan, Port, node, empty, hub, most_levels}
use Rattle.rules.specs.Drawn.{Drawn, Within, Hung, Covers}
use Rattle.rules.specs.Control.{seen, below, shows, lowest}
use Rattle.rules.proofs.Laws.Passes.{Which, which, yes', no', Found, missing, lowest as found, first_found}
use Rattle.rules.proofs.Control.Intervals.{Counts, Clear, Shown, some, clear, shown_low, shown_counts, shown_clear, shown_all, clear_none, clear_row}

module _ (p : Plan) (D : Drawn p) (f : ℕ → Bool) where
  -- hub g with l levels left shows what counts in its interval
  Covered : ℕ → Type 0
  Covered l = (g : ℕ) → Within p.hubs g → most_levels < l + p.level g → Shown f (D.above g 1) (D.above g (p.ports g + 1)) (below p f l g)

  port_covered : (l : ℕ) → Covered l → (g q : ℕ) → most_levels ≤ l + p.level g → (x : Port) → Covers p D.above g q x
      → Shown f (D.above g q) (D.above g (q + 1)) (seen p f (below p f l) x)
  unfolding Covered
  port_covered l hubs g q deep (node k) (e, n) = go (which (f k))
    where
      go : Which (f k) → Shown f (D.above g q) (D.above g (q + 1)) (f k)
      go (yes' t) = some t (record { number = k; past = omega arith; up = omega arith; holds = t })
      go (no' t) =
          clear t
          (record { low = omega arith; none = λ j l u. (let s : j ≡ k = omega arith in subst (λ (i : ℕ). f i ≡ false) (sym s) t) })
  port_covered l hubs g q deep empty e = rw e (clear refl (clear_none f (D.above g q)))
  port_covered l hubs g q deep (hub h) (hung, first, last) =
      let s = hubs h hung.number (omega (arith, hung.level)) in
      rw (last, ← first) s

  hub_covered : (l : ℕ) → Covered l
  unfolding Covered below
  hub_covered zero g w deep = absurd (omega (arith, D.few_levels g w))
  hub_covered (suc l) g w deep =
      shown_all f (D.above g) (λ q. seen p f (below p f l) (p.port g q)) (p.ports g)
      (λ q v. port_covered l (hub_covered l) g q (omega arith) (p.port g q) (D.covers g q w v))

  -- what hub g sees at its port q
  pub shown : (g q : ℕ) → Within p.hubs g → Within (p.ports g) q → Shown f (D.above g q) (D.above g (q + 1)) (shows p f g q)
  shown g q w v = port_covered most_levels (hub_covered most_levels) g q (omega arith) (p.port g q) (D.covers g q w v)

module _ (p : Plan) (D : Drawn p) where
  -- the ports of a hub stand in line order
  pub rises : (g q z : ℕ) → Within p.hubs g → 1 ≤ q → q ≤ z → z ≤ p.ports g + 1 → D.above g q ≤ D.above g z
  rises g q z w l m u =
      (clear_row (λ k. false) (D.above g) (z - q) q z (omega arith)
      (λ j n o.
      record {
        low = shown_low (shown p D (λ k. false) g j w (record { low = omega arith; up = omega arith }));
        none = λ k a b. refl;
      })).low

  -- what stands at port q of hub g is hub h: its ports go on from there
  pub record Holds (g q h : ℕ) : Type 0 where
    pub hung : Hung p g q h
    pub first : D.above h 1 ≡ D.above g q
    pub last : D.above g (q + 1) ≡ D.above h (p.ports h + 1)

  pub holds : (g q h : ℕ) → Within p.hubs g → Within (p.ports g) q → p.port g q ≡ hub h → Holds g q h
  holds g q h w v e =
      let (a, b, c) = rw e at (D.covers g q w v) in
      record { hung = a; first = b; last = c }

  -- each hub but the root hangs at its parent
  pub hangs : (h : ℕ) → 2 ≤ h → h ≤ p.hubs → Holds (p.parent h) (p.place h) h
  hangs h l u = holds (p.parent h) (p.place h) h (D.hung_parent h l u) (D.hung_place h l u) (D.hung_port h l u)

module _ (p : Plan) (D : Drawn p) (f : ℕ → Bool) where
  -- what a look at hub g from port q on finds: nothing, or the lowest port r at which some node counts
  pub data Look (g q r : ℕ) : Type 0 where
    nothing : r ≡ 0 → Clear f (D.above g q) (D.above g (p.ports g + 1)) → Look g q r
    something : Within (p.ports g) r → q ≤ r → Clear f (D.above g q) (D.above g r) → Counts f (D.above g r) (D.above g (r + 1)) → Look g q r

  pub look : (g q : ℕ) → Within p.hubs g → 1 ≤ q → q ≤ p.ports g + 1 → Look g q (lowest p f g q)
  unfolding lowest
  look g q w l u = go (first_found (shows p f g) q (p.ports g + 1 - q))
    where
      go : Found (shows p f g) q (p.ports g + 1 - q) (first (shows p f g) q (p.ports g + 1 - q))
          → Look g q (first (shows p f g) q (p.ports g + 1 - q))
      go (missing z none) =
          nothing z
          (clear_row f (D.above g) (p.ports g + 1 - q) q (p.ports g + 1) (omega arith)
          (λ j a b. shown_clear (shown p D f g j w (record { low = omega arith; up = omega arith })) (none j a (omega arith))))
      go (found a b t none) =
          let r = first (shows p f g) q (p.ports g + 1 - q) in
          let v : Within (p.ports g) r = record { low = omega arith; up = omega arith } in
          something v a
          (clear_row f (D.above g) (r - q) q r (omega arith)
          (λ j m o. shown_clear (shown p D f g j w (record { low = omega arith; up = omega arith })) (none j m o)))
          (shown_counts (shown p D f g r w v) t)
