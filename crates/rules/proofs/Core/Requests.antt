-- Laws of one request: what the frame's start makes of it, and what stands where a node counts.
use Prim.Native.Nat.{ℕ, ◌≤◌, ◌<◌}
use mathlib.Core.Path.{◌≡◌, refl, sym, subst}
use mathlib.Core.Bool.{Bool, true, false, ◌||◌}
use native.Mathlib.Omega.{arith}
use lib.Dec.{ltb, eqb}
use borrow.Author.Tests.{ltb-true, ltb-false, eqb-true, eqb-false, ne_eqb}
use Rattle.std.specs.Prelude.{if◌then◌else◌}
use Rattle.rules.specs.Choice.{put}
use Rattle.rules.specs.Call.{Class, normal, high}
use Rattle.rules.specs.Core.{Core, Request, none, standing, Share, reclassed, is_class, share_left, counts_in}
use Rattle.rules.specs.Rows.{put_up}
use Rattle.rules.specs.Words.{Keeps}
use Rattle.rules.proofs.Laws.Passes.{Which, which, yes', no', true-false, and_both}
use Rattle.rules.proofs.Laws.Clash.{clash}

-- no request is not a standing one, and a normal one not a high one
pub none_standing : {A : Type 0} (c : Class) (b : ℕ) → none ≡ standing c b → A
none_standing c b e = clash (cc)

pub normal_high : {A : Type 0} (b d : ℕ) → standing normal b ≡ standing high d → A
normal_high b d e = clash (cc)

-- the frame's start keeps a high request exactly where `Keeps` says so
pub data Start (r : Share) (b : ℕ) : Request → Type 0 where
  stays_high : Keeps r b → Start r b (standing high b)
  becomes_normal : (Keeps r b → ⊥) → Start r b (standing normal b)

pub start_of : (r : Share) (b : ℕ) → Start r b (reclassed r (standing high b))
start_of r b = go (eqb r.packets 0) (ltb r.bits b) refl refl
  where
    go : (z l : Bool) → eqb r.packets 0 ≡ z → ltb r.bits b ≡ l → Start r b (if z || l then standing normal b else standing high b)
    go true l e f = becomes_normal (λ h. omega (arith, h.some, eqb-true r.packets 0 e))
    go false true e f = becomes_normal (λ h. omega (arith, h.fits, ltb-true r.bits b f))
    go false false e f =
        stays_high (record { some = omega (arith, eqb-false r.packets 0 e); fits = ltb-false r.bits b f })

-- what is high after the frame's start was so before, and is kept
pub reclassed_high : (r : Share) (q : Request) (b : ℕ) → reclassed r q ≡ standing high b → (q ≡ standing high b) × Keeps r b
reclassed_high r none b e = none_standing high b e
reclassed_high r (standing normal d) b e = normal_high d b e
reclassed_high r (standing high d) b e = go (start_of r d) e
  where
    go : {q : Request} → Start r d q → q ≡ standing high b → (standing high d ≡ standing high b) × Keeps r b
    go (stays_high h) e = (e, (let f : d ≡ b = cc in subst (λ (x : ℕ). Keeps r x) f h))
    go (becomes_normal h) e = normal_high d b e

-- what stands after the frame's start stood before, of the same length
pub reclassed_standing : (r : Share) (q : Request) (c : Class) (b : ℕ) → reclassed r q ≡ standing c b → (d : Class) × (q ≡ standing d b)
reclassed_standing r none c b e = none_standing c b e
reclassed_standing r (standing normal d) c b e = (normal, (let f : d ≡ b = cc in cc))
reclassed_standing r (standing high d) c b e = go (start_of r d) e
  where
    go : {q : Request} → Start r d q → q ≡ standing c b → (x : Class) × (standing high d ≡ standing x b)
    go (stays_high h) e = (high, (let f : d ≡ b = cc in cc))
    go (becomes_normal h) e = (high, (let f : d ≡ b = cc in cc))

-- a request that counts in a class stands in that class
pub of_class : (c : Class) (q : Request) → is_class c q ≡ true → (b : ℕ) × (q ≡ standing c b)
of_class normal none e = absurd (true-false e refl)
of_class high none e = absurd (true-false e refl)
of_class normal (standing normal b) e = (b, refl)
of_class normal (standing high b) e = absurd (true-false e refl)
of_class high (standing normal b) e = absurd (true-false e refl)
of_class high (standing high b) e = (b, refl)

pub counts-stands : (c : Class) (s : Core) (k : ℕ) → counts_in c s k ≡ true → (b : ℕ) × (s.request k ≡ standing c b)
unfolding counts_in
counts-stands normal s k e = of_class normal (s.request k) e
counts-stands high s k e = of_class high (s.request k) (and_both (is_class high (s.request k)) (share_left s k) e).0

pub counts_left : (s : Core) (k : ℕ) → counts_in high s k ≡ true → s.granted k < (s.force k).packets
unfolding counts_in
counts_left s k e = ltb-true _ _ (and_both (is_class high (s.request k)) (share_left s k) e).1

-- what holds of each value of a table, and of a new one at k, holds of each value of the changed table
pub put_all : {A : Type 0} (P : ℕ → A → Type 0) (f : ℕ → A) (k : ℕ) (v : A) → P k v → ((j : ℕ) → P j (f j)) → (j : ℕ) → P j (put f k v j)
put_all P f k v new old j = go (which (eqb j k))
  where
    go : Which (eqb j k) → P j (if eqb j k then v else f j)
    go (yes' e) = rw e (subst (λ (i : ℕ). P i v) (sym (eqb-true j k e)) new)
    go (no' e) = rw e (old j)

-- what is put up is high just where high is asked and something is reserved in force
pub put_up_high : (r : Share) (c : Class) → put_up r c ≡ high → (c ≡ high) × (1 ≤ r.packets)
put_up_high r normal e = clash (cc)
put_up_high r high e = (refl, go (which (eqb r.packets 0)))
  where
    go : Which (eqb r.packets 0) → 1 ≤ r.packets
    go (yes' z) = let n : normal ≡ high = rw z at e in clash (cc)
    go (no' z) = omega (arith, eqb-false r.packets 0 z)

pub reserved_high : (r : Share) → 1 ≤ r.packets → put_up r high ≡ high
reserved_high r some = rw (ne_eqb r.packets 0 (omega arith))
