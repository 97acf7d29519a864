-- The words and the core agree on high requests exactly: `Told` has one way, this file the other.
use Prim.Native.Nat.{ℕ, ◌≤◌}
use mathlib.Core.Path.{◌≡◌, refl}
use mathlib.Core.List.{List}
use Rattle.rules.specs.Plan.{Plan}
use Rattle.rules.specs.Call.{Call, high}
use Rattle.rules.specs.Core.{Request, standing, frame_of}
use Rattle.rules.specs.Drawn.{Figures}
use Rattle.rules.specs.Machine.{Machine}
use Rattle.rules.specs.Run.{Entry, made}
use Rattle.rules.specs.Words.{clock_at, Asked, request_at, High}
use Rattle.rules.proofs.Flat.Follows.{Follows}
use Rattle.rules.proofs.Core.WordsAndCore.{Tells, neither, plain, kept, made_normal_lem, taken_normal}
use Rattle.rules.proofs.Core.AlwaysTold.{reads, clock_told}
use Rattle.rules.proofs.Core.Requests.{none_standing, normal_high}

high_by_words : (p : Plan) (k : ℕ) (past : List Entry) {a : Asked} {q : Request} → Tells p k past (frame_of p (clock_at past)) a q
    → request_at k past ≡ a → (b : ℕ) → q ≡ standing high b → (h : High p k past) × (h.length ≡ b)
high_by_words p k past neither e b q = none_standing high b q
high_by_words p k past (plain t c) e b q = normal_high c b q
high_by_words p k past (kept t c l n ks) e b q = (record { put_up = t; length = c; stands = e; in_force = n; kept = ks }, cc)
high_by_words p k past (made_normal_lem t c f l u n) e b q = normal_high c b q
high_by_words p k past (taken_normal t c l z) e b q = normal_high c b q

-- a request that is high in the core is high by the words, of the same length
pub core_high : (p : Plan) (fig : Figures p) (M : Machine) (follows : Follows p M) → 1 ≤ p.nodes → (calls : List Call) (k b : ℕ)
    → (made p M calls).hub.core.request k ≡ standing high b → (h : High p k (made p M calls).past) × (h.length ≡ b)
core_high p fig M follows some calls k b e =
    high_by_words p k (made p M calls).past
    (rw (clock_told p fig M follows some calls) ((reads p fig M follows some calls).request k)) refl b e
