-- Changes of a core that keep `Sound`: of one request, of one node's latest reservation, a grant, a rest.
use Prim.Native.Nat.{ℕ, ◌+◌, ◌≤◌}
use mathlib.Core.Path.{◌≡◌, ap}
use mathlib.Core.Bool.{true}
use native.Mathlib.Omega.{arith}
use Rattle.rules.specs.Choice.{put}
use Rattle.rules.specs.Plan.{Plan, shortest, longest}
use Rattle.rules.specs.Call.{Class, normal, high}
use Rattle.rules.specs.Core.{Core, Request, none, standing, Share, busy, counts_in, bits_of}
use Rattle.rules.specs.Drawn.{Within}
use Rattle.rules.specs.Rows.{loads, with_request, with_latest}
use Rattle.rules.specs.Machine.{granting, restful, one_more}
use Rattle.rules.specs.Words.{Keeps}
use Rattle.rules.proofs.Core.Requests.{none_standing, counts-stands, counts_left, put_all}
use Rattle.rules.proofs.Core.Sound.{Sound}
use Rattle.rules.proofs.Laws.Clash.{clash}

-- what `Sound` says of node k's request by its reservation in force
pub record Proper (p : Plan) (share : Share) (k : ℕ) (r : Request) : Type 0 where
  pub allowed : (b : ℕ) → r ≡ standing high b → Keeps share b
  pub node : (b : ℕ) (c : Class) → r ≡ standing c b → Within p.nodes k
  pub short : (b : ℕ) (c : Class) → r ≡ standing c b → shortest p ≤ b
  pub long : (b : ℕ) (c : Class) → r ≡ standing c b → b ≤ longest p

-- what it says of the line, by the clock
pub record Ending (p : Plan) (s : Core) : Type 0 where
  pub late : (e : ℕ) → s.line ≡ busy e → s.clock ≤ e
  pub soon : (e : ℕ) → s.line ≡ busy e → e ≤ s.clock + longest p + p.overhead

module _ (p : Plan) where
  pub none_proper : (share : Share) (k : ℕ) → Proper p share k none
  none_proper share k =
      record {
        allowed = λ b e. none_standing high b e;
        node = λ b c e. none_standing c b e;
        short = λ b c e. none_standing c b e;
        long = λ b c e. none_standing c b e;
      }

  -- `Sound` by its parts
  pub sound_of : (s : Core) → p.interrupt + loads p s.latest ≤ p.frame → p.interrupt + loads p s.force ≤ p.frame
      → ((k : ℕ) → s.granted k ≤ (s.force k).packets) → ((k : ℕ) → Proper p (s.force k) k (s.request k)) → Ending p s → Sound p s
  sound_of s latest force spent proper line =
      record {
        latest_fits = latest;
        force_fits = force;
        spent = spent;
        allowed = λ k b e. (let a = (proper k).allowed b e in record { some = a.some; fits = a.fits });
        node = λ k b c e. (proper k).node b c e;
        short = λ k b c e. (proper k).short b c e;
        long = λ k b c e. (proper k).long b c e;
        end_late = line.late;
        end_soon = line.soon;
      }

  module _ (s : Core) (ok : Sound p s) where
    pub proper : (k : ℕ) → Proper p (s.force k) k (s.request k)
    proper k =
        record {
          allowed = λ b e. (let a = ok.allowed k b e in record { some = a.some; fits = a.fits });
          node = ok.node k;
          short = ok.short k;
          long = ok.long k;
        }

    -- with another request of node k
    put_proper : (k : ℕ) (r : Request) → Proper p (s.force k) k r → (j : ℕ) → Proper p (s.force j) j (put s.request k r j)
    put_proper k r new = put_all (λ j. Proper p (s.force j) j) s.request k r new proper

    pub request_sound : (k : ℕ) (r : Request) → Proper p (s.force k) k r → Sound p (with_request k r s)
    request_sound k r new =
        sound_of (with_request k r s) ok.latest_fits ok.force_fits ok.spent (put_proper k r new)
        (record { late = ok.end_late; soon = ok.end_soon })

    pub latest_sound : (k : ℕ) (r : Share) → p.interrupt + loads p (put s.latest k r) ≤ p.frame → Sound p (with_latest k r s)
    latest_sound k r fits =
        sound_of (with_latest k r s) fits ok.force_fits ok.spent proper (record { late = ok.end_late; soon = ok.end_soon })

    pub rest_sound : Sound p (restful s)
    rest_sound =
        sound_of (restful s) ok.latest_fits ok.force_fits ok.spent proper
        (record { late = λ e l. clash (cc); soon = λ e l. clash (cc) })

    -- a node that counts in the class sought is granted
    pub grant_sound : (d k : ℕ) (c : Class) → s.clock ≡ d → counts_in c s k ≡ true
        → Sound p (granting k c (d + bits_of (s.request k) + p.overhead) s)
    grant_sound d k c now e =
        let stood = counts-stands c s k e in
        let bits : bits_of (s.request k) ≡ stood.0 = ap bits_of stood.1 in
        let short = ok.long k stood.0 c stood.1 in
        sound_of (granting k c (d + bits_of (s.request k) + p.overhead) s) ok.latest_fits ok.force_fits
        (put_all (λ j g. g ≤ (s.force j).packets) s.granted k (one_more c (s.granted k)) (more c e) ok.spent)
        (put_proper k none (none_proper (s.force k) k))
        (record {
          late = λ f l. (let q : d + bits_of (s.request k) + p.overhead ≡ f = cc in omega arith);
          soon = λ f l. (let q : d + bits_of (s.request k) + p.overhead ≡ f = cc in omega arith);
        })
      where
        more : (c : Class) → counts_in c s k ≡ true → one_more c (s.granted k) ≤ (s.force k).packets
        more normal e = ok.spent k
        more high e = omega (arith, counts_left s k e)
