-- What later proofs need of the ports, hubs and nodes of a plan, said of
-- intervals of their numbers, so that the parts of a tree join to the whole.
use Prim.Native.Nat.{ℕ, ◌+◌, ◌≤◌, ◌<◌}
use mathlib.Core.Path.{◌≡◌, refl, sym, subst, subst₂}
use mathlib.Core.Bool.{Bool, true, false}
use mathlib.Core.List.{List}
use native.Mathlib.Omega.{arith}
use lib.Dec.{leb}
use borrow.Author.Tests.{leb-true, leb-false}
use Rattle.rules.specs.Plan as rules
use Rattle.rules.specs.Drawn.{Within, Covers}
use Rattle.plan.specs.Tables.{plan_of}
use Rattle.plan_tree.specs.Tables.{hub_of_node, port_of_node}
use Rattle.plan_theory.specs.Taken.{Holds}

pub holds_at : {p : rules.Plan} {x : rules.Port} {g q h r : ℕ} → h ≡ g → r ≡ q → Holds p x g q → Holds p x h r
holds_at {p} {x} e f a = subst₂ (λ (i j : ℕ). Holds p x i j) (sym e) (sym f) a

-- port q of hub g covers its nodes, and a node there is at that port by its own cells
pub record PortGood (t : List ℕ) (above : ℕ → ℕ → ℕ) (g q : ℕ) : Type 0 where
  pub covers : Covers (plan_of t) above g q ((plan_of t).port g q)
  pub back : (k : ℕ) → (plan_of t).port g q ≡ rules.node k → (hub_of_node t k ≡ g) × (port_of_node t k ≡ q)

pub record HubGood (t : List ℕ) (above : ℕ → ℕ → ℕ) (h : ℕ) : Type 0 where
  pub some_port : 1 ≤ (plan_of t).ports h
  pub few_ports : (plan_of t).ports h ≤ 32
  pub few_levels : (plan_of t).level h ≤ 5
  pub ports : (q : ℕ) → Within ((plan_of t).ports h) q → PortGood t above h q

pub record HubHangs (t : List ℕ) (above : ℕ → ℕ → ℕ) (h : ℕ) : Type 0 where
  pub good : HubGood t above h
  pub hangs : Holds (plan_of t) (rules.hub h) ((plan_of t).parent h) ((plan_of t).place h)

abbrev pub NodeStands : List ℕ → ℕ → Type 0
NodeStands t k = Holds (plan_of t) (rules.node k) (hub_of_node t k) (port_of_node t k)

-- ports q + 1 to r of hub g, hubs h + 1 to i, nodes n + 1 to m
pub record Parts (t : List ℕ) (above : ℕ → ℕ → ℕ) (g q r h i n m : ℕ) : Type 0 where
  pub ports : (k : ℕ) → q < k → k ≤ r → PortGood t above g k
  pub hubs : (k : ℕ) → h < k → k ≤ i → HubHangs t above k
  pub nodes : (k : ℕ) → n < k → k ≤ m → NodeStands t k

-- what holds of a + 1 to b and of b + 1 to c holds of a + 1 to c
pub join : (P : ℕ → Type 0) (a b c : ℕ) → ((k : ℕ) → a < k → k ≤ b → P k) → ((k : ℕ) → b < k → k ≤ c → P k) → (k : ℕ) → a < k → k ≤ c → P k
join P a b c low high k d e = go (leb k b) refl
  where
    go : (t : Bool) → leb k b ≡ t → P k
    go true f = low k d (leb-true k b f)
    go false f = high k (leb-false k b f) e

pub parts_join : {t : List ℕ} {above : ℕ → ℕ → ℕ} {g q r s h i j n m o : ℕ} → Parts t above g q r h i n m → Parts t above g r s i j m o
    → Parts t above g q s h j n o
parts_join {t} {above} {g} {q} {r} {s} {h} {i} {j} {n} {m} {o} a b =
    record {
      ports = join (λ k. PortGood t above g k) q r s a.ports b.ports;
      hubs = join (λ k. HubHangs t above k) h i j a.hubs b.hubs;
      nodes = join (λ k. NodeStands t k) n m o a.nodes b.nodes;
    }

-- fewer of them
pub parts_to : {t : List ℕ} {above : ℕ → ℕ → ℕ} {g q r h i n m : ℕ} (s j o : ℕ) → s ≤ r → j ≤ i → o ≤ m → Parts t above g q r h i n m
    → Parts t above g q s h j n o
parts_to s j o a b c f =
    record {
      ports = λ k d e. f.ports k d (omega arith);
      hubs = λ k d e. f.hubs k d (omega arith);
      nodes = λ k d e. f.nodes k d (omega arith);
    }

-- a single number
pub only : (P : ℕ → Type 0) (a b : ℕ) → b ≤ a + 1 → P (a + 1) → (k : ℕ) → a < k → k ≤ b → P k
only P a b u x k d e = let f : a + 1 ≡ k = omega arith in subst P f x
