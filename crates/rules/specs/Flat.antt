-- "The flat rule": one large two-priority round-robin hub.
use Rattle.std.specs.Prelude.{ℕ, ◌+◌, ◌-◌, Bool, eqb, if◌then◌else◌}
use Rattle.rules.specs.Choice.{first}
use Rattle.rules.specs.Plan.{Plan}
use Rattle.rules.specs.Call.{Class, same}
use Rattle.rules.specs.Machine.{Machine}

-- each class has a pointer over nodes 1 to N
abbrev pub Pointers : Type 0
Pointers = Class → ℕ

-- the first counting node at or after the pointer, going round
unfoldable pub in_turn : Plan → (ℕ → Bool) → ℕ → ℕ
in_turn p f pointer =
    let k = first f pointer (p.nodes + 1 - pointer) in
    if eqb k 0 then first f 1 p.nodes else k

-- the node behind k, going round
abbrev pub behind : Plan → ℕ → ℕ
behind p k = if eqb k p.nodes then 1 else k + 1

-- the pointer of class c moves to the node behind k; the other stays
abbrev pub passed : Plan → Class → ℕ → Pointers → Pointers
passed p c k σ d = if same d c then behind p k else σ d

abbrev pub flat : Plan → Machine
flat p =
    record {
      State = Pointers;
      start = λ c. 1;
      choose = λ c f σ. (let k = in_turn p f (σ c) in record { node = k; state = passed p c k σ; moves = 0 });
      rested = λ σ. record { state = σ; moves = 0 };
    }
