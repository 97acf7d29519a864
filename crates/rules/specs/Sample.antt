-- The plan of document 01's example, which is strict: hub 1 has node 1, hub 2 and node 4; hub 2 has nodes 2 and 3.
use Rattle.std.specs.Prelude.{true, [], ◌∷◌, get_or}
use Rattle.rules.specs.Plan.{Plan, node, empty, hub}

abbrev pub plan01 : Plan
plan01 =
    record {
      frame = 100000;
      overhead = 1000;
      interrupt = 13000;
      framing = 3;
      strict = true;
      nodes = 4;
      hubs = 2;
      ports = λ g. get_or (0 ∷ 3 ∷ 2 ∷ []) g 0;
      port = λ g q. get_or (get_or ([] ∷ (empty ∷ node 1 ∷ hub 2 ∷ node 4 ∷ []) ∷ (empty ∷ node 2 ∷ node 3 ∷ []) ∷ []) g []) q empty;
      parent = λ g. get_or (0 ∷ 0 ∷ 1 ∷ []) g 0;
      place = λ g. get_or (0 ∷ 0 ∷ 2 ∷ []) g 0;
      level = λ g. get_or (0 ∷ 1 ∷ 2 ∷ []) g 0;
    }
