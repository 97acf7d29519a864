-- A question is a call beside the hub that has no table of its own, moves no clock and changes nothing: it is answered by the cells alone.
use Rattle.std.specs.Prelude.{ℕ, List}
use Rattle.beside.specs.Beside.{Reply, stays, Beside}

abbrev pub question : (Ask Told : Type 0) → (List ℕ → List ℕ → Ask → Reply Told) → Beside
question Ask Told answered =
    record {
      State = Unit {0};
      start = tt;
      Ask = Ask;
      Told = λ q. Told;
      reply = λ P s q b. answered P s q;
      next = λ P s q b. b;
      effect = λ q a. stays;
      watch = λ P s e b. b;
    }
