-- A place in the list of calls and answers is the end of an earlier run.
use mathlib.Core.Path.{◌≡◌, refl, sym, ap}
use mathlib.Core.List.{List, [], ◌∷◌, ◌++◌}
use Rattle.rules.specs.Plan.{Plan}
use Rattle.rules.specs.Call.{Call}
use Rattle.rules.specs.Machine.{Machine, perform}
use Rattle.rules.specs.Run.{Entry, made}
use Rattle.rules.proofs.Laws.Clash.{clash}

module _ (p : Plan) (M : Machine) where
  -- `before` is what the calls `earlier` left, and `newer` came after them
  pub record Place (calls : List Call) (before : List Entry) : Type 0 where
    pub newer : List Call
    pub earlier : List Call
    pub split : calls ≡ newer ++ earlier
    pub past : before ≡ (made p M earlier).past

  further : (call : Call) (calls : List Call) (before : List Entry) → Place calls before → Place (call ∷ calls) before
  further call calls before w =
      record { newer = call ∷ w.newer; earlier = w.earlier; split = ap (λ (l : List Call). call ∷ l) w.split; past = w.past }

  pub place : (calls : List Call) (later before : List Entry) → (made p M calls).past ≡ later ++ before → Place calls before
  unfolding made
  place [] [] before e = record { newer = []; earlier = []; split = refl; past = sym e }
  place [] (x ∷ later) before e = clash (cc)
  place (call ∷ calls) [] before e = record { newer = []; earlier = call ∷ calls; split = refl; past = sym e }
  place (call ∷ calls) (x ∷ later) before e = further call calls before (place calls later before (cc))

  -- an entry of the list is a call made at its place, with the answer that it got there
  pub record MadeAt (calls : List Call) (e : Entry) (before : List Entry) : Type 0 where
    pub newer : List Call
    pub earlier : List Call
    pub split : calls ≡ newer ++ (e.call ∷ earlier)
    pub past : before ≡ (made p M earlier).past
    pub answer : e.answer ≡ (perform p M e.call (made p M earlier).hub).answer

  pub made_at : (calls : List Call) (later : List Entry) (e : Entry) (before : List Entry) → (made p M calls).past ≡ later ++ (e ∷ before)
      → MadeAt calls e before
  unfolding made
  made_at calls later e before q =
      let w = place calls later (e ∷ before) q in
      go w.newer w.earlier w.split w.past
    where
      go : (newer earlier : List Call) → calls ≡ newer ++ earlier → e ∷ before ≡ (made p M earlier).past → MadeAt calls e before
      go newer [] s b = clash (cc)
      go newer (call ∷ earlier) s b =
          let h = (made p M earlier).hub in
          let same : e ≡ record { call = call; answer = (perform p M call h).answer } = cc in
          let c : e.call ≡ call = ap (λ (x : Entry). x.call) same in
          record {
            newer = newer;
            earlier = earlier;
            split = rw c s;
            past = cc;
            answer = rw c (ap (λ (x : Entry). x.answer) same);
          }

  -- the entries that the calls `newer` add to those of `earlier`
  abbrev pub entries : List Call → List Call → List Entry
  entries [] earlier = []
  entries (call ∷ newer) earlier =
      record { call = call; answer = (perform p M call (made p M (newer ++ earlier)).hub).answer } ∷ entries newer earlier

  pub entries_of_lem : (newer earlier : List Call) → (made p M (newer ++ earlier)).past ≡ entries newer earlier ++ (made p M earlier).past
  unfolding made
  entries_of_lem [] earlier = refl
  entries_of_lem (call ∷ newer) earlier = rw (entries_of_lem newer earlier)
