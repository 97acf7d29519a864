-- One call of the hub reader, by what its line is. The code's proof cites these, a case each.
use Prim.Native.Nat.{ℕ, suc, ◌+◌, ◌-◌}
use mathlib.Core.Path.{◌≡◌, refl, sym, ap, ◌∙◌}
use mathlib.Core.Bool.{true, false}
use mathlib.Core.List.{List}
use native.Mathlib.Omega.{arith}
use Rattle.std.specs.Prelude.{Result, Ok, Err, IsErrAnd}
use Rattle.text.specs.Line.{next_line}
use Rattle.text.specs.declared.Cursor.{Cursor}
use Rattle.plan_tree.specs.declared.Kind.{Kind}
use Rattle.plan_tree.specs.declared.Place.{Place}
use Rattle.plan_tree.specs.declared.Refused.{Refused}
use Rattle.plan_tree.specs.Part.{Read, Stopped, Found, Whole, Missing, found, row_number, told_part}
use Rattle.plan_tree.specs.Kind.{kind_of}
use Rattle.plan_tree.specs.Readers.{Answered, stop, cursor, moved, hub_reader, port_reader, closing, behind_port, is_close, on_line}

-- an error handed on by `?`
pub stopped : (r : Result Place Refused) (e : Refused) → IsErrAnd r (λ x. x ≡ e) → told_part r ≡ Stopped e.line (row_number e.row)
stopped (Ok x) e h = absurd h
stopped (Err d) e h = ap (λ (x : Refused). Stopped x.line (row_number x.row)) h

-- a reader behind the first line that is left
one_less : (left : ℕ) → (left ≡ 0 → ⊥) → left ≡ suc (left - 1)
one_less left h = omega arith

module _ (text : List ℕ) (left : ℕ) (x : Place) (g q levels : ℕ) (s : List ℕ) where
  pub none_left : left ≡ 0 → stop x.number 1 s ≡ hub_reader text left x g q levels s
  unfolding hub_reader
  none_left e = rw e

  module _ (some : left ≡ 0 → ⊥) where
    -- what is read by the line that stands here, and behind it
    abbrev by_line : Found → Answered
    by_line f = on_line (λ y h below t. hub_reader text (left - 1) y h 0 below t) (λ y t. hub_reader text (left - 1) y g (q + 1) levels t) f x g q levels s

    here : by_line (found text (next_line text (cursor x))) ≡ hub_reader text (suc (left - 1)) x g q levels s
    unfolding hub_reader
    here = refl

    one_line : {f : Found} → f ≡ found text (next_line text (cursor x)) → by_line f ≡ hub_reader text left x g q levels s
    one_line e = ap by_line e ∙ here ∙ sym (ap (λ (n : ℕ). hub_reader text n x g q levels s) (one_less left some))

    pub missing : (line number : ℕ) → Missing line number ≡ found text (next_line text (cursor x)) → stop line number s ≡ hub_reader text left x g q levels s
    missing line number e = one_line e

    module _
        (bytes : List ℕ) (number : ℕ) (next : Cursor) (line : Whole bytes number next ≡ found text (next_line text (cursor x))) (kind : Kind)
        (is : kind ≡ kind_of bytes)
      where
        pub closes : is_close kind ≡ true → closing number (moved next x) g q s ≡ hub_reader text left x g q levels s
        closes close = rw (← is, close) at (one_line line)

        module _ (more : is_close kind ≡ false) where
          abbrev port_done : Answered
          port_done = port_reader text (left - 1) kind number (moved next x) g q levels s

          goes_on : behind_port (λ y t. hub_reader text (left - 1) y g (q + 1) levels t) port_done ≡ hub_reader text left x g q levels s
          goes_on = rw (← is, more) at (one_line line)

          pub port_stops : (l n : ℕ) → Stopped l n ≡ port_done.part → port_done ≡ hub_reader text left x g q levels s
          port_stops l n e = rw (← e, behind_port) at goes_on

          pub port_read : (z : Place) → Read z ≡ port_done.part
              → hub_reader text (left - 1) z g (q + 1) levels port_done.tables ≡ hub_reader text left x g q levels s
          port_read z e = rw (← e, behind_port) at goes_on
