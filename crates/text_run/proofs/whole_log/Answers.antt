-- `text_run::whole_log` meets its contract: every log fits into the buffer, so the pass writes all of it. Assumes nothing.
use Rattle.std.specs.Prelude.{Option}
use Rattle.std.specs.Option.{unwrap_or}
use Prim.Native.Nat.{ℕ}
use mathlib.Core.Path.{◌≡◌, ap, ◌∙◌}
use native.Mathlib.Omega.{arith}
use lib.ListN.{length}
use Rattle.log_spec.specs.Log.{log_bytes}
use Rattle.text_run.proofs.TwoPasses.{wrote, whole_there}
use Rattle.text_run.proofs.whole_log.Goals as goal

pub returns : goal.returns
returns c =
    let a = c.args in
    let p = c.pass.ensures in
    let all : c.unwrap_or.result ≡ length (log_bytes a.text.now) =
    c.unwrap_or.ensures ∙ ap (λ (r : Option ℕ). unwrap_or r 0) (wrote a.text.now a.s.now a.out.now (omega (arith, c.told-out)) p.value) in
    record {
      value = omega (arith, all);
      out_after = whole_there a.text.now a.s.now a.out.now (omega (arith, c.told-out)) p.value p.buffer_after;
      plan_after = p.plan_after;
      s_after = p.s_after;
    }
