-- `lembuya_run` meets its contract: what `text_run::run` leaves, and its answer told by its case.
use native.Mathlib.Omega.{arith}
use Rattle.writer.specs.Write.{put_number}
use Rattle.lembuya.proofs.Laws.{behind_end, short_end}
use Rattle.lembuya.proofs.lembuya_run.Goals as goal

pub returns-in-Some : goal.returns-in-Some
unfolding put_number
returns-in-Some c =
    let e = c.in-Some.ensures in
    record {
      value = omega (arith, e.result_value);
      log_after = e.buffer_after;
      end_after = behind_end c.args.end.now c.in-Some.z e.value;
      plan_after = e.plan_after;
      s_after = e.s_after;
    }

pub returns-in-None : goal.returns-in-None
unfolding put_number
returns-in-None c =
    let e = c.in-None.ensures in
    record {
      value = omega (arith, e.result_value);
      log_after = e.buffer_after;
      end_after = short_end c.args.end.now e.value;
      plan_after = e.plan_after;
      s_after = e.s_after;
    }
