use Rattle.std.proofs.Common.{◌≡◌, take, vec_items}
use Rattle.std.proofs.lemmas.List.{take_all}
use Rattle.std.proofs.lemmas.Result.{IfOk-from_err}
use Rattle.replies.proofs.Working.{in_order, worked_more}
use Rattle.replies.proofs.work.work_off.Goals as goal

pub loop-line-preserved : goal.loop-line-preserved
loop-line-preserved g c =
    worked_more g.D.Date.model g.M.Machine.model _ _ c.args.lines.now c.loop-line.line-index c.line-item.result (vec_items c.loop-line.given) _ c.in_ok-reply.reply c.loop-line-test.true c.line-item.is c.in_ok-push.ensures.items c.in_ok-reply.ensures c.loop-line.invariant

pub returns-in_err-reply : goal.returns-in_err-reply
returns-in_err-reply g c = record {
  replies = IfOk-from_err _ _ c.from_residual.ensures.0;
  ordered = in_order g.D.Date.model g.M.Machine.model g.met.D.Date.lawful c.args.lines.now;
}

pub returns-in_err-push : goal.returns-in_err-push
returns-in_err-push g c = record {
  replies = IfOk-from_err _ _ c.from_residual-in_err-push.ensures.0;
  ordered = in_order g.D.Date.model g.M.Machine.model g.met.D.Date.lawful c.args.lines.now;
}

pub returns : goal.returns
returns g c =
    let all : take c.loop-line.line-index c.args.lines.now ≡ c.args.lines.now = take_all _ _ c.loop-line-test.false in
    record {
      replies = rw all at c.loop-line.invariant.0;
      ordered = in_order g.D.Date.model g.M.Machine.model g.met.D.Date.lawful c.args.lines.now;
    }
