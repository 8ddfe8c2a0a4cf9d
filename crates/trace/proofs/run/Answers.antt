-- Too little room, or too long a trace.
use Rattle.runs.proofs.Running.{tiny, over}
use Rattle.trace.proofs.run.Goals as goal

pub returns-then-out-lt6 : goal.returns-then-out-lt6
returns-then-out-lt6 c = tiny c.args.trace.now c.args.out.now c.if-out-lt6.true

pub returns-then-trace-gt65536 : goal.returns-then-trace-gt65536
returns-then-trace-gt65536 c = over c.args.trace.now c.args.out.now _ _ c.if-out-lt6.false c.if-trace-gt65536.true c.end.ensures
