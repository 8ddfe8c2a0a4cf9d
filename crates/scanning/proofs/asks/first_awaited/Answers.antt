use Rattle.rows.proofs.Promises.{scan-first}
use Rattle.sending.specs.Rules.{awaits}
use Rattle.scanning.proofs.Scans.{sends}
use Rattle.scanning.proofs.asks.first_awaited.Goals as goal

pub loop-k-init : goal.loop-k-init
loop-k-init c = scan-first (awaits c.args.eui c.args.nwk c.args.clock) (sends c.args.w.now c.args.n)
