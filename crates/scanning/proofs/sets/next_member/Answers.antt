use Rattle.std.specs.Prelude.{None}
use Rattle.std.proofs.Common.{rules}
use Rattle.sending.specs.Members.{least_step, member_of}
use Rattle.rows.proofs.Chains.{fold-is}
use Rattle.scanning.proofs.sets.next_member.Goals as goal

pub returns : goal.returns
returns c =
    fold-is c.requires (least_step (member_of c.args.book c.args.eui.now c.args.nwk.now) c.args.last) None c.rev.ensures.source c.fold.ensures.ran (λ a x b k e. search rules)
