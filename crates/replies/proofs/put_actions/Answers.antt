use native.Mathlib.Omega.{arith}
use Rattle.replies.proofs.Parts.{put-turn, put-room}
use Rattle.replies.proofs.put_actions.Goals as goal

pub put_action-next-requires : goal.put_action-next-requires
put_action-next-requires c = put-room c.loop-i.invariant (omega arith) c.action_at.ensures c.requires.1

pub loop-i-preserved : goal.loop-i-preserved
loop-i-preserved c = put-turn c.loop-i.invariant (omega arith) c.action_at.ensures c.put_action-next.ensures
