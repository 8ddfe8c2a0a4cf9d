-- Writing what is left of the actions, from here, gives the whole.
use Rattle.replies.proofs.Parts.{Putting}
use Rattle.replies.proofs.put_actions.Given as goal

abbrev pub invariant-loop-i : goal.invariant-loop-i
invariant-loop-i l = Putting l.told l.n l.at l.initial.out l.out l.next l.i
