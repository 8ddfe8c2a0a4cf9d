-- The sum so far and the length of what is left make the whole.
use Prim.Native.Nat.{◌+◌, ◌*◌, ◌≤◌}
use mathlib.Core.Path.{◌≡◌}
use lib.ListN.{length}
use Rattle.answers.specs.Items.{actions_bytes}
use Rattle.replies.specs.Replies.{acts_of}
use Rattle.replies.proofs.Parts.{left_bytes}
use Rattle.replies.proofs.actions_length.Given as goal

abbrev pub invariant-loop-i : goal.invariant-loop-i
invariant-loop-i l =
    (l.total ≤ 28 * l.i) × (l.total + length (left_bytes l.told l.n l.i) ≡ length (actions_bytes (acts_of l.told l.n)))
