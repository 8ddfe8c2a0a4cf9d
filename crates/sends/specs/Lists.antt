-- What is given back by value: by a call, and by an abandon.
use Rattle.std.specs.Prelude.{ℕ, List, length}
use Rattle.doing.specs.Parts.{Listed}
use Rattle.model.specs.Model.{Model, sends_of}
use Rattle.model.specs.Calls.{abandoned, emptied}
use Rattle.model.specs.Sound.{Sound}
use Rattle.model.specs.declared.Did.{Did}
use Rattle.model.specs.declared.Answered.{Answered}
use Rattle.model.specs.declared.Emptied.{Emptied}

-- the tables, with what the call on them gave back
abbrev pub answered_by : Did → List ℕ → List ℕ → List ℕ → List ℕ → Answered
answered_by x ws vs ds bs =
    record { sends = record { counts = x.counts; unicasts = ws; unrouted = vs; held = ds; broadcasts = bs }; answer = x.answer; told = x.told }

-- the tables emptied, and how many sends are listed
abbrev pub emptied_of : Model → Emptied
emptied_of m = record { sends = sends_of (emptied m); listed = length (abandoned m) }

-- beside it: the live sends are listed from the list's start on, and the tables are sound
pub record Left (m : Model) (list list' : List ℕ) (r : Emptied) : Type 0 where
  pub lists : Listed 0 (abandoned m) list list' r.listed
  pub sound : Sound r.sends
