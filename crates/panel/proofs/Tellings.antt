-- What a call by value told fits its buffer. Assumes nothing.
use Prim.Native.Nat.{◌≤◌}
use mathlib.Core.Path.{◌≡◌, sym, subst}
use lib.ListN.{length}
use Rattle.model.specs.Model.{Model}
use Rattle.model.specs.Sound.{SoundModel}
use Rattle.model.specs.Steps.{Call, step_of}
use Rattle.model.specs.declared.Answered.{Answered}
use Rattle.model.proofs.Bounds.{few-actions}

pub told-few : {r r' : Answered} (m : Model) (c : Call) → SoundModel m → r ≡ r' → r'.told ≡ length (step_of m c).actions → r.told ≤ 112
told-few m c s p q = subst (λ (x : Answered). x.told ≤ 112) (sym p) (subst (λ n. n ≤ 112) (sym q) (few-actions m c s))
