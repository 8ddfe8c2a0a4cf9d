-- The effect of an event is the step of its call: what the claims say of histories of calls, they say of events. Assumes nothing.
use Rattle.std.specs.Prelude.{Option, None, Some}
use mathlib.Core.Path.{◌≡◌, refl, ◌∙◌, ap}
use mathlib.Core.List.{List}
use Rattle.model.specs.Model.{Model}
use Rattle.model.specs.Steps.{Call, Outcome, acts, step_of}
use Rattle.steps.specs.Types.{Settings, Resolved, Event, OnSettings, OnUnicast, OnCopy, OnUnrouted, OnBroadcast, OnDequeue, OnReport, OnPoll, OnAck, OnRetry, OnFail, OnRoute, OnDelivered, OnDrop, OnCancel, OnTick, OnAbandon, OnNextWake, OnPair, OnLists, OnHasUnrouted, OnHasAwaiting, Malformed}
use Rattle.steps.specs.Applied.{effect_of, call_for}

-- a step, where there is a call
abbrev step_if : Model → Outcome → Option Call → Outcome
step_if m o None = o
step_if m o (Some k) = step_of m k

module _ (m : Model) (s : Settings) (rs : List Resolved) where
  by-case : (e : Event) → acts (effect_of m s e rs) ≡ step_if m (acts (effect_of m s e rs)) (call_for s e rs)
  by-case (OnSettings x) = refl
  by-case (OnUnicast now u) = refl
  by-case (OnCopy id now u) = refl
  by-case (OnUnrouted now u) = refl
  by-case (OnBroadcast now u) = refl
  by-case (OnDequeue now) = refl
  by-case (OnReport from id frame x now delay) = refl
  by-case (OnPoll now eui nwk) = refl
  by-case (OnAck k) = refl
  by-case (OnRetry d) = refl
  by-case (OnFail d) = refl
  by-case (OnRoute now d n) = refl
  by-case (OnDelivered k) = refl
  by-case (OnDrop eui nwk) = refl
  by-case (OnCancel id) = refl
  by-case (OnTick now) = refl
  by-case OnAbandon = refl
  by-case OnNextWake = refl
  by-case (OnPair eui nwk) = refl
  by-case OnLists = refl
  by-case (OnHasUnrouted d) = refl
  by-case (OnHasAwaiting a) = refl
  by-case Malformed = refl

  pub effect-is-step : (e : Event) (k : Call) → call_for s e rs ≡ Some k → acts (effect_of m s e rs) ≡ step_of m k
  effect-is-step e k h = by-case e ∙ ap (step_if m (acts (effect_of m s e rs))) h
