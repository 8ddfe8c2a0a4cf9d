-- What the code's tests say of a call by id: why it is refused, or that nothing bars it. Assumes nothing.
use Rattle.std.specs.Prelude.{None, Some}
use Prim.Native.Nat.{ℕ}
use mathlib.Core.Path.{◌≡◌, sym, ap, ◌∙◌}
use mathlib.Core.Bool.{Bool, true, false}
use lib.Dec.{eqb}
use borrow.Author.Tests.{eq-eqb, ne_eqb}
use Rattle.records.specs.Pick.{pick}
use Rattle.sending.specs.Types.{Unicast, InTheRadio, NotInTheRadio, OtherFrame}
use Rattle.sending.specs.Rules.{is_sending}
use Rattle.sending.specs.Lists.{report_bar, cancel_bar}

-- the record that was read is in the radio or not
pub sending-row : {u v : Unicast} {r b : Bool} → u ≡ v → r ≡ is_sending u.stage → r ≡ b → is_sending v.stage ≡ b
sending-row p e f = ap (λ (x : Unicast). is_sending x.stage) (sym p) ∙ sym e ∙ f

module _ (frame : ℕ) (v : Unicast) where
  pub report-idle : is_sending v.stage ≡ false → report_bar frame (Some v) ≡ Some NotInTheRadio
  report-idle e = ap (λ (b : Bool). pick b (pick (eqb v.frame frame) None (Some OtherFrame)) (Some NotInTheRadio)) e

  sent : (b : Bool) → is_sending v.stage ≡ true → eqb v.frame frame ≡ b → report_bar frame (Some v) ≡ pick b None (Some OtherFrame)
  sent b e f =
      ap (λ (d : Bool). pick d (pick (eqb v.frame frame) None (Some OtherFrame)) (Some NotInTheRadio)) e
      ∙ ap (λ (d : Bool). pick d None (Some OtherFrame)) f

  pub report-frame : {u : Unicast} → is_sending v.stage ≡ true → u ≡ v → u.frame ≡ frame → report_bar frame (Some v) ≡ None
  report-frame e p f = sent true e (eq-eqb v.frame frame (ap (λ (x : Unicast). x.frame) (sym p) ∙ f))

  pub report-other : {u : Unicast} → is_sending v.stage ≡ true → u ≡ v → (u.frame ≡ frame → ⊥) → report_bar frame (Some v) ≡ Some OtherFrame
  report-other e p f = sent false e (ne_eqb v.frame frame (λ q. f (ap (λ (x : Unicast). x.frame) p ∙ q)))

pub cancel-sending : (v : Unicast) → is_sending v.stage ≡ true → cancel_bar (Some v) ≡ Some InTheRadio
cancel-sending v e = ap (λ (b : Bool). pick b (Some InTheRadio) None) e

pub cancel-idle : (v : Unicast) → is_sending v.stage ≡ false → cancel_bar (Some v) ≡ None
cancel-idle v e = ap (λ (b : Bool). pick b (Some InTheRadio) None) e
