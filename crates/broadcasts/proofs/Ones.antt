-- Each contract admits one outcome: any two are equal. Assumes nothing.
use Rattle.std.specs.Prelude.{Option, Result, Ok, Err}
use Prim.Native.Nat.{ℕ}
use native.Mathlib.Omega.{arith}
use mathlib.Core.Path.{◌≡◌, sym, ap, ◌∙◌}
use mathlib.Core.List.{List}
use Rattle.rows.specs.declared.Turn.{Turn}
use Rattle.actions.proofs.Ones.{OneOutcome, turned-one}
use Rattle.casting.specs.Types.{Broadcast, Refusal}
use Rattle.tables.specs.declared.Counts.{Counts}
use Rattle.casting.specs.Rules.{refusal_of}
use Rattle.broadcasts.specs.Calls.{After, Answered, Dequeued}

module _ {id : ℕ} {ws ws₁ ws₂ : List ℕ} {n : ℕ} where
  pub dequeued-one : {r₁ r₂ : Option ℕ} → Dequeued id ws n ws₁ r₁ → Dequeued id ws n ws₂ r₂ → (ws₁ ≡ ws₂) × (r₁ ≡ r₂)
  dequeued-one p q = (p.table.is ∙ sym q.table.is, p.answer ∙ sym q.answer)

  pub answered-one : {bar : Option Broadcast → Option Refusal} {f : Broadcast → Turn Broadcast} {buf buf₁ buf₂ : List ℕ} {m : ℕ} {r₁ r₂ : Result Counts Refusal}
      → Answered id bar f ws n buf m ws₁ buf₁ r₁ → Answered id bar f ws n buf m ws₂ buf₂ r₂ → (ws₁ ≡ ws₂) × (buf₁ ≡ buf₂) × (r₁ ≡ r₂)
  answered-one {bar} {f} {buf} {buf₁} {buf₂} {m} {r₁} {r₂} p q = go r₁ r₂ (p.answer ∙ sym q.answer) p.table q.table
    where
      same : {c d : Counts} → OneOutcome ws₁ c.sends buf₁ c.told ws₂ d.sends buf₂ d.told → c ≡ d
      same o = λ k. record { sends = o.1 k; told = o.3 k }

      go : (x y : Result Counts Refusal) → refusal_of x ≡ refusal_of y → After id f ws n buf m ws₁ buf₁ x → After id f ws n buf m ws₂ buf₂ y → (ws₁ ≡ ws₂) × (buf₁ ≡ buf₂) × (x ≡ y)
      go (Err x) (Err y) e a b = let i : x ≡ y = cc in (a.0 ∙ sym b.0, a.1 ∙ sym b.1, ap Err i)
      go (Err x) (Ok d) e a b = let z : ◌≡◌ {A = ℕ} 0 1 = cc in absurd (omega arith)
      go (Ok c) (Err y) e a b = let z : ◌≡◌ {A = ℕ} 0 1 = cc in absurd (omega arith)
      go (Ok c) (Ok d) e a b =
          let o = turned-one a b in
          (o.0, o.2, ap Ok (same o))
