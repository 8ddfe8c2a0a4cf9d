-- Each contract admits one outcome: any two are equal. (Sweeps and turns: actions, proofs/Ones.) Assumes nothing.
use Rattle.std.specs.Prelude.{Option, None, Some}
use Prim.Native.Nat.{ℕ}
use native.Mathlib.Omega.{arith}
use mathlib.Core.Path.{◌≡◌, sym, ◌∙◌}
use mathlib.Core.List.{List}
use Rattle.rows.proofs.Promises.{holds-one}
use Rattle.actions.proofs.Ones.{swept-one}
use Rattle.unrouted.specs.declared.Failed.{Failed}
use Rattle.unrouted.specs.Types.{Unrouted, Retry}
use Rattle.unrouted.specs.Calls.{EnqueuedTables, Enqueued, Retried, FailedAll, TakenTable, Taken}

module _ {ws ws₁ ws₂ : List ℕ} {n : ℕ} where
  pub enqueued-one : {attempts : ℕ} {u : Unrouted} {ds ds₁ ds₂ : List ℕ} {k : ℕ} {r₁ r₂ : Option (ℕ × ℕ)} → Enqueued attempts u ws n ds k ws₁ ds₁ r₁ → Enqueued attempts u ws n ds k ws₂ ds₂ r₂
      → (ws₁ ≡ ws₂) × (ds₁ ≡ ds₂) × (r₁ ≡ r₂)
  enqueued-one {attempts} {u} {ds} {ds₁} {ds₂} {k} {r₁} {r₂} p q =
      let same : r₁ ≡ r₂ = p.answer ∙ sym q.answer in
      let t = go r₁ r₂ same p.tables q.tables in
      (t.0, t.1, same)
    where
      go : (x y : Option (ℕ × ℕ)) → x ≡ y → EnqueuedTables attempts u ws n ds k ws₁ ds₁ x → EnqueuedTables attempts u ws n ds k ws₂ ds₂ y → (ws₁ ≡ ws₂) × (ds₁ ≡ ds₂)
      go None None e a b = (a.0 ∙ sym b.0, a.1 ∙ sym b.1)
      go None (Some (i, j)) e a b = let z : ◌≡◌ {A = ℕ} 0 1 = cc in absurd (omega arith)
      go (Some (i, j)) None e a b = let z : ◌≡◌ {A = ℕ} 0 1 = cc in absurd (omega arith)
      go (Some (i, j)) (Some (i', j')) e a b = (a.0.is ∙ sym b.0.is, a.1.is ∙ sym b.1.is)

  pub failed-one : {d : ℕ} {ds ds₁ ds₂ buf buf₁ buf₂ : List ℕ} {k m : ℕ} {r₁ r₂ : Failed} → FailedAll d ws n ds k buf m ws₁ ds₁ buf₁ r₁ → FailedAll d ws n ds k buf m ws₂ ds₂ buf₂ r₂
      → (ws₁ ≡ ws₂) × (ds₁ ≡ ds₂) × (buf₁ ≡ buf₂) × (r₁ ≡ r₂)
  failed-one p q =
      let o = swept-one p.sends q.sends in
      let h = holds-one p.held q.held in
      (o.0, h.0, o.2, λ i. record { sends = o.1 i; held = h.1 i; told = o.3 i })

  pub taken-one : {d : ℕ} {r₁ r₂ : Option Unrouted} → Taken d ws n ws₁ r₁ → Taken d ws n ws₂ r₂ → (ws₁ ≡ ws₂) × (r₁ ≡ r₂)
  taken-one {d} {r₁} {r₂} p q =
      let same : r₁ ≡ r₂ = p.answer ∙ sym q.answer in
      (go r₁ r₂ same p.table q.table, same)
    where
      go : (x y : Option Unrouted) → x ≡ y → TakenTable d ws n ws₁ x → TakenTable d ws n ws₂ y → ws₁ ≡ ws₂
      go None None e a b = a ∙ sym b
      go None (Some u) e a b = let z : ◌≡◌ {A = ℕ} 0 1 = cc in absurd (omega arith)
      go (Some u) None e a b = let z : ◌≡◌ {A = ℕ} 0 1 = cc in absurd (omega arith)
      go (Some u) (Some v) e a b = a.is ∙ sym b.is

pub retried-one : {ws : List ℕ} {n d : ℕ} {ds ds₁ ds₂ : List ℕ} {k : ℕ} {r₁ r₂ : Retry} → Retried d ws n ds k ds₁ r₁ → Retried d ws n ds k ds₂ r₂ → (ds₁ ≡ ds₂) × (r₁ ≡ r₂)
retried-one {ws} {n} {d} {ds} {ds₁} {ds₂} {k} {r₁} {r₂} p q =
    let same : r₁ ≡ r₂ = p.answer ∙ sym q.answer in
    (p.table.is ∙ sym (rw same q.table.is), same)
