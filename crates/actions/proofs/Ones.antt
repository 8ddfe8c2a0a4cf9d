-- A call on one table admits one outcome: any two are equal. Over any kind of table whose records have an entry. Assumes nothing.
use Prim.Native.Nat.{ℕ}
use mathlib.Core.Path.{◌≡◌, sym, ap, ◌∙◌}
use mathlib.Core.Bool.{Bool}
use mathlib.Core.List.{List}
use lib.ListN.{length}
use Rattle.records.specs.declared.Entry.{Entry}
use Rattle.records.specs.declared.Action.{Action}
use Rattle.rows.specs.Tables.{Table, Holds}
use Rattle.rows.specs.declared.Turn.{Turn}
use Rattle.rows.proofs.Promises.{held-length}
use Rattle.actions.specs.Told.{Told}
use Rattle.actions.specs.Calls.{Swept, Turned}

-- the table, its count, the buffer and the next place in it
abbrev pub OneOutcome : List ℕ → ℕ → List ℕ → ℕ → List ℕ → ℕ → List ℕ → ℕ → Type 0
OneOutcome ws n buf m ws' n' buf' m' = (ws ≡ ws') × (n ≡ n') × (buf ≡ buf') × (m ≡ m')

module _ {A : Type 0} {t : Table A} where
  one : {xs : List A} {acts : List Action} {buf ws₁ buf₁ ws₂ buf₂ : List ℕ} {m n₁ m₁ n₂ m₂ : ℕ} → Holds t ws₁ n₁ xs → Told m acts buf buf₁ m₁
      → Holds t ws₂ n₂ xs → Told m acts buf buf₂ m₂ → OneOutcome ws₁ n₁ buf₁ m₁ ws₂ n₂ buf₂ m₂
  one h p h' p' = (
    h.is ∙ sym h'.is,
    sym (held-length h.held) ∙ ap length (h.live-is ∙ sym h'.live-is) ∙ held-length h'.held,
    p.words ∙ sym p'.words,
    p.next ∙ sym p'.next,
  )

  module _ {entry : A → Entry} {f : A → Turn A} {ws buf ws₁ buf₁ ws₂ buf₂ : List ℕ} {n m n₁ m₁ n₂ m₂ : ℕ} where
    pub swept-one : Swept t entry f ws n buf m ws₁ n₁ buf₁ m₁ → Swept t entry f ws n buf m ws₂ n₂ buf₂ m₂ → OneOutcome ws₁ n₁ buf₁ m₁ ws₂ n₂ buf₂ m₂
    swept-one p q = one p.table p.tells q.table q.tells

    pub turned-one : {q : A → Bool} → Turned t entry q f ws n buf m ws₁ n₁ buf₁ m₁ → Turned t entry q f ws n buf m ws₂ n₂ buf₂ m₂ → OneOutcome ws₁ n₁ buf₁ m₁ ws₂ n₂ buf₂ m₂
    turned-one p q = one p.table p.tells q.table q.tells
