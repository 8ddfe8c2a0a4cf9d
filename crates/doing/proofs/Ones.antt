-- What a call on lent tables ensures admits one outcome: any two are equal, every lent word and what is given back. Assumes nothing.
use Prim.Native.Nat.{ℕ}
use mathlib.Core.Path.{◌≡◌, sym, ◌∙◌}
use mathlib.Core.List.{List}
use Rattle.rows.proofs.Promises.{holds-one}
use Rattle.model.specs.Model.{Effect, Does}
use Rattle.doing.specs.Types.{Did}

-- the four tables, the buffer, and what is given back
pub record SameDid (ws vs ds bs buf : List ℕ) (r : Did) (ws' vs' ds' bs' buf' : List ℕ) (r' : Did) : Type 0 where
  pub unicasts : ws ≡ ws'
  pub unrouted : vs ≡ vs'
  pub held : ds ≡ ds'
  pub broadcasts : bs ≡ bs'
  pub buffer : buf ≡ buf'
  pub back : r ≡ r'

pub does-one : {e : Effect} {buf ws vs ds bs buf₁ ws' vs' ds' bs' buf₂ : List ℕ} {r r' : Did} → Does e buf ws vs ds bs buf₁ r → Does e buf ws' vs' ds' bs' buf₂ r'
    → SameDid ws vs ds bs buf₁ r ws' vs' ds' bs' buf₂ r'
does-one p q =
    let u = holds-one p.unicasts q.unicasts in
    let v = holds-one p.unrouted q.unrouted in
    let d = holds-one p.held q.held in
    let b = holds-one p.broadcasts q.broadcasts in
    record {
      unicasts = u.0;
      unrouted = v.0;
      held = d.0;
      broadcasts = b.0;
      buffer = p.tells.words ∙ sym q.tells.words;
      back = λ k. record {
        counts = record { next_id = (p.next ∙ sym q.next) k; unicasts = u.1 k; unrouted = v.1 k; held = d.1 k; broadcasts = b.1 k };
        answer = (p.answer ∙ sym q.answer) k;
        told = (p.tells.next ∙ sym q.tells.next) k;
      };
    }
