-- What the next member of a source-match set is. Assumes nothing.
use Rattle.std.specs.Prelude.{Option, None, Some}
use Prim.Native.Nat.{ℕ, ◌<◌, ◌≤◌}
use native.Mathlib.Omega.{arith}
use mathlib.Core.Path.{◌≡◌, refl, sym, ap, ◌∙◌, subst}
use mathlib.Core.Bool.{Bool, true, false}
use mathlib.Core.List.{List, [], ◌∷◌}
use mathlib.Core.Logic.{inl, inr, ⊎_elim}
use borrow.Author.Tests.{le-leb, lt-leb}
use Rattle.records.specs.Pick.{pick}
use Rattle.records.specs.Times.{sooner}
use Rattle.records.proofs.Cases.{lt-or-le, never}
use Rattle.sending.specs.Types.{Stage, Queued, Transmitting, Retrying, AwaitingPoll, AwaitingApsAck, Unicast}
use Rattle.sending.specs.declared.Book.{Book}
use Rattle.sending.specs.Claims.{IsNext, wake_at}
use Rattle.sending.specs.Rules.{wake_by}
use Rattle.sending.specs.Lists.{wake_step, wake_of}
use Rattle.sending.proofs.Claims.{all_map}
use Rattle.sending.specs.Members.{member_of, is_past, least_with, least_step, least_of, next_member}

-- ---- the least of those past the last one, and there is none exactly when none is past it

module _ (m : Unicast → Option ℕ) (last : Option ℕ) where
  abbrev Least : ℕ → Unicast → Type 0
  Least x u = (y : ℕ) → m u ≡ Some y → is_past last y ≡ true → x ≤ y

  abbrev Clear : Unicast → Type 0
  Clear u = (y : ℕ) → m u ≡ Some y → is_past last y ≡ false

  module _ (u : Unicast) (us : List Unicast) where
    -- what u puts there is not past the last one
    skip : (b : Option ℕ) → Clear u → IsNext m last us b → IsNext m last (u ∷ us) b
    skip None f a = (f, a)
    skip (Some x) f t = record { is = inr t.is; past = t.past; least = ((λ y g p. never (sym (f y g) ∙ p)), t.least) }

    module _ (x : ℕ) (e : m u ≡ Some x) where
      own : (y : ℕ) → m u ≡ Some y → x ≡ y
      own y g = cc

      enter : (b : Option ℕ) → is_past last x ≡ true → IsNext m last us b → IsNext m last (u ∷ us) (sooner x b)
      enter None f a =
          record {
            is = inl e;
            past = f;
            least = ((λ y g p. let h : x ≡ y = own y g in omega arith), all_map Clear (Least x) (λ v h y g p. never (sym (h y g) ∙ p)) us a);
          }
      enter (Some z) f t =
          ⊎_elim
          (λ (l : z < x).
          rw (lt-leb x z l)
          (record { is = inr t.is; past = t.past; least = ((λ y g p. let h : x ≡ y = own y g in omega arith), t.least) }))
          (λ (l : x ≤ z).
          rw (le-leb x z l)
          (record {
            is = inl e;
            past = f;
            least = (
              (λ y g p. let h : x ≡ y = own y g in omega arith),
              all_map (Least z) (Least x) (λ v h y g p. let k : z ≤ y = h y g p in omega arith) us t.least,
            );
          }))
          (lt-or-le z x)

      by : (t : Bool) → is_past last x ≡ t → (b : Option ℕ) → IsNext m last us b → IsNext m last (u ∷ us) (pick t (sooner x b) b)
      by true f b a = enter b f a
      by false f b a = skip b (λ y g. ap (is_past last) (sym (own y g)) ∙ f) a

    more : (o : Option ℕ) → m u ≡ o → (b : Option ℕ) → IsNext m last us b → IsNext m last (u ∷ us) (least_with last o b)
    more None e b a = skip b (λ y g. let z : ◌≡◌ {A = ℕ} 0 1 = cc in absurd (omega arith)) a
    more (Some x) e b a = by x e (is_past last x) refl b a

  pub least-is-next : (us : List Unicast) → IsNext m last us (least_of m last us)
  least-is-next [] = tt
  least-is-next (u ∷ us) = more u us (m u) refl (least_of m last us) (least-is-next us)

pub next-is-next : (book : Book) (es ns : List ℕ) (last : Option ℕ) (us : List Unicast) → IsNext (member_of book es ns) last us (next_member book es ns last us)
next-is-next book es ns last us = least-is-next (member_of book es ns) last us

-- ---- the next wake is the least over the sends that are not in the radio

wake-step : (u : Unicast) (o : Option ℕ) → wake_step u o ≡ least_step wake_at None u o
wake-step u o = go u.stage
  where
    go : (s : Stage) → wake_by u.deadline o s ≡ least_with None (wake_by u.deadline None s) o
    go Queued = refl
    go (Transmitting k) = refl
    go (Retrying at) = refl
    go AwaitingPoll = refl
    go AwaitingApsAck = refl

wake-least : (us : List Unicast) → least_of wake_at None us ≡ wake_of us
wake-least [] = refl
wake-least (u ∷ us) = sym (wake-step u (least_of wake_at None us)) ∙ ap (wake_step u) (wake-least us)

pub wake-is-least : (us : List Unicast) → IsNext wake_at None us (wake_of us)
wake-is-least us = subst (IsNext wake_at None us) (wake-least us) (least-is-next wake_at None us)
