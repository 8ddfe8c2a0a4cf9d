-- What a caller reads off a standing record: its kind is that of an event, and its body, inside the trace, is as long as the kind says.
use Prim.Native.Nat.{ℕ, ◌+◌, ◌-◌, ◌≤◌}
use mathlib.Core.Path.{◌≡◌, refl, sym, ap, ◌∙◌}
use mathlib.Core.Bool.{Bool, true, false}
use mathlib.Core.List.{List}
use native.Mathlib.Omega.{arith}
use lib.ListN.{length, get_or, take, drop, length-drop}
use lib.Seq.{length-take-le}
use lib.Dec.{ltb, leb, eqb}
use borrow.Author.Tests.{ltb-false, eqb-false}
use Rattle.records.specs.Pick.{pick}
use Rattle.framing.specs.Kinds.{body_of}
use Rattle.framing.specs.Reader.{stands_at}
use Rattle.framing.specs.declared.Standing.TheVariants.{Record, Unknown, Cut, End}

pub record Stood (s : List ℕ) (at k b n : ℕ) : Type 0 where
  pub kind-is : k ≡ get_or s at 0
  pub start_is : b ≡ at + 1
  pub next-is : n ≡ at + 1 + body_of k
  pub inside : n ≤ length s
  pub least : 1 ≤ k
  pub most : k ≤ 22

module _ (s : List ℕ) (at k b n : ℕ) where
  go : (t₁ t₂ t₃ t₄ : Bool) → eqb (get_or s at 0) 0 ≡ t₂ → ltb 22 (get_or s at 0) ≡ t₃ → ltb (length s) (at + 1 + body_of (get_or s at 0)) ≡ t₄
      → pick t₁ End (pick t₂ Unknown (pick t₃ Unknown (pick t₄ Cut (Record (get_or s at 0) (at + 1) (at + 1 + body_of (get_or s at 0)))))) ≡ Record k b n
      → Stood s at k b n
  go true t₂ t₃ t₄ l m f e = let z : ◌≡◌ {A = ℕ} 0 1 = cc in absurd (omega arith)
  go false true t₃ t₄ l m f e = let z : ◌≡◌ {A = ℕ} 0 1 = cc in absurd (omega arith)
  go false false true t₄ l m f e = let z : ◌≡◌ {A = ℕ} 0 1 = cc in absurd (omega arith)
  go false false false true l m f e = let z : ◌≡◌ {A = ℕ} 0 1 = cc in absurd (omega arith)
  go false false false false l m f e =
      let x : get_or s at 0 ≡ k = cc in
      let y : at + 1 + body_of (get_or s at 0) ≡ n = cc in
      let h : at + 1 + body_of (get_or s at 0) ≤ length s = ltb-false (length s) (at + 1 + body_of (get_or s at 0)) f in
      let u : get_or s at 0 ≡ 0 → ⊥ = eqb-false (get_or s at 0) 0 l in
      let v : get_or s at 0 ≤ 22 = ltb-false 22 (get_or s at 0) m in
      record {
        kind-is = sym x;
        start_is = cc;
        next-is = sym y ∙ ap (λ (m : ℕ). at + 1 + body_of m) x;
        inside = omega arith;
        least = omega arith;
        most = omega arith;
      }

  pub stood : stands_at s at ≡ Record k b n → Stood s at k b n
  stood e =
      go (leb (length s) at) (eqb (get_or s at 0) 0) (ltb 22 (get_or s at 0)) (ltb (length s) (at + 1 + body_of (get_or s at 0))) refl refl refl e

  -- the body is as long as its kind says
  pub body-long : Stood s at k b n → length (take (n - b) (drop b s)) ≡ body_of k
  body-long p =
      let i = p.inside in
      let u = p.start_is in
      let v = p.next-is in
      let l : n - b ≤ length (drop b s) = simp length-drop (omega arith) in
      let m : n - b ≡ body_of k = omega arith in
      length-take-le (n - b) (drop b s) l ∙ m
