-- Answers that fit before the reserved end, and answers that do not. Assumes nothing.
use Rattle.std.specs.Prelude.{Option, None, Some}
use Prim.Native.Nat.{ℕ, ◌+◌, ◌-◌, ◌≤◌, ◌<◌}
use native.Mathlib.Omega.{arith}
use mathlib.Core.Path.{◌≡◌, sym, ap, ◌∙◌}
use mathlib.Core.Bool.{true, false}
use mathlib.Core.List.{List, [], ◌∷◌, ◌++◌}
use lib.ListN.{length, length-append}
use lib.Seq.{sets}
use borrow.Author.Tests.{lt-ltb, le-ltb}
use Rattle.records.specs.Pick.{pick}
use Rattle.answers.specs.Bytes.{Written}
use Rattle.answers.specs.Items.{items_bytes}
use Rattle.answers.proofs.Lists.{items-append}
use Rattle.listings.specs.Listings.{wake_items}
use Rattle.exchange.specs.Types.{Item, Done}
use Rattle.exchange.specs.Answering.{Answering, overfull}

-- only the bytes matter
pub answering-as : {is js : List Item} {at : ℕ} {out out' : List ℕ} {r : ℕ} → items_bytes is ≡ items_bytes js → Answering is at out out' r → Answering js at out out' r
answering-as {is} {js} {at} {out} {out'} {r} e a =
    record {
      wrote = a.wrote ∙ ap (λ (bs : List ℕ). pick (overfull (length out) at bs) 0 (at + length bs)) e;
      bytes = a.bytes ∙ ap (λ (bs : List ℕ). pick (overfull (length out) at bs) out (sets out at bs)) e;
    }

module _ {is : List Item} {at : ℕ} {out : List ℕ} (room : at + 6 ≤ length out) where
  pub no_room : length out - at - 6 < length (items_bytes is) → Answering is at out out 0
  no_room l =
      let e : overfull (length out) at (items_bytes is) ≡ true = lt-ltb (length out - at) (length (items_bytes is) + 6) (omega arith) in
      record { wrote = rw e; bytes = rw e }

  pub all_fit : {out' : List ℕ} {r : ℕ} → length (items_bytes is) ≤ length out - at - 6 → Written at (items_bytes is) out out' r → Answering is at out out' r
  all_fit {out'} {r} l w =
      let e : overfull (length out) at (items_bytes is) ≡ false = le-ltb (length out - at) (length (items_bytes is) + 6) (omega arith) in
      record { wrote = rw e w.next; bytes = rw e w.holds }

-- items and then 129
pub done-bytes : (is : List Item) → items_bytes (is ++ (Done ∷ [])) ≡ items_bytes is ++ (129 ∷ [])
done-bytes is = items-append is (Done ∷ [])

pub done-same : (is js : List Item) → items_bytes is ≡ items_bytes js → items_bytes (is ++ (Done ∷ [])) ≡ items_bytes (js ++ (Done ∷ []))
done-same is js e = done-bytes is ∙ ap (λ (l : List ℕ). l ++ (129 ∷ [])) e ∙ sym (done-bytes js)

pub done-long : (is : List Item) → length (items_bytes (is ++ (Done ∷ []))) ≡ length (items_bytes is) + 1
done-long is = ap length (done-bytes is) ∙ length-append (items_bytes is) (129 ∷ [])

-- the time of a wake, or none, takes nine bytes at the most
pub wake-short : (o : Option ℕ) → length (items_bytes (wake_items o)) ≤ 9
wake-short None = omega arith
wake-short (Some t) = omega arith
