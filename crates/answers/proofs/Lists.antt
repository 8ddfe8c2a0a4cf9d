-- Several answers, one after the other, and an action as an answer. Assumes nothing.
use Prim.Native.Nat.{ℕ, ◌+◌}
use mathlib.Core.Path.{◌≡◌, refl, sym, ap, ◌∙◌}
use mathlib.Core.List.{List, [], ◌∷◌, ◌++◌, map, append_assoc, append-nil}
use lib.ListN.{length, length-append}
use Rattle.answers.specs.Types.{Action, Item}
use Rattle.answers.specs.Bytes.{Written}
use Rattle.answers.specs.Items.{item_bytes, items_bytes, action_item, action_bytes, actions_bytes}
use Rattle.answers.proofs.Writings.{written-append, written_as}

pub items-append : (is js : List Item) → items_bytes (is ++ js) ≡ items_bytes is ++ items_bytes js
items-append [] js = refl
items-append (i ∷ is) js = ap (λ (l : List ℕ). item_bytes i ++ l) (items-append is js) ∙ sym (append_assoc (item_bytes i) (items_bytes is) (items_bytes js))

pub items-one : (i : Item) → items_bytes (i ∷ []) ≡ item_bytes i
items-one i = append-nil (item_bytes i)

pub items-length : (is js : List Item) → length (items_bytes (is ++ js)) ≡ length (items_bytes is) + length (items_bytes js)
items-length is js = ap length (items-append is js) ∙ length-append (items_bytes is) (items_bytes js)

-- actions are the answers that tell them
pub actions-items : (acts : List Action) → actions_bytes acts ≡ items_bytes (map action_item acts)
actions-items [] = refl
actions-items (a ∷ acts) = ap (λ (l : List ℕ). action_bytes a ++ l) (actions-items acts)

pub actions-append : (xs ys : List Action) → actions_bytes (xs ++ ys) ≡ actions_bytes xs ++ actions_bytes ys
actions-append [] ys = refl
actions-append (a ∷ xs) ys = ap (λ (l : List ℕ). action_bytes a ++ l) (actions-append xs ys) ∙ sym (append_assoc (action_bytes a) (actions_bytes xs) (actions_bytes ys))

-- answers written in turn are the list of both, and one more is the list with it at its end
pub written-items : {at r r' : ℕ} (is js : List Item) {out out' out'' : List ℕ}
    → Written at (items_bytes is) out out' r → Written r (items_bytes js) out' out'' r' → Written at (items_bytes (is ++ js)) out out'' r'
written-items is js p q = written_as (sym (items-append is js)) (written-append p q)

pub written-more : {at r r' : ℕ} (is : List Item) (i : Item) {out out' out'' : List ℕ}
    → Written at (items_bytes is) out out' r → Written r (item_bytes i) out' out'' r' → Written at (items_bytes (is ++ (i ∷ []))) out out'' r'
written-more is i p q =
    written_as (ap (λ (l : List ℕ). items_bytes is ++ l) (sym (items-one i)) ∙ sym (items-append is (i ∷ []))) (written-append p q)
