-- How a loop lists the sends of a table: what is still to be listed gives the whole. Over any kind of table whose records have an entry. Assumes nothing.
use Prim.Native.Nat.{ℕ, suc, ◌+◌, ◌*◌, ◌≤◌, ◌<◌}
use native.Mathlib.Omega.{arith}
use native.Mathlib.Nat.{add-zero}
use mathlib.Core.Path.{◌≡◌, refl, sym, ap, ap₂, ◌∙◌}
use mathlib.Core.List.{List, [], ◌∷◌, ◌++◌, map}
use lib.ListN.{length, drop, get_or, length-map, length-append}
use lib.Seq.{sets}
use Rattle.rows.specs.Rows.{flat}
use Rattle.rows.specs.Tables.{Table, rows_of, live, Held}
use Rattle.rows.proofs.Sets.{sets-append}
use Rattle.rows.proofs.Flat.{flat_append, length-flat}
use Rattle.rows.proofs.Promises.{live-cons, live-done, held-length, length-rows_of}
use Rattle.doing.specs.Types.{Entry}
use Rattle.doing.specs.Parts.{entry_words, Listed}

-- i of the sends are listed
abbrev pub Listing : {A : Type 0} → Table A → (A → Entry) → List ℕ → ℕ → ℕ → List ℕ → List ℕ → ℕ → Type 0
Listing t entry ws n at list₀ list i =
    sets list ((at + i) * 2) (flat entry_words (map entry (drop i (live t ws n)))) ≡ sets list₀ (at * 2) (flat entry_words (map entry (live t ws n)))

-- what is left of the live records from place i on
module _ {A : Type 0} {t : Table A} {ws : List ℕ} {n : ℕ} (h : Held t ws n) (i : ℕ) where
  room : n ≤ length (rows_of t ws)
  room = omega (arith, length-rows_of t ws, h.within)

  pub held_cons : i < n → drop i (live t ws n) ≡ get_or (rows_of t ws) i t.blank ∷ drop (i + 1) (live t ws n)
  held_cons l = live-cons (rows_of t ws) n i t.blank l room

  pub held-done : n ≤ i → drop i (live t ws n) ≡ []
  held-done l = live-done (rows_of t ws) n i l room

module _ {A : Type 0} {t : Table A} (entry : A → Entry) {ws : List ℕ} {n : ℕ} (h : Held t ws n) (at : ℕ) where
  pub list-start : (list₀ : List ℕ) → Listing t entry ws n at list₀ list₀ 0
  list-start list₀ = ap (λ (k : ℕ). sets list₀ (k * 2) (flat entry_words (map entry (live t ws n)))) (add-zero at)

  pub list-turn : (list₀ : List ℕ) {list list' : List ℕ} (i r : ℕ) (u : A) (e : Entry) → i < n → u ≡ get_or (rows_of t ws) i t.blank → e ≡ entry u
      → Listed (at + i) (e ∷ []) list list' r → Listing t entry ws n at list₀ list i → Listing t entry ws n at list₀ list' (i + 1)
  list-turn list₀ {list} {list'} i r u e l p q s inv =
      let rest : List ℕ = flat entry_words (map entry (drop (i + 1) (live t ws n))) in
      let k : (at + (i + 1)) * 2 ≡ suc (suc ((at + i) * 2)) = omega arith in
      let c : drop i (live t ws n) ≡ u ∷ drop (i + 1) (live t ws n) =
      held_cons h i l ∙ ap (λ (x : A). x ∷ drop (i + 1) (live t ws n)) (sym p) in
      ap₂ (λ (w : List ℕ) (j : ℕ). sets w j rest) s.words k
      ∙ ap (λ (x : Entry). sets list ((at + i) * 2) (x.id ∷ x.waiter ∷ rest)) q
      ∙ ap (λ (xs : List A). sets list ((at + i) * 2) (flat entry_words (map entry xs))) (sym c) ∙ inv

  pub list-end : {list₀ list : List ℕ} (i : ℕ) → n ≤ i → Listing t entry ws n at list₀ list i → Listed at (map entry (live t ws n)) list₀ list (at + n)
  list-end {list₀} {list} i l inv =
      record {
        words = ap (λ (xs : List A). sets list ((at + i) * 2) (flat entry_words (map entry xs))) (sym (held-done h i l)) ∙ inv;
        next = ap (λ (k : ℕ). at + k) (sym (length-map (live t ws n) entry ∙ held-length h));
      }

-- what was listed, and then more
pub listed-append : {at r r' : ℕ} {es es' : List Entry} {ws ws₁ ws₂ : List ℕ} → Listed at es ws ws₁ r → Listed r es' ws₁ ws₂ r' → Listed at (es ++ es') ws ws₂ r'
listed-append {at} {r} {r'} {es} {es'} {ws} {ws₁} {ws₂} p q =
    record {
      words = q.words ∙ ap₂ (λ (k : ℕ) (w : List ℕ). sets w (k * 2) (flat entry_words es')) p.next p.words ∙ ap (λ (k : ℕ). sets (sets ws (at * 2) (flat entry_words es)) k (flat entry_words es')) place
          ∙ sym (sets-append ws (at * 2) (flat entry_words es) (flat entry_words es')) ∙ ap (sets ws (at * 2)) (sym (flat_append 2 entry_words (λ e. refl) es es'));
      next = q.next ∙ ap (λ (k : ℕ). k + length es') p.next ∙ omega (arith, length-append es es');
    }
  where
    wide : (e : Entry) → length (entry_words e) ≡ 2
    wide e = refl

    place : (at + length es) * 2 ≡ at * 2 + length (flat entry_words es)
    place = omega (arith, length-flat 2 entry_words wide es)
