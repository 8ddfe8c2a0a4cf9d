-- How a loop fills a lent array: what is still to be put gives the whole. And that the next member of a source-match set past the last one given out is the
-- next of the set's list. Assumes nothing.
use Rattle.std.specs.Prelude.{Option, None, Some}
use Prim.Native.Nat.{ℕ, suc, ◌+◌, ◌≤◌, ◌<◌}
use native.Mathlib.Nat.{zero-add, add-zero}
use native.Mathlib.Omega.{arith}
use mathlib.Core.Path.{◌≡◌, refl, sym, ap, ap₂, ◌∙◌}
use mathlib.Core.Bool.{Bool, true, false}
use mathlib.Core.List.{List, [], ◌∷◌, ◌++◌, map}
use mathlib.Core.Logic.{⊎_elim}
use lib.ListN.{length, drop, get_or, set, length-append, drop_of_length-le}
use lib.Seq.{sets}
use borrow.Author.Tests.{lt-ltb, le-ltb, ltb-true, ltb-false, eq-eqb, ne_eqb, le-leb, lt-leb}
use Rattle.records.specs.Pick.{pick}
use Rattle.records.specs.Times.{sooner}
use Rattle.records.proofs.Cases.{lt-or-le, eq-or-ne, never}
use Rattle.rows.specs.Lists.{insert_by, Rising}
use Rattle.rows.specs.Tables.{Table, rows_of, live, Held}
use Rattle.rows.proofs.Promises.{rising-insert}
use Rattle.rows.proofs.Sets.{sets-append}
use Rattle.codes.specs.Codes.{quorum_word}
use Rattle.tables.specs.Layouts.{broadcast_table, broadcast_head}
use Rattle.casting.specs.Rules.{awaited_head, listed, awaited_of}
use Rattle.casting.proofs.Scans.{row_at, awaited-turn, awaited-end}
use Rattle.sending.specs.Members.{map_fits, member_of, is_past, least_with, next_member}
use Rattle.model.specs.Calls.{only}
use Rattle.model.specs.Steps.{adding, members_of}
use Rattle.model.proofs.Kepts.{insert-length}
use Rattle.doing.specs.Types.{QuorumKey, Unicast, Book}
use Rattle.lent.specs.Fills.{Filled, Matching}
use Rattle.lent.proofs.Listings.{held_cons, held-done}

-- ---- filling

-- m of all are put, and these are left
pub record Filling (left all out₀ out : List ℕ) (m : ℕ) : Type 0 where
  pub words : sets out m left ≡ sets out₀ 0 all
  pub many : m + length left ≡ length all

pub fill_start : {left : List ℕ} (all out : List ℕ) → left ≡ all → Filling left all out out 0
fill_start all out e = record { words = ap (sets out 0) e; many = zero-add _ ∙ ap length e }

pub fill_one : (out : List ℕ) (m x : ℕ) → Filled m (x ∷ []) out (set out m x) (m + 1)
fill_one out m x = record { words = refl; next = refl }

module _ {left all out₀ out : List ℕ} {m : ℕ} (f : Filling left all out₀ out m) where
  -- some of what is left is put
  pub fill-turn : (xs rest : List ℕ) {out' : List ℕ} {r : ℕ} → left ≡ xs ++ rest → Filled m xs out out' r → Filling rest all out₀ out' r
  fill-turn xs rest e p =
      record {
        words = ap₂ (λ (l : List ℕ) (k : ℕ). sets l k rest) p.words p.next ∙ sym (sets-append out m xs rest) ∙ ap (sets out m) (sym e) ∙ f.words;
        many = omega (arith, p.next, f.many, ap length e, length-append xs rest);
      }

  -- none is left
  pub fill_end : {r : ℕ} → r ≡ m → length left ≡ 0 → Filled 0 all out₀ out r
  fill_end q e =
      let gone : left ≡ [] = drop_of_length-le left {i = 0} (omega arith) in
      record { words = ap (sets out m) (sym gone) ∙ f.words; next = omega (arith, f.many) }

-- ---- a number of each record, and the awaited keys

module _ {A : Type 0} {t : Table A} {ws : List ℕ} {n : ℕ} (h : Held t ws n) (f : A → ℕ) (i : ℕ) where
  pub left-cons : {x : ℕ} → i < n → x ≡ f (get_or (rows_of t ws) i t.blank) → map f (drop i (live t ws n)) ≡ x ∷ map f (drop (i + 1) (live t ws n))
  left-cons l e = ap (map f) (held_cons h i l) ∙ ap (λ (y : ℕ). y ∷ map f (drop (i + 1) (live t ws n))) (sym e)

  pub left-none : n ≤ i → length (map f (drop i (live t ws n))) ≡ 0
  left-none l = ap (λ (xs : List A). length (map f xs)) (held-done h i l)

module _ {x : Option QuorumKey} (out : List ℕ) (m : ℕ) where
  pub fill-quiet : x ≡ None → Filled m (map quorum_word (listed x [])) out out m
  fill-quiet e = rw e (record { words = refl; next = sym (add-zero m) })

  pub fill-key : {v : ℕ} (k : QuorumKey) → x ≡ Some k → v ≡ quorum_word k → Filled m (map quorum_word (listed x [])) out (set out m v) (m + 1)
  fill-key k e q = rw (e, q) (record { words = refl; next = refl })

pub key-low : (x : Option QuorumKey) → length (map quorum_word (listed x [])) ≤ 1
key-low None = omega arith
key-low (Some k) = omega arith

module _ {ws : List ℕ} {n : ℕ} (h : Held broadcast_table ws n) (i : ℕ) where
  pub keys-left : (x : Option QuorumKey) → i < n → x ≡ awaited_head (broadcast_head (row_at ws i))
      → map quorum_word (awaited_of (drop i (live broadcast_table ws n)))
      ≡ map quorum_word (listed x []) ++ map quorum_word (awaited_of (drop (i + 1) (live broadcast_table ws n)))
  keys-left x l e =
      ap (map quorum_word) (awaited-turn h i l ∙ ap (λ (y : Option QuorumKey). listed y (awaited_of (drop (i + 1) (live broadcast_table ws n)))) (sym e))
      ∙ go x (awaited_of (drop (i + 1) (live broadcast_table ws n)))
    where
      go : (y : Option QuorumKey) (ks : List QuorumKey) → map quorum_word (listed y ks) ≡ map quorum_word (listed y []) ++ map quorum_word ks
      go None ks = refl
      go (Some k) ks = refl

  pub keys_none : n ≤ i → length (map quorum_word (awaited_of (drop i (live broadcast_table ws n)))) ≡ 0
  keys_none l = ap (λ (ks : List QuorumKey). length (map quorum_word ks)) (awaited-end h i l)

-- ---- the members of a set

abbrev itself : ℕ → ℕ
itself x = x

-- those past the last one given out
abbrev pub after : Option ℕ → List ℕ → List ℕ
after last xs = only (is_past last) xs

abbrev tail_of : List ℕ → List ℕ
tail_of [] = []
tail_of (x ∷ xs) = xs

abbrev head_of : List ℕ → Option ℕ
head_of [] = None
head_of (x ∷ xs) = Some x

-- before any is given out, all are
pub after_none : (xs : List ℕ) → after None xs ≡ xs
after_none [] = refl
after_none (x ∷ xs) = ap (λ (l : List ℕ). x ∷ l) (after_none xs)

-- what is past the last one stays so further up
up : (last : Option ℕ) (x y : ℕ) → x ≤ y → is_past last x ≡ true → is_past last y ≡ true
up None x y l e = refl
up (Some z) x y l e = let h : z < x = ltb-true z x e in lt-ltb z y (omega arith)

-- and what is not is below all that is
below : (last : Option ℕ) (x y : ℕ) → is_past last y ≡ false → is_past last x ≡ true → y ≤ x
below None x y e f = never (sym e)
below (Some z) x y e f = let h : z < x = ltb-true z x f in let k : y ≤ z = ltb-false z y e in omega arith

-- one more member
abbrev With : Option ℕ → ℕ → List ℕ → List ℕ → Type 0
With last x xs ys = least_with last (Some x) (head_of xs) ≡ head_of ys

more : (last : Option ℕ) (x : ℕ) (xs : List ℕ) → With last x (after last xs) (after last (insert_by itself x xs))
more last x [] = go (is_past last x)
  where
    go : (b : Bool) → pick b (Some x) None ≡ head_of (pick b (x ∷ []) [])
    go true = refl
    go false = refl
more last x (y ∷ ys) =
    ⊎_elim
    (λ (l : y < x). rw (lt-ltb y x l) (low (is_past last y) refl l (more last x ys)))
    (λ (l : x ≤ y).
    ⊎_elim
    (λ (e : y ≡ x). rw (le-ltb y x l, eq-eqb y x e) (same (is_past last x) (is_past last y) e refl refl))
    (λ n. rw (le-ltb y x l, ne_eqb y x n) (high (is_past last x) refl l))
    (eq-or-ne y x))
    (lt-or-le y x)
  where
    zs : List ℕ
    zs = after last ys

    low : (b : Bool) → is_past last y ≡ b → y < x → With last x zs (after last (insert_by itself x ys))
        → With last x (pick b (y ∷ zs) zs) (pick b (y ∷ after last (insert_by itself x ys)) (after last (insert_by itself x ys)))
    low true e l ih = rw (up last y x (omega arith) e, lt-leb x y l)
    low false e l ih = ih

    same : (b b' : Bool) → y ≡ x → is_past last x ≡ b → is_past last y ≡ b'
        → pick b (sooner x (head_of (pick b' (y ∷ zs) zs))) (head_of (pick b' (y ∷ zs) zs)) ≡ head_of (pick b (x ∷ zs) zs)
    same true true q e f = rw (le-leb x y (omega arith))
    same true false q e f = never (sym f ∙ ap (is_past last) q ∙ e)
    same false true q e f = never (sym e ∙ ap (is_past last) (sym q) ∙ f)
    same false false q e f = refl

    high : (b : Bool) → is_past last x ≡ b → x ≤ y
        → pick b (sooner x (head_of (after last (y ∷ ys)))) (head_of (after last (y ∷ ys))) ≡ head_of (pick b (x ∷ after last (y ∷ ys)) (after last (y ∷ ys)))
    high true e l = rw (up last x y l e, le-leb x y l)
    high false e l = refl

module _ (book : Book) (es ns : List ℕ) where
  -- the next member is the first of those past the last one
  next-head : (last : Option ℕ) (us : List Unicast) → next_member book es ns last us ≡ head_of (after last (members_of book es ns us))
  next-head last [] = refl
  next-head last (u ∷ us) = ap (least_with last (member_of book es ns u)) (next-head last us) ∙ go (member_of book es ns u)
    where
      go : (o : Option ℕ) → least_with last o (head_of (after last (members_of book es ns us))) ≡ head_of (after last (adding o (members_of book es ns us)))
      go None = refl
      go (Some x) = more last x (members_of book es ns us)

  members-rising : (us : List Unicast) → Rising itself 0 (members_of book es ns us)
  members-rising [] = tt
  members-rising (u ∷ us) = go (member_of book es ns u) (members-rising us)
    where
      go : (o : Option ℕ) → Rising itself 0 (members_of book es ns us) → Rising itself 0 (adding o (members_of book es ns us))
      go None r = r
      go (Some x) r = rising-insert itself 0 x (members_of book es ns us) (omega arith) r

  pub members-few : (us : List Unicast) → length (members_of book es ns us) ≤ length us
  members-few [] = omega arith
  members-few (u ∷ us) = go (member_of book es ns u) (members-few us)
    where
      go : (o : Option ℕ) → length (members_of book es ns us) ≤ length us → length (adding o (members_of book es ns us)) ≤ suc (length us)
      go None h = omega arith
      go (Some x) h = omega (arith, insert-length itself x (members_of book es ns us))

-- ---- after one more is given out

all_past : (last : Option ℕ) (lo : ℕ) (xs : List ℕ) → Rising itself lo xs → is_past last lo ≡ true → after last xs ≡ xs
all_past last lo [] r e = refl
all_past last lo (x ∷ xs) r e =
    let p : is_past last x ≡ true = up last lo x r.0 e in
    rw p (ap (λ (l : List ℕ). x ∷ l) (all_past last (suc x) xs r.1 (up last x (suc x) (omega arith) p)))

head-past : (last : Option ℕ) (x : ℕ) (xs rest : List ℕ) → after last xs ≡ x ∷ rest → is_past last x ≡ true
head-past last x [] rest e = let z : ◌≡◌ {A = ℕ} 0 1 = cc in absurd (omega arith)
head-past last x (y ∷ ys) rest e = go (is_past last y) refl e (head-past last x ys rest)
  where
    go : (b : Bool) → is_past last y ≡ b → pick b (y ∷ after last ys) (after last ys) ≡ x ∷ rest → (after last ys ≡ x ∷ rest → is_past last x ≡ true)
        → is_past last x ≡ true
    go true p e ih = let q : y ≡ x = cc in ap (is_past last) (sym q) ∙ p
    go false p e ih = ih e

after_next : (last : Option ℕ) (lo x : ℕ) (xs rest : List ℕ) → Rising itself lo xs → after last xs ≡ x ∷ rest → after (Some x) xs ≡ rest
after_next last lo x [] rest r e = let z : ◌≡◌ {A = ℕ} 0 1 = cc in absurd (omega arith)
after_next last lo x (y ∷ ys) rest r e = go (is_past last y) refl e (after_next last (suc y) x ys rest r.1)
  where
    go : (b : Bool) → is_past last y ≡ b → pick b (y ∷ after last ys) (after last ys) ≡ x ∷ rest → (after last ys ≡ x ∷ rest → after (Some x) ys ≡ rest)
        → after (Some x) (y ∷ ys) ≡ rest
    go true p e ih =
        let q : y ≡ x = cc in
        let t : after last ys ≡ rest = cc in
        rw (le-ltb x y (omega arith))
        (all_past (Some x) (suc y) ys r.1 (lt-ltb x (suc y) (omega arith)) ∙ sym (all_past last (suc y) ys r.1 (up last y (suc y) (omega arith) p)) ∙ t)
    go false p e ih =
        let l : y ≤ x = below last x y p (head-past last x ys rest e) in
        rw (le-ltb x y l) (ih e)

head-none : (xs : List ℕ) → None ≡ head_of xs → length xs ≡ 0
head-none [] e = refl
head-none (x ∷ xs) e = let z : ◌≡◌ {A = ℕ} 0 1 = cc in absurd (omega arith)

head-some : (xs : List ℕ) (x : ℕ) → Some x ≡ head_of xs → xs ≡ x ∷ tail_of xs
head-some [] x e = let z : ◌≡◌ {A = ℕ} 0 1 = cc in absurd (omega arith)
head-some (y ∷ ys) x e = let q : y ≡ x = cc in ap (λ (z : ℕ). z ∷ ys) q

module _ (book : Book) (es ns : List ℕ) (us : List Unicast) (last : Option ℕ) where
  -- the next member comes first of those that are left
  pub next-left : (x : ℕ) → Some x ≡ next_member book es ns last us → after last (members_of book es ns us) ≡ x ∷ after (Some x) (members_of book es ns us)
  next-left x e =
      let all : List ℕ = members_of book es ns us in
      let h = head-some (after last all) x (e ∙ next-head book es ns last us) in
      h ∙ ap (λ (l : List ℕ). x ∷ l) (sym (after_next last 0 x all (tail_of (after last all)) (members-rising book es ns us) h))

  pub next-none : None ≡ next_member book es ns last us → length (after last (members_of book es ns us)) ≡ 0
  next-none e = head-none (after last (members_of book es ns us)) (e ∙ next-head book es ns last us)

module _ {book : Book} {es ns : List ℕ} {us : List Unicast} {out : List ℕ} where
  pub matches : {out' : List ℕ} {r : ℕ} → map_fits es ns ≡ true → Filled 0 (members_of book es ns us) out out' r → Matching book es ns us out out' (Some r)
  matches e f = record { answer = rw e (ap Some (f.next ∙ zero-add (length (members_of book es ns us)))); words = rw e f.words }

  pub barred : map_fits es ns ≡ false → Matching book es ns us out out None
  barred e = record { answer = rw e; words = rw e }
