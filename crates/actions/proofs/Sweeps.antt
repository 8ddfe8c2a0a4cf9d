-- How code gives every record its turn: place by place, a record that stays is stored or left, a settled one is taken out and told. And how it gives the first
-- with a test its turn, and that a sweep in which every record rests does nothing. Over any kind of table whose records have an entry. Assumes nothing.
use Rattle.std.specs.Prelude.{Option, None, Some}
use Prim.Native.Nat.{ℕ, ◌+◌, ◌-◌, ◌*◌, ◌≤◌, ◌<◌}
use native.Mathlib.Omega.{arith}
use mathlib.Core.Path.{◌≡◌, refl, sym, ap, ◌∙◌}
use mathlib.Core.Bool.{Bool, true, false}
use mathlib.Core.List.{List, [], ◌∷◌, ◌++◌, append_assoc}
use lib.ListN.{length, get_or, set}
use lib.Seq.{set-get_or}
use Rattle.records.specs.declared.Verdict.{Verdict}
use Rattle.records.specs.declared.Entry.{Entry}
use Rattle.records.specs.declared.Action.{Action}
use Rattle.records.specs.Pick.{pick}
use Rattle.records.proofs.Cases.{never}
use Rattle.rows.specs.Lists.{remove_at}
use Rattle.rows.specs.Tables.{Table, rows_of, live, words_for, Held, Holds}
use Rattle.rows.specs.Moves.{kept, told, each, at_first, first_at, any_of, placed, each_told, at_first_told}
use Rattle.rows.specs.declared.Turn.{Turn}
use Rattle.rows.specs.declared.Turn.TheVariants.{Keeps, Settles}
use Rattle.rows.proofs.Promises.{held-length, held_at, each_from, told_from, each-stays, each_goes, each-end, told-turn, told-stored, told-removed, told-end, first_found, first-missed, told-found, told-missed}
use Rattle.actions.specs.Told.{Told}
use Rattle.actions.specs.Calls.{Swept, Turned, Played}
use Rattle.actions.proofs.Lines.{told_none, told-append}

append-nil : {A : Type 0} (xs : List A) → xs ++ [] ≡ xs
append-nil [] = refl
append-nil (x ∷ xs) = ap (λ (l : List _). x ∷ l) (append-nil xs)

module _ {A : Type 0} (t : Table A) (entry : A → Entry) (f : A → Turn A) (ws₀ : List ℕ) (n₀ : ℕ) (buf₀ : List ℕ) (m₀ : ℕ) where
  -- the sweep has come to place i: what is still to do gives the whole; and there is place to tell two actions of each record that is left
  pub record Sweeping (ws : List ℕ) (n : ℕ) (buf : List ℕ) (m : ℕ) (i : ℕ) : Type 0 where
    pub held : Held t ws n
    pub low : i ≤ n
    pub rows : each_from f i (live t ws n) ≡ each f (live t ws₀ n₀)
    pub done : List Action
    pub tells : Told m₀ done buf₀ buf m
    pub rest : done ++ told_from entry f i (live t ws n) ≡ each_told entry f (live t ws₀ n₀)
    pub space : m + (n - i) * 2 ≤ 112

module _ {A : Type 0} {t : Table A} {entry : A → Entry} {f : A → Turn A} {ws₀ : List ℕ} {n₀ : ℕ} {buf₀ : List ℕ} {m₀ : ℕ} where
  pub sweep-start : Held t ws₀ n₀ → m₀ + n₀ * 2 ≤ 112 → Sweeping t entry f ws₀ n₀ buf₀ m₀ ws₀ n₀ buf₀ m₀ 0
  sweep-start h s =
      let e : n₀ - 0 ≡ n₀ = omega arith in
      record { held = h; low = omega arith; rows = refl; done = []; tells = told_none m₀ buf₀; rest = refl; space = rw e s }

  module _ {ws : List ℕ} {n : ℕ} {buf : List ℕ} {m : ℕ} {i : ℕ} (s : Sweeping t entry f ws₀ n₀ buf₀ m₀ ws n buf m i) where
    row : A
    row = get_or (rows_of t ws) i t.blank

    there : i < n → i < length (live t ws n)
    there l = omega (arith, held-length s.held)

    at : i < n → get_or (live t ws n) i t.blank ≡ get_or (rows_of t ws) i t.blank
    at l = held_at s.held i t.blank l

    -- the record stays, changed to y
    pub sweep-stays : {ws' : List ℕ} (y : A) → i < n → f (get_or (rows_of t ws) i t.blank) ≡ Keeps y → Holds t ws' n (set (live t ws n) i y)
        → Sweeping t entry f ws₀ n₀ buf₀ m₀ ws' n buf m (i + 1)
    sweep-stays {ws'} y l e h =
        let xs : List A = live t ws n in
        let g : f (get_or xs i t.blank) ≡ Keeps y = ap f (at l) ∙ e in
        let quiet : told (entry (get_or xs i t.blank)) (f (get_or xs i t.blank)) ≡ [] = ap (told (entry (get_or xs i t.blank))) g in
        let r : told_from entry f i xs ≡ told_from entry f (i + 1) xs =
        told-turn entry f i xs t.blank (there l) ∙ ap (λ (a : List Action). a ++ told_from entry f (i + 1) xs) quiet in
        record {
          held = h.held;
          low = omega arith;
          rows = ap (each_from f (i + 1)) h.live-is ∙ each-stays f y i xs t.blank (there l) (ap kept g) ∙ s.rows;
          done = s.done;
          tells = s.tells;
          rest = ap (λ (ys : List A). s.done ++ told_from entry f (i + 1) ys) h.live-is
              ∙ ap (λ (a : List Action). s.done ++ a) (told-stored entry f i xs y ∙ sym r) ∙ s.rest;
          space = omega (arith, s.space);
        }

    -- the record stays as it is
    pub sweep-quiet : i < n → f (get_or (rows_of t ws) i t.blank) ≡ Keeps (get_or (rows_of t ws) i t.blank) → Sweeping t entry f ws₀ n₀ buf₀ m₀ ws n buf m (i + 1)
    sweep-quiet l e =
        let same : set (live t ws n) i (get_or (rows_of t ws) i t.blank) ≡ live t ws n =
        ap (set (live t ws n) i) (sym (at l)) ∙ set-get_or (live t ws n) i t.blank in
        sweep-stays (get_or (rows_of t ws) i t.blank) l e (record { is = s.held.words ∙ ap (words_for t) (sym same); live-is = sym same; held = s.held })

    -- the record is settled
    pub sweep-goes : {ws' : List ℕ} {buf' : List ℕ} {m' : ℕ} (again : Bool) (v : Verdict) (hop : Option ℕ) → i < n
        → f (get_or (rows_of t ws) i t.blank) ≡ Settles again v hop → Holds t ws' (n - 1) (remove_at i (live t ws n))
        → Told m (told {A = A} (entry (get_or (rows_of t ws) i t.blank)) (Settles again v hop)) buf buf' m'
        → Sweeping t entry f ws₀ n₀ buf₀ m₀ ws' (n - 1) buf' m' i
    sweep-goes {ws'} {buf'} {m'} again v hop l e h d =
        let xs : List A = live t ws n in
        let g : f (get_or xs i t.blank) ≡ Settles again v hop = ap f (at l) ∙ e in
        let acts : List Action = told {A = A} (entry (get_or (rows_of t ws) i t.blank)) (Settles again v hop) in
        let says : told (entry (get_or xs i t.blank)) (f (get_or xs i t.blank)) ≡ acts =
        ap (λ (x : A). told (entry x) (f (get_or xs i t.blank))) (at l) ∙ ap (told (entry (get_or (rows_of t ws) i t.blank))) g in
        let few : length acts ≤ 2 = short again in
        record {
          held = h.held;
          low = omega arith;
          rows = ap (each_from f i) h.live-is ∙ each_goes f i xs t.blank (there l) (ap kept g) ∙ s.rows;
          done = s.done ++ acts;
          tells = told-append s.tells d;
          rest = ap (λ (ys : List A). (s.done ++ acts) ++ told_from entry f i ys) h.live-is
              ∙ ap (λ (a : List Action). (s.done ++ acts) ++ a) (told-removed entry f i xs)
              ∙ append_assoc s.done acts (told_from entry f (i + 1) xs)
              ∙ ap (λ (a : List Action). s.done ++ (a ++ told_from entry f (i + 1) xs)) (sym says)
              ∙ ap (λ (a : List Action). s.done ++ a) (sym (told-turn entry f i xs t.blank (there l))) ∙ s.rest;
          space = omega (arith, s.space, d.next);
        }
      where
        short : (b : Bool) → length (told {A = A} (entry (get_or (rows_of t ws) i t.blank)) (Settles b v hop)) ≤ 2
        short true = omega arith
        short false = omega arith

    -- every record has had its turn
    pub sweep-end : n ≤ i → Swept t entry f ws₀ n₀ buf₀ m₀ ws n buf m
    sweep-end l =
        let b : length (live t ws n) ≤ i = omega (arith, held-length s.held) in
        let r : live t ws n ≡ each f (live t ws₀ n₀) = sym (each-end f i (live t ws n) b) ∙ s.rows in
        let d : s.done ≡ each_told entry f (live t ws₀ n₀) =
        sym (append-nil s.done) ∙ ap (λ (a : List Action). s.done ++ a) (sym (told-end entry f i (live t ws n) b)) ∙ s.rest in
        record { table = record { is = s.held.words ∙ ap (words_for t) r; live-is = r; held = s.held }; tells = rw (← d) s.tells }

-- ---- no record is stirred

neither : (b r : Bool) → pick b true r ≡ false → (b ≡ false) × (r ≡ false)
neither true r e = never (sym e)
neither false r e = (refl, e)

module _ {A : Type 0} (f : A → Turn A) (q : A → Bool) (rests : (x : A) → q x ≡ false → f x ≡ Keeps x) where
  each_none : (xs : List A) → any_of q xs ≡ false → each f xs ≡ xs
  each_none [] e = refl
  each_none (x ∷ xs) e =
      let d = neither (q x) (any_of q xs) e in
      ap (λ (y : Turn A). kept y ++ each f xs) (rests x d.0) ∙ ap (λ (l : List A). x ∷ l) (each_none xs d.1)

  quiet_none : (entry : A → Entry) (xs : List A) → any_of q xs ≡ false → each_told entry f xs ≡ []
  quiet_none entry [] e = refl
  quiet_none entry (x ∷ xs) e =
      let d = neither (q x) (any_of q xs) e in
      ap (λ (y : Turn A). told (entry x) y ++ each_told entry f xs) (rests x d.0) ∙ quiet_none entry xs d.1

-- no record passes the test, and what does not pass it stays as it is: a sweep changes no word and tells nothing
pub swept_none : {A : Type 0} {t : Table A} {entry : A → Entry} {f : A → Turn A} (q : A → Bool) → ((x : A) → q x ≡ false → f x ≡ Keeps x) → {ws : List ℕ} {n : ℕ}
    {buf : List ℕ} {m : ℕ} → Held t ws n → any_of q (live t ws n) ≡ false → Swept t entry f ws n buf m ws n buf m
swept_none {A} {t} {entry} {f} q rests {ws} {n} {buf} {m} h e =
    let r : each f (live t ws n) ≡ live t ws n = each_none f q rests (live t ws n) e in
    record {
      table = record { is = h.words ∙ ap (words_for t) (sym r); live-is = sym r; held = h };
      tells = rw (quiet_none f q rests entry (live t ws n) e) (told_none m buf);
    }

-- ---- the first with a test

module _ {A : Type 0} {t : Table A} {entry : A → Entry} {ws : List ℕ} {n : ℕ} (h : Held t ws n) (q : A → Bool) (f : A → Turn A) where
  -- it was found at place i, and had its turn there
  pub turn-found : {buf ws' buf' : List ℕ} {m n' m' : ℕ} (i : ℕ) → first_at q (live t ws n) ≡ Some i
      → Played t entry (f (get_or (rows_of t ws) i t.blank)) i (get_or (rows_of t ws) i t.blank) ws n buf m ws' n' buf' m'
      → Turned t entry q f ws n buf m ws' n' buf' m'
  turn-found i e p =
      let g = first_found q f t.blank (live t ws n) i e in
      let l : i < n = omega (arith, g.there, held-length h) in
      let at : get_or (live t ws n) i t.blank ≡ get_or (rows_of t ws) i t.blank = held_at h i t.blank l in
      let mv : at_first q f (live t ws n) ≡ placed (f (get_or (rows_of t ws) i t.blank)) i (live t ws n) =
      g.move ∙ ap (λ (x : A). placed (f x) i (live t ws n)) at in
      let sd : at_first_told entry q f (live t ws n) ≡ told (entry (get_or (rows_of t ws) i t.blank)) (f (get_or (rows_of t ws) i t.blank)) =
      told-found entry q f (live t ws n) (get_or (live t ws n) i t.blank) g.is ∙ ap (λ (x : A). told (entry x) (f x)) at in
      record { table = rw mv p.table; tells = rw sd p.tells }

  -- there is none
  pub turn-missed : {buf : List ℕ} {m : ℕ} → first_at q (live t ws n) ≡ None → Turned t entry q f ws n buf m ws n buf m
  turn-missed {buf} {m} e =
      let g = first-missed q f (live t ws n) e in
      let sd : at_first_told entry q f (live t ws n) ≡ [] = told-missed entry q f (live t ws n) g.is in
      record { table = record { is = h.words ∙ ap (words_for t) (sym g.move); live-is = sym g.move; held = h }; tells = rw sd (told_none m buf) }
