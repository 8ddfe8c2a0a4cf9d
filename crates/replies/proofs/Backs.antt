-- What was told reads back: the buffer has each action at its place, and its first places are the list that was told. Assumes nothing.
use Prim.Native.Nat.{ℕ, zero, suc, ◌+◌, ◌*◌, ◌≤◌, ◌<◌}
use native.Mathlib.Nat.{add-zero, zero-add, add-mul}
use native.Mathlib.Omega.{arith}
use mathlib.Core.Path.{◌≡◌, refl, sym, ap, ap₂, ◌∙◌}
use mathlib.Core.List.{List, [], ◌∷◌, ◌++◌, append_assoc}
use lib.ListN.{length, take, drop, get_or}
use lib.Seq.{sets-eq, get_or-drop, drop-cons, drop-append-add, drop-append-le, length-take-le}
use Rattle.rows.specs.Lists.{All}
use Rattle.rows.specs.Rows.{flat}
use Rattle.rows.proofs.Flat.{length-flat, flat-drop}
use Rattle.actions.specs.Told.{action_words, action_from, action_of, action_at, Exact, tell, Told}
use Rattle.replies.specs.Types.{Action, HandedOff, Settled}
use Rattle.replies.specs.Replies.{acts_from, acts_of, Reads}

words_long : (a : Action) → length (action_words a) ≡ 5
words_long (HandedOff i w) = refl
words_long (Settled e v h) = refl

-- an action is read from its own words, whatever stands behind them
words-front : (a : Action) (xs ys : List ℕ) → action_of ((action_words a ++ xs) ++ ys) ≡ action_of (action_words a)
words-front (HandedOff i w) xs ys = refl
words-front (Settled e v h) xs ys = refl

-- a place is read from the words that begin there
at_drop : (i : ℕ) (ws : List ℕ) → action_at i ws ≡ action_of (drop (i * 5) ws)
at_drop i ws =
    let z : get_or ws (i * 5) 0 ≡ get_or (drop (i * 5) ws) 0 0 = ap (λ (k : ℕ). get_or ws k 0) (sym (add-zero (i * 5))) ∙ sym (get_or-drop (i * 5) ws 0 0) in
    let w : (j : ℕ) → get_or ws (i * 5 + j) 0 ≡ get_or (drop (i * 5) ws) j 0 = λ j. sym (get_or-drop (i * 5) ws j 0) in
    λ k. action_from (z k) (w 1 k) (w 2 k) (w 3 k) (w 4 k)

all-at : {A : Type 0} (P : A → Type 0) (xs : List A) (i : ℕ) (d : A) → All P xs → i < length xs → P (get_or xs i d)
all-at P [] i d a h = absurd (omega arith)
all-at P (x ∷ xs) zero d a h = a.0
all-at P (x ∷ xs) (suc i) d a h = all-at P xs i d a.1 (omega arith)

-- the words from the place of action i on
tell-drop : (m : ℕ) (acts : List Action) (ws : List ℕ) (i : ℕ) → (m + length acts) * 5 ≤ length ws → i ≤ length acts
    → drop ((m + i) * 5) (tell m acts ws) ≡ flat action_words (drop i acts) ++ drop (m * 5 + length (flat action_words acts)) ws
tell-drop m acts ws i h l =
    let fs : List ℕ = flat action_words acts in
    let p : List ℕ = take (m * 5) ws in
    let rest : List ℕ = drop (m * 5 + length fs) ws in
    let n : length fs ≡ length acts * 5 = length-flat 5 action_words words_long acts in
    let b : m * 5 + length fs ≤ length ws = omega arith in
    let lp : length p ≡ m * 5 = length-take-le (m * 5) ws (omega arith) in
    let o : (m + i) * 5 ≡ length p + i * 5 = add-mul m i 5 ∙ ap (λ (k : ℕ). k + i * 5) (sym lp) in
    let c : i * 5 ≤ length fs = omega arith in
    ap₂ (λ (k : ℕ) (l : List ℕ). drop k l) o (sets-eq fs ws (m * 5) b ∙ append_assoc p fs rest)
    ∙ drop-append-add p (fs ++ rest) (i * 5)
    ∙ drop-append-le (i * 5) fs rest c
    ∙ ap (λ (l : List ℕ). l ++ rest) (flat-drop 5 action_words words_long i acts)

-- each action reads back at its place
pub reads-back : {m r : ℕ} {acts : List Action} {ws ws' : List ℕ} (i : ℕ) (d : Action)
    → Told m acts ws ws' r → length ws ≡ 560 → m + length acts ≤ 112 → i < length acts → action_at (m + i) ws' ≡ get_or acts i d
reads-back {m} {r} {acts} {ws} {ws'} i d t n h l =
    let a : Action = get_or acts i d in
    let b : (m + length acts) * 5 ≤ length ws = omega arith in
    at_drop (m + i) ws'
    ∙ ap (λ (l : List ℕ). action_of (drop ((m + i) * 5) l)) t.words
    ∙ ap action_of (tell-drop m acts ws i b (omega arith))
    ∙ ap (λ (l : List Action). action_of (flat action_words l ++ drop (m * 5 + length (flat action_words acts)) ws)) (drop-cons acts i d l)
    ∙ words-front a (flat action_words (drop (suc i) acts)) (drop (m * 5 + length (flat action_words acts)) ws)
    ∙ all-at Exact acts i d t.exact l

-- what a call told from the first place on is told there
pub told-reads : {r : ℕ} {acts : List Action} {ws ws' : List ℕ} → Told 0 acts ws ws' r → length ws ≡ 560 → length acts ≤ 112 → Reads acts ws' r
told-reads {r} {acts} {ws} {ws'} t n h =
    let e : r ≡ length acts = t.next ∙ omega arith in
    record {
      count = e;
      few = omega arith;
      reads = λ i l.
          ap (λ (k : ℕ). action_at k ws') (sym (zero-add i)) ∙ reads-back i (HandedOff 0 0) t n (omega arith) (omega arith);
    }

-- a buffer that tells a list at its places tells that list
acts-same : (acts : List Action) (told : List ℕ) (i : ℕ) → ((j : ℕ) → j < length acts → action_at (i + j) told ≡ get_or acts j (HandedOff 0 0))
    → acts_from told i (length acts) ≡ acts
acts-same [] told i h = refl
acts-same (a ∷ acts) told i h =
    ap₂ (λ (x : Action) (l : List Action). x ∷ l) (ap (λ (k : ℕ). action_at k told) (sym (add-zero i)) ∙ h 0 (omega arith))
    (acts-same acts told (suc i) (λ j l.
    let e : suc i + j ≡ i + suc j = omega arith in
    ap (λ (k : ℕ). action_at k told) e ∙ h (suc j) (omega arith)))

pub reads-acts : {n : ℕ} {acts : List Action} {told : List ℕ} → Reads acts told n → acts_of told n ≡ acts
reads-acts {n} {acts} {told} r =
    let e = r.count in
    ap (acts_of told) e
    ∙ acts-same acts told 0 (λ j l. ap (λ (k : ℕ). action_at k told) (zero-add j) ∙ r.reads j (omega arith))

-- what a call told is what the buffer tells
pub told-acts : {r : ℕ} {acts : List Action} {ws ws' : List ℕ} → Told 0 acts ws ws' r → length ws ≡ 560 → length acts ≤ 112 → acts_of ws' r ≡ acts
told-acts t n h = reads-acts (told-reads t n h)
