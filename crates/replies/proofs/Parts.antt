-- The parts of a reply in turn: the loops over what the buffer tells, by what is left, and the answer, the actions and 129 as one. Assumes nothing.
use Prim.Native.Nat.{ℕ, zero, suc, ◌+◌, ◌-◌, ◌*◌, ◌≤◌, ◌<◌}
use native.Mathlib.Nat.{add-zero, add_assoc}
use native.Mathlib.Omega.{arith}
use mathlib.Core.Path.{◌≡◌, refl, sym, ap, ap₂, ◌∙◌}
use mathlib.Core.Bool.{Bool, true, false}
use mathlib.Core.List.{List, [], ◌∷◌, ◌++◌, map}
use lib.ListN.{length, length-append}
use lib.Seq.{sets, length-sets}
use Rattle.records.specs.Pick.{pick}
use Rattle.rows.proofs.Sets.{sets-append}
use Rattle.actions.specs.Told.{action_at}
use Rattle.answers.specs.Bytes.{Written}
use Rattle.answers.specs.Items.{item_bytes, items_bytes, action_item, action_bytes, actions_bytes}
use Rattle.answers.proofs.Writings.{written_as}
use Rattle.answers.proofs.Sizes.{flight-long, action-short}
use Rattle.answers.proofs.Lists.{items-append, items-one, actions-items}
use Rattle.replies.specs.Types.{Action, Answer, Denied, Accepted, Issued, Replied, NothingQueued, InFlight, Transmit, Done, Flight}
use Rattle.replies.specs.Replies.{acts_from, acts_of, denies, answer_items, reply_bytes}

-- ---- what is left of the actions

abbrev pub left_bytes : List ℕ → ℕ → ℕ → List ℕ
left_bytes told n i = actions_bytes (acts_from told i (n - i))

pub left-start : (told : List ℕ) (n : ℕ) → left_bytes told n 0 ≡ actions_bytes (acts_of told n)
left-start told n =
    let e : n - 0 ≡ n = omega arith in
    ap (λ (k : ℕ). actions_bytes (acts_from told 0 k)) e

pub left-turn : (told : List ℕ) (n i : ℕ) → i < n → left_bytes told n i ≡ action_bytes (action_at i told) ++ left_bytes told n (i + 1)
left-turn told n i h =
    let e : n - i ≡ suc (n - (i + 1)) = omega arith in
    let f : suc i ≡ i + 1 = omega arith in
    ap (λ (k : ℕ). actions_bytes (acts_from told i k)) e
    ∙ ap (λ (k : ℕ). action_bytes (action_at i told) ++ actions_bytes (acts_from told k (n - (i + 1)))) f

pub left_end : (told : List ℕ) (n i : ℕ) → n ≤ i → left_bytes told n i ≡ []
left_end told n i h =
    let e : n - i ≡ 0 = omega arith in
    ap (λ (k : ℕ). actions_bytes (acts_from told i k)) e

pub left-length : (told : List ℕ) (n i : ℕ) → i < n
    → length (left_bytes told n i) ≡ length (action_bytes (action_at i told)) + length (left_bytes told n (i + 1))
left-length told n i h = ap length (left-turn told n i h) ∙ length-append (action_bytes (action_at i told)) (left_bytes told n (i + 1))

-- writing what is left of all, from here, gives the whole
pub record Putting (told : List ℕ) (n at₀ : ℕ) (out₀ out : List ℕ) (at i : ℕ) : Type 0 where
  pub low : i ≤ n
  pub long : length out ≡ length out₀
  pub place : at + length (left_bytes told n i) ≡ at₀ + length (actions_bytes (acts_of told n))
  pub goes : sets out at (left_bytes told n i) ≡ sets out₀ at₀ (actions_bytes (acts_of told n))

pub put-start : (told : List ℕ) (n at : ℕ) (out : List ℕ) → Putting told n at out out at 0
put-start told n at out =
    record {
      low = omega arith;
      long = refl;
      place = ap (λ (l : List ℕ). at + length l) (left-start told n);
      goes = ap (sets out at) (left-start told n);
    }

module _ {told : List ℕ} {n at₀ : ℕ} {out₀ out : List ℕ} {at i : ℕ} (p : Putting told n at₀ out₀ out at i) where
  pub put-turn : {a : Action} {out' : List ℕ} {r : ℕ} → i < n → a ≡ action_at i told → Written at (action_bytes a) out out' r
      → Putting told n at₀ out₀ out' r (i + 1)
  put-turn {a} {out'} {r} h e w =
      let bs : List ℕ = action_bytes (action_at i told) in
      let v : Written at bs out out' r = written_as (ap action_bytes e) w in
      let rest : List ℕ = left_bytes told n (i + 1) in
      record {
        low = omega arith;
        long = ap length v.holds ∙ length-sets out at bs ∙ p.long;
        place = ap (λ (k : ℕ). k + length rest) v.next ∙ add_assoc at (length bs) (length rest)
            ∙ ap (λ (k : ℕ). at + k) (sym (left-length told n i h)) ∙ p.place;
        goes = ap₂ (λ (l : List ℕ) (k : ℕ). sets l k rest) v.holds v.next ∙ sym (sets-append out at bs rest)
            ∙ ap (sets out at) (sym (left-turn told n i h)) ∙ p.goes;
      }

  pub put-end : n ≤ i → Written at₀ (actions_bytes (acts_of told n)) out₀ out at
  put-end h =
      let e = left_end told n i h in
      record {
        holds = ap (sets out at) (sym e) ∙ p.goes;
        next = sym (add-zero at) ∙ ap (λ (l : List ℕ). at + length l) (sym e) ∙ p.place;
      }

  -- the next action fits
  pub put-room : {a : Action} → i < n → a ≡ action_at i told → at₀ + length (actions_bytes (acts_of told n)) ≤ length out₀
      → at + length (action_bytes a) ≤ length out
  put-room {a} h e b =
      let f : length (action_bytes a) ≡ length (action_bytes (action_at i told)) = ap (λ (x : Action). length (action_bytes x)) e in
      let g = left-length told n i h in
      let l = p.long in
      let q = p.place in
      omega arith

-- ---- the whole reply

pub flight-one : (id frame : ℕ) (t : Transmit) → length (items_bytes (answer_items (InFlight id frame t))) ≡ 13
flight-one id frame t = ap length (items-one (Flight id frame t)) ∙ flight-long id frame t

-- 13 for a flight, less for others
pub answer-short : (a : Answer) → length (items_bytes (answer_items a)) ≤ 13
answer-short (Denied x) = omega arith
answer-short Accepted = omega arith
answer-short (Issued i) = omega arith
answer-short (Replied b) = omega arith
answer-short NothingQueued = omega arith
answer-short (InFlight i f t) = omega (arith, flight-one i f t)

-- 28 for an action at most
pub actions-short : (told : List ℕ) (i n : ℕ) → length (actions_bytes (acts_from told i n)) ≤ n * 28
actions-short told i zero = omega arith
actions-short told i (suc n) =
    let h = actions-short told (suc i) n in
    let s = action-short (action_at i told) in
    let e = length-append (action_bytes (action_at i told)) (actions_bytes (acts_from told (suc i) n)) in
    omega arith

pub reply-alone : (a : Answer) (acts : List Action) → denies a ≡ true → reply_bytes a acts ≡ items_bytes (answer_items a)
reply-alone a acts e = ap (λ (b : Bool). items_bytes (pick b (answer_items a) (answer_items a ++ (map action_item acts ++ (Done ∷ []))))) e

pub reply-whole : (a : Answer) (acts : List Action) → denies a ≡ false
    → reply_bytes a acts ≡ items_bytes (answer_items a) ++ (actions_bytes acts ++ item_bytes Done)
reply-whole a acts e =
    ap (λ (b : Bool). items_bytes (pick b (answer_items a) (answer_items a ++ (map action_item acts ++ (Done ∷ []))))) e
    ∙ items-append (answer_items a) (map action_item acts ++ (Done ∷ []))
    ∙ ap (λ (l : List ℕ). items_bytes (answer_items a) ++ l)
    (items-append (map action_item acts) (Done ∷ []) ∙ ap (λ (l : List ℕ). l ++ item_bytes Done) (sym (actions-items acts)))

pub reply-long : (a : Answer) (acts : List Action) → denies a ≡ false
    → length (reply_bytes a acts) ≡ length (items_bytes (answer_items a)) + length (actions_bytes acts) + 1
reply-long a acts e =
    let x : List ℕ = items_bytes (answer_items a) in
    let y : List ℕ = actions_bytes acts in
    let p = ap length (reply-whole a acts e) in
    let q = length-append x (y ++ item_bytes Done) in
    let r = length-append y (item_bytes Done) in
    p ∙ q ∙ ap (λ (k : ℕ). length x + k) r ∙ omega arith

-- the answer first: it fits where the reply does
pub first_fits : (a : Answer) (acts : List Action) → length (items_bytes (answer_items a)) ≤ length (reply_bytes a acts)
first_fits a acts = by-test (denies a) refl
  where
    by-test : (b : Bool) → denies a ≡ b → length (items_bytes (answer_items a)) ≤ length (reply_bytes a acts)
    by-test true e =
        let f = ap length (reply-alone a acts e) in
        omega arith
    by-test false e =
        let f = reply-long a acts e in
        omega arith
