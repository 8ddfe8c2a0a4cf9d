-- The claims of specs/Claims.antt: inductions over the turns of a run. Assumes nothing.
use Prim.Native.Nat.{ℕ, zero, suc, ◌+◌, ◌-◌, ◌≤◌, ◌<◌}
use native.Mathlib.Omega.{arith}
use native.Mathlib.Nat.{add-zero, zero-add}
use mathlib.Core.Path.{◌≡◌, refl, sym, ap, ap₂, subst, ◌∙◌}
use mathlib.Core.Bool.{Bool, true, false}
use mathlib.Core.List.{List, [], ◌∷◌, ◌++◌, append_assoc}
use mathlib.Core.Logic.{⊎_elim}
use lib.ListN.{length, take, drop, get_or, length-append, length-drop, take-append-drop, drop_of_length-le, get_or-append}
use lib.Seq.{drop-cons, drop-drop, take-append-add, take-append-le, drop-append-le, drop-append_seam}
use lib.Dec.{ltb, leb, eqb}
use borrow.Author.Tests.{leb-true, lt-leb, lt-ltb, le-ltb, ltb-false, ne_eqb}
use Rattle.records.specs.Pick.{pick}
use Rattle.records.proofs.Cases.{lt-or-le}
use Rattle.framing.specs.Kinds.{body_of}
use Rattle.framing.specs.Reader.{stands_at}
use Rattle.framing.specs.declared.Standing.{Standing}
use Rattle.framing.specs.declared.Standing.TheVariants.{Record, Unknown, Cut, End}
use Rattle.framing.proofs.Reading.{Stood, stood, body-long}
use Rattle.answers.specs.Items.{end_bytes}
use Rattle.exchange.specs.World.{World, fresh_world}
use Rattle.exchange.specs.Answering.{overfull}
use Rattle.runs.specs.Run.{body_in, turn_of, run_from, run_bytes}
use Rattle.runs.specs.Claims.{Read, answers_to, world_by, bytes_of, size_of, answers_over, world_over, Went, stops, reading, read_by, went_by, went_from, went_over, reads_of, status_of, RunIs, NothingUnderSix, ReadsAreTheTrace, ReadToTheEnd, AnswersOfBoth, Begins, PrefixReads, PrefixAnswers, OneOutcome, PastStays, AlwaysEnds, AtLeastTheEnd, AtMostTheOutput}

-- ---- what a run does at one place, and so over the whole

-- the trace from a standing record on
on-from : (s : List ℕ) (at kind start next : ℕ) → Stood s at kind start next → drop at s ≡ kind ∷ body_in s start next ++ drop next s
on-from s at kind start next p =
    let i = p.inside in
    let u = p.start_is in
    let v = p.next-is in
    let a : at < length s = omega arith in
    let b : suc at ≡ start = omega arith in
    let c : start + (next - start) ≡ next = omega arith in
    drop-cons s at 0 a
    ∙ ap₂ (λ (k m : ℕ). k ∷ drop m s) (sym p.kind-is) b
    ∙ ap (λ (x : List ℕ). kind ∷ x) (sym (take-append-drop (next - start) (drop start s)) ∙ ap (λ (x : List ℕ). body_in s start next ++ x) (drop-drop (next - start) start s ∙ ap (λ (m : ℕ). drop m s) c))

-- nothing stands past the end only
end-means : (s : List ℕ) (at : ℕ) → stands_at s at ≡ End → length s ≤ at
end-means s at e =
    go (leb (length s) at) (eqb (get_or s at 0) 0) (ltb 22 (get_or s at 0)) (ltb (length s) (at + 1 + body_of (get_or s at 0))) refl e
  where
    go : (t₁ t₂ t₃ t₄ : Bool) → leb (length s) at ≡ t₁
        → pick t₁ End (pick t₂ Unknown (pick t₃ Unknown (pick t₄ Cut (Record (get_or s at 0) (at + 1) (at + 1 + body_of (get_or s at 0)))))) ≡ End → length s ≤ at
    go true t₂ t₃ t₄ l e = leb-true (length s) at l
    go false true t₃ t₄ l e = let z : ◌≡◌ {A = ℕ} 0 1 = cc in absurd (omega arith)
    go false false true t₄ l e = let z : ◌≡◌ {A = ℕ} 0 1 = cc in absurd (omega arith)
    go false false false true l e = let z : ◌≡◌ {A = ℕ} 0 1 = cc in absurd (omega arith)
    go false false false false l e = let z : ◌≡◌ {A = ℕ} 0 1 = cc in absurd (omega arith)

module _ (s : List ℕ) (room : ℕ) where
  -- a trace that is not too long is read and run from its start, one that is gets 16 alone
  is_read : length s ≤ 65536 → went_over s room ≡ went_from (suc (length s)) s room 0 0 fresh_world
  unfolding went_over
  is_read k = rw (le-ltb 65536 (length s) k)

  starts : length s ≤ 65536 → 6 ≤ room → run_bytes s room ≡ run_from (suc (length s)) s room 0 0 fresh_world
  unfolding run_bytes
  starts k h = rw (le-ltb room 6 h, le-ltb 65536 (length s) k)

  not-read : 65536 < length s → went_over s room ≡ stops 16
  unfolding went_over
  not-read k = rw (lt-ltb 65536 (length s) k)

  too_long : 65536 < length s → 6 ≤ room → run_bytes s room ≡ end_bytes 16 0
  unfolding run_bytes
  too_long k h = rw (le-ltb room 6 h, lt-ltb 65536 (length s) k)

  -- what is so at each stop, and with each record that is answered: o bytes written, at consumed, the world, what is still to be written, what is read
  record Carries (P : ℕ → ℕ → World → List ℕ → Went → Type 0) : Type 0 where
    pub at-the-end : (o at : ℕ) (w : World) → length s ≤ at → P o at w (end_bytes 0 at) (stops 0)
    pub before-it : (status o at : ℕ) (w : World) → 0 < status → P o at w (end_bytes status at) (stops status)
    pub at-a-record : (o at next : ℕ) (w : World) (r : Read) (rest : List ℕ) (g : Went) → next ≡ at + (1 + length r.body) → drop at s ≡ r.kind ∷ r.body ++ drop next s
        → length (answers_to w r) + 6 ≤ room - o → P (o + length (answers_to w r)) next (world_by w r) rest g
        → P o at w (answers_to w r ++ rest) (reading r g)

  module _ (P : ℕ → ℕ → World → List ℕ → Went → Type 0) (q : Carries P) where
    -- P of the run in n turns
    abbrev Turns : ℕ → Type 0
    Turns n = (o at : ℕ) (w : World) → at ≤ length s → length s < at + n → P o at w (run_from n s room o at w) (went_from n s room o at w)

    module _ (n : ℕ) (again : Turns n) (o at : ℕ) (w : World) (l : length s < at + suc n) where
      answered : (r : Read) (next : ℕ) → next ≡ at + (1 + length r.body) → drop at s ≡ r.kind ∷ r.body ++ drop next s → next ≤ length s
          → (b : Bool) → overfull room o (answers_to w r) ≡ b
          → P o at w (pick b (end_bytes 15 at) (answers_to w r ++ run_from n s room (o + length (answers_to w r)) next (world_by w r)))
          (pick b (stops 15) (reading r (went_from n s room (o + length (answers_to w r)) next (world_by w r))))
      answered r next e f k true t = q.before-it 15 o at w (omega arith)
      answered r next e f k false t =
          q.at-a-record o at next w r _ _ e f (ltb-false (room - o) (length (answers_to w r) + 6) t)
          (again (o + length (answers_to w r)) next (world_by w r) k (omega arith))

      turn : (t : Standing) → stands_at s at ≡ t → P o at w (turn_of (run_from n s room) s room o at w t) (went_by (went_from n s room) s room o w t)
      turn End e = q.at-the-end o at w (end-means s at e)
      turn Unknown e = q.before-it 12 o at w (omega arith)
      turn Cut e = q.before-it 13 o at w (omega arith)
      turn (Record kind start next) e =
          let p = stood s at kind start next e in
          let long = body-long s at kind start next p in
          let v = p.next-is in
          let r : Read = record { kind = kind; body = body_in s start next } in
          answered r next (omega arith) (on-from s at kind start next p) p.inside (overfull room o (answers_to w r)) refl

    carried : (n : ℕ) → Turns n
    carried zero o at w i l = absurd (omega arith)
    carried (suc n) o at w i l = turn n (carried n) o at w l (stands_at s at) refl

    -- and of all the turns, where the trace is not too long
    over-all : length s ≤ 65536 → P 0 0 fresh_world (run_from (suc (length s)) s room 0 0 fresh_world) (went_over s room)
    over-all k =
        subst (P 0 0 fresh_world (run_from (suc (length s)) s room 0 0 fresh_world)) (sym (is_read k)) (carried (suc (length s)) 0 0 fresh_world (omega arith) (omega arith))

  -- so what is so of the whole either way
  either_way : (Q : Went → Type 0) → Q (stops 16) → (length s ≤ 65536 → Q (went_over s room)) → Q (went_over s room)
  either_way Q y n = ⊎_elim (λ (k : 65536 < length s). subst Q (sym (not-read k)) y) n (lt-or-le 65536 (length s))

-- ---- 1. the run is its records' answers and the end

abbrev WrittenAs : ℕ → ℕ → World → List ℕ → Went → Type 0
WrittenAs o at w bytes g = bytes ≡ answers_over w g.reads ++ end_bytes g.status (at + size_of g.reads)

written_as : (s : List ℕ) (room : ℕ) → Carries s room WrittenAs
written_as s room =
    record {
      at-the-end = λ o at w k. ap (end_bytes 0) (sym (add-zero at));
      before-it = λ status o at w k. ap (end_bytes status) (sym (add-zero at));
      at-a-record = λ o at next w r rest g e f k h.
          let n : next + size_of g.reads ≡ at + size_of (r ∷ g.reads) = omega arith in
          ap (λ (x : List ℕ). answers_to w r ++ x) (h ∙ ap (λ (m : ℕ). answers_over (world_by w r) g.reads ++ end_bytes g.status m) n)
          ∙ sym (append_assoc (answers_to w r) (answers_over (world_by w r) g.reads) (end_bytes g.status (at + size_of (r ∷ g.reads))));
    }

abbrev written_by : Went → List ℕ
written_by g = answers_over fresh_world g.reads ++ end_bytes g.status (size_of g.reads)

pub run_is : RunIs
run_is s room h =
    ⊎_elim
    (λ (k : 65536 < length s). too_long s room k h ∙ ap written_by (sym (not-read s room k)))
    (λ (k : length s ≤ 65536). starts s room k h
    ∙ (over-all s room WrittenAs (written_as s room) k ∙ ap (λ (m : ℕ). answers_over fresh_world (reads_of s room) ++ end_bytes (status_of s room) m) (zero-add (size_of (reads_of s room)))))
    (lt-or-le 65536 (length s))

pub nothing-under-six : NothingUnderSix
unfolding run_bytes
nothing-under-six s room h = rw (lt-ltb room 6 h)

-- ---- 2. the records are the trace's

pub reads-are-the-trace : ReadsAreTheTrace
reads-are-the-trace s room =
    either_way s room (λ (g : Went). bytes_of g.reads ≡ take (size_of g.reads) s) refl
    (over-all s room (λ (o at : ℕ) (w : World) (bytes : List ℕ) (g : Went). bytes_of g.reads ≡ take (size_of g.reads) (drop at s))
    (record {
      at-the-end = λ o at w k. refl;
      before-it = λ status o at w k. refl;
      at-a-record = λ o at next w r rest g e f k h.
          let n : length (r.kind ∷ r.body) + size_of g.reads ≡ size_of (r ∷ g.reads) = omega arith in
          ap (λ (x : List ℕ). r.kind ∷ r.body ++ x) h
          ∙ (sym (take-append-add (r.kind ∷ r.body) (drop next s) (size_of g.reads)) ∙ ap₂ (λ (m : ℕ) (x : List ℕ). take m x) n (sym f));
    }))

pub read-to-the-end : ReadToTheEnd
read-to-the-end s room =
    either_way s room (λ (g : Went). g.status ≡ 0 → bytes_of g.reads ≡ s) (λ z. absurd (omega arith))
    (over-all s room (λ (o at : ℕ) (w : World) (bytes : List ℕ) (g : Went). g.status ≡ 0 → bytes_of g.reads ≡ drop at s)
    (record {
      at-the-end = λ o at w k z. sym (drop_of_length-le s k);
      before-it = λ status o at w k z. absurd (omega arith);
      at-a-record = λ o at next w r rest g e f k h z. ap (λ (x : List ℕ). r.kind ∷ r.body ++ x) (h z) ∙ sym f;
    }))

-- ---- 3. what follows changes no answer

pub answers-of-both : AnswersOfBoth
answers-of-both w [] ys = refl
answers-of-both w (x ∷ xs) ys =
    ap (λ (bytes : List ℕ). answers_to w x ++ bytes) (answers-of-both (world_by w x) xs ys)
    ∙ sym (append_assoc (answers_to w x) (answers_over (world_by w x) xs) (answers_over (world_over (world_by w x) xs) ys))

-- a record that stands, read back
stands : (s : List ℕ) (at k b n : ℕ) → Stood s at k b n → stands_at s at ≡ Record k b n
stands s at k b n p =
    let i = p.inside in
    let u = p.start_is in
    let v = p.next-is in
    let m = p.least in
    let e : get_or s at 0 ≡ k = sym p.kind-is in
    rw (e, lt-leb (length s) at (omega arith), ne_eqb k 0 (λ z. omega arith), le-ltb 22 k p.most, le-ltb (length s) (at + 1 + body_of k) (omega arith))
    (ap₂ (λ (x y : ℕ). Record k x y) (sym u) (sym v))

module _ (p q : List ℕ) (room : ℕ) where
  -- a record that stands in p stands in p and what follows, with the same body
  stands_on : (at k b n : ℕ) → stands_at p at ≡ Record k b n → stands_at (p ++ q) at ≡ Record k b n
  stands_on at k b n e =
      let o = stood p at k b n e in
      let i = o.inside in
      let v = o.next-is in
      let l = length-append p q in
      let a : at < length p = omega arith in
      stands (p ++ q) at k b n
      (record {
        kind-is = o.kind-is ∙ sym (get_or-append p q 0 at a);
        start_is = o.start_is;
        next-is = o.next-is;
        inside = omega arith;
        least = o.least;
        most = o.most;
      })

  body-on : (at k b n : ℕ) → stands_at p at ≡ Record k b n → body_in (p ++ q) b n ≡ body_in p b n
  body-on at k b n e =
      let o = stood p at k b n e in
      let i = o.inside in
      let u = o.start_is in
      let v = o.next-is in
      let l = length-drop b p in
      ap (take (n - b)) (drop-append-le b p q (omega arith)) ∙ take-append-le (n - b) (drop b p) q (omega arith)

  abbrev Goes : ℕ → ℕ → Type 0
  Goes n m = (o at : ℕ) (w : World) → Begins (went_from n p room o at w).reads (went_from m (p ++ q) room o at w).reads

  module _ (n m : ℕ) (again : Goes n m) (o at : ℕ) (w : World) where
    both_read : (r : Read) (next : ℕ) (b : Bool)
        → Begins (pick b (stops 15) (reading r (went_from n p room (o + length (answers_to w r)) next (world_by w r)))).reads
        (pick b (stops 15) (reading r (went_from m (p ++ q) room (o + length (answers_to w r)) next (world_by w r)))).reads
    both_read r next true = record { more = []; whole = refl }
    both_read r next false =
        let h = again (o + length (answers_to w r)) next (world_by w r) in
        record { more = h.more; whole = ap (λ (x : List Read). r ∷ x) h.whole }

    abbrev whole : Standing → List Read
    whole t = (went_by (went_from m (p ++ q) room) (p ++ q) room o w t).reads

    both-turn : (t : Standing) → stands_at p at ≡ t → Begins (went_by (went_from n p room) p room o w t).reads (whole (stands_at (p ++ q) at))
    both-turn End e = record { more = whole (stands_at (p ++ q) at); whole = refl }
    both-turn Unknown e = record { more = whole (stands_at (p ++ q) at); whole = refl }
    both-turn Cut e = record { more = whole (stands_at (p ++ q) at); whole = refl }
    both-turn (Record kind start next) e =
        let r : Read = record { kind = kind; body = body_in p start next } in
        subst (λ (t : Standing). Begins (read_by (went_from n p room) room o next w r).reads (whole t)) (sym (stands_on at kind start next e))
        (subst (λ (x : List ℕ). Begins (read_by (went_from n p room) room o next w r).reads (read_by (went_from m (p ++ q) room) room o next w (record { kind = kind; body = x })).reads) (sym (body-on at kind start next e))
        (both_read r next (overfull room o (answers_to w r))))

  go-together : (n m : ℕ) → n ≤ m → Goes n m
  go-together zero m l o at w = record { more = (went_from m (p ++ q) room o at w).reads; whole = refl }
  go-together (suc n) zero l o at w = absurd (omega arith)
  go-together (suc n) (suc m) l o at w = both-turn n m (go-together n m (omega arith)) o at w (stands_at p at) refl

pub prefix-reads : PrefixReads
prefix-reads p q room k =
    let l = length-append p q in
    let h = go-together p q room (suc (length p)) (suc (length (p ++ q))) (omega arith) 0 0 fresh_world in
    record {
      more = h.more;
      whole = ap (λ (g : Went). g.reads) (is_read (p ++ q) room k) ∙ (h.whole ∙ ap (λ (g : Went). g.reads ++ h.more) (sym (is_read p room (omega arith))));
    }

pub prefix-answers : PrefixAnswers
prefix-answers p q room k =
    let h = prefix-reads p q room k in
    record {
      more = answers_over (world_over fresh_world (reads_of p room)) h.more;
      whole = ap (answers_over fresh_world) h.whole ∙ answers-of-both fresh_world (reads_of p room) h.more;
    }

-- ---- 4. one outcome

pub one-outcome : OneOutcome
one-outcome s d₀ d' d'' n m p q = (p.count ∙ sym q.count, p.bytes ∙ sym q.bytes)

pub past-stays : PastStays
past-stays s d₀ d' n p =
    rw (p.count, p.bytes) (drop-append_seam (run_bytes s (length d₀)) (drop (length (run_bytes s (length d₀))) d₀))

pub always-ends : AlwaysEnds
always-ends s d₀ = record { count = refl; bytes = refl }

pub at-least-the-end : AtLeastTheEnd
at-least-the-end s d₀ d' n p h =
    let g : Went = went_over s (length d₀) in
    let a : List ℕ = answers_over fresh_world g.reads in
    let e : List ℕ = end_bytes g.status (size_of g.reads) in
    let l : length e ≡ 6 = refl in
    let c : n ≡ length (a ++ e) = p.count ∙ ap length (run_is s (length d₀) h) in
    omega (arith, length-append a e)

-- what is written never reaches past the output
fits : (s : List ℕ) (room : ℕ) → Carries s room (λ (o at : ℕ) (w : World) (bytes : List ℕ) (g : Went). o + 6 ≤ room → o + length bytes ≤ room)
fits s room =
    record {
      at-the-end = λ o at w k z. z;
      before-it = λ status o at w k z. z;
      at-a-record = λ o at next w r rest g e f k h z. omega (arith, h (omega arith), length-append (answers_to w r) rest);
    }

within : (s : List ℕ) (room : ℕ) → length (run_bytes s room) ≤ room
within s room =
    ⊎_elim
    (λ (h : room < 6). let e = ap length (nothing-under-six s room h) in omega arith)
    (λ (h : 6 ≤ room).
    ⊎_elim
    (λ (k : 65536 < length s). let e = ap length (too_long s room k h) in omega arith)
    (λ (k : length s ≤ 65536). let e = ap length (starts s room k h) in let f = over-all s room _ (fits s room) k h in omega arith)
    (lt-or-le 65536 (length s)))
    (lt-or-le room 6)

pub at-most-the-output : AtMostTheOutput
at-most-the-output s d₀ d' n p =
    let b : List ℕ = run_bytes s (length d₀) in
    let h : length b ≤ length d₀ = within s (length d₀) in
    let c : n ≡ length b = p.count in
    let e : length d' ≡ length (b ++ drop (length b) d₀) = ap length p.bytes in
    (omega arith, omega (arith, length-append b (drop (length b) d₀), length-drop (length b) d₀))
