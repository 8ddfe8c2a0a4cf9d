-- The run's invariant: what is still to be written, from here, makes the whole answer; and what each turn and each end make of it. Assumes nothing.
use Prim.Native.Nat.{ℕ, suc, ◌+◌, ◌-◌, ◌≤◌, ◌<◌}
use mathlib.Core.Path.{◌≡◌, refl, sym, ap, ap₂, subst, ◌∙◌}
use mathlib.Core.List.{List, ◌++◌}
use mathlib.Core.Bool.{true, false}
use native.Mathlib.Omega.{arith}
use native.Mathlib.Nat.{add_assoc, zero-add}
use lib.ListN.{length, length-append}
use lib.Seq.{sets, sets-eq, length-sets}
use borrow.Author.Tests.{lt-ltb, le-ltb, ltb-false}
use Rattle.rows.proofs.Sets.{sets-append}
use Rattle.framing.specs.Reader.{stands_at}
use Rattle.framing.specs.declared.Standing.TheVariants.{Record, Unknown, Cut, End}
use Rattle.framing.proofs.Reading.{stood}
use Rattle.answers.specs.Bytes.{Written}
use Rattle.answers.specs.Items.{items_bytes, end_bytes}
use Rattle.exchange.specs.World.{World, Step, fresh_world}
use Rattle.exchange.specs.Answering.{overfull}
use Rattle.runs.specs.Run.{step_by, body_in, answer_of, turn_of, run_from, run_bytes, Ran}

-- s the trace, d₀ the output as it came, d the output now, w the world, at the place in the trace, o the bytes written
pub record Running (s d₀ d : List ℕ) (w : World) (at o : ℕ) : Type 0 where
  pub fuel : ℕ
  pub enough : length s < at + fuel
  pub inside : at ≤ length s
  pub room : o + 6 ≤ length d₀
  pub long : length d ≡ length d₀
  pub goes : sets d o (run_from fuel s (length d₀) o at w) ≡ sets d₀ 0 (run_bytes s (length d₀))
  pub counts : o + length (run_from fuel s (length d₀) o at w) ≡ length (run_bytes s (length d₀))

-- the same world
pub running-as : {s d₀ d : List ℕ} {w w' : World} {at o : ℕ} → w ≡ w' → Running s d₀ d w at o → Running s d₀ d w' at o
running-as {s} {d₀} {d} {w} {w'} {at} {o} e r = subst (λ (x : World). Running s d₀ d x at o) e r

-- ---- the three starts

pub tiny : (s d₀ : List ℕ) → length d₀ < 6 → Ran s d₀ 0 d₀
unfolding run_bytes
tiny s d₀ h = record { count = rw (lt-ltb (length d₀) 6 h); bytes = rw (lt-ltb (length d₀) 6 h) }

too_long : (s : List ℕ) (cap : ℕ) → 6 ≤ cap → 65536 < length s → run_bytes s cap ≡ end_bytes 16 0
unfolding run_bytes
too_long s cap h k = rw (le-ltb cap 6 h, lt-ltb 65536 (length s) k)

starts : (s : List ℕ) (cap : ℕ) → 6 ≤ cap → length s ≤ 65536 → run_bytes s cap ≡ run_from (suc (length s)) s cap 0 0 fresh_world
unfolding run_bytes
starts s cap h k = rw (le-ltb cap 6 h, le-ltb 65536 (length s) k)

-- the whole is written, and what is past it stays
whole : (s d₀ d' : List ℕ) (n : ℕ) → n ≡ length (run_bytes s (length d₀)) → n ≤ length d₀ → d' ≡ sets d₀ 0 (run_bytes s (length d₀)) → Ran s d₀ n d'
whole s d₀ d' n e h ed =
    let l : 0 + length (run_bytes s (length d₀)) ≤ length d₀ = omega arith in
    record { count = e; bytes = ed ∙ sets-eq (run_bytes s (length d₀)) d₀ 0 l ∙ rw zero-add }

pub over : (s d₀ d' : List ℕ) (n : ℕ) → 6 ≤ length d₀ → 65536 < length s → Written 0 (end_bytes 16 0) d₀ d' n → Ran s d₀ n d'
over s d₀ d' n h k q =
    let e = too_long s (length d₀) h k in
    let f : n ≡ 0 + 6 = q.next in
    whole s d₀ d' n (f ∙ sym (ap length e)) (omega arith) (q.holds ∙ ap (sets d₀ 0) (sym e))

pub start : (s d₀ : List ℕ) (w : World) → 6 ≤ length d₀ → length s ≤ 65536 → w ≡ fresh_world → Running s d₀ d₀ w 0 0
start s d₀ w h k e =
    let f = starts s (length d₀) h k ∙ ap (run_from (suc (length s)) s (length d₀) 0 0) (sym e) in
    record {
      fuel = suc (length s);
      enough = omega arith;
      inside = omega arith;
      room = omega arith;
      long = refl;
      goes = ap (sets d₀ 0) (sym f);
      counts = zero-add _ ∙ ap length (sym f);
    }

-- ---- from a turn on

module _ {s d₀ d : List ℕ} {w : World} {at o : ℕ} (r : Running s d₀ d w at o) where
  abbrev cap : ℕ
  cap = length d₀

  abbrev rest : ℕ → ℕ → World → List ℕ
  rest = run_from (r.fuel - 1) s cap

  unroll : run_from r.fuel s cap o at w ≡ turn_of rest s cap o at w (stands_at s at)
  unroll =
      let e : r.fuel ≡ suc (r.fuel - 1) = omega arith in
      ap (λ (n : ℕ). run_from n s cap o at w) e

  -- a run that ends here
  ends : (status n : ℕ) (d' : List ℕ) → run_from r.fuel s cap o at w ≡ end_bytes status at → Written o (end_bytes status at) d d' n → Ran s d₀ n d'
  ends status n d' e q =
      let l : length (run_bytes s cap) ≡ o + 6 = sym r.counts ∙ ap (λ (x : List ℕ). o + length x) e in
      let f : n ≡ o + 6 = q.next in
      whole s d₀ d' n (f ∙ sym l) (omega arith) (q.holds ∙ ap (sets d o) (sym e) ∙ r.goes)

  pub at-end : {n : ℕ} {d' : List ℕ} → stands_at s at ≡ End → Written o (end_bytes 0 at) d d' n → Ran s d₀ n d'
  at-end {n} {d'} e = ends 0 n d' (unroll ∙ ap (turn_of rest s cap o at w) e)

  pub at-unknown : {n : ℕ} {d' : List ℕ} → stands_at s at ≡ Unknown → Written o (end_bytes 12 at) d d' n → Ran s d₀ n d'
  at-unknown {n} {d'} e = ends 12 n d' (unroll ∙ ap (turn_of rest s cap o at w) e)

  pub at_cut : {n : ℕ} {d' : List ℕ} → stands_at s at ≡ Cut → Written o (end_bytes 13 at) d d' n → Ran s d₀ n d'
  at_cut {n} {d'} e = ends 13 n d' (unroll ∙ ap (turn_of rest s cap o at w) e)

  module _ (kind begin next : ℕ) (st : Step) (e : stands_at s at ≡ Record kind begin next) (f : st ≡ step_by w kind (body_in s begin next)) where
    abbrev out : List ℕ
    out = items_bytes st.items

    answers : run_from r.fuel s cap o at w ≡ answer_of rest cap o at next st
    answers = unroll ∙ ap (turn_of rest s cap o at w) e ∙ ap (answer_of rest cap o at next) (sym f)

    -- the answers do not fit
    pub at-full : {n : ℕ} {d' : List ℕ} → overfull cap o out ≡ true → Written o (end_bytes 15 at) d d' n → Ran s d₀ n d'
    at-full {n} {d'} h = ends 15 n d' (answers ∙ rw h)

    -- they do: the run goes on behind them
    pub go_on : {n : ℕ} {d' : List ℕ} → overfull cap o out ≡ false → n ≡ o + length out → d' ≡ sets d o out → Running s d₀ d' st.world next n
    go_on {n} {d'} h en ed =
        let more : List ℕ = rest (o + length out) next st.world in
        let u : run_from r.fuel s cap o at w ≡ out ++ more = answers ∙ rw h in
        let p = stood s at kind begin next e in
        let q = p.next-is in
        let l : length out + 6 ≤ cap - o = ltb-false (cap - o) (length out + 6) h in
        record {
          fuel = r.fuel - 1;
          enough = omega arith;
          inside = p.inside;
          room = omega arith;
          long = ap length ed ∙ length-sets d o out ∙ r.long;
          goes = ap₂ (λ (x : List ℕ) (m : ℕ). sets x m (rest m next st.world)) ed en ∙ sym (sets-append d o out more) ∙ ap (sets d o) (sym u) ∙ r.goes;
          counts = ap (λ (m : ℕ). m + length (rest m next st.world)) en ∙ add_assoc o (length out) (length more) ∙ ap (λ (m : ℕ). o + m) (sym (length-append out more) ∙ ap length (sym u)) ∙ r.counts;
        }
