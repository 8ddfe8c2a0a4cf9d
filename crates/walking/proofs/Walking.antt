-- The run's invariant over its own arrays: they hold the world that it has come to. Assumes nothing.
use Prim.Native.Nat.{ℕ, ◌+◌, ◌≤◌}
use native.Mathlib.Omega.{arith}
use mathlib.Core.Path.{◌≡◌, refl, sym, ap, subst, ◌∙◌}
use mathlib.Core.Bool.{Bool, true, false}
use mathlib.Core.List.{List, []}
use lib.ListN.{length}
use lib.Seq.{sets, length-sets}
use Rattle.records.specs.Pick.{pick}
use Rattle.records.specs.Numbers.{default_settings}
use Rattle.records.specs.declared.Settings.{Settings}
use Rattle.rows.specs.Tables.{Holds}
use Rattle.tables.specs.Layouts.{unicast_table, unrouted_table, destination_table, broadcast_table}
use Rattle.model.specs.declared.Counts.{Counts}
use Rattle.model.specs.Model.{fresh_of, counts_of}
use Rattle.model.proofs.Sounds.{fresh-sound}
use Rattle.framing.specs.Reader.{stands_at}
use Rattle.framing.specs.declared.Standing.TheVariants.{Record}
use Rattle.answers.specs.Bytes.{Written}
use Rattle.answers.specs.Items.{items_bytes, end_bytes}
use Rattle.answers.specs.declared.Item.{Item}
use Rattle.exchange.specs.declared.Left.{Left}
use Rattle.exchange.specs.World.{Step, fresh_world, world_of}
use Rattle.exchange.specs.Answering.{Answering, overfull}
use Rattle.exchange.specs.Turns.{Ready, Turned}
use Rattle.exchange.proofs.Worlds.{holds-model, holds-ready}
use Rattle.runs.specs.Run.{step_by, body_in, Ran}
use Rattle.runs.proofs.Running.{Running, running-as, start, at-full, go_on}

pub record Walking (s d₀ d : List ℕ) (c : Counts) (ws vs ds bs told : List ℕ) (t : Settings) (es ns : List ℕ) (pairs at o : ℕ) : Type 0 where
  pub running : Running s d₀ d (world_of c ws vs ds bs t es ns pairs) at o
  pub ready : Ready c ws vs ds bs es ns pairs told

-- fresh tables, an empty map and the default settings are the fresh world
pub begins : {s d₀ ws vs ds bs told es ns : List ℕ} {c : Counts} {t : Settings} → 6 ≤ length d₀ → length s ≤ 65536
    → Holds unicast_table ws 0 [] → Holds unrouted_table vs 0 [] → Holds destination_table ds 0 [] → Holds broadcast_table bs 0 []
    → c ≡ counts_of (fresh_of 0) → t ≡ default_settings → length told ≡ 560 → length es ≡ 32 → length ns ≡ 32
    → Walking s d₀ d₀ c ws vs ds bs told t es ns 0 0 0
begins {s} {d₀} {ws} {vs} {ds} {bs} {told} {es} {ns} {c} {t} h k u v d b ec et l le ln =
    let c₀ : Counts = counts_of (fresh_of 0) in
    let w : world_of c₀ ws vs ds bs default_settings es ns 0 ≡ fresh_world =
    λ i. record { model = holds-model {c = c₀} {m = fresh_of 0} refl u v d b i; settings = default_settings; longs = []; shorts = [] } in
    let p : Walking s d₀ d₀ c₀ ws vs ds bs told default_settings es ns 0 0 0 =
    record {
      running = start s d₀ (world_of c₀ ws vs ds bs default_settings es ns 0) h k w;
      ready = holds-ready {c = c₀} {m = fresh_of 0} refl u v d b (fresh-sound 0 (omega arith)) (record { key_room = le; short_room = ln; few = omega arith; rises = refl }) l;
    } in
    subst (λ (x : Counts). Walking s d₀ d₀ x ws vs ds bs told t es ns 0 0 0) (sym ec)
    (subst (λ (x : Settings). Walking s d₀ d₀ c₀ ws vs ds bs told x es ns 0 0 0) (sym et) p)

-- ---- what a turn wrote, by its answer

module _ {items : List Item} {at : ℕ} {out out' : List ℕ} {r : ℕ} (a : Answering items at out out' r) where
  abbrev full : Bool
  full = overfull (length out) at (items_bytes items)

  abbrev by_full : Bool → ℕ
  by_full b = pick b 0 (at + length (items_bytes items))

  abbrev out_full : Bool → List ℕ
  out_full b = pick b out (sets out at (items_bytes items))

  -- there is an answer, so that 0 is no place after it
  pub was-full : 1 ≤ length (items_bytes items) → r ≡ 0 → (full ≡ true) × (out' ≡ out)
  was-full some e = go full refl
    where
      go : (b : Bool) → full ≡ b → (full ≡ true) × (out' ≡ out)
      go true f = (f, a.bytes ∙ ap out_full f)
      go false f = let z = a.wrote ∙ ap by_full f in absurd (omega arith)

  pub had-room : (r ≡ 0 → ⊥) → (full ≡ false) × ((r ≡ at + length (items_bytes items)) × (out' ≡ sets out at (items_bytes items)))
  had-room e = go full refl
    where
      go : (b : Bool) → full ≡ b → (full ≡ false) × ((r ≡ at + length (items_bytes items)) × (out' ≡ sets out at (items_bytes items)))
      go true f = absurd (e (a.wrote ∙ ap by_full f))
      go false f = (f, (a.wrote ∙ ap by_full f, a.bytes ∙ ap out_full f))

  -- the output keeps its length
  pub answering-long : length out' ≡ length out
  answering-long = go full refl
    where
      go : (b : Bool) → full ≡ b → length out' ≡ length out
      go true f = ap length (a.bytes ∙ ap out_full f)
      go false f = ap length (a.bytes ∙ ap out_full f) ∙ length-sets out at (items_bytes items)

-- ---- from a turn on

module _ {s d₀ d : List ℕ} {c : Counts} {ws vs ds bs told : List ℕ} {t : Settings} {es ns : List ℕ} {pairs at o : ℕ}
    (i : Walking s d₀ d c ws vs ds bs told t es ns pairs at o) where
  -- six bytes are left
  pub six-left : o + 6 ≤ length d
  six-left =
      let r = i.running.room in
      let l = i.running.long in
      omega arith

  module _ {kind begin next : ℕ} {st : Step} (e : stands_at s at ≡ Record kind begin next)
      (f : st ≡ step_by (world_of c ws vs ds bs t es ns pairs) kind (body_in s begin next))
      {ws' vs' ds' bs' es' ns' told' d' : List ℕ} {x : Left} (h : Turned st o d ws' vs' ds' bs' es' ns' told' d' x) where
    same-cap : (b : Bool) → overfull (length d) o (items_bytes st.items) ≡ b → overfull (length d₀) o (items_bytes st.items) ≡ b
    same-cap b g = ap (λ (k : ℕ). overfull k o (items_bytes st.items)) (sym i.running.long) ∙ g

    -- the answers do not fit: the run ends where it stands
    pub walk-full : {n : ℕ} {d'' : List ℕ} → 1 ≤ length (items_bytes st.items) → x.wrote ≡ 0 → Written o (end_bytes 15 at) d' d'' n → Ran s d₀ n d''
    walk-full {n} {d''} some g w =
        let q = was-full h.answers some g in
        at-full i.running kind begin next st e f (same-cap true q.0) (subst (λ (l : List ℕ). Written o (end_bytes 15 at) l d'' n) q.1 w)

    -- they do: it goes on behind them
    pub walk-on : (x.wrote ≡ 0 → ⊥) → Walking s d₀ d' x.counts ws' vs' ds' bs' told' x.settings es' ns' x.pairs next x.wrote
    walk-on g =
        let q = had-room h.answers g in
        record {
          running = running-as (sym h.world) (go_on i.running kind begin next st e f (same-cap false q.0) q.1.0 q.1.1);
          ready = h.ready;
        }
