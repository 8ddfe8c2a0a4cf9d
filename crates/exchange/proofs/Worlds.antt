-- What a turn makes of the world: a call of the tables, an abandon, a pair, the lists; and that the world stays sound. Assumes nothing.
use Rattle.std.specs.Prelude.{Option, None, Some}
use Prim.Native.Nat.{ℕ, ◌≤◌}
use native.Mathlib.Omega.{arith}
use mathlib.Core.Path.{◌≡◌, refl, sym, ap, ap₂, subst, ◌∙◌}
use mathlib.Core.Bool.{Bool, true, false}
use mathlib.Core.List.{List, [], ◌∷◌, ◌++◌, map, append_assoc}
use lib.ListN.{length, take, length-append, length-map, length-take}
use lib.Seq.{sets, length-sets, length-take-le}
use borrow.Author.Tests.{ltb-false}
use Rattle.records.specs.Pick.{pick, bit}
use Rattle.records.specs.Records.{unicast_entry, unrouted_entry, broadcast_entry}
use Rattle.rows.specs.Tables.{Holds}
use Rattle.rows.specs.Rows.{flat}
use Rattle.actions.specs.Told.{action_words}
use Rattle.tables.specs.Layouts.{unicast_table, unrouted_table, destination_table, broadcast_table}
use Rattle.model.specs.Model.{Model, lent_model, SoundTables, Does}
use Rattle.model.specs.Calls.{abandoned, emptied}
use Rattle.model.specs.Sound.{SoundModel}
use Rattle.model.specs.Steps.{EnqueueUnicast, EnqueueCopy, EnqueueUnrouted, EnqueueBroadcast, Dequeue, Transmitted, Poll, AckReceived, RetryDiscovery, FailUnrouted, RouteUnicasts, Delivered, DropIndirect, Cancel, Tick, Abandon, HasUnrouted, HasAwaiting, members_of, acts}
use Rattle.model.proofs.Bounds.{few-actions}
use Rattle.model.proofs.Sounds.{step-sound}
use Rattle.doing.specs.Parts.{AbandonedAll}
use Rattle.steps.specs.Applied.{effect_of}
use Rattle.replies.specs.Replies.{acts_of, reply_items}
use Rattle.replies.proofs.Backs.{told-acts}
use Rattle.listings.specs.Maps.{keys_with, shorts_with, MapSound, map_full, pairs_after, PairPut}
use Rattle.listings.proofs.Pairings.{pairs-long, take-front}
use Rattle.exchange.specs.Types.{Counts, Did, Abandoned, Entry, Settings, Resolved, Item, Done, ShortAddress, ExtendedAddress, Shorts, Longs, Left, Event, OnSettings, OnUnicast, OnCopy, OnUnrouted, OnBroadcast, OnDequeue, OnReport, OnPoll, OnAck, OnRetry, OnFail, OnRoute, OnDelivered, OnDrop, OnCancel, OnTick, OnAbandon, OnNextWake, OnPair, OnLists, OnHasUnrouted, OnHasAwaiting, Malformed}
use Rattle.exchange.specs.World.{World, Step, with_model, abandonment, called, list_items, step_on, world_of}
use Rattle.exchange.specs.Gathered.{listed_items}
use Rattle.sending.specs.Members.{map_fits}
use Rattle.exchange.specs.Answering.{Answering}
use Rattle.exchange.proofs.Arms.{is_call}
use Rattle.exchange.specs.Turns.{Ready, Turned}

no : false ≡ true → ⊥
no h = let z : ◌≡◌ {A = ℕ} 0 1 = ap bit h in absurd (omega arith)

-- ---- a call of the tables

-- its step is that of its effect
pub call-is : (w : World) (e : Event) (rs : List Resolved) → is_call e ≡ true → step_on w e rs ≡ called w (acts (effect_of w.model w.settings e rs))
call-is w (OnSettings x) rs h = absurd (no h)
call-is w (OnUnicast now u) rs h = refl
call-is w (OnCopy id now u) rs h = refl
call-is w (OnUnrouted now u) rs h = refl
call-is w (OnBroadcast now u) rs h = refl
call-is w (OnDequeue now) rs h = refl
call-is w (OnReport from id frame x now delay) rs h = refl
call-is w (OnPoll now eui nwk) rs h = refl
call-is w (OnAck k) rs h = refl
call-is w (OnRetry d) rs h = refl
call-is w (OnFail d) rs h = refl
call-is w (OnRoute now d n) rs h = refl
call-is w (OnDelivered k) rs h = refl
call-is w (OnDrop eui nwk) rs h = refl
call-is w (OnCancel id) rs h = refl
call-is w (OnTick now) rs h = refl
call-is w OnAbandon rs h = absurd (no h)
call-is w OnNextWake rs h = absurd (no h)
call-is w (OnPair x y) rs h = absurd (no h)
call-is w OnLists rs h = absurd (no h)
call-is w (OnHasUnrouted d) rs h = refl
call-is w (OnHasAwaiting a) rs h = refl
call-is w Malformed rs h = refl

module _ (m : Model) (s : Settings) (rs : List Resolved) (sound : SoundModel m) where
  pub few-acts : (e : Event) → length (effect_of m s e rs).actions ≤ 112
  few-acts (OnSettings x) = omega arith
  few-acts (OnUnicast now u) = few-actions m (EnqueueUnicast s u now) sound
  few-acts (OnCopy id now u) = few-actions m (EnqueueCopy s id u now) sound
  few-acts (OnUnrouted now u) = few-actions m (EnqueueUnrouted s u now) sound
  few-acts (OnBroadcast now u) = few-actions m (EnqueueBroadcast s u now) sound
  few-acts (OnDequeue now) = few-actions m (Dequeue now) sound
  few-acts (OnReport from id frame x now delay) = few-actions m (Transmitted from id frame x now delay) sound
  few-acts (OnPoll now eui nwk) = few-actions m (Poll eui nwk now) sound
  few-acts (OnAck k) = few-actions m (AckReceived k) sound
  few-acts (OnRetry d) = few-actions m (RetryDiscovery d) sound
  few-acts (OnFail d) = few-actions m (FailUnrouted d) sound
  few-acts (OnRoute now d n) = few-actions m (RouteUnicasts s d now n rs) sound
  few-acts (OnDelivered k) = few-actions m (Delivered k) sound
  few-acts (OnDrop eui nwk) = few-actions m (DropIndirect eui nwk) sound
  few-acts (OnCancel id) = few-actions m (Cancel id) sound
  few-acts (OnTick now) = few-actions m (Tick now) sound
  few-acts OnAbandon = omega arith
  few-acts OnNextWake = omega arith
  few-acts (OnPair x y) = omega arith
  few-acts OnLists = omega arith
  few-acts (OnHasUnrouted d) = few-actions m (HasUnrouted d) sound
  few-acts (OnHasAwaiting a) = few-actions m (HasAwaiting a) sound
  few-acts Malformed = omega arith

  pub effect-sound : (e : Event) → SoundModel (effect_of m s e rs).model
  effect-sound (OnSettings x) = sound
  effect-sound (OnUnicast now u) = step-sound sound (EnqueueUnicast s u now)
  effect-sound (OnCopy id now u) = step-sound sound (EnqueueCopy s id u now)
  effect-sound (OnUnrouted now u) = step-sound sound (EnqueueUnrouted s u now)
  effect-sound (OnBroadcast now u) = step-sound sound (EnqueueBroadcast s u now)
  effect-sound (OnDequeue now) = step-sound sound (Dequeue now)
  effect-sound (OnReport from id frame x now delay) = step-sound sound (Transmitted from id frame x now delay)
  effect-sound (OnPoll now eui nwk) = step-sound sound (Poll eui nwk now)
  effect-sound (OnAck k) = step-sound sound (AckReceived k)
  effect-sound (OnRetry d) = step-sound sound (RetryDiscovery d)
  effect-sound (OnFail d) = step-sound sound (FailUnrouted d)
  effect-sound (OnRoute now d n) = step-sound sound (RouteUnicasts s d now n rs)
  effect-sound (OnDelivered k) = step-sound sound (Delivered k)
  effect-sound (OnDrop eui nwk) = step-sound sound (DropIndirect eui nwk)
  effect-sound (OnCancel id) = step-sound sound (Cancel id)
  effect-sound (OnTick now) = step-sound sound (Tick now)
  effect-sound OnAbandon = sound
  effect-sound OnNextWake = sound
  effect-sound (OnPair x y) = sound
  effect-sound OnLists = sound
  effect-sound (OnHasUnrouted d) = step-sound sound (HasUnrouted d)
  effect-sound (OnHasAwaiting a) = step-sound sound (HasAwaiting a)
  effect-sound Malformed = sound

-- ---- a pair

abbrev is_barred : Option ℕ → Bool
is_barred None = true
is_barred (Some m) = false

-- the lists of the new map
pair-lists : {x y n m : ℕ} {es ns es' ns' : List ℕ} {r : Option ℕ} → MapSound es ns n → PairPut x y n es ns es' ns' r → r ≡ Some m
    → (take m es' ≡ keys_with x (take n es)) × (take m ns' ≡ shorts_with x y (take n es) (take n ns))
pair-lists {x} {y} {n} {m} {es} {ns} {es'} {ns'} {r} s p e = by-test (map_full x es n) refl
  where
    by-test : (b : Bool) → map_full x es n ≡ b → (take m es' ≡ keys_with x (take n es)) × (take m ns' ≡ shorts_with x y (take n es) (take n ns))
    by-test true f = absurd (no (sym (ap is_barred e) ∙ ap is_barred (p.answer ∙ ap (λ (b : Bool). pick b None (Some (length (keys_with x (take n es))))) f)))
    by-test false f =
        let ks : List ℕ = keys_with x (take n es) in
        let ss : List ℕ = shorts_with x y (take n es) (take n ns) in
        let a = s.key_room in
        let b = s.short_room in
        let q = s.few in
        let l : length (take n es) ≡ length (take n ns) = length-take-le n es (omega arith) ∙ sym (length-take-le n ns (omega arith)) in
        let h : length ks ≤ 32 = ltb-false 32 (length ks) f in
        let j : length ss ≡ length ks = pairs-long x y (take n es) (take n ns) l in
        let i : m ≡ length ks = ap (pairs_after 0) (sym e ∙ p.answer ∙ ap (λ (b : Bool). pick b None (Some (length ks))) f) in (
          ap₂ (λ (k : ℕ) (v : List ℕ). take k v) i (p.keys ∙ ap (λ (b : Bool). pick b es (sets es 0 ks)) f) ∙ take-front es ks (omega arith),
          ap₂ (λ (k : ℕ) (v : List ℕ). take k v) (i ∙ sym j) (p.shorts ∙ ap (λ (b : Bool). pick b ns (sets ns 0 ss)) f) ∙ take-front ns ss (omega arith),
        )

-- ---- tables that hold a model

module _ {c : Counts} {m : Model} {ws vs ds bs : List ℕ} (next : c.next_id ≡ m.next) (u : Holds unicast_table ws c.unicasts m.unicasts)
    (v : Holds unrouted_table vs c.unrouted m.unrouted) (d : Holds destination_table ds c.held m.held) (b : Holds broadcast_table bs c.broadcasts m.broadcasts) where
  pub holds-model : lent_model c ws vs ds bs ≡ m
  holds-model = λ k. record { next = next k; unicasts = u.live-is k; unrouted = v.live-is k; held = d.live-is k; broadcasts = b.live-is k }

  pub holds-ready : {es ns buf : List ℕ} {pairs : ℕ} → SoundModel m → MapSound es ns pairs → length buf ≡ 560 → Ready c ws vs ds bs es ns pairs buf
  holds-ready s p l =
      record {
        tables = record { unicasts = u.held; unrouted = v.held; held = d.held; broadcasts = b.held };
        model = subst SoundModel (sym holds-model) s;
        map = p;
        buffer = l;
      }

-- live sends fit in an abandon's list
pub abandoned-few : {c : Counts} {ws vs ds bs : List ℕ} → SoundTables c ws vs ds bs → length (abandoned (lent_model c ws vs ds bs)) ≤ 64
abandoned-few {c} {ws} {vs} {ds} {bs} t =
    let u = t.unicasts.within in
    let v = t.unrouted.within in
    let b = t.broadcasts.within in
    let m : Model = lent_model c ws vs ds bs in
    let us : List Entry = map unicast_entry m.unicasts in
    let vs : List Entry = map unrouted_entry m.unrouted in
    let bs : List Entry = map broadcast_entry m.broadcasts in
    simp (length-append, length-map, length-take) (omega arith)

module _ {c : Counts} {ws vs ds bs es ns buf : List ℕ} {pairs : ℕ} (ready : Ready c ws vs ds bs es ns pairs buf) (s : Settings) where
  abbrev here : World
  here = world_of c ws vs ds bs s es ns pairs

  -- the actions that a call tells
  pub call-few : (e : Event) (rs : List Resolved) {ws' vs' ds' bs' buf' : List ℕ} {x : Did}
      → Does (effect_of (lent_model c ws vs ds bs) s e rs) buf ws' vs' ds' bs' buf' x → x.told ≤ 112
  call-few e rs h =
      let f = few-acts (lent_model c ws vs ds bs) s rs ready.model e in
      let n = h.tells.next in
      omega arith

  pub turned-call : (e : Event) (rs : List Resolved) {at : ℕ} {ws' vs' ds' bs' buf' out out' : List ℕ} {x : Did} {r : ℕ} → is_call e ≡ true
      → Does (effect_of (lent_model c ws vs ds bs) s e rs) buf ws' vs' ds' bs' buf' x → Answering (reply_items x.answer (acts_of buf' x.told)) at out out' r
      → Turned (step_on here e rs) at out ws' vs' ds' bs' es ns buf' out' (record { counts = x.counts; settings = s; pairs = pairs; wrote = r })
  turned-call e rs {at} {ws'} {vs'} {ds'} {bs'} {buf'} {out} {out'} {x} {r} i h a =
      let m : Model = lent_model c ws vs ds bs in
      let is : step_on here e rs ≡ called here (acts (effect_of m s e rs)) = call-is here e rs i in
      let f = few-acts m s rs ready.model e in
      let t : acts_of buf' x.told ≡ (effect_of m s e rs).actions = told-acts h.tells ready.buffer f in
      subst (λ (st : Step). Turned st at out ws' vs' ds' bs' es ns buf' out' (record { counts = x.counts; settings = s; pairs = pairs; wrote = r })) (sym is)
      (record {
        world = ap (with_model here) (holds-model h.next h.unicasts h.unrouted h.held h.broadcasts);
        ready = holds-ready h.next h.unicasts h.unrouted h.held h.broadcasts (effect-sound m s rs ready.model e) ready.map
            (ap length h.tells.words ∙ length-sets buf 0 (flat action_words (effect_of m s e rs).actions) ∙ ready.buffer);
        answers = subst (λ (is : List Item). Answering is at out out' r) (ap₂ reply_items h.answer t) a;
      })

  -- an abandon
  pub turned-abandon : {at : ℕ} {list list' ws' vs' ds' bs' out out' : List ℕ} {x : Abandoned} {r : ℕ} → AbandonedAll (lent_model c ws vs ds bs) list ws' vs' ds' bs' list' x
      → Answering (map abandonment (abandoned (lent_model c ws vs ds bs)) ++ (Done ∷ [])) at out out' r
      → Turned (step_on here OnAbandon []) at out ws' vs' ds' bs' es ns buf out' (record { counts = x.counts; settings = s; pairs = pairs; wrote = r })
  turned-abandon h a =
      record {
        world = ap (with_model here) (holds-model {m = emptied (lent_model c ws vs ds bs)} h.next h.unicasts h.unrouted h.held h.broadcasts);
        ready = holds-ready {m = emptied (lent_model c ws vs ds bs)} h.next h.unicasts h.unrouted h.held h.broadcasts (step-sound ready.model Abandon) ready.map ready.buffer;
        answers = a;
      }

  -- a pair that is barred, and one that is put
  module _ {x y : ℕ} {es' ns' : List ℕ} {p : Option ℕ} (h : PairPut x y pairs es ns es' ns' p) {at : ℕ} {out out' : List ℕ} {r : ℕ} where
    pub turned_pair : {m : ℕ} → p ≡ Some m → Answering (Done ∷ []) at out out' r
        → Turned (step_on here (OnPair x y) []) at out ws vs ds bs es' ns' buf out' (record { counts = c; settings = s; pairs = m; wrote = r })
    turned_pair {m} e a = by-test (map_full x es pairs) refl
      where
        ks : List ℕ
        ks = keys_with x (take pairs es)

        left : Left
        left = record { counts = c; settings = s; pairs = m; wrote = r }

        by-test : (b : Bool) → map_full x es pairs ≡ b → Turned (step_on here (OnPair x y) []) at out ws vs ds bs es' ns' buf out' left
        by-test false f =
            let q = pair-lists ready.map h e in
            rw f
            (record {
              world = ap₂ (λ (u v : List ℕ). record { model = here.model; settings = s; longs = u; shorts = v }) q.0 q.1;
              ready = record { tables = ready.tables; model = ready.model; map = subst (λ (q : Option ℕ). MapSound es' ns' (pairs_after pairs q)) e h.sound; buffer = ready.buffer };
              answers = a;
            })
        by-test true f = absurd (no (sym (ap is_barred e) ∙ ap is_barred (h.answer ∙ ap (λ (b : Bool). pick b None (Some (length ks))) f)))

  -- the tables, the map and the buffer as they were
  pub turned-still : {st : Step} {at : ℕ} {out out' : List ℕ} {s' : Settings} {r : ℕ} → world_of c ws vs ds bs s' es ns pairs ≡ st.world → Answering st.items at out out' r
      → Turned st at out ws vs ds bs es ns buf out' (record { counts = c; settings = s'; pairs = pairs; wrote = r })
  turned-still e a = record { world = e; ready = ready; answers = a }

-- the lists of a world whose map a call takes
pub lists-are : (w : World) → map_fits w.longs w.shorts ≡ true
    → listed_items w.model.unicasts w.model.held w.model.broadcasts w.longs w.shorts ≡ list_items w
lists-are w f =
    let ss : List Item = map ShortAddress (members_of Shorts w.longs w.shorts w.model.unicasts) in
    let ls : List Item = map ExtendedAddress (members_of Longs w.longs w.shorts w.model.unicasts) in
    rw (f, append_assoc ss ls (Done ∷ []))
