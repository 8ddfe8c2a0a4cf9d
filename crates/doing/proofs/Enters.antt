-- How an enqueue, whose send enters one table under a drawn id, and a call by id, which may be barred, become calls on all tables. Assumes nothing.
use Rattle.std.specs.Prelude.{Option, None, Some, Result, Ok, Err}
use Prim.Native.Nat.{ℕ, suc, ◌≤◌, ◌<◌}
use native.Mathlib.Numerals.{add-one}
use mathlib.Core.Path.{◌≡◌, refl, sym, ap, ◌∙◌}
use mathlib.Core.Bool.{Bool, true, false}
use mathlib.Core.List.{List}
use lib.ListN.{length}
use lib.Dec.{leb}
use borrow.Author.Tests.{ltb-false, le-leb, lt-leb}
use Rattle.records.specs.Pick.{pick}
use Rattle.records.specs.Limits.{last_time}
use Rattle.records.specs.Records.{unicast_id, unrouted_id, broadcast_id, unicast_entry, broadcast_entry}
use Rattle.rows.specs.Lists.{insert_by, lookup}
use Rattle.rows.specs.Tables.{Table, live, Held, Holds}
use Rattle.rows.specs.Moves.{first_of, has_id}
use Rattle.rows.specs.declared.Turn.{Turn}
use Rattle.rows.proofs.Promises.{held-length, held-holds}
use Rattle.tables.specs.Layouts.{unicast_table, unrouted_table, destination_table, broadcast_table}
use Rattle.actions.proofs.Lines.{told_none}
use Rattle.unicasts.specs.Calls.{Called}
use Rattle.tables.specs.declared.Counts as left
use Rattle.broadcasts.specs.Calls.{Answered}
use Rattle.unrouted.specs.Rules.{no_room, holding}
use Rattle.unrouted.specs.Calls.{Enqueued}
use Rattle.model.specs.Model.{Model, Effect, with_unicasts, with_unrouted, with_broadcasts, denied, answers, lent_model, SoundTables, Does}
use Rattle.model.specs.Calls.{late, unicast_first, unless, drawn, turn_unicast, turn_broadcast}
use Rattle.doing.specs.Types.{Unicast, Unrouted, Destination, Broadcast, Accepted, Issued, Refusal, NoPlace, Counts, Did}
use Rattle.doing.specs.Parts.{denied_by, with_unicast_count, with_broadcast_count, drawn_by}
use Rattle.doing.proofs.Doings.{did-as, does-deny, done-unicasts, done-broadcasts}

-- a time that is not too late
pub in-time : {b : Bool} (t : ℕ) → b ≡ late t → b ≡ false → t ≤ last_time
in-time t e f = ltb-false last_time t (sym e ∙ f)

-- the comparison of two sends, whose first rank is known under another name
pub first_by : (i j q : ℕ) {p a : ℕ} {b k : Bool} → a ≡ p → b ≡ unicast_first i a j q → b ≡ k → unicast_first i p j q ≡ k
first_by i j q e f g = ap (λ (x : ℕ). unicast_first i x j q) (sym e) ∙ sym f ∙ g

-- whether a table is full
module _ {A : Type 0} {t : Table A} {ws : List ℕ} {n : ℕ} (k : ℕ) (h : Held t ws n) where
  pub is-full : k ≤ n → leb k (length (live t ws n)) ≡ true
  is-full l = ap (leb k) (held-length h) ∙ le-leb k n l

  pub has-place : n < k → leb k (length (live t ws n)) ≡ false
  has-place l = ap (leb k) (held-length h) ∙ lt-leb k n l

-- an enqueue with no route: what it makes of the model, and whether there was room
abbrev entering_unrouted : Model → ℕ → Unrouted → Effect
entering_unrouted m attempts u =
    pick (no_room u m.unrouted m.held) (denied m NoPlace)
    (answers (with_unrouted (drawn m) (insert_by unrouted_id u m.unrouted) (holding attempts u.destination m.held)) (Issued m.next))

abbrev is_refused : Option (ℕ × ℕ) → Bool
is_refused None = true
is_refused (Some p) = false

room-told : {o : Option (ℕ × ℕ)} (b : Bool) (p : ℕ × ℕ) → o ≡ pick b None (Some p) → b ≡ is_refused o
room-told true p e = sym (ap is_refused e)
room-told false p e = sym (ap is_refused e)

-- a call by id
abbrev by_unicast : Model → (Option Unicast → Option Refusal) → (Unicast → Turn Unicast) → ℕ → Effect
by_unicast m bar f id = unless m (bar (first_of (has_id unicast_entry id) m.unicasts)) (turn_unicast m (has_id unicast_entry id) f)

abbrev by_broadcast : Model → (Option Broadcast → Option Refusal) → (Broadcast → Turn Broadcast) → ℕ → Effect
by_broadcast m bar f id = unless m (bar (lookup broadcast_id id m.broadcasts)) (turn_broadcast m (has_id broadcast_entry id) f)

-- the id is issued, and the tables hold what they hold
issues : (c : Counts) {us : List Unicast} {rs : List Unrouted} {hs : List Destination} {cs : List Broadcast} {ws vs ds bs buf : List ℕ} {n k h b : ℕ} {r : Did} → r ≡ drawn_by c n k h b
    → Holds unicast_table ws n us → Holds unrouted_table vs k rs → Holds destination_table ds h hs → Holds broadcast_table bs b cs
    → Does (answers (record { next = suc c.next_id; unicasts = us; unrouted = rs; held = hs; broadcasts = cs }) (Issued c.next_id)) buf ws vs ds bs buf r
issues c {buf = buf} e u v d f = did-as e (record { next = add-one c.next_id; unicasts = u; unrouted = v; held = d; broadcasts = f; answer = refl; tells = told_none 0 buf })

module _ {c : Counts} {ws vs ds bs : List ℕ} (s : SoundTables c ws vs ds bs) where
  -- ---- a send enters

  pub enters-unicast : {u u' : Unicast} {ws' buf : List ℕ} {n : ℕ} {r : Did} → r ≡ drawn_by c n c.unrouted c.held c.broadcasts → u ≡ u'
      → Holds unicast_table ws' n (insert_by unicast_id u (live unicast_table ws c.unicasts))
      → Does (answers (with_unicasts (drawn (lent_model c ws vs ds bs)) (insert_by unicast_id u' (live unicast_table ws c.unicasts))) (Issued c.next_id)) buf ws' vs ds bs buf r
  enters-unicast e q h = issues c e (rw (← q) h) (held-holds s.unrouted) (held-holds s.held) (held-holds s.broadcasts)

  module _ {attempts : ℕ} {u u' : Unrouted} {vs' ds' : List ℕ} {o : Option (ℕ × ℕ)} (k : Enqueued attempts u vs c.unrouted ds c.held vs' ds' o) (q : u ≡ u') where
    pub refused-unrouted : {buf : List ℕ} {r : Did} → o ≡ None → r ≡ denied_by c NoPlace → Does (entering_unrouted (lent_model c ws vs ds bs) attempts u') buf ws vs' ds' bs buf r
    refused-unrouted p e =
        let x = rw (q, p) at k in
        let n : no_room u' (live unrouted_table vs c.unrouted) (live destination_table ds c.held) ≡ true = room-told _ _ x.answer in
        rw (n, x.tables.0, x.tables.1) (does-deny s NoPlace e)

    pub enters-unrouted : {buf : List ℕ} {r : Did} {n m : ℕ} → o ≡ Some (n, m) → r ≡ drawn_by c c.unicasts n m c.broadcasts
        → Does (entering_unrouted (lent_model c ws vs ds bs) attempts u') buf ws vs' ds' bs buf r
    enters-unrouted p e =
        let x = rw (q, p) at k in
        let n : no_room u' (live unrouted_table vs c.unrouted) (live destination_table ds c.held) ≡ false = room-told _ _ x.answer in
        rw n (issues c e (held-holds s.unicasts) x.tables.0 x.tables.1 (held-holds s.broadcasts))

  pub enters-broadcast : {u u' : Broadcast} {bs' buf : List ℕ} {n : ℕ} {r : Did} → r ≡ drawn_by c c.unicasts c.unrouted c.held n → u ≡ u'
      → Holds broadcast_table bs' n (insert_by broadcast_id u (live broadcast_table bs c.broadcasts))
      → Does (answers (with_broadcasts (drawn (lent_model c ws vs ds bs)) (insert_by broadcast_id u' (live broadcast_table bs c.broadcasts))) (Issued c.next_id)) buf ws vs ds bs' buf r
  enters-broadcast e q h = issues c e (held-holds s.unicasts) (held-holds s.unrouted) (held-holds s.held) (rw (← q) h)

  -- ---- a call on the unicast, or on the broadcast, with that id

  module _ {bar : Option Unicast → Option Refusal} {f : Unicast → Turn Unicast} {id : ℕ} {buf ws' buf' : List ℕ} {o : Result left.Counts Refusal} (k : Called bar f id ws c.unicasts buf 0 ws' buf' o) where
    pub refused-unicast : {x : Refusal} {r : Did} → o ≡ Err x → r ≡ denied_by c x → Does (by_unicast (lent_model c ws vs ds bs) bar f id) buf ws' vs ds bs buf' r
    refused-unicast {x} q e = let p = rw q at k in rw (← p.answer, p.tables.0, p.tables.1) (does-deny s x e)

    pub turned-unicast : {l : left.Counts} {a : Counts} → o ≡ Ok l → a ≡ with_unicast_count c l.sends
        → Does (by_unicast (lent_model c ws vs ds bs) bar f id) buf ws' vs ds bs buf' (record { counts = a; answer = Accepted; told = l.told })
    turned-unicast q e = let p = rw q at k in rw (← p.answer) (done-unicasts s e p.tables.table p.tables.tells)

  module _ {bar : Option Broadcast → Option Refusal} {f : Broadcast → Turn Broadcast} {id : ℕ} {buf bs' buf' : List ℕ} {o : Result left.Counts Refusal} (k : Answered id bar f bs c.broadcasts buf 0 bs' buf' o) where
    pub refused-broadcast : {x : Refusal} {r : Did} → o ≡ Err x → r ≡ denied_by c x → Does (by_broadcast (lent_model c ws vs ds bs) bar f id) buf ws vs ds bs' buf' r
    refused-broadcast {x} q e = let p = rw q at k in rw (← p.answer, p.table.0, p.table.1) (does-deny s x e)

    pub turned-broadcast : {l : left.Counts} {a : Counts} → o ≡ Ok l → a ≡ with_broadcast_count c l.sends
        → Does (by_broadcast (lent_model c ws vs ds bs) bar f id) buf ws vs ds bs' buf' (record { counts = a; answer = Accepted; told = l.told })
    turned-broadcast q e = let p = rw q at k in rw (← p.answer) (done-broadcasts s e p.table.table p.table.tells)
