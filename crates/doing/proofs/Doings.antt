-- How what a call on one table ensures becomes what the call on all of them ensures: the other tables stay. Assumes nothing.
use Prim.Native.Nat.{ℕ}
use mathlib.Core.Path.{◌≡◌, refl, sym, ap, subst}
use mathlib.Core.List.{List}
use Rattle.rows.specs.Tables.{Holds}
use Rattle.rows.proofs.Promises.{held-holds}
use Rattle.tables.specs.Layouts.{unicast_table, unrouted_table, destination_table, broadcast_table}
use Rattle.actions.specs.Told.{Told}
use Rattle.actions.proofs.Lines.{told_none}
use Rattle.model.specs.Model.{Effect, with_unicasts, with_unrouted, with_broadcasts, denied, done, answers, lent_model, SoundTables, Does}
use Rattle.doing.specs.Types.{Unicast, Unrouted, Destination, Broadcast, Action, Answer, Accepted, Refusal, Counts, Did}
use Rattle.doing.specs.Parts.{quietly, denied_by, with_unicast_count, with_broadcast_count}

-- the effect may be given as another that is equal
pub does-as : {e e' : Effect} {buf ws vs ds bs buf' : List ℕ} {r : Did} → e ≡ e' → Does e' buf ws vs ds bs buf' r → Does e buf ws vs ds bs buf' r
does-as {e} {e'} {buf} {ws} {vs} {ds} {bs} {buf'} {r} p d = subst (λ (x : Effect). Does x buf ws vs ds bs buf' r) (sym p) d

-- and so may what is given back
pub did-as : {e : Effect} {buf ws vs ds bs buf' : List ℕ} {r r' : Did} → r ≡ r' → Does e buf ws vs ds bs buf' r' → Does e buf ws vs ds bs buf' r
did-as {e} {buf} {ws} {vs} {ds} {bs} {buf'} {r} {r'} p d = subst (λ (x : Did). Does e buf ws vs ds bs buf' x) (sym p) d

module _ {c : Counts} {ws vs ds bs : List ℕ} (s : SoundTables c ws vs ds bs) where
  -- nothing changes
  pub does-quiet : (a : Answer) (buf : List ℕ) → Does (answers (lent_model c ws vs ds bs) a) buf ws vs ds bs buf (quietly c a)
  does-quiet a buf =
      record {
        next = refl;
        unicasts = held-holds s.unicasts;
        unrouted = held-holds s.unrouted;
        held = held-holds s.held;
        broadcasts = held-holds s.broadcasts;
        answer = refl;
        tells = told_none 0 buf;
      }

  -- refused
  pub does-deny : {r : Did} {buf : List ℕ} (x : Refusal) → r ≡ denied_by c x → Does (denied (lent_model c ws vs ds bs) x) buf ws vs ds bs buf r
  does-deny {r} {buf} x q = did-as q (does-quiet _ buf)

  -- only the unicasts change
  pub does-unicasts : {us : List Unicast} {acts : List Action} {a : Answer} {ws' buf buf' : List ℕ} {n k : ℕ} → Holds unicast_table ws' n us → Told 0 acts buf buf' k
      → Does (record { model = with_unicasts (lent_model c ws vs ds bs) us; answer = a; actions = acts }) buf ws' vs ds bs buf' (record { counts = with_unicast_count c n; answer = a; told = k })
  does-unicasts h t =
      record {
        next = refl;
        unicasts = h;
        unrouted = held-holds s.unrouted;
        held = held-holds s.held;
        broadcasts = held-holds s.broadcasts;
        answer = refl;
        tells = t;
      }

  -- only the unrouted sends and the held destinations change
  pub does-unrouted : {us : List Unrouted} {hs : List Destination} {acts : List Action} {a : Answer} {vs' ds' buf buf' : List ℕ} {n m k : ℕ}
      → Holds unrouted_table vs' n us → Holds destination_table ds' m hs → Told 0 acts buf buf' k
      → Does (record { model = with_unrouted (lent_model c ws vs ds bs) us hs; answer = a; actions = acts }) buf ws vs' ds' bs buf'
      (record { counts = record { next_id = c.next_id; unicasts = c.unicasts; unrouted = n; held = m; broadcasts = c.broadcasts }; answer = a; told = k })
  does-unrouted h g t =
      record {
        next = refl;
        unicasts = held-holds s.unicasts;
        unrouted = h;
        held = g;
        broadcasts = held-holds s.broadcasts;
        answer = refl;
        tells = t;
      }

  -- only the broadcasts change
  pub does-broadcasts : {us : List Broadcast} {acts : List Action} {a : Answer} {bs' buf buf' : List ℕ} {n k : ℕ} → Holds broadcast_table bs' n us → Told 0 acts buf buf' k
      → Does (record { model = with_broadcasts (lent_model c ws vs ds bs) us; answer = a; actions = acts }) buf ws vs ds bs' buf' (record { counts = with_broadcast_count c n; answer = a; told = k })
  does-broadcasts h t =
      record {
        next = refl;
        unicasts = held-holds s.unicasts;
        unrouted = held-holds s.unrouted;
        held = held-holds s.held;
        broadcasts = h;
        answer = refl;
        tells = t;
      }

  -- an accepted call on the unicasts, or on the broadcasts, whose counts are known
  module _ {us : List Unicast} {acts : List Action} {ws' buf buf' : List ℕ} {n m : ℕ} {k : Counts} (e : k ≡ with_unicast_count c n) where
    pub done-unicasts : Holds unicast_table ws' n us → Told 0 acts buf buf' m
        → Does (done (with_unicasts (lent_model c ws vs ds bs) us) acts) buf ws' vs ds bs buf' (record { counts = k; answer = Accepted; told = m })
    done-unicasts h t = did-as (ap (λ (x : Counts). record { counts = x; answer = Accepted; told = m }) e) (does-unicasts h t)

  module _ {us : List Broadcast} {acts : List Action} {bs' buf buf' : List ℕ} {n m : ℕ} {k : Counts} (e : k ≡ with_broadcast_count c n) where
    pub done-broadcasts : Holds broadcast_table bs' n us → Told 0 acts buf buf' m
        → Does (done (with_broadcasts (lent_model c ws vs ds bs) us) acts) buf ws vs ds bs' buf' (record { counts = k; answer = Accepted; told = m })
    done-broadcasts h t = did-as (ap (λ (x : Counts). record { counts = x; answer = Accepted; told = m }) e) (does-broadcasts h t)

  -- a call on one table that tells nothing
  pub lent-unicasts : {us : List Unicast} {a : Answer} {ws' buf : List ℕ} {r : Did} → r ≡ quietly c a → Holds unicast_table ws' c.unicasts us
      → Does (answers (with_unicasts (lent_model c ws vs ds bs) us) a) buf ws' vs ds bs buf r
  lent-unicasts {us} {a} {ws'} {buf} e h = did-as e (does-unicasts h (told_none 0 buf))

  pub lent-broadcasts : {us : List Broadcast} {a : Answer} {bs' buf : List ℕ} {r : Did} → r ≡ quietly c a → Holds broadcast_table bs' c.broadcasts us
      → Does (answers (with_broadcasts (lent_model c ws vs ds bs) us) a) buf ws vs ds bs' buf r
  lent-broadcasts {us} {a} {bs'} {buf} e h = did-as e (does-broadcasts h (told_none 0 buf))
