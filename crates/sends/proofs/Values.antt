-- What a call by value owes, from what the call on lent tables ensures. Assumes nothing.
use Prim.Native.Nat.{ℕ}
use native.Mathlib.Nat.{zero-add}
use mathlib.Core.Path.{◌≡◌, sym, subst, ◌∙◌}
use mathlib.Core.List.{List}
use lib.ListN.{length}
use Rattle.rows.specs.Tables.{Holds}
use Rattle.rows.proofs.Promises.{holds-count}
use Rattle.tables.specs.Layouts.{unicast_table, unrouted_table, destination_table, broadcast_table}
use Rattle.model.specs.Model.{Model, Effect, Does, model_of, sends_of, answered_of}
use Rattle.model.specs.Calls.{abandoned, emptied}
use Rattle.model.specs.Sound.{SoundModel, Sound, Leaving}
use Rattle.model.specs.declared.Counts.{Counts}
use Rattle.model.specs.declared.Did.{Did}
use Rattle.model.specs.declared.Answered.{Answered}
use Rattle.model.specs.declared.Abandoned.{Abandoned}
use Rattle.doing.specs.Parts.{AbandonedAll}
use Rattle.sends.specs.Lists.{answered_by, emptied_of, Left}

-- words and counts that hold the lists of a model are its tables by value, and sound where it is
module _ {c : Counts} {m : Model} {ws vs ds bs : List ℕ} (next : c.next_id ≡ m.next) (u : Holds unicast_table ws c.unicasts m.unicasts)
    (v : Holds unrouted_table vs c.unrouted m.unrouted) (d : Holds destination_table ds c.held m.held) (b : Holds broadcast_table bs c.broadcasts m.broadcasts) where
  holds-sends : record { counts = c; unicasts = ws; unrouted = vs; held = ds; broadcasts = bs } ≡ sends_of m
  holds-sends = λ k. record {
    counts = record { next_id = next k; unicasts = holds-count u k; unrouted = holds-count v k; held = holds-count d k; broadcasts = holds-count b k };
    unicasts = u.is k;
    unrouted = v.is k;
    held = d.is k;
    broadcasts = b.is k;
  }

  holds-model : model_of (record { counts = c; unicasts = ws; unrouted = vs; held = ds; broadcasts = bs }) ≡ m
  holds-model = λ k. record { next = next k; unicasts = u.live-is k; unrouted = v.live-is k; held = d.live-is k; broadcasts = b.live-is k }

  holds-sound : SoundModel m → Sound (record { counts = c; unicasts = ws; unrouted = vs; held = ds; broadcasts = bs })
  holds-sound s = record {
    tables = record { unicasts = u.held; unrouted = v.held; held = d.held; broadcasts = b.held };
    model = subst SoundModel (sym holds-model) s;
  }

-- a call
module _ {e : Effect} {buf ws vs ds bs buf' : List ℕ} {x : Did} (h : Does e buf ws vs ds bs buf' x) {r : Answered} (back : r ≡ answered_by x ws vs ds bs) where
  pub is-answered : r ≡ answered_of e
  is-answered = back ∙ λ k. record {
    sends = holds-sends h.next h.unicasts h.unrouted h.held h.broadcasts k;
    answer = h.answer k;
    told = (h.tells.next ∙ zero-add (length e.actions)) k;
  }

  pub leaves-sound : SoundModel e.model → Leaving e buf buf' r
  leaves-sound s = rw back (record { tells = h.tells; sound = holds-sound h.next h.unicasts h.unrouted h.held h.broadcasts s })

-- an abandon
module _ {m : Model} {list ws vs ds bs list' : List ℕ} {r : Abandoned} (h : AbandonedAll m list ws vs ds bs list' r) where
  pub is-emptied : record { sends = record { counts = r.counts; unicasts = ws; unrouted = vs; held = ds; broadcasts = bs }; listed = r.listed } ≡ emptied_of m
  is-emptied = λ k. record {
    sends = holds-sends {m = emptied m} h.next h.unicasts h.unrouted h.held h.broadcasts k;
    listed = (h.lists.next ∙ zero-add (length (abandoned m))) k;
  }

  pub left-sound : SoundModel (emptied m) → Left m list list' (record { sends = record { counts = r.counts; unicasts = ws; unrouted = vs; held = ds; broadcasts = bs }; listed = r.listed })
  left-sound s = record { lists = h.lists; sound = holds-sound {m = emptied m} h.next h.unicasts h.unrouted h.held h.broadcasts s }
