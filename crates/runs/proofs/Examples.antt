-- Runs by computing: 01's worked example, each way to stop, refused records, and that the claims speak of something. Assumes nothing.
use Rattle.std.specs.Prelude.{None, Ok}
use Prim.Native.Nat.{ℕ}
use native.Mathlib.Omega.{arith}
use mathlib.Core.Path.{◌≡◌, refl, sym, ap, ◌∙◌}
use mathlib.Core.List.{List, [], ◌∷◌, ◌++◌}
use lib.ListN.{length, take, drop, get_or, replicate}
use Rattle.records.specs.Numbers.{default_settings}
use Rattle.records.specs.declared.Priority.TheVariants.{UserNormal}
use Rattle.records.specs.declared.Schedule.TheVariants.{Once}
use Rattle.records.specs.declared.Verdict.TheVariants.{Success}
use Rattle.records.specs.declared.Action.TheVariants.{Settled}
use Rattle.model.specs.declared.Lender.TheVariants.{FromBroadcasts}
use Rattle.model.specs.Steps.Call.{EnqueueBroadcast, Dequeue, Transmitted}
use Rattle.framing.specs.Kinds.{body_of}
use Rattle.events.specs.Events.{event_of}
use Rattle.events.specs.Arrivals.{broadcast_of}
use Rattle.events.specs.Signals.{dequeue_of, report_of, poll_of, has_awaiting_of}
use Rattle.events.specs.Routes.{results_in}
use Rattle.exchange.specs.World.{fresh_world}
use Rattle.runs.specs.Run.{run_bytes, Ran}
use Rattle.runs.specs.Claims.{went_over, reads_of}
use Rattle.runs.specs.Histories.{calls_over, told_over, whereabouts}

abbrev zeros : ℕ → List ℕ
zeros n = replicate n 0

-- 01's trace: a broadcast that is sent once, frame 7 and waiter 9, at 0; a dequeue at 0 (44 bytes)
abbrev sample : List ℕ
sample = 5 ∷ zeros 8 ++ (7 ∷ 0 ∷ 0 ∷ 0 ∷ 9 ∷ 0 ∷ 0 ∷ 0 ∷ 2 ∷ []) ++ zeros 17 ++ (6 ∷ zeros 8)

-- its answers: id 0, done; in flight, id 0, frame 7, a broadcast, done; the end. They just fit 26 bytes.
pub worked : run_bytes sample 26 ≡ 130 ∷ 0 ∷ 0 ∷ 0 ∷ 0 ∷ 129 ∷ 133 ∷ 0 ∷ 0 ∷ 0 ∷ 0 ∷ 7 ∷ 0 ∷ 0 ∷ 0 ∷ 1 ∷ 0 ∷ 0 ∷ 0 ∷ 129 ∷ 141 ∷ 0 ∷ 44 ∷ 0 ∷ 0 ∷ 0 ∷ []
unfolding run_bytes body_of event_of broadcast_of dequeue_of
worked = refl

-- into one byte less the second does not go: 15, with the first consumed
pub one-byte-less : run_bytes sample 25 ≡ 130 ∷ 0 ∷ 0 ∷ 0 ∷ 0 ∷ 129 ∷ 141 ∷ 15 ∷ 35 ∷ 0 ∷ 0 ∷ 0 ∷ []
unfolding run_bytes body_of event_of broadcast_of dequeue_of
one-byte-less = refl

-- a run of it that only says done after its first event is admitted by no output
pub cheat-barred : (d₀ d' : List ℕ) (n : ℕ) → length d₀ ≡ 26 → Ran sample d₀ n d' → take 7 d' ≡ 130 ∷ 0 ∷ 0 ∷ 0 ∷ 0 ∷ 129 ∷ 129 ∷ [] → ⊥
cheat-barred d₀ d' n l r e =
    let b : run_bytes sample (length d₀) ≡ _ = ap (run_bytes sample) l ∙ worked in
    let seventh : ◌≡◌ {A = ℕ} 133 129 = ap (λ (x : List ℕ). get_or (take 7 (x ++ drop (length x) d₀)) 6 0) (sym b) ∙ (ap (λ (x : List ℕ). get_or (take 7 x) 6 0) (sym r.bytes) ∙ ap (λ (x : List ℕ). get_or x 6 0) e) in
    omega arith

-- ---- each way to stop, after a next wake that finds none (18, answered by 129)

pub unknown-kind : run_bytes (18 ∷ 23 ∷ []) 64 ≡ 129 ∷ 141 ∷ 12 ∷ 1 ∷ 0 ∷ 0 ∷ 0 ∷ []
unfolding run_bytes body_of event_of
unknown-kind = refl

pub cut_record : run_bytes (18 ∷ 6 ∷ zeros 7) 64 ≡ 129 ∷ 141 ∷ 13 ∷ 1 ∷ 0 ∷ 0 ∷ 0 ∷ []
unfolding run_bytes body_of event_of
cut_record = refl

pub no_room : run_bytes (18 ∷ []) 6 ≡ 141 ∷ 15 ∷ 0 ∷ 0 ∷ 0 ∷ 0 ∷ []
unfolding run_bytes body_of event_of
no_room = refl

pub under-six : run_bytes (18 ∷ []) 5 ≡ []
unfolding run_bytes
under-six = refl

-- a device asked about that is none (14), a poll later than 2^62 (1): refused, and both are consumed
pub refused-counted : run_bytes ((22 ∷ zeros 9) ++ (8 ∷ 1 ∷ zeros 6 ++ (64 ∷ zeros 12))) 64 ≡ 128 ∷ 14 ∷ 128 ∷ 1 ∷ 141 ∷ 0 ∷ 31 ∷ 0 ∷ 0 ∷ 0 ∷ []
unfolding run_bytes body_of event_of has_awaiting_of poll_of
refused-counted = refl

-- ---- the sample with a report that the copy was sent, as a history: its calls, what it tells, and where the send is after it

abbrev reported : List ℕ
reported = sample ++ (7 ∷ 1 ∷ zeros 4 ++ (7 ∷ zeros 18))

pub three-calls : calls_over fresh_world (reads_of reported 64)
    ≡ EnqueueBroadcast default_settings (record { frame = 7; waiter = 9; priority = UserNormal; schedule = Once }) 0
    ∷ Dequeue 0
    ∷ Transmitted FromBroadcasts 0 7 (Ok tt) 0 0 ∷ []
unfolding went_over body_of event_of broadcast_of dequeue_of report_of results_in
three-calls = refl

pub one-success : told_over (reads_of reported 64)
    ≡ record { issued = 0 ∷ []; actions = Settled (record { id = 0; waiter = 9; frame = 7 }) Success None ∷ []; left = [] }
unfolding went_over body_of event_of broadcast_of dequeue_of report_of results_in
one-success = refl

pub settled-once : whereabouts (reads_of reported 64) 0 ≡ 0 ∷ 0 ∷ 0 ∷ 1 ∷ 0 ∷ []
unfolding went_over body_of event_of broadcast_of dequeue_of report_of results_in
settled-once = refl
