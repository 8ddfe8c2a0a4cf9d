-- What a run of a trace writes: for each record the answers to its event, and last the end.
use Rattle.std.specs.Prelude.{ℕ, zero, suc, ◌+◌, ◌-◌, ◌≡◌, List, [], ◌++◌, length, take, drop, ltb}
use Rattle.records.specs.Pick.{pick}
use Rattle.framing.specs.Reader.{stands_at}
use Rattle.events.specs.Events.{event_of}
use Rattle.events.specs.Routes.{results_in}
use Rattle.framing.specs.declared.Standing.{Standing}
use Rattle.framing.specs.declared.Standing.TheVariants.{Record, Unknown, Cut, End}
use Rattle.answers.specs.Items.{items_bytes, end_bytes}
use Rattle.exchange.specs.World.{World, Step, fresh_world, step_on}
use Rattle.exchange.specs.Answering.{overfull}

-- ---- one record

-- the step of its event
abbrev pub step_by : World → ℕ → List ℕ → Step
step_by w kind body = step_on w (event_of kind body) (results_in body)

-- its body
abbrev pub body_in : List ℕ → ℕ → ℕ → List ℕ
body_in s start next = take (next - start) (drop start s)

-- ---- the run: o bytes are written of cap, at bytes consumed, w is the world; rest is the run from the next record on

-- the answers and then the rest; or, where they do not fit before the six bytes of the end, status 15, and the event is as if it were not there
abbrev pub answer_of : (ℕ → ℕ → World → List ℕ) → ℕ → ℕ → ℕ → ℕ → Step → List ℕ
answer_of rest cap o at next st =
    pick (overfull cap o (items_bytes st.items)) (end_bytes 15 at)
    (items_bytes st.items ++ rest (o + length (items_bytes st.items)) next st.world)

-- by what stands at the place
abbrev pub turn_of : (ℕ → ℕ → World → List ℕ) → List ℕ → ℕ → ℕ → ℕ → World → Standing → List ℕ
turn_of rest s cap o at w End = end_bytes 0 at
turn_of rest s cap o at w Unknown = end_bytes 12 at
turn_of rest s cap o at w Cut = end_bytes 13 at
turn_of rest s cap o at w (Record kind start next) = answer_of rest cap o at next (step_by w kind (body_in s start next))

-- at most so many turns
abbrev pub run_from : ℕ → List ℕ → ℕ → ℕ → ℕ → World → List ℕ
run_from zero s cap o at w = []
run_from (suc n) s cap o at w = turn_of (run_from n s cap) s cap o at w (stands_at s at)

-- an output under 6 bytes gets nothing, a trace over 65536 bytes is not read; every turn consumes a byte, so one turn more than there are bytes is enough
unfoldable pub run_bytes : List ℕ → ℕ → List ℕ
run_bytes s cap = pick (ltb cap 6) [] (pick (ltb 65536 (length s)) (end_bytes 16 0) (run_from (suc (length s)) s cap 0 0 fresh_world))

-- a run of the trace s into an output that came as d₀: n is returned, and d' stands there
pub record Ran (s d₀ : List ℕ) (n : ℕ) (d' : List ℕ) : Type 0 where
  pub count : n ≡ length (run_bytes s (length d₀))
  pub bytes : d' ≡ run_bytes s (length d₀) ++ drop (length (run_bytes s (length d₀))) d₀
