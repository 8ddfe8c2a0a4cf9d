-- Kind 12, a route: now 8, destination 2, count 1 (to 16), sixteen of result tag 1, hop 2, address 9, code 2.
use Rattle.std.specs.Prelude.{ℕ, zero, suc, ◌+◌, ◌*◌, Bool, true, false, List, [], ◌∷◌, eqb, ltb, length, replicate, Option, None, Some, Ok, Err}
use Rattle.records.specs.Pick.{pick}
use Rattle.fields.specs.Bytes.{number}
use Rattle.fields.specs.Parts.{address_at}
use Rattle.events.specs.Types.{Address, Absent, Short, Extended, Resolved, Event, OnRoute, Malformed}

-- under tag 1 hop and address are absent
abbrev pub unreached_by : ℕ → Address → ℕ → Option Resolved
unreached_by hop Absent code = pick (eqb hop 0) (Some (Err code)) None
unreached_by hop (Short x) code = None
unreached_by hop (Extended x) code = None

-- under tag 0 the code is absent
abbrev pub resolved_by : ℕ → ℕ → Address → ℕ → Option Resolved
resolved_by tag hop a code =
    pick (eqb tag 0) (pick (eqb code 0) (Some (Ok (hop, a))) None) (pick (eqb tag 1) (unreached_by hop a code) None)

abbrev pub resolved_with : ℕ → ℕ → Option Address → ℕ → Option Resolved
resolved_with tag hop (Some a) code = resolved_by tag hop a code
resolved_with tag hop None code = None

abbrev pub resolved_at : ℕ → List ℕ → Option Resolved
resolved_at at b = resolved_with (number 1 at b) (number 2 (at + 1) b) (address_at (at + 3) b) (number 2 (at + 12) b)

-- ---- the sixteen results

abbrev pub no_result : Resolved
no_result = Err 0

abbrev pub result_in : Option Resolved → Resolved
result_in (Some r) = r
result_in None = no_result

abbrev pub in_form : Option Resolved → Bool
in_form (Some r) = true
in_form None = false

abbrev pub no_results : List Resolved
no_results = replicate 16 no_result

-- n results from number i on
abbrev pub results_from : List ℕ → ℕ → ℕ → List Resolved
results_from b i zero = []
results_from b i (suc n) = result_in (resolved_at (i * 14 + 11) b) ∷ results_from b (suc i) n

unfoldable pub results_of : List ℕ → List Resolved
results_of b = results_from b 0 16

-- none in a body that is too short for them
unfoldable pub results_in : List ℕ → List Resolved
results_in b = pick (ltb (length b) 235) no_results (results_of b)

-- below the count a result is in its form, and from there on all of it is zero
abbrev pub entry_right : List ℕ → ℕ → ℕ → Bool
entry_right b count i = pick (ltb i count) (in_form (resolved_at (i * 14 + 11) b)) (eqb (number 14 (i * 14 + 11) b) 0)

abbrev pub entries_right : List ℕ → ℕ → ℕ → ℕ → Bool
entries_right b count i zero = true
entries_right b count i (suc n) = pick (entry_right b count i) (entries_right b count (suc i) n) false

unfoldable pub route_of : List ℕ → Event
route_of b =
    pick (ltb 16 (number 1 10 b)) Malformed
    (pick (entries_right b (number 1 10 b) 0 16) (OnRoute (number 8 0 b) (number 2 8 b) (number 1 10 b)) Malformed)
