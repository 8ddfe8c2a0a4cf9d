-- The claims of specs/Histories.antt: what each event says and does is what its calls say and do, added up over the records. Assumes nothing.
use Rattle.std.specs.Prelude.{None, Some}
use Prim.Native.Nat.{ℕ, ◌≤◌}
use native.Mathlib.Omega.{arith}
use mathlib.Core.Path.{◌≡◌, refl, sym, ap, ap₂, subst, ◌∙◌}
use mathlib.Core.Bool.{Bool, true, false}
use mathlib.Core.List.{List, [], ◌∷◌, ◌++◌, map, append_assoc, append-nil, Memᴰ}
use mathlib.Core.Logic.{⊎_elim}
use lib.Dec.{eqb, ltb}
use lib.ListN.{length}
use Rattle.records.specs.Pick.{pick}
use Rattle.records.specs.Limits.{no_id}
use Rattle.records.specs.Records.{unicast_entry, unrouted_entry, broadcast_entry}
use Rattle.records.specs.declared.Verdict.TheVariants.{Success}
use Rattle.records.specs.declared.Entry.{Entry}
use Rattle.records.specs.declared.Refusal.{Refusal}
use Rattle.records.specs.declared.Action.{Action}
use Rattle.records.specs.declared.Action.TheVariants.{HandedOff, Settled}
use Rattle.records.proofs.Cases.{either, never}
use Rattle.rows.specs.Moves.{count, settled_of}
use Rattle.rows.proofs.Promises.{count_map}
use Rattle.model.specs.Types.{Resolved}
use Rattle.model.specs.declared.Answer.TheVariants.{Denied, Accepted, Issued, Replied, NothingQueued, InFlight}
use Rattle.model.specs.Model.{Model, fresh_of}
use Rattle.model.specs.Steps.{Call, Reply, Outcome, step_of, after}
use Rattle.model.specs.Steps.Call.{Destinations, AwaitingQuorum, PollAddresses}
use Rattle.model.specs.Steps.Reply.{Says, Wakes, Lists, Keys, Matches, Leaves}
use Rattle.model.proofs.Refusals.{denied-alters-nothing}
use Rattle.claims.specs.Ledger.{Made, id_in, listed_in, history, past, present, ever_said, ever_issued, ever_settled, ever_listed, has, places, JustOne}
use Rattle.claims.specs.Causes.{Ever, Reported, Caused}
use Rattle.claims.proofs.Ledger.{issued-in-order, each-in-one-place}
use Rattle.claims.proofs.Causes.{success-for-cause, handed-off-for-cause}
use Rattle.events.specs.Events.{event_of}
use Rattle.events.specs.Routes.{results_in}
use Rattle.events.specs.declared.Event.{Event}
use Rattle.events.specs.declared.Event.TheVariants.{OnSettings, OnUnicast, OnCopy, OnUnrouted, OnBroadcast, OnDequeue, OnReport, OnPoll, OnAck, OnRetry, OnFail, OnRoute, OnDelivered, OnDrop, OnCancel, OnTick, OnAbandon, OnNextWake, OnPair, OnLists, OnHasUnrouted, OnHasAwaiting, Malformed}
use Rattle.answers.specs.declared.Item.{Item}
use Rattle.answers.specs.declared.Item.TheVariants.{Done, Handoff, Settlement, ShortAddress, ExtendedAddress, Key, DestinationAddress}
use Rattle.answers.specs.Items.{items_bytes, action_item}
use Rattle.answers.proofs.Lists.{items-append}
use Rattle.listings.specs.Maps.{keys_with}
use Rattle.exchange.specs.World.{World, Step, fresh_world, abandonment, said, refused, told, made, list_items, step_on}
use Rattle.runs.specs.Claims.{Read, world_by, world_over}
use Rattle.runs.specs.Histories.{calls_of, calls_by, calls_over, RunIsAHistory, ToldByTheStep, items_to, items_over, Spoken, nothing, said_by, and_then, said_in, ever_told, said_over, AnswersAreItems, AnswersSay, tables_over, told_over, whereabouts, TraceLedger, TraceSuccess, TraceHandedOff}

-- ---- the events by what they are to the tables: one call, none, or the three questions

data Sort (w : World) (e : Event) (rs : List Resolved) : Type 0 where
  one : (c : Call) → calls_of w e rs ≡ c ∷ [] → step_on w e rs ≡ made w c → Sort w e rs
  still : calls_of w e rs ≡ [] → (step_on w e rs).world.model ≡ w.model → said_in (step_on w e rs).items ≡ nothing → Sort w e rs
  asks : calls_of w e rs ≡ Destinations ∷ AwaitingQuorum ∷ PollAddresses w.longs w.shorts ∷ []
      → step_on w e rs ≡ record { world = w; items = list_items w } → Sort w e rs

sort-of : (w : World) (e : Event) (rs : List Resolved) → Sort w e rs
sort-of w (OnSettings s) rs = still refl refl refl
sort-of w (OnUnicast now u) rs = one _ refl refl
sort-of w (OnCopy id now u) rs = one _ refl refl
sort-of w (OnUnrouted now u) rs = one _ refl refl
sort-of w (OnBroadcast now u) rs = one _ refl refl
sort-of w (OnDequeue now) rs = one _ refl refl
sort-of w (OnReport from id frame x now delay) rs = one _ refl refl
sort-of w (OnPoll now eui nwk) rs = one _ refl refl
sort-of w (OnAck k) rs = one _ refl refl
sort-of w (OnRetry d) rs = one _ refl refl
sort-of w (OnFail d) rs = one _ refl refl
sort-of w (OnRoute now d n) rs = one _ refl refl
sort-of w (OnDelivered k) rs = one _ refl refl
sort-of w (OnDrop eui nwk) rs = one _ refl refl
sort-of w (OnCancel id) rs = one _ refl refl
sort-of w (OnTick now) rs = one _ refl refl
sort-of w OnAbandon rs = one _ refl refl
sort-of w OnNextWake rs = one _ refl refl
sort-of w (OnPair x y) rs =
    still refl (either (λ (t : Step). t.world.model ≡ w.model) (ltb 32 (length (keys_with x w.longs))) refl refl)
    (either (λ (t : Step). said_in t.items ≡ nothing) (ltb 32 (length (keys_with x w.longs))) refl refl)
sort-of w OnLists rs = asks refl refl
sort-of w (OnHasUnrouted d) rs = one _ refl refl
sort-of w (OnHasAwaiting a) rs = one _ refl refl
sort-of w Malformed rs = still refl refl refl

-- ---- 1. the tables

after_on : (m : Model) (cs ds : List Call) → after m (cs ++ ds) ≡ after (after m cs) ds
after_on m [] ds = refl
after_on m (c ∷ cs) ds = after_on (step_of m c).model cs ds

abbrev tables : Step → Model
tables t = t.world.model

module _ (w : World) (e : Event) (rs : List Resolved) where
  after-of : Sort w e rs → tables (step_on w e rs) ≡ after w.model (calls_of w e rs)
  after-of (one c h d) = ap tables d ∙ ap (after w.model) (sym h)
  after-of (still h d q) = d ∙ ap (after w.model) (sym h)
  after-of (asks h d) = ap tables d ∙ ap (after w.model) (sym h)

  event-after : tables (step_on w e rs) ≡ after w.model (calls_of w e rs)
  event-after = after-of (sort-of w e rs)

pub run-is-a-history : RunIsAHistory
run-is-a-history w [] = refl
run-is-a-history w (r ∷ rs) =
    run-is-a-history (world_by w r) rs
    ∙ (ap (λ (m : Model). after m (calls_over (world_by w r) rs)) (event-after w (event_of r.kind r.body) (results_in r.body))
    ∙ sym (after_on w.model (calls_by w r) (calls_over (world_by w r) rs)))

-- ---- 2. one call

-- the step of a list of calls that is one
abbrev one_step : World → Step → List Call → Step
one_step w d [] = d
one_step w d (c ∷ []) = made w c
one_step w d (c ∷ b ∷ cs) = d

pub told-by-the-step : ToldByTheStep
told-by-the-step w e rs c h = go (sort-of w e rs) ∙ ap (one_step w (step_on w e rs)) h
  where
    go : Sort w e rs → step_on w e rs ≡ one_step w (step_on w e rs) (calls_of w e rs)
    go (one k f d) = d ∙ ap (one_step w (step_on w e rs)) (sym f)
    go (still f d q) = ap (one_step w (step_on w e rs)) (sym f)
    go (asks f d) = ap (one_step w (step_on w e rs)) (sym f)

-- ---- 3. what is said

pub answers-are-items : AnswersAreItems
answers-are-items w [] = refl
answers-are-items w (r ∷ rs) =
    ap (λ (x : List ℕ). items_bytes (items_to w r) ++ x) (answers-are-items (world_by w r) rs) ∙ sym (items-append (items_to w r) (items_over (world_by w r) rs))

-- sayings one after the other
and-nothing : (a : Spoken) → and_then a nothing ≡ a
and-nothing a = λ k. record { issued = append-nil a.issued k; actions = append-nil a.actions k; left = append-nil a.left k }

and-then-and : (a b c : Spoken) → and_then (and_then a b) c ≡ and_then a (and_then b c)
and-then-and a b c =
    λ k. record {
      issued = append_assoc a.issued b.issued c.issued k;
      actions = append_assoc a.actions b.actions c.actions k;
      left = append_assoc a.left b.left c.left k;
    }

said-append : (is js : List Item) → said_in (is ++ js) ≡ and_then (said_in is) (said_in js)
said-append [] js = refl
said-append (i ∷ is) js = ap (and_then (said_by i)) (said-append is js) ∙ sym (and-then-and (said_by i) (said_in is) (said_in js))

-- an outcome's
abbrev pair : Entry → ℕ × ℕ
pair e = (e.id, e.waiter)

abbrev said_as : Reply → List Action → Spoken
said_as r acts = record { issued = id_in r; actions = acts; left = map pair (listed_in r) }

quiet : {A : Type 0} (f : A → Item) → ((x : A) → said_by (f x) ≡ nothing) → (xs : List A) → said_in (map f xs) ≡ nothing
quiet f q [] = refl
quiet f q (x ∷ xs) = ap₂ and_then (q x) (quiet f q xs)

left-say : (es : List Entry) → said_in (map abandonment es) ≡ said_as (Leaves es) []
left-say [] = refl
left-say (e ∷ es) = ap (and_then (said_by (abandonment e))) (left-say es)

reply-says : (r : Reply) → said_in (said r) ≡ said_as r []
reply-says (Says (Denied x)) = refl
reply-says (Says Accepted) = refl
reply-says (Says (Issued i)) = refl
reply-says (Says (Replied b)) = refl
reply-says (Says NothingQueued) = refl
reply-says (Says (InFlight i f t)) = refl
reply-says (Wakes None) = refl
reply-says (Wakes (Some t)) = refl
reply-says (Lists ds) = quiet DestinationAddress (λ x. refl) ds
reply-says (Keys ks) = quiet Key (λ x. refl) ks
reply-says (Matches ss ls) =
    said-append (map ShortAddress ss) (map ExtendedAddress ls) ∙ ap₂ and_then (quiet ShortAddress (λ x. refl) ss) (quiet ExtendedAddress (λ x. refl) ls)
reply-says (Leaves es) = left-say es

acts-say : (acts : List Action) → said_in (map action_item acts ++ (Done ∷ [])) ≡ record { issued = []; actions = acts; left = [] }
acts-say [] = refl
acts-say (HandedOff i waiter ∷ acts) = ap (and_then (said_by (Handoff i waiter))) (acts-say acts)
acts-say (Settled e v hop ∷ acts) = ap (and_then (said_by (Settlement e v hop))) (acts-say acts)

-- a refusal tells nothing
record Denies (r : Reply) : Type 0 where
  pub why : Refusal
  pub is-so : r ≡ Says (Denied why)

denial : (r : Reply) → refused r ≡ true → Denies r
denial (Says (Denied x)) h = record { why = x; is-so = refl }
denial (Says Accepted) h = never h
denial (Says (Issued i)) h = never h
denial (Says (Replied b)) h = never h
denial (Says NothingQueued) h = never h
denial (Says (InFlight i f t)) h = never h
denial (Wakes t) h = never h
denial (Lists ds) h = never h
denial (Keys ks) h = never h
denial (Matches ss ls) h = never h
denial (Leaves es) h = never h

told-says : (r : Reply) (acts : List Action) (b : Bool) → (b ≡ true → acts ≡ [])
    → said_in (pick b (said r) (said r ++ (map action_item acts ++ (Done ∷ [])))) ≡ said_as r acts
told-says r acts true h = reply-says r ∙ ap (said_as r) (sym (h refl))
told-says r acts false h =
    said-append (said r) (map action_item acts ++ (Done ∷ []))
    ∙ (ap₂ and_then (reply-says r) (acts-say acts) ∙ (λ k. record { issued = append-nil (id_in r) k; actions = acts; left = append-nil (map pair (listed_in r)) k }))

-- a history's
map_on : {A B : Type 0} (f : A → B) (xs ys : List A) → map f (xs ++ ys) ≡ map f xs ++ map f ys
map_on f [] ys = refl
map_on f (x ∷ xs) ys = ap (λ (l : List _). f x ∷ l) (map_on f xs ys)

one_more : (x : Made) (h : List Made) → said_over (x ∷ h) ≡ and_then (said_as x.1.reply x.1.actions) (said_over h)
one_more x h =
    λ k. record {
      issued = id_in x.1.reply ++ ever_said h;
      actions = x.1.actions ++ ever_told h;
      left = map_on pair (listed_in x.1.reply) (ever_listed h) k;
    }

over-on : (m : Model) (cs ds : List Call) → said_over (history m (cs ++ ds)) ≡ and_then (said_over (history m cs)) (said_over (history (after m cs) ds))
over-on m [] ds = refl
over-on m (c ∷ cs) ds =
    let o : Outcome = step_of m c in
    let a : Spoken = said_as o.reply o.actions in
    one_more (c, o) (history o.model (cs ++ ds))
    ∙ (ap (and_then a) (over-on o.model cs ds)
    ∙ (sym (and-then-and a (said_over (history o.model cs)) (said_over (history (after o.model cs) ds)))
    ∙ ap (λ (x : Spoken). and_then x (said_over (history (after o.model cs) ds))) (sym (one_more (c, o) (history o.model cs)))))

-- one call's
call-says : (m : Model) (c : Call) → said_in (told (step_of m c)) ≡ said_over (history m (c ∷ []))
call-says m c =
    let o : Outcome = step_of m c in
    told-says o.reply o.actions (refused o.reply) (λ h. let d = denial o.reply h in (denied-alters-nothing m c d.why d.is-so).1)
    ∙ (sym (and-nothing (said_as o.reply o.actions)) ∙ sym (one_more (c, o) []))

-- the three questions'
lists-say : (w : World) → said_in (list_items w) ≡ said_over (history w.model (Destinations ∷ AwaitingQuorum ∷ PollAddresses w.longs w.shorts ∷ []))
lists-say w =
    let m : Model = w.model in
    let c : Call = PollAddresses w.longs w.shorts in
    let x : Reply = (step_of m Destinations).reply in
    let y : Reply = (step_of m AwaitingQuorum).reply in
    let z : Reply = (step_of m c).reply in
    let last = said-append (said z) (Done ∷ []) ∙ (ap (λ (a : Spoken). and_then a nothing) (reply-says z) ∙ sym (one_more (c, step_of m c) [])) in
    said-append (said x) (said y ++ (said z ++ (Done ∷ [])))
    ∙ ap₂ and_then (reply-says x) (said-append (said y) (said z ++ (Done ∷ [])) ∙ ap₂ and_then (reply-says y) last)

module _ (w : World) (e : Event) (rs : List Resolved) where
  says_of : Sort w e rs → said_in (step_on w e rs).items ≡ said_over (history w.model (calls_of w e rs))
  says_of (one c h d) = ap (λ (t : Step). said_in t.items) d ∙ (call-says w.model c ∙ ap (λ (cs : List Call). said_over (history w.model cs)) (sym h))
  says_of (still h d q) = q ∙ ap (λ (cs : List Call). said_over (history w.model cs)) (sym h)
  says_of (asks h d) = ap (λ (t : Step). said_in t.items) d ∙ (lists-say w ∙ ap (λ (cs : List Call). said_over (history w.model cs)) (sym h))

  event-says : said_in (step_on w e rs).items ≡ said_over (history w.model (calls_of w e rs))
  event-says = says_of (sort-of w e rs)

pub answers-say : AnswersSay
answers-say w [] = refl
answers-say w (r ∷ rs) =
    let e : Event = event_of r.kind r.body in
    said-append (items_to w r) (items_over (world_by w r) rs)
    ∙ (ap₂ and_then (event-says w e (results_in r.body)) (answers-say (world_by w r) rs)
    ∙ (ap (λ (m : Model). and_then (said_over (history w.model (calls_by w r))) (said_over (history m (calls_over (world_by w r) rs)))) (event-after w e (results_in r.body))
    ∙ sym (over-on w.model (calls_by w r) (calls_over (world_by w r) rs))))

-- ---- 4. the ledger

settled_on : (xs ys : List Action) → settled_of (xs ++ ys) ≡ settled_of xs ++ settled_of ys
settled_on [] ys = refl
settled_on (HandedOff i waiter ∷ xs) ys = settled_on xs ys
settled_on (Settled e v hop ∷ xs) ys = ap (λ (l : List Entry). e ∷ l) (settled_on xs ys)

settled-told : (h : List Made) → settled_of (ever_told h) ≡ ever_settled h
settled-told [] = refl
settled-told (x ∷ h) = settled_on x.1.actions (ever_told h) ∙ ap (λ (l : List Entry). settled_of x.1.actions ++ l) (settled-told h)

-- the send that a said id was issued to
record Sent (i : ℕ) (es : List Entry) : Type 0 where
  pub send : Entry
  pub named : send.id ≡ i
  pub there : Memᴰ send es

send-of : (i : ℕ) (es : List Entry) → Memᴰ i (map (λ (e : Entry). e.id) es) → Sent i es
send-of i [] h = absurd (mathlib.Core.List.Memᴰ.not-nil h)
send-of i (e ∷ es) h =
    ⊎_elim
    (λ (q : i ≡ e.id). record { send = e; named = sym q; there = mathlib.Core.List.Memᴰ.head refl })
    (λ (k : Memᴰ i (map (λ (x : Entry). x.id) es)). let s = send-of i es k in record { send = s.send; named = s.named; there = mathlib.Core.List.Memᴰ.tail s.there })
    (mathlib.Core.List.Memᴰ.cases_cons h)

-- the places, by tables and by what was said
abbrev places_by : Model → Spoken → ℕ → List ℕ
places_by m a i =
    count (has i) (map unicast_entry m.unicasts)
    ∷ count (has i) (map unrouted_entry m.unrouted)
    ∷ count (has i) (map broadcast_entry m.broadcasts)
    ∷ count (has i) (settled_of a.actions)
    ∷ count (λ (x : ℕ × ℕ). eqb x.0 i) a.left ∷ []

module _ (rs : List Read) where
  abbrev calls : List Call
  calls = calls_over fresh_world rs

  tables-are : tables_over rs ≡ present 0 calls
  tables-are = run-is-a-history fresh_world rs

  same-places : (i : ℕ) → whereabouts rs i ≡ places 0 calls (has i)
  same-places i =
      let h : List Made = past 0 calls in
      let m : Model = present 0 calls in
      let settled : count (has i) (settled_of (ever_told h)) ≡ count (has i) (ever_settled h) = ap (count (has i)) (settled-told h) in
      let listed : count (λ (x : ℕ × ℕ). eqb x.0 i) (map pair (ever_listed h)) ≡ count (has i) (ever_listed h) = count_map (λ (x : ℕ × ℕ). eqb x.0 i) pair (ever_listed h) in
      ap₂ (λ (n : Model) (a : Spoken). places_by n a i) tables-are (answers-say fresh_world rs)
      ∙ ap₂ (λ (x y : ℕ). count (has i) (map unicast_entry m.unicasts) ∷ count (has i) (map unrouted_entry m.unrouted) ∷ count (has i) (map broadcast_entry m.broadcasts) ∷ x ∷ y ∷ []) settled listed

pub trace-ledger : TraceLedger
trace-ledger rs i h =
    let cs : List Call = calls_over fresh_world rs in
    let l : 0 ≤ no_id = omega arith in
    let e : (told_over rs).issued ≡ map (λ (x : Entry). x.id) (ever_issued (past 0 cs)) = ap (λ (a : Spoken). a.issued) (answers-say fresh_world rs) ∙ (issued-in-order 0 cs l).said in
    let s = send-of i (ever_issued (past 0 cs)) (subst (Memᴰ i) e h) in
    let one : JustOne (places 0 cs (has s.send.id)) = (each-in-one-place 0 cs s.send l s.there).its-id in
    subst JustOne (sym (same-places rs i)) (subst (λ (j : ℕ). JustOne (places 0 cs (has j))) s.named one)

-- ---- 5. success for cause

-- an action among answers
act-among : (a : Action) (is : List Item) → Memᴰ (action_item a) is → Memᴰ a (said_in is).actions
act-among a [] h = absurd (mathlib.Core.List.Memᴰ.not-nil h)
act-among a (i ∷ is) h =
    ⊎_elim
    (λ (q : action_item a ≡ i). mathlib.Core.List.Memᴰ.append_left (said_in is).actions (subst (λ (x : Item). Memᴰ a (said_by x).actions) q (itself a)))
    (λ (k : Memᴰ (action_item a) is). mathlib.Core.List.Memᴰ.append_right (said_by i).actions (act-among a is k))
    (mathlib.Core.List.Memᴰ.cases_cons h)
  where
    itself : (a : Action) → Memᴰ a (said_by (action_item a)).actions
    itself (HandedOff i waiter) = mathlib.Core.List.Memᴰ.head refl
    itself (Settled e v hop) = mathlib.Core.List.Memᴰ.head refl

-- the call that told it, after the calls of the records before
record ToldBy (a : Action) (rs : List Read) (r : Read) : Type 0 where
  pub call : Call
  pub last : calls_over fresh_world (rs ++ (r ∷ [])) ≡ calls_over fresh_world rs ++ (call ∷ [])
  pub tells : Memᴰ a (step_of (after (fresh_of 0) (calls_over fresh_world rs)) call).actions

calls-on : (w : World) (rs : List Read) (r : Read) → calls_over w (rs ++ (r ∷ [])) ≡ calls_over w rs ++ calls_by (world_over w rs) r
calls-on w [] r = append-nil (calls_by w r)
calls-on w (x ∷ rs) r = ap (λ (cs : List Call). calls_by w x ++ cs) (calls-on (world_by w x) rs r) ∙ sym (append_assoc (calls_by w x) (calls_over (world_by w x) rs) (calls_by (world_over (world_by w x) rs) r))

module _ (a : Action) (rs : List Read) (r : Read) where
  abbrev before : World
  before = world_over fresh_world rs

  by-sort : Memᴰ a (ever_told (history before.model (calls_by before r))) → Sort before (event_of r.kind r.body) (results_in r.body) → ToldBy a rs r
  by-sort h (one c e d) =
      let k : Memᴰ a ((step_of before.model c).actions ++ []) = subst (λ (cs : List Call). Memᴰ a (ever_told (history before.model cs))) e h in
      record {
        call = c;
        last = calls-on fresh_world rs r ∙ ap (λ (cs : List Call). calls_over fresh_world rs ++ cs) e;
        tells = subst (λ (m : Model). Memᴰ a (step_of m c).actions) (run-is-a-history fresh_world rs) (subst (Memᴰ a) (append-nil (step_of before.model c).actions) k);
      }
  by-sort h (still e d q) = absurd (mathlib.Core.List.Memᴰ.not-nil (subst (λ (cs : List Call). Memᴰ a (ever_told (history before.model cs))) e h))
  by-sort h (asks e d) = absurd (mathlib.Core.List.Memᴰ.not-nil (subst (λ (cs : List Call). Memᴰ a (ever_told (history before.model cs))) e h))

  told-by : Memᴰ (action_item a) (items_to before r) → ToldBy a rs r
  told-by h =
      let e : Event = event_of r.kind r.body in
      by-sort (subst (λ (x : Spoken). Memᴰ a x.actions) (event-says before e (results_in r.body)) (act-among a (items_to before r) h)) (sort-of before e (results_in r.body))

pub trace-success : TraceSuccess
trace-success rs r e hop h =
    let t = told-by (Settled e Success hop) rs r h in
    subst (λ (cs : List Call). Caused (Ever (fresh_of 0) cs) e.id) (sym t.last) (success-for-cause 0 (calls_over fresh_world rs) t.call e hop (omega arith) t.tells)

pub trace-handed-off : TraceHandedOff
trace-handed-off rs r i waiter h =
    let t = told-by (HandedOff i waiter) rs r h in
    subst (λ (cs : List Call). Ever (fresh_of 0) cs (Reported i)) (sym t.last) (handed-off-for-cause 0 (calls_over fresh_world rs) t.call i waiter (omega arith) t.tells)
