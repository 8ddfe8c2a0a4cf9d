-- Actions told one after the other, and each says itself again. What the crates above may cite of this one. Assumes nothing.
use Rattle.std.specs.Prelude.{Option}
use Prim.Native.Nat.{ℕ, ◌+◌, ◌*◌, ◌/◌, ◌%◌, ◌<◌}
use native.Mathlib.Nat.{mod-eq_of_lt, add-mul, add-zero, add_assoc}
use native.Mathlib.Omega.{arith}
use mathlib.Core.Path.{◌≡◌, refl, sym, ap, ap₂, ◌∙◌}
use mathlib.Core.List.{List, [], ◌∷◌, ◌++◌}
use lib.ListN.{length, length-append}
use lib.Seq.{sets}
use Rattle.records.specs.Numbers.{verdict_number, verdict_address, verdict_code}
use Rattle.records.specs.declared.SendFailure.TheVariants.{HandoffTimeout, ApsAckTimeout, IndirectExpired, RouteDiscoveryTimeout, BroadcastQuorumNotReached, Cancelled}
use Rattle.records.specs.declared.Verdict.{Verdict}
use Rattle.records.specs.declared.Verdict.TheVariants.{Success, Failure, Code}
use Rattle.records.specs.declared.Entry.{Entry}
use Rattle.records.specs.declared.Action.{Action}
use Rattle.records.specs.declared.Action.TheVariants.{HandedOff, Settled}
use Rattle.codes.specs.Codes.{CodedAddress, opt16_word, opt16_from, address_tag, address_word, address_from}
use Rattle.codes.proofs.Backs.{address-low}
use Rattle.rows.specs.Lists.{All}
use Rattle.rows.specs.Rows.{flat}
use Rattle.rows.proofs.Sets.{sets-append}
use Rattle.rows.proofs.Flat.{length-flat, flat_append}
use Rattle.actions.specs.Told.{verdict_from, settled_tags, CodedTags, action_words, Exact, tell, Told}

-- ---- a verdict by its number

pub verdict-back : (v : Verdict) → verdict_from (verdict_number v) (verdict_address v) (verdict_code v) ≡ v
verdict-back Success = refl
verdict-back (Failure HandoffTimeout) = refl
verdict-back (Failure ApsAckTimeout) = refl
verdict-back (Failure (IndirectExpired a)) = refl
verdict-back (Failure RouteDiscoveryTimeout) = refl
verdict-back (Failure BroadcastQuorumNotReached) = refl
verdict-back (Failure Cancelled) = refl
verdict-back (Code c) = refl

pub number-low : (v : Verdict) → verdict_number v < 8
number-low Success = omega arith
number-low (Failure HandoffTimeout) = omega arith
number-low (Failure ApsAckTimeout) = omega arith
number-low (Failure (IndirectExpired a)) = omega arith
number-low (Failure RouteDiscoveryTimeout) = omega arith
number-low (Failure BroadcastQuorumNotReached) = omega arith
number-low (Failure Cancelled) = omega arith
number-low (Code c) = omega arith

-- ---- an action says itself again

pub handed-exact : (id waiter : ℕ) → id < 4294967296 → waiter < 4294967296 → Exact (HandedOff id waiter)
handed-exact id waiter hi hw = ap₂ HandedOff (mod-eq_of_lt hi) (mod-eq_of_lt hw)

module _ (v a c h : ℕ) (hv : v < 8) (ha : a < 4) (hc : c < 65536) (hh : h < 131072) where
  abbrev tags : ℕ
  tags = 1 + 2 * (v + 8 * (a + 4 * (c + 65536 * h)))

  tags0 : tags % 2 ≡ 1
  tags0 = omega arith

  tags1 : tags / 2 % 8 ≡ v
  tags1 = omega arith

  tags2 : tags / 16 % 4 ≡ a
  tags2 = omega arith

  tags3 : tags / 64 % 65536 ≡ c
  tags3 = omega arith

  tags4 : tags / 4194304 % 131072 ≡ h
  tags4 = omega arith

pub settled-exact : (e : Entry) (v : Verdict) (hop : Option ℕ) {t ar : ℕ} → e.id < 4294967296 → e.waiter < 4294967296 → e.frame < 4294967296
    → CodedTags v hop t → CodedAddress (verdict_address v) ar → Exact (Settled e v hop)
settled-exact e v hop hi hw hf t a =
    let n : ℕ = verdict_number v in
    let g : ℕ = address_tag (verdict_address v) in
    let c : ℕ = verdict_code v in
    let h : ℕ = opt16_word hop in
    let w : ℕ = address_word (verdict_address v) in
    let hn : n < 8 = number-low v in
    let hg : g < 4 = address-low (verdict_address v) in
    let hc : c < 65536 = t.code in
    let hh : h < 131072 = t.hop-back.low in
    let ee : ◌≡◌ {A = Entry} (record { id = e.id % 4294967296; waiter = e.waiter % 4294967296; frame = e.frame % 4294967296 }) e =
    λ k. record { id = mod-eq_of_lt hi k; waiter = mod-eq_of_lt hw k; frame = mod-eq_of_lt hf k } in
    let ea : address_from (settled_tags v hop / 16 % 4) w ≡ verdict_address v = ap (λ (m : ℕ). address_from m w) (tags2 n g c h hn hg hc hh) ∙ a.back in
    let ec : settled_tags v hop / 64 % 65536 % 65536 ≡ c = ap (λ (m : ℕ). m % 65536) (tags3 n g c h hn hg hc hh) ∙ mod-eq_of_lt hc in
    let ev : verdict_from (settled_tags v hop / 2 % 8) (address_from (settled_tags v hop / 16 % 4) w) (settled_tags v hop / 64 % 65536 % 65536) ≡ v =
    ap (λ (m : ℕ). verdict_from m (address_from (settled_tags v hop / 16 % 4) w) (settled_tags v hop / 64 % 65536 % 65536)) (tags1 n g c h hn hg hc hh)
    ∙ ap₂ (verdict_from n) ea ec ∙ verdict-back v in
    let eh : opt16_from (settled_tags v hop / 4194304 % 131072) ≡ hop = ap opt16_from (tags4 n g c h hn hg hc hh) ∙ t.hop-back.back in
    rw (tags0 n g c h hn hg hc hh) (λ k. Settled (ee k) (ev k) (eh k))

-- ---- one after the other

pub tell-append : (m : ℕ) (as₁ as₂ : List Action) (ws : List ℕ) → tell (m + length as₁) as₂ (tell m as₁ ws) ≡ tell m (as₁ ++ as₂) ws
tell-append m as₁ as₂ ws =
    let long : (a : Action) → length (action_words a) ≡ 5 = λ a. words_long a in
    ap (λ (o : ℕ). sets (tell m as₁ ws) o (flat action_words as₂)) (add-mul m (length as₁) 5 ∙ ap (λ (n : ℕ). m * 5 + n) (sym (length-flat 5 action_words long as₁)))
    ∙ sym (sets-append ws (m * 5) (flat action_words as₁) (flat action_words as₂))
    ∙ ap (sets ws (m * 5)) (sym (flat_append 5 action_words long as₁ as₂))
  where
    words_long : (a : Action) → length (action_words a) ≡ 5
    words_long (HandedOff i w) = refl
    words_long (Settled e v h) = refl

all_append : {A : Type 0} (P : A → Type 0) (xs ys : List A) → All P xs → All P ys → All P (xs ++ ys)
all_append P [] ys a b = b
all_append P (x ∷ xs) ys a b = (a.0, all_append P xs ys a.1 b)

pub told_none : (m : ℕ) (ws : List ℕ) → Told m [] ws ws m
told_none m ws = record { words = refl; next = sym (add-zero m); exact = tt }

pub told-append : {m r r' : ℕ} {as₁ as₂ : List Action} {ws ws₁ ws₂ : List ℕ} → Told m as₁ ws ws₁ r → Told r as₂ ws₁ ws₂ r' → Told m (as₁ ++ as₂) ws ws₂ r'
told-append {m} {r} {r'} {as₁} {as₂} {ws} {ws₁} {ws₂} p q =
    record {
      words = q.words ∙ ap₂ (λ (k : ℕ) (w : List ℕ). tell k as₂ w) p.next p.words ∙ tell-append m as₁ as₂ ws;
      next = q.next ∙ ap (λ (k : ℕ). k + length as₂) p.next ∙ add_assoc m (length as₁) (length as₂) ∙ ap (λ (k : ℕ). m + k) (sym (length-append as₁ as₂));
      exact = all_append Exact as₁ as₂ p.exact q.exact;
    }
