-- What the calls on slots leave in the rows.
use Rattle.std.proofs.Common.{◌≡◌, ℕ, ◌+◌, ◌<◌, Bool, true, false, ◌==◌, ◌&&◌, ◌||◌, List, [], ◌∷◌, ◌++◌, Option, None, Some, refl, ◌∙◌, ap, arith, fold, zero, suc, add-zero, add-one, zero-add}
use Rattle.std.specs.Prelude.{All, IfSome, filter}
use Rattle.std.specs.List.{range_with_len}
use Rattle.std.specs.Int.{bit_at}
use Rattle.std.proofs.lemmas.Bool.Decides.{nat_tests}
use Rattle.std.proofs.lemmas.Grind.{fold-append}
use Rattle.std.proofs.lemmas.List.{append-nil}
use Rattle.std.proofs.lemmas.Nat.Bits.{bit_at-zero}
use Rattle.std.proofs.lemmas.List.Elements.{filter-append, filter_agree}
use Rattle.row_store.specs.declared.Row.{Row}
use Rattle.row_store.specs.Rows.{item_at}
use Rattle.row_store.specs.inner.Rows.{NumbersRise, with_item, unlinked, without, changed_at}
use Rattle.row_store.proofs.Changes.{changed_at-for, changed_at-kept, changed_at-twice, fold-unlinked}
use Rattle.dest_queue.specs.declared.slots.Queued.{Queued}
use Rattle.dest_queue.specs.declared.slots.Slot.{Slot}
use Rattle.dest_queue.specs.declared.SlotState.{SlotState}
use Rattle.dest_queue.specs.States.{is_live, is_waiting}
use Rattle.dest_queue.specs.Slots.{is_at}
use Rattle.dest_queue.specs.inner.Slots.{with_state, waits_at, has_bit, everywhere, cancelled}
use Rattle.dest_queue.specs.inner.Queues.{put, settle, cancel, waiting_at, waits_in}
use Rattle.dest_queue.proofs.SlotLemmas.{cancelled-everywhere, waits-everywhere}

or-false_left : (named a b : Bool) → (named && (a || b)) ≡ false → (named && a) ≡ false
or-false_left true true b none = none
or-false_left true false b none = refl
or-false_left false a b none = refl

or-false_right : (named a b : Bool) → (named && (a || b)) ≡ false → (named && b) ≡ false
or-false_right true true b none = absurd cc
or-false_right true false b none = none
or-false_right false a b none = refl

not_waiting : (named : Bool) (d : ℕ) (slot : Slot) → (named && (is_at d slot && is_waiting slot.state)) ≡ false → slot.destination ≡ d → (named && is_waiting slot.state) ≡ false
not_waiting named d slot idle same = let here : is_at d slot ≡ true = grind (arith, nat_tests) in rw here at idle

-- slots none of which waits at one of these destinations stay as they are
cancelled-idle : (among : ℕ → Bool) (slots : List Slot) → ((d : ℕ) → (among d && waits_at d slots) ≡ false) → cancelled among slots ≡ slots
cancelled-idle among [] idle = refl
cancelled-idle among (slot ∷ slots) idle =
    let first : (among slot.destination && is_waiting slot.state) ≡ false = not_waiting (among slot.destination) slot.destination slot
    (or-false_left (among slot.destination) (is_at slot.destination slot && is_waiting slot.state) (waits_at slot.destination slots) (idle slot.destination)) refl in
    rw first (ap (λ rest. slot ∷ rest) (cancelled-idle among slots (λ d. or-false_right (among d) (is_at d slot && is_waiting slot.state) (waits_at d slots) (idle d))))

filter-none : (p : ℕ → Bool) (xs : List ℕ) → ((x : ℕ) → p x ≡ false) → filter p xs ≡ []
filter-none p [] none = refl
filter-none p (x ∷ xs) none = rw (none x) (filter-none p xs none)

range_with_len-push : (a n : ℕ) → range_with_len a (suc n) ≡ range_with_len a n ++ (a + n) ∷ []
range_with_len-push a zero = rw (add-zero a) refl
range_with_len-push a (suc n) =
    let next : a + 1 + n ≡ a + suc n = omega arith in
    ap (λ ks. a ∷ ks) (range_with_len-push (a + 1) n ∙ rw next refl)

range-push : (n : ℕ) → range_with_len 0 (n + 1) ≡ range_with_len 0 n ++ n ∷ []
range-push n = rw (add-one n) (range_with_len-push 0 n ∙ rw (zero-add n) refl)

pub waiting_at-bits : (among : ℕ → Bool) (mask : ℕ) (slots : List Slot) → ((d : ℕ) → (bit_at mask d == 1) ≡ (among d && waits_at d slots)) → filter (λ d. bit_at mask d == 1) (range_with_len 0 32) ≡ waiting_at among slots
unfolding waiting_at
waiting_at-bits among mask slots same = filter_agree (λ d. bit_at mask d == 1) (λ d. among d && waits_at d slots) same (range_with_len 0 32)

waiting_at-idle : (among : ℕ → Bool) (slots : List Slot) → ((d : ℕ) → (among d && waits_at d slots) ≡ false) → waiting_at among slots ≡ []
unfolding waiting_at
waiting_at-idle among slots idle = filter-none (λ d. among d && waits_at d slots) (range_with_len 0 32) idle

waiting_at-everywhere : (slots : List Slot) → All (λ slot. slot.destination < 32) slots → waiting_at (has_bit 4294967295) slots ≡ waiting_at everywhere slots
unfolding waiting_at
waiting_at-everywhere slots bounded = filter_agree (λ d. has_bit 4294967295 d && waits_at d slots) (λ d. everywhere d && waits_at d slots) (waits-everywhere slots bounded) (range_with_len 0 32)

module _ {T : Type 0} (n : ℕ) where
  -- a slot is written through its row's item
  pub put-written : (d : ℕ) (state : SlotState) (rows : List (Row (Queued T))) (message : Queued T) → NumbersRise rows → item_at n rows ≡ Some message
      → with_item n (record message { slots = with_state d state message.slots }) rows ≡ changed_at n (put d state) rows
  put-written d state rows message rise found =
      changed_at-for n (λ row. record row { item = record message { slots = with_state d state message.slots } })
      (λ row. record row { item = record row.item { slots = with_state d state row.item.slots } }) rows message rise found
      (λ row same. rw same refl)

  -- a slot that is settled for good leaves its queue
  pub settle-for_good : (d : ℕ) (state : SlotState) (rows : List (Row (Queued T))) → is_live state ≡ false → unlinked n d (changed_at n (put d state) rows) ≡ changed_at n (settle d state) rows
  settle-for_good d state rows dead =
      changed_at-twice n (λ row. record row { mask = without d row.mask }) (λ row. record row { item = record row.item { slots = with_state d state row.item.slots } }) (λ row. refl) rows
      ∙ rw dead refl

  -- the slots of a message are cancelled, and it leaves one queue after another
  pub cancel-folded : (among : ℕ → Bool) (rows : List (Row (Queued T))) (message : Queued T) (ds : List ℕ) → NumbersRise rows → item_at n rows ≡ Some message → ds ≡ waiting_at among message.slots
      → fold (λ rows d. unlinked n d rows) (with_item n (record message { slots = cancelled among message.slots }) rows) ds ≡ changed_at n (cancel among) rows
  cancel-folded among rows message ds rise found waits =
      fold-unlinked n ds (λ row. record row { item = record message { slots = cancelled among message.slots } }) (λ row. refl) rows
      ∙ changed_at-for n (λ row. record row { item = record message { slots = cancelled among message.slots }; mask = fold (λ mask d. without d mask) row.mask ds })
      (λ row. record row { item = record row.item { slots = cancelled among row.item.slots }; mask = fold (λ mask d. without d mask) row.mask (waiting_at among row.item.slots) }) rows message rise found
      (λ row same. rw (same, waits) refl)

  -- one more queue is left, or not
  pub fold-left : (mask d : ℕ) (rows : List (Row (Queued T))) → (bit_at mask d == 1) ≡ true
      → fold (λ rows d. unlinked n d rows) rows (filter (λ d. bit_at mask d == 1) (range_with_len 0 (d + 1))) ≡ unlinked n d (fold (λ rows d. unlinked n d rows) rows (filter (λ d. bit_at mask d == 1) (range_with_len 0 d)))
  fold-left mask d rows set =
      rw (range-push d, filter-append (λ d. bit_at mask d == 1) (range_with_len 0 d) (d ∷ []), set, fold-append) refl

  pub fold-stayed : (mask d : ℕ) (rows : List (Row (Queued T))) → (bit_at mask d == 1) ≡ false
      → fold (λ rows d. unlinked n d rows) rows (filter (λ d. bit_at mask d == 1) (range_with_len 0 (d + 1))) ≡ fold (λ rows d. unlinked n d rows) rows (filter (λ d. bit_at mask d == 1) (range_with_len 0 d))
  fold-stayed mask d rows clear =
      rw (range-push d, filter-append (λ d. bit_at mask d == 1) (range_with_len 0 d) (d ∷ []), clear, append-nil) refl

  -- where a message waits nowhere, nothing changes
  pub cancel-idle : (among : ℕ → Bool) (rows : List (Row (Queued T))) (message : Queued T) → NumbersRise rows → item_at n rows ≡ Some message → ((d : ℕ) → (among d && waits_at d message.slots) ≡ false) → changed_at n (cancel among) rows ≡ rows
  cancel-idle among rows message rise found idle =
      changed_at-for n (λ row. record row { item = record row.item { slots = cancelled among row.item.slots }; mask = fold (λ mask d. without d mask) row.mask (waiting_at among row.item.slots) }) (λ row. row) rows message rise found
      (λ row same.
      let slots : cancelled among row.item.slots ≡ row.item.slots = rw same (cancelled-idle among message.slots idle) in
      let none : waiting_at among row.item.slots ≡ [] = rw same (waiting_at-idle among message.slots idle) in
      rw (slots, none) refl)
      ∙ changed_at-kept n rows

  -- a cancellation among all 32 destinations is one everywhere
  pub cancel-everywhere : (rows : List (Row (Queued T))) (message : Queued T) → NumbersRise rows → item_at n rows ≡ Some message → All (λ slot. slot.destination < 32) message.slots
      → changed_at n (cancel (has_bit 4294967295)) rows ≡ changed_at n (cancel everywhere) rows
  cancel-everywhere rows message rise found bounded =
      changed_at-for n (λ row. record row { item = record row.item { slots = cancelled (has_bit 4294967295) row.item.slots }; mask = fold (λ mask d. without d mask) row.mask (waiting_at (has_bit 4294967295) row.item.slots) })
      (λ row. record row { item = record row.item { slots = cancelled everywhere row.item.slots }; mask = fold (λ mask d. without d mask) row.mask (waiting_at everywhere row.item.slots) }) rows message rise found
      (λ row same.
      let slots : cancelled (has_bit 4294967295) row.item.slots ≡ cancelled everywhere row.item.slots = rw same (cancelled-everywhere message.slots bounded) in
      let left : waiting_at (has_bit 4294967295) row.item.slots ≡ waiting_at everywhere row.item.slots = rw same (waiting_at-everywhere message.slots bounded) in
      rw (slots, left) refl)

  -- it waits there as it waits anywhere
  pub waits_in-everywhere : (rows : List (Row (Queued T))) (message : Queued T) → item_at n rows ≡ Some message → All (λ slot. slot.destination < 32) message.slots
      → (d : ℕ) → (has_bit 4294967295 d && waits_in n d rows) ≡ waits_in n d rows
  waits_in-everywhere rows message found bounded d = rw found (waits-everywhere message.slots bounded d)

-- a mask whose bits are as two tests that agree
pub mask-alike : (o : Option ℕ) (f g : ℕ → Bool) → ((d : ℕ) → f d ≡ g d) → IfSome o (λ mask. (d : ℕ) → (bit_at mask d == 1) ≡ f d) → IfSome o (λ mask. (d : ℕ) → (bit_at mask d == 1) ≡ g d)
mask-alike None f g same is = tt
mask-alike (Some mask) f g same is = λ d. is d ∙ same d

-- a mask of no bit
pub no_bits : (d : ℕ) → (bit_at 0 d == 1) ≡ false
no_bits d = rw (bit_at-zero d) refl

bits-at : (among : ℕ → Bool) (mask d : ℕ) (slots : List Slot) → d ≡ 32 → ((d : ℕ) → (bit_at mask d == 1) ≡ (among d && waits_at d slots)) → filter (λ d. bit_at mask d == 1) (range_with_len 0 d) ≡ waiting_at among slots
bits-at among mask d slots end same = ap (λ n. filter (λ d. bit_at mask d == 1) (range_with_len 0 n)) end ∙ waiting_at-bits among mask slots same

-- the rows when each queue was looked at
pub cancel-done : {T : Type 0} (among : ℕ → Bool) (n mask d : ℕ) (before start after : List (Row (Queued T))) (message : Queued T) (slots : List Slot)
    → NumbersRise before → item_at n before ≡ Some message → slots ≡ cancelled among message.slots → ((d : ℕ) → (bit_at mask d == 1) ≡ (among d && waits_at d message.slots))
    → start ≡ with_item n (record message { slots = slots }) before → d ≡ 32
    → after ≡ fold (λ rows d. unlinked n d rows) start (filter (λ d. bit_at mask d == 1) (range_with_len 0 d)) → after ≡ changed_at n (cancel among) before
cancel-done among n mask d before start after message slots rise found are bits written end folded =
    let begun = written ∙ ap (λ slots. with_item n (record message { slots = slots }) before) are in
    folded
    ∙ ap (λ start. fold (λ rows d. unlinked n d rows) start (filter (λ d. bit_at mask d == 1) (range_with_len 0 d))) begun
    ∙ cancel-folded n among before message _ rise found (bits-at among mask d message.slots end bits)
