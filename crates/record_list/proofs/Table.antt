-- The table of a node's links: reading one, writing one, and what a node has that stands alone.
use Rattle.std.proofs.Common.{◌≡◌, ◌≢◌, ◌<◌, ◌+◌, ◌-◌, ◌^◌, ◌==◌, ℕ, cond, inl, inr, nat_lt, true, false, if◌then◌else◌, List, map, slice_index_or, slice_set, refl, sym, ap, ◌∙◌, subst, arith, length-set}
use Rattle.std.specs.List.{range_with_len}
use Rattle.std.specs.Int.{bit_at}
use Rattle.std.proofs.lemmas.Bool.Decides.{nat_tests}
use Rattle.std.proofs.lemmas.List.{ext_get_or, get_or-set_other, get_or-set_same}
use Rattle.std.proofs.lemmas.List.FromFn.{get_or-map-range_with_len, length-map-range_with_len}
use Rattle.std.proofs.lemmas.Nat.Bits.{bit_at-zero}
use Rattle.std.specs.declared.option.Option.{Option}
use Rattle.std.specs.declared.option.Option.TheVariants.{None}
use Rattle.row_store.specs.inner.Rows.{without}
use Rattle.row_store.proofs.Bits.{bit_at-without_other}
use Rattle.record_list.specs.declared.row_head.Link.{Link}
use Rattle.std.specs.Option.{is_some}
use Rattle.std.proofs.lemmas.Bool.{cases_lt}
use Rattle.std.proofs.lemmas.Nat.Bits.{bit_at_above, bit_at-pow_same}
use Rattle.record_list.specs.declared.row_head.Neighbours.{Neighbours}
use Rattle.record_list.specs.declared.row_head.LinkKind.{LinkKind}
use Rattle.record_list.specs.declared.row_head.LinkKind.TheVariants.{Absent, Alone, First, Middle, Last}
use Rattle.record_list.specs.declared.row_head.HeadParts.{HeadParts}
use Rattle.record_list.specs.declared.row_head.HeadParts.TheVariants.{OneQueue, Several}
use Rattle.record_list.specs.inner.Packing.{is_seated, link_of, mask_after, slot_of, link_in, table_of}
use Rattle.record_list.specs.inner.Seating.{queue_seat_of, queue_ends_of, mask_of, mask_with}
use Rattle.record_list.specs.inner.Stands.{stands, new_link}
use Rattle.record_list.proofs.Entering.{differ, same}

-- which queue has that slot
abbrev pub queue_at : ℕ → ℕ → ℕ
queue_at queue slot = if nat_lt slot queue then slot else slot + 1

pub queue_at_slot : (queue d : ℕ) → d ≢ queue → queue_at queue (slot_of queue d) ≡ d
queue_at_slot queue d other = grind (arith, nat_tests)

pub slot_lt : (queue d : ℕ) → d ≢ queue → d < 32 → queue < 32 → slot_of queue d < 31
slot_lt queue d other lt few = grind (arith, nat_tests)

slots_differ : (queue d e : ℕ) → d ≢ queue → e ≢ queue → e ≢ d → slot_of queue e ≢ slot_of queue d
slots_differ queue d e other also apart is = apart (sym (queue_at_slot queue e also) ∙ ap (queue_at queue) is ∙ queue_at_slot queue d other)

at_first : (queue : ℕ) (first : Option Link) (others : List (Option Link)) (d : ℕ) → d ≡ queue → link_in queue first others d ≡ first
at_first queue first others d is = grind (arith, nat_tests)

at_other : (queue : ℕ) (first : Option Link) (others : List (Option Link)) (d : ℕ) → d ≢ queue → link_in queue first others d ≡ slice_index_or others (slot_of queue d) None
at_other queue first others d other = grind (arith, nat_tests)

module _ (queue : ℕ) (first : Option Link) (others : List (Option Link)) where
  table_at : (d : ℕ) → d < 32 → slice_index_or (table_of queue first others) d None ≡ link_in queue first others d
  table_at d lt = get_or-map-range_with_len (link_in queue first others) 0 32 d d None lt (omega arith)

  pub read_first : (d : ℕ) → d < 32 → d ≡ queue → slice_index_or (table_of queue first others) d None ≡ first
  read_first d lt is = table_at d lt ∙ at_first queue first others d is

  pub read_other : (d : ℕ) → d < 32 → d ≢ queue → slice_index_or (table_of queue first others) d None ≡ slice_index_or others (slot_of queue d) None
  read_other d lt other = table_at d lt ∙ at_other queue first others d other

-- a table that differs in the chain d alone
changed : (f g : ℕ → Option Link) (d : ℕ) (x : Option Link) → d < 32 → g d ≡ x → ((e : ℕ) → e ≢ d → g e ≡ f e) → map g (range_with_len 0 32) ≡ slice_set (map f (range_with_len 0 32)) d x
changed f g d x lt at rest = ext_get_or None (map g (range_with_len 0 32)) (slice_set (map f (range_with_len 0 32)) d x)
    (length-map-range_with_len g 0 32 ∙ sym (length-set (map f (range_with_len 0 32)) d x ∙ length-map-range_with_len f 0 32))
    (λ e inside. get_or-map-range_with_len g 0 32 e e None (omega (arith, inside, length-map-range_with_len g 0 32)) (omega arith) ∙ (elim (e == d) as (λ b. (e == d) ≡ b → g e ≡ slice_index_or (slice_set (map f (range_with_len 0 32)) d x) e None) [
      | true ↦ λ q. subst (λ k. g k ≡ slice_index_or (slice_set (map f (range_with_len 0 32)) d x) k None) (sym (same e d q)) (at ∙ sym (get_or-set_same (map f (range_with_len 0 32)) d x None lt))
      | false ↦ λ q. rest e (differ e d q) ∙ sym (get_or-set_other (map f (range_with_len 0 32)) d e x None (differ e d q) ∙ get_or-map-range_with_len f 0 32 e e None (omega (arith, inside, length-map-range_with_len g 0 32)) (omega arith))
    ]) refl)

module _ (queue : ℕ) (first x : Option Link) (others : List (Option Link)) where
  pub write_first : (d : ℕ) → d < 32 → d ≡ queue → table_of queue x others ≡ slice_set (table_of queue first others) d x
  write_first d lt is = changed (link_in queue first others) (link_in queue x others) d x lt (at_first queue x others d is)
      (λ e ne. let beside : e ≢ queue = λ p. ne (p ∙ sym is) in grind (arith, nat_tests))

  pub write_other : (after : List (Option Link)) (d : ℕ) → d < 32 → d ≢ queue → after ≡ slice_set others (slot_of queue d) x → slice_index_or after (slot_of queue d) None ≡ x
      → table_of queue first after ≡ slice_set (table_of queue first others) d x
  write_other after d lt other is at = changed (link_in queue first others) (link_in queue first after) d x lt (at_other queue first after d other ∙ at)
      (λ e ne. unchanged e ne)
    where
      unchanged : (e : ℕ) → e ≢ d → link_in queue first after e ≡ link_in queue first others e
      unchanged e ne = (elim (e == queue) as (λ b. (e == queue) ≡ b → link_in queue first after e ≡ link_in queue first others e) [
        | true ↦ λ q. at_first queue first after e (same e queue q) ∙ sym (at_first queue first others e (same e queue q))
        | false ↦ λ q. at_other queue first after e (differ e queue q) ∙ ap (λ l. slice_index_or l (slot_of queue e) None) is
            ∙ get_or-set_other others (slot_of queue d) (slot_of queue e) x None (slots_differ queue d e other (differ e queue q) ne) ∙ sym (at_other queue first others e (differ e queue q))
      ]) refl

-- the table of a node that stands alone in its chains
module _ (queue mask : ℕ) (first : Option Link) (others : List (Option Link)) where
  pub alone_in_all : first ≡ new_link (stands queue mask) None → ((d : ℕ) → d < 32 → d ≢ queue → slice_index_or others (slot_of queue d) None ≡ new_link (stands d mask) None)
      → (d : ℕ) → d < 32 → slice_index_or (table_of queue first others) d None ≡ new_link (stands d mask) None
  alone_in_all in_first rest d lt = (elim (d == queue) as (λ b. (d == queue) ≡ b → slice_index_or (table_of queue first others) d None ≡ new_link (stands d mask) None) [
    | true ↦ λ q. read_first queue first others d lt (same d queue q) ∙ in_first ∙ sym (ap (λ k. new_link (stands k mask) None) (same d queue q))
    | false ↦ λ q. read_other queue first others d lt (differ d queue q) ∙ rest d lt (differ d queue q)
  ]) refl

-- a mask of one queue stands in no other
pub in_no_other : (queue mask d : ℕ) → without queue mask ≡ 0 → d ≢ queue → new_link (stands d mask) None ≡ None
in_no_other queue mask d none other =
    let bit : bit_at mask d ≡ 0 = sym (bit_at-without_other mask queue d other) ∙ ap (λ m. bit_at m d) none ∙ bit_at-zero d in
    ap (λ b. new_link (b == 1) None) bit

-- the mask of a row that has one bit at most
pub only_bit : (queue mask : ℕ) → without queue mask ≡ 0 → mask ≡ (if stands queue mask then 2 ^ queue else 0)
only_bit queue mask none = (elim (stands queue mask) as (λ b. stands queue mask ≡ b → cond b (mask - 2 ^ queue) mask ≡ 0 → mask ≡ cond b (2 ^ queue) 0) [
  | true ↦ λ q rest. elim (cases_lt mask (2 ^ queue)) [
    | inl less ↦ let bit : bit_at mask queue ≡ 0 = bit_at_above mask queue queue less (omega arith) in let wrong : true ≡ false = sym q ∙ ap (λ b. b == 1) bit in cc
    | inr more ↦ omega (arith, rest, more)
  ]
  | false ↦ λ q rest. rest
]) refl none

-- a mask of one bit without it
none_left : (queue : ℕ) → without queue (2 ^ queue) ≡ 0
none_left queue = rw (bit_at-pow_same queue) (omega arith)

pub seated : (s : LinkKind) (ends : Neighbours) → is_some (link_of s ends) ≡ is_seated s
seated Absent ends = refl
seated Alone ends = refl
seated First ends = refl
seated Middle ends = refl
seated Last ends = refl

-- the mask of a row whose first queue gets a link, or loses it
pub mask_first : (link : Option Link) (parts : HeadParts) (d : ℕ) → d ≡ (queue_seat_of parts).queue → is_some (link_of (queue_seat_of parts).seat (queue_ends_of parts)) ≡ true → mask_with link parts ≡ mask_after d (is_some link) (mask_of parts)
mask_first link (OneQueue first number ends) d is there =
    let sits : is_seated first.seat ≡ true = sym (seated first.seat ends) ∙ there in
    let left : without d (2 ^ first.queue) ≡ 0 = ap (λ q. without q (2 ^ first.queue)) is ∙ none_left first.queue in
    rw sits (elim (is_some link) as (λ b. cond b (2 ^ first.queue) 0 ≡ cond b (2 ^ first.queue) (without d (2 ^ first.queue))) [ true ↦ refl | false ↦ sym left ])
mask_first link (Several first number block) d is there = ap (λ q. mask_after q (is_some link) block.value.mask) (sym is)
